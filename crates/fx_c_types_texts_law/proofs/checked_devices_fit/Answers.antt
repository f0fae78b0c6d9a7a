use Rattle.fx_c_types_texts_law.proofs.Devices.{devices_fit}
use Rattle.fx_c_types_texts_law.proofs.checked_devices_fit.Goals as goal

pub returns : goal.returns
returns c = devices_fit
