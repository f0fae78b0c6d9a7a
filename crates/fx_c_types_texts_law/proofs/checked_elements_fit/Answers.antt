use Rattle.fx_c_types_texts_law.proofs.Elements.{elements_fit}
use Rattle.fx_c_types_texts_law.proofs.checked_elements_fit.Goals as goal

pub returns : goal.returns
returns c = elements_fit
