use Rattle.std.proofs.Common.{length}
use Rattle.fx_c_types.specs.ProgramView.{declarations}
use Rattle.fx_c_types_law.proofs.Facts.{accepted_is, framed}
use Rattle.fx_c_types_law.proofs.checked_programs_have_frames.Goals as goal

pub returns : goal.returns
returns c = λ files p is. framed p (length (declarations files)) (accepted_is files p is)
