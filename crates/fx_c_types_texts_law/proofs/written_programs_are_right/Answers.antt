use Rattle.fx_c_types_texts_law.proofs.Numbers.{bodies_right}
use Rattle.fx_c_types_texts_law.proofs.written_programs_are_right.Goals as goal

pub returns : goal.returns
returns c = bodies_right
