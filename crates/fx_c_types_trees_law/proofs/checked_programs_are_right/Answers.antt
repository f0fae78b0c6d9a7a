use Rattle.fx_c_types_trees_law.proofs.Facts.{right_program, bodies_are_right}
use Rattle.fx_c_types_trees_law.proofs.checked_programs_are_right.Goals as goal

pub returns : goal.returns
returns c = λ files p is fit. bodies_are_right p (right_program files p is) fit
