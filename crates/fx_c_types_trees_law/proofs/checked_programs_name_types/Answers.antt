use Rattle.fx_c_types_trees_law.proofs.Facts.{right_program, globals_are_named, members_are_named}
use Rattle.fx_c_types_trees_law.proofs.checked_programs_name_types.Goals as goal

pub returns : goal.returns
returns c = λ files p is. (globals_are_named p (right_program files p is), members_are_named p (right_program files p is))
