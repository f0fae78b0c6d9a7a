use Rattle.std.proofs.Common.{length}
use Rattle.fx_c_types.specs.ProgramView.{declarations}
use Rattle.fx_c_types_law.proofs.Facts.{accepted_is, few_params, main_there, main_starts}
use Rattle.fx_c_types_law.proofs.checked_programs_start.Goals as goal

pub returns : goal.returns
returns c = λ files p is.
    let count = length (declarations files) in
    let has = accepted_is files p is in
    (few_params p count has, main_there p count has, main_starts p count has)
