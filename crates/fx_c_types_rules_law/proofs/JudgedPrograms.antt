-- Both directions at once, and that programs are determined.
use Rattle.fx_c_types.specs.Programs.{well_typed}
use Rattle.fx_c_types.specs.ProgramView.{declarations}
use Rattle.fx_c_types_rules_law.proofs.Ends.{ok_is, of_answer}
use Rattle.fx_c_types_rules_law.specs.ProgramLaws.{ProgramsAreJudged, ProgramsAreDetermined}
use Rattle.fx_c_types_rules_law.proofs.ProgramRules.{program_is, program_holds}

pub programs : ProgramsAreJudged
programs files p = (λ h. program_holds h, λ is. of_answer (well_typed (declarations files)) p (program_is (declarations files)) is)

pub one_program : ProgramsAreDetermined
one_program files p q h k = ok_is p q (well_typed (declarations files)) (program_holds h) (program_holds k)
