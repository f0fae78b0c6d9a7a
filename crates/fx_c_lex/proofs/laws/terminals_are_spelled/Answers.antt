use Rattle.fx_c_lex.proofs.Terminals.{keywords_are_spelled, signs_are_spelled}
use Rattle.fx_c_lex.proofs.laws.terminals_are_spelled.Goals as goal

pub returns-clause-keywords : goal.returns-clause-keywords
returns-clause-keywords c = keywords_are_spelled

pub returns-clause-signs : goal.returns-clause-signs
returns-clause-signs c = signs_are_spelled
