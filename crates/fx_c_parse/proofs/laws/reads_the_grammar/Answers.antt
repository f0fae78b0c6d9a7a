use Rattle.fx_c_parse.proofs.SoundUnits.{declaration_sound}
use Rattle.fx_c_parse.proofs.CompleteUnits.{declaration_complete, one_tree}
use Rattle.fx_c_parse.proofs.laws.reads_the_grammar.Goals as goal

pub returns-clause-sound : goal.returns-clause-sound
returns-clause-sound c = λ ws d rest e. declaration_sound ws (d, rest) e

pub returns-clause-complete : goal.returns-clause-complete
returns-clause-complete c = declaration_complete

pub returns-clause-one_tree : goal.returns-clause-one_tree
returns-clause-one_tree c = one_tree
