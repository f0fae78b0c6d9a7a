use Rattle.fx_c_types.specs.ProgramView.{bodies_tree}
use Rattle.fx_c_types.proofs.Turns.{at_gives}
use Rattle.fx_c_types.proofs.program.body_at.Goals as goal

pub returns : goal.returns
returns c = rw c.at_declaration.ensures (at_gives (λ (u : Unit {0}). bodies_tree c.body_of.new.bodies) c.args.number c.body_of.result _ c.body_of.ensures)
