use Rattle.fx_c_types_heads.specs.HeadsView.{heads_tree}
use Rattle.fx_c_types.proofs.Turns.{at_gives}
use Rattle.fx_c_types.proofs.program.add_at.Goals as goal

pub returns : goal.returns
returns c = rw c.at_declaration.ensures (at_gives (λ (u : Unit {0}). heads_tree c.add.new.heads) c.args.number c.add.result _ c.add.ensures)
