use Rattle.fx_c_types.specs.ProgramView.{placed_trees}
use Rattle.fx_c_types.proofs.Turns.{next_placed}
use Rattle.fx_c_types.proofs.program.declarations.Goals as goal

pub loop-decl-preserved : goal.loop-decl-preserved
loop-decl-preserved c =
    next_placed c.file-item.result.library c.as_slice-decl-items.result.now c.loop-decl.decl-index c.decl-item.result (placed_trees c.loop-decl.all.items) (placed_trees c.push_placed.new.all.items) _ c.loop-decl-test.true c.decl-item.is c.in_ok-push_placed.ensures c.loop-decl.invariant
