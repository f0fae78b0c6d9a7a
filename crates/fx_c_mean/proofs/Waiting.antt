-- A run whose step waits for the console.
use Rattle.std.proofs.Common.{◌≡◌, List, Option, Some, None, MatchOption, refl, ap, ◌∙◌}
use Rattle.fx_c_mean_blocks.specs.declared.block.Object.{Object}
use Rattle.fx_c_mean_model.specs.declared.end.End.{End}
use Rattle.fx_c_mean_model.specs.declared.end.End.TheVariants as end
use Rattle.fx_c_mean.specs.declared.runner.Walk.TheVariants as walk
use Rattle.fx_c_mean.specs.Walks.{Run, walk_of, MakesStep, Walked, Waits}

no_end : (m : List Object) (e : End) → walk.Input ≡ walk_of m e → ⊥
no_end m (end.Exit v) e = cc
no_end m (end.Denied compartment object offset write) e = cc
no_end m (end.StackFull thread stack) e = cc
no_end m end.Divide e = cc
no_end m end.BadThread e = cc
no_end m end.ThreadsFull e = cc
no_end m end.Undefined e = cc

-- after a step that answers Input, `give` may be called
pub waits : (before after : Run) → Walked before walk.Input after → Waits after
waits before after h = by before.finish refl h
  where
    by : (o : Option End) → before.finish ≡ o → MatchOption o (MakesStep before walk.Input after) (λ e. (walk.Input ≡ walk_of before.state.memory e) × (after ≡ before)) → Waits after
    by None is w = record {
      going = ap (λ (r : Run). r.finish) w.1 ∙ is;
      asks = (w.0.0, ap (λ (r : Run). r.state.spot) w.1 ∙ w.0.1);
    }
    by (Some e) is w = absurd (no_end before.state.memory e w.0)
