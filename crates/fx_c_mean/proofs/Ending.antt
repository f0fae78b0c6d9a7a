-- A step that ended the run answers that end.
use Rattle.std.proofs.Common.{◌≡◌, List, refl, sym, ap, subst}
use Rattle.fx_c_mean_blocks.specs.declared.block.Object.{Object}
use Rattle.fx_c_mean_blocks.specs.Blocks.{declared_at}
use Rattle.fx_c_mean_model.specs.declared.end.End.{End}
use Rattle.fx_c_mean_model.specs.declared.end.End.TheVariants as end
use Rattle.fx_c_mean_acts.specs.Cores.{Keeps}
use Rattle.fx_c_mean.specs.declared.runner.Walk.{Walk}
use Rattle.fx_c_mean.specs.declared.runner.Walk.TheVariants as walk
use Rattle.fx_c_mean.specs.Walks.{Run, walk_of, Finishes, MakesStep}

-- the declaration of a denial's object is told from memory before it as from memory after it
pub told_alike : (e : End) (before after : List Object) → Keeps e before after → walk_of after e ≡ walk_of before e
told_alike (end.Exit v) before after kept = refl
told_alike (end.Denied compartment object offset write) before after kept = ap (λ (m : List Object). walk.Denied compartment (declared_at m object) offset write) (kept compartment object offset write refl)
told_alike (end.StackFull thread stack) before after kept = refl
told_alike end.Divide before after kept = refl
told_alike end.BadThread before after kept = refl
told_alike end.ThreadsFull before after kept = refl
told_alike end.Undefined before after kept = refl

finishing : (before after : Run) (m : List Object) (e : End) → Finishes before (walk_of m e) after → MakesStep before (walk_of m e) after
finishing before after m (end.Exit v) h = h
finishing before after m (end.Denied compartment object offset write) h = h
finishing before after m (end.StackFull thread stack) h = h
finishing before after m end.Divide h = h
finishing before after m end.BadThread h = h
finishing before after m end.ThreadsFull h = h
finishing before after m end.Undefined h = h

pub finished : (before after : Run) (m : List Object) (e : End) (said : Walk) → said ≡ walk_of m e → Finishes before said after → MakesStep before said after
finished before after m e said is h = subst (λ (w : Walk). MakesStep before w after) (sym is) (finishing before after m e (subst (λ (w : Walk). Finishes before w after) is h))
