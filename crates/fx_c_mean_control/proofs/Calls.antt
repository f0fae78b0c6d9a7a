-- Where calls begin, and where callers wait.
use Rattle.std.proofs.Common.{◌≡◌, ℕ, Bool, List, [], ◌∷◌, ◌++◌, drop, Some, None, refl, ap, subst}
use Rattle.std.specs.Prelude.{slice_get}
use Rattle.fx_c_ast.specs.CheckedTrees.{TyTree, TExprTrees, NoTExprs, MoreTExprs, ECall, EGate}
use Rattle.fx_c_mean_blocks.specs.declared.value.Value.{Value}
use Rattle.fx_c_mean_model.specs.States as states
use Rattle.fx_c_mean_model.specs.States.{Does, reach, follow, give}
use Rattle.fx_c_mean_control.specs.declared.frames.Call.{Call}
use Rattle.fx_c_mean_control.specs.declared.frames.Frame.{Frame}
use Rattle.fx_c_mean_control.specs.declared.frames.Frame.TheVariants as frame
use Rattle.fx_c_mean_control.specs.Views.{frame_of, frames_of, called_with, argued}

pub calls : (ty : TyTree) (f : ℕ) (all : TExprTrees) (rest : List states.Frame) → reach (ECall ty f all) rest ≡ called_with f states.Plainly all rest
calls ty f NoTExprs rest = refl
calls ty f (MoreTExprs e more) rest = refl

pub gates : (ty : TyTree) (f : ℕ) (all : TExprTrees) (rest : List states.Frame) → reach (EGate ty f all) rest ≡ called_with f states.ByGate all rest
gates ty f NoTExprs rest = refl
gates ty f (MoreTExprs e more) rest = refl

waits : (f : Frame) (fs : List Frame) (call : Call) (crosses : Bool) → frame.Caller call crosses ≡ f → Does states.FallOff (frames_of (f ∷ fs)) ≡ follow (frames_of (f ∷ fs))
waits f fs call crosses e = subst (λ x. Does states.FallOff (frames_of (x ∷ fs)) ≡ follow (frames_of (x ∷ fs))) e refl

-- a function whose caller waits falls off its end
pub falls : (fs : List Frame) (call : Call) (crosses : Bool) → slice_get fs 0 ≡ Some (frame.Caller call crosses) → Does states.FallOff (frames_of fs) ≡ follow (frames_of fs)
falls [] call crosses e = cc
falls (f ∷ fs) call crosses e = waits f fs call crosses (cc)

-- a thread's first function falls off its end
pub falls_last : (fs : List Frame) → slice_get fs 0 ≡ None → Does states.FallOff (frames_of fs) ≡ follow (frames_of fs)
falls_last [] e = refl
falls_last (f ∷ fs) e = cc

-- without frames a value leads nowhere
pub stuck : (fs : List Frame) (v : Value) → slice_get fs 0 ≡ None → Does states.Stuck (frames_of fs) ≡ give v (frames_of fs)
stuck [] v e = refl
stuck (f ∷ fs) v e = cc

-- the top frame and those below it
pub topped : (fs : List Frame) (f : Frame) → slice_get fs 0 ≡ Some f → frames_of fs ≡ frame_of f ∷ frames_of (drop 1 fs)
topped [] f e = cc
topped (g ∷ fs) f e = let h : g ≡ f = cc in ap (λ x. frame_of x ∷ frames_of fs) h

-- a value of an argument
pub given : (f : ℕ) (how : states.Way) (before : List Value) (v : Value) (more : TExprTrees) (rest : List states.Frame) → argued f how (before ++ v ∷ []) more rest ≡ give v (states.Arguments f how before more ∷ rest)
given f how before v NoTExprs rest = refl
given f how before v (MoreTExprs e more) rest = refl
