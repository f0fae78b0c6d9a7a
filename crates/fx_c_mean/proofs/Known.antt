-- What is known of a stack stays known where a step that waited for a device gives its value.
use Rattle.std.proofs.Common.{◌≡◌, ℕ, List, Option, Some, None, subst}
use Rattle.fx_outcomes.specs.Runs.{Goes, Stops}
use Rattle.fx_c_mean_blocks.specs.declared.value.Value.{Value}
use Rattle.fx_c_mean_model.specs.declared.rights.Rights.{Rights}
use Rattle.fx_c_mean_model.specs.Programs.{Program}
use Rattle.fx_c_mean_model.specs.States.{Frame, Does, Ask, Tell}
use Rattle.fx_c_mean_model.specs.Steps.{State, Outcome, gives, use_of}
use Rattle.fx_c_mean_acts.specs.declared.state.Moved.{Moved}
use Rattle.fx_c_mean_acts.specs.declared.state.Moved.TheVariants as moved
use Rattle.fx_c_mean_acts.specs.declared.uses.StackUse.{StackUse}
use Rattle.fx_c_mean_acts.specs.Cores.{Comes}
use Rattle.fx_c_mean_acts.specs.Uses.{HasUse, IsKnownAt}
use Rattle.fx_c_mean_acts.proofs.Steady.{given}

abbrev After : Program → Rights → ℕ → ℕ → Outcome → Type 0
After p r k n (Goes made after) = HasUse p r k n after.spot
After p r k n (Stops made e) = Unit {0}

gave : (p : Program) (r : Rights) (k n : ℕ) (v : Value) (rest : List Frame) (s t : State) (m : Moved) → use_of p r k rest ≡ n → Comes (gives s rest v) m s t → m ≡ moved.Went → HasUse p r k n t.spot
gave p r k n v rest s t moved.Went h e d = subst (After p r k n) e (given p r k n v rest h)
gave p r k n v rest s t (moved.Stopped x) h e d = cc
gave p r k n v rest s t moved.OutOfMemory h e d = cc

-- a load was answered
pub loaded : (p : Program) (r : Rights) (o : Option StackUse) (device register : ℕ) (v : Value) (rest : List Frame) (s t : State) (m : Moved) → s.spot ≡ Does (Ask device register) rest → Comes (gives s rest v) m s t → m ≡ moved.Went → IsKnownAt p r o s.spot → IsKnownAt p r o t.spot
loaded p r None device register v rest s t m a e d k = tt
loaded p r (Some u) device register v rest s t m a e d k = gave p r u.stack u.bytes v rest s t m (subst (HasUse p r u.stack u.bytes) a k) e d

-- a store was made
pub stored : (p : Program) (r : Rights) (o : Option StackUse) (device register : ℕ) (w v : Value) (rest : List Frame) (s t : State) (m : Moved) → s.spot ≡ Does (Tell device register w) rest → Comes (gives s rest v) m s t → m ≡ moved.Went → IsKnownAt p r o s.spot → IsKnownAt p r o t.spot
stored p r None device register w v rest s t m a e d k = tt
stored p r (Some u) device register w v rest s t m a e d k = gave p r u.stack u.bytes v rest s t m (subst (HasUse p r u.stack u.bytes) a k) e d
