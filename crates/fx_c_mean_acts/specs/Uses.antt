-- What callers that wait take of a stack, where it is known.
use Rattle.std.specs.Prelude.{◌≡◌, ℕ, List, ◌∷◌, Bool, Option, None, IfSome, ⊤}
use Rattle.std.specs.Option.{MatchOption-prop}
use Rattle.std.specs.Coded.{Unit-prop, Coded-set, coded_ℕ}
use Rattle.fx_c_mean_model.specs.declared.rights.Rights.{Rights}
use Rattle.fx_c_mean_model.specs.Programs.{Program}
use Rattle.fx_c_mean_model.specs.States.{Act, Enter, Leave, FallOff, Switch, Call, Frame, Caller, Spot, Does, Stuck, unwind}
use Rattle.fx_c_mean_model.specs.Steps.{use_of, waiting_for}
use Rattle.fx_c_mean_acts.specs.declared.uses.StackUse.{StackUse}

-- what the callers that wait take of a stack; where no step follows it is what is asked
abbrev pub use_at : Program → Rights → ℕ → ℕ → Spot → ℕ
use_at p r stack n (Does Stuck rest) = n
use_at p r stack n (Does act rest) = use_of p r stack rest

abbrev pub HasUse : Program → Rights → ℕ → ℕ → Spot → Type 0
HasUse p r stack n spot = use_at p r stack n spot ≡ n

-- what is known of a stack is so at a spot, or with these frames
abbrev pub IsKnownAt : Program → Rights → Option StackUse → Spot → Type 0
IsKnownAt p r known spot = IfSome known (λ u. HasUse p r u.stack u.bytes spot)

pub IsKnownAt-prop : (p : Program) (r : Rights) (known : Option StackUse) (spot : Spot) → IsProp (IsKnownAt p r known spot)
IsKnownAt-prop p r known spot = MatchOption-prop known ⊤ (λ u. HasUse p r u.stack u.bytes spot) Unit-prop (λ u. Coded-set coded_ℕ (use_at p r u.stack u.bytes spot) u.bytes)

abbrev pub IsKnown : Program → Rights → Option StackUse → List Frame → Type 0
IsKnown p r known rest = IfSome known (λ u. use_of p r u.stack rest ≡ u.bytes)

-- what is known once the nearest caller goes on
abbrev pub IsKnownBelow : Program → Rights → Option StackUse → List Frame → Type 0
IsKnownBelow p r known rest = IfSome known (λ u. (call : Call) × (crosses : Bool) × (below : List Frame) × (unwind rest ≡ Caller call crosses ∷ below) × (use_of p r u.stack below ≡ u.bytes))

-- what is known after a step: a call lets the caller wait, a return wakes it, and another thread has other callers
abbrev pub IsKnownAfter : Program → Rights → Call → Act → List Frame → Option StackUse → Type 0
IsKnownAfter p r call (Enter f way values) rest known = IsKnown p r known (waiting_for p r way f call rest)
IsKnownAfter p r call (Leave v) rest known = IsKnownBelow p r known rest
IsKnownAfter p r call FallOff rest known = IsKnownBelow p r known rest
IsKnownAfter p r call (Switch v) rest known = known ≡ None
IsKnownAfter p r call _ rest known = IsKnown p r known rest
