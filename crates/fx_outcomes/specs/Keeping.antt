-- A run of a machine keeps to a run of a source.
use Rattle.std.specs.Prelude.{ℕ, ◌≡◌, ◌<◌, ◌≤◌, ◌*◌, ◌⊎◌, ◌++◌, List, length, take, Option, Some}
use Rattle.fx_outcomes.specs.Runs.{Outcome}
use Rattle.fx_outcomes.specs.Rounds.{HasRounds}

abbrev pub IsPrefix : {O : Type 0} → List O → List O → Type 0
IsPrefix {O} xs ys = (more : List O) × (ys ≡ xs ++ more)

-- The end is undefined.
abbrev pub Lost : {E : Type 0} → (E → Type 0) → Option E → Type 0
Lost {E} Undefined x = (e : E) × (x ≡ Some e) × Undefined e

-- The source's outcome and the machine's have the same operations, and an end and a stop that
-- correspond.
abbrev pub Alike : {O E T : Type 0} → (E → T → Type 0) → Outcome O E → Outcome O T → Type 0
Alike {O} {E} {T} Corresponds x y = (y.made ≡ x.made) × (e : E) × (t : T) × (x.finish ≡ Some e) × (y.finish ≡ Some t) × Corresponds e t

-- The same outcome, or undefined where the other goes on.
abbrev pub Refines : {O E : Type 0} → (E → Type 0) → Outcome O E → Outcome O E → Type 0
Refines {O} {E} Undefined a b = (a ≡ b) ⊎ (Lost Undefined a.finish × IsPrefix a.made b.made)

-- A machine of so many processors keeps to a source: `source` has the outcome at each budget,
-- `machine` the one by each schedule.
pub record Keeps (Operation End Stop : Type 0) (Undefined : End → Type 0) (Corresponds : End → Stop → Type 0) (processors : ℕ) (source : ℕ → Outcome Operation End) (machine : List ℕ → Outcome Operation Stop) : Type 0 where
  -- Each prefix of the operations made is one of the source's, or the source was undefined before.
  pub prefix : (us : List ℕ) (i : ℕ) → i ≤ length (machine us).made
      → (k : ℕ)
      × ((take i (machine us).made ≡ take i (source k).made) ⊎
      (Lost Undefined (source k).finish × (length (source k).made < i)))
  -- A stop comes with the source's operations and the end that corresponds, or the source's end is
  -- undefined.
  pub stops : (us : List ℕ) (t : Stop) → (machine us).finish ≡ Some t → (k : ℕ) × (Alike Corresponds (source k) (machine us) ⊎ Lost Undefined (source k).finish)
  -- Within 256 rounds for each unit of cost the machine has made what the source makes, and has
  -- stopped where it ends.
  pub rounds : (us : List ℕ) (k : ℕ) → HasRounds processors (256 * k) us
      → (Lost Undefined (source k).finish → ⊥)
      → IsPrefix (source k).made (machine us).made
      × ((e : End) → (source k).finish ≡ Some e → Alike Corresponds (source k) (machine us))
