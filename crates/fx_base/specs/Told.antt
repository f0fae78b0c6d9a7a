use Rattle.std.specs.Prelude.{Option, Some, None}

-- What an object holds before and after a call, where it tells it: the two are related so. An object that
-- doesn't tell what it holds goes on not telling it, and one that does goes on telling it.
abbrev pub Told : {A : Type 0} → (A → A → Type 0) → Option A → Option A → Type 0
Told R None None = Unit {0}
Told R None (Some b) = ⊥
Told R (Some a) None = ⊥
Told R (Some a) (Some b) = R a b
