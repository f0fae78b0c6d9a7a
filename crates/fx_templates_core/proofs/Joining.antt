-- Code that is appended in two steps.
use Rattle.std.proofs.Common.{◌≡◌, List, ◌++◌, ap, ◌∙◌, append_assoc}

pub joined : {A : Type 0} (old mid new a b : List A) → mid ≡ old ++ a → new ≡ mid ++ b → new ≡ old ++ (a ++ b)
joined old mid new a b first second = second ∙ ap (λ z. z ++ b) first ∙ append_assoc old a b
