-- Code that is appended in three or four steps.
use Rattle.std.proofs.Common.{◌≡◌, List, ◌++◌, ap, ◌∙◌, append_assoc}
use Rattle.fx_templates_core.proofs.Joining.{joined}

pub joined3 : {A : Type 0} (old one two new a b c : List A) → one ≡ old ++ a → two ≡ one ++ b → new ≡ two ++ c → new ≡ old ++ (a ++ (b ++ c))
joined3 old one two new a b c first second third =
    joined old two new (a ++ b) c (joined old one two a b first second) third ∙ ap (λ z. old ++ z) (append_assoc a b c)

pub joined4 : {A : Type 0} (old one two three new a b c d : List A) → one ≡ old ++ a → two ≡ one ++ b → three ≡ two ++ c → new ≡ three ++ d → new ≡ old ++ (a ++ (b ++ (c ++ d)))
joined4 old one two three new a b c d first second third fourth =
    joined3 old two three new (a ++ b) c d (joined old one two a b first second) third fourth ∙ ap (λ z. old ++ z) (append_assoc a b (c ++ d))
