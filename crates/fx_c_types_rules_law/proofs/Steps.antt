-- Answers that name a declaration.
use Rattle.std.proofs.Common.{◌≡◌, ℕ, Result, Ok, Err, ap, ◌∙◌}
use Rattle.fx_c_types_rules.specs.declared.fault.Fault.TheVariants as fault
use Rattle.fx_c_types_rules.specs.Checks.{Checked}
use Rattle.fx_c_types.specs.declared.fault.TypeError.{TypeError}
use Rattle.fx_c_types.specs.Programs.{at_declaration, ◌>>>◌}
use Rattle.fx_c_types_rules_law.proofs.Ends.{Ends, answered, refused}

pub then_ends : {A B : Type 0} {P : A → Type 0} {Q : B → Type 0} (r : Result A TypeError) (f : A → Result B TypeError) → Ends P r → ((x : A) → P x → Ends Q (f x)) → Ends Q (r >>> f)
then_ends (Ok x) f (answered h) k = k x h
then_ends (Err e) f h k = refused

pub at_ends : {A : Type 0} {P : A → Type 0} (n : ℕ) (r : Checked A) → Ends P r → Ends P (at_declaration n r)
at_ends n (Ok x) (answered h) = answered h
at_ends n (Err (fault.Rule kind)) h = refused
at_ends n (Err fault.OutOfMemory) h = refused

pub then_ok : {A B : Type 0} (r : Result A TypeError) (f : A → Result B TypeError) (x : A) (y : Result B TypeError) → r ≡ Ok x → f x ≡ y → (r >>> f) ≡ y
then_ok r f x y h k = ap (λ r. r >>> f) h ∙ k

pub at_ok : {A : Type 0} (n : ℕ) (r : Checked A) (x : A) → r ≡ Ok x → at_declaration n r ≡ Ok x
at_ok n r x h = ap (at_declaration n) h
