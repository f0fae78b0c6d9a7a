-- What holds of a check's answer wherever it has one.
use Rattle.std.proofs.Common.{◌≡◌, ℕ, Bool, true, false, refl, Result, Ok, Err}
use Rattle.fx_c_types_rules.specs.declared.fault.TypeKind.{TypeKind}
use Rattle.fx_c_types_rules.specs.declared.fault.Fault.TheVariants as fault
use Rattle.fx_c_types_rules.specs.Checks.{Checked, ◌>>=◌, demand}
use Rattle.fx_c_types.specs.declared.fault.TypeError.{TypeError}
use Rattle.fx_c_types.specs.Programs.{at_declaration, ◌>>>◌}

abbrev pub Ends : {A E : Type 0} → (A → Type 0) → Result A E → Type 0
Ends P (Ok x) = P x
Ends P (Err e) = Unit {0}

pub bind_ends : {A B : Type 0} (P : A → Type 0) (Q : B → Type 0) (r : Checked A) (f : A → Checked B) → Ends P r → ((x : A) → P x → Ends Q (f x)) → Ends Q (r >>= f)
bind_ends P Q (Ok x) f h k = k x h
bind_ends P Q (Err e) f h k = tt

pub then_ends : {A B : Type 0} (P : A → Type 0) (Q : B → Type 0) (r : Result A TypeError) (f : A → Result B TypeError) → Ends P r → ((x : A) → P x → Ends Q (f x)) → Ends Q (r >>> f)
then_ends P Q (Ok x) f h k = k x h
then_ends P Q (Err e) f h k = tt

pub demand_ends : {A : Type 0} (Q : A → Type 0) (test : Bool) (kind : TypeKind) (r : Checked A) → (test ≡ true → Ends Q r) → Ends Q (demand test kind r)
demand_ends Q true kind r k = k refl
demand_ends Q false kind r k = tt

pub at_ends : {A : Type 0} (P : A → Type 0) (n : ℕ) (r : Checked A) → Ends P r → Ends P (at_declaration n r)
at_ends P n (Ok x) h = h
at_ends P n (Err (fault.Rule kind)) h = tt
at_ends P n (Err fault.OutOfMemory) h = tt

pub weaker : {A E : Type 0} (P Q : A → Type 0) (r : Result A E) → Ends P r → ((x : A) → P x → Q x) → Ends Q r
weaker P Q (Ok x) h k = k x h
weaker P Q (Err e) h k = tt

pub both_end : {A E : Type 0} (P Q : A → Type 0) (r : Result A E) → Ends P r → Ends Q r → Ends (λ x. P x × Q x) r
both_end P Q (Ok x) h k = (h, k)
both_end P Q (Err e) h k = tt
