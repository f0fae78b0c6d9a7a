-- What holds of a check's answer wherever it has one.
use Rattle.std.proofs.Common.{◌≡◌, Bool, true, false, refl, ap, ◌∙◌, subst, Result, Ok, Err}
use Rattle.fx_c_types_rules.specs.declared.fault.TypeKind.{TypeKind}
use Rattle.fx_c_types_rules.specs.Checks.{Checked, ◌>>=◌, demand}

pub data Ends {A E : Type 0} (P : A → Type 0) : Result A E → Type 0 where
  answered : {x : A} → P x → Ends P (Ok x)
  refused : {e : E} → Ends P (Err e)

pub bind_ends : {A B : Type 0} {P : A → Type 0} {Q : B → Type 0} (r : Checked A) (f : A → Checked B) → Ends P r → ((x : A) → P x → Ends Q (f x)) → Ends Q (r >>= f)
bind_ends (Ok x) f (answered h) k = k x h
bind_ends (Err e) f h k = refused

pub demand_ends : {A : Type 0} {Q : A → Type 0} (test : Bool) (kind : TypeKind) (r : Checked A) → (test ≡ true → Ends Q r) → Ends Q (demand test kind r)
demand_ends true kind r k = k refl
demand_ends false kind r k = refused

pub map_ends : {A E : Type 0} {P Q : A → Type 0} (r : Result A E) → Ends P r → ((x : A) → P x → Q x) → Ends Q r
map_ends (Ok x) (answered h) k = answered (k x h)
map_ends (Err e) h k = refused

-- ---- answers, step by step

pub bind_ok : {A B : Type 0} (r : Checked A) (f : A → Checked B) (x : A) (y : Checked B) → r ≡ Ok x → f x ≡ y → (r >>= f) ≡ y
bind_ok r f x y h k = ap (λ r. r >>= f) h ∙ k

pub demand_ok : {A : Type 0} (test : Bool) (kind : TypeKind) (r y : Checked A) → test ≡ true → r ≡ y → demand test kind r ≡ y
demand_ok test kind r y h k = ap (λ b. demand b kind r) h ∙ k

-- a check has one answer
pub ok_is : {A E : Type 0} (y x : A) (r : Result A E) → r ≡ Ok y → r ≡ Ok x → y ≡ x
ok_is y x r h k = cc

-- what holds of answers holds of this one
pub of_answer : {A E : Type 0} {P : A → Type 0} (r : Result A E) (x : A) → Ends P r → r ≡ Ok x → P x
of_answer {P = P} (Ok y) x (answered h) is = subst P (ok_is y x (Ok y) refl is) h
of_answer (Err e) x h is = absurd cc
