-- Checks that may refuse: the first refusal wins.
use Rattle.std.specs.Prelude.{◌≡◌, ◌≢◌, Bool, Result, Ok, Err, MatchResult, if◌then◌else◌}
use Rattle.fx_c_types_rules.specs.declared.fault.TypeKind.{TypeKind}
use Rattle.fx_c_types_rules.specs.declared.fault.Fault.{Fault}
use Rattle.fx_c_types_rules.specs.declared.fault.Fault.TheVariants.{Rule, OutOfMemory}

-- a value, or the rule that is violated
abbrev pub Checked : Type 0 → Type 0
Checked A = Result A Fault

infixl 10 ◌>>=◌
abbrev pub ◌>>=◌ : {A B : Type 0} → Checked A → (A → Checked B) → Checked B
Ok x >>= f = f x
Err e >>= f = Err e

abbrev pub refuse : {A : Type 0} → TypeKind → Checked A
refuse kind = Err (Rule kind)

-- refused for this rule unless the test passes
abbrev pub demand : {A : Type 0} → Bool → TypeKind → Checked A → Checked A
demand test kind r = if test then r else Err (Rule kind)

-- an answer that is this check, unless memory ran out
abbrev pub Gives : {A B : Type 0} → (A → B) → Result A Fault → Checked B → Type 0
Gives shown answer check = MatchResult answer (λ x. check ≡ Ok (shown x)) (λ e. e ≢ OutOfMemory → check ≡ Err e)
