-- The kinds of refusals in the order of the table of type rules, and the first that holds.
use Rattle.std.specs.Prelude.{◌≡◌, Bool, List, [], ◌∷◌, Option, Some, None, Ok, Err, if◌then◌else◌}
use Rattle.fx_c_types_rules.specs.declared.fault.TypeKind.{TypeKind}
use Rattle.fx_c_types_rules.specs.declared.fault.TypeKind.TheVariants.{Twice, UnknownType, TooLarge}
use Rattle.fx_c_types_rules.specs.declared.fault.TypeKind.TheVariants.{TooManyParameters}
use Rattle.fx_c_types_rules.specs.declared.fault.TypeKind.TheVariants.{Initialiser, UnknownName}
use Rattle.fx_c_types_rules.specs.declared.fault.TypeKind.TheVariants.{NotInteger, NotPointer}
use Rattle.fx_c_types_rules.specs.declared.fault.TypeKind.TheVariants.{NotLvalue, Mismatch}
use Rattle.fx_c_types_rules.specs.declared.fault.TypeKind.TheVariants.{Arguments, ReturnType}
use Rattle.fx_c_types_rules.specs.declared.fault.TypeKind.TheVariants.{CrossCall, NotEntry}
use Rattle.fx_c_types_rules.specs.declared.fault.TypeKind.TheVariants.{BreakOutside, FrameTooLong}
use Rattle.fx_c_types_rules.specs.declared.fault.TypeKind.TheVariants.{NoMain}
use Rattle.fx_c_types_rules.specs.declared.fault.Fault.TheVariants.{Rule, OutOfMemory}
use Rattle.fx_c_types_rules.specs.Checks.{Checked}

-- all kinds, the earliest tried first
abbrev pub kinds : List TypeKind
kinds =
    Twice ∷ UnknownType ∷ TooLarge ∷ TooManyParameters ∷ Initialiser ∷ UnknownName ∷ NotInteger
    ∷ NotPointer ∷ NotLvalue ∷ Mismatch ∷ Arguments ∷ ReturnType ∷ CrossCall ∷ NotEntry
    ∷ BreakOutside ∷ FrameTooLong ∷ NoMain ∷ []

-- the first kind of a list whose rule is broken
abbrev pub first_broken : (TypeKind → Bool) → List TypeKind → Option TypeKind
first_broken breaks [] = None
first_broken breaks (k ∷ ks) = if breaks k then Some k else first_broken breaks ks

-- a check is refused for this kind, or passes where there is none
abbrev pub IsRefusedFor : {A : Type 0} → Checked A → Option TypeKind → Type 0
IsRefusedFor (Ok x) kind = kind ≡ None
IsRefusedFor (Err (Rule k)) kind = kind ≡ Some k
IsRefusedFor (Err OutOfMemory) kind = ⊥
