-- What the places of slots and stacks mean together.
use Rattle.std.specs.Prelude.{◌≡◌, ◌≢◌, ◌⊎◌, ℕ, ◌+◌, ◌-◌, ◌*◌, ◌%◌, ◌<◌, ◌≤◌, Bool, true, List, length, HoldsAt}
use Rattle.fx_config.specs.declared.configuration.Config.{Config}
use Rattle.fx_c_ast.specs.declared.checked.TLocal.{TLocal}
use Rattle.fx_c_ast.specs.CheckedTrees.{TyTree, ty_tree}
use Rattle.fx_c_ast.specs.Layout.{layout_of}
use Rattle.fx_shadow.specs.Frames.{slots_of, slot_below}
use Rattle.fx_shadow.specs.Stacks.{has_halves, stack_size, stack_number, stack_low, frame_pointer, local_address}

-- a local ends at least 16 bytes below where the one declared before it begins
abbrev pub SlotsAreApart : Type 0
SlotsAreApart =
    (structs : List (List TyTree)) (locals : List TLocal) (i j : ℕ) → i < j → j < length locals
    → HoldsAt (λ (l : TLocal). slot_below structs locals i + (layout_of structs (ty_tree l.ty)).size + 16 ≤ slot_below structs locals j) locals j

-- a local ends at least 16 bytes below the frame pointer, and begins within the slots
abbrev pub SlotsAreInFrame : Type 0
SlotsAreInFrame =
    (structs : List (List TyTree)) (locals : List TLocal) (i : ℕ) → i < length locals
    → HoldsAt (λ (l : TLocal). (layout_of structs (ty_tree l.ty)).size + 16 ≤ slot_below structs locals i) locals i
    × (slot_below structs locals i ≤ slots_of structs locals)
    × (slot_below structs locals i % 16 ≡ 0)

-- two stacks of different numbers, both halves counted, have two unmapped pages between them
abbrev pub StacksAreApart : Type 0
StacksAreApart =
    (k : Config) (thread compartment other_thread other : ℕ)
    → stack_number k thread compartment ≢ stack_number k other_thread other
    → (stack_low k thread compartment + 2 * stack_size k + 0x2000 ≤ stack_low k other_thread other)
    ⊎ (stack_low k other_thread other + 2 * stack_size k + 0x2000 ≤ stack_low k thread compartment)

-- where compartments have stacks of their own, no two of them and no two threads share one
abbrev pub StacksHaveOneOwner : Type 0
StacksHaveOneOwner =
    (k : Config) (thread compartment other_thread other : ℕ) → has_halves k.mechanism ≡ true
    → compartment < length k.compartments → other < length k.compartments
    → stack_number k thread compartment ≡ stack_number k other_thread other
    → (thread ≡ other_thread) × (compartment ≡ other)

-- A slot of a frame that fits below the runtime's bytes lies in the low half, or, for a shared local
-- where stacks have halves, at the same place of the high half.
abbrev pub LocalsLieInHalves : Type 0
LocalsLieInHalves =
    (k : Config) (thread compartment in_use below size : ℕ) → size + 16 ≤ below → in_use + below + 48 ≤ stack_size k
    → (stack_low k thread compartment ≤ frame_pointer k thread compartment in_use - below)
    × (frame_pointer k thread compartment in_use - below + size + 64 ≤ stack_low k thread compartment + stack_size k)
    × (has_halves k.mechanism ≡ true → local_address k thread compartment in_use below true ≡ frame_pointer k thread compartment in_use - below + stack_size k)
