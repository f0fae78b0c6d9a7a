-- Where the stacks of an image lie (this project's own layout).
use Rattle.std.specs.Prelude.{ℕ, ◌+◌, ◌-◌, ◌*◌, Bool, true, false, ◌&&◌, length, if◌then◌else◌}
use Rattle.fx_config.specs.declared.configuration.Config.{Config}
use Rattle.fx_config.specs.declared.configuration.Mechanism.{Mechanism}
use Rattle.fx_config.specs.declared.configuration.Mechanism.TheVariants.{Call, Light, Full, Ept}
use Rattle.fx_shadow.specs.declared.stacks.Range.{Range}

-- whether each compartment has stacks of its own, each with a high half that all compartments may use
abbrev pub has_halves : Mechanism → Bool
has_halves Call = false
has_halves Light = false
has_halves Full = true
has_halves Ept = true

-- the bytes of a stack, or of each of its halves
abbrev pub stack_size : Config → ℕ
stack_size k = 4096 * k.stack_pages

-- where the low half of stack 0 starts
abbrev pub first_stack : ℕ
first_stack = 0x2000_1000

-- from the start of one stack's low half to that of the next: two halves and two unmapped pages
abbrev pub stack_span : Config → ℕ
stack_span k = 2 * stack_size k + 0x2000

-- the number of the stack on which a compartment runs in a thread
abbrev pub stack_number : Config → ℕ → ℕ → ℕ
stack_number k thread compartment = if has_halves k.mechanism then thread * length k.compartments + compartment else thread

-- where the low half of a compartment's stack in a thread starts
abbrev pub stack_low : Config → ℕ → ℕ → ℕ
stack_low k thread compartment = first_stack + stack_number k thread compartment * stack_span k

abbrev pub stack_of : Config → ℕ → ℕ → Range
stack_of k thread compartment = record { low = stack_low k thread compartment; size = stack_size k }

-- The frame pointer of a frame that is entered with so many bytes of its stack in use: below the
-- runtime's 32 bytes at the top of the low half, the return address and the saved frame pointer.
abbrev pub frame_pointer : Config → ℕ → ℕ → ℕ → ℕ
frame_pointer k thread compartment in_use = stack_low k thread compartment + stack_size k - 48 - in_use

-- where a parameter or a local stands; a shared one has its place in the high half
abbrev pub local_address : Config → (thread compartment in_use below : ℕ) → Bool → ℕ
local_address k thread compartment in_use below shared =
    frame_pointer k thread compartment in_use - below + (if shared && has_halves k.mechanism then stack_size k else 0)
