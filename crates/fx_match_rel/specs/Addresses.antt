-- Where the objects of a program stand in the machine's memory, for good (this project's own layout).
use Rattle.std.specs.Prelude.{ℕ, ◌+◌, ◌-◌, ◌*◌, Bool, ◌&&◌, List, length, map, take, slice_index, if◌then◌else◌}
use Rattle.fx_c_ast.specs.declared.checked.TProgram.{TProgram}
use Rattle.fx_c_ast.specs.CheckedTrees.{struct_types}
use Rattle.fx_config.specs.declared.configuration.Config.{Config}
use Rattle.fx_sections.specs.declared.placement.PlacedSection.{PlacedSection}
use Rattle.fx_sections.specs.declared.placement.Placement.{Placement}
use Rattle.fx_shadow.specs.Stacks.{has_halves, first_stack}
use Rattle.fx_match_rel.specs.declared.addresses.Addresses.{Addresses}
use Rattle.fx_match_rel.specs.Frames.{table_of}

-- The runtime's object of each compartment stands at the beginning of its private section, which is the
-- section of its number.
abbrev pub runtime_addresses : List PlacedSection → List ℕ
runtime_addresses sections = map (λ (s : PlacedSection). 4096 * s.page) sections

abbrev pub addresses_of : TProgram → Placement → Config → Addresses
addresses_of p at k = record {
  globals = at.globals;
  literals = at.literals;
  runtime = runtime_addresses (take (length k.compartments) at.sections);
  frames = map (table_of (struct_types p.structs)) p.functions;
  mechanism = k.mechanism;
  stack_pages = k.stack_pages;
  compartments = length k.compartments;
}

-- the bytes of a stack, or of each of its halves
abbrev pub stack_size : Addresses → ℕ
stack_size a = 4096 * a.stack_pages

-- from the start of one stack's low half to that of the next: two halves and two unmapped pages
abbrev pub stack_span : Addresses → ℕ
stack_span a = 2 * stack_size a + 0x2000

-- the number of the stack on which a compartment runs in a thread
abbrev pub stack_number : Addresses → ℕ → ℕ → ℕ
stack_number a thread compartment = if has_halves a.mechanism then thread * a.compartments + compartment else thread

-- where the low half of a compartment's stack in a thread starts
abbrev pub stack_low : Addresses → ℕ → ℕ → ℕ
stack_low a thread compartment = first_stack + stack_number a thread compartment * stack_span a

-- how far above its place in the frame a local stands
abbrev pub lift : Addresses → Bool → ℕ
lift a shared = if shared && has_halves a.mechanism then stack_size a else 0

-- Where a local stands whose frame is entered with so many bytes of its stack in use: the frame pointer is
-- below the runtime's 32 bytes at the top of the low half, the return address and the saved frame pointer.
abbrev pub local_address : Addresses → (thread compartment in_use below : ℕ) → Bool → ℕ
local_address a thread compartment in_use below shared =
    stack_low a thread compartment + stack_size a - 48 - in_use - below + lift a shared
