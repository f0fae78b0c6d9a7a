-- What the image has beside its code: compartments, sections, objects, literals, owners and starts.
use Rattle.std.specs.Prelude.{ℕ, zero, suc, ◌+◌, ◌-◌, ◌*◌, ◌==◌, nat_le, nat_lt, ◌&&◌}
use Rattle.std.specs.Prelude.{if◌then◌else◌, Bool, List, [], ◌∷◌, ◌++◌, codes, length, map}
use Rattle.std.specs.Prelude.{replicate, slice_index, slice_get, slice_index_or, Option, Some, None}
use Rattle.std.specs.List.{list_any}
use Rattle.fx_config.specs.declared.configuration.Config.{Config}
use Rattle.fx_config.specs.declared.configuration.Compartment.{Compartment}
use Rattle.fx_config.specs.declared.configuration.Mechanism.{Mechanism}
use Rattle.fx_config.specs.declared.configuration.Mechanism.TheVariants.{Call, Light, Full, Ept}
use Rattle.fx_c_ast.specs.declared.checked.TGlobal.{TGlobal}
use Rattle.fx_c_ast.specs.CheckedTrees.{TyTree}
use Rattle.fx_sections.specs.declared.placement.PlacedSection.{PlacedSection}
use Rattle.fx_sections.specs.Pairs.{is_keyed}
use Rattle.fx_sections.specs.Placement.{global_size}
use Rattle.fx_sections.specs.Initials.{used_bytes, initial_bytes}
use Rattle.fx_shadow.specs.Stacks.{has_halves, stack_low, stack_size}
use Rattle.fx_image.specs.Keys.{pkru_of}
use Rattle.fx_image.specs.Layout.{code_start}
use Rattle.fx_image.specs.declared.forms.Comp.{Comp}
use Rattle.fx_image.specs.declared.forms.Section.{Section}
use Rattle.fx_image.specs.declared.forms.Obj.{Obj}
use Rattle.fx_image.specs.declared.forms.Start.{Start}
use Rattle.fx_image.specs.declared.forms.Stub.{Stub}

-- call 0, light 1, full 2, ept 3
abbrev pub mechanism_number : Mechanism → ℕ
mechanism_number Call = 0
mechanism_number Light = 1
mechanism_number Full = 2
mechanism_number Ept = 3

abbrev pub section_of : PlacedSection → Section
section_of s =
    record { readers = s.readers; writers = s.writers; key = s.key; page = s.page; pages = s.pages }

-- the rights of a compartment: under protection keys those of its sections, else 0
abbrev pub rights : Mechanism → List Section → (scheduler c : ℕ) → ℕ
rights m sections scheduler c = if is_keyed m then pkru_of sections scheduler c else 0

-- the compartments from number c on, whose ranges begin at these places; each ends where the next begins
abbrev pub comps_from : Config → List Section → List ℕ → ℕ → List Compartment → List Comp
comps_from k sections starts c [] = []
comps_from k sections starts c (comp ∷ comps) =
    record {
      name = comp.name;
      start = slice_index starts c;
      len = slice_index starts (c + 1) - slice_index starts c;
      pkru = rights k.mechanism sections k.scheduler c;
    }
    ∷ comps_from k sections starts (c + 1) comps

-- the compartment's table, which begins its private section
abbrev pub table_object : (number : ℕ) → PlacedSection → List ℕ → Option Compartment → List Obj
table_object number s initial None = []
table_object number s initial (Some c) =
    record {
      name = codes ".rt." ++ c.name;
      section = number;
      address = 4096 * s.page;
      size = 4096;
      initial = used_bytes initial;
    }
    ∷ []

-- whether an address is in a section's pages
abbrev pub has_address : PlacedSection → ℕ → Bool
has_address s address =
    nat_le (4096 * s.page) address && nat_lt address (4096 * s.page + 4096 * s.pages)

abbrev pub global_object : List (List TyTree) → (number address : ℕ) → TGlobal → Obj
global_object structs number address g =
    record {
      name = g.name;
      section = number;
      address = address;
      size = global_size structs g;
      initial = initial_bytes (global_size structs g) g.init;
    }

-- the global of a number, where it lies in a section
abbrev pub global_in : List (List TyTree) → (number : ℕ) → PlacedSection → (address : ℕ) → TGlobal
    → List Obj
global_in structs number s address g =
    if has_address s address then global_object structs number address g ∷ [] else []

-- the globals from number i on that lie in a section, in program order
abbrev pub global_objects : List (List TyTree) → (number : ℕ) → PlacedSection → List ℕ → ℕ
    → List TGlobal → List Obj
global_objects structs number s addresses i [] = []
global_objects structs number s addresses i (g ∷ gs) =
    global_in structs number s (slice_index addresses i) g
    ++ global_objects structs number s addresses (i + 1) gs

-- the objects of a section
abbrev pub section_objects : List (List TyTree) → List Compartment → List (List ℕ) → List TGlobal
    → List ℕ → ℕ → PlacedSection → List Obj
section_objects structs comps initials globals addresses number s =
    table_object number s (slice_index_or initials number []) (slice_get comps number)
    ++ global_objects structs number s addresses 0 globals

-- the objects section after section, from the one of a number on
abbrev pub objects_from : List (List TyTree) → List Compartment → List (List ℕ) → List TGlobal
    → List ℕ → ℕ → List PlacedSection → List Obj
objects_from structs comps initials globals addresses number [] = []
objects_from structs comps initials globals addresses number (s ∷ sections) =
    section_objects structs comps initials globals addresses number s
    ++ objects_from structs comps initials globals addresses (number + 1) sections

-- the literals from number i on behind so many bytes of field 11, whose first byte stands at 600000
-- (hexadecimal), with zeros between them
abbrev pub literals_from : List ℕ → (i before : ℕ) → List (List ℕ) → List ℕ
literals_from addresses i before [] = []
literals_from addresses i before (l ∷ ls) =
    (replicate (slice_index addresses i - (0x60_0000 + before)) 0 ++ l)
    ++ literals_from addresses (i + 1)
    (before + (slice_index addresses i - (0x60_0000 + before)) + length l) ls

-- whether a compartment lists a device
abbrev pub lists : ℕ → Compartment → Bool
lists device c = list_any (λ d. d == device) c.devices

-- the owner of a device: the first compartment that lists it, else compartment 0
abbrev pub owner_from : (device c : ℕ) → List Compartment → ℕ
owner_from device c [] = 0
owner_from device c (comp ∷ comps) =
    if lists device comp then c else owner_from device (c + 1) comps

abbrev pub owners_from : List Compartment → (device count : ℕ) → List ℕ
owners_from comps device zero = []
owners_from comps device (suc count) =
    owner_from device 0 comps ∷ owners_from comps (device + 1) count

-- where a vCPU's stack begins its use in thread 0: below the 32 bytes that the runtime keeps
abbrev pub first_pointer : Config → ℕ → ℕ
first_pointer k c = stack_low k 0 c + stack_size k - 32

-- the compartment in which a vCPU starts: under ept its own, elsewhere main's
abbrev pub start_compartment : Mechanism → (home vcpu : ℕ) → ℕ
start_compartment Call home vcpu = home
start_compartment Light home vcpu = home
start_compartment Full home vcpu = home
start_compartment Ept home vcpu = vcpu

-- the starts at these pieces of the runtime, from vCPU v on
abbrev pub starts_from : Config → (home : ℕ) → List ℕ → ℕ → List ℕ → List Start
starts_from k home runtime v [] = []
starts_from k home runtime v (piece ∷ pieces) =
    record {
      rip = code_start + slice_index runtime piece;
      rsp = first_pointer k (start_compartment k.mechanism home v);
    }
    ∷ starts_from k home runtime (v + 1) pieces

-- a stub with offsets in place of numbers of pieces
abbrev pub placed_stub : List ℕ → Stub → Stub
placed_stub runtime s =
    record s {
      offset = slice_index runtime s.offset;
      first = slice_index runtime s.first;
      second = slice_index runtime s.second;
    }
