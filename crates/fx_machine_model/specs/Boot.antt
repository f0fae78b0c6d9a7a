-- What memory and registers hold at boot.
use Rattle.std.specs.Prelude.{ℕ, ◌+◌, ◌-◌, ◌/◌, ◌%◌, ◌^◌, Bool, false, ◌&&◌, nat_le, nat_lt, if◌then◌else◌, List, [], ◌∷◌, length, Option, Some, None, slice_get, unwrap_or}
use Rattle.fx_image.specs.declared.forms.Image.{Image}
use Rattle.fx_image.specs.declared.forms.Comp.{Comp}
use Rattle.fx_image.specs.declared.forms.Obj.{Obj}
use Rattle.fx_image.specs.declared.forms.Start.{Start}
use Rattle.fx_cpu.specs.declared.registers.Regs.{Regs}
use Rattle.fx_image.specs.Layout.{code_start, stack_bytes, stack_span, first_stack, stack_count}
use Rattle.fx_machine_model.specs.Layout.{first_of, is_ept}

-- The byte of a list that begins at an address.
abbrev pub byte_from : List ℕ → ℕ → ℕ → Option ℕ
byte_from bytes start address = if nat_le start address then slice_get bytes (address - start) else None

-- Whether an object has an initial byte at an address.
abbrev pub covers : Obj → ℕ → Bool
covers object address = nat_le object.address address && nat_lt address (object.address + length object.initial)

-- The byte of the first object that has one there.
abbrev pub object_byte : List Obj → ℕ → Option ℕ
object_byte [] address = None
object_byte (object ∷ rest) address =
    if covers object address then byte_from object.initial object.address address
    else object_byte rest address

-- The word that an idle stack returns to: the abort stub's address, 32 bytes under the end of its
-- low half.
abbrev pub idle_place : Image → ℕ
idle_place image = stack_bytes image - 32

abbrev pub idle_word : Image → ℕ
idle_word image = code_start + image.abort

abbrev pub idle_byte : Image → ℕ → Option ℕ
idle_byte image address =
    let at = address - first_stack in
    let place = at % stack_span image in
    if nat_le first_stack address && nat_lt (at / stack_span image) (stack_count image) && nat_le (idle_place image) place && nat_lt place (idle_place image + 8)
    then Some (idle_word image / 256 ^ (place - idle_place image) % 256)
    else None

-- The byte at an address: code, literals, an object's initial value, an idle word, else 0.
unfoldable pub boot_byte : Image → ℕ → ℕ
boot_byte image address =
    unwrap_or (first_of (byte_from image.code code_start address ∷ byte_from image.literals 0x600000 address ∷ object_byte image.objects address ∷ idle_byte image address ∷ [])) 0

-- The PKRU value of the compartment of `main`.
abbrev pub pkru_in : Option Comp → ℕ
pkru_in None = 0
pkru_in (Some c) = c.pkru

abbrev pub home_pkru : Image → ℕ
home_pkru image = pkru_in (slice_get image.compartments image.home)

-- A vCPU that starts at an address with a stack pointer; all else is 0.
abbrev pub started : ℕ → ℕ → ℕ → Regs
started rip rsp pkru = record {
  gpr = 0 ∷ 0 ∷ 0 ∷ 0 ∷ rsp ∷ 0 ∷ 0 ∷ 0 ∷ 0 ∷ 0 ∷ 0 ∷ 0 ∷ 0 ∷ 0 ∷ 0 ∷ 0 ∷ [];
  rip = rip;
  flags = record { cf = false; zf = false; sf = false; of = false };
  pkru = record { 0 = pkru };
}

abbrev pub started_at : Option Start → ℕ → Regs
started_at None pkru = started 0 0 pkru
started_at (Some start) pkru = started start.rip start.rsp pkru

-- The registers of a vCPU at boot.
abbrev pub boot_regs : Image → ℕ → Regs
boot_regs image vcpu = started_at (slice_get image.starts vcpu) (home_pkru image)

-- The number of vCPUs: under `ept` one for each compartment, else one.
abbrev pub vcpus : Image → ℕ
vcpus image = if is_ept image then length image.compartments else 1
