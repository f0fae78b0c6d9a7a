-- Which code a turn executes.
use Rattle.std.specs.Prelude.{◌≡◌, ℕ, ◌+◌, ◌-◌, ◌*◌, ◌^◌, ◌<◌, ◌≤◌, true, length}
use Rattle.fx_x64_forms.specs.declared.inst.Inst.{Inst}
use Rattle.fx_x64_forms.specs.declared.inst.Inst.TheVariants.{Wrpkru}
use Rattle.fx_x64_code.specs.Spelling.{spelling, IsRow}
use Rattle.fx_vm_pages.specs.Access.{page_of}
use Rattle.fx_cpu.specs.declared.registers.Regs.{Regs}
use Rattle.fx_image.specs.Layout.{code_start}
use Rattle.fx_image.specs.Rules.{IsImage, is_listed}
use Rattle.fx_image.specs.declared.forms.Image.{Image}
use Rattle.fx_machine_model.specs.Layout.{maps_code}
use Rattle.fx_machine_model.specs.Moves.{World}
use Rattle.fx_machine_model.specs.declared.fetched.Fetched.TheVariants.{Found}
use Rattle.fx_machine_model.specs.Standing.{HoldsCode, StandsAt}
use Rattle.fx_machine_model.specs.Touches.{found_at}

-- The space maps the page of code that the address is in.
pub record IsMappedCode (image : Image) (space address : ℕ) : Type 0 where
  pub from : code_start ≤ address
  pub inside : address < code_start + length image.code
  pub maps : maps_code image space ((page_of address - 0x400) * 4096) ≡ true

-- The instruction stands spelled at an address, in code that the space maps.
pub record IsCodeAt (image : Image) (space address : ℕ) (i : Inst) (len : ℕ) : Type 0 where
  pub row : IsRow i
  pub long : len ≡ length (spelling i)
  pub from : code_start ≤ address
  pub stands : StandsAt image.code (address - code_start) (spelling i)
  pub maps : (k : ℕ) → k < len → IsMappedCode image space (address + k)

-- What a turn finds stands spelled in the code, wherever RIP is.
abbrev pub FoundIsCode : Type 0
FoundIsCode =
    (image : Image) (vcpu : ℕ) (r : Regs) (w : World) (i : Inst) (len : ℕ) → IsImage image → HoldsCode image w.memory → r.rip < 2 ^ 64
    → found_at image vcpu r w ≡ Found i len → IsCodeAt image vcpu r.rip i len

-- WRPKRU is executed only where a stub lists it.
abbrev pub KeysAreSetWhereListed : Type 0
KeysAreSetWhereListed =
    (image : Image) (vcpu : ℕ) (r : Regs) (w : World) (len : ℕ) → IsImage image → HoldsCode image w.memory → r.rip < 2 ^ 64
    → found_at image vcpu r w ≡ Found Wrpkru len → is_listed image.stubs (r.rip - code_start) ≡ true
