-- Confinement of a compartment whose code was replaced: who acts, and what it reaches.
use Rattle.std.specs.Prelude.{◌≡◌, ℕ, ℤ, pos, ◌+◌, ◌-◌, ◌%◌, ◌^◌, ◌<◌, ◌≤◌, true, List, [], ◌∷◌, ◌++◌, length, unwrap_or, take, drop, Option, Some, None, slice_get, IfSome, All, replicate}
use Rattle.std.specs.Int.{w64, cast_unsigned}
use Rattle.fx_outcomes.specs.Runs.{Goes}
use Rattle.fx_base.specs.declared.device_op.DeviceOp.{DeviceOp}
use Rattle.fx_x64_forms.specs.declared.operand.Width.TheVariants.{W32}
use Rattle.fx_x64_forms.specs.declared.operand.Reg.TheVariants.{Rax}
use Rattle.fx_x64_forms.specs.declared.operand.Cond.TheVariants.{Ne}
use Rattle.fx_x64_forms.specs.declared.inst.AluOp.TheVariants.{Cmp}
use Rattle.fx_x64_forms.specs.declared.inst.Inst.TheVariants.{AluImm, Jcc, MovImm, Hlt}
use Rattle.fx_x64_code.specs.Spelling.{spelling, IsRow}
use Rattle.fx_word_ops.specs.Words.{cut}
use Rattle.fx_cpu.specs.Registers.{plus}
use Rattle.fx_cpu.specs.declared.registers.Regs.{Regs}
use Rattle.fx_image.specs.Keys.{is_keyed}
use Rattle.fx_image.specs.Layout.{code_start}
use Rattle.fx_image.specs.Rules.{IsImage, is_listed, first_unlisted}
use Rattle.fx_image.specs.declared.forms.Image.{Image}
use Rattle.fx_image.specs.declared.forms.Comp.{Comp}
use Rattle.fx_machine_model.specs.Moves.{World, move}
use Rattle.fx_machine_model.specs.Running.{image_after}
use Rattle.fx_machine_model.specs.Boot.{byte_from, object_byte, idle_byte}
use Rattle.fx_machine_model.specs.Layout.{is_ept, first_of}
use Rattle.fx_machine_model.specs.Standing.{StandsAt}
use Rattle.fx_machine_model.specs.Touches.{Touch, access_of}
use Rattle.fx_confined_model.specs.Grants.{Acts, Checking, domain, IsSomebody, IsGranted}

-- ---- replaced code

-- The code with a range replaced, the rest of the range filled with HLT.
abbrev pub replaced_code : List ℕ → Comp → List ℕ → List ℕ
replaced_code code c bytes = take c.start code ++ (bytes ++ (replicate (c.len - length bytes) 0xf4 ++ drop (c.start + c.len) code))

abbrev pub replaced_in : Image → Option Comp → List ℕ → Image
replaced_in image None bytes = image
replaced_in image (Some c) bytes = record image { code = replaced_code image.code c bytes }

-- The image with these bytes as the code of compartment c.
abbrev pub replaced : Image → ℕ → List ℕ → Image
replaced image c bytes = replaced_in image (slice_get image.compartments c) bytes

-- They fit, and WRPKRU's bytes stand in the whole code where a stub lists them alone.
abbrev pub Admitted : Image → ℕ → List ℕ → Type 0
Admitted image c bytes =
    IfSome (slice_get image.compartments c)
    (λ comp. (length bytes ≤ comp.len) × All (λ b. b < 256) bytes
    × (first_unlisted image.stubs (replaced_code image.code comp bytes) ≡ None))

-- ---- what holds after each turn

-- Somebody acts; where nobody does no data access is made; and each access made is granted to who acts.
pub record Obeys (image : Image) (vcpu : ℕ) (r : Regs) (w : World) : Type 0 where
  pub somebody : IsSomebody image (domain image vcpu r)
  pub checked : domain image vcpu r ≡ Checking → access_of image vcpu r w ≡ None
  pub granted : (c : ℕ) (t : Touch) (o : List DeviceOp) (after : Regs × World)
      → domain image vcpu r ≡ Acts c → move image vcpu r w ≡ Goes o after
      → access_of image vcpu r w ≡ Some t → IsGranted image c t

-- Parts 1 and 2 of Confined, under keys: at each moment of each run of the image with admitted bytes in
-- place of c's.
abbrev pub Confined : Image → ℕ → Type 0
Confined image c =
    (bytes answers schedule : List ℕ) → Admitted image c bytes → All (λ a. a < 2 ^ 64) answers →
    let there = replaced image c bytes in
    let m = image_after there answers schedule in
    Obeys there 0 (m.cpus 0) m.world

-- ---- what the gates' code has to be

-- Behind the WRPKRU at a place EAX is compared with the PKRU value of a compartment, and where it differs a
-- jump leads to the abort stub.
pub record IsCheck (image : Image) (at : ℕ) : Type 0 where
  pub compartment : ℕ
  pub comp : Comp
  pub value : ℤ
  pub back : ℤ
  pub is : slice_get image.compartments compartment ≡ Some comp
  pub same : cut W32 (cast_unsigned w64 value) ≡ comp.pkru
  pub rows : IsRow (AluImm Cmp W32 Rax value) × IsRow (Jcc Ne back)
  pub compares : StandsAt image.code (at + 3) (spelling (AluImm Cmp W32 Rax value))
  pub jumps : StandsAt image.code (at + 9) (spelling (Jcc Ne back))
  pub leads : plus ((code_start + at + 9 + 6) % 2 ^ 64) back ≡ code_start + image.abort

-- Each listed WRPKRU is checked, and the abort stub moves 4 into RAX and halts.
pub record HasChecks (image : Image) : Type 0 where
  pub checks : (at : ℕ) → is_listed image.stubs at ≡ true → IsCheck image at
  pub moves : StandsAt image.code image.abort (spelling (MovImm Rax (pos 4)))
  pub halts : StandsAt image.code (image.abort + 7) (spelling Hlt)

-- ---- laws

-- The byte at an address at boot that isn't of the code.
abbrev pub other_byte : Image → ℕ → ℕ
other_byte image address = unwrap_or (first_of (byte_from image.literals 0x600000 address ∷ object_byte image.objects address ∷ idle_byte image address ∷ [])) 0

-- An image's bytes are bytes, as those of every image that was read are.
pub record HasBytes (image : Image) : Type 0 where
  pub code : All (λ b. b < 256) image.code
  pub others : (address : ℕ) → other_byte image address < 256

-- After each turn of each run of an image whose stubs check: parts 1 and 2 of Confined.
abbrev pub ObeysUnderKeys : Type 0
ObeysUnderKeys =
    (image : Image) → IsImage image → is_keyed image.mechanism ≡ true → HasChecks image → HasBytes image
    → (answers schedule : List ℕ) → All (λ a. a < 2 ^ 64) answers
    → let m = image_after image answers schedule in Obeys image 0 (m.cpus 0) m.world

-- Under `ept` any state obeys, whatever code and registers are.
abbrev pub ObeysUnderEpt : Type 0
ObeysUnderEpt = (image : Image) (vcpu : ℕ) (r : Regs) (w : World) → IsImage image → is_ept image ≡ true → vcpu < length image.compartments → Obeys image vcpu r w

-- An image whose stubs check confines each compartment, whatever admitted bytes stand in place of its code.
abbrev pub ConfinedUnderKeys : Type 0
ConfinedUnderKeys = (image : Image) (c : ℕ) → IsImage image → is_keyed image.mechanism ≡ true → HasChecks image → HasBytes image → Confined image c
