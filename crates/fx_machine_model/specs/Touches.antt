-- The data access of a turn, and which bytes no turn changes.
use Rattle.std.specs.Prelude.{◌≢◌, ℕ, true, [], Option, Some, None}
use Rattle.fx_x64_forms.specs.declared.operand.Width.{Width}
use Rattle.fx_vm_pages.specs.Access.{byte_refusal, page_of}
use Rattle.fx_vm_pages.specs.declared.entry.Pkru.{Pkru}
use Rattle.fx_vm_pages.specs.declared.access.Access.{Access}
use Rattle.fx_vm_pages.specs.declared.access.Access.TheVariants.{Read, Write}
use Rattle.fx_cpu.specs.Registers.{past}
use Rattle.fx_cpu.specs.Does.{need}
use Rattle.fx_cpu.specs.declared.registers.Regs.{Regs}
use Rattle.fx_cpu.specs.declared.need.Need.{Need}
use Rattle.fx_cpu.specs.declared.need.Need.TheVariants as needs
use Rattle.fx_image.specs.declared.forms.Image.{Image}
use Rattle.fx_machine_model.specs.Layout.{page_entry}
use Rattle.fx_machine_model.specs.Moves.{World, fetched}
use Rattle.fx_machine_model.specs.declared.fetched.Fetched.{Fetched}
use Rattle.fx_machine_model.specs.declared.fetched.Fetched.TheVariants.{Found, RefusedAt, Unspelled}

-- A data access: its kind, its first byte and its width.
pub record Touch : Type 0 where
  pub access : Access
  pub address : ℕ
  pub width : Width

abbrev pub touch_of : Need → Option Touch
touch_of needs.Quiet = None
touch_of (needs.Reads width address) = Some (record { access = Read; address = address; width = width })
touch_of (needs.Writes width address value) = Some (record { access = Write; address = address; width = width })
touch_of (needs.Stops trap) = None

abbrev pub found_touch : Fetched → Regs → Option Touch
found_touch (Found i len) r = touch_of (need i (past r len))
found_touch (RefusedAt first) r = None
found_touch Unspelled r = None

-- What a vCPU finds at RIP.
abbrev pub found_at : Image → ℕ → Regs → World → Fetched
found_at image vcpu r w = fetched (page_entry image vcpu) r.pkru w.memory r.rip 15 []

-- The data access that a vCPU's turn asks for.
abbrev pub access_of : Image → ℕ → Regs → World → Option Touch
access_of image vcpu r w = found_touch (found_at image vcpu r w) r

-- The page of a byte can't be written in the space of a vCPU under a PKRU value.
abbrev pub IsClosed : Image → ℕ → Pkru → ℕ → Type 0
IsClosed image vcpu pkru k = byte_refusal (page_entry image vcpu (page_of k)) pkru Write true ≢ None
