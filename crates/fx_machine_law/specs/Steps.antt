-- A turn that touches no device is a step over the port of its address space.
use Rattle.std.specs.Prelude.{◌≡◌, ℕ, ◌<◌, Bool, true, false, List, [], ◌∷◌, Option, Some, None}
use Rattle.fx_outcomes.specs.Runs.{Goes, Stops}
use Rattle.fx_x64_forms.specs.Numbers.{width_bytes}
use Rattle.fx_vm_pages.specs.Access.{access_check, page_of}
use Rattle.fx_vm_pages.specs.declared.access.Access.TheVariants.{Fetch}
use Rattle.fx_cpu.specs.World as cpu
use Rattle.fx_cpu.specs.Fetches.{StepDoes}
use Rattle.fx_cpu.specs.declared.port.Place.{Place}
use Rattle.fx_cpu.specs.declared.registers.Regs.{Regs}
use Rattle.fx_cpu.specs.declared.trap.Trap.{Trap}
use Rattle.fx_cpu.specs.declared.trap.Trap.TheVariants as traps
use Rattle.fx_cpu.specs.declared.trap.Stepped.TheVariants.{Went, Fault}
use Rattle.fx_image.specs.declared.forms.Image.{Image}
use Rattle.fx_machine_model.specs.Layout.{page_entry}
use Rattle.fx_machine_model.specs.Moves.{World, Move, move, device_at, domain_of, trapped}
use Rattle.fx_machine_model.specs.Touches.{Touch, access_of}
use Rattle.fx_machine_model.specs.declared.stop.Stop.{Stop}
use Rattle.fx_machine_model.specs.declared.stop.Stop.TheVariants.{Page}

-- A load of a device waits where no answer is left.
abbrev pub waits_by : Option ℕ → List ℕ → Bool
waits_by None answers = false
waits_by (Some device) [] = true
waits_by (Some device) (answer ∷ rest) = false

-- The port of an address space: it refuses what the access check refuses, and takes a device's pages for
-- operations. Fetches look at no key, so PKRU is 0 there.
abbrev pub port_of : Image → ℕ → World → (ℕ → ℕ) → List (Place × ℕ) → cpu.World
port_of image space w counts notes = record {
  rules = record {
    refuses = λ pkru access width a. access_check (page_entry image space) pkru access a (width_bytes width);
    refuses_fetch = λ a. access_check (page_entry image space) (record { 0 = 0 }) Fetch a 1;
    device = λ access width a. device_at (page_entry image space (page_of a)) a;
    waits = λ width a. waits_by (device_at (page_entry image space (page_of a)) a) w.answers;
  };
  bytes = w.memory;
  counts = counts;
  notes = notes;
}

-- The stop of a machine whose vCPU's instruction traps.
abbrev pub stop_of : Image → ℕ → Regs → Trap → Stop
stop_of image vcpu r (traps.Page address access refusal) = Page vcpu (domain_of image vcpu r.pkru) address access refusal
stop_of image vcpu r trap = trapped trap r

-- What a turn answers is what a step over a port may do: registers and bytes are those after the step, and a
-- stop is that of the step's trap, which leaves both. No operation is made and no answer taken.
abbrev pub IsStep : Image → ℕ → Regs → World → cpu.World → Move → Type 0
IsStep image vcpu r w o (Goes made after) = (n : cpu.World) × StepDoes r o Went after.0 n × (n.bytes ≡ after.1.memory) × (made ≡ []) × (after.1.answers ≡ w.answers)
IsStep image vcpu r w o (Stops made stop) = (trap : Trap) × (n : cpu.World) × StepDoes r o (Fault trap) r n × (n.bytes ≡ w.memory) × (made ≡ []) × (stop ≡ stop_of image vcpu r trap)

-- The data access of a turn, if it asks for one, is none of a device.
abbrev pub TouchesNoDevice : Image → ℕ → Regs → World → Type 0
TouchesNoDevice image vcpu r w = (t : Touch) → access_of image vcpu r w ≡ Some t → device_at (page_entry image vcpu (page_of t.address)) t.address ≡ None

abbrev pub MoveIsStep : Type 0
MoveIsStep =
    (image : Image) (vcpu : ℕ) (r : Regs) (w : World) (counts : ℕ → ℕ) (notes : List (Place × ℕ)) → ((k : ℕ) → w.memory k < 256) → TouchesNoDevice image vcpu r w
    → IsStep image vcpu r w (port_of image vcpu w counts notes) (move image vcpu r w)
