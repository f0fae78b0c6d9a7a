-- Code none of whose pieces spells WRPKRU, alone or with what stands before it or behind it.
use Rattle.std.specs.Prelude.{◌≡◌, ℕ, ◌≤◌, ◌%◌, All}
use Rattle.fx_c_ast.specs.declared.checked.TProgram.{TProgram}
use Rattle.fx_config.specs.declared.configuration.Config.{Config}
use Rattle.fx_sections.specs.declared.placement.PlacedSection.{PlacedSection}
use Rattle.fx_sections.specs.declared.placement.Placement.{Placement}
use Rattle.fx_c_lin.specs.Ops.{Op}
use Rattle.fx_c_lin.specs.Ops as op
use Rattle.fx_match_rel.specs.declared.addresses.Addresses.{Addresses}
use Rattle.fx_match_rel.specs.declared.context.GateSite.{GateSite}
use Rattle.fx_match_rel.specs.declared.frames.FrameTable.{FrameTable}
use Rattle.fx_match_rel.specs.Frames.{IsFrame}
use Rattle.fx_linker_law.specs.Premises.{AreQuiet}
use Rattle.fx_templates.specs.Ops.{pieces_of}
use Rattle.fx_templates.specs.Beginnings.{pieces_of_enter}
use Rattle.fx_gates_call.specs.Gates.{pieces_of_gate}
use Rattle.fx_gates_call.specs.Runtime.{runtime_pieces}

-- A frame of at most 65,536 bytes of a function of at most six parameters, whose operands stand at
-- multiples of 8 bytes from the frame pointer.
pub record IsPlainFrame (t : FrameTable) : Type 0 where
  pub frame : IsFrame t
  pub params : t.params ≤ 6
  pub even : t.locals % 8 ≡ 0

-- plain frames, on stacks of at most 64 pages for at most 16 compartments
pub record ArePlain (a : Addresses) : Type 0 where
  pub frames : All IsPlainFrame a.frames
  pub pages : a.stack_pages ≤ 64
  pub compartments : a.compartments ≤ 16

-- an op on a device names one of 16 devices, and one of its 512 registers
abbrev pub HasRegister : Op → Type 0
HasRegister (op.DevLoad device register) = (device ≤ 15) × (register ≤ 511)
HasRegister (op.DevStore device register) = (device ≤ 15) × (register ≤ 511)
HasRegister o = Unit {0}

-- Ops before which no more than 1,048,576 operands are pending: each took a byte of code at least,
-- of which an image has no more. (A slot 1,113,841 bytes below the frame pointer would spell
-- 0F 01 EF; slots are at multiples of 8.)
abbrev pub OpsAreQuiet : Type 0
OpsAreQuiet =
    (a : Addresses) (function here label count : ℕ) (o : Op) → ArePlain a → HasRegister o
    → count ≤ 1048576 → AreQuiet (pieces_of a function here label count o)

abbrev pub BeginningsAreQuiet : Type 0
BeginningsAreQuiet =
    (a : Addresses) (compartment function here : ℕ) → ArePlain a → compartment ≤ 16
    → AreQuiet (pieces_of_enter a compartment function here)

abbrev pub GatesAreQuiet : Type 0
GatesAreQuiet =
    (a : Addresses) (function count : ℕ) (site : GateSite) → ArePlain a → count ≤ 1048576
    → AreQuiet (pieces_of_gate a function count site)

-- with sections that begin at page 1,048,576 at most
abbrev pub RuntimesAreQuiet : Type 0
RuntimesAreQuiet =
    (p : TProgram) (at : Placement) (k : Config) (here : ℕ) → k.stack_pages ≤ 64
    → All (λ (s : PlacedSection). s.page ≤ 1048576) at.sections
    → AreQuiet (runtime_pieces p at k here)
