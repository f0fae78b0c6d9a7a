-- Pieces that stand in an image's code, their displacements filled in.
use Rattle.std.specs.Prelude.{ℕ, ◌+◌, ◌-◌, ◌*◌, ◌%◌, ◌^◌, ◌≡◌, ◌≤◌, ◌<◌, true, List, [], ◌∷◌, length, None}
use Rattle.fx_x64_forms.specs.declared.inst.Inst.{Inst}
use Rattle.fx_x64_forms.specs.declared.piece.Piece.{Piece}
use Rattle.fx_x64_code.specs.Spelling.{spelling, IsRow}
use Rattle.fx_cpu.specs.Does.{need, finish}
use Rattle.fx_cpu.specs.declared.registers.Regs.{Regs}
use Rattle.fx_cpu.specs.declared.need.Need.{Need}
use Rattle.fx_cpu.specs.declared.need.Need.TheVariants as needs
use Rattle.fx_cpu.specs.Memory.{word_at, stored}
use Rattle.fx_outcomes.specs.Runs.{Goes, Stops}
use Rattle.fx_x64_forms.specs.Numbers.{width_bytes}
use Rattle.fx_vm_pages.specs.Access.{access_check, page_of}
use Rattle.fx_vm_pages.specs.declared.access.Access.TheVariants.{Read, Write}
use Rattle.fx_image.specs.Layout.{code_start}
use Rattle.fx_image.specs.declared.forms.Image.{Image}
use Rattle.fx_machine_model.specs.Layout.{page_entry, maps_code}
use Rattle.fx_machine_model.specs.Moves.{World, move, trapped, device_at}
use Rattle.fx_machine_model.specs.Standing.{Fits, HoldsCode, StandsAt}
use Rattle.fx_pieces.specs.Running.{Places, done, behind}

-- Piece n stands in the code, in pages that an address space maps: an instruction that asks and does what
-- the piece says, with its displacement leading to the piece's target.
pub record Placed (image : Image) (space : ℕ) (at : Places) (n : ℕ) (p : Piece) : Type 0 where
  pub inst : Inst
  pub row : IsRow inst
  pub from : code_start ≤ at.place n
  pub stands : StandsAt image.code (at.place n - code_start) (spelling inst)
  pub maps : (k : ℕ) → k < length (spelling inst) → maps_code image space ((page_of (code_start + ((at.place n - code_start) + k)) - 0x400) * 4096) ≡ true
  pub next : (at.place n + length (spelling inst)) % 2 ^ 64 ≡ at.place (n + 1)
  pub asks : (r : Regs) → need inst (behind (at.place (n + 1)) r) ≡ need p.inst (behind (at.place (n + 1)) r)
  pub does : (r : Regs) (v : ℕ) → finish inst (behind (at.place (n + 1)) r) v ≡ done p.inst (at.place (n + 1)) (at.target p.target) r v

-- Pieces from number n on.
abbrev pub Stand : Image → ℕ → Places → ℕ → List Piece → Type 0
Stand image space at n [] = Unit {0}
Stand image space at n (p ∷ ps) = Placed image space at n p × Stand image space at (n + 1) ps

-- ---- one piece's turn

-- By what it asks of memory: an access that nothing refuses and no device takes is made, and the registers
-- are those behind the piece; an instruction that stops does.
abbrev pub TurnsBy : Image → ℕ → Places → ℕ → Piece → Regs → World → Need → Type 0
TurnsBy image vcpu at n p r w needs.Quiet = move image vcpu r w ≡ Goes [] (done p.inst (at.place (n + 1)) (at.target p.target) r 0, w)
TurnsBy image vcpu at n p r w (needs.Reads width a) =
    access_check (page_entry image vcpu) r.pkru Read a (width_bytes width) ≡ None → device_at (page_entry image vcpu (page_of a)) a ≡ None
    → move image vcpu r w ≡ Goes [] (done p.inst (at.place (n + 1)) (at.target p.target) r (word_at w.memory width a), w)
TurnsBy image vcpu at n p r w (needs.Writes width a v) =
    access_check (page_entry image vcpu) r.pkru Write a (width_bytes width) ≡ None → device_at (page_entry image vcpu (page_of a)) a ≡ None
    → move image vcpu r w ≡ Goes [] (done p.inst (at.place (n + 1)) (at.target p.target) r 0, record w { memory = stored w.memory width a v })
TurnsBy image vcpu at n p r w (needs.Stops trap) = move image vcpu r w ≡ Stops [] (trapped trap r)

-- A vCPU at a piece that stands in the code does it in one turn.
abbrev pub PieceTurns : Type 0
PieceTurns =
    (image : Image) (vcpu : ℕ) (at : Places) → Fits image → (n : ℕ) (p : Piece) (r : Regs) (w : World) → Placed image vcpu at n p → r.rip ≡ at.place n → HoldsCode image w.memory
    → TurnsBy image vcpu at n p r w (need p.inst (behind (at.place (n + 1)) r))
