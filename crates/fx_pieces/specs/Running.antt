-- What pieces do: instructions whose displacement leads to an address.
use Rattle.std.specs.Prelude.{ℕ, ◌+◌, ◌≡◌, Bool, true, false, List, [], ◌∷◌, if◌then◌else◌, slice_index, slice_set, Option}
use Rattle.fx_x64_forms.specs.declared.operand.Width.{Width}
use Rattle.fx_x64_forms.specs.declared.inst.Inst.{Inst}
use Rattle.fx_x64_forms.specs.declared.inst.Inst.TheVariants.{Jcc, Jmp, Call, Ret, Hlt}
use Rattle.fx_x64_forms.specs.declared.piece.Target.{Target}
use Rattle.fx_x64_forms.specs.declared.piece.Piece.{Piece}
use Rattle.fx_vm_pages.specs.declared.entry.Pkru.{Pkru}
use Rattle.fx_cpu.specs.Registers.{below, holds}
use Rattle.fx_cpu.specs.Memory.{word_at, stored}
use Rattle.fx_cpu.specs.Does.{need, finish}
use Rattle.fx_cpu.specs.declared.registers.Regs.{Regs}
use Rattle.fx_cpu.specs.declared.need.Need.{Need}
use Rattle.fx_cpu.specs.declared.need.Need.TheVariants as needs

-- Registers with RIP at the instruction behind.
abbrev pub behind : ℕ → Regs → Regs
behind next r = record r { rip = next }

-- The registers after an instruction behind which `next` stands and whose displacement leads to `to`,
-- where v was read.
abbrev pub done : Inst → ℕ → ℕ → Regs → ℕ → Regs
done (Jcc c rel) next to r v = record r { rip = if holds c r.flags then to else next }
done (Jmp rel) next to r v = record r { rip = to }
done (Call rel) next to r v = record r { gpr = slice_set r.gpr 4 (below (slice_index r.gpr 4)); rip = to }
done i next to r v = finish i (behind next r) v

-- Whether the next instruction follows.
abbrev pub is_straight : Inst → Bool
is_straight (Jcc c rel) = false
is_straight (Jmp rel) = false
is_straight (Call rel) = false
is_straight Ret = false
is_straight Hlt = false
is_straight _ = true

-- The address of piece n of the code, and that to which a target leads.
pub record Places : Type 0 where
  pub place : ℕ → ℕ
  pub target : Option Target → ℕ

-- Which accesses may be made: by PKRU, address and width.
pub record Rights : Type 1 where
  pub read : Pkru → ℕ → Width → Type 0
  pub write : Pkru → ℕ → Width → Type 0

-- What pieces from number n on do, one after the other, and then Then: the accesses are such that they may
-- be made, and no instruction stops.
abbrev pub Does_by : Rights → Need → Inst → ℕ → ℕ → Regs → (ℕ → ℕ) → (Regs → (ℕ → ℕ) → Type 0) → Type 0
Does_by may needs.Quiet i next to r m Then = Then (done i next to r 0) m
Does_by may (needs.Reads width a) i next to r m Then = may.read r.pkru a width × Then (done i next to r (word_at m width a)) m
Does_by may (needs.Writes width a v) i next to r m Then = may.write r.pkru a width × Then (done i next to r 0) (stored m width a v)
Does_by may (needs.Stops trap) i next to r m Then = ⊥

-- Behind an instruction that may jump the next one is done where RIP is there.
abbrev pub Follows : Bool → ℕ → ℕ → Type 0 → Type 0
Follows true rip next Rest = Rest
Follows false rip next Rest = (rip ≡ next) × Rest

abbrev pub Runs : Rights → Places → List Piece → ℕ → Regs → (ℕ → ℕ) → (Regs → (ℕ → ℕ) → Type 0) → Type 0
Runs may at [] n r m Then = Then r m
Runs may at (p ∷ []) n r m Then =
    Does_by may (need p.inst (behind (at.place (n + 1)) r)) p.inst (at.place (n + 1)) (at.target p.target) r m Then
Runs may at (p ∷ p2 ∷ ps) n r m Then =
    Does_by may (need p.inst (behind (at.place (n + 1)) r)) p.inst (at.place (n + 1)) (at.target p.target) r m
    (λ q x. Follows (is_straight p.inst) q.rip (at.place (n + 1)) (Runs may at (p2 ∷ ps) (n + 1) q x Then))

-- The number of the piece behind pieces from number n on.
abbrev pub past : ℕ → List Piece → ℕ
past n [] = n
past n (p ∷ ps) = past (n + 1) ps
