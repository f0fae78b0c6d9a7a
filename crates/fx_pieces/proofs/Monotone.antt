-- What holds behind pieces may be weakened.
use Rattle.std.proofs.Common.{ℕ, ◌+◌, List, [], ◌∷◌, Bool, true, false}
use Rattle.fx_x64_forms.specs.declared.inst.Inst.{Inst}
use Rattle.fx_x64_forms.specs.declared.piece.Piece.{Piece}
use Rattle.fx_cpu.specs.Does.{need}
use Rattle.fx_cpu.specs.Memory.{word_at, stored}
use Rattle.fx_cpu.specs.declared.registers.Regs.{Regs}
use Rattle.fx_cpu.specs.declared.need.Need.{Need}
use Rattle.fx_cpu.specs.declared.need.Need.TheVariants as needs
use Rattle.fx_pieces.specs.Running.{Places, Rights, Does_by, Follows, Runs, behind, done, is_straight}

pub does_then : (may : Rights) (asked : Need) (i : Inst) (next to : ℕ) (r : Regs) (m : ℕ → ℕ) (A B : Regs → (ℕ → ℕ) → Type 0) → ((q : Regs) (x : ℕ → ℕ) → A q x → B q x) → Does_by may asked i next to r m A → Does_by may asked i next to r m B
does_then may needs.Quiet i next to r m A B f h = f (done i next to r 0) m h
does_then may (needs.Reads width a) i next to r m A B f h = (h.0, f (done i next to r (word_at m width a)) m h.1)
does_then may (needs.Writes width a v) i next to r m A B f h = (h.0, f (done i next to r 0) (stored m width a v) h.1)
does_then may (needs.Stops trap) i next to r m A B f h = absurd h

pub follows_then : (straight : Bool) (rip next : ℕ) (A B : Type 0) → (A → B) → Follows straight rip next A → Follows straight rip next B
follows_then true rip next A B f h = f h
follows_then false rip next A B f h = (h.0, f h.1)

pub runs_then : (may : Rights) (at : Places) (ps : List Piece) (n : ℕ) (r : Regs) (m : ℕ → ℕ) (A B : Regs → (ℕ → ℕ) → Type 0) → ((q : Regs) (x : ℕ → ℕ) → A q x → B q x) → Runs may at ps n r m A → Runs may at ps n r m B
runs_then may at [] n r m A B f h = f r m h
runs_then may at (p ∷ []) n r m A B f h = does_then may (need p.inst (behind (at.place (n + 1)) r)) p.inst (at.place (n + 1)) (at.target p.target) r m A B f h
runs_then may at (p ∷ p2 ∷ ps) n r m A B f h =
    does_then may (need p.inst (behind (at.place (n + 1)) r)) p.inst (at.place (n + 1)) (at.target p.target) r m _ _
    (λ q x g. follows_then (is_straight p.inst) q.rip (at.place (n + 1)) _ _ (runs_then may at (p2 ∷ ps) (n + 1) q x A B f) g) h
