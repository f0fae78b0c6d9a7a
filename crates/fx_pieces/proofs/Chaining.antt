-- Pieces one after the other: what the first ones lead to, and the others from there on.
use Rattle.std.proofs.Common.{◌≡◌, ℕ, ◌+◌, List, [], ◌∷◌, ◌++◌, Bool, true, false, refl}
use Rattle.fx_x64_forms.specs.declared.piece.Piece.{Piece}
use Rattle.fx_cpu.specs.Does.{need}
use Rattle.fx_cpu.specs.declared.registers.Regs.{Regs}
use Rattle.fx_pieces.specs.Running.{Places, Rights, Follows, Runs, behind, is_straight, past}
use Rattle.fx_pieces.proofs.Monotone.{does_then, follows_then}

follows : (straight : Bool) (rip next : ℕ) (A : Type 0) → rip ≡ next → A → Follows straight rip next A
follows true rip next A e h = h
follows false rip next A e h = (e, h)

pub past_both : (ps qs : List Piece) (n : ℕ) → past (past n ps) qs ≡ past n (ps ++ qs)
past_both [] qs n = refl
past_both (p ∷ ps) qs n = past_both ps qs (n + 1)

pub chain : (may : Rights) (at : Places) (ps qs : List Piece) (n : ℕ) (r : Regs) (m : ℕ → ℕ) (Mid Then : Regs → (ℕ → ℕ) → Type 0) → Runs may at ps n r m Mid
    → ((q : Regs) (x : ℕ → ℕ) → Mid q x → (q.rip ≡ at.place (past n ps)) × Runs may at qs (past n ps) q x Then) → Runs may at (ps ++ qs) n r m Then
chain may at [] qs n r m Mid Then h go = (go r m h).1
chain may at (p ∷ []) [] n r m Mid Then h go =
    does_then may (need p.inst (behind (at.place (n + 1)) r)) p.inst (at.place (n + 1)) (at.target p.target) r m Mid Then (λ q x t. (go q x t).1) h
chain may at (p ∷ []) (p2 ∷ qs) n r m Mid Then h go =
    does_then may (need p.inst (behind (at.place (n + 1)) r)) p.inst (at.place (n + 1)) (at.target p.target) r m Mid _
    (λ q x t. follows (is_straight p.inst) q.rip (at.place (n + 1)) _ (go q x t).0 (go q x t).1) h
chain may at (p ∷ p2 ∷ ps) qs n r m Mid Then h go =
    does_then may (need p.inst (behind (at.place (n + 1)) r)) p.inst (at.place (n + 1)) (at.target p.target) r m _ _
    (λ q x t. follows_then (is_straight p.inst) q.rip (at.place (n + 1)) _ _ (λ u. chain may at (p2 ∷ ps) qs (n + 1) q x Mid Then u go) t) h
