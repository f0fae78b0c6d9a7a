use Rattle.std.specs.Prelude.{ℕ, suc, zero, ◌+◌, ◌%◌, ◌^◌, ◌≡◌, List, [], ◌∷◌, ◌++◌, length, Result, MatchOption, MatchResult}
use Rattle.fx_vm_pages.specs.declared.access.Access.TheVariants.{Fetch}
use Rattle.fx_x64_code.specs.Decoded.{decoded}
use Rattle.fx_cpu.specs.World.{World, Fetched}
use Rattle.fx_cpu.specs.Steps.{Does, trap_of}
use Rattle.fx_cpu.specs.declared.registers.Regs.{Regs}
use Rattle.fx_cpu.specs.declared.trap.PortStop.{PortStop}
use Rattle.fx_cpu.specs.declared.trap.Trap.TheVariants as traps
use Rattle.fx_cpu.specs.declared.trap.Stepped.{Stepped}
use Rattle.fx_cpu.specs.declared.trap.Stepped.TheVariants.{Fault}

-- The bytes from RIP on are fetched one at a time until they are a spelling, whose instruction is then
-- done. Here `text` was fetched, and at most so many more are: where that many are no spelling, the
-- instruction is invalid. A refused fetch is a trap.
unfoldable pub Fetches : ℕ → List ℕ → Regs → World → Stepped → Regs → World → Type 0
Fetches zero text r o t s n = (t ≡ Fault traps.Invalid) × (s ≡ r) × (n ≡ o)
Fetches (suc more) text r o t s n =
    (x : Result ℕ PortStop) × (mid : World) × Fetched o ((r.rip + length text) % 2 ^ 64) x mid
    × MatchResult x
    (λ b. MatchOption (decoded (text ++ b ∷ [])) (Fetches more (text ++ b ∷ []) r mid t s n) (λ found. Does found.0 found.1 r mid t s n))
    (λ e. (t ≡ Fault (trap_of Fetch e)) × (s ≡ r) × (n ≡ mid))

-- What one step may do: an instruction has at most fifteen bytes (SDM volume 2, section 2.3.11).
abbrev pub StepDoes : Regs → World → Stepped → Regs → World → Type 0
StepDoes r o t s n = Fetches 15 [] r o t s n
