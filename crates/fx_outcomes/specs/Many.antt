-- A machine of several processors over one world.
use Rattle.std.specs.Prelude.{Bool, Option, Some, None, ℕ, zero, suc, List, [], ◌∷◌, ◌++◌, nat_eq, if◌then◌else◌}
use Rattle.fx_outcomes.specs.Runs.{Next, Goes, Stops}

pub record Many (R W : Type 0) : Type 0 where
  pub cpus : ℕ → R
  pub world : W

abbrev pub put : {R : Type 0} → (ℕ → R) → ℕ → R → ℕ → R
put f c r d = if nat_eq d c then r else f d

abbrev pub placed : {O R W T : Type 0} → (ℕ → R) → ℕ → Next O (R × W) T → Next O (Many R W) T
placed f c (Goes o x) = Goes o (record { cpus = put f c x.0; world = x.1 })
placed f c (Stops o t) = Stops o t

-- what processor c does by move, which sees its registers and the world
abbrev pub turn : {O R W T : Type 0} → (ℕ → R → W → Next O (R × W) T) → ℕ → Many R W → Next O (Many R W) T
turn move c m = placed m.cpus c (move c (m.cpus c) m.world)

-- so many turns in a row
abbrev pub then_next : {O S E : Type 0} → List O → Next O S E → Next O S E
then_next o (Goes p s) = Goes (o ++ p) s
then_next o (Stops p e) = Stops (o ++ p) e

abbrev pub join : {O X Y T : Type 0} → Next O X T → (X → Next O Y T) → Next O Y T
join (Goes o x) go = then_next o (go x)
join (Stops o t) go = Stops o t

abbrev pub ahead : {O R W T : Type 0} → (R → W → Next O (R × W) T) → ℕ → R → W → Next O (R × W) T
ahead move zero r w = Goes [] (r, w)
ahead move (suc n) r w = join (move r w) (λ x. ahead move n x.0 x.1)

-- a turn that leaves the world as the test wants it
abbrev pub watched : {O R W T : Type 0} → (W → Bool) → Next O (R × W) T → Next O (R × W) (Option T)
watched calm (Goes o x) = if calm x.1 then Goes o x else Stops o None
watched calm (Stops o t) = Stops o (Some t)

-- instructions one after the other, with no fetch
abbrev pub straight : {O R W T I : Type 0} → (I → R → W → Next O (R × W) T) → (W → Bool) → List I → R → W → Next O (R × W) (Option T)
straight perform calm [] r w = Goes [] (r, w)
straight perform calm (i ∷ is) r w = join (watched calm (perform i r w)) (λ x. straight perform calm is x.0 x.1)
