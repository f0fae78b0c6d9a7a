-- What the laws of the meaning say.
use Rattle.std.specs.Prelude.{◌≡◌, ℕ, ◌≤◌, Bool, true, false, List, [], length, Option, Some, None, slice_get}
use Rattle.fx_outcomes.specs.Runs.{Goes, Stops}
use Rattle.fx_outcomes.specs.Runs as runs
use Rattle.fx_outcomes.specs.Keeping.{IsPrefix}
use Rattle.fx_c_mean_blocks.specs.declared.value.Value.{Value}
use Rattle.fx_c_mean_blocks.specs.declared.value.Cell.{Cell}
use Rattle.fx_c_mean_blocks.specs.declared.block.Object.{Object}
use Rattle.fx_c_mean_blocks.specs.Blocks.{width, written, holds}
use Rattle.fx_c_mean_model.specs.declared.end.End.{End}
use Rattle.fx_c_mean_model.specs.declared.end.End.TheVariants.{Denied}
use Rattle.fx_c_mean_model.specs.declared.rights.Rights.{Rights}
use Rattle.fx_c_mean_model.specs.Programs.{Program}
use Rattle.fx_c_mean_model.specs.Rights.{may}
use Rattle.fx_c_mean_model.specs.States.{Spot, Does, Load, Store, ReadByte, WriteByte, Enter, Leave, FallOff}
use Rattle.fx_c_mean_model.specs.Steps.{State, Outcome, step, actor, further, place_of}
use Rattle.fx_c_mean_model.specs.Expected.{state_at}

-- what a run makes at a greater cost: the same operations or more, and the same end where there is one
pub record Grows {O E : Type 0} (less more : runs.Outcome O E) : Type 0 where
  pub made : IsPrefix less.made more.made
  pub finish : (e : E) → less.finish ≡ Some e → more ≡ less

-- at most one operation is made
abbrev pub IsOneOperation : Outcome → Type 0
IsOneOperation (Goes made s) = length made ≤ 1
IsOneOperation (Stops made e) = made ≡ []

-- the end is not a denial
abbrev pub IsNoDenial : End → Type 0
IsNoDenial (Denied c place offset write) = ⊥
IsNoDenial _ = Unit {0}

abbrev pub IsNotDenied : Outcome → Type 0
IsNotDenied (Goes made s) = Unit {0}
IsNotDenied (Stops made e) = IsNoDenial e

-- an access that a step makes: a read or a write of so many bytes where a value points to
pub record Access : Type 0 where
  pub write : Bool
  pub at : Value
  pub bytes : ℕ

abbrev pub access : Bool → Value → ℕ → Option Access
access write v n = Some (record { write = write; at = v; bytes = n })

abbrev pub access_at : Spot → Option Access
access_at (Does (Load ty v) rest) = access false v (width ty)
access_at (Does (Store ty to v) rest) = access true to (width ty)
access_at (Does (ReadByte ty to v done) rest) = access false (further v done) 1
access_at (Does (WriteByte ty to v done cell) rest) = access true (further to done) 1
access_at (Does _ rest) = None

-- the access that the step makes, if it makes one
abbrev pub access_of : State → Option Access
access_of s = access_at s.spot

-- Memory after a step is memory before it, or that with other cells where a write was made; a call appends
-- its objects, and a return ends them.
abbrev pub IsCallOrReturn : Spot → Type 0
IsCallOrReturn (Does (Enter f way values) rest) = Unit {0}
IsCallOrReturn (Does (Leave v) rest) = Unit {0}
IsCallOrReturn (Does FallOff rest) = Unit {0}
IsCallOrReturn (Does _ rest) = ⊥

abbrev pub Writes : Option Access → List Object → List Object → Type 0
Writes (Some a) before after = elim a.write as (λ _. Type 0) [ true ↦ (cells : List Cell) × (after ≡ written before a.at cells) | false ↦ after ≡ before ]
Writes None before after = after ≡ before

abbrev pub ChangesByAccess : State → Outcome → Type 0
ChangesByAccess s (Goes made after) = Writes (access_of s) s.memory after.memory
ChangesByAccess s (Stops made e) = Unit {0}

-- ---- ends

-- A denial is of an access that the step makes: by the function that runs, of bytes that a live object holds, and not
-- granted to the function's compartment.
pub record IsOfAccess (p : Program) (r : Rights) (s : State) (compartment object offset : ℕ) (write : Bool) : Type 0 where
  pub bytes : ℕ
  pub accesses : access_of s ≡ access write (place_of object offset) bytes
  pub acts : compartment ≡ actor p r s
  pub named : Object
  pub there : slice_get s.memory object ≡ Some named
  pub held : holds offset bytes named ≡ true
  pub refused : may p r compartment named.place write ≡ false

abbrev pub EndsByAccess : Program → Rights → State → End → Type 0
EndsByAccess p r s (Denied compartment object offset write) = IsOfAccess p r s compartment object offset write
EndsByAccess p r s _ = Unit {0}

-- where the step is denied, it is of an access that it makes
abbrev pub DeniesAccess : Program → Rights → State → Outcome → Type 0
DeniesAccess p r s (Goes made after) = Unit {0}
DeniesAccess p r s (Stops made e) = EndsByAccess p r s e

-- a run comes to an end by a step, made at the state that the steps before it lead to
pub record IsOfStep (p : Program) (r : Rights) (answers : List ℕ) (e : End) : Type 0 where
  pub steps : ℕ
  pub answer : ℕ
  pub ends : step p r answer (state_at p r answers steps) ≡ Stops [] e
