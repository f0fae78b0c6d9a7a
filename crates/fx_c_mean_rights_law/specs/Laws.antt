-- What rights change of a step and of a run, and what they say of accesses.
use Rattle.std.specs.Prelude.{◌≡◌, ℕ, ◌<◌, ◌⊎◌, Bool, false, List, [], length, Some, Ok}
use Rattle.fx_outcomes.specs.Runs.{Goes, Stops}
use Rattle.fx_outcomes.specs.Runs as runs
use Rattle.fx_outcomes.specs.Keeping.{IsPrefix}
use Rattle.fx_base.specs.declared.device_op.DeviceOp.{DeviceOp}
use Rattle.fx_config.specs.declared.configuration.Config.{Config}
use Rattle.fx_c_ast.specs.declared.checked.TProgram.{TProgram}
use Rattle.fx_grants.specs.declared.grants.Grants.{Grants}
use Rattle.fx_grants.specs.GrantSets.{merged_of, may_of}
use Rattle.fx_grants.specs.Refusals.{resolved}
use Rattle.fx_c_mean_blocks.specs.declared.block.Place.{Place}
use Rattle.fx_c_mean_blocks.specs.declared.block.Place.TheVariants.{Local}
use Rattle.fx_c_mean_model.specs.declared.end.End.{End}
use Rattle.fx_c_mean_model.specs.declared.end.End.TheVariants.{Denied, StackFull}
use Rattle.fx_c_mean_model.specs.declared.rights.Rights.{Rights}
use Rattle.fx_c_mean_model.specs.Programs.{Program, program_of}
use Rattle.fx_c_mean_model.specs.Rights.{home, may}
use Rattle.fx_c_mean_model.specs.Steps.{State, Outcome, step}
use Rattle.fx_c_mean_model.specs.Expected.{expected}
use Rattle.fx_c_mean.specs.Rights.{rights_of}
use Rattle.fx_c_mean.specs.Laws.{place_of}
use Rattle.fx_c_mean_rights_law.specs.Marks.{marked, never, uncrossed}

-- the rights refuse: an access, or a call for want of room on a stack
abbrev pub IsRefusal : End → Type 0
IsRefusal (Denied compartment object offset write) = Unit {0}
IsRefusal (StackFull thread stack) = Unit {0}
IsRefusal _ = ⊥

-- Two outcomes are the same but for the marks of callers, which are none in the first and changed in the second;
-- or one of them is refused, where the other goes on or is refused too.
abbrev pub SameBut : (Bool → Bool) → Outcome → Outcome → Type 0
SameBut mark (Goes made s) (Goes more t) = (made ≡ more) × (uncrossed s ≡ marked mark t)
SameBut mark (Goes made s) (Stops more f) = (more ≡ []) × IsRefusal f
SameBut mark (Stops made e) (Goes more t) = (made ≡ []) × IsRefusal e
SameBut mark (Stops made e) (Stops more f) = (made ≡ more) × ((e ≡ f) ⊎ (IsRefusal e × IsRefusal f))

-- one step under two rights, at states that are the same but for the marks of callers
abbrev pub RightsChangeLittle : Type 0
RightsChangeLittle =
    (p : Program) (r q : Rights) (answer : ℕ) (s t : State) → uncrossed s ≡ uncrossed t → SameBut never (step p r answer s) (step p q answer t)

-- the rights of one compartment, under plain calls
pub record AreMerged (p : Program) (r : Rights) : Type 0 where
  pub plain : r.guarded ≡ false
  pub homes : (f g : ℕ) → home p r f ≡ home p r g

-- of a run under rights and the run under those of one compartment: the other's stack is full; or it makes the same
-- operations or more, and comes to the same where this one ends without a refusal
abbrev pub OnlyRefused : runs.Outcome DeviceOp End → runs.Outcome DeviceOp End → Type 0
OnlyRefused x y =
    ((thread : ℕ) × (stack : ℕ) × (y.finish ≡ Some (StackFull thread stack)))
    ⊎ (IsPrefix x.made y.made × ((e : End) → x.finish ≡ Some e → IsRefusal e ⊎ (y ≡ x)))

abbrev pub RightsOnlyRefuse : Type 0
RightsOnlyRefuse = (p : Program) (r q : Rights) (answers : List ℕ) (k : ℕ) → AreMerged p q → OnlyRefused (expected p r answers k) (expected p q answers k)

abbrev pub MergedRightsAreMerged : Type 0
MergedRightsAreMerged = (p : TProgram) (k : Config) → AreMerged (program_of p) (rights_of (merged_of p k))

-- ---- rights and grants

-- a local is one of a function that there is
abbrev pub IsOfProgram : TProgram → Place → Type 0
IsOfProgram p (Local f local) = f < length p.functions
IsOfProgram p _ = Unit {0}

abbrev pub RightsAreGrants : Type 0
RightsAreGrants =
    (p : TProgram) (k : Config) (g : Grants) → resolved p k ≡ Ok g
    → (c : ℕ) → c < g.compartments → (place : Place) → IsOfProgram p place → (write : Bool) → may (program_of p) (rights_of g) c place write ≡ may_of g c (place_of place) write
