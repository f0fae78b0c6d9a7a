-- Steps make one operation, and none is denied where everything is granted.
use Rattle.std.proofs.Common.{◌≡◌, ℕ, Bool, true, false, not, ◌||◌, [], if◌then◌else◌, refl, arith, Ok}
use Rattle.fx_outcomes.specs.Runs.{Stops}
use Rattle.fx_c_mean_blocks.specs.declared.block.Place.{Place}
use Rattle.fx_c_mean_blocks.specs.declared.block.Place.TheVariants.{Global, Literal, Local}
use Rattle.fx_c_mean_blocks.specs.Blocks.{unless_literal}
use Rattle.fx_c_mean_model.specs.declared.end.End.{End}
use Rattle.fx_c_mean_model.specs.declared.rights.Rights.{Rights}
use Rattle.fx_c_mean_model.specs.Programs.{Program}
use Rattle.fx_c_mean_model.specs.Rights.{may}
use Rattle.fx_c_mean_model.specs.Steps.{State, Outcome, actor}
use Rattle.fx_c_mean_model.specs.Laws.{IsOneOperation, IsNotDenied}
use Rattle.fx_c_mean_model.proofs.Every.{Closed}

chosen : (P : Outcome → Type 0) (b : Bool) (x : Outcome) (e : End) → P x → P (Stops [] e) → P (if b then x else Stops [] e)
chosen P true x e h k = h
chosen P false x e h k = k

pub one_made : (p : Program) (r : Rights) → Closed p r IsOneOperation
one_made p r = record {
  goes = λ s. omega arith;
  makes = λ op s. omega arith;
  stops = λ e h. refl;
  reads = λ s v place done h. chosen IsOneOperation _ done _ h refl;
  writes = λ s v place done l h. chosen IsOneOperation _ done _ h refl;
}

allowed : (b : Bool) (x : Outcome) (e : End) → b ≡ true → IsNotDenied x → IsNotDenied (if b then x else Stops [] e)
allowed true x e h k = k
allowed false x e h k = cc

-- where each access is granted that is no write to a literal, no step is denied
pub none_denied : (p : Program) (r : Rights) → ((s : State) (place : Place) → may p r (actor p r s) place false ≡ true) → ((s : State) (place : Place) → unless_literal place ≡ Ok place → may p r (actor p r s) place true ≡ true) → Closed p r IsNotDenied
none_denied p r reads writes = record {
  goes = λ s. tt;
  makes = λ op s. tt;
  stops = λ e h. h;
  reads = λ s v place done h. allowed _ done _ (reads s place) h;
  writes = λ s v place done l h. allowed _ done _ (writes s place l) h;
}

unguarded : (b : Bool) (x : Bool) → b ≡ false → not b || x ≡ true
unguarded false x e = refl
unguarded true x e = cc

unguarded_local : (b x y z : Bool) → b ≡ false → not b || x || y || z ≡ true
unguarded_local false x y z e = refl
unguarded_local true x y z e = cc

pub plain : (p : Program) (r : Rights) (c : ℕ) (place : Place) (write : Bool) → r.guarded ≡ false → (write ≡ true → unless_literal place ≡ Ok place) → may p r c place write ≡ true
plain p r c (Global n) write g l = unguarded r.guarded _ g
plain p r c (Literal n) true g l = let h = l refl in cc
plain p r c (Literal n) false g l = refl
plain p r c (Local f n) write g l = unguarded_local r.guarded _ _ _ g
