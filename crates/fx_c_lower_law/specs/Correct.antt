-- The law of lowering.
use Rattle.std.specs.Prelude.{ℕ, List}
use Rattle.fx_outcomes.specs.Keeping.{Refines}
use Rattle.fx_c_mean_model.specs.declared.end.End.{End}
use Rattle.fx_c_mean_model.specs.declared.end.End.TheVariants.{Undefined}
use Rattle.fx_c_mean_model.specs.declared.rights.Rights.{Rights}
use Rattle.fx_c_mean_model.specs.Programs.{Program}
use Rattle.fx_c_mean_model.specs.Expected.{expected}
use Rattle.fx_c_lin.specs.Machine.{performed}
use Rattle.fx_c_lower_model.specs.Code.{code_of}
use Rattle.fx_c_lower_law.specs.Fits.{FitsProgram}

abbrev pub IsUndefined : End → Type 0
IsUndefined Undefined = Unit {0}
IsUndefined _ = ⊥

-- at every cost the code's outcome is the program's, or the program's is undefined and the code's goes on from it
abbrev pub LoweringCorrect : Type 0
LoweringCorrect =
    (p : Program) (r : Rights) (answers : List ℕ) (k : ℕ) → FitsProgram p
    → Refines IsUndefined (expected p r answers k) (performed p r (code_of p) answers k)
