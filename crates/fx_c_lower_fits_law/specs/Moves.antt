-- Programs that move no pointer by an unsigned long.
use Rattle.std.specs.Prelude.{All}
use Rattle.fx_c_ast.specs.declared.checked.TFunction.{TFunction}
use Rattle.fx_c_ast.specs.declared.checked.TProgram.{TProgram}
use Rattle.fx_c_ast.specs.CheckedTrees.{TyTree, IntTy, PtrTy, TExprTree, EBin, EIndex, tstmt_trees}
use Rattle.fx_c_mean_model.specs.Programs.{program_of}
use Rattle.fx_c_mean_model.specs.States.{type_of}
use Rattle.fx_c_types_model.specs.Each.{EachInAll}
use Rattle.fx_c_types_model.specs.Lowerable.{IsLowerable}
use Rattle.fx_c_lower_law.specs.Fits.{FitsIndex, FitsProgram}

-- the number of elements is no unsigned long
abbrev pub IsMovedBy : TyTree → TyTree → Type 0
IsMovedBy (PtrTy t) (IntTy i) = FitsIndex i
IsMovedBy (IntTy i) (PtrTy t) = FitsIndex i
IsMovedBy s t = Unit {0}

abbrev pub MovesFit : TExprTree → Type 0
MovesFit (EBin ty o a b) = IsMovedBy (type_of a) (type_of b)
MovesFit (EIndex ty a b) = IsMovedBy (type_of a) (type_of b)
MovesFit e = Unit {0}

abbrev pub AllMovesFit : TProgram → Type 0
AllMovesFit p = All (λ (f : TFunction). EachInAll MovesFit (tstmt_trees f.body.items)) p.functions

abbrev pub LowerableProgramsFit : Type 0
LowerableProgramsFit = (p : TProgram) → IsLowerable p → AllMovesFit p → FitsProgram (program_of p)
