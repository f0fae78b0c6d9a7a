-- What later stages need of the trees of a program that the check accepts.
use Rattle.std.specs.Prelude.{◌≤◌, ◌^◌, List, length, All}
use Rattle.fx_c_ast.specs.declared.checked.TMember.{TMember}
use Rattle.fx_c_ast.specs.declared.checked.TStruct.{TStruct}
use Rattle.fx_c_ast.specs.declared.checked.TGlobal.{TGlobal}
use Rattle.fx_c_ast.specs.declared.checked.TLocal.{TLocal}
use Rattle.fx_c_ast.specs.declared.checked.TFunction.{TFunction}
use Rattle.fx_c_ast.specs.declared.checked.TProgram.{TProgram}
use Rattle.fx_c_ast.specs.CheckedTrees.{ty_tree, tstmt_trees}
use Rattle.fx_c_types.specs.declared.program.SourceFile.{SourceFile}
use Rattle.fx_c_types.specs.WellTyped.{WellTyped}
use Rattle.fx_c_types_model.specs.Tables.{IsNamed, tables}
use Rattle.fx_c_types_model.specs.Nodes.{IsAnswer}
use Rattle.fx_c_types_model.specs.Trees.{AreRight}

-- 32 bits hold the number of each string, and that of each member of a struct
abbrev pub NumbersFit : TProgram → Type 0
NumbersFit p = (length p.literals ≤ 2 ^ 32) × All (λ (s : TStruct). length s.members ≤ 2 ^ 32) p.structs

-- each struct that a type of a global or of a member names is there
abbrev pub CheckedProgramsNameTypes : Type 0
CheckedProgramsNameTypes = (files : List SourceFile) (p : TProgram) → WellTyped files p
    → All (λ (v : TGlobal). IsNamed (length p.structs) (ty_tree v.ty)) p.globals
    × All (λ (s : TStruct). All (λ (m : TMember). IsNamed (length p.structs) (ty_tree m.ty)) s.members) p.structs

-- so is each that a type of a parameter or a local names, or that of a function's result, which is a scalar or void;
-- the parameters are there
abbrev pub CheckedFunctionsNameTypes : Type 0
CheckedFunctionsNameTypes = (files : List SourceFile) (p : TProgram) → WellTyped files p
    → All (λ (f : TFunction). IsNamed (length p.structs) (ty_tree f.result) × IsAnswer (ty_tree f.result) × (f.params ≤ length f.locals)
    × All (λ (l : TLocal). IsNamed (length p.structs) (ty_tree l.ty)) f.locals) p.functions

-- in each body all numbers are there and all types are right
abbrev pub CheckedProgramsAreRight : Type 0
CheckedProgramsAreRight = (files : List SourceFile) (p : TProgram) → WellTyped files p → NumbersFit p
    → All (λ (f : TFunction). AreRight (tables p f) (tstmt_trees f.body.items)) p.functions
