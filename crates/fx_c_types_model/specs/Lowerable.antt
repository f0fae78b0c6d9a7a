-- What lowering may take from a program that the checker accepts.
use Rattle.std.specs.Prelude.{◌≡◌, ℕ, ◌+◌, ◌<◌, ◌≤◌, ◌^◌, true, false, List, [], length, slice_index_or, All, HoldsAt}
use Rattle.fx_c_ast.specs.declared.checked.TStruct.{TStruct}
use Rattle.fx_c_ast.specs.declared.checked.TMember.{TMember}
use Rattle.fx_c_ast.specs.declared.checked.TGlobal.{TGlobal}
use Rattle.fx_c_ast.specs.declared.checked.TLocal.{TLocal}
use Rattle.fx_c_ast.specs.declared.checked.TFunction.{TFunction}
use Rattle.fx_c_ast.specs.declared.checked.TProgram.{TProgram}
use Rattle.fx_c_ast.specs.CheckedTrees.{TyTree, VoidTy, ty_tree, tstmt_trees, struct_types}
use Rattle.fx_c_ast.specs.Layout.{known_layouts, layout_of, IsSized, StructsAreSized}
use Rattle.fx_c_ast.specs.Members.{member_place}
use Rattle.fx_c_ast.specs.StackUse.{fs}
use Rattle.fx_c_types_model.specs.Tables.{IsNamed, tables}
use Rattle.fx_c_types_model.specs.Nodes.{IsAnswer}
use Rattle.fx_c_types_model.specs.Trees.{AreRight}
use Rattle.fx_c_types_model.specs.Each.{EachInAll}
use Rattle.fx_c_types_model.specs.Fits.{DeviceFits, ElementFits}
use Rattle.fx_c_types_model.specs.Jumps.{all_inside}
use Rattle.fx_c_types_model.specs.Values.{NumberFits, ConversionFits, AreEvaluated}
use Rattle.fx_c_types_model.specs.Counts.{body_nodes}

-- a type of the program that objects may have: it has a size, and each struct in it is there
abbrev pub IsObjectType : TProgram → TyTree → Type 0
IsObjectType p t = IsSized (known_layouts (struct_types p.structs)) (length p.structs) t × IsNamed (length p.structs) t

-- a struct has from 1 to 67,108,864 bytes
abbrev pub StructsHaveBytes : List (List TyTree) → Type 0
StructsHaveBytes structs = (n : ℕ) → n < length structs → (1 ≤ (known_layouts structs n).size) × ((known_layouts structs n).size ≤ 67108864)

-- a member ends within its struct
abbrev pub MembersLieInside : List (List TyTree) → Type 0
MembersLieInside structs =
    (n k : ℕ) → n < length structs → k < length (slice_index_or structs n [])
    → member_place (known_layouts structs) (slice_index_or structs n []) k + (layout_of structs (slice_index_or (slice_index_or structs n []) k VoidTy)).size ≤ (known_layouts structs n).size

-- a function of the program
pub record IsLowerableFunction (p : TProgram) (f : TFunction) : Type 0 where
  -- the parameters, at most six, are the first of its locals, all of which are objects
  pub few_params : f.params ≤ 6
  pub params : f.params ≤ length f.locals
  pub locals : All (λ (l : TLocal). IsObjectType p (ty_tree l.ty)) f.locals
  -- it gives an integer, a pointer or nothing
  pub answer : IsAnswer (ty_tree f.result)
  pub named : IsNamed (length p.structs) (ty_tree f.result)
  -- a call takes at most 65,536 bytes of stack
  pub frame : fs (struct_types p.structs) f ≤ 65536
  -- all numbers in the body are there and all types are right; a call has as many arguments as parameters
  pub right : AreRight (tables p f) (tstmt_trees f.body.items)
  -- `break` and `continue` stand in loops, and what is evaluated alone has a value
  pub jumps : all_inside false (tstmt_trees f.body.items) ≡ true
  pub values : AreEvaluated (tstmt_trees f.body.items)
  -- numbers fit their types, and conversions join types that differ
  pub numbers : EachInAll NumberFits (tstmt_trees f.body.items)
  pub conversions : EachInAll ConversionFits (tstmt_trees f.body.items)
  -- devices and registers are there, and elements that are counted have a size
  pub devices : EachInAll DeviceFits (tstmt_trees f.body.items)
  pub elements : EachInAll (ElementFits (struct_types p.structs)) (tstmt_trees f.body.items)

pub record IsLowerable (p : TProgram) : Type 0 where
  -- structs hold by value only those before them
  pub sized : StructsAreSized (struct_types p.structs)
  pub bytes : StructsHaveBytes (struct_types p.structs)
  pub inside : MembersLieInside (struct_types p.structs)
  pub members : All (λ (s : TStruct). All (λ (m : TMember). IsNamed (length p.structs) (ty_tree m.ty)) s.members) p.structs
  pub globals : All (λ (g : TGlobal). IsObjectType p (ty_tree g.ty)) p.globals
  pub functions : All (IsLowerableFunction p) p.functions
  -- it begins with a function that is there and takes no parameter
  pub main : p.main < length p.functions
  pub starts : HoldsAt (λ (f : TFunction). f.params ≡ 0) p.functions p.main
  -- 32 bits count the nodes of all bodies, the strings, the globals and the functions
  pub nodes : body_nodes p.functions < 2 ^ 32
  pub literals : length p.literals < 2 ^ 32
  pub few_globals : length p.globals < 2 ^ 32
  pub few_functions : length p.functions < 2 ^ 32
