-- What the numbers in a checked function's trees lead to.
use Rattle.std.specs.Prelude.{ℕ, ◌<◌, List, [], ◌∷◌, length, take, Option, Some, None, slice_get, slice_index_or}
use Rattle.fx_c_ast.specs.declared.operator.IntType.TheVariants.{Char}
use Rattle.fx_c_ast.specs.declared.checked.TFunction.{TFunction}
use Rattle.fx_c_ast.specs.declared.checked.TProgram.{TProgram}
use Rattle.fx_c_ast.specs.CheckedTrees.{TyTree, VoidTy, IntTy, StructTy, PtrTy, ArrayTy, ty_tree, struct_types}
use Rattle.fx_c_types_rules.specs.Locals.{LocalTree, local_trees}
use Rattle.fx_c_types_heads.specs.Heads.{GlobalHead, FunctionHead}
use Rattle.fx_c_types_heads.specs.HeadsView.{global_heads}

-- the members' types of each struct, the globals, the strings with their final zero bytes, the functions, the
-- function's own parameters and locals, its library and its result
pub record Tables : Type 0 where
  pub structs : List (List TyTree)
  pub globals : List GlobalHead
  pub literals : List (List ℕ)
  pub functions : List FunctionHead
  pub locals : List LocalTree
  pub library : ℕ
  pub answer : TyTree

-- a checked function as others call it: its parameters are the first of its locals
abbrev pub head_of : TFunction → FunctionHead
head_of f = record { library = f.library; entry = f.entry; answer = ty_tree f.result; name = f.name; params = take f.params (local_trees f.locals) }

abbrev pub heads_of : List TFunction → List FunctionHead
heads_of [] = []
heads_of (f ∷ fs) = head_of f ∷ heads_of fs

-- the tables of a function of a checked program
abbrev pub tables : TProgram → TFunction → Tables
tables p f = record {
  structs = struct_types p.structs;
  globals = global_heads p.globals;
  literals = p.literals;
  functions = heads_of p.functions;
  locals = local_trees f.locals;
  library = f.library;
  answer = ty_tree f.result;
}

-- each struct of the type is there, also one behind a pointer
abbrev pub IsNamed : ℕ → TyTree → Type 0
IsNamed structs VoidTy = Unit {0}
IsNamed structs (IntTy i) = Unit {0}
IsNamed structs (StructTy n) = n < structs
IsNamed structs (PtrTy t) = IsNamed structs t
IsNamed structs (ArrayTy t count) = IsNamed structs t

-- the type of the object with a number, if it is there

abbrev pub type_of_global : Option GlobalHead → Option TyTree
type_of_global None = None
type_of_global (Some g) = Some g.ty

abbrev pub global_type : List GlobalHead → ℕ → Option TyTree
global_type globals n = type_of_global (slice_get globals n)

abbrev pub type_of_local : Option LocalTree → Option TyTree
type_of_local None = None
type_of_local (Some l) = Some l.ty

abbrev pub local_type : List LocalTree → ℕ → Option TyTree
local_type locals n = type_of_local (slice_get locals n)

-- a string is an array of char
abbrev pub type_of_text : Option (List ℕ) → Option TyTree
type_of_text None = None
type_of_text (Some bytes) = Some (ArrayTy (IntTy Char) (length bytes))

abbrev pub literal_type : List (List ℕ) → ℕ → Option TyTree
literal_type literals n = type_of_text (slice_get literals n)

-- the type of a struct's member
abbrev pub member_type : List (List TyTree) → TyTree → ℕ → Option TyTree
member_type structs (StructTy k) n = slice_get (slice_index_or structs k []) n
member_type structs t n = None
