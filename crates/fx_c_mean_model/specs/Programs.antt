-- A checked program as plain data: what the steps of its run look at.
use Rattle.std.specs.Prelude.{ℕ, ◌+◌, ◌-◌, Bool, true, List, [], ◌∷◌, ◌++◌, length, map, take, replicate, slice_index_or}
use Rattle.fx_c_ast.specs.declared.parsed.Init.{Init}
use Rattle.fx_c_ast.specs.declared.parsed.Init.TheVariants as init
use Rattle.fx_c_ast.specs.declared.checked.TLocal.{TLocal}
use Rattle.fx_c_ast.specs.declared.checked.TGlobal.{TGlobal}
use Rattle.fx_c_ast.specs.declared.checked.TFunction.{TFunction}
use Rattle.fx_c_ast.specs.declared.checked.TProgram.{TProgram}
use Rattle.fx_c_ast.specs.CheckedTrees.{TyTree, VoidTy, TStmtTrees, NoTStmts, ty_tree, tstmt_trees, struct_types}
use Rattle.fx_c_ast.specs.Layout.{known_layouts, layout_of, members_end, round_up}
use Rattle.fx_c_ast.specs.StackUse.{fs}
use Rattle.fx_c_mean_blocks.specs.declared.value.Cell.{Cell}
use Rattle.fx_c_mean_blocks.specs.declared.value.Cell.TheVariants.{Byte}
use Rattle.fx_c_mean_blocks.specs.declared.value.Value.{Value}
use Rattle.fx_c_mean_blocks.specs.declared.block.Place.{Place}
use Rattle.fx_c_mean_blocks.specs.declared.block.Place.TheVariants.{Global, Literal, Local}
use Rattle.fx_c_mean_blocks.specs.declared.block.Object.{Object}
use Rattle.fx_c_mean_blocks.specs.Blocks.{bytes_of, cells_of}

pub record Variable : Type 0 where
  pub shared : Bool
  pub ty : TyTree

-- the first `params` of the variables are parameters; `frame` is the stack use of a call
pub record Function : Type 0 where
  pub library : ℕ
  pub gives : TyTree
  pub params : ℕ
  pub variables : List Variable
  pub body : TStmtTrees
  pub frame : ℕ

pub record GlobalVariable : Type 0 where
  pub library : ℕ
  pub ty : TyTree
  pub init : Init

pub record Program : Type 0 where
  pub structs : List (List TyTree)
  pub globals : List GlobalVariable
  pub literals : List (List ℕ)
  pub functions : List Function
  pub main : ℕ

abbrev pub variable_of : TLocal → Variable
variable_of l = record { shared = l.shared; ty = ty_tree l.ty }

abbrev pub function_of : List (List TyTree) → TFunction → Function
function_of structs f = record { library = f.library; gives = ty_tree f.result; params = f.params; variables = map variable_of f.locals; body = tstmt_trees f.body.items; frame = fs structs f }

abbrev pub global_of : TGlobal → GlobalVariable
global_of g = record { library = g.library; ty = ty_tree g.ty; init = g.init }

abbrev pub program_of : TProgram → Program
program_of p = record { structs = struct_types p.structs; globals = map global_of p.globals; literals = p.literals; functions = map (function_of (struct_types p.structs)) p.functions; main = p.main }

abbrev pub no_function : Function
no_function = record { library = 0; gives = VoidTy; params = 0; variables = []; body = NoTStmts; frame = 0 }

abbrev pub function_at : Program → ℕ → Function
function_at p f = slice_index_or p.functions f no_function

abbrev pub size_in : Program → TyTree → ℕ
size_in p t = (layout_of p.structs t).size

-- where a member begins: at the next multiple of its alignment (6.7.2.1)
abbrev pub offset_of : Program → ℕ → ℕ → ℕ
offset_of p n member =
    let members = slice_index_or p.structs n [] in
    round_up (members_end (known_layouts p.structs) 0 (take member members)) (layout_of p.structs (slice_index_or members member VoidTy)).align

-- ---- the objects that there are

abbrev pub byte_cells : List ℕ → List Cell
byte_cells bytes = map Byte bytes

abbrev pub zeros : ℕ → List Cell
zeros n = replicate n (Byte 0)

-- a global's bytes before the run: zeros, a number cut to its type, or a string with zeros behind it (6.7.9)
abbrev pub first_cells : ℕ → Init → List Cell
first_cells size init.Zero = zeros size
first_cells size (init.Number n) = bytes_of size n
first_cells size (init.Text bytes) = take size (byte_cells bytes ++ zeros (size - length bytes))

abbrev pub live_object : Place → ℕ → List Cell → Object
live_object place size cells = record { place = place; size = size; live = true; cells = cells }

abbrev pub global_objects : Program → ℕ → List GlobalVariable → List Object
global_objects p n [] = []
global_objects p n (g ∷ gs) = live_object (Global n) (size_in p g.ty) (first_cells (size_in p g.ty) g.init) ∷ global_objects p (n + 1) gs

abbrev pub literal_objects : ℕ → List (List ℕ) → List Object
literal_objects n [] = []
literal_objects n (bytes ∷ all) = live_object (Literal n) (length bytes) (byte_cells bytes) ∷ literal_objects (n + 1) all

-- memory before the run: the globals, then the literals
abbrev pub first_memory : Program → List Object
first_memory p = global_objects p 0 p.globals ++ literal_objects 0 p.literals

-- the objects of a call: a parameter has its argument's value, and every other variable is zero
abbrev pub call_objects : Program → ℕ → ℕ → List Variable → List Value → List Object
call_objects p f n [] values = []
call_objects p f n (x ∷ xs) [] = live_object (Local f n) (size_in p x.ty) (zeros (size_in p x.ty)) ∷ call_objects p f (n + 1) xs []
call_objects p f n (x ∷ xs) (v ∷ vs) = live_object (Local f n) (size_in p x.ty) (cells_of (size_in p x.ty) v) ∷ call_objects p f (n + 1) xs vs
