-- What contracts see of the heads of a program.
use Rattle.std.specs.Prelude.{List, [], ◌∷◌, length}
use Rattle.fx_c_ast.specs.declared.checked.TGlobal.{TGlobal}
use Rattle.fx_c_ast.specs.CheckedTrees.{ty_tree}
use Rattle.fx_c_types_rules.specs.Structs.{struct_trees}
use Rattle.fx_c_types_rules.specs.Locals.{local_trees}
use Rattle.fx_c_types_heads.specs.declared.heads.Head.{Head}
use Rattle.fx_c_types_heads.specs.declared.heads.Heads.{Heads}
use Rattle.fx_c_types_heads.specs.Heads.{GlobalHead, FunctionHead, HeadsTree}

abbrev pub global_tree : TGlobal → GlobalHead
global_tree g = record { library = g.library; grant = g.grant; readers = g.readers; ty = ty_tree g.ty; name = g.name; init = g.init }

abbrev pub global_heads : List TGlobal → List GlobalHead
global_heads [] = []
global_heads (g ∷ gs) = global_tree g ∷ global_heads gs

abbrev pub function_head : Head → FunctionHead
function_head f = record { library = f.library; entry = f.entry; answer = ty_tree f.result; name = f.name; params = local_trees f.params }

abbrev pub function_heads : List Head → List FunctionHead
function_heads [] = []
function_heads (f ∷ fs) = function_head f ∷ function_heads fs

abbrev pub heads_tree : Heads → HeadsTree
heads_tree h = record {
  tags = h.tags;
  global_names = h.global_names;
  function_names = h.function_names;
  structs = struct_trees h.structs.items;
  layouts = h.layouts.items;
  globals = global_heads h.globals.items;
  functions = function_heads h.functions.items;
}
