-- Parameters and locals as plain data.
use Rattle.std.specs.Prelude.{Bool, List, [], ◌∷◌}
use Rattle.fx_c_ast.specs.declared.checked.TLocal.{TLocal}
use Rattle.fx_c_ast.specs.CheckedTrees.{TyTree, ty_tree}

pub record LocalTree : Type 0 where
  pub shared : Bool
  pub ty : TyTree

abbrev pub local_trees : List TLocal → List LocalTree
local_trees [] = []
local_trees (l ∷ ls) = record { shared = l.shared; ty = ty_tree l.ty } ∷ local_trees ls

abbrev pub types_of_locals : List LocalTree → List TyTree
types_of_locals [] = []
types_of_locals (l ∷ ls) = l.ty ∷ types_of_locals ls
