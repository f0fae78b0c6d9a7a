-- The layouts of structs, made round by round: after k rounds they are those in which at most k structs
-- stand inside one another by value.
use Rattle.std.specs.Prelude.{ℕ, zero, suc, List, length, map, replicate}
use Rattle.fx_c_ast.specs.declared.layout.Layout.{Layout}
use Rattle.fx_c_ast.specs.CheckedTrees.{TyTree, local_types, tstmt_trees}
use Rattle.fx_c_ast.specs.Layout.{members_layout}
use Rattle.fx_c_ast.specs.StackUse.{frame_size}
use Rattle.fx_c_ast.specs.declared.checked.TFunction.{TFunction}
use Rattle.fx_c_mean_control.specs.Tables.{looked_up}

-- each struct's layout, where those of the structs in it stand in a table
abbrev pub layer : List (List TyTree) → List Layout → List Layout
layer all table = map (members_layout (looked_up table)) all

unfoldable pub layers : List (List TyTree) → ℕ → List Layout
layers all zero = replicate (length all) (record { size = 0; align = 1 })
layers all (suc k) = layer all (layers all k)

abbrev pub all_layouts : List (List TyTree) → List Layout
all_layouts all = layers all (length all)

-- ---- stack use, where the layouts of structs are known

abbrev pub frame_by : (ℕ → Layout) → TFunction → ℕ
frame_by known f = frame_size known (local_types f.locals) (tstmt_trees f.body.items)
