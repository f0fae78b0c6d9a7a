-- Where a struct's members stand.
use Rattle.std.specs.Prelude.{ℕ, List, take, slice_index_or}
use Rattle.fx_c_ast.specs.declared.layout.Layout.{Layout}
use Rattle.fx_c_ast.specs.CheckedTrees.{TyTree, VoidTy}
use Rattle.fx_c_ast.specs.Layout.{type_layout, members_end, round_up}

-- where a member begins: at the next multiple of its alignment behind those before it
abbrev pub member_place : (ℕ → Layout) → List TyTree → ℕ → ℕ
member_place known members n = round_up (members_end known 0 (take n members)) (type_layout known (slice_index_or members n VoidTy)).align
