-- Slots in the tables of functions.
use Rattle.std.proofs.Common.{◌≡◌, ℕ, ◌+◌, ◌*◌, ◌<◌, ◌≤◌, List, [], ◌∷◌, map, refl, ap, arith}
use Rattle.std.specs.Prelude.{All}
use Rattle.std.proofs.lemmas.List.Elements.{All-nil, All-cons, All-map, All-weaker}
use Rattle.fx_c_ast.specs.declared.checked.TStruct.{TStruct}
use Rattle.fx_c_ast.specs.declared.checked.TLocal.{TLocal}
use Rattle.fx_c_ast.specs.declared.checked.TFunction.{TFunction}
use Rattle.fx_c_ast.specs.CheckedTrees.{TyTree, ty_tree, struct_types}
use Rattle.fx_c_ast.specs.Layout.{layout_of, round_up}
use Rattle.fx_shadow.specs.Frames.{HasFrame}
use Rattle.fx_match_rel.specs.Frames.{slots_of, slots_from, table_of, IsNear, IsFrame}

pub near_from : (ss : List (List TyTree)) (before : ℕ) (ls : List TLocal) → before + slots_of ss ls ≤ 65536 → All IsNear (slots_from ss before ls)
near_from ss before [] h = All-nil IsNear
near_from ss before (l ∷ ls) h =
    let room = round_up (layout_of ss (ty_tree l.ty)).size 16 in
    All-cons IsNear _ (slots_from ss (before + (room + 16)) ls) (omega arith, omega arith, omega arith) (near_from ss (before + (room + 16)) ls (omega arith))

-- the frames of a program whose functions have frames
pub frames_near : (structs : List TStruct) (fs : List TFunction) → All (HasFrame structs) fs → All IsFrame (map (table_of (struct_types structs)) fs)
frames_near structs fs h =
    All-map IsFrame (table_of (struct_types structs)) fs
    (All-weaker (HasFrame structs) (λ f. IsFrame (table_of (struct_types structs) f)) (λ f g. record { size = refl; small = g.small; slots = near_from (struct_types structs) 0 f.locals (omega (arith, g.small)) }) fs h)
