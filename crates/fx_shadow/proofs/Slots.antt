-- Slots beside one another.
use Rattle.std.proofs.Common.{◌≡◌, ℕ, ◌+◌, ◌*◌, ◌/◌, ◌%◌, ◌<◌, ◌≤◌, List, [], ◌∷◌, ◌++◌, length, take, drop, get_or, refl, sym, ap, ◌∙◌, arith, lit≤}
use Rattle.std.proofs.lemmas.List.{take_more, take-append-drop, take-take}
use Rattle.fx_c_ast.specs.declared.checked.TLocal.{TLocal}
use Rattle.fx_c_ast.specs.CheckedTrees.{TyTree, ty_tree}
use Rattle.fx_c_ast.specs.Layout.{layout_of, round_up}
use Rattle.fx_c_ast.proofs.Layouts.{round_from}
use Rattle.fx_shadow.specs.Frames.{slots_of, slot_below}

slots_size-append : (ss : List (List TyTree)) (xs ys : List TLocal) → slots_of ss (xs ++ ys) ≡ slots_of ss xs + slots_of ss ys
slots_size-append ss [] ys = omega arith
slots_size-append ss (x ∷ xs) ys = omega (arith, slots_size-append ss xs ys)

-- a front of the slots takes no more than all of them
pub slots_size-take : (ss : List (List TyTree)) (n : ℕ) (xs : List TLocal) → slots_of ss (take n xs) ≤ slots_of ss xs
slots_size-take ss n xs =
    let e = slots_size-append ss (take n xs) (drop n xs) in
    let whole = ap (slots_of ss) (take-append-drop n xs) in
    omega arith

-- the slots up to one are those before it and its own
pub slot_below-last : (ss : List (List TyTree)) (xs : List TLocal) (i : ℕ) (d : TLocal) → i < length xs → slot_below ss xs i ≡ slots_of ss (take i xs) + (round_up (layout_of ss (ty_tree (get_or xs i d).ty)).size 16 + 16)
slot_below-last ss xs i d l =
    let e = ap (slots_of ss) (take_more xs i d l) in
    let more = slots_size-append ss (take i xs) (get_or xs i d ∷ []) in
    omega arith

pub slots_apart : (ss : List (List TyTree)) (xs : List TLocal) (i j : ℕ) → i < j → j < length xs → (d : TLocal) → slot_below ss xs i + (layout_of ss (ty_tree (get_or xs j d).ty)).size + 16 ≤ slot_below ss xs j
slots_apart ss xs i j less l d =
    let size = (layout_of ss (ty_tree (get_or xs j d).ty)).size in
    let before : slots_of ss (take (i + 1) (take j xs)) ≤ slots_of ss (take j xs) = slots_size-take ss (i + 1) (take j xs) in
    let same : slots_of ss (take (i + 1) (take j xs)) ≡ slots_of ss (take (i + 1) xs) = ap (slots_of ss) (take-take (i + 1) j xs (omega arith)) in
    let up : size ≤ round_up size 16 = round_from size 16 (lit≤ tt) in
    let last = slot_below-last ss xs j d l in
    omega arith

pub slot_inside : (ss : List (List TyTree)) (xs : List TLocal) (i : ℕ) → i < length xs → (d : TLocal) → (layout_of ss (ty_tree (get_or xs i d).ty)).size + 16 ≤ slot_below ss xs i
slot_inside ss xs i l d =
    let size = (layout_of ss (ty_tree (get_or xs i d).ty)).size in
    let up : size ≤ round_up size 16 = round_from size 16 (lit≤ tt) in
    let last = slot_below-last ss xs i d l in
    omega arith

pub slots_multiple : (ss : List (List TyTree)) (xs : List TLocal) → slots_of ss xs % 16 ≡ 0
slots_multiple ss [] = refl
slots_multiple ss (x ∷ xs) =
    let rest = slots_multiple ss xs in
    sixteens (((layout_of ss (ty_tree x.ty)).size + 15) / 16) (slots_of ss xs) rest
  where
    sixteens : (n r : ℕ) → r % 16 ≡ 0 → (n * 16 + 16 + r) % 16 ≡ 0
    sixteens n r h = omega arith
