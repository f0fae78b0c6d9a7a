-- Loops over lists, one step on.
use Rattle.std.proofs.Common.{◌≡◌, ℕ, suc, ◌+◌, ◌*◌, ◌/◌, ◌-◌, ◌<◌, ◌≤◌, List, [], ◌∷◌, ◌++◌, length, map, take, drop, set, get_or, All, Option, None, Some, unwrap_or, position, refl, sym, ap, subst, ◌∙◌, inl, inr, append_assoc, arith}
use Rattle.std.proofs.lemmas.List.{drop_more, take_more, map-append, length-set, get_or-set_same, get_or-set_other}
use Rattle.std.proofs.lemmas.List.Quantifiers.{position-Some}
use Rattle.std.proofs.lemmas.Bool.{cases_eq}
use Rattle.fx_c_ast.specs.declared.checked.TGlobal.{TGlobal}
use Rattle.fx_c_ast.specs.CheckedTrees.{TyTree}
use Rattle.fx_grants.specs.declared.grants.Pair.{Pair}
use Rattle.fx_sections.specs.Pairs.{same_pair, section_of}
use Rattle.fx_sections.specs.declared.regions.Room.{Room}
use Rattle.fx_sections.specs.declared.regions.GlobalSize.{GlobalSize}
use Rattle.fx_sections.specs.Regions.{with_object}
use Rattle.fx_sections.specs.Placement.{global_size, sized, room_of, rooms_from, offsets}
use Rattle.fx_sections.proofs.Rooms.{rooms_more, get_or-rooms_from}

-- the object at a place, behind those before it
pub taken : {A : Type 0} (xs : List A) (i : ℕ) (x : A) → i < length xs → x ≡ get_or xs i x → take (i + 1) xs ≡ take i xs ++ x ∷ []
taken xs i x less is = take_more xs i x less ∙ ap (λ z. take i xs ++ z ∷ []) (sym is)

pub split : {A : Type 0} (xs : List A) (i : ℕ) (x : A) → i < length xs → x ≡ get_or xs i x → drop i xs ≡ x ∷ drop (i + 1) xs
split xs i x less is = drop_more xs i x less ∙ ap (λ z. z ∷ drop (i + 1) xs) (sym is)

pub rooms_step : (n count i : ℕ) (os : List GlobalSize) (o : GlobalSize) (rooms : List Room) (room : Room) → i < length os → o ≡ get_or os i o → o.section < count → rooms ≡ rooms_from n (take i os) 0 count → room ≡ get_or rooms o.section room
    → set rooms o.section (with_object room o.size) ≡ rooms_from n (take (i + 1) os) 0 count
rooms_step n count i os o rooms room less is there before here =
    ap (λ rs. set rs o.section (with_object room o.size)) before
    ∙ sym (rooms_more n (take i os) o count room there (here ∙ ap (λ rs. get_or rs o.section room) before))
    ∙ ap (λ l. rooms_from n l 0 count) (sym (taken os i o less is))

pub offsets_step : (n count i : ℕ) (os : List GlobalSize) (o : GlobalSize) (rooms : List Room) (room : Room) (found total : List ℕ) → i < length os → o ≡ get_or os i o → o.section < count → rooms ≡ rooms_from n (take i os) 0 count → room ≡ get_or rooms o.section room
    → found ++ offsets n (take i os) (drop i os) ≡ total → (found ++ room.next ∷ []) ++ offsets n (take (i + 1) os) (drop (i + 1) os) ≡ total
offsets_step n count i os o rooms room found total less is there before here so_far =
    let at : room ≡ room_of n (take i os) (0 + o.section) = here ∙ ap (λ rs. get_or rs o.section room) before ∙ get_or-rooms_from n (take i os) 0 count o.section room there in
    let value : room.next ≡ (room_of n (take i os) o.section).next = ap (λ (r : Room). r.next) at ∙ ap (λ k. (room_of n (take i os) k).next) (omega arith) in
    append_assoc found (room.next ∷ []) (offsets n (take (i + 1) os) (drop (i + 1) os))
    ∙ ap (λ v. found ++ v ∷ offsets n (take (i + 1) os) (drop (i + 1) os)) value
    ∙ ap (λ l. found ++ (room_of n (take i os) o.section).next ∷ offsets n l (drop (i + 1) os)) (taken os i o less is)
    ∙ sym (ap (λ l. found ++ offsets n (take i os) l) (split os i o less is))
    ∙ so_far

-- the global at a place, with its pair
pub sized_step : (ss : List (List TyTree)) (ps : List Pair) (gs : List TGlobal) (qs : List Pair) (i : ℕ) (g : TGlobal) (d : Pair) (o : GlobalSize) (found total : List GlobalSize) → i < length gs → g ≡ get_or gs i g → i < length qs → o.section ≡ section_of ps (get_or qs i d) → o.size ≡ global_size ss g
    → found ++ sized ss ps (drop i gs) (drop i qs) ≡ total → (found ++ o ∷ []) ++ sized ss ps (drop (i + 1) gs) (drop (i + 1) qs) ≡ total
sized_step ss ps gs qs i g d o found total less is within section size so_far =
    let rest = sized ss ps (drop (i + 1) gs) (drop (i + 1) qs) in
    append_assoc found (o ∷ []) rest
    ∙ ap (λ n. found ++ record { section = n; size = o.size } ∷ rest) section
    ∙ ap (λ n. found ++ record { section = section_of ps (get_or qs i d); size = n } ∷ rest) size
    ∙ sym (ap (λ l. found ++ sized ss ps l (drop i qs)) (split gs i g less is) ∙ ap (λ l. found ++ sized ss ps (g ∷ drop (i + 1) gs) l) (drop_more qs i d within))
    ∙ so_far

-- a section's number is one of a section
pub section_within : (ps : List Pair) (q : Pair) → 0 < length ps → section_of ps q < length ps
section_within ps q some = by (position (same_pair q) ps) refl
  where
    by : (r : Option ℕ) → position (same_pair q) ps ≡ r → unwrap_or (position (same_pair q) ps) 0 < length ps
    by None e = subst (λ r. unwrap_or r 0 < length ps) (sym e) some
    by (Some i) e = subst (λ r. unwrap_or r 0 < length ps) (sym e) (position-Some (same_pair q) ps i q e).0

-- one room changes, and the others keep what is known of them
pub all_set : (P Q : Room → Type 0) (rs : List Room) (i : ℕ) (r : Room) → i < length rs → All P rs → ((x : Room) → P x → Q x) → Q r → All Q (set rs i r)
all_set P Q rs i r within has more new k d less =
    elim (cases_eq k i) [
      | inl same ↦ subst Q (sym (ap (λ j. get_or (set rs i r) j d) same ∙ get_or-set_same rs i r d within)) new
      | inr other ↦ subst Q (sym (get_or-set_other rs i k r d other)) (more (get_or rs k d) (has k d (omega (arith, length-set rs i r))))
    ]

-- a room with one more global of at most 67,108,864 bytes
pub object_bounded : (r : Room) (size : ℕ) → size ≤ 67108864 → (with_object r size).next ≤ r.next + 67108896
object_bounded r size le = omega arith

pub object_ordered : (r : Room) (size : ℕ) → (with_object r size).end ≤ (with_object r size).next
object_ordered r size = omega arith

pub length-offsets : (n : ℕ) (before os : List GlobalSize) → length (offsets n before os) ≡ length os
length-offsets n before [] = refl
length-offsets n before (o ∷ os) = ap suc (length-offsets n (before ++ o ∷ []) os)

pub map_step : {A B : Type 0} (f : A → B) (xs : List A) (i : ℕ) (d : A) → i < length xs → map f (take i xs) ++ f (get_or xs i d) ∷ [] ≡ map f (take (i + 1) xs)
map_step f xs i d less = sym (ap (map f) (take_more xs i d less) ∙ map-append f (take i xs) (get_or xs i d ∷ []))
