-- What sections take, object by object.
use Rattle.std.proofs.Common.{◌≡◌, ◌≢◌, ℕ, zero, suc, ◌+◌, ◌<◌, ◌≤◌, List, [], ◌∷◌, ◌++◌, length, set, get_or, refl, sym, ap, subst, ◌∙◌, nat_eq, cond, Bool, true, false, if◌then◌else◌, arith}
use Rattle.std.proofs.lemmas.Bool.{eq-eqb, ne_eqb, cases_eq}
use Rattle.fx_sections.specs.declared.regions.Room.{Room}
use Rattle.fx_sections.specs.declared.regions.GlobalSize.{GlobalSize}
use Rattle.fx_sections.specs.Regions.{with_object, with_objects, sizes_in}
use Rattle.fx_sections.specs.Placement.{opening, room_of, rooms_from}

pub with_objects-append : (r : Room) (xs ys : List ℕ) → with_objects r (xs ++ ys) ≡ with_objects (with_objects r xs) ys
with_objects-append r [] ys = refl
with_objects-append r (x ∷ xs) ys = with_objects-append (with_object r x) xs ys

in_front : (b : Bool) (x : ℕ) (xs ys zs : List ℕ) → zs ≡ xs ++ ys → (if b then x ∷ zs else zs) ≡ (if b then x ∷ xs else xs) ++ ys
in_front true x xs ys zs e = ap (λ l. x ∷ l) e
in_front false x xs ys zs e = e

pub sizes_in-append : (k : ℕ) (xs ys : List GlobalSize) → sizes_in k (xs ++ ys) ≡ sizes_in k xs ++ sizes_in k ys
sizes_in-append k [] ys = refl
sizes_in-append k (x ∷ xs) ys = in_front (nat_eq x.section k) x.size (sizes_in k xs) (sizes_in k ys) (sizes_in k (xs ++ ys)) (sizes_in-append k xs ys)

-- one more global of the section
pub room_of-own : (n : ℕ) (os : List GlobalSize) (o : GlobalSize) (k : ℕ) → o.section ≡ k → room_of n (os ++ o ∷ []) k ≡ with_object (room_of n os k) o.size
room_of-own n os o k is =
    ap (with_objects (opening n k)) (sizes_in-append k os (o ∷ []) ∙ ap (λ b. sizes_in k os ++ (if b then o.size ∷ [] else [])) (eq-eqb o.section k is))
    ∙ with_objects-append (opening n k) (sizes_in k os) (o.size ∷ [])

append_nothing : (xs : List ℕ) → xs ++ [] ≡ xs
append_nothing [] = refl
append_nothing (x ∷ xs) = ap (λ l. x ∷ l) (append_nothing xs)

-- one more global of another section
pub room_of-other : (n : ℕ) (os : List GlobalSize) (o : GlobalSize) (k : ℕ) → o.section ≢ k → room_of n (os ++ o ∷ []) k ≡ room_of n os k
room_of-other n os o k other =
    ap (with_objects (opening n k)) (sizes_in-append k os (o ∷ []) ∙ ap (λ b. sizes_in k os ++ (if b then o.size ∷ [] else [])) (ne_eqb o.section k other) ∙ append_nothing (sizes_in k os))

pub length-rooms_from : (n : ℕ) (os : List GlobalSize) (k count : ℕ) → length (rooms_from n os k count) ≡ count
length-rooms_from n os k zero = refl
length-rooms_from n os k (suc count) = ap suc (length-rooms_from n os (k + 1) count)

pub get_or-rooms_from : (n : ℕ) (os : List GlobalSize) (k count j : ℕ) (d : Room) → j < count → get_or (rooms_from n os k count) j d ≡ room_of n os (k + j)
get_or-rooms_from n os k zero j d less = absurd (omega arith)
get_or-rooms_from n os k (suc count) zero d less = ap (room_of n os) (omega arith)
get_or-rooms_from n os k (suc count) (suc j) d less = get_or-rooms_from n os (k + 1) count j d (omega arith) ∙ ap (room_of n os) (omega arith)

pub rooms_from-more : (n : ℕ) (os : List GlobalSize) (k count : ℕ) → rooms_from n os k (count + 1) ≡ rooms_from n os k count ++ room_of n os (k + count) ∷ []
rooms_from-more n os k count = ap (rooms_from n os k) (add_one_suc count) ∙ by_count k count
  where
    add_one_suc : (c : ℕ) → c + 1 ≡ suc c
    add_one_suc c = omega arith

    by_count : (k count : ℕ) → rooms_from n os k (suc count) ≡ rooms_from n os k count ++ room_of n os (k + count) ∷ []
    by_count k zero = ap (λ j. room_of n os j ∷ []) (omega arith)
    by_count k (suc count) = ap (λ l. room_of n os k ∷ l) (by_count (k + 1) count ∙ ap (λ j. rooms_from n os (k + 1) count ++ room_of n os j ∷ []) (omega arith))

-- sections behind that of one more global stay
rooms_from-behind : (n : ℕ) (os : List GlobalSize) (o : GlobalSize) (k count : ℕ) → o.section < k → rooms_from n (os ++ o ∷ []) k count ≡ rooms_from n os k count
rooms_from-behind n os o k zero less = refl
rooms_from-behind n os o k (suc count) less =
    ap (λ r. r ∷ rooms_from n (os ++ o ∷ []) (k + 1) count) (room_of-other n os o k (λ e. absurd (omega (arith, e))))
    ∙ ap (λ l. room_of n os k ∷ l) (rooms_from-behind n os o (k + 1) count (omega arith))

-- one more global changes the room of its section alone
rooms_from-set : (n : ℕ) (os : List GlobalSize) (o : GlobalSize) (k count j : ℕ) → j < count → o.section ≡ k + j → rooms_from n (os ++ o ∷ []) k count ≡ set (rooms_from n os k count) j (with_object (room_of n os (k + j)) o.size)
rooms_from-set n os o k zero j less is = absurd (omega arith)
rooms_from-set n os o k (suc count) zero less is =
    let here : o.section ≡ k = omega (arith, is) in
    ap (λ r. r ∷ rooms_from n (os ++ o ∷ []) (k + 1) count) (room_of-own n os o k here ∙ ap (λ m. with_object (room_of n os m) o.size) (omega arith))
    ∙ ap (λ l. with_object (room_of n os (k + 0)) o.size ∷ l) (rooms_from-behind n os o (k + 1) count (omega arith))
rooms_from-set n os o k (suc count) (suc j) less is =
    ap (λ r. r ∷ rooms_from n (os ++ o ∷ []) (k + 1) count) (room_of-other n os o k (λ e. absurd (omega (arith, e, is))))
    ∙ ap (λ l. room_of n os k ∷ l) (rooms_from-set n os o (k + 1) count j (omega arith) (omega (arith, is))
    ∙ ap (λ m. set (rooms_from n os (k + 1) count) j (with_object (room_of n os m) o.size)) (omega arith))

pub rooms_more : (n : ℕ) (os : List GlobalSize) (o : GlobalSize) (count : ℕ) (room : Room) → o.section < count → room ≡ get_or (rooms_from n os 0 count) o.section room → rooms_from n (os ++ o ∷ []) 0 count ≡ set (rooms_from n os 0 count) o.section (with_object room o.size)
rooms_more n os o count room less is =
    let here : room ≡ room_of n os (0 + o.section) = is ∙ get_or-rooms_from n os 0 count o.section room less in
    rooms_from-set n os o 0 count o.section less (omega arith)
    ∙ ap (λ r. set (rooms_from n os 0 count) o.section (with_object r o.size)) (sym here)
