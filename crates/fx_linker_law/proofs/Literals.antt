-- The bytes of literals, with those between them.
use Rattle.std.proofs.Common.{◌≡◌, ℕ, suc, ◌+◌, ◌-◌, ◌≤◌, List, [], ◌∷◌, ◌++◌, length, length-append, map, refl, ap, ◌∙◌, arith, lit≤}
use Rattle.std.specs.Prelude.{replicate, slice_index}
use Rattle.std.proofs.lemmas.List.{length-replicate}
use Rattle.fx_c_ast.proofs.Layouts.{round_from}
use Rattle.fx_sections.specs.declared.regions.Room.{Room}
use Rattle.fx_sections.specs.Regions.{with_object, with_objects, starts}
use Rattle.fx_linker.specs.Data.{literals_from}

abbrev sizes_of : List (List ℕ) → List ℕ
sizes_of ls = map (λ (l : List ℕ). length l) ls

object_behind : (r : Room) (size : ℕ) → r.next + size + 16 ≤ (with_object r size).next
object_behind r size = round_from (r.next + size + 16) 16 (lit≤ tt)

-- the places of literals are where objects of these sizes begin
abbrev Placed : List ℕ → ℕ → Room → List (List ℕ) → Type 0
Placed at i r ls = (j : ℕ) → slice_index at (i + j) ≡ slice_index (starts r (sizes_of ls)) j

pub literal_bytes : (at : List ℕ) (i before : ℕ) (r : Room) (ls : List (List ℕ)) → 0x60_0000 + before ≡ r.end → r.end ≤ r.next → Placed at i r ls
    → 0x60_0000 + before + length (literals_from at i before ls) ≡ (with_objects r (sizes_of ls)).end
literal_bytes at i before r [] same ordered from = omega (arith, same)
literal_bytes at i before r (l ∷ ls) same ordered from =
    let gap = slice_index at i - (0x60_0000 + before) in
    let e : i ≡ i + 0 = omega arith in
    let first : slice_index at i ≡ r.next = ap (slice_index at) e ∙ from 0 in
    let behind = before + gap + length l in
    let own : (with_object r (length l)).end ≡ r.next + length l = refl in
    let next : 0x60_0000 + behind ≡ (with_object r (length l)).end = omega (arith, first, same, ordered, own) in
    let more : (with_object r (length l)).end ≤ (with_object r (length l)).next = omega (arith, object_behind r (length l), own) in
    let others : Placed at (i + 1) (with_object r (length l)) ls = λ j. let f : i + 1 + j ≡ i + suc j = omega arith in ap (slice_index at) f ∙ from (suc j) in
    let rest = literal_bytes at (i + 1) behind (with_object r (length l)) ls next more others in
    let here : length ((replicate gap 0 ++ l) ++ literals_from at (i + 1) behind ls) ≡ gap + length l + length (literals_from at (i + 1) behind ls) =
    length-append (replicate gap 0 ++ l) (literals_from at (i + 1) behind ls)
    ∙ ap (λ n. n + length (literals_from at (i + 1) behind ls)) (length-append (replicate gap 0) l ∙ ap (λ n. n + length l) (length-replicate gap 0)) in
    omega (arith, here, rest)
