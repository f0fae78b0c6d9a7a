-- What a region has, where bytes are put into it one piece after another.
use Rattle.std.proofs.Common.{◌≡◌, ℕ, suc, ◌+◌, ◌-◌, ◌*◌, ◌/◌, ◌%◌, ◌^◌, ◌<◌, ◌≤◌, inl, inr, ◌⊎◌, Bool, true, false, Option, None, Some, List, [], ◌∷◌, length, drop, get_or, refl, sym, ap, ◌∙◌, arith, cond, drop-cons, add-one}
use Rattle.std.specs.Prelude.{nat_le, nat_lt, ◌&&◌, slice_get, slice_index, unwrap_or}
use Rattle.std.proofs.lemmas.Bool.Decides.{nat_tests}
use Rattle.std.proofs.lemmas.Nat.{div-mul-add, mod-mul-add, div-add-mod'}
use Rattle.std.proofs.lemmas.Option.{slice_get-get_or, slice_get_past}
use Rattle.fx_outcomes.proofs.Follows.{nat_split}
use Rattle.fx_image.specs.Layout.{first_stack}
use Rattle.fx_image.specs.declared.forms.Obj.{Obj}
use Rattle.fx_machine_model.specs.Layout.{first_of}
use Rattle.fx_machine_model.specs.Boot.{byte_from, object_byte}
use Rattle.fx_machine.specs.Filling.{over, in_each}

le_yes : (a b : ℕ) → a ≤ b → nat_le a b ≡ true
le_yes a b h = grind (arith, nat_tests)

le_no : (a b : ℕ) → b < a → nat_le a b ≡ false
le_no a b h = grind (arith, nat_tests)

lt_yes : (a b : ℕ) → a < b → nat_lt a b ≡ true
lt_yes a b h = grind (arith, nat_tests)

lt_no : (a b : ℕ) → b ≤ a → nat_lt a b ≡ false
lt_no a b h = grind (arith, nat_tests)

-- ---- bytes that begin at an address

from_here : (xs : List ℕ) (start a : ℕ) → start ≤ a → a < start + length xs → byte_from xs start a ≡ Some (slice_index xs (a - start))
from_here xs start a from to =
    ap (λ t. cond t (slice_get xs (a - start)) None) (le_yes start a from) ∙ slice_get-get_or xs (a - start) 0 (omega arith)

from_below : (xs : List ℕ) (start a : ℕ) → a < start → byte_from xs start a ≡ None
from_below xs start a lt = ap (λ t. cond t (slice_get xs (a - start)) None) (le_no start a lt)

from_past : (xs : List ℕ) (start a : ℕ) → start + length xs ≤ a → byte_from xs start a ≡ None
from_past xs start a past =
    ap (λ t. cond t (slice_get xs (a - start)) None) (le_yes start a (omega arith)) ∙ slice_get_past xs (a - start) (omega arith)

-- ---- objects

covered : (t u : Bool) → t ≡ true → u ≡ true → (t && u) ≡ true
covered t u p q = ap (λ x. x && u) p ∙ q

open_left : (t u : Bool) → t ≡ false → (t && u) ≡ false
open_left t u p = ap (λ x. x && u) p

open_right : (t u : Bool) → t ≡ true → u ≡ false → (t && u) ≡ false
open_right t u p q = ap (λ x. x && u) p ∙ q

-- the first of two objects goes over the other
over_object : (o : Obj) (rest : List Obj) (a d : ℕ) → unwrap_or (byte_from o.initial o.address a) (unwrap_or (object_byte rest a) d) ≡ unwrap_or (object_byte (o ∷ rest) a) d
over_object o rest a d =
    let size = length o.initial in
    let from = byte_from o.initial o.address a in
    let later = object_byte rest a in
    elim (nat_split o.address a) [
      | inl above ↦ elim (nat_split (o.address + size) a) [
        | inl past ↦
            let none = from_past o.initial o.address a past in
            ap (λ x. unwrap_or x (unwrap_or later d)) none
            ∙ sym (ap (λ t. unwrap_or (cond t from later) d) (open_right _ _ (le_yes o.address a above) (lt_no a (o.address + size) past)))
        | inr (k, e) ↦
            let some = from_here o.initial o.address a above (omega arith) in
            ap (λ x. unwrap_or x (unwrap_or later d)) some
            ∙ sym (ap (λ t. unwrap_or (cond t from later) d) (covered _ _ (le_yes o.address a above) (lt_yes a (o.address + size) (omega arith))) ∙ ap (λ x. unwrap_or x d) some)
      ]
      | inr (k, e) ↦
          let none = from_below o.initial o.address a (omega arith) in
          ap (λ x. unwrap_or x (unwrap_or later d)) none
          ∙ sym (ap (λ t. unwrap_or (cond t from later) d) (open_left _ _ (le_no o.address a (omega arith))))
    ]

split : (xs : List Obj) (i : ℕ) (o : Obj) → i < length xs → o ≡ get_or xs i o → drop i xs ≡ o ∷ drop (i + 1) xs
split xs i o lt is = drop-cons xs i o lt ∙ ap (λ x. x ∷ drop (suc i) xs) (sym is) ∙ ap (λ n. o ∷ drop n xs) (sym (add-one i))

pub object_before : (os : List Obj) (i : ℕ) (o : Obj) (new mid old : List ℕ) (start k : ℕ) → 0 < i → i ≤ length os → o ≡ get_or os (i - 1) o
    → slice_index new k ≡ over (byte_from o.initial o.address) start mid k
    → slice_index mid k ≡ over (object_byte (drop i os)) start old k
    → slice_index new k ≡ over (object_byte (drop (i - 1) os)) start old k
object_before os i o new mid old start k some within is put was =
    let a = start + k in
    let d = slice_index old k in
    let back : i - 1 + 1 ≡ i = omega arith in
    put ∙ ap (λ x. unwrap_or (byte_from o.initial o.address a) x) was ∙ over_object o (drop i os) a d
    ∙ ap (λ n. unwrap_or (object_byte (o ∷ drop n os) a) d) (sym back)
    ∙ ap (λ l. unwrap_or (object_byte l a) d) (sym (split os (i - 1) o (omega arith) is))

-- ---- idle words

chosen : (t u v w : Bool) (x y : Option ℕ) → t ≡ true → u ≡ true → v ≡ true → w ≡ true → cond (t && u && v && w) x y ≡ x
chosen t u v w x y p q r s =
    ap (λ b. cond (b && u && v && w) x y) p ∙ ap (λ b. cond (b && v && w) x y) q ∙ ap (λ b. cond (b && w) x y) r ∙ ap (λ b. cond b x y) s

and_no : (b : Bool) → (b && false) ≡ false
and_no true = refl
and_no false = refl

unless_first : (t u v w : Bool) (x : Option ℕ) → t ≡ false → cond (t && u && v && w) x None ≡ None
unless_first t u v w x p = ap (λ b. cond (b && u && v && w) x None) p

unless_third : (t u v w : Bool) (x : Option ℕ) → v ≡ false → cond (t && u && v && w) x None ≡ None
unless_third t u v w x p = ap (λ b. cond (t && u && b && w) x None) p ∙ ap (λ b. cond (b && w) x None) (and_no (t && u))

unless_fourth : (t u v w : Bool) (x : Option ℕ) → w ≡ false → cond (t && u && v && w) x None ≡ None
unless_fourth t u v w x p = ap (λ b. cond (t && u && v && b) x None) p ∙ ap (λ b. cond b x None) (and_no (t && u && v))

module _ (span place word : ℕ) (text : List ℕ) (inside : place + 8 ≤ span) (long : length text ≡ 8) (spells : (i : ℕ) → i < 8 → slice_index text i ≡ word / 256 ^ i % 256) where
  -- an address in the word of stack n
  word_here : (n a : ℕ) → first_stack + (n * span + place) ≤ a → a < first_stack + (n * span + place) + 8
      → in_each span place word (n + 1) a ≡ Some (slice_index text (a - (first_stack + (n * span + place))))
  word_here n a from to =
      let start : ℕ = first_stack + (n * span + place) in
      let i = a - start in
      let at = a - first_stack in
      let lt : place + i < span = omega arith in
      let is : at ≡ n * span + (place + i) = omega arith in
      let quotient : at / span ≡ n = ap (λ x. x / span) is ∙ div-mul-add n span (place + i) lt in
      let rest : at % span ≡ place + i = ap (λ x. x % span) is ∙ mod-mul-add n span (place + i) lt in
      let behind : at % span - place ≡ i = omega arith in
      chosen _ _ _ _ _ _ (le_yes first_stack a (omega arith)) (lt_yes (at / span) (n + 1) (omega arith)) (le_yes place (at % span) (omega arith)) (lt_yes (at % span) (place + 8) (omega arith))
      ∙ ap (λ e. Some (word / 256 ^ e % 256)) behind
      ∙ ap Some (sym (spells i (omega arith)))

  -- an address outside of it
  no_word : (n a : ℕ) → (a < first_stack + (n * span + place)) ⊎ (first_stack + (n * span + place) + 8 ≤ a) → in_each span place word n a ≡ in_each span place word (n + 1) a
  no_word n a out = elim (nat_split first_stack a) [
    | inl above ↦
        let at = a - first_stack in
        let t = nat_le first_stack a in
        let u = nat_lt (at / span) n in
        let more = nat_lt (at / span) (n + 1) in
        let v = nat_le place (at % span) in
        let w = nat_lt (at % span) (place + 8) in
        let x = Some (word / 256 ^ (at % span - place) % 256) in
        let whole : at / span * span + at % span ≡ at = div-add-mod' at span in
        elim (nat_split (at / span) n) [
          | inl not_past ↦ elim (nat_split n (at / span)) [
            | inl not_below ↦
                let same : at / span ≡ n = omega arith in
                let is : at ≡ n * span + at % span = sym whole ∙ ap (λ q. q * span + at % span) same in
                elim out [
                  | inl lower ↦
                      let third = le_no place (at % span) (omega arith) in
                      unless_third t u v w x third ∙ sym (unless_third t more v w x third)
                  | inr higher ↦
                      let fourth = lt_no (at % span) (place + 8) (omega arith) in
                      unless_fourth t u v w x fourth ∙ sym (unless_fourth t more v w x fourth)
                ]
            | inr (k, e) ↦ ap (λ b. cond (t && b && v && w) x None)
                (lt_yes (at / span) n (omega arith) ∙ sym (lt_yes (at / span) (n + 1) (omega arith)))
          ]
          | inr (k, e) ↦ ap (λ b. cond (t && b && v && w) x None)
              (lt_no (at / span) n (omega arith) ∙ sym (lt_no (at / span) (n + 1) (omega arith)))
        ]
    | inr (k, e) ↦
        let at = a - first_stack in
        let v = nat_le place (at % span) in
        let w = nat_lt (at % span) (place + 8) in
        let x = Some (word / 256 ^ (at % span - place) % 256) in
        let first = le_no first_stack a (omega arith) in
        unless_first (nat_le first_stack a) (nat_lt (at / span) n) v w x first ∙ sym (unless_first (nat_le first_stack a) (nat_lt (at / span) (n + 1)) v w x first)
  ]

  -- the word of one stack more
  pub word_more : (n : ℕ) (new mid old : List ℕ) (start k : ℕ)
      → slice_index new k ≡ over (byte_from text (first_stack + (n * span + place))) start mid k
      → slice_index mid k ≡ over (in_each span place word n) start old k
      → slice_index new k ≡ over (in_each span place word (n + 1)) start old k
  word_more n new mid old start k put was =
      let a = start + k in
      let d = slice_index old k in
      let low : ℕ = first_stack + (n * span + place) in
      let earlier = put ∙ ap (λ x. unwrap_or (byte_from text low a) x) was in
      elim (nat_split low a) [
        | inl above ↦ elim (nat_split (low + 8) a) [
          | inl past ↦ earlier ∙ ap (λ x. unwrap_or x (unwrap_or (in_each span place word n a) d)) (from_past text low a (omega arith)) ∙ ap (λ x. unwrap_or x d) (no_word n a (inr past))
          | inr (j, e) ↦
              earlier ∙ ap (λ x. unwrap_or x (unwrap_or (in_each span place word n a) d)) (from_here text low a above (omega arith))
              ∙ sym (ap (λ x. unwrap_or x d) (word_here n a above (omega arith)))
        ]
        | inr (j, e) ↦ earlier ∙ ap (λ x. unwrap_or x (unwrap_or (in_each span place word n a) d)) (from_below text low a (omega arith)) ∙ ap (λ x. unwrap_or x d) (no_word n a (inl (omega arith)))
      ]

-- ---- all of them

in_order : (c l o i : Option ℕ) (d : ℕ) → unwrap_or c (unwrap_or l (unwrap_or o (unwrap_or i d))) ≡ unwrap_or (first_of (c ∷ l ∷ o ∷ i ∷ [])) d
in_order (Some x) l o i d = refl
in_order None (Some x) o i d = refl
in_order None None (Some x) i d = refl
in_order None None None (Some x) d = refl
in_order None None None None d = refl

-- what is put later goes over what was put before
pub put_in_order : (code literal object idle : Option ℕ) (v w x y z : ℕ) → v ≡ unwrap_or code w → w ≡ unwrap_or literal x → x ≡ unwrap_or object y → y ≡ unwrap_or idle z → z ≡ 0
    → v ≡ unwrap_or (first_of (code ∷ literal ∷ object ∷ idle ∷ [])) 0
put_in_order code literal object idle v w x y z p q r s t =
    p ∙ ap (unwrap_or code) (q ∙ ap (unwrap_or literal) (r ∙ ap (unwrap_or object) (s ∙ ap (unwrap_or idle) t))) ∙ in_order code literal object idle 0
