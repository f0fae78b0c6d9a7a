-- Which entry each region's pages have, and the small lemmas from which that is computed.
use Rattle.std.proofs.Common.{◌≡◌, ◌≢◌, ℕ, ◌+◌, ◌*◌, ◌-◌, ◌/◌, ◌%◌, ◌<◌, ◌≤◌, ◌⊎◌, inl, inr, Bool, true, false, Option, None, Some, List, [], ◌∷◌, length, refl, ap, sym, ◌∙◌, subst, arith, cond, zero, suc}
use Rattle.std.specs.Prelude.{nat_le, nat_lt, ◌==◌, ◌&&◌, nat_eq, sum_by, slice_get}
use Rattle.std.proofs.lemmas.Bool.Decides.{nat_tests}
use Rattle.std.proofs.lemmas.Bool.{cond-false}
use Rattle.std.proofs.lemmas.List.Sums.{sum_by-cons}
use Rattle.std.proofs.lemmas.Nat.{div-mul-add, mod-mul-add}
use Rattle.fx_vm_pages.specs.Access.{byte_refusal}
use Rattle.fx_vm_pages.specs.declared.entry.Pkru.{Pkru}
use Rattle.fx_vm_pages.specs.declared.access.Access.TheVariants.{Write}
use Rattle.fx_image.specs.Layout.{stack_low, stack_bytes, stack_span, first_stack, stack_count}
use Rattle.fx_image.specs.Rules.{IsImage, are_spread, are_few, ranges_end}
use Rattle.fx_image.specs.declared.forms.Section.{Section}
use Rattle.fx_image.specs.declared.forms.Image.{Image}
use Rattle.fx_machine_model.specs.Standing.{Fits}
use Rattle.fx_machine_model.specs.Layout.{page_entry, first_of, mapped, is_ept, maps_code, code_entry, literal_entry, mailbox_entry, thread_entry, device_entry, section_page, section_entry, stack_entry, owner_of, private_key, low_half}

pub le_true : (a b : ℕ) → a ≤ b → nat_le a b ≡ true
le_true a b h = grind (arith, nat_tests)

pub le_false : (a b : ℕ) → b < a → nat_le a b ≡ false
le_false a b h = grind (arith, nat_tests)

pub lt_true : (a b : ℕ) → a < b → nat_lt a b ≡ true
lt_true a b h = grind (arith, nat_tests)

pub lt_false : (a b : ℕ) → b ≤ a → nat_lt a b ≡ false
lt_false a b h = grind (arith, nat_tests)

pub eq_false : (a b : ℕ) → a ≢ b → nat_eq a b ≡ false
eq_false a b h = grind (arith, nat_tests)

-- A code page that the space maps.
pub code_page : (image : Image) (space page : ℕ) → 0x400 ≤ page → (page - 0x400) * 4096 < length image.code → maps_code image space ((page - 0x400) * 4096) ≡ true → page_entry image space page ≡ mapped page 2 0
unfolding page_entry
code_page image space page from to maps =
    let a = le_true 0x400 page from in
    let b = lt_true ((page - 0x400) * 4096) (length image.code) to in
    simp (a, b, maps)

-- Where there is one space, it maps all code.
pub maps_all : (image : Image) (space offset : ℕ) → is_ept image ≡ false → maps_code image space offset ≡ true
maps_all image space offset h = simp h

pub no_code : (image : Image) (space page : ℕ) → Fits image → 0x500 ≤ page → code_entry image space page ≡ None
no_code image space page f from =
    let c = f.code in
    let b : nat_lt ((page - 0x400) * 4096) (length image.code) ≡ false = lt_false ((page - 0x400) * 4096) (length image.code) (omega arith) in
    let a : nat_le 0x400 page ≡ true = le_true 0x400 page (omega arith) in
    simp (a, b)

pub no_literals : (image : Image) (page : ℕ) → Fits image → 0xe00 ≤ page → literal_entry image page ≡ None
no_literals image page f from =
    let c = f.literals in
    let b : nat_lt ((page - 0x600) * 4096) (length image.literals) ≡ false = lt_false ((page - 0x600) * 4096) (length image.literals) (omega arith) in
    let a : nat_le 0x600 page ≡ true = le_true 0x600 page (omega arith) in
    simp (a, b)

pub no_mailbox : (image : Image) (space page : ℕ) → is_ept image ≡ false → mailbox_entry image space page ≡ None
no_mailbox image space page h = cases (nat_le 0xe000 page) refl
  where
    cases : (t : Bool) → nat_le 0xe000 page ≡ t → mailbox_entry image space page ≡ None
    cases true e = simp (e, h)
    cases false e = simp e

pub no_thread : (image : Image) (space page : ℕ) → page ≢ 0xf000 → thread_entry image space page ≡ None
no_thread image space page h = let e = eq_false page 0xf000 h in simp e

pub no_device : (image : Image) (space page : ℕ) → 0xf110 ≤ page → device_entry image space page ≡ None
no_device image space page h =
    let a = le_true 0xf100 page (omega arith) in
    let b = lt_false page 0xf110 h in
    simp (a, b)

pub after_four : {A : Type 0} (a b c d : Option A) (rest : List (Option A)) → a ≡ None → b ≡ None → c ≡ None → d ≡ None → first_of (a ∷ b ∷ c ∷ d ∷ rest) ≡ first_of rest
after_four a b c d rest p q r s = rw (p, q, r, s) refl

pub after_two : {A : Type 0} (a b : Option A) (rest : List (Option A)) → a ≡ None → b ≡ None → first_of (a ∷ b ∷ rest) ≡ first_of rest
after_two a b rest p q = rw (p, q) refl

pub here : {A : Type 0} (a : Option A) (x : A) (rest : List (Option A)) → a ≡ Some x → first_of (a ∷ rest) ≡ Some x
here a x rest p = rw p refl

pub last_of : {A : Type 0} (a : Option A) → first_of (a ∷ []) ≡ a
last_of None = refl
last_of (Some x) = refl

pub first_four : (image : Image) (space page : ℕ) → Fits image → is_ept image ≡ false → 0xf001 ≤ page → page_entry image space page ≡ first_of (device_entry image space page ∷ section_entry (is_ept image) space page image.sections ∷ stack_entry image space page ∷ [])
unfolding page_entry
first_four image space page f h from =
    let ne : page ≢ 0xf000 = λ e. omega (arith, e) in
    after_four (code_entry image space page) (literal_entry image page) (mailbox_entry image space page) (thread_entry image space page) _
    (no_code image space page f (omega arith)) (no_literals image page f (omega arith)) (no_mailbox image space page h) (no_thread image space page ne)

-- Where there is one space, it maps each device's page.
pub device_page : (image : Image) (space page : ℕ) → Fits image → is_ept image ≡ false → 0xf100 ≤ page → page < 0xf110 → page_entry image space page ≡ mapped page 5 (private_key image (owner_of image (page - 0xf100)))
device_page image space page f h from to =
    let a = le_true 0xf100 page from in
    let b = lt_true page 0xf110 to in
    let e : device_entry image space page ≡ mapped page 5 (private_key image (owner_of image (page - 0xf100))) = simp (a, b, h) in
    first_four image space page f h (omega arith) ∙ here (device_entry image space page) _ _ e

-- A page of the low half of stack k, where there is one space.
pub stack_low_page : (image : Image) (space k place page : ℕ) → Fits image → is_ept image ≡ false → k < stack_count image → place < stack_bytes image → page * 4096 ≡ stack_low image k + place → page_entry image space page ≡ low_half image space k page
stack_low_page image space k place page f h small inside is =
    let q1 : nat_le first_stack (page * 4096) ≡ true = le_true first_stack (page * 4096) (omega arith) in
    let span : place < stack_span image = omega arith in
    let at : page * 4096 - first_stack ≡ k * stack_span image + place = omega arith in
    let d : (k * stack_span image + place) / stack_span image ≡ k = div-mul-add k (stack_span image) place span in
    let m : (k * stack_span image + place) % stack_span image ≡ place = mod-mul-add k (stack_span image) place span in
    let q2 : nat_lt k (stack_count image) ≡ true = lt_true k (stack_count image) small in
    let q3 : nat_lt place (stack_bytes image) ≡ true = lt_true place (stack_bytes image) inside in
    let e : stack_entry image space page ≡ low_half image space k page = simp (q1, at, d, m, q2, q3) in
    first_four image space page f h (omega arith)
    ∙ after_two (device_entry image space page) (section_entry (is_ept image) space page image.sections) _ (no_device image space page (omega arith)) (f.sections (is_ept image) space page (inr (omega arith)))
    ∙ last_of (stack_entry image space page) ∙ e

-- ---- code is never written

pub no_literals_below : (image : Image) (page : ℕ) → page < 0x600 → literal_entry image page ≡ None
no_literals_below image page h = let e = le_false 0x600 page h in simp e

pub no_mailbox_below : (image : Image) (space page : ℕ) → page < 0xe000 → mailbox_entry image space page ≡ None
no_mailbox_below image space page h = let e = le_false 0xe000 page h in simp e

pub no_device_below : (image : Image) (space page : ℕ) → page < 0xf100 → device_entry image space page ≡ None
no_device_below image space page h = let e = le_false 0xf100 page h in simp e

pub no_stack_below : (image : Image) (space page : ℕ) → page < 0x20000 → stack_entry image space page ≡ None
no_stack_below image space page h = let e = le_false first_stack (page * 4096) (omega arith) in simp e

-- A code page that the space doesn't map.
code_absent : (image : Image) (space page : ℕ) → Fits image → page < 0x500 → maps_code image space ((page - 0x400) * 4096) ≡ false → page_entry image space page ≡ None
unfolding page_entry
code_absent image space page f lt h =
    let ne : page ≢ 0xf000 = λ e. omega (arith, e) in
    let c : code_entry image space page ≡ None = unmapped (nat_le 0x400 page) (nat_lt ((page - 0x400) * 4096) (length image.code)) page h in
    after_four (code_entry image space page) (literal_entry image page) (mailbox_entry image space page) (thread_entry image space page) _
    c (no_literals_below image page (omega arith)) (no_mailbox_below image space page (omega arith)) (no_thread image space page ne)
    ∙ after_two (device_entry image space page) (section_entry (is_ept image) space page image.sections) _ (no_device_below image space page (omega arith)) (f.sections (is_ept image) space page (inl (omega arith)))
    ∙ last_of (stack_entry image space page) ∙ no_stack_below image space page (omega arith)
  where
    unmapped : (a b : Bool) (page : ℕ) {m : Bool} → m ≡ false → cond (a && b && m) (mapped page 2 0) None ≡ None
    unmapped true true page e = ap (λ t. cond t (mapped page 2 0) None) e
    unmapped true false page e = refl
    unmapped false b page e = refl

pub code_unwritable : (image : Image) (space page : ℕ) (pkru : Pkru) (form : Bool) → Fits image → 0x400 ≤ page → (page - 0x400) * 4096 < length image.code → byte_refusal (page_entry image space page) pkru Write form ≢ None
code_unwritable image space page pkru form f from to = cases (maps_code image space ((page - 0x400) * 4096)) refl
  where
    cases : (t : Bool) → maps_code image space ((page - 0x400) * 4096) ≡ t → byte_refusal (page_entry image space page) pkru Write form ≢ None
    cases true e h =
        let is = code_page image space page from to e in
        let x : byte_refusal (mapped page 2 0) pkru Write form ≡ None = subst (λ z. byte_refusal z pkru Write form ≡ None) is h in
        cc
    cases false e h =
        let c = f.code in
        let is = code_absent image space page f (omega arith) e in
        let x : byte_refusal None pkru Write form ≡ None = subst (λ z. byte_refusal z pkru Write form ≡ None) is h in
        cc

-- ---- an image that meets the field rules

pub both : (a b : Bool) → a && b ≡ true → (a ≡ true) × (b ≡ true)
both true b e = (refl, e)
both false b e = cc

pub same_if : (a b : ℕ) → nat_eq a b ≡ true → a ≡ b
same_if a b e = grind (arith, nat_tests)

pub below_if : (a b : ℕ) → nat_lt a b ≡ true → a < b
below_if a b e = grind (arith, nat_tests)

pub outside : (low high page : ℕ) → (page < low) ⊎ (high ≤ page) → nat_le low page && nat_lt page high ≡ false
outside low high page (inl h) = let e = le_false low page h in rw e refl
outside low high page (inr h) = cases (nat_le low page) refl
  where
    cases : (t : Bool) → nat_le low page ≡ t → t && nat_lt page high ≡ false
    cases true e = lt_false page high h
    cases false e = refl

no_section : (ept : Bool) (space page at : ℕ) (ss : List Section) → are_spread at ss ≡ true → (page < at) ⊎ (at + 2 * sum_by (λ (s : Section). s.pages) ss ≤ page) → section_entry ept space page ss ≡ None
no_section ept space page at [] h out = refl
no_section ept space page at (s ∷ ss) h out =
    let (head, tail) = both ((s.page == at) && nat_lt 0 s.pages) (are_spread (s.page + s.pages + 1) ss) h in
    let (starts, some) = both (s.page == at) (nat_lt 0 s.pages) head in
    let e : s.page ≡ at = same_if s.page at starts in
    let lt : 0 < s.pages = below_if 0 s.pages some in
    let sum = sum_by-cons (λ (s : Section). s.pages) s ss in
    let here : (page < s.page) ⊎ (s.page + s.pages ≤ page) = elim out [ inl h ↦ inl (omega arith) | inr h ↦ inr (omega arith) ] in
    let later : (page < s.page + s.pages + 1) ⊎ (s.page + s.pages + 1 + 2 * sum_by (λ (s : Section). s.pages) ss ≤ page) = elim out [ inl h ↦ inl (omega arith) | inr h ↦ inr (omega arith) ] in
    cond-false _ _ _ (outside s.page (s.page + s.pages) page here) ∙ no_section ept space page (s.page + s.pages + 1) ss tail later

front : (a b : Bool) → a && b ≡ true → a ≡ true
front a b e = (both a b e).0

parts : (image : Image) → IsImage image → are_spread 0x10000 image.sections && are_few image.mechanism image.sections ≡ true
parts image h = front _ _ (front _ _ (front _ _ (front _ _ (front _ _ (front _ _ h.sections)))))

-- The sections of such an image stand one behind the other.
pub spread : (image : Image) → IsImage image → are_spread 0x10000 image.sections ≡ true
spread image h = front _ _ (parts image h)

-- An image that meets the field rules fits.
pub fits : (image : Image) → IsImage image → Fits image
fits image h = record {
  code =
      let a = both (length image.code % 4096 == 0 && nat_le (length image.code) 1048576) (nat_le (ranges_end image.compartments) (length image.code)) h.code in
      at_most (length image.code) 1048576 (both (length image.code % 4096 == 0) (nat_le (length image.code) 1048576) a.0).1;
  literals = at_most (length image.literals) 8388608 h.literals;
  sections = λ ept space page out. no_section ept space page 0x10000 image.sections (spread image h) (elim out [ inl lt ↦ inl lt | inr le ↦ inr (let few = few_pages image h in omega arith) ]);
}
  where
    at_most : (a b : ℕ) → nat_le a b ≡ true → a ≤ b
    at_most a b e = grind (arith, nat_tests)

    few_pages : (image : Image) → IsImage image → sum_by (λ (s : Section). s.pages) image.sections ≤ 16384
    few_pages image h =
        let few = (both (are_spread 0x10000 image.sections) (are_few image.mechanism image.sections) (parts image h)).1 in
        at_most (sum_by (λ (s : Section). s.pages) image.sections) 16384 (front _ _ few)

-- ---- a section's pages

pub spread_from : (at : ℕ) (ss : List Section) (k : ℕ) (s : Section) → are_spread at ss ≡ true → slice_get ss k ≡ Some s → at ≤ s.page
spread_from at [] k s h e = cc
spread_from at (x ∷ ss) zero s h e =
    let one : x ≡ s = cc in
    let starts = (both (x.page == at) (nat_lt 0 x.pages) (both ((x.page == at) && nat_lt 0 x.pages) (are_spread (x.page + x.pages + 1) ss) h).0).0 in
    let is : x.page ≡ at = same_if x.page at starts in
    let page : x.page ≡ s.page = ap (λ (y : Section). y.page) one in
    omega arith
spread_from at (x ∷ ss) (suc k) s h e =
    let (head, tail) = both ((x.page == at) && nat_lt 0 x.pages) (are_spread (x.page + x.pages + 1) ss) h in
    let is : x.page ≡ at = same_if x.page at (both (x.page == at) (nat_lt 0 x.pages) head).0 in
    let ih = spread_from (x.page + x.pages + 1) ss k s tail e in
    omega arith

pub section_is : (ept : Bool) (space page at : ℕ) (ss : List Section) (k : ℕ) (s : Section) → are_spread at ss ≡ true → slice_get ss k ≡ Some s → s.page ≤ page → page < s.page + s.pages → section_entry ept space page ss ≡ section_page ept space page s
section_is ept space page at [] k s h e from to = cc
section_is ept space page at (x ∷ ss) zero s h e from to =
    let one : x ≡ s = cc in
    subst (λ (y : Section). section_entry ept space page (y ∷ ss) ≡ section_page ept space page s) (sym one)
    (let a = le_true s.page page from in let b = lt_true page (s.page + s.pages) to in simp (a, b))
section_is ept space page at (x ∷ ss) (suc k) s h e from to =
    let (head, tail) = both ((x.page == at) && nat_lt 0 x.pages) (are_spread (x.page + x.pages + 1) ss) h in
    let later = spread_from (x.page + x.pages + 1) ss k s tail e in
    cond-false _ _ _ (outside x.page (x.page + x.pages) page (inr (omega arith))) ∙ section_is ept space page (x.page + x.pages + 1) ss k s tail e from to

-- Where there is one space, it maps each section's pages for reading and writing, under the section's key.
pub section_page_at : (image : Image) (space page k : ℕ) (s : Section) → Fits image → is_ept image ≡ false → are_spread 0x10000 image.sections ≡ true → slice_get image.sections k ≡ Some s → s.page ≤ page → page < s.page + s.pages → page_entry image space page ≡ mapped page 1 s.key
section_page_at image space page k s f h spread e from to =
    let first = spread_from 0x10000 image.sections k s spread e in
    let is : section_entry (is_ept image) space page image.sections ≡ mapped page 1 s.key = section_is (is_ept image) space page 0x10000 image.sections k s spread e from to ∙ ap (λ t. section_page t space page s) h in
    first_four image space page f h (omega arith)
    ∙ ap (λ x. first_of (x ∷ section_entry (is_ept image) space page image.sections ∷ stack_entry image space page ∷ [])) (no_device image space page (omega arith))
    ∙ here (section_entry (is_ept image) space page image.sections) _ _ is
