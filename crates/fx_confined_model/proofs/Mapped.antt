-- The entries of granted pages, where there is one space.
use Rattle.std.proofs.Common.{◌≡◌, ℕ, ◌*◌, ◌-◌, ◌<◌, ◌≤◌, inr, Bool, true, false, Option, None, Some, List, ◌∷◌, length, refl, ap, ◌∙◌, arith, cond}
use Rattle.std.specs.Prelude.{nat_eq, ◌&&◌, not}
use Rattle.std.proofs.lemmas.Bool.Decides.{nat_tests}
use Rattle.fx_image.specs.Keys.{is_keyed}
use Rattle.fx_image.specs.Layout.{stack_bytes, first_stack, stack_count, has_halves}
use Rattle.fx_image.specs.declared.forms.Image.{Image}
use Rattle.fx_machine_model.specs.Layout.{page_entry, first_of, mapped, is_ept, code_entry, literal_entry, mailbox_entry, thread_entry, device_entry, section_entry, stack_entry, private_key, low_half, high_half, common_key, stack_compartment, stack_of, place_of}
use Rattle.fx_machine_model.specs.Standing.{Fits}
use Rattle.fx_machine_model.proofs.Pages.{le_true, lt_true, lt_false, no_code, no_literals, no_mailbox, no_device, after_two, last_of, first_four}

second : {A : Type 0} (a b : Option A) (x : A) (rest : List (Option A)) → a ≡ None → b ≡ Some x → first_of (a ∷ b ∷ rest) ≡ Some x
second a b x rest p q = rw (p, q) refl

fourth : {A : Type 0} (a b c d : Option A) (x : A) (rest : List (Option A)) → a ≡ None → b ≡ None → c ≡ None → d ≡ Some x → first_of (a ∷ b ∷ c ∷ d ∷ rest) ≡ Some x
fourth a b c d x rest p q r s = rw (p, q, r, s) refl

pub literal_page : (image : Image) (space page : ℕ) → Fits image → 0x600 ≤ page → (page - 0x600) * 4096 < length image.literals → page_entry image space page ≡ mapped page 0 0
unfolding page_entry
literal_page image space page f from to =
    let a = le_true 0x600 page from in
    let b = lt_true ((page - 0x600) * 4096) (length image.literals) to in
    let e : literal_entry image page ≡ mapped page 0 0 = simp (a, b) in
    second (code_entry image space page) (literal_entry image page) _ _ (no_code image space page f (omega arith)) e

pub thread_page : (image : Image) (space page : ℕ) → Fits image → is_ept image ≡ false → is_keyed image.mechanism ≡ true → page ≡ 0xf000 → page_entry image space page ≡ mapped page 1 1
unfolding page_entry
thread_page image space page f single keyed at =
    let a : nat_eq page 0xf000 ≡ true = grind (arith, nat_tests) in
    let e : thread_entry image space page ≡ mapped page 1 1 = simp (a, single, keyed) in
    fourth (code_entry image space page) (literal_entry image page) (mailbox_entry image space page) (thread_entry image space page) _ _
    (no_code image space page f (omega arith)) (no_literals image page f (omega arith)) (no_mailbox image space page single) e

stack_is : (image : Image) (space page : ℕ) → Fits image → is_ept image ≡ false → first_stack ≤ page * 4096 → page_entry image space page ≡ stack_entry image space page
stack_is image space page f h from =
    first_four image space page f h (omega arith)
    ∙ after_two (device_entry image space page) (section_entry (is_ept image) space page image.sections) _ (no_device image space page (omega arith)) (f.sections (is_ept image) space page (inr (omega arith)))
    ∙ last_of (stack_entry image space page)

-- The key of a low half.
abbrev pub half_key : Image → ℕ → ℕ
half_key image page = cond (has_halves image.mechanism) (private_key image (stack_compartment image (stack_of image page))) (common_key image)

by_half : (page a b : ℕ) (halves closed : Bool) → closed ≡ false → cond (not halves) (mapped page 1 a) (cond closed None (mapped page 1 b)) ≡ mapped page 1 (cond halves b a)
by_half page a b true closed e = rw e refl
by_half page a b false closed e = refl

pub low_page : (image : Image) (space page : ℕ) → Fits image → is_ept image ≡ false → first_stack ≤ page * 4096 → stack_of image page < stack_count image → place_of image page < stack_bytes image → page_entry image space page ≡ mapped page 1 (half_key image page)
low_page image space page f h from small inside =
    let q1 = le_true first_stack (page * 4096) from in
    let q2 = lt_true (stack_of image page) (stack_count image) small in
    let q3 = lt_true (place_of image page) (stack_bytes image) inside in
    let e : stack_entry image space page ≡ low_half image space (stack_of image page) page = simp (q1, q2, q3) in
    stack_is image space page f h from ∙ e
    ∙ by_half page (common_key image) (private_key image (stack_compartment image (stack_of image page))) (has_halves image.mechanism) (is_ept image && not (nat_eq space (stack_compartment image (stack_of image page)))) (ap (λ t. t && not (nat_eq space (stack_compartment image (stack_of image page)))) h)

pub high_page : (image : Image) (space page : ℕ) → Fits image → is_ept image ≡ false → first_stack ≤ page * 4096 → stack_of image page < stack_count image → stack_bytes image ≤ place_of image page → place_of image page < 2 * stack_bytes image → has_halves image.mechanism ≡ true → page_entry image space page ≡ mapped page 1 (common_key image)
high_page image space page f h from small past inside halves =
    let q1 = le_true first_stack (page * 4096) from in
    let q2 = lt_true (stack_of image page) (stack_count image) small in
    let q3 = lt_false (place_of image page) (stack_bytes image) past in
    let q4 = lt_true (place_of image page) (2 * stack_bytes image) inside in
    let e : stack_entry image space page ≡ high_half image page = simp (q1, q2, q3, q4) in
    stack_is image space page f h from ∙ e ∙ ap (λ t. cond t (mapped page 1 (common_key image)) None) halves
