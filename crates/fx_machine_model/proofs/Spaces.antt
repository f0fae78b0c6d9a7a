-- No region reaches a page above 2^32.
use Rattle.std.proofs.Common.{◌≡◌, ◌≢◌, ℕ, ◌*◌, ◌-◌, ◌/◌, ◌%◌, ◌<◌, ◌≤◌, ◌^◌, inr, Bool, true, false, Option, None, [], ◌∷◌, length, refl, ap, ◌∙◌, arith, cond}
use Rattle.std.specs.Prelude.{nat_le, nat_lt, ◌&&◌, ◌||◌, not, ◌==◌}
use Rattle.std.proofs.Math.Nat.{div-lt_iff_lt-mul}
use Rattle.std.proofs.lemmas.Bool.Decides.{nat_tests}
use Rattle.fx_image.specs.Layout.{first_stack, stack_count, stack_span}
use Rattle.fx_image.specs.Rules.{IsImage}
use Rattle.fx_image.specs.declared.forms.Image.{Image}
use Rattle.fx_machine_model.specs.Layout.{first_of, mapped, is_ept, is_mailbox, page_entry, code_entry, literal_entry, mailbox_entry, thread_entry, device_entry, section_entry, stack_entry}
use Rattle.fx_machine_model.specs.Standing.{Fits}
use Rattle.fx_machine_model.proofs.Pages.{fits, no_thread, no_device}
use Rattle.fx_machine_model.proofs.Bounds.{Sized, sized, stacks_small}

no_code_above : (image : Image) (space page : ℕ) → Fits image → 2 ^ 32 ≤ page → code_entry image space page ≡ None
no_code_above image space page f top =
    let c = f.code in
    let a : nat_le 0x400 page ≡ true = grind (arith, nat_tests) in
    let b : nat_lt ((page - 0x400) * 4096) (length image.code) ≡ false = grind (arith, nat_tests) in
    simp (a, b)

no_literals_above : (image : Image) (page : ℕ) → Fits image → 2 ^ 32 ≤ page → literal_entry image page ≡ None
no_literals_above image page f top =
    let c = f.literals in
    let a : nat_le 0x600 page ≡ true = grind (arith, nat_tests) in
    let b : nat_lt ((page - 0x600) * 4096) (length image.literals) ≡ false = grind (arith, nat_tests) in
    simp (a, b)

unless_from : (ept other to near : Bool) (page : ℕ) → cond (ept && other && false && to && near) (mapped page 1 0) None ≡ None
unless_from true true to near page = refl
unless_from true false to near page = refl
unless_from false other to near page = refl

pub no_mailbox_past : (image : Image) (space page : ℕ) → Sized image → 0xe100 ≤ page → mailbox_entry image space page ≡ None
no_mailbox_past image space page s top =
    let n = s.compartments in
    let a : nat_le 0xe000 page ≡ true = grind (arith, nat_tests) in
    let from = (page - 0xe000) / 16 in
    let to = (page - 0xe000) % 16 in
    let b : nat_lt from (length image.compartments) ≡ false = grind (arith, nat_tests) in
    ap (λ t. cond (t && is_mailbox image space from to) (mapped page 1 0) None) a
    ∙ ap (λ t. cond (is_ept image && not (from == to) && t && nat_lt to (length image.compartments) && ((space == from) || (space == to))) (mapped page 1 0) None) b
    ∙ unless_from (is_ept image) (not (from == to)) (nat_lt to (length image.compartments)) ((space == from) || (space == to)) page

no_stack_above : (image : Image) (space page : ℕ) → Sized image → 2 ^ 32 ≤ page → stack_entry image space page ≡ None
no_stack_above image space page sized top =
    let s = stacks_small image sized in
    let at = page * 4096 - first_stack in
    let first : nat_le first_stack (page * 4096) ≡ true = grind (arith, nat_tests) in
    let not : at / stack_span image < stack_count image → ⊥ = λ lt.
    let small : at < stack_count image * stack_span image = (div-lt_iff_lt-mul {k = stack_span image} {x = at} {y = stack_count image} (omega arith)).0 lt in
    omega arith in
    let few : nat_lt (at / stack_span image) (stack_count image) ≡ false = grind (arith, nat_tests) in
    simp (first, few)

all_none : {A : Type 0} (a b c d e f g : Option A) → a ≡ None → b ≡ None → c ≡ None → d ≡ None → e ≡ None → f ≡ None → g ≡ None → first_of (a ∷ b ∷ c ∷ d ∷ e ∷ f ∷ g ∷ []) ≡ None
all_none a b c d e f g p q r s t u v = rw (p, q, r, s, t, u, v) refl

pub none_above : (image : Image) (space page : ℕ) → IsImage image → 2 ^ 32 ≤ page → page_entry image space page ≡ None
unfolding page_entry
none_above image space page h top =
    let f = fits image h in
    let s = sized image h in
    let ne : page ≢ 0xf000 = λ e. omega (arith, e) in
    all_none (code_entry image space page) (literal_entry image page) (mailbox_entry image space page) (thread_entry image space page) (device_entry image space page) (section_entry (is_ept image) space page image.sections) (stack_entry image space page)
    (no_code_above image space page f top) (no_literals_above image page f top) (no_mailbox_past image space page s (omega arith)) (no_thread image space page ne) (no_device image space page (omega arith))
    (f.sections (is_ept image) space page (inr (omega arith))) (no_stack_above image space page s top)
