-- Where a store is permitted and is no device's, a region has the bytes.
use Rattle.std.proofs.Common.{◌≡◌, ℕ, zero, suc, ◌+◌, ◌-◌, ◌*◌, ◌/◌, ◌%◌, ◌^◌, ◌<◌, ◌≤◌, Bool, true, false, Option, None, Some, List, [], ◌∷◌, length, refl, sym, ap, ◌∙◌, subst, arith, lit<, inl, inr}
use Rattle.std.specs.Prelude.{nat_lt, nat_eq, ◌&&◌, ◌||◌, ◌==◌, not, slice_get, if◌then◌else◌}
use Rattle.std.proofs.Math.Nat.{mul_left_comm, div-lt_iff_lt-mul}
use Rattle.std.proofs.lemmas.Bool.Decides.{nat_tests}
use Rattle.fx_x64_forms.specs.Numbers.{width_bytes}
use Rattle.fx_x64_forms.specs.declared.operand.Width.{Width}
use Rattle.fx_x64_forms.specs.declared.operand.Width.TheVariants.{W8, W16, W32, W64}
use Rattle.fx_vm_pages.specs.Access.{byte_refusal, access_check, page_of, is_register_form}
use Rattle.fx_vm_pages.specs.Entries.{is_device}
use Rattle.fx_vm_pages.specs.declared.entry.Entry.{Entry}
use Rattle.fx_vm_pages.specs.declared.entry.Pkru.{Pkru}
use Rattle.fx_vm_pages.specs.declared.access.Access.TheVariants.{Write}
use Rattle.fx_cpu.specs.Memory.{on}
use Rattle.fx_image.specs.Layout.{first_stack, stack_count, stack_span}
use Rattle.fx_image.specs.Keys.{has_member}
use Rattle.fx_image.specs.declared.forms.Section.{Section}
use Rattle.fx_image.specs.Rules.{IsImage}
use Rattle.fx_image.specs.declared.forms.Image.{Image}
use Rattle.fx_machine_model.specs.Layout.{page_entry, mapped, is_ept, is_mailbox, section_page, private_key, owner_of, stack_of}
use Rattle.fx_machine_model.specs.Moves.{device_at}
use Rattle.fx_machine_model.specs.Regions.{word_start, sections_start, sections_end, stacks_length}
use Rattle.fx_outcomes.proofs.Follows.{nat_split}
use Rattle.fx_machine_model.proofs.Checks.{each_free, first_free}
use Rattle.fx_machine_model.proofs.Bounds.{both, sized}
use Rattle.fx_machine_model.proofs.ByRegion.{Regions, by_region}
use Rattle.fx_machine_model.proofs.Pages.{fits, spread, spread_from, section_is}
use Rattle.fx_machine.specs.Reaching.{IsPlain}
use Rattle.fx_machine.specs.Memory.{mail_start, is_held, IsLaidOut}
use Rattle.fx_machine.specs.declared.memory.Memory.{Memory}
use Rattle.fx_machine_model.proofs.Spaces.{none_above}
use Rattle.fx_machine.proofs.Held.{at_stacks, at_sections, at_word, at_mail}

eq_if : (a b : ℕ) → nat_eq a b ≡ true → a ≡ b
eq_if a b e = grind (arith, nat_tests)

lt_yes : (a b : ℕ) → a < b → nat_lt a b ≡ true
lt_yes a b h = grind (arith, nat_tests)

-- ---- an address in a region

has_stacks : (m : Memory) (a : ℕ) → first_stack ≤ a → a - first_stack < length m.stacks.items → is_held m a ≡ true
has_stacks m a h lt = at_stacks a _ _ _ _ _ h ∙ lt_yes (a - first_stack) (length m.stacks.items) lt

has_sections : (m : Memory) (a : ℕ) → sections_start ≤ a → a < first_stack → a - sections_start < length m.sections.items → is_held m a ≡ true
has_sections m a h top lt = at_sections a _ _ _ _ _ h top ∙ lt_yes (a - sections_start) (length m.sections.items) lt

has_word : (m : Memory) (a : ℕ) → word_start ≤ a → a < sections_start → a - word_start < length m.word.items → is_held m a ≡ true
has_word m a h top lt = at_word a _ _ _ _ _ h top ∙ lt_yes (a - word_start) (length m.word.items) lt

has_mail : (m : Memory) (a : ℕ) → mail_start ≤ a → a < word_start → a - mail_start < length m.mail.items → is_held m a ≡ true
has_mail m a h top lt = at_mail a _ _ _ _ _ h top ∙ lt_yes (a - mail_start) (length m.mail.items) lt

-- what is asked of the entry of an address: where it may be written and is no device's, a region has it
abbrev Holds : Memory → ℕ → Pkru → Bool → Option Entry → Type 0
Holds memory a pkru form entry = byte_refusal entry pkru Write form ≡ None → (form ≡ true → IsPlain entry) → is_held memory a ≡ true

device_holds : (memory : Memory) (a page key : ℕ) (pkru : Pkru) (form : Bool) → Holds memory a pkru form (mapped page 5 key)
device_holds memory a page key pkru true free plain = let p = plain refl in cc
device_holds memory a page key pkru false free plain = cc

mail_all : (t : Bool) → t ≡ true → ◌≡◌ {A = ℕ} (if t then 0x10_0000 else 0) 0x10_0000
mail_all true e = refl
mail_all false e = cc

mail_parts : (a b c d e : Bool) → a && b && c && d && e ≡ true → (a ≡ true) × (c ≡ true)
mail_parts true true true d e h = (refl, refl)
mail_parts true true false d e h = cc
mail_parts true false c d e h = cc
mail_parts false b c d e h = cc

lt_if : (a b : ℕ) → nat_lt a b ≡ true → a < b
lt_if a b e = grind (arith, nat_tests)

-- a section ends where all do, or before
within : (ss : List Section) (i : ℕ) (s : Section) → slice_get ss i ≡ Some s → s.page + s.pages ≤ sections_end ss
within [] i s e = cc
within (x ∷ ss) zero s e = let same : x ≡ s = cc in subst (λ (y : Section). y.page + y.pages ≤ sections_end (x ∷ ss)) same (omega arith)
within (x ∷ ss) (suc i) s e = let rest = within ss i s e in omega arith

pub entry_holds : (image : Image) (space : ℕ) (memory : Memory) (a : ℕ) (pkru : Pkru) (form : Bool) → IsImage image → IsLaidOut image memory → Holds memory a pkru form (page_entry image space (page_of a))
entry_holds image space memory a pkru form h laid = by_region image space (page_of a) (Holds memory a pkru form) regions
  where
    page : ℕ
    page = page_of a

    mail : 0xe000 ≤ page → is_mailbox image space ((page - 0xe000) / 16) ((page - 0xe000) % 16) ≡ true → is_held memory a ≡ true
    mail low is =
        let from = (page - 0xe000) / 16 in
        let to = (page - 0xe000) % 16 in
        let (ept, few) = mail_parts (is_ept image) (not (from == to)) (nat_lt from (length image.compartments)) (nat_lt to (length image.compartments)) ((space == from) || (space == to)) is in
        let lt = lt_if from (length image.compartments) few in
        let sixteen = (sized image h).compartments in
        let n : length memory.mail.items ≡ 0x10_0000 = laid.mail ∙ mail_all (is_ept image) ept in
        has_mail memory a (omega arith) (omega arith) (omega arith)

    thread : page ≡ 0xf000 → is_held memory a ≡ true
    thread at = let n = laid.word in has_word memory a (omega arith) (omega arith) (omega arith)

    -- no section reaches page 20000
    below : (ept : Bool) (i : ℕ) (s : Section) → slice_get image.sections i ≡ Some s → s.page ≤ page → page < s.page + s.pages → is_ept image ≡ ept → not ept || has_member s.readers space ≡ true → page < 0x20000
    below ept i s at from to is seen = elim (nat_split 0x20000 page) [
      | inl past ↦
          let none = (fits image h).sections ept space page (inr past) in
          let there = section_is ept space page 0x10000 image.sections i s (spread image h) at from to in
          absurd (by ept seen (sym there ∙ none))
      | inr (k, e) ↦ omega arith
    ]
      where
        by : (ept : Bool) → not ept || has_member s.readers space ≡ true → section_page ept space page s ≡ None → ⊥
        by false seen e = cc
        by true seen e = when (has_member s.readers space) seen e
          where
            when : (t : Bool) → t ≡ true → ◌≡◌ {A = Option Entry} (if t then mapped page (if has_member s.writers space then 1 else 0) s.key else None) None → ⊥
            when true seen e = cc
            when false seen e = cc

    section : (i : ℕ) (s : Section) → slice_get image.sections i ≡ Some s → s.page ≤ page → page < s.page + s.pages → page < 0x20000 → is_held memory a ≡ true
    section i s at from to low =
        let first = spread_from 0x10000 image.sections i s (spread image h) at in
        let last = within image.sections i s at in
        let n = laid.sections in
        has_sections memory a (omega arith) (omega arith) (omega arith)

    stack : first_stack ≤ page * 4096 → stack_of image page < stack_count image → is_held memory a ≡ true
    stack low small =
        let n = laid.stacks in
        let e : stack_span image ≡ 4096 * (2 * image.stack_pages + 2) = omega arith in
        let high : page * 4096 - first_stack < stack_count image * stack_span image = (div-lt_iff_lt-mul {k = stack_span image} {x = page * 4096 - first_stack} {y = stack_count image} (omega arith)).0 small in
        let m : stack_count image * (4096 * (2 * image.stack_pages + 2)) ≡ 4096 * (stack_count image * (2 * image.stack_pages + 2)) = mul_left_comm (stack_count image) 4096 (2 * image.stack_pages + 2) in
        let z : stacks_length image ≡ 4096 * (stack_count image * (2 * image.stack_pages + 2)) = ap (λ x. stack_count image * x) e ∙ m in
        has_stacks memory a (omega arith) (omega arith)

    regions : Regions image space page (Holds memory a pkru form)
    regions = record {
      none = λ free plain. cc;
      code = λ from to maps free plain. cc;
      literal = λ from to free plain. cc;
      mailbox = λ from is free plain. mail from is;
      thread = λ at free plain. thread at;
      device = λ from to owned. device_holds memory a page (private_key image (owner_of image (page - 0xf100))) pkru form;
      section = λ i s at from to one free plain. section i s at from to (below false i s at from to one refl);
      machine = λ i s at from to ept reads free plain. section i s at from to (below true i s at from to ept reads);
      whole = λ from small inside halves free plain. stack from small;
      low = λ from small inside halves ours free plain. stack from small;
      high = λ from small past inside halves free plain. stack from small;
    }

plain_by : (entry : Option Entry) (a : ℕ) → device_at entry a ≡ None → IsPlain entry
plain_by None a e = tt
plain_by (Some entry) a e = cases (is_device entry.flags) refl e
  where
    cases : (t : Bool) → is_device entry.flags ≡ t → (if t then Some (page_of a - 0xf100) else None) ≡ None → t ≡ false
    cases true q e = cc
    cases false q e = refl

some_bytes : (width : Width) → 0 < width_bytes width
some_bytes W8 = lit< tt
some_bytes W16 = lit< tt
some_bytes W32 = lit< tt
some_bytes W64 = lit< tt

-- what is permitted has an address
permitted_low : (image : Image) (space : ℕ) (pkru : Pkru) (n a : ℕ) → IsImage image → 0 < n → access_check (page_entry image space) pkru Write a n ≡ None → a < 2 ^ 64
permitted_low image space pkru n a h some free = elim (nat_split (2 ^ 64) a) [
  | inl top ↦
      let is : page_entry image space (page_of a) ≡ None = none_above image space (page_of a) h (omega arith) in
      let first = first_free (page_entry image space) pkru Write a n some free in
      let x : byte_refusal None pkru Write (is_register_form a n) ≡ None = subst (λ e. byte_refusal e pkru Write (is_register_form a n) ≡ None) is first in
      cc
  | inr (k, e) ↦ omega arith
]

pub permitted_held : (image : Image) (space : ℕ) (memory : Memory) (pkru : Pkru) (width : Width) (a : ℕ) → IsImage image → IsLaidOut image memory
    → access_check (page_entry image space) pkru Write a (width_bytes width) ≡ None → device_at (page_entry image space (page_of a)) a ≡ None
    → (i : ℕ) → i < width_bytes width → is_held memory (on a i) ≡ true
permitted_held image space memory pkru width a h laid free none i small =
    let low = permitted_low image space pkru (width_bytes width) a h (some_bytes width) free in
    entry_holds image space memory (on a i) pkru (is_register_form a (width_bytes width)) h laid
    (each_free (page_entry image space) pkru Write a (width_bytes width) i low free small)
    (λ form.
    let (eight, aligned) = both (nat_eq (width_bytes width) 8) (nat_eq (a % 8) 0) form in
    let n = eq_if (width_bytes width) 8 eight in
    let z = eq_if (a % 8) 0 aligned in
    let page : page_of (on a i) ≡ page_of a = omega arith in
    subst (λ p. IsPlain (page_entry image space p)) (sym page) (plain_by (page_entry image space (page_of a)) a none))
