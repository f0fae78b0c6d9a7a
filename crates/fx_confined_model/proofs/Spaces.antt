-- The entries of granted pages in a machine's own space, and that they are open.
use Rattle.std.proofs.Common.{◌≡◌, ◌≢◌, ℕ, ◌+◌, ◌*◌, ◌-◌, ◌/◌, ◌%◌, ◌^◌, ◌<◌, ◌≤◌, inr, Bool, true, false, Option, None, Some, List, [], ◌∷◌, refl, sym, ap, ◌∙◌, subst, arith, cond}
use Rattle.std.specs.Prelude.{nat_eq, ◌&&◌, ◌||◌, ◌==◌, not, if◌then◌else◌, slice_get}
use Rattle.std.specs.Int.{bit_at}
use Rattle.std.proofs.Math.Pow.{pow_mono}
use Rattle.std.proofs.lemmas.Nat.{div-mul-add}
use Rattle.std.proofs.lemmas.Bool.Decides.{nat_tests}
use Rattle.fx_vm_pages.specs.Access.{byte_refusal, is_locked}
use Rattle.fx_vm_pages.specs.declared.access.Access.{Access}
use Rattle.fx_vm_pages.specs.declared.access.Access.TheVariants.{Read, Write, Fetch}
use Rattle.fx_vm_pages.specs.declared.access.Refusal.{Refusal}
use Rattle.fx_vm_pages.specs.declared.access.Refusal.TheVariants.{Key}
use Rattle.fx_vm_pages.specs.declared.entry.Entry.{Entry}
use Rattle.fx_image.specs.Keys.{has_member, is_keyed}
use Rattle.fx_image.specs.Layout.{stack_bytes, first_stack, stack_count, has_halves}
use Rattle.fx_image.specs.Rules.{IsImage}
use Rattle.fx_image.specs.declared.forms.Section.{Section}
use Rattle.fx_image.specs.declared.forms.Image.{Image}
use Rattle.fx_machine_model.specs.Layout.{page_entry, first_of, mapped, is_ept, holds, space_of, is_mailbox, maps_code, code_entry, literal_entry, mailbox_entry, thread_entry, device_entry, section_page, section_entry, stack_entry, private_key, low_half, high_half, common_key, owner_of, stack_compartment, stack_of, place_of}
use Rattle.fx_machine_model.proofs.Pages.{fits, spread, spread_from, section_is, code_page, le_true, lt_true, lt_false, no_code, no_literals, no_thread, no_device, after_four, after_two, here, last_of}
use Rattle.fx_machine_model.proofs.Bounds.{sized}
use Rattle.fx_machine_model.proofs.Spaces.{no_mailbox_past}
use Rattle.fx_confined_model.specs.Grants.{Granted, MayRead, MayWrite, MayUse, read_code, read_literal, read_thread, read_section, read_use, write_thread, write_section, write_use, of_low_half, of_high_half, of_device, of_mailbox}
use Rattle.fx_confined_model.specs.Spaces.{SpacePermits}
use Rattle.fx_confined_model.proofs.Mapped.{literal_page}
use Rattle.fx_confined_model.proofs.Machines.{permits}
use Rattle.fx_confined_model.proofs.Granting.{writer_reads}

third : {A : Type 0} (a b c : Option A) (x : A) (rest : List (Option A)) → a ≡ None → b ≡ None → c ≡ Some x → first_of (a ∷ b ∷ c ∷ rest) ≡ Some x
third a b c x rest p q r = rw (p, q, r) refl

fourth : {A : Type 0} (a b c d : Option A) (x : A) (rest : List (Option A)) → a ≡ None → b ≡ None → c ≡ None → d ≡ Some x → first_of (a ∷ b ∷ c ∷ d ∷ rest) ≡ Some x
fourth a b c d x rest p q r s = rw (p, q, r, s) refl

second_some : {A : Type 0} (a b : Option A) (x : A) (rest : List (Option A)) → a ≡ None → b ≡ Some x → first_of (a ∷ b ∷ rest) ≡ Some x
second_some a b x rest p q = rw (p, q) refl

yes : (a b : ℕ) → a ≡ b → nat_eq a b ≡ true
yes a b e = grind (arith, nat_tests)

-- ---- PKRU 0 locks nothing

no_bit : (i : ℕ) → bit_at 0 i ≡ 0
no_bit i =
    let some : 0 < 2 ^ i = let e = pow_mono {i = 0} {j = i} (omega arith) in omega arith in
    let p : 0 ≡ 0 * 2 ^ i + 0 = omega arith in
    let q : 0 / 2 ^ i ≡ 0 = ap (λ n. n / 2 ^ i) p ∙ div-mul-add 0 (2 ^ i) 0 some in
    ap (λ n. n % 2) q

unlocked : (key : ℕ) (access : Access) → is_locked (record { 0 = 0 }) key access ≡ false
unlocked key Read = ap (λ b. nat_eq b 1) (no_bit (2 * key))
unlocked key Write = ap (λ b. nat_eq b 1 || nat_eq (bit_at 0 (2 * key + 1)) 1) (no_bit (2 * key)) ∙ ap (λ b. nat_eq b 1) (no_bit (2 * key + 1))
unlocked key Fetch = refl

module _ (image : Image) (h : IsImage image) (ept : is_ept image ≡ true) (c page : ℕ) where
  abbrev Opens : Access → Option Entry → Type 0
  Opens access x = byte_refusal x (record { 0 = 0 }) access true ≡ None

  by_lock : (t : Bool) → t ≡ false → ◌≡◌ {A = Option Refusal} (if t then Some Key else None) None
  by_lock t e = ap (λ t. if t then Some Key else None) e

  -- pages that may be read and written
  plain_opens : (key : ℕ) (access : Access) → access ≢ Fetch → Opens access (mapped page 1 key)
  plain_opens key Read kind = by_lock (is_locked (record { 0 = 0 }) key Read) (unlocked key Read)
  plain_opens key Write kind = by_lock (is_locked (record { 0 = 0 }) key Write) (unlocked key Write)
  plain_opens key Fetch kind = absurd (kind refl)

  device_opens : (key : ℕ) (access : Access) → access ≢ Fetch → Opens access (mapped page 5 key)
  device_opens key Read kind = by_lock (is_locked (record { 0 = 0 }) key Read) (unlocked key Read)
  device_opens key Write kind = by_lock (is_locked (record { 0 = 0 }) key Write) (unlocked key Write)
  device_opens key Fetch kind = absurd (kind refl)

  -- pages that may be read
  flag_opens : (t : Bool) (a b key : ℕ) → Opens Read (mapped page a key) → Opens Read (mapped page b key) → Opens Read (mapped page (if t then a else b) key)
  flag_opens true a b key p q = p
  flag_opens false a b key p q = q

  none_opens : (key : ℕ) → Opens Read (mapped page 0 key)
  none_opens key = by_lock (is_locked (record { 0 = 0 }) key Read) (unlocked key Read)

  run_opens : (key : ℕ) → Opens Read (mapped page 2 key)
  run_opens key = by_lock (is_locked (record { 0 = 0 }) key Read) (unlocked key Read)

  -- ---- the entries

  past_four : 0xf001 ≤ page → page_entry image c page ≡ first_of (device_entry image c page ∷ section_entry (is_ept image) c page image.sections ∷ stack_entry image c page ∷ [])
  unfolding page_entry
  past_four from =
      let f = fits image h in
      let ne : page ≢ 0xf000 = λ e. omega (arith, e) in
      after_four (code_entry image c page) (literal_entry image page) (mailbox_entry image c page) (thread_entry image c page) _
      (no_code image c page f (omega arith)) (no_literals image page f (omega arith)) (no_mailbox_past image c page (sized image h) (omega arith)) (no_thread image c page ne)

  mail_entry : 0xe000 ≤ page → is_mailbox image c ((page - 0xe000) / 16) ((page - 0xe000) % 16) ≡ true → page_entry image c page ≡ mapped page 1 0
  unfolding page_entry
  mail_entry from mail =
      let f = fits image h in
      let a = le_true 0xe000 page from in
      let e : mailbox_entry image c page ≡ mapped page 1 0 = ap (λ t. cond (t && is_mailbox image c ((page - 0xe000) / 16) ((page - 0xe000) % 16)) (mapped page 1 0) None) a ∙ ap (λ t. cond t (mapped page 1 0) None) mail in
      third (code_entry image c page) (literal_entry image page) (mailbox_entry image c page) _ _ (no_code image c page f (omega arith)) (no_literals image page f (omega arith)) e

  word_entry : page ≡ 0xf000 → page_entry image c page ≡ mapped page (if is_ept image && not (c == image.scheduler) then 0 else 1) (if is_keyed image.mechanism then 1 else 0)
  unfolding page_entry
  word_entry at =
      let f = fits image h in
      let e : thread_entry image c page ≡ mapped page (if is_ept image && not (c == image.scheduler) then 0 else 1) (if is_keyed image.mechanism then 1 else 0) =
      ap (λ t. cond t (mapped page (if is_ept image && not (c == image.scheduler) then 0 else 1) (if is_keyed image.mechanism then 1 else 0)) None) (yes page 0xf000 at) in
      fourth (code_entry image c page) (literal_entry image page) (mailbox_entry image c page) (thread_entry image c page) _ _
      (no_code image c page f (omega arith)) (no_literals image page f (omega arith)) (no_mailbox_past image c page (sized image h) (omega arith)) e

  register_entry : 0xf100 ≤ page → page < 0xf110 → owner_of image (page - 0xf100) ≡ c → page_entry image c page ≡ mapped page 5 (private_key image (owner_of image (page - 0xf100)))
  register_entry from to own =
      let a = le_true 0xf100 page from in
      let b = lt_true page 0xf110 to in
      let o : (c == owner_of image (page - 0xf100)) ≡ true = yes c (owner_of image (page - 0xf100)) (sym own) in
      let held : holds image c (owner_of image (page - 0xf100)) ≡ true = ap (λ t. not (is_ept image) || t) o ∙ or_true (not (is_ept image)) in
      let e : device_entry image c page ≡ mapped page 5 (private_key image (owner_of image (page - 0xf100))) = simp (a, b, held) in
      past_four (omega arith) ∙ here (device_entry image c page) _ _ e
    where
      or_true : (t : Bool) → t || true ≡ true
      or_true true = refl
      or_true false = refl

  section_at : (i : ℕ) (s : Section) → slice_get image.sections i ≡ Some s → s.page ≤ page → page < s.page + s.pages → has_member s.readers c ≡ true → page_entry image c page ≡ mapped page (if has_member s.writers c then 1 else 0) s.key
  section_at i s at from to member =
      let first = spread_from 0x10000 image.sections i s (spread image h) at in
      let is : section_entry (is_ept image) c page image.sections ≡ section_page (is_ept image) c page s = section_is (is_ept image) c page 0x10000 image.sections i s (spread image h) at from to in
      let open_page : section_page (is_ept image) c page s ≡ mapped page (if has_member s.writers c then 1 else 0) s.key =
      ap (λ t. section_page t c page s) ept ∙ ap (λ t. cond t (mapped page (if has_member s.writers c then 1 else 0) s.key) None) member in
      past_four (omega arith) ∙ second_some (device_entry image c page) (section_entry (is_ept image) c page image.sections) _ _ (no_device image c page (omega arith)) (is ∙ open_page)

  stack_is : first_stack ≤ page * 4096 → page_entry image c page ≡ stack_entry image c page
  stack_is from =
      past_four (omega arith)
      ∙ after_two (device_entry image c page) (section_entry (is_ept image) c page image.sections) _ (no_device image c page (omega arith)) ((fits image h).sections (is_ept image) c page (inr (omega arith)))
      ∙ last_of (stack_entry image c page)

  abbrev half_key : ℕ
  half_key = cond (has_halves image.mechanism) (private_key image (stack_compartment image (stack_of image page))) (common_key image)

  low_entry : first_stack ≤ page * 4096 → stack_of image page < stack_count image → place_of image page < stack_bytes image → (has_halves image.mechanism ≡ true → stack_compartment image (stack_of image page) ≡ c) → page_entry image c page ≡ mapped page 1 half_key
  low_entry from small inside own =
      let q1 = le_true first_stack (page * 4096) from in
      let q2 = lt_true (stack_of image page) (stack_count image) small in
      let q3 = lt_true (place_of image page) (stack_bytes image) inside in
      let e : stack_entry image c page ≡ low_half image c (stack_of image page) page = simp (q1, q2, q3) in
      stack_is from ∙ e ∙ by (has_halves image.mechanism) refl
    where
      by : (t : Bool) → has_halves image.mechanism ≡ t → cond (not t) (mapped page 1 (common_key image)) (cond (is_ept image && not (c == stack_compartment image (stack_of image page))) None (mapped page 1 (private_key image (stack_compartment image (stack_of image page)))))
          ≡ mapped page 1 (cond t (private_key image (stack_compartment image (stack_of image page))) (common_key image))
      by true e =
          let o : (c == stack_compartment image (stack_of image page)) ≡ true = yes c (stack_compartment image (stack_of image page)) (sym (own e)) in
          ap (λ t. cond (is_ept image && not t) None (mapped page 1 (private_key image (stack_compartment image (stack_of image page))))) o ∙ ap (λ t. cond t None (mapped page 1 (private_key image (stack_compartment image (stack_of image page))))) (and_false (is_ept image))
        where
          and_false : (t : Bool) → t && false ≡ false
          and_false true = refl
          and_false false = refl
      by false e = refl

  high_entry : first_stack ≤ page * 4096 → stack_of image page < stack_count image → stack_bytes image ≤ place_of image page → place_of image page < 2 * stack_bytes image → has_halves image.mechanism ≡ true → page_entry image c page ≡ mapped page 1 (common_key image)
  high_entry from small past inside halves =
      let q1 = le_true first_stack (page * 4096) from in
      let q2 = lt_true (stack_of image page) (stack_count image) small in
      let q3 = lt_false (place_of image page) (stack_bytes image) past in
      let q4 = lt_true (place_of image page) (2 * stack_bytes image) inside in
      let e : stack_entry image c page ≡ high_half image page = simp (q1, q2, q3, q4) in
      stack_is from ∙ e ∙ ap (λ t. cond t (mapped page 1 (common_key image)) None) halves

  -- ---- what is granted is open

  use_opens : MayUse image c page → (access : Access) → access ≢ Fetch → Opens access (page_entry image c page)
  use_opens (of_low_half (from, small, inside, own)) access kind = subst (Opens access) (sym (low_entry from small inside own)) (plain_opens half_key access kind)
  use_opens (of_high_half (from, small, past, inside, halves)) access kind = subst (Opens access) (sym (high_entry from small past inside halves)) (plain_opens (common_key image) access kind)
  use_opens (of_device (from, to, own)) access kind = subst (Opens access) (sym (register_entry from to own)) (device_opens (private_key image (owner_of image (page - 0xf100))) access kind)
  use_opens (of_mailbox (from, mail)) access kind = subst (Opens access) (sym (mail_entry from mail)) (plain_opens 0 access kind)

  its_space : space_of image c ≡ c
  its_space = ap (λ t. if t then c else 0) ept

  reads : MayRead image c page → Opens Read (page_entry image c page)
  reads (read_code (from, to, maps)) = subst (Opens Read) (sym (code_page image c page from to (subst (λ s. maps_code image s ((page - 0x400) * 4096) ≡ true) its_space maps))) (run_opens 0)
  reads (read_literal (from, to)) = subst (Opens Read) (sym (literal_page image c page (fits image h) from to)) (none_opens 0)
  reads (read_thread at) = subst (Opens Read) (sym (word_entry at)) (flag_opens (is_ept image && not (c == image.scheduler)) 0 1 _ (none_opens _) (plain_opens _ Read (λ x. cc)))
  reads (read_section (i, s, at, from, to, member)) = subst (Opens Read) (sym (section_at i s at from to member)) (flag_opens (has_member s.writers c) 1 0 s.key (plain_opens s.key Read (λ x. cc)) (none_opens s.key))
  reads (read_use both_ways) = use_opens both_ways Read (λ x. cc)

  writes : MayWrite image c page → Opens Write (page_entry image c page)
  writes (write_thread at who) =
      let o : (c == image.scheduler) ≡ true = yes c image.scheduler who in
      let key = if is_keyed image.mechanism then 1 else 0 in
      let e : mapped page (if is_ept image && not (c == image.scheduler) then 0 else 1) key ≡ mapped page 1 key = ap (λ t. mapped page (if is_ept image && not t then 0 else 1) key) o ∙ ap (λ t. mapped page (if t then 0 else 1) key) (and_false (is_ept image)) in
      subst (Opens Write) (sym (word_entry at ∙ e)) (plain_opens key Write (λ x. cc))
    where
      and_false : (t : Bool) → t && false ≡ false
      and_false true = refl
      and_false false = refl
  writes (write_section (i, s, at, from, to, member)) =
      let readable = writer_reads image h c i s at member in
      let e : mapped page (if has_member s.writers c then 1 else 0) s.key ≡ mapped page 1 s.key = ap (λ t. mapped page (if t then 1 else 0) s.key) member in
      subst (Opens Write) (sym (section_at i s at from to readable ∙ e)) (plain_opens s.key Write (λ x. cc))
  writes (write_use both_ways) = use_opens both_ways Write (λ x. cc)

  opens : (access : Access) → access ≢ Fetch → Granted image c access page → Opens access (page_entry image c page)
  opens Read kind g = reads g
  opens Write kind g = writes g
  opens Fetch kind g = absurd (kind refl)

pub space_permits : SpacePermits
space_permits image c page access h ept kind =
    let there : space_of image c ≡ c = its_space image h ept c page in (
      λ free. permits image h ept c page (record { 0 = 0 }) true access kind (subst (λ s. byte_refusal (page_entry image s page) (record { 0 = 0 }) access true ≡ None) there free),
      λ granted. subst (λ s. byte_refusal (page_entry image s page) (record { 0 = 0 }) access true ≡ None) (sym there) (opens image h ept c page access kind granted),
    )
