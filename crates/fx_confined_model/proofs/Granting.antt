-- Under keys what is granted to a compartment is permitted under its PKRU value.
use Rattle.std.proofs.Common.{◌≡◌, ◌≢◌, ℕ, zero, suc, ◌+◌, ◌*◌, ◌-◌, ◌/◌, ◌%◌, ◌^◌, ◌<◌, ◌≤◌, min, Bool, true, false, List, [], ◌∷◌, length, Option, None, Some, refl, sym, ap, ◌∙◌, subst, arith, cond}
use Rattle.std.specs.Prelude.{nat_eq, nat_lt, ◌==◌, ◌&&◌, ◌||◌, if◌then◌else◌, slice_get, bit_and}
use Rattle.std.specs.List.{list_any, list_all}
use Rattle.std.specs.Int.{bit_at}
use Rattle.std.proofs.Math.Pow.{pow_mono}
use Rattle.std.proofs.lemmas.Nat.{pow-add, div-mul-add}
use Rattle.std.proofs.lemmas.Nat.Bits.{bit_at_and}
use Rattle.std.proofs.lemmas.Bool.Decides.{nat_tests}
use Rattle.fx_vm_pages.specs.Access.{byte_refusal, is_locked}
use Rattle.fx_vm_pages.specs.declared.entry.Entry.{Entry}
use Rattle.fx_vm_pages.specs.declared.entry.Pkru.{Pkru}
use Rattle.fx_vm_pages.specs.declared.access.Access.{Access}
use Rattle.fx_vm_pages.specs.declared.access.Access.TheVariants.{Read, Write, Fetch}
use Rattle.fx_vm_pages.specs.declared.access.Refusal.{Refusal}
use Rattle.fx_vm_pages.specs.declared.access.Refusal.TheVariants.{Key}
use Rattle.fx_image.specs.Keys.{has_member, is_keyed, key_read, key_written, pkru_of}
use Rattle.fx_image.specs.Layout.{has_halves}
use Rattle.fx_image.specs.Rules.{IsImage, leads, leading, has_set, is_pair, are_spread}
use Rattle.fx_image.specs.declared.forms.Section.{Section}
use Rattle.fx_image.specs.declared.forms.Comp.{Comp}
use Rattle.fx_image.specs.declared.forms.Image.{Image}
use Rattle.fx_machine_model.specs.Layout.{stack_of, page_entry, is_ept, key_of, private_key, common_key, owner_of, stack_compartment}
use Rattle.fx_machine_model.proofs.Pages.{fits, code_page, device_page, section_page_at, maps_all}
use Rattle.fx_machine_model.proofs.Bounds.{sized, section_keys}
use Rattle.fx_confined_model.specs.Grants.{Granted, MayRead, MayWrite, MayUse, read_code, read_literal, read_thread, read_section, read_use, write_thread, write_section, write_use, of_low_half, of_high_half, of_device, of_mailbox}
use Rattle.fx_image_law.proofs.Bits.{key_reads, key_writes, first_bits}
use Rattle.fx_confined_model.proofs.Permits.{both, eq_if, le_if, numbered, there, key_is, held_is, permits}
use Rattle.fx_confined_model.specs.Permitted.{ImagePermits}
use Rattle.fx_confined_model.proofs.Mapped.{literal_page, thread_page, low_page, high_page}

any_has : {X : Type 0} (p : X → Bool) (xs : List X) (j : ℕ) (x : X) → slice_get xs j ≡ Some x → p x ≡ true → list_any p xs ≡ true
any_has p [] j x e h = cc
any_has {X} p (y ∷ ys) zero x e h = let is : y ≡ x = cc in ap (λ t. t || list_any p ys) (ap p is ∙ h)
any_has p (y ∷ ys) (suc j) x e h = or_right (p y) (list_any p ys) (any_has p ys j x e h)
  where
    or_right : (a b : Bool) → b ≡ true → a || b ≡ true
    or_right true b e = refl
    or_right false b e = e

all_at : {X : Type 0} (p : X → Bool) (xs : List X) (i : ℕ) (x : X) → list_all p xs ≡ true → slice_get xs i ≡ Some x → p x ≡ true
all_at p [] i x h e = cc
all_at p (y ∷ ys) zero x h e = let is : y ≡ x = cc in subst (λ z. p z ≡ true) is (both (p y) (list_all p ys) h).0
all_at p (y ∷ ys) (suc i) x h e = all_at p ys i x (both (p y) (list_all p ys) h).1 e

yes : (a b : ℕ) → a ≡ b → nat_eq a b ≡ true
yes a b e = grind (arith, nat_tests)

lt_yes : (a b : ℕ) → a < b → nat_lt a b ≡ true
lt_yes a b e = grind (arith, nat_tests)

lt_no : (a b : ℕ) → b ≤ a → nat_lt a b ≡ false
lt_no a b e = grind (arith, nat_tests)

clear : (t : Bool) (bit : ℕ) → bit ≡ (if t then 0 else 1) → t ≡ true → nat_eq bit 1 ≡ false
clear true bit e f = ap (λ b. nat_eq b 1) e
clear false bit e f = cc

clear_zero : (bit : ℕ) → bit ≡ 0 → nat_eq bit 1 ≡ false
clear_zero bit e = ap (λ b. nat_eq b 1) e

neither : (a b : Bool) → a ≡ false → b ≡ false → a || b ≡ false
neither a b e f = ap (λ t. t || b) e ∙ f

-- a bit of both sets is a bit of one
bit_inside : (a b i : ℕ) → bit_and a b ≡ a → bit_at a i ≡ 1 → bit_at b i ≡ 1
bit_inside a b i e f =
    let m = bit_at_and a b i in
    let g : min (bit_at a i) (bit_at b i) ≡ 1 = sym m ∙ ap (λ n. bit_at n i) e ∙ f in
    let small : b / 2 ^ i % 2 < 2 = omega arith in
    omega arith

some_power : (d : ℕ) → 0 < 2 ^ d
some_power d = let e = pow_mono {i = 0} {j = d} (omega arith) in omega arith

own_bit : (c : ℕ) → 2 ^ c / 2 ^ c % 2 ≡ 1
own_bit c =
    let p : 2 ^ c ≡ 1 * 2 ^ c + 0 = omega arith in
    let q : 2 ^ c / 2 ^ c ≡ 1 = ap (λ n. n / 2 ^ c) p ∙ div-mul-add 1 (2 ^ c) 0 (some_power c) in
    ap (λ n. n % 2) q

-- the set of all has each
all_bit : (c k : ℕ) → (2 ^ (c + (1 + k)) - 1) / 2 ^ c % 2 ≡ 1
all_bit c k =
    let s = some_power c in
    let t = some_power k in
    let e : 2 ^ (c + (1 + k)) ≡ 2 ^ c * 2 ^ (1 + k) = pow-add 2 c (1 + k) in
    let d : 2 ^ (1 + k) ≡ 2 * 2 ^ k = pow-add 2 1 k in
    let m : 2 ^ c * 2 ^ (1 + k) ≡ (2 ^ (1 + k) - 1) * 2 ^ c + 2 ^ c = split (2 ^ c) (2 ^ (1 + k)) (omega arith) in
    let p : 2 ^ (c + (1 + k)) - 1 ≡ (2 ^ (1 + k) - 1) * 2 ^ c + (2 ^ c - 1) = omega arith in
    let q : (2 ^ (c + (1 + k)) - 1) / 2 ^ c ≡ 2 ^ (1 + k) - 1 = ap (λ n. n / 2 ^ c) p ∙ div-mul-add (2 ^ (1 + k) - 1) (2 ^ c) (2 ^ c - 1) (omega arith) in
    ap (λ n. n % 2) q ∙ omega arith
  where
    split : (a b : ℕ) → 1 ≤ b → a * b ≡ (b - 1) * a + a
    split a zero h = absurd (omega arith)
    split a (suc b) h = let e : suc b - 1 ≡ b = omega arith in ap (λ n. n) (mul a b) ∙ ap (λ n. n * a + a) (sym e)
      where
        mul : (a b : ℕ) → a * suc b ≡ b * a + a
        mul a b = grind arith

-- a writer of a section is a reader of it
pub writer_reads : (image : Image) (h : IsImage image) (c i : ℕ) (s : Section) → slice_get image.sections i ≡ Some s → has_member s.writers c ≡ true → has_member s.readers c ≡ true
writer_reads image h c i s at member =
    let all = (both _ _ (both _ _ (both _ _ (both _ _ h.sections).0).0).0).0 in
    let pair = all_at (is_pair image.version (length image.compartments)) image.sections i s (both _ _ all).1 at in
    let inside = eq_if (bit_and s.writers s.readers) s.writers (both _ _ (both _ _ (both _ _ pair).0).0).1 in
    yes (bit_at s.readers c) 1 (bit_inside s.writers s.readers c inside (eq_if (bit_at s.writers c) 1 member))

module _ (image : Image) (h : IsImage image) (keyed : is_keyed image.mechanism ≡ true) (c : ℕ) (comp : Comp) (is : slice_get image.compartments c ≡ Some comp) (few : c < length image.compartments) where
  abbrev value : ℕ
  value = pkru_of image.sections image.scheduler c

  abbrev held : Pkru
  held = record { 0 = value }

  -- a section that holds c has an open key
  read_open : (i : ℕ) (s : Section) → slice_get image.sections i ≡ Some s → has_member s.readers c ≡ true → is_locked held s.key Read ≡ false
  read_open i s at member =
      let k = key_is image h keyed c comp is i s at in
      let r : key_read image.sections c s.key ≡ true = any_has (λ (t : Section). t.key == s.key && has_member t.readers c) image.sections i s at (ap (λ t. t && has_member s.readers c) (yes s.key s.key refl) ∙ member) in
      clear (key_read image.sections c s.key) (bit_at value (2 * s.key)) (key_reads image.sections image.scheduler c s.key (omega arith) (section_keys image h i s at)) r

  write_open : (i : ℕ) (s : Section) → slice_get image.sections i ≡ Some s → has_member s.writers c ≡ true → is_locked held s.key Write ≡ false
  write_open i s at member =
      let k = key_is image h keyed c comp is i s at in
      let r : key_written image.sections c s.key ≡ true = any_has (λ (t : Section). t.key == s.key && has_member t.writers c) image.sections i s at (ap (λ t. t && has_member s.writers c) (yes s.key s.key refl) ∙ member) in
      neither (nat_eq (bit_at value (2 * s.key)) 1) (nat_eq (bit_at value (2 * s.key + 1)) 1) (read_open i s at (writer_reads image h c i s at member))
      (clear (key_written image.sections c s.key) (bit_at value (2 * s.key + 1)) (key_writes image.sections image.scheduler c s.key (omega arith) (section_keys image h i s at)) r)

  abbrev count : ℕ
  count = length image.compartments

  many : leading count ≤ length image.sections
  many = le_if (leading count) (length image.sections) (both _ _ (both _ _ (both _ _ (both _ _ (both _ _ (both _ _ h.sections).0).0).0).0).0).1

  leads_at : (i : ℕ) (s : Section) → slice_get image.sections i ≡ Some s → leads count i s ≡ true
  leads_at i s at =
      let e = numbered (leads count) 0 image.sections (both _ _ (both _ _ (both _ _ (both _ _ h.sections).0).0).0).1 i s at in
      let zero : 0 + i ≡ i = omega arith in
      subst (λ k. leads count k s ≡ true) zero e

  at_least : (t : Bool) (m : ℕ) → m ≤ (if t then m + 1 else m)
  at_least true m = omega arith
  at_least false m = omega arith

  first_of_if : (t a b : Bool) → t ≡ true → (if t then a else b) ≡ true → a ≡ true
  first_of_if true a b e f = f
  first_of_if false a b e f = cc

  second_of_if : (t a b : Bool) → t ≡ false → (if t then a else b) ≡ true → b ≡ true
  second_of_if true a b e f = cc
  second_of_if false a b e f = f

  -- a section of a set that holds c
  set_open : (i set : ℕ) (s : Section) → slice_get image.sections i ≡ Some s → has_set set s ≡ true → bit_at set c ≡ 1 → (is_locked held s.key Read ≡ false) × (is_locked held s.key Write ≡ false)
  set_open i set s at e bit =
      let (r, w) = both (s.readers == set) (s.writers == set) e in
      let readers = eq_if s.readers set r in
      let writers = eq_if s.writers set w in
      (read_open i s at (yes (bit_at s.readers c) 1 (ap (λ n. bit_at n c) readers ∙ bit)), write_open i s at (yes (bit_at s.writers c) 1 (ap (λ n. bit_at n c) writers ∙ bit)))

  abbrev IsOpen : ℕ → Type 0
  IsOpen key = (is_locked held key Read ≡ false) × (is_locked held key Write ≡ false)

  private_opens : IsOpen (private_key image c)
  private_opens =
      let m = many in
      let l = at_least (nat_lt 1 count) count in
      let (s, at) = there image.sections c (omega arith) in
      let set : has_set (2 ^ c) s ≡ true = first_of_if (nat_lt c count) (has_set (2 ^ c) s) (if c == count && nat_lt 1 count then has_set (2 ^ count - 1) s else true) (lt_yes c count few) (leads_at c s at) in
      let key : key_of (slice_get image.sections c) ≡ s.key = ap key_of at in
      subst IsOpen (sym key) (set_open c (2 ^ c) s at set (own_bit c))

  common_by : (t : Bool) → nat_eq count 1 ≡ t → IsOpen (key_of (slice_get image.sections (if t then 0 else count)))
  common_by true e =
      let one = eq_if count 1 e in
      let zero : c ≡ 0 = omega arith in
      subst (λ k. IsOpen (private_key image k)) zero private_opens
  common_by false e =
      let m = many in
      let some = (sized image h).some in
      let more : 1 < count = not_one count some e in
      let l : leading count ≡ count + 1 = ap (λ t. if t then count + 1 else count) (lt_yes 1 count more) in
      let (s, at) = there image.sections count (omega arith) in
      let rest = second_of_if (nat_lt count count) (has_set (2 ^ count) s) (if count == count && nat_lt 1 count then has_set (2 ^ count - 1) s else true) (lt_no count count (omega arith)) (leads_at count s at) in
      let both_yes : (count == count && nat_lt 1 count) ≡ true = ap (λ t. t && nat_lt 1 count) (yes count count refl) ∙ lt_yes 1 count more in
      let set = first_of_if (count == count && nat_lt 1 count) (has_set (2 ^ count - 1) s) true both_yes rest in
      let k = count - (c + 1) in
      let whole : c + (1 + k) ≡ count = omega arith in
      let bit : bit_at (2 ^ count - 1) c ≡ 1 = ap (λ n. (2 ^ n - 1) / 2 ^ c % 2) (sym whole) ∙ all_bit c k in
      let key : key_of (slice_get image.sections count) ≡ s.key = ap key_of at in
      subst IsOpen (sym key) (set_open count (2 ^ count - 1) s at set bit)
    where
      not_one : (n : ℕ) → 1 ≤ n → nat_eq n 1 ≡ false → 1 < n
      not_one n le e = grind (arith, nat_tests)

  common_opens : IsOpen (common_key image)
  common_opens = common_by (nat_eq count 1) refl

  low_bits : (is_locked held 0 Read ≡ false) × (is_locked held 1 Read ≡ false)
  low_bits = let f = first_bits image.sections image.scheduler c in (clear_zero (bit_at value 0) f.0, clear_zero (bit_at value 2) f.2)

  thread_write : c ≡ image.scheduler → is_locked held 1 Write ≡ false
  thread_write e =
      let f = first_bits image.sections image.scheduler c in
      neither (nat_eq (bit_at value 2) 1) (nat_eq (bit_at value 3) 1) (clear_zero (bit_at value 2) f.2) (clear (nat_eq c image.scheduler) (bit_at value 3) f.3 (yes c image.scheduler e))

  module _ (space page : ℕ) (single : is_ept image ≡ false) where
    by_lock : (t : Bool) → t ≡ false → ◌≡◌ {A = Option Refusal} (if t then Some Key else None) None
    by_lock t e = ap (λ t. if t then Some Key else None) e

    no_mail : (a b c d e : Bool) → a ≡ false → a && b && c && d && e ≡ true → ⊥
    no_mail true b c d e f g = cc
    no_mail false b c d e f g = cc

    abbrev Opens : Access → Option Entry → Type 0
    Opens access x = byte_refusal x held access true ≡ None

    half_opens : (t : Bool) → (t ≡ true → stack_compartment image (stack_of image page) ≡ c) → IsOpen (cond t (private_key image (stack_compartment image (stack_of image page))) (common_key image))
    half_opens true own = subst (λ d. IsOpen (private_key image d)) (sym (own refl)) private_opens
    half_opens false own = common_opens

    use_opens : MayUse image c page → Opens Read (page_entry image space page) × Opens Write (page_entry image space page)
    use_opens (of_low_half (from, small, inside, own)) =
        let e = low_page image space page (fits image h) single from small inside in
        let o = half_opens (has_halves image.mechanism) own in
        (subst (Opens Read) (sym e) (by_lock _ o.0), subst (Opens Write) (sym e) (by_lock _ o.1))
    use_opens (of_high_half (from, small, past, inside, halves)) =
        let e = high_page image space page (fits image h) single from small past inside halves in
        (subst (Opens Read) (sym e) (by_lock _ common_opens.0), subst (Opens Write) (sym e) (by_lock _ common_opens.1))
    use_opens (of_device (from, to, own)) =
        let e = device_page image space page (fits image h) single from to in
        let o : IsOpen (private_key image (owner_of image (page - 0xf100))) = subst (λ d. IsOpen (private_key image d)) (sym own) private_opens in
        (subst (Opens Read) (sym e) (by_lock _ o.0), subst (Opens Write) (sym e) (by_lock _ o.1))
    use_opens (of_mailbox (from, mail)) = absurd (no_mail (is_ept image) _ _ _ _ single mail)

    spread : are_spread 0x10000 image.sections ≡ true
    spread = (both _ _ (both _ _ (both _ _ (both _ _ (both _ _ (both _ _ (both _ _ h.sections).0).0).0).0).0).0).0

    read_opens : MayRead image c page → Opens Read (page_entry image space page)
    read_opens (read_code (from, to, maps)) = subst (Opens Read) (sym (code_page image space page from to (maps_all image space ((page - 0x400) * 4096) single))) (by_lock _ low_bits.0)
    read_opens (read_literal (from, to)) = subst (Opens Read) (sym (literal_page image space page (fits image h) from to)) (by_lock _ low_bits.0)
    read_opens (read_thread at) = subst (Opens Read) (sym (thread_page image space page (fits image h) single keyed at)) (by_lock _ low_bits.1)
    read_opens (read_section (i, s, at, from, to, member)) = subst (Opens Read) (sym (section_page_at image space page i s (fits image h) single spread at from to)) (by_lock _ (read_open i s at member))
    read_opens (read_use both_ways) = (use_opens both_ways).0

    write_opens : MayWrite image c page → Opens Write (page_entry image space page)
    write_opens (write_thread at who) = subst (Opens Write) (sym (thread_page image space page (fits image h) single keyed at)) (by_lock _ (thread_write who))
    write_opens (write_section (i, s, at, from, to, member)) = subst (Opens Write) (sym (section_page_at image space page i s (fits image h) single spread at from to)) (by_lock _ (write_open i s at member))
    write_opens (write_use both_ways) = (use_opens both_ways).1

    pub opens : (access : Access) → access ≢ Fetch → Granted image c access page → Opens access (page_entry image space page)
    opens Read kind g = read_opens g
    opens Write kind g = write_opens g
    opens Fetch kind g = absurd (kind refl)

at_compartment : {X : Type 0} (xs : List X) (i : ℕ) (x : X) → slice_get xs i ≡ Some x → i < length xs
at_compartment [] i x e = cc
at_compartment (y ∷ ys) zero x e = omega arith
at_compartment (y ∷ ys) (suc i) x e = let lt = at_compartment ys i x e in omega arith

not_ept : (m : ℕ) → is_keyed m ≡ true → nat_eq m 3 ≡ false
not_ept m e = by (nat_eq m 1) (nat_eq m 2) refl refl e
  where
    by : (a b : Bool) → nat_eq m 1 ≡ a → nat_eq m 2 ≡ b → a || b ≡ true → nat_eq m 3 ≡ false
    by true b p q e = let f = eq_if m 1 p in grind (arith, nat_tests)
    by false true p q e = let f = eq_if m 2 q in grind (arith, nat_tests)
    by false false p q e = cc

pub image_permits : ImagePermits
image_permits image c comp space page access h keyed is kind =
    let single : is_ept image ≡ false = not_ept image.mechanism keyed in
    let same : ◌≡◌ {A = Pkru} (record { 0 = pkru_of image.sections image.scheduler c }) (record { 0 = comp.pkru }) = held_is image h keyed c comp is (record { 0 = comp.pkru }) refl in (
      λ free. permits image h keyed c comp is space page single true access kind (subst (λ p. byte_refusal (page_entry image space page) p access true ≡ None) (sym same) free),
      λ granted. subst (λ p. byte_refusal (page_entry image space page) p access true ≡ None) same (opens image h keyed c comp is (at_compartment image.compartments c comp is) space page single access kind granted),
    )
