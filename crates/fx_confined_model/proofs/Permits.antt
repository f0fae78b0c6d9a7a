-- Under keys a compartment's PKRU value permits what is granted to it.
use Rattle.std.proofs.Common.{◌≡◌, ◌≢◌, ℕ, zero, suc, ◌+◌, ◌*◌, ◌-◌, ◌/◌, ◌%◌, ◌^◌, ◌<◌, ◌≤◌, inl, inr, Bool, true, false, List, [], ◌∷◌, length, Option, None, Some, refl, sym, ap, ◌∙◌, subst, arith}
use Rattle.std.specs.Prelude.{nat_eq, nat_lt, nat_le, ◌==◌, ◌&&◌, ◌||◌, not, if◌then◌else◌, slice_get, slice_index}
use Rattle.std.specs.List.{list_any, list_all}
use Rattle.std.specs.Int.{bit_at}
use Rattle.std.proofs.Math.Pow.{pow-lt, pow_mono}
use Rattle.std.proofs.lemmas.Nat.{pow-add, div-mul-add}
use Rattle.std.proofs.lemmas.Bool.Decides.{nat_tests}
use Rattle.fx_outcomes.proofs.Follows.{nat_split}
use Rattle.fx_vm_pages.specs.Entries.{is_device}
use Rattle.fx_vm_pages.specs.Access.{byte_refusal, is_allowed, is_locked}
use Rattle.fx_vm_pages.specs.declared.entry.Entry.{Entry}
use Rattle.fx_vm_pages.specs.declared.entry.Pkru.{Pkru}
use Rattle.fx_vm_pages.specs.declared.access.Access.{Access}
use Rattle.fx_vm_pages.specs.declared.access.Access.TheVariants.{Read, Write, Fetch}
use Rattle.fx_vm_pages.specs.declared.access.Refusal.{Refusal}
use Rattle.fx_vm_pages.specs.declared.access.Refusal.TheVariants.{Permission, Key}
use Rattle.fx_image.specs.Keys.{has_member, is_keyed, key_read, key_written, pkru_of}
use Rattle.fx_image.specs.Layout.{has_halves}
use Rattle.fx_image.specs.Rules.{IsImage, all_numbered, has_key, leads, leading, has_set}
use Rattle.fx_image.specs.declared.forms.Section.{Section}
use Rattle.fx_image.specs.declared.forms.Comp.{Comp}
use Rattle.fx_image.specs.declared.forms.Image.{Image}
use Rattle.fx_machine_model.specs.Layout.{space_of, stack_of, page_entry, mapped, is_ept, is_mailbox, key_of, private_key, owner_of, stack_compartment}
use Rattle.fx_machine_model.proofs.Pages.{maps_all}
use Rattle.fx_machine_model.proofs.Bounds.{sized, section_keys}
use Rattle.fx_confined_model.specs.Grants.{Granted, MayRead, MayWrite, read_code, read_literal, read_thread, read_section, read_use, write_thread, write_section, write_use, of_low_half, of_high_half, of_device}
use Rattle.fx_machine_model.proofs.ByRegion.{Regions, by_region}
use Rattle.fx_image_law.proofs.Bits.{key_reads, key_writes, first_bits}

pub both : (a b : Bool) → a && b ≡ true → (a ≡ true) × (b ≡ true)
both true b e = (refl, e)
both false b e = cc

neither : (a b : Bool) → a || b ≡ false → (a ≡ false) × (b ≡ false)
neither false b e = (refl, e)
neither true b e = cc

pub eq_if : (a b : ℕ) → nat_eq a b ≡ true → a ≡ b
eq_if a b e = grind (arith, nat_tests)

lt_if : (a b : ℕ) → nat_lt a b ≡ true → a < b
lt_if a b e = grind (arith, nat_tests)

pub le_if : (a b : ℕ) → nat_le a b ≡ true → a ≤ b
le_if a b e = grind (arith, nat_tests)

-- ---- lists

any_at : {X : Type 0} (p : X → Bool) (xs : List X) → list_any p xs ≡ true → (j : ℕ) × (x : X) × (slice_get xs j ≡ Some x) × (p x ≡ true)
any_at p [] e = cc
any_at {X} p (x ∷ xs) e = by (p x) refl e (any_at p xs)
  where
    by : (t : Bool) → p x ≡ t → t || list_any p xs ≡ true → (list_any p xs ≡ true → (j : ℕ) × (y : X) × (slice_get xs j ≡ Some y) × (p y ≡ true)) → (j : ℕ) × (y : X) × (slice_get (x ∷ xs) j ≡ Some y) × (p y ≡ true)
    by true s e later = (0, x, refl, s)
    by false s e later = let (j, y, at, is) = later e in (suc j, y, at, is)

pub numbered : {X : Type 0} (test : ℕ → X → Bool) (k : ℕ) (xs : List X) → all_numbered test k xs ≡ true → (i : ℕ) (x : X) → slice_get xs i ≡ Some x → test (k + i) x ≡ true
numbered test k [] h i x e = cc
numbered test k (y ∷ ys) h zero x e =
    let is : y ≡ x = cc in
    let same : k ≡ k + 0 = omega arith in
    subst (λ n. test n x ≡ true) same (subst (λ z. test k z ≡ true) is (both (test k y) (all_numbered test (k + 1) ys) h).0)
numbered test k (y ∷ ys) h (suc i) x e =
    let same : k + 1 + i ≡ k + suc i = omega arith in
    subst (λ n. test n x ≡ true) same (numbered test (k + 1) ys (both (test k y) (all_numbered test (k + 1) ys) h).1 i x e)

pub there : {X : Type 0} (xs : List X) (i : ℕ) → i < length xs → (x : X) × (slice_get xs i ≡ Some x)
there [] i lt = absurd (omega arith)
there (x ∷ xs) zero lt = (x, refl)
there (x ∷ xs) (suc i) lt = there xs i (omega arith)

all_below : (n : ℕ) (xs : List ℕ) (i : ℕ) → 0 < n → list_all (λ c. nat_lt c n) xs ≡ true → slice_index xs i < n
all_below n [] i some h = some
all_below n (x ∷ xs) zero some h = lt_if x n (both (nat_lt x n) (list_all (λ c. nat_lt c n) xs) h).0
all_below n (x ∷ xs) (suc i) some h = all_below n xs i some (both (nat_lt x n) (list_all (λ c. nat_lt c n) xs) h).1

-- ---- one member

even_power : (k : ℕ) → 2 ^ (1 + k) % 2 ≡ 0
even_power k = let e = pow-add 2 1 k in omega arith

power_bit : (c d : ℕ) → 2 ^ c / 2 ^ d % 2 ≡ 1 → c ≡ d
power_bit c d e = elim (nat_split d c) [
  | inl le ↦ elim (nat_split c d) [
    | inl ge ↦ omega arith
    | inr (k, at) ↦
        let p : 2 ^ c ≡ 2 ^ (1 + k) * 2 ^ d + 0 = ap (λ n. 2 ^ n) at ∙ pow-add 2 (d + 1) k ∙ ap (λ n. n * 2 ^ k) (pow-add 2 d 1) ∙ swap (2 ^ d) (2 ^ k) (2 ^ (1 + k)) (pow-add 2 1 k) in
        let some : 0 < 2 ^ d = pow_some d in
        let q : 2 ^ c / 2 ^ d ≡ 2 ^ (1 + k) = ap (λ n. n / 2 ^ d) p ∙ div-mul-add (2 ^ (1 + k)) (2 ^ d) 0 some in
        let z : 2 ^ c / 2 ^ d % 2 ≡ 0 = ap (λ n. n % 2) q ∙ even_power k in
        absurd (omega (arith, e, z))
  ]
  | inr (k, at) ↦
      let less : 2 ^ c < 2 ^ d = pow-lt {i = c} {j = d} (omega arith) in
      let p : 2 ^ c ≡ 0 * 2 ^ d + 2 ^ c = omega arith in
      let q : 2 ^ c / 2 ^ d ≡ 0 = ap (λ n. n / 2 ^ d) p ∙ div-mul-add 0 (2 ^ d) (2 ^ c) less in
      let z : 2 ^ c / 2 ^ d % 2 ≡ 0 = ap (λ n. n % 2) q in
      absurd (omega (arith, e, z))
]
  where
    swap : (a b m : ℕ) → m ≡ 2 ^ 1 * b → a * 2 ^ 1 * b ≡ m * a + 0
    swap a b m e = ap (λ n. n) (three a b) ∙ ap (λ n. n * a + 0) (sym e)
      where
        three : (a b : ℕ) → a * 2 ^ 1 * b ≡ 2 ^ 1 * b * a + 0
        three a b = grind arith

    pow_some : (d : ℕ) → 0 < 2 ^ d
    pow_some d = let e = pow_mono {i = 0} {j = d} (omega arith) in omega arith

-- ---- what a key's bits say

unlocked : (page flags key : ℕ) (pkru : Pkru) (access : Access) (form : Bool) → byte_refusal (mapped page flags key) pkru access form ≡ None → is_locked pkru key access ≡ false
unlocked page flags key pkru access form e = by (is_allowed (record { frame = page; flags = record { 0 = flags }; key = key }) access) (is_device (record { 0 = flags }) && not form) (is_locked pkru key access) e
  where
    by : (allowed refused locked : Bool) → ◌≡◌ {A = Option Refusal} (if not allowed then Some Permission else if refused then Some Permission else if locked then Some Key else None) None → locked ≡ false
    by true true locked e = cc
    by true false true e = cc
    by true false false e = refl
    by false refused locked e = cc

pub allowed : (page flags key : ℕ) (pkru : Pkru) (access : Access) (form : Bool) → byte_refusal (mapped page flags key) pkru access form ≡ None → is_allowed (record { frame = page; flags = record { 0 = flags }; key = key }) access ≡ true
allowed page flags key pkru access form e = by (is_allowed (record { frame = page; flags = record { 0 = flags }; key = key }) access) _ e
  where
    by : (t : Bool) (rest : Option Refusal) → ◌≡◌ {A = Option Refusal} (if not t then Some Permission else rest) None → t ≡ true
    by true rest e = refl
    by false rest e = cc

clear_means : (t : Bool) (bit : ℕ) → bit ≡ (if t then 0 else 1) → nat_eq bit 1 ≡ false → t ≡ true
clear_means true bit e f = refl
clear_means false bit e f = let x : nat_eq 1 1 ≡ false = subst (λ b. nat_eq b 1 ≡ false) e f in cc

-- ---- the keys of an image

module _ (image : Image) (h : IsImage image) (keyed : is_keyed image.mechanism ≡ true) (c : ℕ) (comp : Comp) (is : slice_get image.compartments c ≡ Some comp) where
  abbrev count : ℕ
  count = length image.compartments

  abbrev value : ℕ
  value = pkru_of image.sections image.scheduler c

  value_is : comp.pkru ≡ value
  value_is =
      let test : ℕ → Comp → Bool = λ (c : ℕ) (comp : Comp). comp.pkru == (if is_keyed image.mechanism then pkru_of image.sections image.scheduler c else 0) in
      let e : test (0 + c) comp ≡ true = numbered test 0 image.compartments (both _ _ h.sections).1 c comp is in
      let zero : 0 + c ≡ c = omega arith in
      eq_if comp.pkru (if is_keyed image.mechanism then pkru_of image.sections image.scheduler (0 + c) else 0) e
      ∙ ap (λ t. if t then pkru_of image.sections image.scheduler (0 + c) else 0) keyed ∙ ap (λ d. pkru_of image.sections image.scheduler d) zero

  pub key_is : (i : ℕ) (s : Section) → slice_get image.sections i ≡ Some s → s.key ≡ 2 + i
  key_is i s at =
      let e = numbered (has_key image.mechanism) 0 image.sections (both _ _ (both _ _ (both _ _ h.sections).0).0).1 i s at in
      eq_if s.key (if is_keyed image.mechanism then 2 + (0 + i) else 0) e ∙ ap (λ t. if t then 2 + (0 + i) else 0) keyed ∙ omega arith

  same_section : (i j : ℕ) (s t : Section) → slice_get image.sections i ≡ Some s → slice_get image.sections j ≡ Some t → s.key ≡ t.key → s ≡ t
  same_section i j s t a b e =
      let p = key_is i s a in
      let q = key_is j t b in
      let same : i ≡ j = omega arith in
      let u : Some s ≡ Some t = sym a ∙ ap (slice_get image.sections) same ∙ b in
      cc

  -- a key that is open is that of a section whose set holds c
  open_reads : (i : ℕ) (s : Section) → slice_get image.sections i ≡ Some s → is_locked (record { 0 = value }) s.key Read ≡ false → has_member s.readers c ≡ true
  open_reads i s at free =
      let k = key_is i s at in
      let small = section_keys image h i s at in
      let r : key_read image.sections c s.key ≡ true = clear_means (key_read image.sections c s.key) (bit_at value (2 * s.key)) (key_reads image.sections image.scheduler c s.key (omega arith) small) free in
      let (j, t, there, passes) = any_at (λ (t : Section). t.key == s.key && has_member t.readers c) image.sections r in
      let (key, member) = both (t.key == s.key) (has_member t.readers c) passes in
      let same : t ≡ s = same_section j i t s there at (eq_if t.key s.key key) in
      subst (λ (u : Section). has_member u.readers c ≡ true) same member

  open_writes : (i : ℕ) (s : Section) → slice_get image.sections i ≡ Some s → is_locked (record { 0 = value }) s.key Write ≡ false → has_member s.writers c ≡ true
  open_writes i s at free =
      let k = key_is i s at in
      let small = section_keys image h i s at in
      let lock = (neither (nat_eq (bit_at value (2 * s.key)) 1) (nat_eq (bit_at value (2 * s.key + 1)) 1) free).1 in
      let r : key_written image.sections c s.key ≡ true = clear_means (key_written image.sections c s.key) (bit_at value (2 * s.key + 1)) (key_writes image.sections image.scheduler c s.key (omega arith) small) lock in
      let (j, t, there, passes) = any_at (λ (t : Section). t.key == s.key && has_member t.writers c) image.sections r in
      let (key, member) = both (t.key == s.key) (has_member t.writers c) passes in
      let same : t ≡ s = same_section j i t s there at (eq_if t.key s.key key) in
      subst (λ (u : Section). has_member u.writers c ≡ true) same member

  write_reads : (key : ℕ) → is_locked (record { 0 = value }) key Write ≡ false → is_locked (record { 0 = value }) key Read ≡ false
  write_reads key free = (neither (nat_eq (bit_at value (2 * key)) 1) (nat_eq (bit_at value (2 * key + 1)) 1) free).0

  -- the private section of d is d's alone
  private_open : (d : ℕ) → d < count → is_locked (record { 0 = value }) (private_key image d) Read ≡ false → d ≡ c
  private_open d lt free =
      let more = (both _ _ (both _ _ (both _ _ (both _ _ (both _ _ (both _ _ h.sections).0).0).0).0).0) in
      let long : leading count ≤ length image.sections = le_if (leading count) (length image.sections) more.1 in
      let some : count ≤ leading count = at_least (nat_lt 1 count) in
      let (s, at) = there image.sections d (omega arith) in
      let key : private_key image d ≡ s.key = ap key_of at in
      let member = open_reads d s at (subst (λ k. is_locked (record { 0 = value }) k Read ≡ false) key free) in
      let e = numbered (leads count) 0 image.sections (both _ _ (both _ _ (both _ _ (both _ _ h.sections).0).0).0).1 d s at in
      let zero : 0 + d ≡ d = omega arith in
      let e2 : leads count d s ≡ true = subst (λ k. leads count k s ≡ true) zero e in
      let first : has_set (2 ^ d) s ≡ true = by_lead (nat_lt d count) (has_set (2 ^ d) s) (if d == count && nat_lt 1 count then has_set (2 ^ count - 1) s else true) (lt_yes d count lt) e2 in
      let readers : s.readers ≡ 2 ^ d = eq_if s.readers (2 ^ d) (both (s.readers == 2 ^ d) (s.writers == 2 ^ d) first).0 in
      let bit : has_member (2 ^ d) c ≡ true = subst (λ n. has_member n c ≡ true) readers member in
      power_bit d c (eq_if (bit_at (2 ^ d) c) 1 bit)
    where
      at_least : (t : Bool) {m : ℕ} → m ≤ (if t then m + 1 else m)
      at_least true = omega arith
      at_least false = omega arith

      lt_yes : (a b : ℕ) → a < b → nat_lt a b ≡ true
      lt_yes a b h = grind (arith, nat_tests)

      by_lead : (t a b : Bool) → t ≡ true → (if t then a else b) ≡ true → a ≡ true
      by_lead true a b e f = f
      by_lead false a b e f = cc

  some : 0 < count
  some = let s = (sized image h).some in omega arith

  module _ (space page : ℕ) (single : is_ept image ≡ false) (form : Bool) where
    abbrev held : Pkru
    held = record { 0 = value }

    no_mail : (from to : ℕ) → is_mailbox image space from to ≡ true → ⊥
    no_mail from to e = by (is_ept image) _ _ _ _ single e
      where
        by : (a b c d e : Bool) → a ≡ false → a && b && c && d && e ≡ true → ⊥
        by true b c d e f g = cc
        by false b c d e f g = cc

    split : (a b : Bool) → a ≡ true → a ≡ false → ⊥
    split a b e f = cc

    owned : (d : ℕ) → is_locked held (private_key image (owner_of image d)) Read ≡ false → owner_of image d ≡ c
    owned d free = private_open (owner_of image d) (all_below count image.owners d some h.owners) free

    stacked : (k : ℕ) → is_locked held (private_key image (stack_compartment image k)) Read ≡ false → stack_compartment image k ≡ c
    stacked k free = let some = some in private_open (stack_compartment image k) (omega arith) free

    pub reads : byte_refusal (page_entry image space page) held Read form ≡ None → MayRead image c page
    reads = by_region image space page P regions
      where
        P : Option Entry → Type 0
        P x = byte_refusal x held Read form ≡ None → MayRead image c page

        regions : Regions image space page P
        regions = record {
          none = λ e. cc;
          code = λ from to maps e. read_code (from, to, maps_all image (space_of image c) ((page - 0x400) * 4096) single);
          literal = λ from to e. read_literal (from, to);
          mailbox = λ from is e. absurd (no_mail ((page - 0xe000) / 16) ((page - 0xe000) % 16) is);
          thread = λ at e. read_thread at;
          device = λ from to own e. read_use (of_device (from, to, owned (page - 0xf100) (unlocked page 5 (private_key image (owner_of image (page - 0xf100))) held Read form e)));
          section = λ i s at from to one e. read_section (i, s, at, from, to, open_reads i s at (unlocked page 1 s.key held Read form e));
          machine = λ i s at from to ept member e. absurd (split (is_ept image) true ept single);
          whole = λ from small inside halves e. read_use (of_low_half (from, small, inside, λ yes. absurd (split (has_halves image.mechanism) true yes halves)));
          low = λ from small inside halves ours e. read_use (of_low_half (from, small, inside, λ yes. stacked (stack_of image page) (unlocked page 1 (private_key image (stack_compartment image (stack_of image page))) held Read form e)));
          high = λ from small past inside halves e. read_use (of_high_half (from, small, past, inside, halves));
        }

    scheduled : is_locked held (if is_keyed image.mechanism then 1 else 0) Write ≡ false → c ≡ image.scheduler
    scheduled free =
        let free1 : is_locked held 1 Write ≡ false = subst (λ t. is_locked held (if t then 1 else 0) Write ≡ false) keyed free in
        let lock = (neither (nat_eq (bit_at value 2) 1) (nat_eq (bit_at value 3) 1) free1).1 in
        eq_if c image.scheduler (clear_means (nat_eq c image.scheduler) (bit_at value 3) ((first_bits image.sections image.scheduler c).3) lock)

    pub writes : byte_refusal (page_entry image space page) held Write form ≡ None → MayWrite image c page
    writes = by_region image space page P regions
      where
        P : Option Entry → Type 0
        P x = byte_refusal x held Write form ≡ None → MayWrite image c page

        thread_flags : ℕ
        thread_flags = if is_ept image && not (space == image.scheduler) then 0 else 1

        regions : Regions image space page P
        regions = record {
          none = λ e. cc;
          code = λ from to maps e. let f = allowed page 2 0 held Write form e in cc;
          literal = λ from to e. let f = allowed page 0 0 held Write form e in cc;
          mailbox = λ from is e. absurd (no_mail ((page - 0xe000) / 16) ((page - 0xe000) % 16) is);
          thread = λ at e. write_thread at (scheduled (unlocked page (if is_ept image && not (space == image.scheduler) then 0 else 1) (if is_keyed image.mechanism then 1 else 0) held Write form e));
          device = λ from to own e. let key = private_key image (owner_of image (page - 0xf100)) in write_use (of_device (from, to, owned (page - 0xf100) (write_reads key (unlocked page 5 key held Write form e))));
          section = λ i s at from to one e. write_section (i, s, at, from, to, open_writes i s at (unlocked page 1 s.key held Write form e));
          machine = λ i s at from to ept member e. absurd (split (is_ept image) true ept single);
          whole = λ from small inside halves e. write_use (of_low_half (from, small, inside, λ yes. absurd (split (has_halves image.mechanism) true yes halves)));
          low = λ from small inside halves ours e. let key = private_key image (stack_compartment image (stack_of image page)) in write_use (of_low_half (from, small, inside, λ yes. stacked (stack_of image page) (write_reads key (unlocked page 1 key held Write form e))));
          high = λ from small past inside halves e. write_use (of_high_half (from, small, past, inside, halves));
        }

    -- What the held value permits is granted.
    pub permits : (access : Access) → access ≢ Fetch → byte_refusal (page_entry image space page) held access form ≡ None → Granted image c access page
    permits Read kind e = reads e
    permits Write kind e = writes e
    permits Fetch kind e = absurd (kind refl)

  pub held_is : (pkru : Pkru) → comp.pkru ≡ pkru.0 → ◌≡◌ {A = Pkru} (record { 0 = value }) pkru
  held_is pkru e = ap (λ n. let p : Pkru = record { 0 = n } in p) (sym value_is ∙ e)
