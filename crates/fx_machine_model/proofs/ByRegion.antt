-- The entry of a page, by the regions.
use Rattle.std.proofs.Common.{◌≡◌, ℕ, suc, ◌+◌, ◌*◌, ◌-◌, ◌/◌, ◌%◌, ◌<◌, ◌≤◌, ◌⊎◌, inl, inr, Bool, true, false, Option, None, Some, List, [], ◌∷◌, length, refl, subst, arith}
use Rattle.std.specs.Prelude.{nat_le, nat_lt, ◌&&◌, ◌==◌, not, slice_get, if◌then◌else◌, nat_eq}
use Rattle.std.proofs.lemmas.Bool.Decides.{nat_tests}
use Rattle.fx_vm_pages.specs.declared.entry.Entry.{Entry}
use Rattle.fx_image.specs.Keys.{has_member, is_keyed}
use Rattle.fx_image.specs.Layout.{first_stack, stack_count, stack_bytes, has_halves}
use Rattle.fx_image.specs.declared.forms.Section.{Section}
use Rattle.fx_image.specs.declared.forms.Image.{Image}
use Rattle.fx_machine_model.specs.Layout.{first_of, is_ept, holds, page_entry, mapped, maps_code, code_entry, literal_entry, is_mailbox, mailbox_entry, thread_entry, device_entry, section_page, section_entry, stack_entry, stack_page, stack_of, place_of, low_half, high_half, private_key, common_key, owner_of, stack_compartment}

le_if : (a b : ℕ) → nat_le a b ≡ true → a ≤ b
le_if a b e = grind (arith, nat_tests)

lt_if : (a b : ℕ) → nat_lt a b ≡ true → a < b
lt_if a b e = grind (arith, nat_tests)

lt_not : (a b : ℕ) → nat_lt a b ≡ false → b ≤ a
lt_not a b e = grind (arith, nat_tests)

eq_if : (a b : ℕ) → nat_eq a b ≡ true → a ≡ b
eq_if a b e = grind (arith, nat_tests)

both : (a b : Bool) → a && b ≡ true → (a ≡ true) × (b ≡ true)
both true b e = (refl, e)
both false b e = cc

-- What holds of a page's entry in each region, given exactly.
pub record Regions (image : Image) (space page : ℕ) (P : Option Entry → Type 0) : Type 0 where
  pub none : P None
  pub code : 0x400 ≤ page → (page - 0x400) * 4096 < length image.code → maps_code image space ((page - 0x400) * 4096) ≡ true → P (mapped page 2 0)
  pub literal : 0x600 ≤ page → (page - 0x600) * 4096 < length image.literals → P (mapped page 0 0)
  pub mailbox : 0xe000 ≤ page → is_mailbox image space ((page - 0xe000) / 16) ((page - 0xe000) % 16) ≡ true → P (mapped page 1 0)
  pub thread : page ≡ 0xf000 → P (mapped page (if is_ept image && not (space == image.scheduler) then 0 else 1) (if is_keyed image.mechanism then 1 else 0))
  pub device : 0xf100 ≤ page → page < 0xf110 → holds image space (owner_of image (page - 0xf100)) ≡ true → P (mapped page 5 (private_key image (owner_of image (page - 0xf100))))
  pub section : (i : ℕ) (s : Section) → slice_get image.sections i ≡ Some s → s.page ≤ page → page < s.page + s.pages → is_ept image ≡ false → P (mapped page 1 s.key)
  pub machine : (i : ℕ) (s : Section) → slice_get image.sections i ≡ Some s → s.page ≤ page → page < s.page + s.pages → is_ept image ≡ true → has_member s.readers space ≡ true → P (mapped page (if has_member s.writers space then 1 else 0) s.key)
  pub whole : first_stack ≤ page * 4096 → stack_of image page < stack_count image → place_of image page < stack_bytes image → has_halves image.mechanism ≡ false → P (mapped page 1 (common_key image))
  pub low : first_stack ≤ page * 4096 → stack_of image page < stack_count image → place_of image page < stack_bytes image → has_halves image.mechanism ≡ true → (is_ept image && not (space == stack_compartment image (stack_of image page))) ≡ false
      → P (mapped page 1 (private_key image (stack_compartment image (stack_of image page))))
  pub high : first_stack ≤ page * 4096 → stack_of image page < stack_count image → stack_bytes image ≤ place_of image page → place_of image page < 2 * stack_bytes image → has_halves image.mechanism ≡ true → P (mapped page 1 (common_key image))

module _ (image : Image) (space page : ℕ) (P : Option Entry → Type 0) (regions : Regions image space page P) where
  abbrev Here : Option Entry → Type 0
  Here x = (x ≡ None) ⊎ P x

  if_so : (t : Bool) (flags key : ℕ) → (t ≡ true → P (mapped page flags key)) → Here (if t then mapped page flags key else None)
  if_so true flags key h = inr (h refl)
  if_so false flags key h = inl refl

  in_code : Here (code_entry image space page)
  in_code =
      let inside = nat_lt ((page - 0x400) * 4096) (length image.code) in
      let maps = maps_code image space ((page - 0x400) * 4096) in
      if_so (nat_le 0x400 page && inside && maps) 2 0
      (λ e.
      let (front, there) = both (nat_le 0x400 page && inside) maps e in
      let (from, to) = both (nat_le 0x400 page) inside front in
      regions.code (le_if 0x400 page from) (lt_if ((page - 0x400) * 4096) (length image.code) to) there)

  in_literals : Here (literal_entry image page)
  in_literals =
      if_so (nat_le 0x600 page && nat_lt ((page - 0x600) * 4096) (length image.literals)) 0 0
      (λ e. let (from, to) = both (nat_le 0x600 page) (nat_lt ((page - 0x600) * 4096) (length image.literals)) e in regions.literal (le_if 0x600 page from) (lt_if ((page - 0x600) * 4096) (length image.literals) to))

  in_mail : Here (mailbox_entry image space page)
  in_mail =
      let mail = is_mailbox image space ((page - 0xe000) / 16) ((page - 0xe000) % 16) in
      if_so (nat_le 0xe000 page && mail) 1 0 (λ e. let (from, is) = both (nat_le 0xe000 page) mail e in regions.mailbox (le_if 0xe000 page from) is)

  in_thread : Here (thread_entry image space page)
  in_thread = if_so (page == 0xf000) (if is_ept image && not (space == image.scheduler) then 0 else 1) (if is_keyed image.mechanism then 1 else 0) (λ e. regions.thread (eq_if page 0xf000 e))

  in_devices : Here (device_entry image space page)
  in_devices =
      let owned = holds image space (owner_of image (page - 0xf100)) in
      if_so (nat_le 0xf100 page && nat_lt page 0xf110 && owned) 5 (private_key image (owner_of image (page - 0xf100)))
      (λ e.
      let (front, is) = both (nat_le 0xf100 page && nat_lt page 0xf110) owned e in
      let (from, to) = both (nat_le 0xf100 page) (nat_lt page 0xf110) front in
      regions.device (le_if 0xf100 page from) (lt_if page 0xf110 to) is)

  one_section : (ept reads : Bool) (i : ℕ) (s : Section) → slice_get image.sections i ≡ Some s → s.page ≤ page → page < s.page + s.pages → is_ept image ≡ ept → has_member s.readers space ≡ reads
      → Here (if not ept then mapped page 1 s.key else if reads then mapped page (if has_member s.writers space then 1 else 0) s.key else None)
  one_section false reads i s at from to e m = inr (regions.section i s at from to e)
  one_section true true i s at from to e m = inr (regions.machine i s at from to e m)
  one_section true false i s at from to e m = inl refl

  in_sections : (n : ℕ) (ss : List Section) → ((i : ℕ) (s : Section) → slice_get ss i ≡ Some s → slice_get image.sections (n + i) ≡ Some s) → Here (section_entry (is_ept image) space page ss)
  in_sections n [] at = inl refl
  in_sections n (s ∷ ss) at = by (nat_le s.page page && nat_lt page (s.page + s.pages)) refl (in_sections (n + 1) ss (λ i t g. let same : n + suc i ≡ n + 1 + i = omega arith in subst (λ j. slice_get image.sections j ≡ Some t) same (at (suc i) t g)))
    where
      by : (t : Bool) → (nat_le s.page page && nat_lt page (s.page + s.pages)) ≡ t → Here (section_entry (is_ept image) space page ss) → Here (if t then section_page (is_ept image) space page s else section_entry (is_ept image) space page ss)
      by true e rest =
          let (from, to) = both (nat_le s.page page) (nat_lt page (s.page + s.pages)) e in
          one_section (is_ept image) (has_member s.readers space) (n + 0) s (at 0 s refl) (le_if s.page page from) (lt_if page (s.page + s.pages) to) refl refl
      by false e rest = rest

  in_stacks : Here (stack_entry image space page)
  in_stacks = by (nat_le first_stack (page * 4096) && nat_lt (stack_of image page) (stack_count image)) refl
    where
      lows : first_stack ≤ page * 4096 → stack_of image page < stack_count image → place_of image page < stack_bytes image → (halves closed : Bool) → has_halves image.mechanism ≡ halves → (is_ept image && not (space == stack_compartment image (stack_of image page))) ≡ closed
          → Here (if not halves then mapped page 1 (common_key image) else if closed then None else mapped page 1 (private_key image (stack_compartment image (stack_of image page))))
      lows from small inside false closed e f = inr (regions.whole from small inside e)
      lows from small inside true true e f = inl refl
      lows from small inside true false e f = inr (regions.low from small inside e f)

      high : first_stack ≤ page * 4096 → stack_of image page < stack_count image → stack_bytes image ≤ place_of image page → (t : Bool) → nat_lt (place_of image page) (2 * stack_bytes image) ≡ t → Here (if t then high_half image page else None)
      high from small past true e = if_so (has_halves image.mechanism) 1 (common_key image) (λ h. regions.high from small past (lt_if (place_of image page) (2 * stack_bytes image) e) h)
      high from small past false e = inl refl

      half : first_stack ≤ page * 4096 → stack_of image page < stack_count image → (t : Bool) → nat_lt (place_of image page) (stack_bytes image) ≡ t
          → Here (if t then low_half image space (stack_of image page) page else if nat_lt (place_of image page) (2 * stack_bytes image) then high_half image page else None)
      half from small true e = lows from small (lt_if (place_of image page) (stack_bytes image) e) (has_halves image.mechanism) (is_ept image && not (space == stack_compartment image (stack_of image page))) refl refl
      half from small false e = high from small (lt_not (place_of image page) (stack_bytes image) e) (nat_lt (place_of image page) (2 * stack_bytes image)) refl

      by : (t : Bool) → (nat_le first_stack (page * 4096) && nat_lt (stack_of image page) (stack_count image)) ≡ t → Here (if t then stack_page image space (stack_of image page) (place_of image page) page else None)
      by true e =
          let (from, small) = both (nat_le first_stack (page * 4096)) (nat_lt (stack_of image page) (stack_count image)) e in
          half (le_if first_stack (page * 4096) from) (lt_if (stack_of image page) (stack_count image) small) (nat_lt (place_of image page) (stack_bytes image)) refl
      by false e = inl refl

  next : (x : Option Entry) (rest : List (Option Entry)) → Here x → P (first_of rest) → P (first_of (x ∷ rest))
  next None rest h later = later
  next (Some e) rest (inl none) later = cc
  next (Some e) rest (inr here) later = here

  -- What holds in each region holds of the page's entry.
  pub by_region : P (page_entry image space page)
  unfolding page_entry
  by_region =
      next (code_entry image space page) _ in_code
      (next (literal_entry image page) _ in_literals
      (next (mailbox_entry image space page) _ in_mail
      (next (thread_entry image space page) _ in_thread
      (next (device_entry image space page) _ in_devices
      (next (section_entry (is_ept image) space page image.sections) _ (in_sections 0 image.sections (λ i s g. let same : i ≡ 0 + i = omega arith in subst (λ j. slice_get image.sections j ≡ Some s) same g))
      (next (stack_entry image space page) [] in_stacks regions.none))))))
