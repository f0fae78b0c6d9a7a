-- Accesses that nothing refuses.
use Rattle.std.proofs.Common.{◌≡◌, ◌≢◌, ℕ, zero, suc, ◌+◌, ◌-◌, ◌*◌, ◌%◌, ◌^◌, ◌<◌, ◌≤◌, Bool, Option, None, Some, refl, sym, ap, ◌∙◌, subst, arith}
use Rattle.fx_vm_pages.specs.declared.entry.Entry.{Entry}
use Rattle.fx_vm_pages.specs.declared.entry.Pkru.{Pkru}
use Rattle.fx_vm_pages.specs.declared.access.Access.{Access}
use Rattle.fx_vm_pages.specs.declared.access.Refusal.{Refusal}
use Rattle.fx_vm_pages.specs.Access.{byte_refusal, refused_from, refused_or, page_of, is_register_form, access_check}

abbrev first_is : Refusal → ℕ → Option (ℕ × Refusal)
first_is why a = Some (a, why)

module _ (entries : ℕ → Option Entry) (pkru : Pkru) (access : Access) where
  -- no byte is refused
  from_free : (form : Bool) (n a : ℕ) → a < 2 ^ 64 → ((k : ℕ) → k < n → byte_refusal (entries (page_of ((a + k) % 2 ^ 64))) pkru access form ≡ None) → refused_from entries pkru access form a n ≡ None
  from_free form zero a lt h = refl
  from_free form (suc n) a lt h =
      let e : (a + 0) % 2 ^ 64 ≡ a = omega arith in
      let here : byte_refusal (entries (page_of a)) pkru access form ≡ None = subst (λ b. byte_refusal (entries (page_of b)) pkru access form ≡ None) e (h 0 (omega arith)) in
      let small : (a + 1) % 2 ^ 64 < 2 ^ 64 = omega arith in
      ap (λ x. refused_or a x (refused_from entries pkru access form ((a + 1) % 2 ^ 64) n)) here
      ∙ from_free form n ((a + 1) % 2 ^ 64) small
      (λ k l.
      let f : (a + suc k) % 2 ^ 64 ≡ ((a + 1) % 2 ^ 64 + k) % 2 ^ 64 = omega arith in
      subst (λ b. byte_refusal (entries (page_of b)) pkru access form ≡ None) f (h (suc k) (omega arith)))

  pub check_free : (a n : ℕ) → a < 2 ^ 64 → ((k : ℕ) → k < n → byte_refusal (entries (page_of ((a + k) % 2 ^ 64))) pkru access (is_register_form a n) ≡ None) → access_check entries pkru access a n ≡ None
  unfolding access_check
  check_free a n lt h = from_free (is_register_form a n) n a lt h

  -- within pages whose bytes are not refused
  pub check_region : (low high a n : ℕ) → high ≤ 2 ^ 52 → 4096 * low ≤ a → a + n ≤ 4096 * high → a < 2 ^ 64 → ((page : ℕ) → low ≤ page → page < high → byte_refusal (entries page) pkru access (is_register_form a n) ≡ None) → access_check entries pkru access a n ≡ None
  check_region low high a n top from to lt h =
      check_free a n lt (λ k l.
      let e : (a + k) % 2 ^ 64 ≡ a + k = omega arith in
      let page : page_of ((a + k) % 2 ^ 64) ≡ page_of (a + k) = ap page_of e in
      h (page_of ((a + k) % 2 ^ 64)) (omega arith) (omega arith))

  -- within one page
  pub check_page : (a n : ℕ) (e : Entry) → a % 4096 + n ≤ 4096 → a < 2 ^ 64 → entries (page_of a) ≡ Some e → byte_refusal (Some e) pkru access (is_register_form a n) ≡ None → access_check entries pkru access a n ≡ None
  check_page a n e fits lt is h =
      check_region (page_of a) (page_of a + 1) a n (omega arith) (omega arith) (omega arith) lt
      (λ page from to.
      let same : page ≡ page_of a = omega arith in
      subst (λ x. byte_refusal x pkru access (is_register_form a n) ≡ None) (sym (ap entries same ∙ is)) h)

  -- Where an access isn't refused, none of its bytes is.
  split : (a : ℕ) (x : Option Refusal) (rest : Option (ℕ × Refusal)) → refused_or a x rest ≡ None → (x ≡ None) × (rest ≡ None)
  split a None rest e = (refl, e)
  split a (Some why) rest e = cc

  each_from : (form : Bool) (n a k : ℕ) → a < 2 ^ 64 → refused_from entries pkru access form a n ≡ None → k < n → byte_refusal (entries (page_of ((a + k) % 2 ^ 64))) pkru access form ≡ None
  each_from form zero a k lt e small = absurd (omega arith)
  each_from form (suc n) a zero lt e small =
      let (here, rest) = split a (byte_refusal (entries (page_of a)) pkru access form) (refused_from entries pkru access form ((a + 1) % 2 ^ 64) n) e in
      let f : a ≡ (a + 0) % 2 ^ 64 = omega arith in
      subst (λ b. byte_refusal (entries (page_of b)) pkru access form ≡ None) f here
  each_from form (suc n) a (suc k) lt e small =
      let (here, rest) = split a (byte_refusal (entries (page_of a)) pkru access form) (refused_from entries pkru access form ((a + 1) % 2 ^ 64) n) e in
      let f : ((a + 1) % 2 ^ 64 + k) % 2 ^ 64 ≡ (a + suc k) % 2 ^ 64 = omega arith in
      subst (λ b. byte_refusal (entries (page_of b)) pkru access form ≡ None) f (each_from form n ((a + 1) % 2 ^ 64) k (omega arith) rest (omega arith))

  pub each_free : (a n k : ℕ) → a < 2 ^ 64 → access_check entries pkru access a n ≡ None → k < n → byte_refusal (entries (page_of ((a + k) % 2 ^ 64))) pkru access (is_register_form a n) ≡ None
  unfolding access_check
  each_free a n k lt e small = each_from (is_register_form a n) n a k lt e small

  first_from : (form : Bool) (n a : ℕ) → 0 < n → refused_from entries pkru access form a n ≡ None → byte_refusal (entries (page_of a)) pkru access form ≡ None
  first_from form zero a some e = absurd (omega arith)
  first_from form (suc n) a some e = (split a (byte_refusal (entries (page_of a)) pkru access form) (refused_from entries pkru access form ((a + 1) % 2 ^ 64) n) e).0

  pub first_free : (a n : ℕ) → 0 < n → access_check entries pkru access a n ≡ None → byte_refusal (entries (page_of a)) pkru access (is_register_form a n) ≡ None
  unfolding access_check
  first_free a n some e = first_from (is_register_form a n) n a some e

  -- the next byte of an access, where the first isn't refused
  pub after_byte : (form : Bool) (n a : ℕ) → n ≢ 0 → byte_refusal (entries (page_of a)) pkru access form ≡ None → refused_from entries pkru access form a n ≡ refused_from entries pkru access form ((a + 1) % 2 ^ 64) (n - 1)
  after_byte form zero a some e = absurd (some refl)
  after_byte form (suc n) a some e =
      let less : suc n - 1 ≡ n = omega arith in
      ap (λ x. refused_or a x (refused_from entries pkru access form ((a + 1) % 2 ^ 64) n)) e ∙ ap (refused_from entries pkru access form ((a + 1) % 2 ^ 64)) (sym less)

  -- ---- the first refused byte

  refusal_from : (form : Bool) (n a k : ℕ) (why : Refusal) → a < 2 ^ 64 → k < n → ((j : ℕ) → j < k → byte_refusal (entries (page_of ((a + j) % 2 ^ 64))) pkru access form ≡ None)
      → byte_refusal (entries (page_of ((a + k) % 2 ^ 64))) pkru access form ≡ Some why → refused_from entries pkru access form a n ≡ Some ((a + k) % 2 ^ 64, why)
  refusal_from form zero a k why lt small free is = absurd (omega arith)
  refusal_from form (suc n) a zero why lt small free is =
      let e : (a + 0) % 2 ^ 64 ≡ a = omega arith in
      let here : byte_refusal (entries (page_of a)) pkru access form ≡ Some why = subst (λ b. byte_refusal (entries (page_of b)) pkru access form ≡ Some why) e is in
      ap (λ x. refused_or a x (refused_from entries pkru access form ((a + 1) % 2 ^ 64) n)) here ∙ ap (first_is why) (sym e)
  refusal_from form (suc n) a (suc k) why lt small free is =
      let e : (a + 0) % 2 ^ 64 ≡ a = omega arith in
      let here : byte_refusal (entries (page_of a)) pkru access form ≡ None = subst (λ b. byte_refusal (entries (page_of b)) pkru access form ≡ None) e (free 0 (omega arith)) in
      let f : (a + suc k) % 2 ^ 64 ≡ ((a + 1) % 2 ^ 64 + k) % 2 ^ 64 = omega arith in
      ap (λ x. refused_or a x (refused_from entries pkru access form ((a + 1) % 2 ^ 64) n)) here
      ∙ refusal_from form n ((a + 1) % 2 ^ 64) k why (omega arith) (omega arith)
      (λ j l.
      let g : (a + suc j) % 2 ^ 64 ≡ ((a + 1) % 2 ^ 64 + j) % 2 ^ 64 = omega arith in
      subst (λ b. byte_refusal (entries (page_of b)) pkru access form ≡ None) g (free (suc j) (omega arith)))
      (subst (λ b. byte_refusal (entries (page_of b)) pkru access form ≡ Some why) f is)
      ∙ ap (first_is why) (sym f)

  -- An access is refused at its first refused byte.
  pub check_refused : (a n k : ℕ) (why : Refusal) → a < 2 ^ 64 → k < n → ((j : ℕ) → j < k → byte_refusal (entries (page_of ((a + j) % 2 ^ 64))) pkru access (is_register_form a n) ≡ None)
      → byte_refusal (entries (page_of ((a + k) % 2 ^ 64))) pkru access (is_register_form a n) ≡ Some why → access_check entries pkru access a n ≡ Some ((a + k) % 2 ^ 64, why)
  unfolding access_check
  check_refused a n k why lt small free is = refusal_from (is_register_form a n) n a k why lt small free is
