-- What holds after each turn of an image with gates under keys.
use Rattle.std.proofs.Common.{◌≡◌, ◌≢◌, ℕ, pos, zero, suc, ◌+◌, ◌-◌, ◌%◌, ◌^◌, ◌<◌, ◌⊎◌, inl, inr, Bool, true, false, List, [], ◌∷◌, length, All, Option, None, Some, refl, sym, ap, ◌∙◌, subst, arith}
use Rattle.std.specs.Prelude.{nat_eq, ◌==◌, ◌||◌, if◌then◌else◌, slice_get, nat_lt, nat_le, ◌&&◌, unwrap_or}
use Rattle.std.specs.List.{list_any, list_all}
use Rattle.std.proofs.lemmas.Bool.Decides.{nat_tests}
use Rattle.fx_outcomes.specs.Runs.{Goes, Stops, Next, after}
use Rattle.fx_outcomes.specs.Many.{Many, turn, placed, put}
use Rattle.fx_outcomes.proofs.Kept.{kept}
use Rattle.fx_base.specs.declared.device_op.DeviceOp.{DeviceOp}
use Rattle.fx_x64_forms.specs.Numbers.{width_bytes}
use Rattle.fx_x64_forms.specs.declared.inst.Inst.{Inst}
use Rattle.fx_x64_forms.specs.declared.inst.Inst.TheVariants.{AluImm, Jcc, MovImm, Hlt}
use Rattle.fx_x64_forms.specs.declared.inst.AluOp.TheVariants.{Cmp}
use Rattle.fx_x64_forms.specs.declared.operand.Reg.TheVariants.{Rax}
use Rattle.fx_x64_forms.specs.declared.operand.Cond.TheVariants.{Ne}
use Rattle.fx_x64_code.specs.Spelling.{spelling, IsRow}
use Rattle.fx_cpu.specs.declared.trap.Trap.{Trap}
use Rattle.fx_x64_forms.specs.declared.operand.Width.{Width}
use Rattle.fx_x64_forms.specs.declared.operand.Width.TheVariants.{W8, W16, W32, W64}
use Rattle.fx_vm_pages.specs.Access.{byte_refusal, page_of, is_register_form}
use Rattle.fx_cpu.specs.Registers.{past}
use Rattle.fx_cpu.specs.Memory.{word_at}
use Rattle.fx_cpu.specs.Does.{need}
use Rattle.fx_cpu.specs.declared.registers.Regs.{Regs}
use Rattle.fx_cpu.specs.declared.need.Need.TheVariants as needs
use Rattle.fx_cpu.proofs.Memory.{word_fits, stored_bytes}
use Rattle.fx_image.specs.Keys.{is_keyed}
use Rattle.fx_image.specs.Layout.{code_start, is_in_stack}
use Rattle.fx_image.specs.Rules.{IsImage, is_listed, is_start}
use Rattle.fx_image.specs.declared.forms.Image.{Image}
use Rattle.fx_image.specs.declared.forms.Comp.{Comp}
use Rattle.fx_image.specs.declared.forms.Stub.{Stub}
use Rattle.fx_machine_model.specs.Layout.{page_entry, is_ept, first_of}
use Rattle.fx_machine_model.specs.Moves.{World, move, holder}
use Rattle.fx_machine_model.specs.declared.stop.Stop.{Stop}
use Rattle.fx_machine_model.proofs.Checks.{each_free}
use Rattle.fx_machine_model.proofs.Placing.{boot_code}
use Rattle.fx_machine_model.specs.Boot.{byte_from, object_byte, idle_byte, boot_byte, boot_regs, started, started_at, home_pkru, pkru_in, vcpus}
use Rattle.fx_machine_model.specs.Running.{boot, image_after}
use Rattle.fx_image.specs.declared.forms.Start.{Start}
use Rattle.fx_machine_law.proofs.Access.{access_kind, low_access}
use Rattle.fx_machine_model.proofs.Pages.{fits}
use Rattle.fx_machine_model.specs.Standing.{HoldsCode, StandsAt}
use Rattle.fx_machine_model.proofs.Standing.{stored_keeps}
use Rattle.fx_machine_model.specs.Touches.{Touch, access_of}
use Rattle.fx_confined_model.specs.Grants.{Acts, Checking, domain, is_checking, is_behind, is_abort, IsSomebody, IsHeld, IsGranted, Granted}
use Rattle.fx_confined_law.specs.Confined.{HasChecks, HasBytes, Obeys, ObeysUnderKeys}
use Rattle.fx_machine_model.proofs.Ways.{Made, Ways, goes}
use Rattle.fx_machine_law.proofs.Kept.{accesses_are_permitted, touch_is}
use Rattle.fx_machine_law.proofs.Rip.{rip_low}
use Rattle.fx_confined_law.proofs.Points as points
use Rattle.fx_confined_law.proofs.Stubs as stubs
use Rattle.fx_confined_model.proofs.Permits as keys

-- ---- who holds a value

eq_if : (a b : ℕ) → nat_eq a b ≡ true → a ≡ b
eq_if a b e = grind (arith, nat_tests)

differ : (a b : ℕ) → a ≡ b → nat_eq a b ≡ false → ⊥
differ a b e f = grind (arith, nat_tests)

abbrev Holder : List Comp → ℕ → ℕ → ℕ → Type 0
Holder cs k p found = (d : ℕ) × (comp : Comp) × (found ≡ k + d) × (slice_get cs d ≡ Some comp) × (comp.pkru ≡ p) × (d < length cs)

by_first : (x : Comp) (cs : List Comp) (k p : ℕ) (t : Bool) → nat_eq x.pkru p ≡ t → (nat_eq x.pkru p ≡ false → Holder cs (k + 1) p (holder cs (k + 1) p)) → Holder (x ∷ cs) k p (if t then k else holder cs (k + 1) p)
by_first x cs k p true t rest = (0, x, omega arith, refl, eq_if x.pkru p t, omega arith)
by_first x cs k p false t rest = let (d, comp, is, at, same, lt) = rest t in (suc d, comp, is ∙ omega arith, at, same, omega arith)

found_holder : (cs : List Comp) (k p c : ℕ) (comp : Comp) → slice_get cs c ≡ Some comp → comp.pkru ≡ p → Holder cs k p (holder cs k p)
found_holder [] k p c comp at e = cc
found_holder (x ∷ cs) k p zero comp at e =
    let same : x ≡ comp = cc in
    by_first x cs k p (nat_eq x.pkru p) refl (λ other. absurd (differ x.pkru p (ap (λ (z : Comp). z.pkru) same ∙ e) other))
found_holder (x ∷ cs) k p (suc c) comp at e = by_first x cs k p (nat_eq x.pkru p) refl (λ other. found_holder cs (k + 1) p c comp at e)

there : {X : Type 0} (xs : List X) (i : ℕ) → i < length xs → (x : X) × (slice_get xs i ≡ Some x)
there [] i lt = absurd (omega arith)
there (x ∷ xs) zero lt = (x, refl)
there (x ∷ xs) (suc i) lt = there xs i (omega arith)

both : (a b : Bool) → a && b ≡ true → (a ≡ true) × (b ≡ true)
both true b e = (refl, e)
both false b e = cc

lt_if : (a b : ℕ) → nat_lt a b ≡ true → a < b
lt_if a b e = grind (arith, nat_tests)

all_at : {X : Type 0} (p : X → Bool) (xs : List X) (i : ℕ) (x : X) → list_all p xs ≡ true → slice_get xs i ≡ Some x → p x ≡ true
all_at p [] i x h e = cc
all_at p (y ∷ ys) zero x h e = let is : y ≡ x = cc in subst (λ z. p z ≡ true) is (both (p y) (list_all p ys) h).0
all_at p (y ∷ ys) (suc i) x h e = all_at p ys i x (both (p y) (list_all p ys) h).1 e

-- ---- where RIP is checked

any_stub : (p : Stub → Bool) (q : ℕ → Bool) (ss : List Stub) → ((s : Stub) → p s ≡ true → (at : ℕ) × (((s.first == at) || (s.second == at)) ≡ true) × (q at ≡ true)) → list_any p ss ≡ true → (at : ℕ) × (is_listed ss at ≡ true) × (q at ≡ true)
any_stub p q [] each e = cc
any_stub p q (s ∷ ss) each e = by (p s) refl e (any_stub p q ss each)
  where
    or_right : (a b : Bool) → b ≡ true → a || b ≡ true
    or_right true b e = refl
    or_right false b e = e

    or_left : (a b : Bool) → a ≡ true → a || b ≡ true
    or_left a b e = ap (λ t. t || b) e

    by : (t : Bool) → p s ≡ t → t || list_any p ss ≡ true → (list_any p ss ≡ true → (at : ℕ) × (is_listed ss at ≡ true) × (q at ≡ true)) → (at : ℕ) × (is_listed (s ∷ ss) at ≡ true) × (q at ≡ true)
    by true h e later = let (at, named, is) = each s h in (at, or_left ((s.first == at) || (s.second == at)) (is_listed ss at) named, is)
    by false h e later = let (at, named, is) = later e in (at, or_right ((s.first == at) || (s.second == at)) (is_listed ss at) named, is)

either : (a b : Bool) → a || b ≡ true → (a ≡ true) ⊎ (b ≡ true)
either true b e = inl refl
either false b e = inr e

named_first : (a b : ℕ) → (nat_eq a a || nat_eq b a) ≡ true
named_first a b = grind (arith, nat_tests)

named_second : (a b : ℕ) → (nat_eq a b || nat_eq b b) ≡ true
named_second a b = grind (arith, nat_tests)

module _ (image : Image) (h : IsImage image) (keyed : is_keyed image.mechanism ≡ true) (single : is_ept image ≡ false) (has : HasChecks image) where
  abbrev Inv : Regs → Type 0
  Inv r = stubs.Inv image h single has r

  -- What holds of a vCPU's registers and the world after each turn.
  pub record Sound (r : Regs) (w : World) : Type 0 where
    pub holds : HoldsCode image w.memory
    pub bytes : (k : ℕ) → w.memory k < 256
    pub answers : All (λ a. a < 2 ^ 64) w.answers
    pub low : r.rip < 2 ^ 64
    pub inv : Inv r

  word_low : (m : ℕ → ℕ) (width : Width) (a : ℕ) → ((k : ℕ) → m k < 256) → word_at m width a < 2 ^ 64
  word_low m W8 a b = let f = word_fits m W8 a b in omega arith
  word_low m W16 a b = let f = word_fits m W16 a b in omega arith
  word_low m W32 a b = let f = word_fits m W32 a b in omega arith
  word_low m W64 a b = let f = word_fits m W64 a b in omega arith

  head_low : (answer : ℕ) (rest answers : List ℕ) → answers ≡ answer ∷ rest → All (λ a. a < 2 ^ 64) answers → (answer < 2 ^ 64) × All (λ a. a < 2 ^ 64) rest
  head_low answer rest answers e all =
      let f = subst (λ l. All (λ a. a < 2 ^ 64) l) e all in
      (f 0 0 (omega arith), λ k d lt. f (suc k) d (omega arith))

  past_low : (r : Regs) (len : ℕ) → (past r len).rip < 2 ^ 64
  past_low r len = omega arith

  -- Each turn keeps it.
  pub sound_kept : (vcpu : ℕ) (r : Regs) (w : World) (o : List DeviceOp) (q : Regs) (y : World) → Sound r w → move image vcpu r w ≡ Goes o (q, y) → Sound q y
  sound_kept vcpu r w o q y s e =
      let k = goes image vcpu r w P ways o q y e in
      record { holds = k.0; bytes = k.1; answers = k.2; low = k.3; inv = points.inv_kept image h single (IsHeld image) (stubs.AtPoint image) (stubs.closed image h single has) vcpu r w s.holds s.low o q y s.inv e }
    where
      P : Made
      P o q y = HoldsCode image y.memory × ((k : ℕ) → y.memory k < 256) × All (λ a. a < 2 ^ 64) y.answers × (q.rip < 2 ^ 64)

      ways : Ways image vcpu r w P
      ways = record {
        quiet = λ i len found n. (s.holds, s.bytes, s.answers, rip_low i (past r len) 0 (past_low r len) (omega arith));
        loads = λ i len found width a n free dev. (s.holds, s.bytes, s.answers, rip_low i (past r len) (word_at w.memory width a) (past_low r len) (word_low w.memory width a s.bytes));
        asks = λ i len found width a n free device dev answer rest is. let l = head_low answer rest w.answers is s.answers in (s.holds, s.bytes, l.1, rip_low i (past r len) answer (past_low r len) l.0);
        waits = λ i len found width a n free device dev. (s.holds, s.bytes, s.answers, s.low);
        stores = λ i len found width a v n free dev. (stored_keeps image vcpu r.pkru w.memory width a v (fits image h) s.holds free, stored_bytes w.memory width a v s.bytes, s.answers, rip_low i (past r len) 0 (past_low r len) (omega arith));
        tells = λ i len found width a v n free device dev. (s.holds, s.bytes, s.answers, rip_low i (past r len) 0 (past_low r len) (omega arith));
      }

  -- ---- where RIP is checked no data access is made

  standing_none : (vcpu : ℕ) (r : Regs) (w : World) (i : Inst) (at : ℕ) → HoldsCode image w.memory → IsRow i → r.rip ≡ code_start + at → StandsAt image.code at (spelling i)
      → (need i (past r (length (spelling i))) ≡ needs.Quiet) ⊎ ((trap : Trap) × (need i (past r (length (spelling i))) ≡ needs.Stops trap)) → access_of image vcpu r w ≡ None
  standing_none vcpu r w i at holds row rip stands asks =
      let place : at ≡ r.rip - code_start = omega arith in
      let found = points.found_standing image vcpu r w i h single holds row (omega arith) (subst (λ n. StandsAt image.code n (spelling i)) place stands) in
      elim asks [
        | inl e ↦ touch_is image vcpu r w i (length (spelling i)) needs.Quiet found e
        | inr (trap, e) ↦ touch_is image vcpu r w i (length (spelling i)) (needs.Stops trap) found e
      ]

  behind_none : (vcpu : ℕ) (r : Regs) (w : World) (at : ℕ) → HoldsCode image w.memory → is_listed image.stubs at ≡ true → is_behind at r.rip ≡ true → access_of image vcpu r w ≡ None
  behind_none vcpu r w at holds listed e =
      let c = has.checks at listed in
      elim (either (r.rip == code_start + at + 3) (r.rip == code_start + at + 9) e) [
        | inl f ↦ let rip = eq_if r.rip (code_start + at + 3) f in standing_none vcpu r w (AluImm Cmp W32 Rax c.value) (at + 3) holds c.rows.0 (omega arith) c.compares (inl refl)
        | inr f ↦ let rip = eq_if r.rip (code_start + at + 9) f in standing_none vcpu r w (Jcc Ne c.back) (at + 9) holds c.rows.1 (omega arith) c.jumps (inl refl)
      ]

  abort_none : (vcpu : ℕ) (r : Regs) (w : World) → HoldsCode image w.memory → is_abort image r.rip ≡ true → access_of image vcpu r w ≡ None
  abort_none vcpu r w holds e =
      elim (either (r.rip == code_start + image.abort) (r.rip == code_start + image.abort + 7) e) [
        | inl f ↦ let rip = eq_if r.rip (code_start + image.abort) f in standing_none vcpu r w (MovImm Rax (pos 4)) image.abort holds (stubs.move_row image h single has) rip has.moves (inl refl)
        | inr f ↦ let rip = eq_if r.rip (code_start + image.abort + 7) f in standing_none vcpu r w Hlt (image.abort + 7) holds (refl, tt) (omega arith) has.halts (inr (_, refl))
      ]

  checking_none : (vcpu : ℕ) (r : Regs) (w : World) → HoldsCode image w.memory → is_checking image r.rip ≡ true → access_of image vcpu r w ≡ None
  checking_none vcpu r w holds e = elim (either (list_any (λ s. is_behind s.first r.rip || is_behind s.second r.rip) image.stubs) (is_abort image r.rip) e) [
    | inl some ↦
        let (at, listed, behind) = any_stub (λ s. is_behind s.first r.rip || is_behind s.second r.rip) (λ at. is_behind at r.rip) image.stubs
        (λ s f. elim (either (is_behind s.first r.rip) (is_behind s.second r.rip) f) [
          | inl g ↦ (s.first, named_first s.first s.second, g)
          | inr g ↦ (s.second, named_second s.first s.second, g)
        ]) some in
        behind_none vcpu r w at holds listed behind
    | inr f ↦ abort_none vcpu r w holds f
  ]

  -- ---- and RIP at a point is checked

  stub_any : (q : ℕ → Bool) (ss : List Stub) (at : ℕ) → is_listed ss at ≡ true → q at ≡ true → list_any (λ s. q s.first || q s.second) ss ≡ true
  stub_any q [] at e f = cc
  stub_any q (s ∷ ss) at e f = elim (either ((s.first == at) || (s.second == at)) (is_listed ss at) e) [
    | inl named ↦ elim (either (s.first == at) (s.second == at) named) [
      | inl g ↦ first (q s.first) (q s.second) (list_any (λ s. q s.first || q s.second) ss) (subst (λ n. q n ≡ true) (sym (eq_if s.first at g)) f)
      | inr g ↦ second (q s.first) (q s.second) (list_any (λ s. q s.first || q s.second) ss) (subst (λ n. q n ≡ true) (sym (eq_if s.second at g)) f)
    ]
    | inr later ↦ third (q s.first || q s.second) (list_any (λ s. q s.first || q s.second) ss) (stub_any q ss at later f)
  ]
    where
      first : (a b c : Bool) → a ≡ true → (a || b) || c ≡ true
      first a b c e = ap (λ t. (t || b) || c) e

      second : (a b c : Bool) → b ≡ true → (a || b) || c ≡ true
      second true b c e = refl
      second false b c e = ap (λ t. t || c) e

      third : (a b : Bool) → b ≡ true → a || b ≡ true
      third true b e = refl
      third false b e = e

  eq_yes : (a b : ℕ) → a ≡ b → nat_eq a b ≡ true
  eq_yes a b e = grind (arith, nat_tests)

  left_is : (a b : Bool) → a ≡ true → a || b ≡ true
  left_is a b e = ap (λ t. t || b) e

  right_is : (a b : Bool) → b ≡ true → a || b ≡ true
  right_is true b e = refl
  right_is false b e = e

  point_checks : (i : Inst) (r : Regs) → stubs.AtPoint image i r → is_checking image r.rip ≡ true
  point_checks i r (stubs.compares at listed c e rip p) = left_is _ (is_abort image r.rip) (stub_any (λ at. is_behind at r.rip) image.stubs at listed (left_is (r.rip == code_start + at + 3) (r.rip == code_start + at + 9) (eq_yes r.rip (code_start + at + 3) rip)))
  point_checks i r (stubs.jumps at listed c e rip p) = left_is _ (is_abort image r.rip) (stub_any (λ at. is_behind at r.rip) image.stubs at listed (right_is (r.rip == code_start + at + 3) (r.rip == code_start + at + 9) (eq_yes r.rip (code_start + at + 9) rip)))
  point_checks i r (stubs.moves e rip) = right_is (list_any (λ s. is_behind s.first r.rip || is_behind s.second r.rip) image.stubs) (is_abort image r.rip) (left_is (r.rip == code_start + image.abort) (r.rip == code_start + image.abort + 7) (eq_yes r.rip (code_start + image.abort) rip))
  point_checks i r (stubs.halts e rip) = right_is (list_any (λ s. is_behind s.first r.rip || is_behind s.second r.rip) image.stubs) (is_abort image r.rip) (right_is (r.rip == code_start + image.abort) (r.rip == code_start + image.abort + 7) (eq_yes r.rip (code_start + image.abort + 7) rip))

  -- ---- what a sound state obeys

  domain_is : (vcpu : ℕ) (r : Regs) → domain image vcpu r ≡ (if is_checking image r.rip then Checking else Acts (holder image.compartments 0 r.pkru.0))
  domain_is vcpu r = ap (λ t. if t then Acts vcpu else if is_checking image r.rip then Checking else Acts (holder image.compartments 0 r.pkru.0)) single

  module _ (vcpu : ℕ) (r : Regs) (w : World) (s : Sound r w) where
    by_check : (t : Bool) → is_checking image r.rip ≡ t → domain image vcpu r ≡ (if t then Checking else Acts (holder image.compartments 0 r.pkru.0))
    by_check t e = domain_is vcpu r ∙ ap (λ t. if t then Checking else Acts (holder image.compartments 0 r.pkru.0)) e

    acts : is_checking image r.rip ≡ false → Holder image.compartments 0 r.pkru.0 (holder image.compartments 0 r.pkru.0)
    acts e = elim s.inv [
      | inl (c, comp, at, same) ↦ found_holder image.compartments 0 r.pkru.0 c comp at same
      | inr (i, at) ↦ let f = point_checks i r at in absurd (clash (is_checking image r.rip) f e)
    ]
      where
        clash : (t : Bool) → t ≡ true → t ≡ false → ⊥
        clash true e f = cc
        clash false e f = cc

    somebody_by : (t : Bool) → is_checking image r.rip ≡ t → IsSomebody image (domain image vcpu r)
    somebody_by true e = subst (IsSomebody image) (sym (by_check true e)) tt
    somebody_by false e =
        let (d, comp, is, at, same, lt) = acts e in
        let less : holder image.compartments 0 r.pkru.0 < length image.compartments = omega arith in
        subst (IsSomebody image) (sym (by_check false e)) less

    checked_by : (t : Bool) → is_checking image r.rip ≡ t → domain image vcpu r ≡ Checking → access_of image vcpu r w ≡ None
    checked_by true e is = checking_none vcpu r w s.holds e
    checked_by false e is = let f : Acts (holder image.compartments 0 r.pkru.0) ≡ Checking = sym (by_check false e) ∙ is in cc

    granted_by : (u : Bool) → is_checking image r.rip ≡ u → (c : ℕ) (t : Touch) (o : List DeviceOp) (q : Regs) (y : World) → domain image vcpu r ≡ Acts c → move image vcpu r w ≡ Goes o (q, y) → access_of image vcpu r w ≡ Some t → IsGranted image c t
    granted_by true e c t o q y is go made = let f : Checking ≡ Acts c = sym (by_check true e) ∙ is in cc
    granted_by false e c t o q y is go made =
        let (d, comp, at, there, same, less) = acts e in
        let f : Acts (holder image.compartments 0 r.pkru.0) ≡ Acts c = sym (by_check false e) ∙ is in
        let who : d ≡ c = let g : holder image.compartments 0 r.pkru.0 ≡ c = cc in omega arith in
        let free = accesses_are_permitted image vcpu r q w y o t go made in
        let low = low_access image vcpu r t h free in
        let held = keys.held_is image h keyed d comp there r.pkru same in
        λ k lt.
        let byte = each_free (page_entry image vcpu) r.pkru t.access t.address (width_bytes t.width) k low free lt in
        let byte2 = subst (λ p. byte_refusal (page_entry image vcpu (page_of ((t.address + k) % 2 ^ 64))) p t.access (is_register_form t.address (width_bytes t.width)) ≡ None) (sym held) byte in
        subst (λ e. Granted image e t.access (page_of ((t.address + k) % 2 ^ 64))) who
        (keys.permits image h keyed d comp there vcpu (page_of ((t.address + k) % 2 ^ 64)) single (is_register_form t.address (width_bytes t.width)) t.access (access_kind image vcpu r w t made) byte2)

    -- What a sound state obeys.
    pub obeys : Obeys image vcpu r w
    obeys = record {
      somebody = somebody_by (is_checking image r.rip) refl;
      checked = checked_by (is_checking image r.rip) refl;
      granted = λ c t o after is go made. granted_by (is_checking image r.rip) refl c t o after.0 after.1 is go made;
    }

  -- ---- runs

  abbrev One : Many Regs World → Type 0
  One m = Sound (m.cpus 0) m.world

  one_vcpu : vcpus image ≡ 1
  one_vcpu = ap (λ t. if t then length image.compartments else 1) single

  turn_kept : (c : ℕ) (m n : Many Regs World) (o : List DeviceOp) → c < 1 → One m → turn (move image) c m ≡ Goes o n → One n
  turn_kept c m n o lt s e = by (move image 0 (m.cpus 0) m.world) refl (subst (λ d. turn (move image) d m ≡ Goes o n) zero e)
    where
      zero : c ≡ 0
      zero = omega arith

      by : (b : Next DeviceOp (Regs × World) Stop) → move image 0 (m.cpus 0) m.world ≡ b → placed m.cpus 0 b ≡ Goes o n → One n
      by (Goes u x) go f =
          let at : ◌≡◌ {A = Many Regs World} (record { cpus = put m.cpus 0 x.0; world = x.1 }) n = cc in
          subst One at (sound_kept 0 (m.cpus 0) m.world u x.0 x.1 s go)
      by (Stops u t) go f = cc

  -- Each state of a run is sound where the first one is.
  pub sound_after : (us : List ℕ) (m : Many Regs World) → One m → One (after (turn (move image)) (vcpus image) us m)
  sound_after us m s = subst (λ v. One (after (turn (move image)) v us m)) (sym one_vcpu) (kept DeviceOp (Many Regs World) Stop (turn (move image)) 1 One (omega arith) (λ c m n o lt s e. turn_kept c m n o lt s e) us m s)

  -- ---- boot

  boot_sound : (answers : List ℕ) → All (λ a. a < 2 ^ 64) answers → ((k : ℕ) → boot_byte image k < 256) → One (boot image answers)
  boot_sound answers small bytes =
      let (start, at) = there image.starts 0 (by_count (both _ _ h.starts).0) in
      let (comp, home) = there image.compartments image.home (lt_if image.home (length image.compartments) h.home) in
      let regs : boot_regs image 0 ≡ started start.rip start.rsp (home_pkru image) = ap (λ x. started_at x (home_pkru image)) at in
      let value : comp.pkru ≡ home_pkru image = sym (ap pkru_in home) in
      record {
        holds = boot_code image;
        bytes = bytes;
        answers = small;
        low = subst (λ (x : Regs). x.rip < 2 ^ 64) (sym regs) (start_low start at);
        inv = inl (subst (λ (x : Regs). IsHeld image x.pkru) (sym regs) (image.home, comp, home, value));
      }
    where
      by_count : length image.starts == (if image.mechanism == 3 then length image.compartments else 1) ≡ true → 0 < length image.starts
      by_count e = let n = eq_if (length image.starts) (if image.mechanism == 3 then length image.compartments else 1) e in let m = ap (λ t. if t then length image.compartments else 1) single in omega arith

      start_low : (start : Start) → slice_get image.starts 0 ≡ Some start → start.rip < 2 ^ 64
      start_low start at =
          let f = (fits image h).code in
          let all = all_at (is_start image) image.starts 0 start (both (length image.starts == (if image.mechanism == 3 then length image.compartments else 1)) (list_all (is_start image) image.starts) h.starts).1 at in
          let to = (both (nat_le code_start start.rip) (nat_lt start.rip (code_start + length image.code)) (both (nat_le code_start start.rip && nat_lt start.rip (code_start + length image.code)) (start.rsp % 16 == 0) (both (nat_le code_start start.rip && nat_lt start.rip (code_start + length image.code) && start.rsp % 16 == 0) (is_in_stack image start.rsp) all).0).0).1 in
          let lt = lt_if start.rip (code_start + length image.code) to in
          omega arith

  -- After each turn of each run the state obeys.
  pub obeys_always : (answers us : List ℕ) → All (λ a. a < 2 ^ 64) answers → ((k : ℕ) → boot_byte image k < 256) → let m = image_after image answers us in Obeys image 0 (m.cpus 0) m.world
  obeys_always answers us small bytes =
      let m = image_after image answers us in
      obeys 0 (m.cpus 0) m.world (sound_after us (boot image answers) (boot_sound answers small bytes))

keyed_single : (image : Image) → is_keyed image.mechanism ≡ true → is_ept image ≡ false
keyed_single image keyed = by image.mechanism keyed
  where
    not_three : (m : ℕ) → m ≢ 3 → nat_eq m 3 ≡ false
    not_three m ne = grind (arith, nat_tests)

    by : (m : ℕ) → (m == 1) || (m == 2) ≡ true → nat_eq m 3 ≡ false
    by m e = elim (either (m == 1) (m == 2) e) [
      | inl one ↦ let f = eq_if m 1 one in not_three m (λ g. omega (arith, g))
      | inr two ↦ let f = eq_if m 2 two in not_three m (λ g. omega (arith, g))
    ]

got : (xs : List ℕ) (i b : ℕ) → All (λ b. b < 256) xs → slice_get xs i ≡ Some b → b < 256
got [] i b all e = cc
got (x ∷ xs) zero b all e = let is : x ≡ b = cc in subst (λ n. n < 256) is (all 0 0 (omega arith))
got (x ∷ xs) (suc i) b all e = got xs i b (λ k d lt. all (suc k) d (omega arith)) e

boot_bytes : (image : Image) → HasBytes image → (k : ℕ) → boot_byte image k < 256
unfolding boot_byte
boot_bytes image has k = by (nat_le code_start k) (slice_get image.code (k - code_start)) refl
  where
    rest : List (Option ℕ)
    rest = byte_from image.literals 0x600000 k ∷ object_byte image.objects k ∷ idle_byte image k ∷ []

    by : (t : Bool) (x : Option ℕ) → slice_get image.code (k - code_start) ≡ x → unwrap_or (first_of ((if t then x else None) ∷ byte_from image.literals 0x600000 k ∷ object_byte image.objects k ∷ idle_byte image k ∷ [])) 0 < 256
    by false x e = has.others k
    by true None e = has.others k
    by true (Some b) e = got image.code (k - code_start) b has.code e

pub obeys_under_keys : ObeysUnderKeys
obeys_under_keys image h keyed has bytes answers us small = obeys_always image h keyed (keyed_single image keyed) has answers us small (boot_bytes image bytes)
