-- An image with replaced code is an image whose stubs check.
use Rattle.std.proofs.Common.{◌≡◌, ℕ, zero, suc, ◌+◌, ◌-◌, ◌%◌, ◌^◌, ◌<◌, ◌≤◌, Bool, true, false, List, [], ◌∷◌, ◌++◌, length, take, drop, get_or, replicate, All, Option, None, Some, refl, sym, ap, ◌∙◌, subst, arith, length-append, length-drop}
use Rattle.std.specs.Prelude.{nat_eq, nat_lt, nat_le, ◌==◌, ◌&&◌, ◌||◌, if◌then◌else◌, slice_get, IfSome}
use Rattle.std.specs.List.{list_all, starts_with}
use Rattle.std.proofs.lemmas.Bool.Decides.{nat_tests}
use Rattle.std.proofs.lemmas.List.{get_or-append-add, get_or-drop, length-take-le, length-replicate}
use Rattle.std.proofs.lemmas.List.Elements.{All-append, All-take, All-drop}
use Rattle.std.proofs.lemmas.List.Sums.{sum_by-cons}
use Rattle.std.proofs.lemmas.Grind.{same_number_lists}
use Rattle.fx_image.specs.Keys.{is_keyed}
use Rattle.fx_image.specs.Layout.{code_start, is_in_stack}
use Rattle.fx_image.specs.Rules.{IsImage, ranges_end, are_ranges, is_stub, is_between, is_placed, is_in_runtime, is_key_sequence, key_sequence, entry_count, is_listed, first_unlisted, has_none}
use Rattle.fx_image.specs.declared.forms.Comp.{Comp}
use Rattle.fx_image.specs.declared.forms.Stub.{Stub}
use Rattle.fx_image.specs.declared.forms.Start.{Start}
use Rattle.fx_image.specs.declared.forms.Image.{Image}
use Rattle.fx_machine_model.specs.Standing.{StandsAt}
use Rattle.fx_confined_law.specs.Confined.{replaced_in, replaced_code, HasChecks, Obeys, ConfinedUnderKeys}
use Rattle.fx_machine_model.specs.Running.{image_after}
use Rattle.fx_confined_law.proofs.Obeys.{obeys_under_keys}

both : (a b : Bool) → a && b ≡ true → (a ≡ true) × (b ≡ true)
both true b e = (refl, e)
both false b e = cc

join : (a b : Bool) → a ≡ true → b ≡ true → a && b ≡ true
join a b e f = ap (λ t. t && b) e ∙ f

le_if : (a b : ℕ) → nat_le a b ≡ true → a ≤ b
le_if a b e = grind (arith, nat_tests)

lt_if : (a b : ℕ) → nat_lt a b ≡ true → a < b
lt_if a b e = grind (arith, nat_tests)

eq_if : (a b : ℕ) → nat_eq a b ≡ true → a ≡ b
eq_if a b e = grind (arith, nat_tests)

-- ---- the ranges

range_inside : (cs : List Comp) (from c : ℕ) (comp : Comp) → are_ranges from cs ≡ true → slice_get cs c ≡ Some comp → comp.start + comp.len ≤ from + ranges_end cs
range_inside [] from c comp h at = cc
range_inside (x ∷ xs) from zero comp h at =
    let (head, tail) = both ((x.start == from) && (x.len % 4096 == 0)) (are_ranges (from + x.len) xs) h in
    let start = eq_if x.start from (both (x.start == from) (x.len % 4096 == 0) head).0 in
    let is : x ≡ comp = cc in
    let sum = sum_by-cons (λ (c : Comp). c.len) x xs in
    subst (λ (y : Comp). y.start + y.len ≤ from + ranges_end (x ∷ xs)) is (omega arith)
range_inside (x ∷ xs) from (suc c) comp h at =
    let (head, tail) = both ((x.start == from) && (x.len % 4096 == 0)) (are_ranges (from + x.len) xs) h in
    let rest = range_inside xs (from + x.len) c comp tail at in
    let sum = sum_by-cons (λ (c : Comp). c.len) x xs in
    omega arith

-- ---- code of the same length that is the same from the runtime's range on

module _ (image : Image) (h : IsImage image) (code2 : List ℕ) (long : length code2 ≡ length image.code) (same : (k : ℕ) → ranges_end image.compartments ≤ k → get_or code2 k 0 ≡ get_or image.code k 0) (none : first_unlisted image.stubs code2 ≡ None) where
  abbrev there : Image
  there = record image { code = code2 }

  abbrev finish : ℕ
  finish = ranges_end image.compartments

  drops : (at : ℕ) → finish ≤ at → drop at code2 ≡ drop at image.code
  drops at le =
      let a = length-drop at code2 in
      let b = length-drop at image.code in
      same_number_lists (drop at code2) (drop at image.code) (omega arith)
      (λ k lt. get_or-drop at code2 k 0 ∙ same (at + k) (omega arith) ∙ sym (get_or-drop at image.code k 0))

  runs : (at : ℕ) → is_in_runtime image.compartments image.code at ≡ true → is_in_runtime image.compartments code2 at ≡ true
  runs at e = subst (λ n. (nat_le finish at && nat_lt at n) ≡ true) (sym long) e

  sequence : (at : ℕ) → finish ≤ at → is_key_sequence image.code at ≡ true → is_key_sequence code2 at ≡ true
  sequence at le e = ap (λ l. starts_with nat_eq l key_sequence) (drops at le) ∙ e

  abbrev Parts : Stub → Type 0
  Parts s = (is_in_runtime image.compartments image.code s.offset ≡ true) × (nat_lt s.offset s.first ≡ true) × (nat_lt s.first s.second ≡ true) × (is_in_runtime image.compartments image.code s.second ≡ true) × (is_key_sequence image.code s.first ≡ true) × (is_key_sequence image.code s.second ≡ true)

  parts : (s : Stub) → is_placed image.compartments image.code s ≡ true → Parts s
  parts s e =
      let a = is_in_runtime image.compartments image.code s.offset in
      let b = nat_lt s.offset s.first in
      let c = nat_lt s.first s.second in
      let d = is_in_runtime image.compartments image.code s.second in
      let f = is_key_sequence image.code s.first in
      let g = is_key_sequence image.code s.second in
      let (x1, pg) = both (a && b && c && d && f) g e in
      let (x2, pf) = both (a && b && c && d) f x1 in
      let (x3, pd) = both (a && b && c) d x2 in
      let (x4, pc) = both (a && b) c x3 in
      let (pa, pb) = both a b x4 in
      (pa, pb, pc, pd, pf, pg)

  first_after : (s : Stub) → Parts s → (finish ≤ s.first) × (finish ≤ s.second)
  first_after s (pa, pb, pc, pd, pf, pg) =
      let from = le_if finish s.offset (both (nat_le finish s.offset) (nat_lt s.offset (length image.code)) pa).0 in
      let b = lt_if s.offset s.first pb in
      let c = lt_if s.first s.second pc in
      (omega arith, omega arith)

  placed : (s : Stub) → is_placed image.compartments image.code s ≡ true → is_placed image.compartments code2 s ≡ true
  placed s e =
      let (pa, pb, pc, pd, pf, pg) = parts s e in
      let (one, two) = first_after s (pa, pb, pc, pd, pf, pg) in
      join _ _ (join _ _ (join _ _ (join _ _ (join _ _ (runs s.offset pa) pb) pc) (runs s.second pd)) (sequence s.first one pf)) (sequence s.second two pg)

  stub_is : (s : Stub) → is_stub image.compartments image.code image.entries s ≡ true → is_stub image.compartments code2 image.entries s ≡ true
  stub_is s e =
      let front = is_between (length image.compartments) s && nat_lt s.entry (entry_count image.entries s.to) in
      let (f, p) = both front (is_placed image.compartments image.code s) e in
      join front (is_placed image.compartments code2 s) f (placed s p)

  stubs_are : (ss : List Stub) → list_all (is_stub image.compartments image.code image.entries) ss ≡ true → list_all (is_stub image.compartments code2 image.entries) ss ≡ true
  stubs_are [] e = refl
  stubs_are (s ∷ ss) e =
      let (here, rest) = both (is_stub image.compartments image.code image.entries s) (list_all (is_stub image.compartments image.code image.entries) ss) e in
      join (is_stub image.compartments code2 image.entries s) (list_all (is_stub image.compartments code2 image.entries) ss) (stub_is s here) (stubs_are ss rest)

  all_stubs : (t : Bool) → (if t then list_all (is_stub image.compartments image.code image.entries) image.stubs else length image.stubs == 0) ≡ true → (if t then list_all (is_stub image.compartments code2 image.entries) image.stubs else length image.stubs == 0) ≡ true
  all_stubs true e = stubs_are image.stubs e
  all_stubs false e = e

  few : Bool
  few = nat_lt (length image.stubs) (2 ^ 16)

  pub is_image : IsImage there
  is_image = record {
    version = h.version;
    mechanism = h.mechanism;
    count = h.count;
    stacks = h.stacks;
    scheduler = h.scheduler;
    home = h.home;
    compartments = h.compartments;
    sections = h.sections;
    code = subst (λ n. (n % 4096 == 0 && nat_le n 1048576 && nat_le finish n) ≡ true) (sym long) h.code;
    literals = h.literals;
    objects = h.objects;
    entries = h.entries;
    stubs =
        let (a, b) = both (nat_lt (length image.stubs) (2 ^ 16)) (if is_keyed image.mechanism then list_all (is_stub image.compartments image.code image.entries) image.stubs else length image.stubs == 0) h.stubs in
        join (nat_lt (length image.stubs) (2 ^ 16)) (if is_keyed image.mechanism then list_all (is_stub image.compartments code2 image.entries) image.stubs else length image.stubs == 0) a (all_stubs (is_keyed image.mechanism) b);
    abort = runs image.abort h.abort;
    owners = h.owners;
    starts = subst (λ n. (length image.starts == (if image.mechanism == 3 then length image.compartments else 1) && list_all (λ (s : Start). nat_le code_start s.rip && nat_lt s.rip (code_start + n) && s.rsp % 16 == 0 && is_in_stack image s.rsp) image.starts) ≡ true) (sym long) h.starts;
    sequences = ap has_none none;
  }

  -- what stands from the runtime's range on stands there still
  stands : (at : ℕ) (bytes : List ℕ) → finish ≤ at → StandsAt image.code at bytes → StandsAt code2 at bytes
  stands at bytes le s = let room = s.room in record { room = omega arith; same = λ k lt. same (at + k) (omega arith) ∙ s.same k lt }

  listed_after : (ss : List Stub) (at : ℕ) → list_all (is_stub image.compartments image.code image.entries) ss ≡ true → is_listed ss at ≡ true → finish ≤ at
  listed_after [] at e f = cc
  listed_after (s ∷ ss) at e f =
      let (here, rest) = both (is_stub image.compartments image.code image.entries s) (list_all (is_stub image.compartments image.code image.entries) ss) e in
      let p = (both (is_between (length image.compartments) s && nat_lt s.entry (entry_count image.entries s.to)) (is_placed image.compartments image.code s) here).1 in
      let (one, two) = first_after s (parts s p) in
      by (s.first == at) (s.second == at) refl refl one two (listed_after ss at rest) f
    where
      by : (p q : Bool) → (s.first == at) ≡ p → (s.second == at) ≡ q → finish ≤ s.first → finish ≤ s.second → (is_listed ss at ≡ true → finish ≤ at) → (p || q) || is_listed ss at ≡ true → finish ≤ at
      by true q e f one two later g = let i = eq_if s.first at e in omega arith
      by false true e f one two later g = let i = eq_if s.second at f in omega arith
      by false false e f one two later g = later g

  pub has_checks : is_keyed image.mechanism ≡ true → HasChecks image → HasChecks there
  has_checks keyed c =
      let all : list_all (is_stub image.compartments image.code image.entries) image.stubs ≡ true =
      subst (λ t. (if t then list_all (is_stub image.compartments image.code image.entries) image.stubs else length image.stubs == 0) ≡ true) keyed
      (both (nat_lt (length image.stubs) (2 ^ 16)) (if is_keyed image.mechanism then list_all (is_stub image.compartments image.code image.entries) image.stubs else length image.stubs == 0) h.stubs).1 in
      let abort = le_if finish image.abort (both (nat_le finish image.abort) (nat_lt image.abort (length image.code)) h.abort).0 in
      record {
        checks = λ at listed.
            let k = c.checks at listed in
            let after = listed_after image.stubs at all listed in
            record { compartment = k.compartment; comp = k.comp; value = k.value; back = k.back; is = k.is; same = k.same; rows = k.rows; compares = stands (at + 3) _ (omega arith) k.compares; jumps = stands (at + 9) _ (omega arith) k.jumps; leads = k.leads };
        moves = stands image.abort _ abort c.moves;
        halts = stands (image.abort + 7) _ (omega arith) c.halts;
      }

-- ---- the replaced code is such

module _ (image : Image) (h : IsImage image) (c : ℕ) (comp : Comp) (at : slice_get image.compartments c ≡ Some comp) (bytes : List ℕ) (fit : length bytes ≤ comp.len) where
  code_long : ranges_end image.compartments ≤ length image.code
  code_long = le_if (ranges_end image.compartments) (length image.code) (both (length image.code % 4096 == 0 && nat_le (length image.code) 1048576) (nat_le (ranges_end image.compartments) (length image.code)) h.code).1

  range_fits : comp.start + comp.len ≤ ranges_end image.compartments
  range_fits =
      let r = range_inside image.compartments 0 c comp (both _ _ h.compartments).1 at in
      omega arith

  abbrev pad : List ℕ
  pad = replicate (comp.len - length bytes) 0xf4

  abbrev back : List ℕ
  back = drop (comp.start + comp.len) image.code

  pub long : length (replaced_code image.code comp bytes) ≡ length image.code
  long =
      let a = code_long in
      let b = range_fits in
      let n1 = length-append (take comp.start image.code) (bytes ++ (pad ++ back)) in
      let n2 = length-append bytes (pad ++ back) in
      let n3 = length-append pad back in
      let n4 : length (take comp.start image.code) ≡ comp.start = length-take-le comp.start image.code (omega arith) in
      let n5 : length pad ≡ comp.len - length bytes = length-replicate (comp.len - length bytes) 0xf4 in
      let n6 = length-drop (comp.start + comp.len) image.code in
      omega arith

  pub same : (k : ℕ) → ranges_end image.compartments ≤ k → get_or (replaced_code image.code comp bytes) k 0 ≡ get_or image.code k 0
  same k le =
      let a = code_long in
      let b = range_fits in
      let n4 : length (take comp.start image.code) ≡ comp.start = length-take-le comp.start image.code (omega arith) in
      let n5 : length pad ≡ comp.len - length bytes = length-replicate (comp.len - length bytes) 0xf4 in
      let j = k - (comp.start + comp.len) in
      let e1 : k ≡ length (take comp.start image.code) + (length bytes + (length pad + j)) = omega arith in
      let e2 : comp.start + comp.len + j ≡ k = omega arith in
      ap (λ n. get_or (replaced_code image.code comp bytes) n 0) e1
      ∙ get_or-append-add (take comp.start image.code) (bytes ++ (pad ++ back)) (length bytes + (length pad + j)) 0
      ∙ get_or-append-add bytes (pad ++ back) (length pad + j) 0
      ∙ get_or-append-add pad back j 0
      ∙ get_or-drop (comp.start + comp.len) image.code j 0 ∙ ap (λ n. get_or image.code n 0) e2

  pub code_bytes : All (λ b. b < 256) image.code → All (λ b. b < 256) bytes → All (λ b. b < 256) (replaced_code image.code comp bytes)
  code_bytes old new =
      All-append (λ b. b < 256) (take comp.start image.code) (bytes ++ (pad ++ back)) (All-take (λ b. b < 256) comp.start image.code old)
      (All-append (λ b. b < 256) bytes (pad ++ back) new (All-append (λ b. b < 256) pad back (fills (comp.len - length bytes)) (All-drop (λ b. b < 256) (comp.start + comp.len) image.code old)))
    where
      fills : (n : ℕ) → All (λ b. b < 256) (replicate n 0xf4)
      fills zero k d lt = absurd (omega arith)
      fills (suc n) zero d lt = omega arith
      fills (suc n) (suc k) d lt = fills n k d (omega arith)

pub confined_under_keys : ConfinedUnderKeys
confined_under_keys image c h keyed checks bytes_are bytes answers us admitted small = by (slice_get image.compartments c) refl
  where
    P : Image → Type 0
    P i = let m = image_after i answers us in Obeys i 0 (m.cpus 0) m.world

    by : (x : Option Comp) → slice_get image.compartments c ≡ x → P (replaced_in image x bytes)
    by None at = obeys_under_keys image h keyed checks bytes_are answers us small
    by (Some comp) at =
        let (fit, new, none) = subst (λ x. IfSome x (λ comp. (length bytes ≤ comp.len) × All (λ b. b < 256) bytes × (first_unlisted image.stubs (replaced_code image.code comp bytes) ≡ None))) at admitted in
        let code2 = replaced_code image.code comp bytes in
        let l = long image h c comp at bytes fit in
        let s = same image h c comp at bytes fit in
        obeys_under_keys (record image { code = code2 }) (is_image image h code2 l s none) keyed (has_checks image h code2 l s none keyed checks)
        (record { code = code_bytes image h c comp at bytes fit bytes_are.code new; others = bytes_are.others }) answers us small
