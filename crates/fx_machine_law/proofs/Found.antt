-- What a fetch finds is code.
use Rattle.std.proofs.Common.{◌≡◌, ℕ, zero, suc, ◌+◌, ◌-◌, ◌*◌, ◌%◌, ◌<◌, ◌≤◌, inl, inr, Bool, true, false, List, [], ◌∷◌, ◌++◌, length, take, drop, get_or, Option, None, Some, refl, sym, ap, ◌∙◌, subst, arith, length-append, length-drop}
use Rattle.std.specs.Prelude.{slice_index, nat_le, nat_eq, ◌&&◌, not, if◌then◌else◌, ◌==◌}
use Rattle.std.proofs.lemmas.Bool.Decides.{nat_tests}
use Rattle.std.proofs.lemmas.List.{get_or_push, get_or_append_left, get_or-take, get_or-drop, length-take-le, take-append-drop}
use Rattle.std.proofs.lemmas.Grind.{same_number_lists}
use Rattle.std.specs.List.{starts_with}
use Rattle.fx_image.specs.declared.forms.Stub.{Stub}
use Rattle.std.proofs.Math.Nat.{eq-or-lt_of_le}
use Rattle.fx_x64_forms.specs.declared.inst.Inst.{Inst}
use Rattle.fx_x64_forms.specs.declared.inst.Inst.TheVariants.{Wrpkru}
use Rattle.fx_x64_code.specs.Spelling.{spelling, IsRow}
use Rattle.fx_x64_code.specs.Decoded.{decoded}
use Rattle.fx_x64_code.proofs.Decoding.{decoded_is_spelled}
use Rattle.fx_x64_code.proofs.Lengths.{spelling_lengths}
use Rattle.fx_vm_pages.specs.Entries.{is_executable, is_device}
use Rattle.fx_vm_pages.specs.Access.{access_check, byte_refusal, page_of, is_register_form}
use Rattle.fx_vm_pages.specs.declared.entry.Entry.{Entry}
use Rattle.fx_vm_pages.specs.declared.entry.Pkru.{Pkru}
use Rattle.fx_vm_pages.specs.declared.access.Access.TheVariants.{Fetch}
use Rattle.fx_vm_pages.specs.declared.access.Refusal.{Refusal}
use Rattle.fx_vm_pages.specs.declared.access.Refusal.TheVariants.{Permission}
use Rattle.fx_cpu.specs.Memory.{on}
use Rattle.fx_image.specs.Layout.{code_start}
use Rattle.fx_image.specs.Rules.{IsImage, ranges_end, has_none, is_listed, unlisted_from, first_unlisted, is_key_sequence, key_sequence}
use Rattle.fx_image.specs.declared.forms.Image.{Image}
use Rattle.fx_machine_model.specs.Layout.{page_entry, mapped, maps_code, is_ept, private_key, common_key, owner_of, stack_compartment}
use Rattle.fx_image.specs.Keys.{is_keyed, has_member}
use Rattle.fx_machine_model.specs.Moves.{fetched, unless_refused, unless_found}
use Rattle.fx_machine_model.specs.declared.fetched.Fetched.TheVariants.{Found}
use Rattle.fx_machine_model.proofs.Checks.{first_free}
use Rattle.fx_machine_model.proofs.Pages.{fits}
use Rattle.fx_machine_model.specs.Standing.{StandsAt}
use Rattle.fx_machine_law.specs.Code.{IsMappedCode, FoundIsCode, KeysAreSetWhereListed}
use Rattle.fx_machine_model.proofs.ByRegion.{Regions, by_region}
use Rattle.fx_machine_model.specs.Layout.{stack_of}

-- ---- the bytes that were fetched

module _ (entries : ℕ → Option Entry) (pkru : Pkru) (memory : ℕ → ℕ) (rip : ℕ) where
  -- these bytes were fetched from RIP
  pub record IsText (text : List ℕ) : Type 0 where
    pub byte : (k : ℕ) → k < length text → get_or text k 0 ≡ memory (on rip k)
    pub free : (k : ℕ) → k < length text → access_check entries pkru Fetch (on rip k) 1 ≡ None

  one_more : (text : List ℕ) → IsText text → access_check entries pkru Fetch (on rip (length text)) 1 ≡ None → IsText (text ++ memory (on rip (length text)) ∷ [])
  one_more text h free =
      let n = length-append text (memory (on rip (length text)) ∷ []) in
      record {
        byte = λ k lt. elim (eq-or-lt_of_le {n = k} {m = length text} (omega arith)) [
          | inl e ↦ get_or_push text (memory (on rip (length text))) 0 k (sym e) ∙ ap (λ j. memory (on rip j)) (sym e)
          | inr less ↦ get_or_append_left text (memory (on rip (length text)) ∷ []) 0 k less ∙ h.byte k less
        ];
        free = λ k lt. elim (eq-or-lt_of_le {n = k} {m = length text} (omega arith)) [
          | inl e ↦ ap (λ j. access_check entries pkru Fetch (on rip j) 1) e ∙ free
          | inr less ↦ h.free k less
        ];
      }

  abbrev Whole : Inst → ℕ → Type 0
  Whole i len = (whole : List ℕ) × IsText whole × (decoded whole ≡ Some (i, len))

  pub from_text : (left : ℕ) (text : List ℕ) (i : Inst) (len : ℕ) → IsText text → fetched entries pkru memory rip left text ≡ Found i len → Whole i len
  unfolding fetched
  from_text zero text i len h e = cc
  from_text (suc left) text i len h e =
      by_check (access_check entries pkru Fetch (on rip (length text)) 1) (λ more e. from_text left (text ++ memory (on rip (length text)) ∷ []) i len more e) refl e
    where
      longer : List ℕ
      longer = text ++ memory (on rip (length text)) ∷ []

      pair : (j : Inst) (n : ℕ) → j ≡ i → n ≡ len → ◌≡◌ {A = Option (Inst × ℕ)} (Some (j, n)) (Some (i, len))
      pair j n a b = cc

      by_decoded : IsText longer → (x : Option (Inst × ℕ)) → (IsText longer → fetched entries pkru memory rip left longer ≡ Found i len → Whole i len) → decoded longer ≡ x → unless_found x (fetched entries pkru memory rip left longer) ≡ Found i len → Whole i len
      by_decoded more None go d e = go more e
      by_decoded more (Some f) go d e =
          let inst : f.0 ≡ i = cc in
          let size : f.1 ≡ len = cc in
          (longer, more, d ∙ pair f.0 f.1 inst size)

      by_check : (x : Option (ℕ × Refusal)) → (IsText longer → fetched entries pkru memory rip left longer ≡ Found i len → Whole i len) → access_check entries pkru Fetch (on rip (length text)) 1 ≡ x
          → unless_refused x (unless_found (decoded longer) (fetched entries pkru memory rip left longer)) ≡ Found i len → Whole i len
      by_check None go c e = by_decoded (one_more text h c) (decoded longer) go refl e
      by_check (Some first) go c e = cc

  no_text : IsText []
  no_text = record { byte = λ k lt. absurd (omega arith); free = λ k lt. absurd (omega arith) }

  -- An instruction that was found was fetched byte by byte.
  pub found_spelled : (i : Inst) (len : ℕ) → fetched entries pkru memory rip 15 [] ≡ Found i len → IsRow i × (len ≡ length (spelling i))
      × ((k : ℕ) → k < len → (slice_index (spelling i) k ≡ memory (on rip k)) × (access_check entries pkru Fetch (on rip k) 1 ≡ None))
  found_spelled i len e =
      let (whole, text, d) = from_text 15 [] i len no_text e in
      let s = decoded_is_spelled whole i len d in
      let n : length (spelling i) ≡ len = ap length (sym s.0.1) ∙ length-take-le len whole s.1 in
      (s.0.0, sym n, λ k lt. (ap (λ l. get_or l k 0) (sym s.0.1) ∙ get_or-take len whole k 0 lt ∙ text.byte k (omega arith), text.free k (omega arith)))

-- ---- where it may be fetched

flags_fetch : (page flags key : ℕ) (pkru : Pkru) (form : Bool) → is_executable (record { 0 = flags }) ≡ false → byte_refusal (mapped page flags key) pkru Fetch form ≡ None → ⊥
flags_fetch page flags key pkru form bar e = by (is_executable (record { 0 = flags })) (if is_device (record { 0 = flags }) && not form then Some Permission else None) bar e
  where
    by : (t : Bool) (rest : Option Refusal) → t ≡ false → ◌≡◌ {A = Option Refusal} (if not t then Some Permission else rest) None → ⊥
    by true rest bar e = cc
    by false rest bar e = cc

abbrev pub IsCodePage : Image → ℕ → ℕ → Type 0
IsCodePage image space page = (0x400 ≤ page) × ((page - 0x400) * 4096 < length image.code) × (maps_code image space ((page - 0x400) * 4096) ≡ true)

pub fetch_page : (image : Image) (space page : ℕ) (pkru : Pkru) (form : Bool) → byte_refusal (page_entry image space page) pkru Fetch form ≡ None → IsCodePage image space page
fetch_page image space page pkru form = by_region image space page P regions
  where
    P : Option Entry → Type 0
    P x = byte_refusal x pkru Fetch form ≡ None → IsCodePage image space page

    plain : (t : Bool) (key : ℕ) → P (mapped page (if t then 0 else 1) key)
    plain true key e = absurd (flags_fetch page 0 key pkru form refl e)
    plain false key e = absurd (flags_fetch page 1 key pkru form refl e)

    written : (t : Bool) (key : ℕ) → P (mapped page (if t then 1 else 0) key)
    written true key e = absurd (flags_fetch page 1 key pkru form refl e)
    written false key e = absurd (flags_fetch page 0 key pkru form refl e)

    regions : Regions image space page P
    regions = record {
      none = λ e. cc;
      code = λ from to maps e. (from, to, maps);
      literal = λ from to e. absurd (flags_fetch page 0 0 pkru form refl e);
      mailbox = λ from is e. absurd (flags_fetch page 1 0 pkru form refl e);
      thread = λ at e. plain (is_ept image && not (space == image.scheduler)) (if is_keyed image.mechanism then 1 else 0) e;
      device = λ from to owned e. absurd (flags_fetch page 5 (private_key image (owner_of image (page - 0xf100))) pkru form refl e);
      section = λ i s at from to one e. absurd (flags_fetch page 1 s.key pkru form refl e);
      machine = λ i s at from to ept member e. written (has_member s.writers space) s.key e;
      whole = λ from small inside halves e. absurd (flags_fetch page 1 (common_key image) pkru form refl e);
      low = λ from small inside halves ours e. absurd (flags_fetch page 1 (private_key image (stack_compartment image (stack_of image page))) pkru form refl e);
      high = λ from small past inside halves e. absurd (flags_fetch page 1 (common_key image) pkru form refl e);
    }

both : (a b : Bool) → a && b ≡ true → (a ≡ true) × (b ≡ true)
both true b e = (refl, e)
both false b e = cc

eq_if : (a b : ℕ) → nat_eq a b ≡ true → a ≡ b
eq_if a b e = grind (arith, nat_tests)

whole_pages : (image : Image) → IsImage image → length image.code % 4096 ≡ 0
whole_pages image h =
    let a = both (length image.code % 4096 == 0 && nat_le (length image.code) 1048576) (nat_le (ranges_end image.compartments) (length image.code)) h.code in
    eq_if (length image.code % 4096) 0 (both (length image.code % 4096 == 0) (nat_le (length image.code) 1048576) a.0).0

fetched_code : (image : Image) (space : ℕ) (pkru : Pkru) (a : ℕ) → IsImage image → access_check (page_entry image space) pkru Fetch a 1 ≡ None → IsMappedCode image space a
fetched_code image space pkru a h free =
    let (from, to, maps) = fetch_page image space (page_of a) pkru (is_register_form a 1) (first_free (page_entry image space) pkru Fetch a 1 (omega arith) free) in
    let whole = whole_pages image h in
    record { from = omega arith; inside = omega arith; maps = maps }

pub found_is_code : FoundIsCode
found_is_code image vcpu r w i len h holds low e =
    let (row, long, each) = found_spelled (page_entry image vcpu) r.pkru w.memory r.rip i len e in
    let some = spelling_lengths i row in
    let start : on r.rip 0 ≡ r.rip = omega arith in
    let first : IsMappedCode image vcpu r.rip = subst (IsMappedCode image vcpu) start (fetched_code image vcpu r.pkru (on r.rip 0) h (each 0 (omega arith)).1) in
    let c = (fits image h).code in
    let from = first.from in
    let inside = first.inside in
    let at : (k : ℕ) → k < len → on r.rip k ≡ r.rip + k = λ k lt. omega arith in
    let code : (k : ℕ) → k < len → IsMappedCode image vcpu (r.rip + k) = λ k lt. subst (IsMappedCode image vcpu) (at k lt) (fetched_code image vcpu r.pkru (on r.rip k) h (each k lt).1) in
    let last = (code (len - 1) (omega arith)).inside in
    record {
      row = row;
      long = long;
      from = from;
      stands = record {
        room = omega arith;
        same = λ k lt.
            let l : k < len = omega arith in
            let same : on r.rip k ≡ code_start + (r.rip - code_start + k) = omega arith in
            let in_code = (code k l).inside in
            sym ((each k l).0 ∙ ap w.memory same ∙ holds.code (r.rip - code_start + k) (omega arith));
      };
      maps = code;
    }

-- ---- WRPKRU stands where a stub lists it

pub stands_drop : (code : List ℕ) (at : ℕ) (bytes : List ℕ) → StandsAt code at bytes → drop at code ≡ bytes ++ drop (length bytes) (drop at code)
stands_drop code at bytes s =
    let room = s.room in
    let size = length-drop at code in
    let n : length (take (length bytes) (drop at code)) ≡ length bytes = length-take-le (length bytes) (drop at code) (omega arith) in
    let front : take (length bytes) (drop at code) ≡ bytes =
    same_number_lists (take (length bytes) (drop at code)) bytes n
    (λ k lt. get_or-take (length bytes) (drop at code) k 0 (omega arith) ∙ get_or-drop at code k 0 ∙ s.same k (omega arith)) in
    sym (take-append-drop (length bytes) (drop at code)) ∙ ap (λ l. l ++ drop (length bytes) (drop at code)) front

listed_next : (stubs : List Stub) (k at : ℕ) → is_listed stubs (k + 1 + at) ≡ true → is_listed stubs (k + suc at) ≡ true
listed_next stubs k at e = let same : k + 1 + at ≡ k + suc at = omega arith in subst (λ n. is_listed stubs n ≡ true) same e

listed_here : (stubs : List Stub) (k : ℕ) → is_listed stubs k ≡ true → is_listed stubs (k + 0) ≡ true
listed_here stubs k e = let same : k ≡ k + 0 = omega arith in subst (λ n. is_listed stubs n ≡ true) same e

pub sequence_listed : (stubs : List Stub) (k : ℕ) (code : List ℕ) (at : ℕ) → has_none (unlisted_from stubs k code) ≡ true → is_key_sequence code at ≡ true → is_listed stubs (k + at) ≡ true
sequence_listed stubs k [] zero h e = cc
sequence_listed stubs k [] (suc at) h e = cc
sequence_listed stubs k (b ∷ bs) zero h e = by (is_key_sequence (b ∷ bs) 0) (is_listed stubs k) e refl h
  where
    by : (s l : Bool) → s ≡ true → is_listed stubs k ≡ l → has_none (if s && not l then Some k else unlisted_from stubs (k + 1) bs) ≡ true → is_listed stubs (k + 0) ≡ true
    by true true e f h = listed_here stubs k f
    by true false e f h = cc
    by false l e f h = cc
sequence_listed stubs k (b ∷ bs) (suc at) h e = listed_next stubs k at (sequence_listed stubs (k + 1) bs at (by (is_key_sequence (b ∷ bs) 0 && not (is_listed stubs k)) h) e)
  where
    by : (t : Bool) → has_none (if t then Some k else unlisted_from stubs (k + 1) bs) ≡ true → has_none (unlisted_from stubs (k + 1) bs) ≡ true
    by true h = cc
    by false h = h

unfold_unlisted : (image : Image) → IsImage image → has_none (unlisted_from image.stubs 0 image.code) ≡ true
unfolding first_unlisted
unfold_unlisted image h = h.sequences

pub keys_are_set_where_listed : KeysAreSetWhereListed
keys_are_set_where_listed image vcpu r w len h holds low e =
    let c = found_is_code image vcpu r w Wrpkru len h holds low e in
    let at = r.rip - code_start in
    let d = stands_drop image.code at (spelling Wrpkru) c.stands in
    let s : is_key_sequence image.code at ≡ true = ap (λ l. starts_with nat_eq l key_sequence) d in
    let same : 0 + at ≡ at = omega arith in
    subst (λ n. is_listed image.stubs n ≡ true) same (sequence_listed image.stubs 0 image.code at (unfold_unlisted image h) s)
