-- An instruction that stands spelled at RIP is fetched.
use Rattle.std.proofs.Common.{◌≡◌, ℕ, zero, suc, ◌+◌, ◌-◌, ◌<◌, ◌≤◌, inl, inr, List, [], ◌∷◌, ◌++◌, length, take, get_or, Option, None, Some, refl, sym, ap, ◌∙◌, subst, arith}
use Rattle.std.specs.Prelude.{slice_index, slice_set}
use Rattle.std.proofs.Math.Nat.{eq-or-lt_of_le}
use Rattle.std.proofs.Math.Seq.{take-length}
use Rattle.std.proofs.lemmas.List.{take_more, take_more_set, append-nil, length-take-le}
use Rattle.fx_x64_forms.specs.declared.inst.Inst.{Inst}
use Rattle.fx_x64_code.specs.Spelling.{spelling, IsRow}
use Rattle.fx_x64_code.specs.Decoded.{decoded}
use Rattle.fx_x64_code.proofs.Decoding.{decodes_spelling, prefix_is_undecoded}
use Rattle.fx_x64_code.proofs.Lengths.{spelling_lengths}
use Rattle.fx_vm_pages.specs.Access.{access_check}
use Rattle.fx_vm_pages.specs.declared.entry.Entry.{Entry}
use Rattle.fx_vm_pages.specs.declared.entry.Pkru.{Pkru}
use Rattle.fx_vm_pages.specs.declared.access.Access.TheVariants.{Fetch}
use Rattle.fx_cpu.specs.Memory.{on}
use Rattle.fx_cpu.specs.declared.registers.Regs.{Regs}
use Rattle.fx_image.specs.declared.forms.Image.{Image}
use Rattle.fx_machine_model.specs.Layout.{page_entry}
use Rattle.fx_machine_model.specs.Moves.{World, move, move_by, fetched, unless_refused, unless_found}
use Rattle.fx_machine_model.specs.declared.fetched.Fetched.{Fetched}
use Rattle.fx_machine_model.specs.declared.fetched.Fetched.TheVariants.{Found, RefusedAt, Unspelled}
use Rattle.fx_vm_pages.specs.declared.access.Refusal.{Refusal}

-- A move executes what it fetches.
pub move_is : (image : Image) (vcpu : ℕ) (r : Regs) (w : World) → move image vcpu r w ≡ move_by image vcpu (fetched (page_entry image vcpu) r.pkru w.memory r.rip 15 []) r w
unfolding move
move_is image vcpu r w = refl

module _ (entries : ℕ → Option Entry) (pkru : Pkru) (memory : ℕ → ℕ) (rip : ℕ) (i : Inst) (row : IsRow i)
    (free : (k : ℕ) → k < length (spelling i) → access_check entries pkru Fetch (on rip k) 1 ≡ None)
    (holds : (k : ℕ) → k < length (spelling i) → memory (on rip k) ≡ slice_index (spelling i) k) where
  abbrev s : List ℕ
  s = spelling i

  one_more : (text : List ℕ) (j : ℕ) → text ≡ take j s → j < length s → text ++ memory (on rip (length text)) ∷ [] ≡ take (j + 1) s
  one_more text j e lt =
      let n : length text ≡ j = ap length e ∙ length-take-le j s (omega arith) in
      let b : memory (on rip (length text)) ≡ get_or s j 0 = ap (λ m. memory (on rip m)) n ∙ holds j lt in
      let t = take_more s j 0 lt in
      ap (λ l. l ++ memory (on rip (length text)) ∷ []) e ∙ ap (λ x. take j s ++ x ∷ []) b ∙ sym t

  is_free : (text : List ℕ) (j : ℕ) → text ≡ take j s → j < length s → access_check entries pkru Fetch (on rip (length text)) 1 ≡ None
  is_free text j e lt =
      let n : length text ≡ j = ap length e ∙ length-take-le j s (omega arith) in
      subst (λ m. access_check entries pkru Fetch (on rip m) 1 ≡ None) (sym n) (free j lt)

  whole : decoded s ≡ Some (i, length s)
  whole = subst (λ l. decoded l ≡ Some (i, length s)) (append-nil s) (decodes_spelling i [] row)

  last : (longer : List ℕ) (j : ℕ) → longer ≡ take (j + 1) s → j + 1 ≡ length s → decoded longer ≡ Some (i, length s)
  last longer j e n = ap decoded (e ∙ ap (λ m. take m s) n ∙ take-length s) ∙ whole

  -- where the first j bytes were fetched
  from : (left j : ℕ) (text : List ℕ) → text ≡ take j s → j < length s → length s ≤ j + left → fetched entries pkru memory rip left text ≡ Found i (length s)
  unfolding fetched
  from zero j text e lt room = absurd (omega arith)
  from (suc left) j text e lt room =
      let place = on rip (length text) in
      let longer = text ++ memory place ∷ [] in
      let rest = fetched entries pkru memory rip left longer in
      let more = one_more text j e lt in
      ap (λ x. unless_refused x (unless_found (decoded longer) rest)) (is_free text j e lt)
      ∙ elim (eq-or-lt_of_le {n = j + 1} {m = length s} (omega arith)) [
        | inl n ↦ ap (λ x. unless_found x rest) (last longer j more n)
        | inr n ↦ ap (λ x. unless_found x rest) (ap decoded more ∙ prefix_is_undecoded i (j + 1) row n) ∙ from left (j + 1) longer more n (omega arith)
      ]

  -- The fetch finds the instruction.
  pub fetched_spelling : fetched entries pkru memory rip 15 [] ≡ Found i (length s)
  fetched_spelling = let n = spelling_lengths i row in from 15 0 [] refl (omega arith) (omega arith)

-- ---- the fetch loop, where n bytes were fetched

fetched_next : (entries : ℕ → Option Entry) (pkru : Pkru) (memory : ℕ → ℕ) (rip left : ℕ) (text : List ℕ) → 0 < left →
    fetched entries pkru memory rip left text
    ≡ unless_refused (access_check entries pkru Fetch (on rip (length text)) 1) (unless_found (decoded (text ++ memory (on rip (length text)) ∷ [])) (fetched entries pkru memory rip (left - 1) (text ++ memory (on rip (length text)) ∷ [])))
unfolding fetched
fetched_next entries pkru memory rip zero text h = absurd (omega arith)
fetched_next entries pkru memory rip (suc left) text h =
    let longer = text ++ memory (on rip (length text)) ∷ [] in
    let e : left ≡ suc left - 1 = omega arith in
    ap (λ k. unless_refused (access_check entries pkru Fetch (on rip (length text)) 1) (unless_found (decoded longer) (fetched entries pkru memory rip k longer))) e

pub at_end : (entries : ℕ → Option Entry) (pkru : Pkru) (memory : ℕ → ℕ) (rip n : ℕ) (text : List ℕ) → 15 ≤ n → fetched entries pkru memory rip (15 - n) text ≡ Unspelled
unfolding fetched
at_end entries pkru memory rip n text h = let e : 15 - n ≡ 0 = omega arith in ap (λ k. fetched entries pkru memory rip k text) e

module _ (entries : ℕ → Option Entry) (pkru : Pkru) (memory : ℕ → ℕ) (rip : ℕ) (text : List ℕ) (n : ℕ) (more : n < 15) (long : length text ≡ 15) where
  abbrev byte : ℕ
  byte = memory (on rip n)

  abbrev rest : Fetched
  rest = fetched entries pkru memory rip (15 - (n + 1)) (take (n + 1) (slice_set text n byte))

  at_byte : fetched entries pkru memory rip (15 - n) (take n text) ≡ unless_refused (access_check entries pkru Fetch (on rip n) 1) (unless_found (decoded (take (n + 1) (slice_set text n byte))) rest)
  at_byte =
      let len : length (take n text) ≡ n = length-take-le n text (omega arith) in
      let longer : take n text ++ byte ∷ [] ≡ take (n + 1) (slice_set text n byte) = sym (take_more_set text n byte (omega arith)) in
      let left : 15 - n - 1 ≡ 15 - (n + 1) = omega arith in
      fetched_next entries pkru memory rip (15 - n) (take n text) (omega arith)
      ∙ ap (λ k. unless_refused (access_check entries pkru Fetch (on rip k) 1) (unless_found (decoded (take n text ++ memory (on rip k) ∷ [])) (fetched entries pkru memory rip (15 - n - 1) (take n text ++ memory (on rip k) ∷ [])))) len
      ∙ ap (λ l. unless_refused (access_check entries pkru Fetch (on rip n) 1) (unless_found (decoded l) (fetched entries pkru memory rip (15 - n - 1) l))) longer
      ∙ ap (λ k. unless_refused (access_check entries pkru Fetch (on rip n) 1) (unless_found (decoded (take (n + 1) (slice_set text n byte))) (fetched entries pkru memory rip k (take (n + 1) (slice_set text n byte))))) left

  pub by_refused : (first : ℕ × Refusal) → access_check entries pkru Fetch (on rip n) 1 ≡ Some first → fetched entries pkru memory rip (15 - n) (take n text) ≡ RefusedAt first
  by_refused first e = at_byte ∙ ap (λ x. unless_refused x (unless_found (decoded (take (n + 1) (slice_set text n byte))) rest)) e

  pub by_found : (f : Inst × ℕ) → access_check entries pkru Fetch (on rip n) 1 ≡ None → decoded (take (n + 1) (slice_set text n byte)) ≡ Some f → fetched entries pkru memory rip (15 - n) (take n text) ≡ Found f.0 f.1
  by_found f free e = at_byte ∙ ap (λ x. unless_refused x (unless_found (decoded (take (n + 1) (slice_set text n byte))) rest)) free ∙ ap (λ x. unless_found x rest) e

  pub by_none : access_check entries pkru Fetch (on rip n) 1 ≡ None → decoded (take (n + 1) (slice_set text n byte)) ≡ None → fetched entries pkru memory rip (15 - n) (take n text) ≡ rest
  by_none free e = at_byte ∙ ap (λ x. unless_refused x (unless_found (decoded (take (n + 1) (slice_set text n byte))) rest)) free ∙ ap (λ x. unless_found x rest) e
