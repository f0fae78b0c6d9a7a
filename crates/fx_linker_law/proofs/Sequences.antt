-- WRPKRU's bytes stand nowhere in linked code.
use Rattle.std.proofs.Common.{◌≡◌, ◌<◌, ◌≤◌, ◌⊎◌, ℕ, ℤ, zero, suc, ◌+◌, ◌-◌, ◌/◌, ◌%◌, ◌^◌, true, false, not, nat_eq}
use Rattle.std.proofs.Common.{List, [], ◌∷◌, length, All, Option, Some, None, refl, sym, subst, ◌∙◌, inl, inr, arith}
use Rattle.std.specs.Prelude.{slice_index, slice_index_or, replicate}
use Rattle.std.specs.Int.{w32, cast_signed, cast_unsigned}
use Rattle.std.proofs.lemmas.Bool.{and_from, and_left, not_from_false, ne_eqb, cases_lt}
use Rattle.std.proofs.lemmas.Int.{of_z-to_z}
use Rattle.std.proofs.lemmas.List.Elements.{All-head, All-tail}
use Rattle.fx_x64_forms.specs.Numbers.{condition_code}
use Rattle.fx_x64_forms.specs.declared.inst.Inst.{Inst}
use Rattle.fx_x64_forms.specs.declared.inst.Inst.TheVariants.{Jcc, Jmp, Call}
use Rattle.fx_x64_forms.specs.declared.piece.Piece.{Piece}
use Rattle.fx_x64_forms.specs.declared.piece.Target.{Target}
use Rattle.fx_x64_forms.specs.declared.piece.Target.TheVariants.{Label, Function, Stub, Abort, Idle, Switch}
use Rattle.fx_x64_code.specs.Spelling.{spelling, le32}
use Rattle.fx_c_ast.specs.declared.checked.TProgram.{TProgram}
use Rattle.fx_image.specs.Rules.{is_key_sequence, first_unlisted}
use Rattle.fx_linker.specs.declared.parts.Parts.{Parts}
use Rattle.fx_linker.specs.declared.parts.PartSpot.{PartSpot}
use Rattle.fx_linker.specs.declared.layout.Layout.{Layout}
use Rattle.fx_linker.specs.declared.reach.Reach.{Reach}
use Rattle.fx_linker.specs.Code.{reached, displacement, with_displacement, linked, bytes_from, range_code, ranges_code}
use Rattle.fx_linker.specs.Places.{piece_size, pieces_size, places_from, whole_pages, ranges_size, range_places, function_places}
use Rattle.fx_linker.specs.Linked.{parts_layout, inner_reach, outer_reach, code_of, image_of}
use Rattle.fx_linker_law.specs.Premises.{is_quiet, AreQuiet, LeadsInto, HasNoKeys, IsShort}
use Rattle.fx_linker_law.specs.Laws.{SequencesAreMet}
use Rattle.fx_linker_law.proofs.Lengths.{page_least}
use Rattle.fx_linker_law.proofs.Quiet.{is_clean, Quiet, unlisted, quiet_is, quiet_nil, quiet_append, four_clean}

-- ---- displacements

-- the third and the fourth byte of a displacement aren't WRPKRU's last
abbrev Near : ℤ → Type 0
Near z =
    (nat_eq 0xef (cast_unsigned w32 z / 256 ^ 2 % 256) ≡ false)
    × (nat_eq 0xef (cast_unsigned w32 z / 256 ^ 3 % 256) ≡ false)

le32_clean : (z : ℤ) → Near z → is_clean (le32 z) ≡ true
le32_clean z near =
    let u = cast_unsigned w32 z in
    four_clean (u % 256) (u / 256 ^ 1 % 256) (u / 256 ^ 2 % 256) (u / 256 ^ 3 % 256) near.0 near.1

jump_quiet : (n : ℕ) (z : ℤ) → Near z → Quiet (0x0f ∷ (0x80 + n) ∷ le32 z)
jump_quiet n z near =
    let code = 0x80 + n in
    let second : nat_eq 0x01 code ≡ false = ne_eqb 0x01 code (λ e. omega (arith, e)) in
    let first : nat_eq 0x0f code ≡ false = ne_eqb 0x0f code (λ e. omega (arith, e)) in (
      and_from (not (is_key_sequence (0x0f ∷ code ∷ le32 z) 0)) (is_clean (code ∷ le32 z))
          (not_from_false (is_key_sequence (0x0f ∷ code ∷ le32 z) 0) (and_left (nat_eq 0x01 code) _ second))
          (and_from (not (is_key_sequence (code ∷ le32 z) 0)) (is_clean (le32 z))
          (not_from_false (is_key_sequence (code ∷ le32 z) 0) (and_left (nat_eq 0x0f code) _ first)) (le32_clean z near)),
      refl,
    )

displaced : (i : Inst) (z : ℤ) → Near z → Quiet (spelling i) → Quiet (spelling (with_displacement i z))
displaced (Jcc cc rel) z near quiet = jump_quiet (condition_code cc) z near
displaced (Jmp rel) z near quiet = (le32_clean z near, refl)
displaced (Call rel) z near quiet = (le32_clean z near, refl)
displaced i z near quiet = quiet

-- a displacement of 32 bits is what it was before its sign was read
unsigned : (n : ℕ) → n < 4294967296 → cast_unsigned w32 (cast_signed w32 n) ≡ n
unsigned n small = of_z-to_z w32 n small

forward : (from to : ℕ) → from ≤ to → to ≤ 1048576
    → (to + (18446744073709551616 - from)) % 18446744073709551616 % 4294967296 ≡ to - from
forward from to le small = omega arith

backward : (from to : ℕ) → to < from → from ≤ 1048576
    → (to + (18446744073709551616 - from)) % 18446744073709551616 % 4294967296 ≡ 4294967296 - (from - to)
backward from to less small = omega arith

near_of : (z : ℤ) (u : ℕ) → cast_unsigned w32 z ≡ u
    → (nat_eq 0xef (u / 65536 % 256) ≡ false) × (nat_eq 0xef (u / 16777216 % 256) ≡ false) → Near z
near_of z u e has = subst (λ v. (nat_eq 0xef (v / 65536 % 256) ≡ false) × (nat_eq 0xef (v / 16777216 % 256) ≡ false)) (sym e) has

near : (from to : ℕ) → from ≤ 1048576 → to ≤ 1048576 → Near (displacement from to)
near from to first second =
    let n = (to + (18446744073709551616 - from)) % 18446744073709551616 % 4294967296 in
    let small : n < 4294967296 = omega arith in
    by (cases_lt to from) (unsigned n small)
  where
    by : (to < from) ⊎ (from ≤ to)
        → cast_unsigned w32 (displacement from to) ≡ (to + (18446744073709551616 - from)) % 18446744073709551616 % 4294967296
        → Near (displacement from to)
    by (inl less) is =
        let u = 4294967296 - (from - to) in
        near_of (displacement from to) u (is ∙ backward from to less first)
        (ne_eqb 0xef (u / 65536 % 256) (λ e. omega (arith, e)), ne_eqb 0xef (u / 16777216 % 256) (λ e. omega (arith, e)))
    by (inr le) is =
        let u = to - from in
        near_of (displacement from to) u (is ∙ forward from to le second)
        (ne_eqb 0xef (u / 65536 % 256) (λ e. omega (arith, e)), ne_eqb 0xef (u / 16777216 % 256) (λ e. omega (arith, e)))

-- ---- where targets are

abbrev UpTo : ℕ → List ℕ → Type 0
UpTo n places = (j : ℕ) → slice_index places j ≤ n

places_within : (at n : ℕ) (ps : List Piece) → at + pieces_size ps ≤ n → UpTo n (places_from at ps)
places_within at n [] le zero = omega arith
places_within at n [] le (suc j) = omega arith
places_within at n (p ∷ ps) le zero = omega arith
places_within at n (p ∷ ps) le (suc j) = places_within (at + piece_size p) n ps (omega arith) j

ranges_within : (at n : ℕ) (rs : List (List Piece)) (c : ℕ) → at + ranges_size rs ≤ n → UpTo n (slice_index_or (range_places at rs) c [])
ranges_within at n [] c le j = omega arith
ranges_within at n (r ∷ rs) zero le j = places_within at n r (omega (arith, page_least (pieces_size r))) j
ranges_within at n (r ∷ rs) (suc c) le j = ranges_within (at + whole_pages (pieces_size r)) n rs c (omega arith) j

functions_within : (at : Layout) (n : ℕ) (spots : List PartSpot) → ((c : ℕ) → UpTo n (slice_index_or at.ranges c [])) → UpTo n (function_places at spots)
functions_within at n [] within j = omega arith
functions_within at n (s ∷ ss) within zero = within s.compartment s.piece
functions_within at n (s ∷ ss) within (suc j) = functions_within at n ss within j

reached_within : (parts : Parts) (to : Reach) (own : List ℕ) (n : ℕ) (t : Target) → UpTo n own → UpTo n to.runtime → LeadsInto to.functions n (Some t) → reached parts to own t ≤ n
reached_within parts to own n (Label k) mine runtime leads = mine k
reached_within parts to own n (Function f) mine runtime leads = leads
reached_within parts to own n (Stub s) mine runtime leads = runtime _
reached_within parts to own n Abort mine runtime leads = runtime parts.map.abort
reached_within parts to own n Idle mine runtime leads = runtime parts.map.idle
reached_within parts to own n Switch mine runtime leads = runtime parts.map.switch

all_lead : (functions : List ℕ) (n : ℕ) (t : Option Target) → UpTo n functions → LeadsInto functions n t
all_lead functions n None within = tt
all_lead functions n (Some (Label k)) within = tt
all_lead functions n (Some (Function f)) within = within f
all_lead functions n (Some (Stub s)) within = tt
all_lead functions n (Some Abort) within = tt
all_lead functions n (Some Idle) within = tt
all_lead functions n (Some Switch) within = tt

-- ---- pieces

abbrev quiet : Piece → Type 0
quiet q = is_quiet (spelling q.inst) ≡ true

linked_quiet : (parts : Parts) (to : Reach) (own : List ℕ) (end n : ℕ) (i : Inst) (t : Option Target) → n ≤ 1048576 → end ≤ n → UpTo n own → UpTo n to.runtime
    → LeadsInto to.functions n t → Quiet (spelling i) → Quiet (spelling (linked parts to own end i t))
linked_quiet parts to own end n i None few less mine runtime leads has = has
linked_quiet parts to own end n i (Some t) few less mine runtime leads has =
    displaced i (displacement end (reached parts to own t))
    (near end (reached parts to own t) (omega arith) (omega (arith, reached_within parts to own n t mine runtime leads))) has

bytes_quiet : (parts : Parts) (to : Reach) (own : List ℕ) (n k : ℕ) (ps : List Piece) → n ≤ 1048576 → UpTo n own → UpTo n to.runtime
    → All quiet ps → All (λ (q : Piece). LeadsInto to.functions n q.target) ps → Quiet (bytes_from parts to own k ps)
bytes_quiet parts to own n k [] few mine runtime has leads = quiet_nil
bytes_quiet parts to own n k (q ∷ qs) few mine runtime has leads =
    quiet_append (spelling (linked parts to own (slice_index own (k + 1)) q.inst q.target)) (bytes_from parts to own (k + 1) qs)
    (linked_quiet parts to own (slice_index own (k + 1)) n q.inst q.target few (mine (k + 1)) mine runtime
    (All-head (λ (x : Piece). LeadsInto to.functions n x.target) q qs leads) (quiet_is (spelling q.inst) (All-head quiet q qs has)))
    (bytes_quiet parts to own n (k + 1) qs few mine runtime (All-tail quiet q qs has) (All-tail (λ (x : Piece). LeadsInto to.functions n x.target) q qs leads))

halts_quiet : (n : ℕ) → Quiet (replicate n 0xf4)
halts_quiet zero = quiet_nil
halts_quiet (suc n) = quiet_append (0xf4 ∷ []) (replicate n 0xf4) (refl, refl) (halts_quiet n)

range_quiet : (parts : Parts) (to : Reach) (own : List ℕ) (n : ℕ) (ps : List Piece) → n ≤ 1048576 → UpTo n own → UpTo n to.runtime
    → All quiet ps → All (λ (q : Piece). LeadsInto to.functions n q.target) ps → Quiet (range_code parts to own ps)
range_quiet parts to own n ps few mine runtime has leads =
    let bytes = bytes_from parts to own 0 ps in
    quiet_append bytes (replicate ((4096 - length bytes % 4096) % 4096) 0xf4) (bytes_quiet parts to own n 0 ps few mine runtime has leads)
    (halts_quiet ((4096 - length bytes % 4096) % 4096))

ranges_quiet : (parts : Parts) (to : Reach) (places : List (List ℕ)) (n c : ℕ) (rs : List (List Piece)) → n ≤ 1048576 → ((d : ℕ) → UpTo n (slice_index_or places d [])) → UpTo n to.functions → UpTo n to.runtime
    → All AreQuiet rs → Quiet (ranges_code parts to places c rs)
ranges_quiet parts to places n c [] few mine functions runtime has = quiet_nil
ranges_quiet parts to places n c (r ∷ rs) few mine functions runtime has =
    quiet_append (range_code parts to (slice_index_or places c []) r) (ranges_code parts to places (c + 1) rs)
    (range_quiet parts to (slice_index_or places c []) n r few (mine c) runtime (All-head AreQuiet r rs has) (λ j d less. all_lead to.functions n _ functions))
    (ranges_quiet parts to places n (c + 1) rs few mine functions runtime (All-tail AreQuiet r rs has))

code_quiet : (parts : Parts) (p : TProgram) → HasNoKeys parts p → IsShort parts → Quiet (code_of parts p (parts_layout parts))
code_quiet parts p has short =
    let at = parts_layout parts in
    let inner = inner_reach parts p at in
    let outer = outer_reach parts p at in
    let runtime : UpTo at.size at.runtime = places_within (ranges_size parts.ranges) at.size parts.runtime (omega (arith, page_least (pieces_size parts.runtime))) in
    let places : (c : ℕ) → UpTo at.size (slice_index_or at.ranges c []) = λ c. ranges_within 0 at.size parts.ranges c (omega arith) in
    quiet_append (ranges_code parts inner at.ranges 0 parts.ranges) (range_code parts outer at.runtime parts.runtime)
    (ranges_quiet parts inner at.ranges at.size 0 parts.ranges short places (functions_within at at.size parts.spots places) runtime has.ranges)
    (range_quiet parts outer at.runtime at.size parts.runtime short runtime runtime has.runtime has.inside)

pub sequences : SequencesAreMet
unfolding image_of first_unlisted
sequences parts p places k has short =
    unlisted (image_of parts p places k).stubs 0 (code_of parts p (parts_layout parts)) (code_quiet parts p has short).0
