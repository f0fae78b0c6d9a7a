-- Each entry of a program's compartments is one of its compartment's range.
use Rattle.std.proofs.Common.{◌≡◌, ◌≤◌, ◌<◌, ℕ, zero, suc, ◌+◌, ◌*◌, ◌^◌, Bool, true, false, List}
use Rattle.std.proofs.Common.{[], ◌∷◌, length, Option, Some, None, ap, arith}
use Rattle.std.specs.Prelude.{slice_get, slice_index_or, if◌then◌else◌, IsTrue}
use Rattle.std.specs.List.{All}
use Rattle.std.proofs.lemmas.Nat.{or_lt, pow_below, pow_pos}
use Rattle.std.proofs.lemmas.List.Elements.{All-nil, All-cons, All-append, All-head, All-tail}
use Rattle.fx_x64_forms.specs.declared.piece.Piece.{Piece}
use Rattle.fx_config.specs.declared.configuration.Compartment.{Compartment}
use Rattle.fx_config.specs.declared.configuration.Config.{Config}
use Rattle.fx_c_ast.specs.declared.checked.TFunction.{TFunction}
use Rattle.fx_c_ast.specs.declared.checked.TProgram.{TProgram}
use Rattle.fx_c_lin.specs.Ops.{Step}
use Rattle.fx_grants.specs.Sets.{with_member}
use Rattle.fx_image.specs.declared.forms.EntryRec.{EntryRec}
use Rattle.fx_image.specs.Rules as image
use Rattle.fx_linker.specs.Places.{pieces_size}
use Rattle.fx_linker.specs.Tables.{calls_have, with_caller, callers_from, callers, record_of}
use Rattle.fx_linker.specs.Tables.{record_at, records_from, entries_of}
use Rattle.fx_linker_law.specs.Premises.{IsEntryOf}
use Rattle.fx_build_parts.specs.declared.plan.Plan.{Plan}
use Rattle.fx_build_parts.specs.Ranges.{range_of, all_records_from}
use Rattle.fx_built_parts_law.proofs.Sizes.{range_room}

-- ---- callers

added : (b : Bool) (set c n : ℕ) → set < 2 ^ n → c < n
    → (if b then with_member set c else set) < 2 ^ n
added true set c n small less = or_lt n set (2 ^ c) small (pow_below c n less)
added false set c n small less = small

callers_small : (name : List ℕ) (set c n : ℕ) (xs : List Compartment) → set < 2 ^ n
    → c + length xs ≤ n → callers_from name set c xs < 2 ^ n
callers_small name set c n [] small fits = small
callers_small name set c n (x ∷ xs) small fits =
    callers_small name (with_caller name set c x) (c + 1) n xs
    (added (calls_have name x.calls) set c n small (omega arith)) (omega arith)

if_entry : (b : Bool) (set n : ℕ) → set < 2 ^ n → (if b then set else 0) < 2 ^ n
if_entry true set n small = small
if_entry false set n small = pow_pos n

callers_within : (k : Config) (f : TFunction) → callers k f < 2 ^ length k.compartments
callers_within k f =
    let n : ℕ = length k.compartments in
    if_entry f.entry (callers_from f.name 0 0 k.compartments) n
    (callers_small f.name 0 0 n k.compartments (pow_pos n) (omega arith))

-- ---- records

abbrev pub IsNamed : TFunction → Type 0
IsNamed f = IsTrue (image.is_c_name f.name)

abbrev NamedIf : Option TFunction → Type 0
NamedIf None = Unit {0}
NamedIf (Some f) = IsNamed f

named_at : (xs : List TFunction) (i : ℕ) → All IsNamed xs → NamedIf (slice_get xs i)
named_at [] i names = tt
named_at (x ∷ xs) zero names = All-head IsNamed x xs names
named_at (x ∷ xs) (suc i) names = named_at xs i (All-tail IsNamed x xs names)

module _ (k : Config) (ranges : List (List Piece)) where
  abbrev Fits : EntryRec → Type 0
  Fits e = IsEntryOf ranges (length k.compartments) e

  record_fits : (c number : ℕ) (o : Option TFunction) → NamedIf o → c < length ranges
      → 16 * number < pieces_size (slice_index_or ranges c []) → All Fits (record_at k c number o)
  record_fits c number None name there room = All-nil Fits
  record_fits c number (Some f) name there room =
      All-cons Fits (record_of k c number f) []
      (name, there, omega arith, callers_within k f) (All-nil Fits)

  records_fit : (p : TProgram) (c number : ℕ) (fs : List ℕ) → All IsNamed p.functions
      → c < length ranges → 16 * (number + length fs) ≤ pieces_size (slice_index_or ranges c [])
      → All Fits (records_from p k c number fs)
  records_fit p c number [] names there room = All-nil Fits
  records_fit p c number (f ∷ fs) names there room =
      All-append Fits (record_at k c number (slice_get p.functions f))
      (records_from p k c (number + 1) fs)
      (record_fits c number (slice_get p.functions f) (named_at p.functions f names) there
      (omega arith))
      (records_fit p c (number + 1) fs names there (omega arith))

  -- where these are the ranges of the compartments
  pub all_fit : (p : TProgram) (plan : Plan) (code : List (List Step)) (c : ℕ)
      (xs : List Compartment) → All IsNamed p.functions
      → ((j : ℕ) → j < length ranges → slice_index_or ranges j [] ≡ range_of p plan code j)
      → c + length xs ≤ length ranges → All Fits (all_records_from p plan k c xs)
  all_fit p plan code c [] names at fits = All-nil Fits
  all_fit p plan code c (x ∷ xs) names at fits =
      let there : c < length ranges = omega arith in
      let same = ap pieces_size (at c there) in
      let room = range_room p plan code c in
      All-append Fits (records_from p k c 0 (entries_of p plan.spots c))
      (all_records_from p plan k (c + 1) xs)
      (records_fit p c 0 (entries_of p plan.spots c) names there (omega (arith, same, room)))
      (all_fit p plan code (c + 1) xs names at (omega arith))
