-- The entries of a program's compartments are counted: by compartment, and each compartment's
-- numbers from 0 without a gap.
use Rattle.std.proofs.Common.{◌≡◌, ◌≤◌, ◌<◌, ℕ, zero, suc, ◌+◌, ◌*◌, ◌%◌, ◌^◌, Bool, true, false}
use Rattle.std.proofs.Common.{not, ◌&&◌, ◌||◌, ◌==◌, nat_lt, ◌⊎◌, inl, inr, List, [], ◌∷◌, ◌++◌}
use Rattle.std.proofs.Common.{length, length-append, Option, Some, None, refl, sym, ap, ◌∙◌, arith}
use Rattle.std.specs.Prelude.{slice_index, slice_get, is_some, if◌then◌else◌}
use Rattle.std.specs.List.{All}
use Rattle.std.proofs.lemmas.Bool.{and_from, or_left, or_right, lt-ltb, eq-eqb}
use Rattle.std.proofs.lemmas.List.Elements.{All-nil, All-cons, All-append, All-head, All-tail}
use Rattle.fx_config.specs.declared.configuration.Compartment.{Compartment}
use Rattle.fx_config.specs.declared.configuration.Config.{Config}
use Rattle.fx_c_ast.specs.declared.checked.TFunction.{TFunction}
use Rattle.fx_c_ast.specs.declared.checked.TProgram.{TProgram}
use Rattle.fx_c_lin.specs.Ops.{Step}
use Rattle.fx_image.specs.declared.forms.EntryRec.{EntryRec}
use Rattle.fx_image.specs.Rules.{are_counted}
use Rattle.fx_linker.specs.declared.parts.PartSpot.{PartSpot}
use Rattle.fx_linker.specs.Entries.{homes}
use Rattle.fx_linker.specs.Places.{pieces_size, ranges_size}
use Rattle.fx_linker.specs.Tables.{other_in, others_from, main_in, entries_of, record_at}
use Rattle.fx_linker.specs.Tables.{records_from}
use Rattle.fx_linker_law.proofs.Lengths.{page_least}
use Rattle.fx_build_parts.specs.declared.plan.Plan.{Plan}
use Rattle.fx_build_parts.specs.Ranges.{range_of, ranges_from, all_records_from}
use Rattle.fx_built_parts_law.proofs.Sizes.{range_room}

-- ---- the entries of a compartment are functions of the program

abbrev pub Below : ℕ → ℕ → Type 0
Below n f = f < n

one_if : (b : Bool) (f n : ℕ) → f < n → All (Below n) (if b then f ∷ [] else [])
one_if true f n less = All-cons (Below n) f [] less (All-nil (Below n))
one_if false f n less = All-nil (Below n)

others_inside : (main : ℕ) (places : List ℕ) (c f n : ℕ) (xs : List TFunction) → f + length xs ≤ n
    → All (Below n) (others_from main places c f xs)
others_inside main places c f n [] fits = All-nil (Below n)
others_inside main places c f n (x ∷ xs) fits =
    All-append (Below n) (other_in main places c f x) (others_from main places c (f + 1) xs)
    (one_if (x.entry && not (f == main) && slice_index places f == c) f n (omega arith))
    (others_inside main places c (f + 1) n xs (omega arith))

pub entries_inside : (p : TProgram) (spots : List PartSpot) (c : ℕ) → p.main < length p.functions
    → All (Below (length p.functions)) (entries_of p spots c)
entries_inside p spots c there =
    let n : ℕ = length p.functions in
    All-append (Below n) (main_in p.main (homes spots) c)
    (others_from p.main (homes spots) c 0 p.functions)
    (one_if (slice_index (homes spots) p.main == c) p.main n there)
    (others_inside p.main (homes spots) c 0 n p.functions (omega arith))

pub found : (xs : List TFunction) (i : ℕ) → i < length xs → is_some (slice_get xs i) ≡ true
found [] i less = absurd (omega arith)
found (x ∷ xs) zero less = refl
found (x ∷ xs) (suc i) less = found xs i (omega arith)

-- ---- one entry more

-- the next entry of the same compartment
next : (k : Config) (c number : ℕ) (o : Option TFunction) (rest es : List EntryRec)
    → is_some o ≡ true → number < 65536 → are_counted c (number + 1) (rest ++ es) ≡ true
    → are_counted c number ((record_at k c number o ++ rest) ++ es) ≡ true
next k c number None rest es some small onward = absurd cc
next k c number (Some f) rest es some small onward =
    let whole : number % 2 ^ 16 ≡ number = omega arith in
    and_from
    ((c == c && number % 2 ^ 16 == number) || (nat_lt c c && number % 2 ^ 16 == 0))
    (are_counted c (number % 2 ^ 16 + 1) (rest ++ es))
    (or_left (c == c && number % 2 ^ 16 == number) (nat_lt c c && number % 2 ^ 16 == 0)
    (and_from (c == c) (number % 2 ^ 16 == number) (eq-eqb c c refl)
    (eq-eqb (number % 2 ^ 16) number whole)))
    (ap (λ n. are_counted c (n + 1) (rest ++ es)) whole ∙ onward)

-- behind number m of compartment b compartment c may begin
abbrev Before : (b m c : ℕ) → Type 0
Before b m c = (b < c) ⊎ ((b ≡ c) × (m ≡ 0))

begins : (b m c : ℕ) → Before b m c
    → ((c == b && 0 == m) || (nat_lt b c && 0 == 0)) ≡ true
begins b m c (inl less) =
    or_right (c == b && 0 == m) (nat_lt b c && 0 == 0)
    (and_from (nat_lt b c) (0 == 0) (lt-ltb b c less) refl)
begins b m c (inr first) =
    or_left (c == b && 0 == m) (nat_lt b c && 0 == 0)
    (and_from (c == b) (0 == m) (eq-eqb c b (sym first.0)) (eq-eqb 0 m (sym first.1)))

-- the first entry of a compartment
first : (k : Config) (b m c : ℕ) (o : Option TFunction) (rest es : List EntryRec)
    → is_some o ≡ true → Before b m c → are_counted c 1 (rest ++ es) ≡ true
    → are_counted b m ((record_at k c 0 o ++ rest) ++ es) ≡ true
first k b m c None rest es some before onward = absurd cc
first k b m c (Some f) rest es some before onward =
    and_from ((c == b && 0 == m) || (nat_lt b c && 0 == 0)) (are_counted c 1 (rest ++ es))
    (begins b m c before) onward

-- ---- the entries of a compartment

onwards : (p : TProgram) (k : Config) (c number : ℕ) (fs : List ℕ) (es : List EntryRec)
    → All (Below (length p.functions)) fs → number + length fs ≤ 65536
    → ((m : ℕ) → are_counted c m es ≡ true)
    → are_counted c number (records_from p k c number fs ++ es) ≡ true
onwards p k c number [] es inside small behind = behind number
onwards p k c number (f ∷ fs) es inside small behind =
    next k c number (slice_get p.functions f) (records_from p k c (number + 1) fs) es
    (found p.functions f (All-head (Below (length p.functions)) f fs inside)) (omega arith)
    (onwards p k c (number + 1) fs es (All-tail (Below (length p.functions)) f fs inside)
    (omega arith) behind)

not_behind : (b m c : ℕ) → Before b m c → b < c + 1
not_behind b m c (inl less) = omega arith
not_behind b m c (inr first) = omega (arith, first.0)

entered : (p : TProgram) (k : Config) (b m c : ℕ) (fs : List ℕ) (es : List EntryRec)
    → Before b m c → All (Below (length p.functions)) fs → length fs ≤ 65536
    → ((a n : ℕ) → a < c + 1 → are_counted a n es ≡ true)
    → are_counted b m (records_from p k c 0 fs ++ es) ≡ true
entered p k b m c [] es before inside small behind = behind b m (not_behind b m c before)
entered p k b m c (f ∷ fs) es before inside small behind =
    first k b m c (slice_get p.functions f) (records_from p k c 1 fs) es
    (found p.functions f (All-head (Below (length p.functions)) f fs inside)) before
    (onwards p k c 1 fs es (All-tail (Below (length p.functions)) f fs inside) (omega arith)
    (λ n. behind c n (omega arith)))

-- ---- all compartments

pub all_counted : (p : TProgram) (plan : Plan) (code : List (List Step)) (k : Config) (b m c : ℕ)
    (xs : List Compartment) → p.main < length p.functions → Before b m c
    → ranges_size (ranges_from p plan code c xs) ≤ 1048576
    → are_counted b m (all_records_from p plan k c xs) ≡ true
all_counted p plan code k b m c [] there before short = refl
all_counted p plan code k b m c (x ∷ xs) there before short =
    let room = range_room p plan code c in
    let least = page_least (pieces_size (range_of p plan code c)) in
    entered p k b m c (entries_of p plan.spots c) (all_records_from p plan k (c + 1) xs)
    before (entries_inside p plan.spots c there) (omega (arith, room, least))
    (λ a n less. all_counted p plan code k a n (c + 1) xs there (inl less) (omega arith))

-- ---- how many there are

record_few : (k : Config) (c number : ℕ) (o : Option TFunction)
    → length (record_at k c number o) ≤ 1
record_few k c number None = omega arith
record_few k c number (Some f) = omega arith

records_few : (p : TProgram) (k : Config) (c number : ℕ) (fs : List ℕ)
    → length (records_from p k c number fs) ≤ length fs
records_few p k c number [] = omega arith
records_few p k c number (f ∷ fs) =
    let one : List EntryRec = record_at k c number (slice_get p.functions f) in
    let both = length-append one (records_from p k c (number + 1) fs) in
    let few = record_few k c number (slice_get p.functions f) in
    omega (arith, both, few, records_few p k c (number + 1) fs)

-- an entry takes 16 bytes of code
pub all_few : (p : TProgram) (plan : Plan) (code : List (List Step)) (k : Config) (c : ℕ)
    (xs : List Compartment)
    → 16 * length (all_records_from p plan k c xs) ≤ ranges_size (ranges_from p plan code c xs)
all_few p plan code k c [] = omega arith
all_few p plan code k c (x ∷ xs) =
    let own : List EntryRec = records_from p k c 0 (entries_of p plan.spots c) in
    let both = length-append own (all_records_from p plan k (c + 1) xs) in
    let few = records_few p k c 0 (entries_of p plan.spots c) in
    let room = range_room p plan code c in
    let least = page_least (pieces_size (range_of p plan code c)) in
    omega (arith, both, few, room, least, all_few p plan code k (c + 1) xs)
