-- How many bytes the ranges of a program's compartments have at least: each begins with its entry
-- table.
use Rattle.std.proofs.Common.{◌≡◌, ◌≤◌, ◌<◌, ℕ, zero, suc, ◌+◌, ◌*◌, List, [], ◌∷◌, ◌++◌, length}
use Rattle.std.proofs.Common.{refl, ap, ◌∙◌, arith}
use Rattle.std.specs.Prelude.{slice_index_or}
use Rattle.fx_x64_forms.specs.declared.piece.Piece.{Piece}
use Rattle.fx_config.specs.declared.configuration.Compartment.{Compartment}
use Rattle.fx_c_ast.specs.declared.checked.TProgram.{TProgram}
use Rattle.fx_c_lin.specs.Ops.{Step}
use Rattle.fx_linker.specs.Places.{pieces_size, whole_pages}
use Rattle.fx_linker.specs.Tables.{entries_of, entry_pieces, table_pieces}
use Rattle.fx_build_parts.specs.declared.plan.Plan.{Plan}
use Rattle.fx_build_parts.specs.Ranges.{functions_from, entry_table, range_of, ranges_from}

pub size_append : (ps qs : List Piece) → pieces_size (ps ++ qs) ≡ pieces_size ps + pieces_size qs
size_append [] qs = omega arith
size_append (p ∷ ps) qs = omega (arith, size_append ps qs)

entry_size : (f : ℕ) → pieces_size (entry_pieces f) ≡ 16
entry_size f = refl

table_size : (fs : List ℕ) → pieces_size (table_pieces fs) ≡ 16 * length fs
table_size [] = refl
table_size (f ∷ fs) =
    let both = size_append (entry_pieces f) (table_pieces fs) in
    let one = entry_size f in
    omega (arith, both, one, table_size fs)

-- a range has room for the jump to each of its compartment's entries
pub range_room : (p : TProgram) (plan : Plan) (code : List (List Step)) (c : ℕ)
    → 16 * length (entries_of p plan.spots c) ≤ pieces_size (range_of p plan code c)
range_room p plan code c =
    let table : List Piece = entry_table p plan c in
    let both = size_append table (functions_from plan c 0 (length table) code) in
    let first = table_size (entries_of p plan.spots c) in
    omega (arith, both, first)

-- one range for each compartment
pub ranges_length : (p : TProgram) (plan : Plan) (code : List (List Step)) (c : ℕ)
    (xs : List Compartment) → length (ranges_from p plan code c xs) ≡ length xs
ranges_length p plan code c [] = refl
ranges_length p plan code c (x ∷ xs) = ap suc (ranges_length p plan code (c + 1) xs)

pub range_at : (p : TProgram) (plan : Plan) (code : List (List Step)) (c : ℕ)
    (xs : List Compartment) (j : ℕ) → j < length xs
    → slice_index_or (ranges_from p plan code c xs) j [] ≡ range_of p plan code (c + j)
range_at p plan code c [] j less = absurd (omega arith)
range_at p plan code c (x ∷ xs) zero less =
    let same : c ≡ c + 0 = omega arith in
    ap (range_of p plan code) same
range_at p plan code c (x ∷ xs) (suc j) less =
    let same : c + 1 + j ≡ c + suc j = omega arith in
    range_at p plan code (c + 1) xs j (omega arith) ∙ ap (range_of p plan code) same

-- some bytes are a page at least
pub page_some : (n : ℕ) → 1 ≤ n → 4096 ≤ whole_pages n
page_some n some = omega arith
