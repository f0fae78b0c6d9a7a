-- How many bytes the parts of the code have.
use Rattle.std.proofs.Common.{◌≡◌, ℕ, ◌+◌, ◌-◌, ◌*◌, ◌%◌, ◌<◌, ◌≤◌, List, [], ◌∷◌, ◌++◌, length, replicate, refl, ap, sym, ◌∙◌, subst, arith, length-append}
use Rattle.std.proofs.lemmas.List.{length-replicate}
use Rattle.std.specs.List.{flat_map}
use Rattle.fx_x64_forms.specs.declared.inst.Inst.TheVariants.{Ret}
use Rattle.fx_x64_code.specs.Spelling.{spelling}
use Rattle.fx_early_image.specs.Code.{putc_bytes, main_bytes, spelled, start_code, abort_code, filled, entry_table, range_bytes, code_bytes}

pub length-filled : (unit : ℕ) (bytes : List ℕ) → length (filled unit bytes) ≡ length bytes + (unit - length bytes % unit) % unit
unfolding filled
length-filled unit bytes = length-append bytes (replicate ((unit - length bytes % unit) % unit) 0xf4) ∙ ap (λ n. length bytes + n) (length-replicate _ _)

-- whole pages
pub filled_whole : (bytes : List ℕ) → length (filled 4096 bytes) % 4096 ≡ 0
filled_whole bytes = let h = length-filled 4096 bytes in omega (arith, h)

pub length-table : length entry_table ≡ 16
length-table = length-filled 16 (0xe9 ∷ 11 ∷ 0 ∷ 0 ∷ 0 ∷ [])

pub length-putcs : (constants : List ℕ) → length (flat_map putc_bytes constants) ≡ 14 * length constants
length-putcs [] = refl
length-putcs (c ∷ cs) = let h = length-putcs cs in omega (arith, h)

pub length-main : (constants : List ℕ) → length (main_bytes constants) ≡ 14 * length constants + 8
length-main constants =
    let h = length-putcs constants in
    let a = length-append (flat_map putc_bytes constants) (spelling Ret) in
    omega (arith, h, a)

-- what stands in the range before it is filled up
pub length-unfilled : (constants : List ℕ) → length (entry_table ++ main_bytes constants) ≡ 14 * length constants + 24
length-unfilled constants =
    let h = length-main constants in
    let t = length-table in
    let a = length-append entry_table (main_bytes constants) in
    omega (arith, h, t, a)

pub length-range : (constants : List ℕ) → length (range_bytes constants) ≡ 14 * length constants + 24 + (4096 - (14 * length constants + 24) % 4096) % 4096
unfolding range_bytes
length-range constants = length-filled 4096 (entry_table ++ main_bytes constants) ∙ ap (λ n. n + (4096 - n % 4096) % 4096) (length-unfilled constants)

-- at most four pages
pub range_length : (constants : List ℕ) → length constants ≤ 1000 → length (range_bytes constants) ≤ 16384
range_length constants few = let h = length-range constants in omega (arith, h)

pub range_whole : (constants : List ℕ) → length (range_bytes constants) % 4096 ≡ 0
unfolding range_bytes
range_whole constants = filled_whole (entry_table ++ main_bytes constants)

-- at least one page
pub range_some : (constants : List ℕ) → 4096 ≤ length (range_bytes constants)
range_some constants = let h = length-range constants in omega (arith, h)

-- one page more
pub length-code : (constants : List ℕ) → length (code_bytes constants) ≡ length (range_bytes constants) + 4096
unfolding code_bytes
length-code constants =
    let n = length (range_bytes constants) in
    let s = range_bytes constants ++ spelled (start_code n) in
    let f = length-filled 4096 (s ++ spelled abort_code) in
    let a = length-append (range_bytes constants) (spelled (start_code n)) in
    let b = length-append s (spelled abort_code) in
    let w = range_whole constants in
    let e : length (filled 4096 (s ++ spelled abort_code)) ≡ n + 4096 = omega (arith, f, a, b, w) in
    e
