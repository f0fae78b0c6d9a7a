-- The entries of compartments: which number each has, and where the jump to it stands (this project's
-- own layout).
use Rattle.std.specs.Prelude.{ℕ, ◌+◌, ◌*◌, Bool, not, ◌&&◌, ◌==◌, if◌then◌else◌, List, [], ◌∷◌, map}
use Rattle.std.specs.Prelude.{replicate, slice_index, slice_set}
use Rattle.fx_c_ast.specs.declared.checked.TFunction.{TFunction}
use Rattle.fx_c_ast.specs.declared.checked.TProgram.{TProgram}
use Rattle.fx_linker.specs.declared.parts.PartSpot.{PartSpot}
use Rattle.fx_linker.specs.declared.layout.Layout.{Layout}

-- the compartments of functions
abbrev pub homes : List PartSpot → List ℕ
homes spots = map (λ (s : PartSpot). s.compartment) spots

-- one more entry of a compartment, where `next` has the next number of each
abbrev pub counted : List ℕ → ℕ → List ℕ
counted next c = slice_set next c (slice_index next c + 1)

-- whether function i is an entry function that is counted behind `main`
abbrev pub is_counted : (main i : ℕ) → TFunction → Bool
is_counted main i f = f.entry && not (i == main)

-- The number of each function from i on among the entries of its compartment: `main` is number 0, and the
-- entry functions follow in program order. `next` has the next number of each compartment. (Of a function
-- that is no entry it is the number that the next one has.)
abbrev pub numbers_from : (main : ℕ) → (next spots : List ℕ) → ℕ → List TFunction → List ℕ
numbers_from main next spots i [] = []
numbers_from main next spots i (f ∷ fs) =
    (if i == main then 0 else slice_index next (slice_index spots i))
    ∷ numbers_from main (if is_counted main i f then counted next (slice_index spots i) else next)
    spots (i + 1) fs

-- `main` is the first entry of its compartment; of the others the first is yet to come
abbrev pub first_numbers : ℕ → List ℕ
first_numbers home = slice_set (replicate 256 0) home 1

abbrev pub entry_numbers_of : TProgram → List PartSpot → List ℕ
entry_numbers_of p spots =
    numbers_from p.main (first_numbers (slice_index (homes spots) p.main)) (homes spots) 0 p.functions

-- Entry i of a compartment is called at 16 * i from the beginning of its range.
abbrev pub entry_places : Layout → List ℕ → ℕ → List PartSpot → List ℕ
entry_places at numbers i [] = []
entry_places at numbers i (s ∷ ss) =
    (slice_index at.starts s.compartment + 16 * slice_index numbers i)
    ∷ entry_places at numbers (i + 1) ss
