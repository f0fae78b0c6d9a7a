-- The machine code of the compartments: of each its entry table, and then its functions in order of
-- the program.
use Rattle.std.specs.Prelude.{ℕ, ◌+◌, ◌==◌, if◌then◌else◌, List, [], ◌∷◌, ◌++◌, length, slice_index}
use Rattle.std.specs.Prelude.{slice_index_or}
use Rattle.fx_x64_forms.specs.declared.piece.Piece.{Piece}
use Rattle.fx_c_ast.specs.declared.checked.TProgram.{TProgram}
use Rattle.fx_config.specs.declared.configuration.Config.{Config}
use Rattle.fx_config.specs.declared.configuration.Compartment.{Compartment}
use Rattle.fx_c_lin.specs.Ops.{Step}
use Rattle.fx_image.specs.declared.forms.EntryRec.{EntryRec}
use Rattle.fx_linker.specs.declared.parts.PartSpot.{PartSpot}
use Rattle.fx_linker.specs.Entries.{homes}
use Rattle.fx_linker.specs.Tables.{entries_of, table_pieces, records_from}
use Rattle.fx_build_parts.specs.declared.plan.Plan.{Plan}
use Rattle.fx_build_parts.specs.Functions.{function_pieces}

-- the code of function f, where compartment c has it
abbrev pub own_pieces : Plan → (c f here : ℕ) → List Step → List Piece
own_pieces plan c f here steps =
    if slice_index (homes plan.spots) f == c then function_pieces plan c f here steps else []

-- the code of the functions from number f on that compartment c has
abbrev pub functions_from : Plan → (c f here : ℕ) → List (List Step) → List Piece
functions_from plan c f here [] = []
functions_from plan c f here (steps ∷ more) =
    own_pieces plan c f here steps
    ++ functions_from plan c (f + 1) (here + length (own_pieces plan c f here steps)) more

-- of each function from number f on, at which piece of compartment c it begins if that has it
abbrev pub begins_from : Plan → (c f here : ℕ) → List (List Step) → List ℕ
begins_from plan c f here [] = []
begins_from plan c f here (steps ∷ more) =
    here ∷ begins_from plan c (f + 1) (here + length (own_pieces plan c f here steps)) more

abbrev pub entry_table : TProgram → Plan → ℕ → List Piece
entry_table p plan c = table_pieces (entries_of p plan.spots c)

abbrev pub range_of : TProgram → Plan → List (List Step) → ℕ → List Piece
range_of p plan code c =
    entry_table p plan c ++ functions_from plan c 0 (length (entry_table p plan c)) code

abbrev pub begins_of : TProgram → Plan → List (List Step) → ℕ → List ℕ
begins_of p plan code c = begins_from plan c 0 (length (entry_table p plan c)) code

-- ---- the compartments from number c on

abbrev pub ranges_from : TProgram → Plan → List (List Step) → ℕ → List Compartment
    → List (List Piece)
ranges_from p plan code c [] = []
ranges_from p plan code c (x ∷ xs) = range_of p plan code c ∷ ranges_from p plan code (c + 1) xs

abbrev pub all_begins_from : TProgram → Plan → List (List Step) → ℕ → List Compartment
    → List (List ℕ)
all_begins_from p plan code c [] = []
all_begins_from p plan code c (x ∷ xs) =
    begins_of p plan code c ∷ all_begins_from p plan code (c + 1) xs

abbrev pub all_records_from : TProgram → Plan → Config → ℕ → List Compartment → List EntryRec
all_records_from p plan k c [] = []
all_records_from p plan k c (x ∷ xs) =
    records_from p k c 0 (entries_of p plan.spots c) ++ all_records_from p plan k (c + 1) xs

-- ---- where the functions begin

-- function f in its compartment, where these are the beginnings by compartment and function
abbrev pub spot_in : List (List ℕ) → (f : ℕ) → PartSpot → PartSpot
spot_in begins f s = record {
  compartment = s.compartment;
  piece = slice_index (slice_index_or begins s.compartment []) f;
}

-- the functions from number f on
abbrev pub spots_from : List (List ℕ) → (f : ℕ) → List PartSpot → List PartSpot
spots_from begins f [] = []
spots_from begins f (s ∷ ss) = spot_in begins f s ∷ spots_from begins (f + 1) ss
