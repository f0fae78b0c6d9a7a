-- The entry tables of compartments, and the records of their entries (this project's own layout).
use Rattle.std.specs.Prelude.{ℕ, pos, ◌+◌, ◌%◌, ◌^◌, Bool, true, not, ◌&&◌, ◌==◌, if◌then◌else◌}
use Rattle.std.specs.Prelude.{List, [], ◌∷◌, ◌++◌, replicate, slice_index, slice_get, bytes_eq}
use Rattle.std.specs.Prelude.{Option, Some, None}
use Rattle.std.specs.List.{list_any, flat_map}
use Rattle.fx_x64_forms.specs.declared.inst.Inst.TheVariants as inst
use Rattle.fx_x64_forms.specs.declared.piece.Piece.{Piece}
use Rattle.fx_x64_forms.specs.declared.piece.Target.TheVariants as target
use Rattle.fx_c_ast.specs.declared.checked.TFunction.{TFunction}
use Rattle.fx_c_ast.specs.declared.checked.TProgram.{TProgram}
use Rattle.fx_config.specs.declared.configuration.Config.{Config}
use Rattle.fx_config.specs.declared.configuration.Compartment.{Compartment}
use Rattle.fx_grants.specs.Sets.{with_member}
use Rattle.fx_image.specs.declared.forms.EntryRec.{EntryRec}
use Rattle.fx_linker.specs.declared.parts.PartSpot.{PartSpot}
use Rattle.fx_linker.specs.Entries.{homes}

-- function f, where it is an entry function of compartment c other than `main`
abbrev pub other_in : (main : ℕ) → List ℕ → (c f : ℕ) → TFunction → List ℕ
other_in main homes c f x =
    if x.entry && not (f == main) && slice_index homes f == c then f ∷ [] else []

-- such functions from number f on
abbrev pub others_from : (main : ℕ) → List ℕ → (c f : ℕ) → List TFunction → List ℕ
others_from main homes c f [] = []
others_from main homes c f (x ∷ xs) =
    other_in main homes c f x ++ others_from main homes c (f + 1) xs

abbrev pub main_in : (main : ℕ) → List ℕ → ℕ → List ℕ
main_in main homes c = if slice_index homes main == c then main ∷ [] else []

-- the entries of compartment c: `main` where it is there, then the entry functions in program order
abbrev pub entries_of : TProgram → List PartSpot → ℕ → List ℕ
entries_of p spots c =
    main_in p.main (homes spots) c ++ others_from p.main (homes spots) c 0 p.functions

-- a jump of 5 bytes to a function, filled up to 16 bytes with HLT
abbrev pub entry_pieces : ℕ → List Piece
entry_pieces f =
    record { inst = inst.Jmp (pos 0); target = Some (target.Function f) }
    ∷ replicate 11 (record { inst = inst.Hlt; target = None })

-- at 16 * i the jump to entry i
abbrev pub table_pieces : List ℕ → List Piece
table_pieces entries = flat_map entry_pieces entries

-- whether a compartment may call an entry function of this name: without a list it may call each
abbrev pub calls_have : List ℕ → Option (List (List ℕ)) → Bool
calls_have name None = true
calls_have name (Some calls) = list_any (λ call. bytes_eq call name) calls

-- the set with a compartment that may call it
abbrev pub with_caller : List ℕ → (set c : ℕ) → Compartment → ℕ
with_caller name set c x = if calls_have name x.calls then with_member set c else set

-- the set with those of the compartments from number c on that may call it
abbrev pub callers_from : List ℕ → (set c : ℕ) → List Compartment → ℕ
callers_from name set c [] = set
callers_from name set c (x ∷ xs) = callers_from name (with_caller name set c x) (c + 1) xs

-- the compartments that may call a function: none where it is no entry function
abbrev pub callers : Config → TFunction → ℕ
callers k f = if f.entry then callers_from f.name 0 0 k.compartments else 0

abbrev pub record_of : Config → (c number : ℕ) → TFunction → EntryRec
record_of k c number f =
    record { name = f.name; compartment = c; number = number % 2 ^ 16; callers = callers k f }

-- the record of a compartment's entry of a number, which is this function
abbrev pub record_at : Config → (c number : ℕ) → Option TFunction → List EntryRec
record_at k c number None = []
record_at k c number (Some f) = record_of k c number f ∷ []

-- the records of a compartment's entries from a number on
abbrev pub records_from : TProgram → Config → (c number : ℕ) → List ℕ → List EntryRec
records_from p k c number [] = []
records_from p k c number (f ∷ fs) =
    record_at k c number (slice_get p.functions f) ++ records_from p k c (number + 1) fs
