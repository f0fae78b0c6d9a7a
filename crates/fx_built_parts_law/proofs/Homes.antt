-- In which compartments the functions of a program are.
use Rattle.std.proofs.Common.{◌≡◌, ◌<◌, ℕ, zero, suc, ◌+◌, Bool, true, false, nat_lt, cond, List}
use Rattle.std.proofs.Common.{[], ◌∷◌, length, map, Some, None, unwrap_or, refl, sym, ap, subst}
use Rattle.std.proofs.Common.{arith}
use Rattle.std.specs.Prelude.{slice_index}
use Rattle.std.specs.List.{All, position_or_len}
use Rattle.std.proofs.lemmas.Bool.{ltb-true}
use Rattle.std.proofs.lemmas.List.{length-map}
use Rattle.std.proofs.lemmas.List.Elements.{All-nil, All-cons, All-head, All-tail}
use Rattle.fx_config.specs.declared.configuration.Config.{Config}
use Rattle.fx_config.specs.declared.configuration.Library.{Library}
use Rattle.fx_c_ast.specs.declared.checked.TFunction.{TFunction}
use Rattle.fx_c_ast.specs.declared.checked.TProgram.{TProgram}
use Rattle.fx_grants.specs.declared.grants.FunctionGrants.{FunctionGrants}
use Rattle.fx_grants.specs.declared.grants.Grants.{Grants}
use Rattle.fx_grants.specs.Homes.{holds_library, home_of, homes_of}
use Rattle.fx_grants.specs.GrantSets.{function_grants}
use Rattle.fx_linker.specs.declared.parts.PartSpot.{PartSpot}
use Rattle.fx_linker.specs.Entries.{homes}
use Rattle.fx_build_parts.specs.Ranges.{spots_from}
use Rattle.fx_build_parts.specs.Parts.{first_spots}
use Rattle.fx_built_parts_law.specs.Whole.{HasHomes, GrantsGiveHomes}

-- ---- of parts

-- a function stays in its compartment when its place is known
homes_stay : (begins : List (List ℕ)) (f : ℕ) (spots : List PartSpot)
    → homes (spots_from begins f spots) ≡ homes spots
homes_stay begins f [] = refl
homes_stay begins f (s ∷ ss) = ap (λ cs. s.compartment ∷ cs) (homes_stay begins (f + 1) ss)

abbrev spot_of : FunctionGrants → PartSpot
spot_of f = record { compartment = f.compartment; piece = 0 }

home_within : (fs : List FunctionGrants) (i n : ℕ)
    → All (λ (f : FunctionGrants). f.compartment < n) fs → i < length fs
    → slice_index (homes (map spot_of fs)) i < n
home_within [] i n within less = absurd (omega arith)
home_within (f ∷ fs) zero n within less =
    All-head (λ (x : FunctionGrants). x.compartment < n) f fs within
home_within (f ∷ fs) (suc i) n within less =
    home_within fs i n (All-tail (λ (x : FunctionGrants). x.compartment < n) f fs within)
    (omega arith)

pub main_within : (begins : List (List ℕ)) (p : TProgram) (g : Grants) (k : Config)
    → HasHomes p g k → p.main < length p.functions
    → slice_index (homes (spots_from begins 0 (first_spots g))) p.main < length k.compartments
main_within begins p g k has there =
    let less : p.main < length g.functions = omega (arith, has.same) in
    let within = home_within g.functions p.main (length k.compartments) has.within less in
    subst (λ cs. slice_index cs p.main < length k.compartments)
    (sym (homes_stay begins 0 (first_spots g))) within

-- ---- of grants

found_within : (at n : ℕ) (b : Bool) → b ≡ nat_lt at n → 0 < n
    → unwrap_or (cond b (Some at) None) 0 < n
found_within at n true is some = ltb-true at n (sym is)
found_within at n false is some = some

library_within : (k : Config) (name : List ℕ) → 0 < length k.compartments
    → home_of k name < length k.compartments
library_within k name some =
    found_within (position_or_len (holds_library name) k.compartments) (length k.compartments)
    (nat_lt (position_or_len (holds_library name) k.compartments) (length k.compartments))
    refl some

libraries_within : (k : Config) (ls : List Library) (i : ℕ) → 0 < length k.compartments
    → slice_index (map (λ (l : Library). home_of k l.name) ls) i < length k.compartments
libraries_within k [] i some = some
libraries_within k (l ∷ ls) zero some = library_within k l.name some
libraries_within k (l ∷ ls) (suc i) some = libraries_within k ls i some

functions_within : (k : Config) (fs : List TFunction) → 0 < length k.compartments
    → All (λ (f : FunctionGrants). f.compartment < length k.compartments)
    (map (function_grants (homes_of k)) fs)
functions_within k [] some =
    All-nil (λ (f : FunctionGrants). f.compartment < length k.compartments)
functions_within k (f ∷ fs) some =
    All-cons (λ (x : FunctionGrants). x.compartment < length k.compartments)
    (function_grants (homes_of k) f) (map (function_grants (homes_of k)) fs)
    (libraries_within k k.libraries f.library some) (functions_within k fs some)

pub granted_homes : GrantsGiveHomes
granted_homes p k some = record {
  same = length-map p.functions (function_grants (homes_of k));
  within = functions_within k p.functions some;
}
