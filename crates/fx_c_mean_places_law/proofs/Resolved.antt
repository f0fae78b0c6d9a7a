-- The rights of a resolved configuration.
use Rattle.std.proofs.Common.{◌≡◌, ℕ, zero, suc, ◌<◌, Bool, true, false, not, nat_lt, List, [], ◌∷◌, map, length, Option, Some, None, Result, Ok, Err, if◌then◌else◌, refl, sym, subst, arith}
use Rattle.std.specs.Prelude.{slice_index, unwrap_or, position}
use Rattle.std.specs.List.{position_or_len}
use Rattle.std.proofs.lemmas.Bool.{ltb-true}
use Rattle.fx_config.specs.declared.configuration.Config.{Config}
use Rattle.fx_config.specs.declared.configuration.Library.{Library}
use Rattle.fx_config.specs.declared.configuration.Mechanism.{Mechanism}
use Rattle.fx_config.specs.declared.configuration.Mechanism.TheVariants.{Call, Light, Full, Ept}
use Rattle.fx_c_ast.specs.declared.checked.TProgram.{TProgram}
use Rattle.fx_grants.specs.declared.grants.Grants.{Grants}
use Rattle.fx_grants.specs.declared.resolution.GrantError.{GrantError}
use Rattle.fx_grants.specs.declared.resolution.GrantError.TheVariants.{UnknownLibrary, NoCompartment, UnknownEntry, NotOwner, GateNotGranted, NotScheduler}
use Rattle.fx_grants.specs.Homes.{holds_library, home_of, homes_of}
use Rattle.fx_grants.specs.GrantSets.{grants_of, has_common_stacks}
use Rattle.fx_grants.specs.Refusals.{libraries_known, homeless, entries_known, not_owned, not_granted, not_scheduler, unless_found, used, resolved}
use Rattle.fx_shadow.specs.Stacks.{has_halves}
use Rattle.fx_c_mean_model.specs.Programs.{program_of, function_at}
use Rattle.fx_c_mean.specs.Rights.{rights_of}
use Rattle.fx_c_mean_places_law.specs.Laws.{AreOf, ResolvedRightsAreOf}

-- ---- a configuration that is not refused

unfound : (o : Option ℕ) (cause : ℕ → GrantError) (x : Result Grants GrantError) (g : Grants) → unless_found o cause x ≡ Ok g → x ≡ Ok g
unfound None cause x g h = h
unfound (Some n) cause x g h = cc

kept : (b : Bool) (e : GrantError) (x : Result Grants GrantError) (g : Grants) → (if b then x else Err e) ≡ Ok g → x ≡ Ok g
kept true e x g h = h
kept false e x g h = cc

granted : (p : TProgram) (k : Config) (g : Grants) → resolved p k ≡ Ok g → grants_of p k ≡ g
granted p k g h =
    let a = kept (libraries_known p k) UnknownLibrary (unless_found (homeless k) NoCompartment (if entries_known p k then used p k else Err UnknownEntry)) g h in
    let b = unfound (homeless k) NoCompartment (if entries_known p k then used p k else Err UnknownEntry) g a in
    let c = kept (entries_known p k) UnknownEntry (used p k) g b in
    let d = unfound (not_owned p k (homes_of k)) NotOwner (unless_found (not_granted p k (homes_of k)) GateNotGranted (unless_found (not_scheduler p k (homes_of k)) NotScheduler (Ok (grants_of p k)))) g c in
    let e = unfound (not_granted p k (homes_of k)) GateNotGranted (unless_found (not_scheduler p k (homes_of k)) NotScheduler (Ok (grants_of p k))) g d in
    let last = unfound (not_scheduler p k (homes_of k)) NotScheduler (Ok (grants_of p k)) g e in
    cc

-- ---- what it says of stacks and compartments

own_stacks : (m : Mechanism) → not (has_common_stacks m) ≡ has_halves m
own_stacks Call = refl
own_stacks Light = refl
own_stacks Full = refl
own_stacks Ept = refl

place_within : (b : Bool) (i n : ℕ) → nat_lt i n ≡ b → 0 < n → unwrap_or (if b then Some i else None) 0 < n
place_within true i n e some = ltb-true i n e
place_within false i n e some = some

home_within : (k : Config) (name : List ℕ) → 0 < length k.compartments → home_of k name < length k.compartments
home_within k name some =
    let place = position_or_len (holds_library name) k.compartments in
    place_within (nat_lt place (length k.compartments)) place (length k.compartments) refl some

all_within : (k : Config) (libraries : List Library) (i : ℕ) → 0 < length k.compartments → slice_index (map (λ (l : Library). home_of k l.name) libraries) i < length k.compartments
all_within k [] i some = some
all_within k (l ∷ libraries) zero some = home_within k l.name some
all_within k (l ∷ libraries) (suc i) some = all_within k libraries i some

of_grants : (p : TProgram) (k : Config) → 0 < length k.compartments → AreOf (program_of p) k (rights_of (grants_of p k))
of_grants p k some = record {
  stacks = own_stacks k.mechanism;
  pages = refl;
  homes = λ f. all_within k k.libraries (function_at (program_of p) f).library some;
}

pub rights_are_of : ResolvedRightsAreOf
rights_are_of p k g some h = subst (λ (x : Grants). AreOf (program_of p) k (rights_of x)) (granted p k g h) (of_grants p k some)
