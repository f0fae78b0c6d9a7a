-- What a program that is granted and placed has.
use Rattle.std.proofs.Common.{◌≡◌, ℕ, Bool, true, false, length, Option, Some, None, Result, Ok, Err, if◌then◌else◌, sym, ap, ◌∙◌}
use Rattle.std.proofs.lemmas.List.{length-map}
use Rattle.fx_config.specs.declared.configuration.Config.{Config}
use Rattle.fx_c_ast.specs.declared.checked.TProgram.{TProgram}
use Rattle.fx_grants.specs.declared.grants.Grants.{Grants}
use Rattle.fx_grants.specs.declared.resolution.GrantError.{GrantError}
use Rattle.fx_grants.specs.declared.resolution.GrantError.TheVariants.{UnknownLibrary, NoCompartment, UnknownEntry, NotOwner, GateNotGranted, NotScheduler}
use Rattle.fx_grants.specs.Homes.{homes_of}
use Rattle.fx_grants.specs.GrantSets.{grants_of, pair_of}
use Rattle.fx_grants.specs.Refusals.{libraries_known, homeless, entries_known, not_owned, not_granted, not_scheduler, unless_found, used, resolved}
use Rattle.fx_sections.specs.declared.placement.Placement.{Placement}
use Rattle.fx_sections.specs.Placement.{IsPlaceable, placed}
use Rattle.fx_sections_law.proofs.Bounds.{placement_is}
use Rattle.fx_sections_law.proofs.Table.{addresses_are}
use Rattle.fx_cmd_place.specs.Placing.{IsReady}

-- what isn't refused has no cause for it
past : (found : Option ℕ) (cause : ℕ → GrantError) (r : Result Grants GrantError) (g : Grants) → unless_found found cause r ≡ Ok g → r ≡ Ok g
past None cause r g is = is
past (Some n) cause r g is = absurd cc

passed : (b : Bool) (e : GrantError) (r : Result Grants GrantError) (g : Grants) → (if b then r else Err e) ≡ Ok g → r ≡ Ok g
passed true e r g is = is
passed false e r g is = absurd cc

grants_are : (p : TProgram) (k : Config) (g : Grants) → resolved p k ≡ Ok g → grants_of p k ≡ g
grants_are p k g is =
    let known = passed (libraries_known p k) UnknownLibrary (unless_found (homeless k) NoCompartment (if entries_known p k then used p k else Err UnknownEntry)) g is in
    let housed = past (homeless k) NoCompartment (if entries_known p k then used p k else Err UnknownEntry) g known in
    let entered = passed (entries_known p k) UnknownEntry (used p k) g housed in
    let owned = past (not_owned p k (homes_of k)) NotOwner (unless_found (not_granted p k (homes_of k)) GateNotGranted (unless_found (not_scheduler p k (homes_of k)) NotScheduler (Ok (grants_of p k)))) g entered in
    let gated = past (not_granted p k (homes_of k)) GateNotGranted (unless_found (not_scheduler p k (homes_of k)) NotScheduler (Ok (grants_of p k))) g owned in
    let scheduled : ◌≡◌ {A = Result Grants GrantError} (Ok (grants_of p k)) (Ok g) = past (not_scheduler p k (homes_of k)) NotScheduler (Ok (grants_of p k)) g gated in
    cc

pub placeable : (p : TProgram) (k : Config) (g : Grants) → IsReady p k → resolved p k ≡ Ok g → IsPlaceable p g k
placeable p k g ready is = record {
  structs = ready.structs;
  globals = ready.globals;
  same = sym (ap (λ (x : Grants). length x.globals) (grants_are p k g is)) ∙ length-map p.globals (pair_of k (homes_of k));
  compartments = ready.compartments;
  objects = ready.objects;
  texts = ready.texts;
}

pub address_each : (p : TProgram) (g : Grants) (k : Config) (at : Placement) → IsPlaceable p g k → placed p g k ≡ Ok at → length at.globals ≡ length p.globals
address_each p g k at has is = sym (ap (λ (x : Placement). length x.globals) (placement_is p g k at is)) ∙ addresses_are p g k has
