-- What is granted, where nothing is refused.
use Rattle.std.proofs.Common.{◌≡◌, ℕ, Bool, true, false, Option, Some, None, Result, Ok, Err}
use Rattle.std.proofs.Common.{if◌then◌else◌}
use Rattle.fx_config.specs.declared.configuration.Config.{Config}
use Rattle.fx_c_ast.specs.declared.checked.TProgram.{TProgram}
use Rattle.fx_grants.specs.declared.grants.Grants.{Grants}
use Rattle.fx_grants.specs.declared.resolution.GrantError.{GrantError}
use Rattle.fx_grants.specs.declared.resolution.GrantError.TheVariants.{UnknownLibrary}
use Rattle.fx_grants.specs.declared.resolution.GrantError.TheVariants.{NoCompartment, UnknownEntry}
use Rattle.fx_grants.specs.declared.resolution.GrantError.TheVariants.{NotOwner, GateNotGranted}
use Rattle.fx_grants.specs.declared.resolution.GrantError.TheVariants.{NotScheduler}
use Rattle.fx_grants.specs.Homes.{homes_of}
use Rattle.fx_grants.specs.GrantSets.{grants_of}
use Rattle.fx_grants.specs.Refusals.{libraries_known, homeless, entries_known, not_owned}
use Rattle.fx_grants.specs.Refusals.{not_granted, not_scheduler, unless_found, used, resolved}

-- what isn't refused has no cause for it
past : (found : Option ℕ) (cause : ℕ → GrantError) (r : Result Grants GrantError) (g : Grants)
    → unless_found found cause r ≡ Ok g → r ≡ Ok g
past None cause r g is = is
past (Some n) cause r g is = absurd cc

passed : (b : Bool) (e : GrantError) (r : Result Grants GrantError) (g : Grants)
    → (if b then r else Err e) ≡ Ok g → r ≡ Ok g
passed true e r g is = is
passed false e r g is = absurd cc

module _ (p : TProgram) (k : Config) where
  abbrev granted : Result Grants GrantError
  granted = Ok (grants_of p k)

  abbrev scheduled : Result Grants GrantError
  scheduled = unless_found (not_scheduler p k (homes_of k)) NotScheduler granted

  abbrev gated : Result Grants GrantError
  gated = unless_found (not_granted p k (homes_of k)) GateNotGranted scheduled

  abbrev entered : Result Grants GrantError
  entered = if entries_known p k then used p k else Err UnknownEntry

  abbrev housed : Result Grants GrantError
  housed = unless_found (homeless k) NoCompartment entered

  pub grants_are : (g : Grants) → resolved p k ≡ Ok g → grants_of p k ≡ g
  grants_are g is =
      let a = passed (libraries_known p k) UnknownLibrary housed g is in
      let b = past (homeless k) NoCompartment entered g a in
      let c = passed (entries_known p k) UnknownEntry (used p k) g b in
      let d = past (not_owned p k (homes_of k)) NotOwner gated g c in
      let e = past (not_granted p k (homes_of k)) GateNotGranted scheduled g d in
      let f : granted ≡ Ok g = past (not_scheduler p k (homes_of k)) NotScheduler granted g e in
      cc
