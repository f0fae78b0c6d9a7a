-- The rights of a resolved configuration, access by access.
use Rattle.std.proofs.Common.{◌≡◌, ℕ, zero, suc, ◌<◌, Bool, true, false, ◌||◌, nat_eq, List, [], ◌∷◌, map, length, slice_get, Option, Some, None, Result, Ok, Err, if◌then◌else◌, refl, sym, ap, subst, ◌∙◌, arith}
use Rattle.std.specs.Prelude.{replicate, slice_index, slice_index_or, option_map, unwrap_or}
use Rattle.std.proofs.lemmas.Option.{slice_get-map}
use Rattle.std.proofs.lemmas.Bool.{eq-eqb, eqb-true}
use Rattle.std.proofs.lemmas.Nat.Bits.{bit_at-zero}
use Rattle.fx_config.specs.declared.configuration.Config.{Config}
use Rattle.fx_config.specs.declared.configuration.Mechanism.{Mechanism}
use Rattle.fx_config.specs.declared.configuration.Mechanism.TheVariants.{Call, Light, Full, Ept}
use Rattle.fx_c_ast.specs.declared.checked.TLocal.{TLocal}
use Rattle.fx_c_ast.specs.declared.checked.TFunction.{TFunction}
use Rattle.fx_c_ast.specs.declared.checked.TProgram.{TProgram}
use Rattle.fx_c_ast.specs.CheckedTrees.{TyTree, struct_types}
use Rattle.fx_grants.specs.declared.grants.Pair.{Pair}
use Rattle.fx_grants.specs.declared.grants.FunctionGrants.{FunctionGrants}
use Rattle.fx_grants.specs.declared.grants.Grants.{Grants}
use Rattle.fx_grants.specs.declared.resolution.GrantError.{GrantError}
use Rattle.fx_grants.specs.declared.resolution.GrantError.TheVariants.{UnknownLibrary, NoCompartment, UnknownEntry, NotOwner, GateNotGranted, NotScheduler}
use Rattle.fx_grants.specs.Sets.{has_member, only, all_of}
use Rattle.fx_grants.specs.Homes.{homes_of}
use Rattle.fx_grants.specs.GrantSets.{pair_of, function_grants, grants_of, merged_of, has_common_stacks, global_set, local_set, may_of}
use Rattle.fx_grants.specs.Refusals.{libraries_known, homeless, entries_known, not_owned, not_granted, not_scheduler, unless_found, used, resolved}
use Rattle.fx_grants.proofs.Members.{has_member-only, has_member-all_of}
use Rattle.fx_c_mean_blocks.specs.declared.block.Place.{Place}
use Rattle.fx_c_mean_blocks.specs.declared.block.Place.TheVariants.{Global, Literal, Local}
use Rattle.fx_c_mean_model.specs.Programs.{Function, variable_of, function_of, program_of, no_function, function_at}
use Rattle.fx_c_mean_model.specs.Rights.{may, no_variable}
use Rattle.fx_c_mean.specs.Rights.{rights_of}
use Rattle.fx_c_mean.specs.Laws.{place_of}
use Rattle.fx_c_mean_rights_law.specs.Laws.{AreMerged, IsOfProgram, RightsAreGrants}

-- ---- one compartment

first_home : (n i : ℕ) → slice_index (replicate n 0) i ≡ 0
first_home zero i = refl
first_home (suc n) zero = refl
first_home (suc n) (suc i) = first_home n i

pub merged : (p : TProgram) (k : Config) → AreMerged (program_of p) (rights_of (merged_of p k))
merged p k = record {
  plain = refl;
  homes = λ f g. first_home (length k.libraries) (function_at (program_of p) f).library ∙ sym (first_home (length k.libraries) (function_at (program_of p) g).library);
}

-- ---- a configuration that is not refused

unfound : (o : Option ℕ) (cause : ℕ → GrantError) (x : Result Grants GrantError) (g : Grants) → unless_found o cause x ≡ Ok g → x ≡ Ok g
unfound None cause x g h = h
unfound (Some n) cause x g h = cc

kept : (b : Bool) (e : GrantError) (x : Result Grants GrantError) (g : Grants) → (if b then x else Err e) ≡ Ok g → x ≡ Ok g
kept true e x g h = h
kept false e x g h = cc

granted : (p : TProgram) (k : Config) (g : Grants) → resolved p k ≡ Ok g → grants_of p k ≡ g
granted p k g h =
    let a = kept (libraries_known p k) UnknownLibrary (unless_found (homeless k) NoCompartment (if entries_known p k then used p k else Err UnknownEntry)) g h in
    let b = unfound (homeless k) NoCompartment (if entries_known p k then used p k else Err UnknownEntry) g a in
    let c = kept (entries_known p k) UnknownEntry (used p k) g b in
    let d = unfound (not_owned p k (homes_of k)) NotOwner (unless_found (not_granted p k (homes_of k)) GateNotGranted (unless_found (not_scheduler p k (homes_of k)) NotScheduler (Ok (grants_of p k)))) g c in
    let e = unfound (not_granted p k (homes_of k)) GateNotGranted (unless_found (not_scheduler p k (homes_of k)) NotScheduler (Ok (grants_of p k))) g d in
    let last = unfound (not_scheduler p k (homes_of k)) NotScheduler (Ok (grants_of p k)) g e in
    cc

-- ---- globals

writers : (all : List Pair) (n : ℕ) → slice_index (map (λ (x : Pair). x.writers) all) n ≡ global_set (slice_get all n) true
writers [] n = refl
writers (x ∷ all) zero = refl
writers (x ∷ all) (suc n) = writers all n

readers : (all : List Pair) (n : ℕ) → slice_index (map (λ (x : Pair). x.readers) all) n ≡ global_set (slice_get all n) false
readers [] n = refl
readers (x ∷ all) zero = refl
readers (x ∷ all) (suc n) = readers all n

-- ---- locals

found : (all : List TFunction) (f : ℕ) → f < length all → (g : TFunction) × (slice_get all f ≡ Some g)
found [] f less = absurd (omega arith)
found (g ∷ all) zero less = (g, refl)
found (g ∷ all) (suc f) less = found all f (omega arith)

function_is : (structs : List (List TyTree)) (all : List TFunction) (f : ℕ) (g : TFunction) → slice_get all f ≡ Some g → slice_index_or (map (function_of structs) all) f no_function ≡ function_of structs g
function_is structs [] f g h = cc
function_is structs (x ∷ all) zero g h = let same : x ≡ g = cc in ap (function_of structs) same
function_is structs (x ∷ all) (suc f) g h = function_is structs all f g h

shared_is : (all : List TLocal) (n : ℕ) → (slice_index_or (map variable_of all) n no_variable).shared ≡ unwrap_or (slice_get (map (λ (l : TLocal). l.shared) all) n) false
shared_is [] n = refl
shared_is (x ∷ all) zero = refl
shared_is (x ∷ all) (suc n) = shared_is all n

swapped : (b : Bool) (m n : ℕ) → nat_eq m n ≡ b → nat_eq n m ≡ b
swapped true m n h = eq-eqb n m (sym (eqb-true m n h))
swapped false m n h = grind (arith, h)

-- of a local that is shared or not, of a function of compartment h
own_local : (shared : Bool) (n h c : ℕ) → c < n → shared || nat_eq c h ≡ has_member (if shared then all_of n else only h) c
own_local true n h c less = sym (has_member-all_of n c less)
own_local false n h c less = swapped (nat_eq h c) h c refl ∙ sym (has_member-only h c)

module _ (p : TProgram) (k : Config) (c : ℕ) (less : c < length k.compartments) where
  -- the grants, were the mechanism this one
  abbrev by : Mechanism → Grants
  by m = record (grants_of p k) { mechanism = m }

  abbrev pairs : List Pair
  pairs = map (pair_of k (homes_of k)) p.globals

  abbrev of : TFunction → FunctionGrants
  of g = function_grants (homes_of k) g

  abbrev Same : Mechanism → Place → Bool → Type 0
  Same m place write = may (program_of p) (rights_of (by m)) c place write ≡ may_of (by m) c (place_of place) write

  function_granted : (f : ℕ) (g : TFunction) → slice_get p.functions f ≡ Some g → slice_get (map of p.functions) f ≡ Some (of g)
  function_granted f g h = slice_get-map of p.functions f ∙ ap (option_map of) h

  everyone : has_member (all_of (length k.compartments)) c ≡ true
  everyone = has_member-all_of (length k.compartments) c less

  nobody : false ≡ has_member 0 c
  nobody = sym (ap (λ n. nat_eq n 1) (bit_at-zero c))

  -- where threads have one stack
  common_local : (f local : ℕ) (g : TFunction) → slice_get p.functions f ≡ Some g → true ≡ has_member (local_set (by Light) (slice_get (map of p.functions) f) local) c
  common_local f local g h = sym everyone ∙ ap (λ o. has_member (local_set (by Light) o local) c) (sym (function_granted f g h))

  -- where compartments have stacks of their own
  own_set : (m : Mechanism) (f local : ℕ) (g : TFunction) → has_common_stacks m ≡ false → slice_get p.functions f ≡ Some g
      → (slice_index_or (function_at (program_of p) f).variables local no_variable).shared || nat_eq c (slice_index (homes_of k) (function_at (program_of p) f).library) ≡ has_member (local_set (by m) (slice_get (map of p.functions) f) local) c
  own_set m f local g own h =
      let shared = unwrap_or (slice_get (of g).shared local) false in
      let at = function_is (struct_types p.structs) p.functions f g h in
      let named : (slice_index_or (function_at (program_of p) f).variables local no_variable).shared ≡ shared = ap (λ (x : Function). (slice_index_or x.variables local no_variable).shared) at ∙ shared_is g.locals local in
      let home_is : slice_index (homes_of k) (function_at (program_of p) f).library ≡ (of g).compartment = ap (λ (x : Function). slice_index (homes_of k) x.library) at in
      ap (λ b. b || nat_eq c (slice_index (homes_of k) (function_at (program_of p) f).library)) named
      ∙ ap (λ n. shared || nat_eq c n) home_is
      ∙ own_local shared (length k.compartments) (of g).compartment c less
      ∙ ap (λ b. has_member (if b || shared then all_of (length k.compartments) else only (of g).compartment) c) (sym own)
      ∙ ap (λ o. has_member (local_set (by m) o local) c) (sym (function_granted f g h))

  local : (m : Mechanism) (f n : ℕ) (g : TFunction) → slice_get p.functions f ≡ Some g → (write : Bool) → Same m (Local f n) write
  local Call f n g h true = refl
  local Call f n g h false = refl
  local Light f n g h true = common_local f n g h
  local Light f n g h false = common_local f n g h
  local Full f n g h true = own_set Full f n g refl h
  local Full f n g h false = own_set Full f n g refl h
  local Ept f n g h true = own_set Ept f n g refl h
  local Ept f n g h false = own_set Ept f n g refl h

  same : (m : Mechanism) (place : Place) → IsOfProgram p place → (write : Bool) → Same m place write
  same Call (Global n) there true = refl
  same Call (Global n) there false = refl
  same Call (Literal n) there true = refl
  same Call (Literal n) there false = refl
  same Light (Global n) there true = ap (λ s. has_member s c) (writers pairs n)
  same Light (Global n) there false = ap (λ s. has_member s c) (readers pairs n)
  same Light (Literal n) there true = nobody
  same Light (Literal n) there false = sym everyone
  same Full (Global n) there true = ap (λ s. has_member s c) (writers pairs n)
  same Full (Global n) there false = ap (λ s. has_member s c) (readers pairs n)
  same Full (Literal n) there true = nobody
  same Full (Literal n) there false = sym everyone
  same Ept (Global n) there true = ap (λ s. has_member s c) (writers pairs n)
  same Ept (Global n) there false = ap (λ s. has_member s c) (readers pairs n)
  same Ept (Literal n) there true = nobody
  same Ept (Literal n) there false = sym everyone
  same m (Local f n) there write = let (g, h) = found p.functions f there in local m f n g h write

pub rights_are_grants : RightsAreGrants
rights_are_grants p k g h c less place there write =
    let is = granted p k g h in
    let few : c < length k.compartments = subst (λ (x : Grants). c < x.compartments) (sym is) less in
    subst (λ (x : Grants). may (program_of p) (rights_of x) c place write ≡ may_of x c (place_of place) write) is (same p k c few k.mechanism place there write)
