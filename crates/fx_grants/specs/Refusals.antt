-- Why a configuration is refused for a program: kind by kind in this order, and within a kind the
-- first in program order.
use Rattle.std.specs.Prelude.{ℕ, Bool, true, false, not, ◌&&◌, ◌==◌, List, [], ◌∷◌, bytes_eq, slice_get, Option, Some, None, is_none, position, Result, Ok, Err, if◌then◌else◌}
use Rattle.std.specs.List.{list_any, list_all, position_from}
use Rattle.fx_config.specs.declared.configuration.Config.{Config}
use Rattle.fx_config.specs.declared.configuration.Compartment.{Compartment}
use Rattle.fx_config.specs.declared.configuration.Library.{Library}
use Rattle.fx_c_ast.specs.declared.checked.TGlobal.{TGlobal}
use Rattle.fx_c_ast.specs.declared.checked.TFunction.{TFunction}
use Rattle.fx_c_ast.specs.declared.checked.TProgram.{TProgram}
use Rattle.fx_c_ast.specs.declared.parsed.Grant.{Grant}
use Rattle.fx_c_ast.specs.declared.parsed.Grant.TheVariants.{Private, Libraries, All}
use Rattle.fx_c_ast.specs.CheckedTrees.{tstmt_trees}
use Rattle.fx_grants.specs.declared.uses.Use.{Use}
use Rattle.fx_grants.specs.declared.uses.Use.TheVariants.{Device, Gate, Thread}
use Rattle.fx_grants.specs.declared.resolution.GrantError.{GrantError}
use Rattle.fx_grants.specs.declared.resolution.GrantError.TheVariants.{UnknownLibrary, NoCompartment, UnknownEntry, NotOwner, GateNotGranted, NotScheduler}
use Rattle.fx_grants.specs.declared.grants.Grants.{Grants}
use Rattle.fx_grants.specs.Uses.{stmts_uses}
use Rattle.fx_grants.specs.Homes.{compartment_of, homes_of, home_at, owner_of}
use Rattle.fx_grants.specs.GrantSets.{grants_of}

-- ---- libraries

abbrev pub is_library : Config → List ℕ → Bool
is_library k name = list_any (λ (l : Library). bytes_eq l.name name) k.libraries

abbrev pub annotation_known : Config → Grant → Bool
annotation_known k Private = true
annotation_known k (Libraries names) = list_all (is_library k) names
annotation_known k All = true

abbrev pub annotations_known : Config → TGlobal → Bool
annotations_known k g = annotation_known k g.grant && annotation_known k g.readers

-- each library that a compartment or an annotation names is in the configuration
abbrev pub libraries_known : TProgram → Config → Bool
libraries_known p k =
    list_all (λ (c : Compartment). list_all (is_library k) c.libraries) k.compartments && list_all (annotations_known k) p.globals

-- the first library in no compartment
abbrev pub homeless : Config → Option ℕ
homeless k = position (λ (l : Library). is_none (compartment_of k l.name)) k.libraries

-- ---- entries

abbrev pub is_entry : TProgram → List ℕ → Bool
is_entry p name = list_any (λ (f : TFunction). f.entry && bytes_eq f.name name) p.functions

-- a list of calls, where there is one, names entry functions alone
abbrev pub calls_known : TProgram → Option (List (List ℕ)) → Bool
calls_known p None = true
calls_known p (Some names) = list_all (is_entry p) names

abbrev pub entries_known : TProgram → Config → Bool
entries_known p k = list_all (λ (c : Compartment). calls_known p c.calls) k.compartments

-- ---- uses

abbrev pub function_uses : TFunction → List Use
function_uses f = stmts_uses (tstmt_trees f.body.items)

abbrev pub or_else : Option ℕ → Option ℕ → Option ℕ
or_else (Some n) r = Some n
or_else None r = r

abbrev pub first_some : {A : Type 0} → (A → Option ℕ) → List A → Option ℕ
first_some f [] = None
first_some f (x ∷ xs) = or_else (f x) (first_some f xs)

-- the device of an operation whose compartment does not own it
abbrev pub foreign : Config → ℕ → Use → Option ℕ
foreign k home (Device d) = if owner_of k d == home then None else Some d
foreign k home (Gate f) = None
foreign k home Thread = None

-- the first such operation of a function, where these are the libraries' compartments
abbrev pub foreign_device : Config → List ℕ → TFunction → Option ℕ
foreign_device k homes f = first_some (foreign k (home_at homes f.library)) (function_uses f)

-- and of the program
abbrev pub not_owned : TProgram → Config → List ℕ → Option ℕ
not_owned p k homes = first_some (foreign_device k homes) p.functions

-- whether a list of calls, where there is one, has the entry of this name
abbrev pub calls_have : Option (List (List ℕ)) → List ℕ → Bool
calls_have None name = true
calls_have (Some names) name = list_any (λ call. bytes_eq call name) names

abbrev pub is_granted : Option Compartment → List ℕ → Bool
is_granted None name = true
is_granted (Some c) name = calls_have c.calls name

-- a gate from a compartment to an entry of another one that its calls do not name
abbrev pub leads_to : Config → List ℕ → ℕ → Option TFunction → Bool
leads_to k homes home None = false
leads_to k homes home (Some f) = not (home_at homes f.library == home) && not (is_granted (slice_get k.compartments home) f.name)

abbrev pub is_refused_gate : TProgram → Config → List ℕ → ℕ → Use → Bool
is_refused_gate p k homes home (Device d) = false
is_refused_gate p k homes home (Gate f) = leads_to k homes home (slice_get p.functions f)
is_refused_gate p k homes home Thread = false

abbrev pub holds_refused_gate : TProgram → Config → List ℕ → TFunction → Bool
holds_refused_gate p k homes f = list_any (is_refused_gate p k homes (home_at homes f.library)) (function_uses f)

-- the first function with such a gate
abbrev pub not_granted : TProgram → Config → List ℕ → Option ℕ
not_granted p k homes = position_from (holds_refused_gate p k homes) 0 p.functions

abbrev pub is_thread : Use → Bool
is_thread (Device d) = false
is_thread (Gate f) = false
is_thread Thread = true

-- whether a function outside the scheduler's compartment holds an operation of the scheduler
abbrev pub schedules_outside : Config → List ℕ → TFunction → Bool
schedules_outside k homes f = not (home_at homes f.library == k.scheduler) && list_any is_thread (function_uses f)

-- the first such function
abbrev pub not_scheduler : TProgram → Config → List ℕ → Option ℕ
not_scheduler p k homes = position_from (schedules_outside k homes) 0 p.functions

-- ---- all of them

-- refused with the number found, if there is one
abbrev pub unless_found : Option ℕ → (ℕ → GrantError) → Result Grants GrantError → Result Grants GrantError
unless_found None cause r = r
unless_found (Some n) cause r = Err (cause n)

-- what a configuration grants in a program, or the first refusal for what its functions use
abbrev pub used : TProgram → Config → Result Grants GrantError
used p k =
    unless_found (not_owned p k (homes_of k)) NotOwner (
    unless_found (not_granted p k (homes_of k)) GateNotGranted (
    unless_found (not_scheduler p k (homes_of k)) NotScheduler (
    Ok (grants_of p k))))

-- what a configuration grants in a program, or the first refusal
abbrev pub resolved : TProgram → Config → Result Grants GrantError
resolved p k =
    if libraries_known p k then
    unless_found (homeless k) NoCompartment (if entries_known p k then used p k else Err UnknownEntry)
    else Err UnknownLibrary
