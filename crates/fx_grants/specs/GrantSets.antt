-- Who may read and who may write each object of a program (this project's own rules).
use Rattle.std.specs.Prelude.{ℕ, ◌<◌, ◌≤◌, Bool, true, false, not, ◌&&◌, ◌||◌, List, [], map, length, replicate, slice_get, All as Each, Option, Some, None, unwrap_or, if◌then◌else◌}
use Rattle.fx_config.specs.declared.configuration.Config.{Config}
use Rattle.fx_config.specs.declared.configuration.Mechanism.{Mechanism}
use Rattle.fx_config.specs.declared.configuration.Mechanism.TheVariants.{Call, Light, Full, Ept}
use Rattle.fx_c_ast.specs.declared.checked.TGlobal.{TGlobal}
use Rattle.fx_c_ast.specs.declared.checked.TLocal.{TLocal}
use Rattle.fx_c_ast.specs.declared.checked.TFunction.{TFunction}
use Rattle.fx_c_ast.specs.declared.checked.TProgram.{TProgram}
use Rattle.fx_c_ast.specs.declared.parsed.Grant.{Grant}
use Rattle.fx_c_ast.specs.declared.parsed.Grant.TheVariants.{Private, Libraries, All}
use Rattle.fx_grants.specs.declared.grants.Pair.{Pair}
use Rattle.fx_grants.specs.declared.grants.FunctionGrants.{FunctionGrants}
use Rattle.fx_grants.specs.declared.grants.Grants.{Grants}
use Rattle.fx_grants.specs.declared.grants.Place.{Place}
use Rattle.fx_grants.specs.declared.grants.Place.TheVariants.{Global, Literal, Local}
use Rattle.fx_grants.specs.Sets.{has_member, with_members, only, all_of}
use Rattle.fx_grants.specs.Homes.{home_of, homes_of, home_at}

-- a set with the compartments to which an annotation grants
abbrev pub granted : Config → ℕ → Grant → ℕ
granted k set Private = set
granted k set (Libraries names) = with_members set (map (home_of k) names)
granted k set All = all_of (length k.compartments)

-- A global's writers are its library's compartment with those of __shared; its readers are its
-- writers with those of __read.
abbrev pub pair_of : Config → List ℕ → TGlobal → Pair
pair_of k homes g = record {
  readers = granted k (granted k (only (home_at homes g.library)) g.grant) g.readers;
  writers = granted k (only (home_at homes g.library)) g.grant;
}

-- a function's compartment, and which of its parameters and locals are shared
abbrev pub function_grants : List ℕ → TFunction → FunctionGrants
function_grants homes f = record { compartment = home_at homes f.library; shared = map (λ (l : TLocal). l.shared) f.locals }

-- what a configuration grants in a program
abbrev pub grants_of : TProgram → Config → Grants
grants_of p k = record {
  mechanism = k.mechanism;
  stack_pages = k.stack_pages;
  scheduler = k.scheduler;
  compartments = length k.compartments;
  homes = homes_of k;
  globals = map (pair_of k (homes_of k)) p.globals;
  functions = map (function_grants (homes_of k)) p.functions;
}

-- the pair of readers and writers of the set of the first compartment alone, twice
abbrev pub first_pair : Pair
first_pair = record { readers = only 0; writers = only 0 }

-- at most sixteen compartments, and each function is in one of them
pub record HasHomes (g : Grants) : Type 0 where
  pub few : g.compartments ≤ 16
  pub within : Each (λ (f : FunctionGrants). f.compartment < 16) g.functions

-- the grants where one compartment holds all libraries, under plain calls
abbrev pub merged_of : TProgram → Config → Grants
merged_of p k = record {
  mechanism = Call;
  stack_pages = k.stack_pages;
  scheduler = 0;
  compartments = 1;
  homes = replicate (length k.libraries) 0;
  globals = replicate (length p.globals) first_pair;
  functions = map (function_grants []) p.functions;
}

-- whether a compartment may touch other compartments' unannotated locals: stacks are common to all
abbrev pub has_common_stacks : Mechanism → Bool
has_common_stacks Call = true
has_common_stacks Light = true
has_common_stacks Full = false
has_common_stacks Ept = false

abbrev pub denies_nothing : Mechanism → Bool
denies_nothing Call = true
denies_nothing Light = false
denies_nothing Full = false
denies_nothing Ept = false

abbrev pub is_literal : Place → Bool
is_literal (Global n) = false
is_literal (Literal n) = true
is_literal (Local f l) = false

abbrev pub global_set : Option Pair → Bool → ℕ
global_set None write = 0
global_set (Some pair) write = if write then pair.writers else pair.readers

-- both sets of a parameter or a local
abbrev pub local_set : Grants → Option FunctionGrants → ℕ → ℕ
local_set g None local = 0
local_set g (Some f) local =
    if has_common_stacks g.mechanism || unwrap_or (slice_get f.shared local) false then all_of g.compartments else only f.compartment

-- the compartments that may write an object, or read it; no object's where there is none of its number
abbrev pub set_of : Grants → Place → Bool → ℕ
set_of g (Global n) write = global_set (slice_get g.globals n) write
set_of g (Literal n) write = if write then 0 else all_of g.compartments
set_of g (Local f l) write = local_set g (slice_get g.functions f) l

-- Whether a compartment may write an object, or read it. Under plain calls nothing is denied but a
-- write to a literal.
abbrev pub may_of : Grants → ℕ → Place → Bool → Bool
may_of g c object write =
    if denies_nothing g.mechanism then not (write && is_literal object) else has_member (set_of g object write) c
