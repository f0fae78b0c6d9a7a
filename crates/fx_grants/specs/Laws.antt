-- What grants mean, compartment by compartment.
use Rattle.std.specs.Prelude.{◌≡◌, ℕ, ◌<◌, ◌≤◌, Bool, true, false, ◌||◌, ◌==◌, length, HoldsAt}
use Rattle.std.specs.List.{list_any}
use Rattle.fx_config.specs.declared.configuration.Config.{Config}
use Rattle.fx_c_ast.specs.declared.checked.TGlobal.{TGlobal}
use Rattle.fx_c_ast.specs.declared.checked.TLocal.{TLocal}
use Rattle.fx_c_ast.specs.declared.checked.TFunction.{TFunction}
use Rattle.fx_c_ast.specs.declared.checked.TProgram.{TProgram}
use Rattle.fx_c_ast.specs.declared.parsed.Grant.{Grant}
use Rattle.fx_c_ast.specs.declared.parsed.Grant.TheVariants.{Private, Libraries, All}
use Rattle.fx_grants.specs.declared.grants.Place.TheVariants.{Global, Literal, Local}
use Rattle.fx_grants.specs.Homes.{home_of, homes_of, home_at}
use Rattle.fx_grants.specs.GrantSets.{grants_of, denies_nothing, has_common_stacks, may_of}

-- whether an annotation names a library of the compartment, or all
abbrev pub names_compartment : Config → Grant → ℕ → Bool
names_compartment k Private c = false
names_compartment k (Libraries names) c = list_any (λ name. home_of k name == c) names
names_compartment k All c = true

-- A global's writers are its library's compartment with those of __shared.
abbrev pub is_writer : Config → TGlobal → ℕ → Bool
is_writer k g c = home_at (homes_of k) g.library == c || names_compartment k g.grant c

-- Its readers are its writers with those of __read.
abbrev pub is_reader : Config → TGlobal → ℕ → Bool
is_reader k g c = is_writer k g c || names_compartment k g.readers c

-- Both sets of a local are its function's compartment where compartments have stacks of their own and
-- it is not shared, and all compartments else.
abbrev pub is_local_holder : Config → TFunction → TLocal → ℕ → Bool
is_local_holder k f l c = has_common_stacks k.mechanism || l.shared || home_at (homes_of k) f.library == c

-- what a compartment may do to each object, by the rules; under plain calls nothing is denied but a
-- write to a literal
pub record GrantSetsHold (p : TProgram) (k : Config) (c : ℕ) : Type 0 where
  pub write_global : (n : ℕ) → n < length p.globals → HoldsAt (λ (g : TGlobal). may_of (grants_of p k) c (Global n) true ≡ (denies_nothing k.mechanism || is_writer k g c)) p.globals n
  pub read_global : (n : ℕ) → n < length p.globals → HoldsAt (λ (g : TGlobal). may_of (grants_of p k) c (Global n) false ≡ (denies_nothing k.mechanism || is_reader k g c)) p.globals n
  pub write_literal : (n : ℕ) → may_of (grants_of p k) c (Literal n) true ≡ false
  pub read_literal : (n : ℕ) → may_of (grants_of p k) c (Literal n) false ≡ true
  pub touch_local : (f l : ℕ) (write : Bool) → f < length p.functions
      → HoldsAt
      (λ (g : TFunction). l < length g.locals
      → HoldsAt
      (λ (v : TLocal). may_of (grants_of p k) c (Local f l) write
      ≡ (denies_nothing k.mechanism || is_local_holder k g v c))
      g.locals l)
      p.functions f

abbrev pub GrantSets : Type 0
GrantSets = (p : TProgram) (k : Config) (c : ℕ) → c < length k.compartments → length k.compartments ≤ 16 → GrantSetsHold p k c
