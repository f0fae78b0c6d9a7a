-- What the places of the source's objects mean.
use Rattle.std.specs.Prelude.{◌≡◌, ◌≢◌, ℕ, ◌+◌, ◌<◌, ◌≤◌, ◌⊎◌, true, List, length, slice_get, Some}
use Rattle.std.specs.Prelude.{Ok}
use Rattle.fx_config.specs.declared.configuration.Config.{Config}
use Rattle.fx_image.specs.declared.find.Found.{Found}
use Rattle.fx_image.specs.declared.forms.Image.{Image}
use Rattle.fx_c_ast.specs.declared.checked.TProgram.{TProgram}
use Rattle.fx_grants.specs.declared.grants.Grants.{Grants}
use Rattle.fx_grants.specs.Refusals.{resolved}
use Rattle.fx_shadow.specs.Stacks.{has_halves}
use Rattle.fx_sections.specs.declared.placement.Placement.{Placement}
use Rattle.fx_sections.specs.Placement.{IsPlaceable, placed}
use Rattle.fx_c_mean_blocks.specs.declared.block.Object.{Object}
use Rattle.fx_c_mean_model.specs.declared.rights.Rights.{Rights}
use Rattle.fx_c_mean_model.specs.Programs.{Program, program_of}
use Rattle.fx_c_mean_model.specs.Rights.{home}
use Rattle.fx_c_mean_model.specs.States.{Call, Spot, Does, Stuck}
use Rattle.fx_c_mean_model.specs.Steps.{Waiting, State}
use Rattle.fx_c_mean_model.specs.Expected.{state_at}
use Rattle.fx_c_mean.specs.Rights.{rights_of}
use Rattle.fx_c_mean_places.specs.Places.{address_of}
use Rattle.fx_c_mean_places.specs.Names.{Names}

-- a program that a configuration places so
pub record IsPlacedAt (p : TProgram) (g : Grants) (k : Config) (at : Placement) : Type 0 where
  pub placeable : IsPlaceable p g k
  pub placed_at : placed p g k ≡ Ok at

-- rights that put each function into a compartment of a configuration, with its stacks
pub record AreOf (p : Program) (k : Config) (r : Rights) : Type 0 where
  pub stacks : r.own_stacks ≡ has_halves k.mechanism
  pub pages : r.stack_pages ≡ k.stack_pages
  pub homes : (f : ℕ) → home p r f < length k.compartments

-- a step follows at a spot; no program that the checker accepts comes to another
abbrev pub IsGoing : Spot → Type 0
IsGoing (Does Stuck rest) = ⊥
IsGoing (Does act rest) = Unit {0}

-- a step follows in each thread
pub record AllGoOn (s : State) : Type 0 where
  pub here : IsGoing s.spot
  pub there : (t : ℕ) (spot : Spot) (call : Call) → slice_get s.threads t ≡ Some (Waiting spot call)
      → IsGoing spot

-- ---- addresses

-- so many bytes from an address and so many from another have none in common
abbrev pub AreApart : (a m b n : ℕ) → Type 0
AreApart a m b n = (a + m ≤ b) ⊎ (b + n ≤ a)

-- each live object of a state of a run stands somewhere
abbrev pub LiveObjectsStand : Type 0
LiveObjectsStand =
    (p : TProgram) (g : Grants) (k : Config) (at : Placement) → IsPlacedAt p g k at
    → (r : Rights) (answers : List ℕ) (steps : ℕ)
    → AllGoOn (state_at (program_of p) r answers steps)
    → (i : ℕ) (o : Object) → slice_get (state_at (program_of p) r answers steps).memory i ≡ Some o
    → o.live ≡ true
    → (a : ℕ)
    × (address_of (program_of p) r k at (state_at (program_of p) r answers steps) i ≡ Some a)

-- two objects of a state of a run that stand somewhere have no byte in common
abbrev pub ObjectsStandApart : Type 0
ObjectsStandApart =
    (p : TProgram) (g : Grants) (k : Config) (at : Placement) → IsPlacedAt p g k at
    → (r : Rights) → AreOf (program_of p) k r → (answers : List ℕ) (steps i j : ℕ) → i ≢ j
    → (o u : Object) (a b : ℕ)
    → slice_get (state_at (program_of p) r answers steps).memory i ≡ Some o
    → slice_get (state_at (program_of p) r answers steps).memory j ≡ Some u
    → address_of (program_of p) r k at (state_at (program_of p) r answers steps) i ≡ Some a
    → address_of (program_of p) r k at (state_at (program_of p) r answers steps) j ≡ Some b
    → AreApart a o.size b u.size

-- an address is that of one byte of one object
abbrev pub BytesHaveOneAddress : Type 0
BytesHaveOneAddress =
    (p : TProgram) (g : Grants) (k : Config) (at : Placement) → IsPlacedAt p g k at
    → (r : Rights) → AreOf (program_of p) k r
    → (answers : List ℕ) (steps i j m n : ℕ) (o u : Object) (a b : ℕ)
    → slice_get (state_at (program_of p) r answers steps).memory i ≡ Some o
    → slice_get (state_at (program_of p) r answers steps).memory j ≡ Some u
    → address_of (program_of p) r k at (state_at (program_of p) r answers steps) i ≡ Some a
    → address_of (program_of p) r k at (state_at (program_of p) r answers steps) j ≡ Some b
    → m < o.size → n < u.size → a + m ≡ b + n → (i ≡ j) × (m ≡ n)

-- the rights of a resolved configuration are its own
abbrev pub ResolvedRightsAreOf : Type 0
ResolvedRightsAreOf =
    (p : TProgram) (k : Config) (g : Grants) → 0 < length k.compartments → resolved p k ≡ Ok g
    → AreOf (program_of p) k (rights_of g)

-- ---- names

-- for one run, at most one place of an image is named, and it stands for one byte of one object
abbrev pub NamesAreOne : Type 0
NamesAreOne =
    (p : Program) (r : Rights) (k : Config) (at : Placement) (image : Image) (answers : List ℕ)
    (found other : Found) (object offset that byte : ℕ)
    → Names p r k at image answers found object offset
    → Names p r k at image answers other that byte
    → (found ≡ other) × (object ≡ that) × (offset ≡ byte)
