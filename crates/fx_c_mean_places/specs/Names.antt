-- What a place of an image stands for in the source, as a run of the source ends denied.
use Rattle.std.specs.Prelude.{◌≡◌, ℕ, ◌+◌, Bool, List, [], Some}
use Rattle.fx_outcomes.specs.Runs.{Stops}
use Rattle.fx_config.specs.declared.configuration.Config.{Config}
use Rattle.fx_image.specs.declared.find.Found.{Found}
use Rattle.fx_image.specs.declared.forms.Image.{Image}
use Rattle.fx_image.specs.Layout.{object_at}
use Rattle.fx_sections.specs.declared.placement.Placement.{Placement}
use Rattle.fx_c_mean_model.specs.declared.end.End.TheVariants.{Denied}
use Rattle.fx_c_mean_model.specs.declared.rights.Rights.{Rights}
use Rattle.fx_c_mean_model.specs.Programs.{Program}
use Rattle.fx_c_mean_model.specs.Steps.{step}
use Rattle.fx_c_mean_model.specs.Expected.{state_at}
use Rattle.fx_c_mean_places.specs.Places.{address_of}

-- An offset of an object of the source, by its number, is what lies at a place of the image: the run with these
-- answers ends with the denial of that byte of it, and the place is that of the address where the object then stands,
-- so many bytes on. (The answer of a device is looked at by loads of devices alone, which are never denied.)
pub record Names (p : Program) (r : Rights) (k : Config) (at : Placement) (image : Image) (answers : List ℕ) (found : Found) (object offset : ℕ) : Type 0 where
  pub steps : ℕ
  pub compartment : ℕ
  pub write : Bool
  pub ends : step p r 0 (state_at p r answers steps)
      ≡ Stops [] (Denied compartment object offset write)
  pub address : ℕ
  pub stands : address_of p r k at (state_at p r answers steps) object ≡ Some address
  pub there : object_at image (address + offset) ≡ found
