-- An image that was built and written, and why none was.
use Rattle.std.specs.Prelude.{◌≡◌, ℕ, List, Option, Some}
use Rattle.fx_base.specs.Told.{Told}
use Rattle.fx_base.specs.Files.{Held, SameFiles, SameElsewhere}
use Rattle.fx_early_image.specs.Layout.{early_image}
use Rattle.fx_early_image.specs.Faithful.{EarlyFaithful}
use Rattle.fx_image.specs.Rules.{IsImage}
use Rattle.fx_image.specs.Spelling.{image_spelling}
use Rattle.fx_image.specs.declared.forms.Image.{Image}
use Rattle.fx_cmd_base.specs.Words.{ExecGiven}
use Rattle.fx_cmd_load.specs.Reading.{HasContent}
use Rattle.fx_cmd_exec.specs.declared.unbuilt.Unbuilt.{Unbuilt}
use Rattle.fx_cmd_exec.specs.declared.unbuilt.Unbuilt.TheVariants.{Other, FileFault, OutOfMemory}
use Rattle.fx_cmd_exec.specs.declared.unbuilt.Other.TheVariants as other
use Rattle.fx_cmd_exec.specs.declared.unbuilt.Which.TheVariants as which
use Rattle.fx_cmd_exec.specs.Causes.{HasProgram, WritingFault, ConfigCause, SourceCause, early_document}

-- The image is that of the source and the configuration read: it meets the field rules, and it is faithful
-- to the source's program.
pub record Builds (config : List ℕ) (held : Option Held) (constants : List ℕ) (image : Image) : Type 0 where
  pub configured : HasContent held config early_document
  pub program : HasProgram held constants
  pub value : image ≡ early_image constants
  pub rules : IsImage image
  pub faithful : EarlyFaithful constants image

-- The image's spelling stands under the name, and every other file is as it was.
pub record Writes (name : List ℕ) (image : Image) (held after : Option Held) : Type 0 where
  pub written : Told (λ old new. new name ≡ Some (image_spelling image)) held after
  pub others : Told (SameElsewhere name) held after

-- Why no image of constant output was written, by what was held and the count of faults before and after. No file was changed
-- but by a writing that failed.
abbrev pub WhyUnbuilt : ExecGiven → Option Held → Option Held → ℕ → ℕ → Unbuilt → Type 0
WhyUnbuilt given held after before now (Other other.Config) = ConfigCause given.config held before now (Other other.Config) × Told SameFiles held after
WhyUnbuilt given held after before now (Other other.Source) =
    HasContent held given.config early_document × SourceCause held before now (Other other.Source) × Told SameFiles held after
WhyUnbuilt given held after before now (FileFault which.Config error) = ConfigCause given.config held before now (FileFault which.Config error) × Told SameFiles held after
WhyUnbuilt given held after before now (FileFault which.Source error) =
    HasContent held given.config early_document × SourceCause held before now (FileFault which.Source error) × Told SameFiles held after
WhyUnbuilt given held after before now (FileFault which.Image error) =
    HasContent held given.config early_document × (constants : List ℕ) × HasProgram held constants × WritingFault before now error × Told (SameElsewhere given.run.image) held after
WhyUnbuilt given held after before now OutOfMemory = Told (SameElsewhere given.run.image) held after
