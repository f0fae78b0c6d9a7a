use Rattle.std.specs.Prelude.{ℕ, ◌≡◌, List}
use Rattle.fx_image.specs.Rules.{IsImage}
use Rattle.fx_image.specs.Spelling.{image_spelling}
use Rattle.fx_image.specs.declared.forms.Image.{Image}

-- The bytes are those of this image, and the image meets the rules.
pub record ImageBytes (i : Image) (bytes : List ℕ) : Type 0 where
  pub rules : IsImage i
  pub spelled : bytes ≡ image_spelling i
