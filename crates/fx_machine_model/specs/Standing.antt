-- Code that stands in an image and in memory.
use Rattle.std.specs.Prelude.{◌≡◌, ℕ, ◌+◌, ◌<◌, ◌≤◌, ◌⊎◌, Bool, List, length, None, slice_index}
use Rattle.fx_image.specs.Layout.{code_start}
use Rattle.fx_image.specs.declared.forms.Image.{Image}
use Rattle.fx_machine_model.specs.Layout.{section_entry}

-- Memory holds the image's code.
pub record HoldsCode (image : Image) (memory : ℕ → ℕ) : Type 0 where
  pub code : (k : ℕ) → k < length image.code → memory (code_start + k) ≡ slice_index image.code k

-- These bytes stand in the code at this offset.
pub record StandsAt (code : List ℕ) (offset : ℕ) (bytes : List ℕ) : Type 0 where
  pub room : offset + length bytes ≤ length code
  pub same : (k : ℕ) → k < length bytes → slice_index code (offset + k) ≡ slice_index bytes k

-- The regions of an image don't run into one another.
pub record Fits (image : Image) : Type 0 where
  pub code : length image.code ≤ 0x100000
  pub literals : length image.literals ≤ 0x800000
  pub sections : (ept : Bool) (space page : ℕ) → (page < 0x10000) ⊎ (0x20000 ≤ page) → section_entry ept space page image.sections ≡ None
