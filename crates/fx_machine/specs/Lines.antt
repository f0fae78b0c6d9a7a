-- The instructions of the code, decoded.
use Rattle.std.specs.Prelude.{ℕ, ◌≡◌, ◌<◌, length, drop, Option, Some, None, slice_index_or}
use Rattle.fx_x64_forms.specs.declared.inst.Inst.{Inst}
use Rattle.fx_x64_code.specs.Decoded.{decoded}
use Rattle.fx_image.specs.declared.forms.Image.{Image}
use Rattle.fx_machine.specs.declared.code.Code.{Code}
use Rattle.fx_machine.specs.declared.code.Line.{Line}
use Rattle.fx_machine.specs.declared.code.Line.TheVariants.{Spelled, Unspelled}

-- The line of some bytes: the instruction that begins them, with its length, if one does.
abbrev pub line_from : Option (Inst × ℕ) → Line
line_from None = Unspelled
line_from (Some found) = Spelled found.0 found.1

-- A line for each byte of the code, of the bytes from there on.
pub record IsDecoded (image : Image) (code : Code) : Type 0 where
  pub each : (k : ℕ) (d : Line) → k < length code.lines.items → slice_index_or code.lines.items k d ≡ line_from (decoded (drop k image.code))
