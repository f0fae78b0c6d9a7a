-- Calls of functions by their numbers.
use Rattle.std.specs.Prelude.{ℕ, ◌-◌, List, slice_get, Option, Some, None}
use Rattle.fx_x64_forms.specs.declared.operand.Width.{Width}
use Rattle.fx_x64_forms.specs.declared.operand.Width.TheVariants.{W64}
use Rattle.fx_x64_forms.specs.declared.piece.Target.TheVariants.{Function}
use Rattle.fx_x64_forms.specs.declared.piece.Piece.{Piece}
use Rattle.fx_match_rel.specs.declared.addresses.Addresses.{Addresses}
use Rattle.fx_match_rel.specs.declared.frames.Scalar.{Scalar}
use Rattle.fx_match_rel.specs.declared.frames.FrameTable.{FrameTable}
use Rattle.fx_templates_core.specs.Calls.{call_with}

-- how wide a value is held: what is no integer in 64 bits
abbrev pub width_in : Option Scalar → Width
width_in None = W64
width_in (Some s) = s.width

-- A function takes as many arguments as it has parameters; one that isn't there takes none.
abbrev pub params_in : Option FrameTable → ℕ
params_in None = 0
params_in (Some t) = t.params

abbrev pub params_at : Addresses → ℕ → ℕ
params_at a f = params_in (slice_get a.frames f)

abbrev pub result_width_in : Option FrameTable → Width
result_width_in None = W64
result_width_in (Some t) = width_in t.result

abbrev pub result_width_at : Addresses → ℕ → Width
result_width_at a f = result_width_in (slice_get a.frames f)

-- a call of function f, where so many operands are pending
abbrev pub called : Addresses → (locals count f : ℕ) → List Piece
called a locals count f = call_with locals (count - params_at a f) (params_at a f) (Function f)
