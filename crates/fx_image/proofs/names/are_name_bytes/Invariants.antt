use Rattle.std.proofs.Common.{◌≡◌, ◌||◌, drop, eqb}
use Rattle.std.specs.List.{list_all}
use Rattle.std.specs.Char.{is_ascii_alphanumeric}
use Rattle.fx_image.proofs.names.are_name_bytes.Given as goal

abbrev pub invariant-loop-b : goal.invariant-loop-b
invariant-loop-b l = list_all (λ d. is_ascii_alphanumeric d || eqb d 95) (drop l.b-index l.bytes) ≡ list_all (λ d. is_ascii_alphanumeric d || eqb d 95) l.bytes
