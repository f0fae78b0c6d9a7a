use Rattle.std.proofs.Common.{◌≡◌, drop}
use Rattle.std.specs.Str.{bytes_eq}
use Rattle.std.specs.List.{list_any}
use Rattle.fx_linker.proofs.tables.is_named.Given as goal

abbrev pub invariant-loop-call : goal.invariant-loop-call
invariant-loop-call l = list_any (λ call. bytes_eq call l.name) (drop l.call-index l.call-items) ≡ list_any (λ call. bytes_eq call l.name) l.call-items
