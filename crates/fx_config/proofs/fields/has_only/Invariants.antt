use Rattle.std.proofs.Common.{◌≡◌, map, bytes_eq, string_bytes}
use Rattle.std.specs.List.{list_all, list_any}
use Rattle.toml.specs.View.{table_view}
use Rattle.fx_config.specs.Reading.{has_only}
use Rattle.fx_config.proofs.fields.has_only.Given as goal

abbrev pub invariant-loop-key : goal.invariant-loop-key
invariant-loop-key l = has_only (map (λ f. f.now) l.fields) (table_view l.fn.table) ≡ list_all (λ key. list_any (λ field. bytes_eq field key) (map (λ f. f.now) l.fields)) (map string_bytes l.key-iterator)
