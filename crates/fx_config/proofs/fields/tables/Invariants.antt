use Rattle.std.proofs.Common.{map}
use Rattle.toml.specs.View.{view, table_view}
use Rattle.fx_config.specs.Document.{table_of}
use Rattle.fx_config.proofs.Loops.{ReadTo}
use Rattle.fx_config.proofs.fields.tables.Given as goal

abbrev pub invariant-loop-element : goal.invariant-loop-element
invariant-loop-element l = ReadTo (λ v. table_of (view v)) l.values l.element-index (map (λ t. table_view t.now) l.found.items)
