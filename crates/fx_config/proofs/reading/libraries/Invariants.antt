use Rattle.toml.specs.View.{table_view}
use Rattle.fx_config.specs.Reading.{library_of}
use Rattle.fx_config.proofs.Loops.{ReadTo}
use Rattle.fx_config.proofs.reading.libraries.Given as goal

abbrev pub invariant-loop-table : goal.invariant-loop-table
invariant-loop-table l = ReadTo (λ t. library_of (table_view t.now)) l.tables l.table-index l.libraries.items
