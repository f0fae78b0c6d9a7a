use Rattle.std.proofs.Common.{◌≡◌, vec_len}
use Rattle.toml.specs.View.{table_view}
use Rattle.fx_config.specs.Reading.{compartment_of}
use Rattle.fx_config.proofs.Loops.{ReadTo}
use Rattle.fx_config.proofs.reading.compartments.Given as goal

abbrev pub invariant-loop-table : goal.invariant-loop-table
invariant-loop-table l = ReadTo (λ t. compartment_of (table_view t.now)) l.tables l.table-index l.compartments.items × (vec_len l.compartments ≡ l.table-index)
