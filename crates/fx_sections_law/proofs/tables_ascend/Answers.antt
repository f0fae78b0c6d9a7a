use Rattle.fx_sections_law.proofs.Table.{table_ascends}
use Rattle.fx_sections_law.proofs.tables_ascend.Goals as goal

pub returns : goal.returns
returns c = λ p g k at has is. table_ascends p g k at has is
