use Rattle.fx_c_types_texts_law.proofs.Checked.{literals_written}
use Rattle.fx_c_types_texts_law.proofs.checked_strings_are_written.Goals as goal

pub returns : goal.returns
returns c = literals_written
