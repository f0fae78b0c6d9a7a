use Rattle.fx_c_types_texts_law.proofs.Written.{few_strings}
use Rattle.fx_c_types_texts_law.proofs.strings_take_bytes.Goals as goal

pub returns : goal.returns
returns c = few_strings
