use Rattle.fx_c_types_texts_law.proofs.Numbers.{numbers_few}
use Rattle.fx_c_types_texts_law.proofs.checked_numbers_are_few.Goals as goal

pub returns : goal.returns
returns c = numbers_few
