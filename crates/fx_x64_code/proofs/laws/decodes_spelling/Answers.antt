use Rattle.fx_x64_code.proofs.Decoding.{decodes_spelling}
use Rattle.fx_x64_code.proofs.laws.decodes_spelling.Goals as goal

pub returns : goal.returns
returns c = decodes_spelling
