use Rattle.fx_image.proofs.ImageLaws.{one_spelled, one_image}
use Rattle.fx_image.proofs.reading.one_spelling.Goals as goal

pub returns : goal.returns
returns c = record { spelling = one_spelled; image = one_image }
