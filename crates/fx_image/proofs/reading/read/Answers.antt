use Rattle.std.proofs.Common.{ap, subst, ◌∙◌, arith}
use Rattle.fx_image.specs.Reading.{Gives, image_at}
use Rattle.fx_image.proofs.ImageLaws.{is_found, image_again}
use Rattle.fx_image.proofs.reading.read.Goals as goal

pub returns-clause-found : goal.returns-clause-found
returns-clause-found c = is_found c.args.bytes.now c.read_all.result (λ i. omega (arith, c.type_inv.bytes i)) c.read_all.ensures

pub returns-clause-only : goal.returns-clause-only
returns-clause-only c = λ i fits is. subst (λ f. Gives (λ x. x) c.read_all.result f) (ap image_at is.spelled ∙ image_again i fits is.rules) c.read_all.ensures
