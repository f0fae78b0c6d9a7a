use Rattle.std.proofs.Common.{[], ◌∷◌}
use Rattle.fx_cmd_single.specs.Streams.{Reads, LostOne}
use Rattle.fx_cmd_single.proofs.Telling.{told_map, lost_one}
use Rattle.fx_cmd_single.proofs.step.take_input.Goals as goal

pub returns-in-OutOfMemory-clause-ends : goal.returns-in-OutOfMemory-clause-ends
returns-in-OutOfMemory-clause-ends g c =
    (c.in-OutOfMemory.ensures.gave, told_map (Reads (c.in-Some.answer ∷ [])) LostOne (lost_one c.in-Some.answer) (g.I.Source.left c.args.input.now) (g.I.Source.left c.next_input.new.input) c.in-Some.ensures.given)

pub returns-in-Went-clause-goes : goal.returns-in-Went-clause-goes
returns-in-Went-clause-goes g c = (c.in-Some.answer, c.in-Went.ensures.gave, c.in-Some.ensures.given)
