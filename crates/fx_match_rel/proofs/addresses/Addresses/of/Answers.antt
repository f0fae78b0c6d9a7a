use Rattle.std.proofs.Common.{sym, ◌∙◌, subst}
use Rattle.std.specs.Prelude.{All}
use Rattle.fx_match_rel.specs.Frames.{IsFrame}
use Rattle.fx_match_rel.proofs.Slots.{frames_near}
use Rattle.fx_match_rel.proofs.addresses.Addresses.of.Goals as goal

pub returns-clause-frames : goal.returns-clause-frames
returns-clause-frames c =
    subst (All IsFrame) (sym (c.from_vec-4.ensures ∙ c.in_ok-frames.ensures)) (frames_near c.args.p.now.structs c.args.p.now.functions c.requires.program.functions)
