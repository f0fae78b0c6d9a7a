use Rattle.std.proofs.Common.{arith, sym, subst}
use Rattle.std.specs.List.{All}
use Rattle.fx_match_rel.specs.Frames.{IsFrame}
use Rattle.fx_templates.proofs.Lists.{all_at}
use Rattle.fx_templates.proofs.emitting.enter_code.Goals as goal

pub put_begins-requires : goal.put_begins-requires
put_begins-requires c =
    let all : All IsFrame c.as_slice.result.now = subst (All IsFrame) (sym c.as_slice.ensures) c.requires in
    all_at IsFrame c.as_slice.result.now c.args.cx.now.function c.in-Some.table.now all
    c.in-Some.ensures.lookup.3.0 (c.in-Some.ensures.lookup.4 (omega arith) c.in-Some.table.now)
