use Rattle.std.proofs.Common.{◌++◌, ◌∷◌, []}
use Rattle.std.specs.Prelude.{codes}
use Rattle.std.specs.Fmt.{decimal}
use Rattle.fx_cmd_show.specs.Lines.{version_line}
use Rattle.fx_cmd_show.proofs.Chains.{put, ended}
use Rattle.fx_cmd_show.proofs.lines.put_version.Goals as goal

pub returns : goal.returns
unfolding version_line
returns c =
    let r3 = 10 ∷ [] in
    let r2 = decimal c.args.version ++ r3 in
    ended c.end_line.result c.put_decimal.new.self c.end_line.new.self r3 c.args.text.now (version_line c.args.version) c.end_line.ensures (λ last.
    put c.args.text.now c.put_words.new.self (codes "FlexOS image, version ") r2 c.end_line.new.self c.in_ok-put_words.ensures (
    put c.put_words.new.self c.put_decimal.new.self (decimal c.args.version) r3 c.end_line.new.self c.in_ok-put_decimal.ensures (
    last)))
