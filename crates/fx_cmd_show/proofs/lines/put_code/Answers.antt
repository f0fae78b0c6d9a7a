use Rattle.std.proofs.Common.{◌++◌, ◌∷◌, [], ◌+◌, length}
use Rattle.std.specs.Prelude.{codes}
use Rattle.std.specs.Fmt.{decimal}
use Rattle.fx_image.specs.Layout.{code_start}
use Rattle.fx_cmd_base.specs.Hex.{hex}
use Rattle.fx_cmd_show.specs.Lines.{code_line}
use Rattle.fx_cmd_show.proofs.Chains.{put, ended}
use Rattle.fx_cmd_show.proofs.lines.put_code.Goals as goal

pub returns : goal.returns
unfolding code_line
returns c =
    let r7 = 10 ∷ [] in
    let r6 = hex (code_start + c.args.image.now.abort) ++ r7 in
    let r5 = codes " bytes, abort stub " ++ r6 in
    let r4 = decimal (length c.args.image.now.code) ++ r5 in
    let r3 = codes " " ++ r4 in
    let r2 = hex code_start ++ r3 in
    ended c.end_line.result c.put_place.new.text c.end_line.new.self r7 c.args.text.now (code_line c.args.image.now) c.end_line.ensures (λ last.
    put c.args.text.now c.put_words.new.self (codes "code ") r2 c.end_line.new.self c.in_ok-put_words.ensures (
    put c.put_words.new.self c.put_address.new.self (hex code_start) r3 c.end_line.new.self c.in_ok-put_address.ensures (
    put c.put_address.new.self c.put_words-2.new.self (codes " ") r4 c.end_line.new.self c.in_ok-put_words-2.ensures (
    put c.put_words-2.new.self c.put_length.new.self (decimal (length c.args.image.now.code)) r5 c.end_line.new.self c.in_ok-put_length.ensures (
    put c.put_length.new.self c.put_words-3.new.self (codes " bytes, abort stub ") r6 c.end_line.new.self c.in_ok-put_words-3.ensures (
    put c.put_words-3.new.self c.put_place.new.text (hex (code_start + c.args.image.now.abort)) r7 c.end_line.new.self c.in_ok-put_place.ensures (
    last)))))))
