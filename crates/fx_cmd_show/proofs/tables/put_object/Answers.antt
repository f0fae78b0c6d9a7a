use Rattle.std.proofs.Common.{◌++◌, ◌∷◌, [], length}
use Rattle.std.specs.Prelude.{codes}
use Rattle.std.specs.Fmt.{decimal}
use Rattle.fx_cmd_base.specs.Hex.{hex}
use Rattle.fx_cmd_show.specs.Lines.{object_line}
use Rattle.fx_cmd_show.proofs.Chains.{put, ended}
use Rattle.fx_cmd_show.proofs.tables.put_object.Goals as goal

pub returns : goal.returns
unfolding object_line
returns c =
    let r12 = 10 ∷ [] in
    let r11 = codes " bytes" ++ r12 in
    let r10 = decimal (length c.args.object.now.initial) ++ r11 in
    let r9 = codes ", initial " ++ r10 in
    let r8 = c.args.object.now.name ++ r9 in
    let r7 = codes ", " ++ r8 in
    let r6 = decimal c.args.object.now.section ++ r7 in
    let r5 = codes " bytes in section " ++ r6 in
    let r4 = decimal c.args.object.now.size ++ r5 in
    let r3 = codes " " ++ r4 in
    let r2 = hex c.args.object.now.address ++ r3 in
    ended c.end_line.result c.put_words-6.new.self c.end_line.new.self r12 c.args.text.now (object_line c.args.object.now) c.end_line.ensures (λ last.
    put c.args.text.now c.put_words.new.self (codes "object ") r2 c.end_line.new.self c.in_ok-put_words.ensures (
    put c.put_words.new.self c.put_address.new.self (hex c.args.object.now.address) r3 c.end_line.new.self c.in_ok-put_address.ensures (
    put c.put_address.new.self c.put_words-2.new.self (codes " ") r4 c.end_line.new.self c.in_ok-put_words-2.ensures (
    put c.put_words-2.new.self c.put_decimal.new.self (decimal c.args.object.now.size) r5 c.end_line.new.self c.in_ok-put_decimal.ensures (
    put c.put_decimal.new.self c.put_words-3.new.self (codes " bytes in section ") r6 c.end_line.new.self c.in_ok-put_words-3.ensures (
    put c.put_words-3.new.self c.put_decimal-2.new.self (decimal c.args.object.now.section) r7 c.end_line.new.self c.in_ok-put_decimal-2.ensures (
    put c.put_decimal-2.new.self c.put_words-4.new.self (codes ", ") r8 c.end_line.new.self c.in_ok-put_words-4.ensures (
    put c.put_words-4.new.self c.put_name.new.self (c.args.object.now.name) r9 c.end_line.new.self c.in_ok-put_name.ensures (
    put c.put_name.new.self c.put_words-5.new.self (codes ", initial ") r10 c.end_line.new.self c.in_ok-put_words-5.ensures (
    put c.put_words-5.new.self c.put_length.new.self (decimal (length c.args.object.now.initial)) r11 c.end_line.new.self c.in_ok-put_length.ensures (
    put c.put_length.new.self c.put_words-6.new.self (codes " bytes") r12 c.end_line.new.self c.in_ok-put_words-6.ensures (
    last))))))))))))
