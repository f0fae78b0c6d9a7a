use Rattle.std.proofs.Common.{◌++◌, ◌∷◌, [], ◌+◌}
use Rattle.std.specs.Prelude.{codes}
use Rattle.std.specs.Fmt.{decimal}
use Rattle.fx_image.specs.Layout.{code_start}
use Rattle.fx_cmd_base.specs.Hex.{hex}
use Rattle.fx_cmd_show.specs.Lines.{compartment_line, keyed_rights}
use Rattle.fx_cmd_show.proofs.Chains.{put, ended}
use Rattle.fx_cmd_show.proofs.tables.put_compartment.Goals as goal

pub returns : goal.returns
unfolding compartment_line
returns c =
    let r11 = 10 ∷ [] in
    let r10 = keyed_rights c.args.mechanism c.args.comp.now.pkru ++ r11 in
    let r9 = codes " bytes" ++ r10 in
    let r8 = decimal c.args.comp.now.len ++ r9 in
    let r7 = codes " " ++ r8 in
    let r6 = hex (code_start + c.args.comp.now.start) ++ r7 in
    let r5 = codes ", code " ++ r6 in
    let r4 = c.args.comp.now.name ++ r5 in
    let r3 = codes " " ++ r4 in
    let r2 = decimal c.args.number ++ r3 in
    ended c.end_line.result c.put_keyed_rights.new.text c.end_line.new.self r11 c.args.text.now (compartment_line c.args.mechanism c.args.number c.args.comp.now) c.end_line.ensures (λ last.
    put c.args.text.now c.put_words.new.self (codes "compartment ") r2 c.end_line.new.self c.in_ok-put_words.ensures (
    put c.put_words.new.self c.put_decimal.new.self (decimal c.args.number) r3 c.end_line.new.self c.in_ok-put_decimal.ensures (
    put c.put_decimal.new.self c.put_words-2.new.self (codes " ") r4 c.end_line.new.self c.in_ok-put_words-2.ensures (
    put c.put_words-2.new.self c.put_name.new.self (c.args.comp.now.name) r5 c.end_line.new.self c.in_ok-put_name.ensures (
    put c.put_name.new.self c.put_words-3.new.self (codes ", code ") r6 c.end_line.new.self c.in_ok-put_words-3.ensures (
    put c.put_words-3.new.self c.put_place.new.text (hex (code_start + c.args.comp.now.start)) r7 c.end_line.new.self c.in_ok-put_place.ensures (
    put c.put_place.new.text c.put_words-4.new.self (codes " ") r8 c.end_line.new.self c.in_ok-put_words-4.ensures (
    put c.put_words-4.new.self c.put_decimal-2.new.self (decimal c.args.comp.now.len) r9 c.end_line.new.self c.in_ok-put_decimal-2.ensures (
    put c.put_decimal-2.new.self c.put_words-5.new.self (codes " bytes") r10 c.end_line.new.self c.in_ok-put_words-5.ensures (
    put c.put_words-5.new.self c.put_keyed_rights.new.text (keyed_rights c.args.mechanism c.args.comp.now.pkru) r11 c.end_line.new.self c.in_ok-put_keyed_rights.ensures (
    last)))))))))))
