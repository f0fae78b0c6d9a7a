use Rattle.std.proofs.Common.{◌++◌, ◌∷◌, [], ◌+◌, slice_get}
use Rattle.std.specs.Prelude.{codes}
use Rattle.std.specs.Fmt.{decimal}
use Rattle.fx_image.specs.Layout.{code_start}
use Rattle.fx_cmd_base.specs.Hex.{hex}
use Rattle.fx_cmd_show.specs.Words.{name_of}
use Rattle.fx_cmd_show.specs.Lines.{stub_line}
use Rattle.fx_cmd_show.proofs.Chains.{put, ended}
use Rattle.fx_cmd_show.proofs.tables.put_stub.Goals as goal

pub returns : goal.returns
unfolding stub_line
returns c =
    let r13 = 10 ∷ [] in
    let r12 = hex (code_start + c.args.stub.now.second) ++ r13 in
    let r11 = codes " and " ++ r12 in
    let r10 = hex (code_start + c.args.stub.now.first) ++ r11 in
    let r9 = codes ", wrpkru " ++ r10 in
    let r8 = name_of (slice_get c.args.comps.now c.args.stub.now.to) ++ r9 in
    let r7 = codes " of " ++ r8 in
    let r6 = decimal c.args.stub.now.entry ++ r7 in
    let r5 = codes " to entry " ++ r6 in
    let r4 = name_of (slice_get c.args.comps.now c.args.stub.now.from) ++ r5 in
    let r3 = codes " from " ++ r4 in
    let r2 = hex (code_start + c.args.stub.now.offset) ++ r3 in
    ended c.end_line.result c.put_place-3.new.text c.end_line.new.self r13 c.args.text.now (stub_line c.args.comps.now c.args.stub.now) c.end_line.ensures (λ last.
    put c.args.text.now c.put_words.new.self (codes "stub ") r2 c.end_line.new.self c.in_ok-put_words.ensures (
    put c.put_words.new.self c.put_place.new.text (hex (code_start + c.args.stub.now.offset)) r3 c.end_line.new.self c.in_ok-put_place.ensures (
    put c.put_place.new.text c.put_words-2.new.self (codes " from ") r4 c.end_line.new.self c.in_ok-put_words-2.ensures (
    put c.put_words-2.new.self c.put_name.new.text (name_of (slice_get c.args.comps.now c.args.stub.now.from)) r5 c.end_line.new.self c.in_ok-put_name.ensures (
    put c.put_name.new.text c.put_words-3.new.self (codes " to entry ") r6 c.end_line.new.self c.in_ok-put_words-3.ensures (
    put c.put_words-3.new.self c.put_decimal.new.self (decimal c.args.stub.now.entry) r7 c.end_line.new.self c.in_ok-put_decimal.ensures (
    put c.put_decimal.new.self c.put_words-4.new.self (codes " of ") r8 c.end_line.new.self c.in_ok-put_words-4.ensures (
    put c.put_words-4.new.self c.put_name-2.new.text (name_of (slice_get c.args.comps.now c.args.stub.now.to)) r9 c.end_line.new.self c.in_ok-put_name-2.ensures (
    put c.put_name-2.new.text c.put_words-5.new.self (codes ", wrpkru ") r10 c.end_line.new.self c.in_ok-put_words-5.ensures (
    put c.put_words-5.new.self c.put_place-2.new.text (hex (code_start + c.args.stub.now.first)) r11 c.end_line.new.self c.in_ok-put_place-2.ensures (
    put c.put_place-2.new.text c.put_words-6.new.self (codes " and ") r12 c.end_line.new.self c.in_ok-put_words-6.ensures (
    put c.put_words-6.new.self c.put_place-3.new.text (hex (code_start + c.args.stub.now.second)) r13 c.end_line.new.self c.in_ok-put_place-3.ensures (
    last)))))))))))))
