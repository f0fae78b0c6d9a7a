use Rattle.std.proofs.Common.{◌++◌, ◌∷◌, [], slice_get}
use Rattle.std.specs.Prelude.{codes}
use Rattle.std.specs.Fmt.{decimal}
use Rattle.fx_cmd_base.specs.Hex.{hex}
use Rattle.fx_cmd_show.specs.Words.{name_of, member_words}
use Rattle.fx_cmd_show.specs.Lines.{entry_line, entry_address, range_start}
use Rattle.fx_cmd_show.proofs.Chains.{put, ended}
use Rattle.fx_cmd_show.proofs.tables.put_entry.Goals as goal

pub returns : goal.returns
unfolding entry_line
returns c =
    let r11 = 10 ∷ [] in
    let r10 = member_words c.args.comps.now c.args.entry.now.callers ++ r11 in
    let r9 = codes ", callers" ++ r10 in
    let r8 = c.args.entry.now.name ++ r9 in
    let r7 = codes ", " ++ r8 in
    let r6 = name_of (slice_get c.args.comps.now c.args.entry.now.compartment) ++ r7 in
    let r5 = codes " of " ++ r6 in
    let r4 = decimal c.args.entry.now.number ++ r5 in
    let r3 = codes " " ++ r4 in
    let r2 = hex (entry_address (range_start (slice_get c.args.comps.now c.args.entry.now.compartment)) c.args.entry.now.number) ++ r3 in
    ended c.end_line.result c.put_members.new.text c.end_line.new.self r11 c.args.text.now (entry_line c.args.comps.now c.args.entry.now) c.end_line.ensures (λ last.
    put c.args.text.now c.put_words.new.self (codes "entry ") r2 c.end_line.new.self c.in_ok-put_words.ensures (
    put c.put_words.new.self c.put_entry_address.new.text (hex (entry_address (range_start (slice_get c.args.comps.now c.args.entry.now.compartment)) c.args.entry.now.number)) r3 c.end_line.new.self c.in_ok-put_entry_address.ensures (
    put c.put_entry_address.new.text c.put_words-2.new.self (codes " ") r4 c.end_line.new.self c.in_ok-put_words-2.ensures (
    put c.put_words-2.new.self c.put_decimal.new.self (decimal c.args.entry.now.number) r5 c.end_line.new.self c.in_ok-put_decimal.ensures (
    put c.put_decimal.new.self c.put_words-3.new.self (codes " of ") r6 c.end_line.new.self c.in_ok-put_words-3.ensures (
    put c.put_words-3.new.self c.put_name.new.text (name_of (slice_get c.args.comps.now c.args.entry.now.compartment)) r7 c.end_line.new.self c.in_ok-put_name.ensures (
    put c.put_name.new.text c.put_words-4.new.self (codes ", ") r8 c.end_line.new.self c.in_ok-put_words-4.ensures (
    put c.put_words-4.new.self c.put_name-2.new.self (c.args.entry.now.name) r9 c.end_line.new.self c.in_ok-put_name-2.ensures (
    put c.put_name-2.new.self c.put_words-5.new.self (codes ", callers") r10 c.end_line.new.self c.in_ok-put_words-5.ensures (
    put c.put_words-5.new.self c.put_members.new.text (member_words c.args.comps.now c.args.entry.now.callers) r11 c.end_line.new.self c.in_ok-put_members.ensures (
    last)))))))))))
