use Rattle.std.proofs.Common.{◌++◌, ◌∷◌, [], ◌*◌}
use Rattle.std.specs.Prelude.{codes}
use Rattle.std.specs.Fmt.{decimal}
use Rattle.fx_cmd_base.specs.Hex.{hex}
use Rattle.fx_cmd_show.specs.Words.{member_words}
use Rattle.fx_cmd_show.specs.Lines.{section_line}
use Rattle.fx_cmd_show.proofs.Chains.{put, ended}
use Rattle.fx_cmd_show.proofs.tables.put_section.Goals as goal

pub returns : goal.returns
unfolding section_line
returns c =
    let r13 = 10 ∷ [] in
    let r12 = member_words c.args.comps.now c.args.section.now.writers ++ r13 in
    let r11 = codes ", writers" ++ r12 in
    let r10 = member_words c.args.comps.now c.args.section.now.readers ++ r11 in
    let r9 = codes ", readers" ++ r10 in
    let r8 = decimal c.args.section.now.key ++ r9 in
    let r7 = codes " pages, key " ++ r8 in
    let r6 = decimal c.args.section.now.pages ++ r7 in
    let r5 = codes " " ++ r6 in
    let r4 = hex (4096 * c.args.section.now.page) ++ r5 in
    let r3 = codes " " ++ r4 in
    let r2 = decimal c.args.number ++ r3 in
    ended c.end_line.result c.put_members-2.new.text c.end_line.new.self r13 c.args.text.now (section_line c.args.comps.now c.args.number c.args.section.now) c.end_line.ensures (λ last.
    put c.args.text.now c.put_words.new.self (codes "section ") r2 c.end_line.new.self c.in_ok-put_words.ensures (
    put c.put_words.new.self c.put_decimal.new.self (decimal c.args.number) r3 c.end_line.new.self c.in_ok-put_decimal.ensures (
    put c.put_decimal.new.self c.put_words-2.new.self (codes " ") r4 c.end_line.new.self c.in_ok-put_words-2.ensures (
    put c.put_words-2.new.self c.put_page.new.text (hex (4096 * c.args.section.now.page)) r5 c.end_line.new.self c.in_ok-put_page.ensures (
    put c.put_page.new.text c.put_words-3.new.self (codes " ") r6 c.end_line.new.self c.in_ok-put_words-3.ensures (
    put c.put_words-3.new.self c.put_decimal-2.new.self (decimal c.args.section.now.pages) r7 c.end_line.new.self c.in_ok-put_decimal-2.ensures (
    put c.put_decimal-2.new.self c.put_words-4.new.self (codes " pages, key ") r8 c.end_line.new.self c.in_ok-put_words-4.ensures (
    put c.put_words-4.new.self c.put_decimal-3.new.self (decimal c.args.section.now.key) r9 c.end_line.new.self c.in_ok-put_decimal-3.ensures (
    put c.put_decimal-3.new.self c.put_words-5.new.self (codes ", readers") r10 c.end_line.new.self c.in_ok-put_words-5.ensures (
    put c.put_words-5.new.self c.put_members.new.text (member_words c.args.comps.now c.args.section.now.readers) r11 c.end_line.new.self c.in_ok-put_members.ensures (
    put c.put_members.new.text c.put_words-6.new.self (codes ", writers") r12 c.end_line.new.self c.in_ok-put_words-6.ensures (
    put c.put_words-6.new.self c.put_members-2.new.text (member_words c.args.comps.now c.args.section.now.writers) r13 c.end_line.new.self c.in_ok-put_members-2.ensures (
    last)))))))))))))
