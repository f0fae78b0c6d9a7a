use Rattle.std.proofs.Common.{◌++◌}
use Rattle.std.specs.Prelude.{codes}
use Rattle.fx_cmd_show.specs.Words.{hex_8, read_words, written_words}
use Rattle.fx_cmd_show.specs.Lines.{rights_words}
use Rattle.fx_cmd_show.proofs.Chains.{put, ended}
use Rattle.fx_cmd_show.proofs.lines.put_rights.Goals as goal

pub returns : goal.returns
unfolding rights_words
returns c =
    let r6 = written_words c.args.pkru in
    let r5 = codes ", writes keys" ++ r6 in
    let r4 = read_words c.args.pkru ++ r5 in
    let r3 = codes ", reads keys" ++ r4 in
    let r2 = hex_8 c.args.pkru ++ r3 in
    ended c.put_written_keys.result c.put_words-3.new.self c.put_written_keys.new.text r6 c.args.text.now (rights_words c.args.pkru) c.put_written_keys.ensures (λ last.
    put c.args.text.now c.put_words.new.self (codes ", pkru ") r2 c.put_written_keys.new.text c.in_ok-put_words.ensures (
    put c.put_words.new.self c.put_value.new.self (hex_8 c.args.pkru) r3 c.put_written_keys.new.text c.in_ok-put_value.ensures (
    put c.put_value.new.self c.put_words-2.new.self (codes ", reads keys") r4 c.put_written_keys.new.text c.in_ok-put_words-2.ensures (
    put c.put_words-2.new.self c.put_read_keys.new.text (read_words c.args.pkru) r5 c.put_written_keys.new.text c.in_ok-put_read_keys.ensures (
    put c.put_read_keys.new.text c.put_words-3.new.self (codes ", writes keys") r6 c.put_written_keys.new.text c.in_ok-put_words-3.ensures (
    last))))))
