use Rattle.std.proofs.Common.{◌++◌, ◌∷◌, []}
use Rattle.std.specs.Prelude.{codes}
use Rattle.std.specs.Fmt.{decimal}
use Rattle.fx_cmd_base.specs.Hex.{hex}
use Rattle.fx_cmd_show.specs.Lines.{start_line}
use Rattle.fx_cmd_show.proofs.Chains.{put, ended}
use Rattle.fx_cmd_show.proofs.tables.put_start.Goals as goal

pub returns : goal.returns
unfolding start_line
returns c =
    let r7 = 10 ∷ [] in
    let r6 = hex c.args.start.now.rsp ++ r7 in
    let r5 = codes ", rsp " ++ r6 in
    let r4 = hex c.args.start.now.rip ++ r5 in
    let r3 = codes ", rip " ++ r4 in
    let r2 = decimal c.args.vcpu ++ r3 in
    ended c.end_line.result c.put_address-2.new.self c.end_line.new.self r7 c.args.text.now (start_line c.args.vcpu c.args.start.now) c.end_line.ensures (λ last.
    put c.args.text.now c.put_words.new.self (codes "start of vcpu ") r2 c.end_line.new.self c.in_ok-put_words.ensures (
    put c.put_words.new.self c.put_decimal.new.self (decimal c.args.vcpu) r3 c.end_line.new.self c.in_ok-put_decimal.ensures (
    put c.put_decimal.new.self c.put_words-2.new.self (codes ", rip ") r4 c.end_line.new.self c.in_ok-put_words-2.ensures (
    put c.put_words-2.new.self c.put_address.new.self (hex c.args.start.now.rip) r5 c.end_line.new.self c.in_ok-put_address.ensures (
    put c.put_address.new.self c.put_words-3.new.self (codes ", rsp ") r6 c.end_line.new.self c.in_ok-put_words-3.ensures (
    put c.put_words-3.new.self c.put_address-2.new.self (hex c.args.start.now.rsp) r7 c.end_line.new.self c.in_ok-put_address-2.ensures (
    last)))))))
