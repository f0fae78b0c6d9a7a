use Rattle.std.proofs.Common.{◌+◌, ◌-◌, ◌%◌, ◌≤◌, ◌<◌, refl, length, drop, sym, ap, ◌∙◌, arith}
use Rattle.fx_x64_code.specs.Decoded.{decoded}
use Rattle.fx_machine_model.specs.Layout.{page_entry}
use Rattle.fx_machine_model.specs.declared.fetched.Fetched.TheVariants.{Found}
use Rattle.fx_machine_model.proofs.Pages.{fits}
use Rattle.fx_machine.specs.Memory.{memory_of}
use Rattle.fx_machine.proofs.Lines.{holds_code, line_found, line_mapped, found_from}
use Rattle.fx_machine.proofs.fetch.fetch_line.Goals as goal

pub returns-in-None-clause-value : goal.returns-in-None-clause-value
returns-in-None-clause-value c =
    let image = c.args.image.now in
    let rip = c.args.r.now.rip in
    let at = rip - 0x400000 in
    let f = fits image c.requires.whole in
    let long = c.len.ensures in
    let lt : at < length c.args.code.now.lines.items = omega arith in
    let is = found_from (decoded (drop at image.code)) c.in-Spelled.inst c.in-Spelled.length (sym (c.requires.decoded.each at c.index.result.now lt) ∙ sym c.index.ensures ∙ c.in-Spelled.is) in
    let size = c.from.ensures in
    let fit : rip % 4096 + c.in-Spelled.length ≤ 4096 = omega arith in
    let from : 0x400000 ≤ rip = omega arith in
    λ memory.
    line_found image (page_entry image c.args.vcpu) c.args.r.now.pkru (memory_of image memory) rip c.in-Spelled.inst c.in-Spelled.length f (holds_code image memory f) from is fit (sym c.check_byte.ensures.value ∙ c.in-None.is)
    ∙ ap (Found c.in-Spelled.inst) (sym size)

pub returns-then-not-is_ept-clause-value : goal.returns-then-not-is_ept-clause-value
returns-then-not-is_ept-clause-value c =
    let image = c.args.image.now in
    let rip = c.args.r.now.rip in
    let at = rip - 0x400000 in
    let f = fits image c.requires.whole in
    let long = c.len.ensures in
    let lt : at < length c.args.code.now.lines.items = omega arith in
    let is = found_from (decoded (drop at image.code)) c.in-Spelled.inst c.in-Spelled.length (sym (c.requires.decoded.each at c.index.result.now lt) ∙ sym c.index.ensures ∙ c.in-Spelled.is) in
    let size = c.from.ensures in
    let from : 0x400000 ≤ rip = omega arith in
    λ memory.
    line_mapped image c.args.vcpu c.args.r.now.pkru (memory_of image memory) rip c.in-Spelled.inst c.in-Spelled.length f (holds_code image memory f) from is (sym c.if-not-is_ept.ensures)
    ∙ ap (Found c.in-Spelled.inst) (sym size)
