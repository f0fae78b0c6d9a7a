use Rattle.std.proofs.Common.{◌∙◌, sym, ap, arith}
use Rattle.std.proofs.Math.Path.{fun_ext}
use Rattle.fx_x64_forms.specs.declared.operand.Width.TheVariants.{W8, W16, W32, W64}
use Rattle.fx_cpu.specs.Memory.{stored}
use Rattle.fx_cpu.specs.Flat.{bytes_of}
use Rattle.fx_cpu.proofs.FlatLemmas.{stored_written}
use Rattle.fx_machine.proofs.memory.put_word.Goals as goal

pub returns-in-W8-clause-bytes : goal.returns-in-W8-clause-bytes
returns-in-W8-clause-bytes c =
    let old = bytes_of c.args.bytes.now.items in
    c.write_region.ensures.bytes ∙ fun_ext (λ k. stored_written old W8 c.args.at c.args.value k (omega arith)) ∙ ap (λ w. stored old w c.args.at c.args.value) (sym c.in-W8.is)

pub returns-in-W16-clause-bytes : goal.returns-in-W16-clause-bytes
returns-in-W16-clause-bytes c =
    let old = bytes_of c.args.bytes.now.items in
    c.write_region-in-W16.ensures.bytes ∙ fun_ext (λ k. stored_written old W16 c.args.at c.args.value k (omega arith)) ∙ ap (λ w. stored old w c.args.at c.args.value) (sym c.in-W16.is)

pub returns-in-W32-clause-bytes : goal.returns-in-W32-clause-bytes
returns-in-W32-clause-bytes c =
    let old = bytes_of c.args.bytes.now.items in
    c.write_region-in-W32.ensures.bytes ∙ fun_ext (λ k. stored_written old W32 c.args.at c.args.value k (omega arith)) ∙ ap (λ w. stored old w c.args.at c.args.value) (sym c.in-W32.is)

pub returns-in-W64-clause-bytes : goal.returns-in-W64-clause-bytes
returns-in-W64-clause-bytes c =
    let old = bytes_of c.args.bytes.now.items in
    c.write_region-in-W64.ensures.bytes ∙ fun_ext (λ k. stored_written old W64 c.args.at c.args.value k (omega arith)) ∙ ap (λ w. stored old w c.args.at c.args.value) (sym c.in-W64.is)
