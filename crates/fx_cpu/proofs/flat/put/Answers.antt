use Rattle.std.proofs.Common.{◌∙◌}
use Rattle.std.proofs.Math.Path.{fun_ext}
use Rattle.fx_cpu.specs.Flat.{bytes_of}
use Rattle.fx_cpu.proofs.FlatLemmas.{stored_written}
use Rattle.fx_cpu.proofs.flat.put.Goals as goal

pub returns-clause-bytes : goal.returns-clause-bytes
returns-clause-bytes c =
    c.put_bytes.ensures.bytes ∙ fun_ext (λ k. stored_written (bytes_of c.args.bytes.now.items) c.args.w c.args.at c.args.v k c.requires.small)
