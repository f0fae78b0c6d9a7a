use Rattle.fx_image_law.proofs.Bits.{key_reads, key_writes, first_bits}
use Rattle.fx_image_law.proofs.keys_have_bits.Goals as goal

pub returns-clause-sections : goal.returns-clause-sections
returns-clause-sections c = λ sections scheduler c key le less. (key_reads sections scheduler c key le less, key_writes sections scheduler c key le less)

pub returns-clause-first : goal.returns-clause-first
returns-clause-first c = first_bits
