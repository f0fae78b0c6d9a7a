use Rattle.fx_cpu.proofs.Memory.{read_other, read_same, word_fits, stored_bytes}
use Rattle.fx_cpu.proofs.laws.words_in_memory.Goals as goal

pub returns-clause-others : goal.returns-clause-others
returns-clause-others c = read_other

pub returns-clause-same : goal.returns-clause-same
returns-clause-same c = read_same

pub returns-clause-fit : goal.returns-clause-fit
returns-clause-fit c = word_fits

pub returns-clause-bytes : goal.returns-clause-bytes
returns-clause-bytes c = stored_bytes
