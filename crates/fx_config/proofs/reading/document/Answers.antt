use Rattle.std.proofs.Common.{◌≡◌, true, false}
use Rattle.fx_config.proofs.Texts.{document_of-read, document_of-refused}
use Rattle.fx_config.proofs.reading.document.Goals as goal

pub returns-in-Ok : goal.returns-in-Ok
returns-in-Ok c = document_of-read _ _ c.in-Ok.ensures.ok.0 c.in-Ok.ensures.ok.1

pub returns-else-is_memory : goal.returns-else-is_memory
returns-else-is_memory c = λ _. document_of-refused _ (c.in-Err.ensures.refused (λ memory.
    let told : c.is_memory.result ≡ true = c.is_memory.ensures.1 memory in
    let untold : c.is_memory.result ≡ false = c.if-is_memory.false in
    cc))
