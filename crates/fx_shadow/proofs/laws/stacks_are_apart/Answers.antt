use Rattle.std.proofs.Common.{◌*◌, length}
use Rattle.fx_shadow.specs.Stacks.{first_stack, stack_number, stack_span}
use Rattle.fx_shadow.proofs.Spans.{spans_in_bytes, one_row}
use Rattle.fx_shadow.proofs.laws.stacks_are_apart.Goals as goal

pub returns-clause-apart : goal.returns-clause-apart
returns-clause-apart c = λ k t n u m other. spans_in_bytes (stack_number k t n) (stack_number k u m) (4096 * k.stack_pages) other

pub returns-clause-owner : goal.returns-clause-owner
returns-clause-owner c = λ k t n u m halves within inside same. one_row (length k.compartments) t n u m within inside (rw halves at same)
