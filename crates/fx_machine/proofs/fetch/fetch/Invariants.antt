use Rattle.std.proofs.Common.{◌≡◌, ◌-◌, take, length, []}
use Rattle.fx_machine_model.specs.Layout.{page_entry}
use Rattle.fx_machine_model.specs.Moves.{fetched}
use Rattle.fx_machine.specs.Agree.{Agrees}
use Rattle.fx_machine.specs.Memory.{memory_of}
use Rattle.fx_machine.proofs.fetch.fetch.Given as goal

-- what is found from here on is what is found from the start
abbrev pub invariant-loop-n : goal.invariant-loop-n
invariant-loop-n l = record {
  length_is : length l.text ≡ 15;
  agree : Agrees l.image l.pages;
  rest : fetched (page_entry l.image l.vcpu) l.r.pkru (memory_of l.image l.memory) l.r.rip 15 [] ≡ fetched (page_entry l.image l.vcpu) l.r.pkru (memory_of l.image l.memory) l.r.rip (15 - l.n) (take l.n l.text);
}
