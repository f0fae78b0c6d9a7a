use Rattle.std.proofs.Common.{sym, ap, ◌∙◌, subst}
use Rattle.fx_image.specs.Rules.{IsImage}
use Rattle.fx_image.specs.declared.forms.Image.{Image}
use Rattle.fx_machine_model.specs.Boot.{vcpus}
use Rattle.fx_machine.specs.Agree.{Agrees}
use Rattle.fx_machine.specs.Lines.{IsDecoded}
use Rattle.fx_machine.specs.Memory.{IsLaidOut}
use Rattle.fx_machine.proofs.Turning.{booted_by}
use Rattle.fx_machine.proofs.machine.Machine.boot.Goals as goal

pub invariant_of-result : goal.invariant_of-result
invariant_of-result g c =
    let e = sym c.in_ok-copy.ensures in
    record {
      whole = subst (λ (i : Image). IsImage i) e c.requires;
      decoded = subst (λ (i : Image). IsDecoded i c.in_ok-code.code) e c.in_ok-code.ensures;
      agree = subst (λ (i : Image). Agrees i c.new.result) e c.new.ensures;
      laid = subst (λ (i : Image). IsLaidOut i c.in_ok-memory.memory) e c.in_ok-memory.ensures.laid;
      many = c.in_ok-cpus.ensures.many ∙ ap (λ (i : Image). vcpus i) e;
    }

pub returns : goal.returns
returns g c = booted_by c.args.image.now c.in_ok-copy.copy c.in_ok-memory.memory c.in_ok-cpus.cpus.items _ c.in_ok-copy.ensures c.in_ok-memory.ensures.bytes c.in_ok-cpus.ensures.many c.in_ok-cpus.ensures.each
