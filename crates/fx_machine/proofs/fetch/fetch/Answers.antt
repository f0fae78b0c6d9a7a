use Rattle.std.proofs.Common.{◌≡◌, ◌+◌, ◌-◌, None, Some, sym, ap, ◌∙◌, take}
use Rattle.std.specs.Prelude.{slice_set}
use Rattle.fx_x64_code.specs.Decoded.{decoded}
use Rattle.fx_cpu.specs.Memory.{on}
use Rattle.fx_machine_model.specs.Layout.{page_entry}
use Rattle.fx_machine_model.specs.Moves.{fetched}
use Rattle.fx_machine_model.proofs.Fetching.{at_end, by_refused, by_found, by_none}
use Rattle.fx_machine.specs.Memory.{memory_of}
use Rattle.fx_machine.proofs.fetch.fetch.Goals as goal

pub returns-in-Some-clause-value : goal.returns-in-Some-clause-value
returns-in-Some-clause-value c =
    let l = c.loop-n in
    sym (l.invariant.rest ∙ by_refused (page_entry c.args.image.now c.args.vcpu) c.args.r.now.pkru (memory_of c.args.image.now c.args.memory.now) c.args.r.now.rip l.text l.n c.loop-n-test.true l.invariant.length_is c.in-Some.first (sym c.check_byte.ensures.value ∙ c.in-Some.is))

pub returns-in-Some-decode-clause-value : goal.returns-in-Some-decode-clause-value
returns-in-Some-decode-clause-value c =
    let l = c.loop-n in
    let memory = memory_of c.args.image.now c.args.memory.now in
    let byte : c.byte.result ≡ memory (on c.args.r.now.rip l.n) = c.byte.ensures in
    let found : decoded (take (l.n + 1) (slice_set l.text l.n (memory (on c.args.r.now.rip l.n)))) ≡ Some (c.in-Some-decode.inst, c.in-Some-decode.length) =
    ap (λ b. decoded (take (l.n + 1) (slice_set l.text l.n b))) (sym byte) ∙ sym c.decode.ensures.value ∙ c.in-Some-decode.is in
    sym (l.invariant.rest ∙ by_found (page_entry c.args.image.now c.args.vcpu) c.args.r.now.pkru memory c.args.r.now.rip l.text l.n c.loop-n-test.true l.invariant.length_is (c.in-Some-decode.inst, c.in-Some-decode.length) (sym c.check_byte.ensures.value ∙ c.in-None.is) found)

pub loop-n-preserved : goal.loop-n-preserved
loop-n-preserved c =
    let l = c.loop-n in
    let memory = memory_of c.args.image.now c.args.memory.now in
    let byte : c.byte.result ≡ memory (on c.args.r.now.rip l.n) = c.byte.ensures in
    let none : decoded (take (l.n + 1) (slice_set l.text l.n (memory (on c.args.r.now.rip l.n)))) ≡ None =
    ap (λ b. decoded (take (l.n + 1) (slice_set l.text l.n b))) (sym byte) ∙ sym c.decode.ensures.value ∙ c.in-None-decode.is in
    record {
      length_is = c.byte.array_long;
      agree = c.check_byte.ensures.agree;
      rest =
          l.invariant.rest
          ∙ by_none (page_entry c.args.image.now c.args.vcpu) c.args.r.now.pkru memory c.args.r.now.rip l.text l.n c.loop-n-test.true l.invariant.length_is (sym c.check_byte.ensures.value ∙ c.in-None.is) none
          ∙ ap (λ b. fetched (page_entry c.args.image.now c.args.vcpu) c.args.r.now.pkru memory c.args.r.now.rip (15 - (l.n + 1)) (take (l.n + 1) (slice_set l.text l.n b))) (sym byte);
    }

pub returns-clause-value : goal.returns-clause-value
returns-clause-value c = sym (c.loop-n.invariant.rest ∙ at_end _ _ _ _ c.loop-n.n _ c.loop-n-test.false)
