use Rattle.std.proofs.Common.{◌≡◌, ◌+◌, ◌^◌, ap, ◌∙◌, arith, cond, eqb, refl}
use Rattle.fx_image.specs.Keys.{keys_below, pkru_of}
use Rattle.fx_image.proofs.KeySteps.{next_unit, next_value, next_small, unit_bound, product_bound, none_below}
use Rattle.fx_image.proofs.keys.pkru_of.Goals as goal

pub loop-key-init : goal.loop-key-init
loop-key-init c = record {
  unit = refl;
  value = omega (arith, c.thread_word_bits-value.ensures.value, none_below c.args.sections.now c.args.compartment);
  small = c.thread_word_bits-value.ensures.small;
}

pub overflow_mul-value : goal.overflow_mul-value
overflow_mul-value c =
    let unit = unit_bound c.loop-key.unit c.loop-key.key c.loop-key.invariant.unit c.loop-key-test.true in
    let product = product_bound c.loop-key.unit c.key_bits.result unit c.key_bits.ensures.small in
    omega (arith, product)

pub overflow_add-value : goal.overflow_add-value
overflow_add-value c =
    let unit = unit_bound c.loop-key.unit c.loop-key.key c.loop-key.invariant.unit c.loop-key-test.true in
    let product = product_bound c.loop-key.unit c.key_bits.result unit c.key_bits.ensures.small in
    omega (arith, product, unit, c.loop-key.invariant.small)

pub overflow_mul-unit : goal.overflow_mul-unit
overflow_mul-unit c =
    let unit = unit_bound c.loop-key.unit c.loop-key.key c.loop-key.invariant.unit c.loop-key-test.true in
    omega (arith, unit)

pub loop-key-preserved : goal.loop-key-preserved
loop-key-preserved c = record {
  unit = next_unit c.loop-key.unit c.loop-key.key c.loop-key.invariant.unit;
  value = rw c.key_bits.ensures.value (next_value c.args.sections.now c.args.compartment c.loop-key.key (cond (eqb c.args.compartment c.args.scheduler) 0 8) c.loop-key.value c.loop-key.unit c.loop-key.invariant.unit c.loop-key.invariant.value c.loop-key.auto.key);
  small = next_small c.loop-key.value c.loop-key.unit c.key_bits.result c.loop-key.invariant.small c.key_bits.ensures.small;
}

pub overflow_cast-result : goal.overflow_cast-result
overflow_cast-result c =
    let end : c.loop-key.key ≡ 16 = omega arith in
    let unit : c.loop-key.unit ≡ 4 ^ 16 = c.loop-key.invariant.unit ∙ ap (λ k. 4 ^ k) end in
    omega (arith, unit, c.loop-key.invariant.small)

pub returns : goal.returns
unfolding pkru_of
returns c =
    let end : c.loop-key.key ≡ 16 = omega arith in
    c.loop-key.invariant.value ∙ ap (λ k. cond (eqb c.args.compartment c.args.scheduler) 0 8 + keys_below c.args.sections.now c.args.compartment k) end
