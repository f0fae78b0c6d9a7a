use Rattle.std.proofs.Common.{◌≡◌, ◌+◌, ◌^◌, ◌<◌, cond, eqb}
use Rattle.fx_image.specs.Keys.{keys_below}
use Rattle.fx_image.proofs.keys.pkru_of.Given as goal

abbrev pub invariant-loop-key : goal.invariant-loop-key
invariant-loop-key l = record {
  unit : l.unit ≡ 4 ^ l.key;
  value : l.value ≡ cond (eqb l.compartment l.scheduler) 0 8 + keys_below l.sections l.compartment l.key;
  small : l.value < l.unit;
}
