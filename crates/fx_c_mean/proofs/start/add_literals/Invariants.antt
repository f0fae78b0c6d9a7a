use Rattle.std.proofs.Common.{◌≡◌, ◌++◌, drop}
use Rattle.fx_c_mean_model.specs.Programs.{literal_objects}
use Rattle.fx_c_mean.proofs.start.add_literals.Given as goal

abbrev pub invariant-loop-literal : goal.invariant-loop-literal
invariant-loop-literal l = record {
  number : l.number ≡ l.literal-index;
  made : l.memory ++ literal_objects l.number (drop l.literal-index l.literals) ≡ l.fn.memory ++ literal_objects 0 l.literals;
}
