use Rattle.std.proofs.Common.{◌≡◌, ◌++◌, map, take, drop, length}
use Rattle.fx_c_mean_model.specs.Programs.{program_of, variable_of, call_objects}
use Rattle.fx_c_mean_control.specs.Views.{values_of}
use Rattle.fx_c_mean_acts.proofs.calls.add_objects.Given as goal

abbrev pub invariant-loop-variable : goal.invariant-loop-variable
invariant-loop-variable l = record {
  index : l.local ≡ l.variable-index;
  front : take (length l.fn.memory) l.memory ≡ l.fn.memory;
  made : l.memory ++ call_objects (program_of l.source.program.now) l.f l.local (map variable_of (drop l.variable-index l.variable-items)) (drop l.local (values_of l.values)) ≡ l.fn.memory ++ call_objects (program_of l.source.program.now) l.f 0 (map variable_of l.variable-items) (values_of l.values);
}
