use Rattle.std.proofs.Common.{◌≡◌, ◌+◌, ◌<◌, length, refl, arith}
use Rattle.std.proofs.lemmas.Grind.{common_steps}
use Rattle.fx_c_mean_model.specs.Programs.{program_of}
use Rattle.fx_c_mean_control.specs.Views.{values_of}
use Rattle.fx_c_mean_acts.proofs.Callers.{objects_more, front_more}
use Rattle.fx_c_mean_acts.proofs.calls.add_objects.Goals as goal

pub loop-variable-preserved : goal.loop-variable-preserved
loop-variable-preserved c =
    let i = c.loop-variable in
    let next : c.in_ok-local.local ≡ i.local + 1 = grind (arith, common_steps) in
    let there : i.variable-index < length c.variables-variable-items.result.now = omega arith in record {
      index = omega arith;
      front = front_more _ c.args.memory.now i.memory c.make_object.new.memory _ refl i.invariant.front c.in_ok-make_object.ensures;
      made = objects_more (program_of c.args.source.now.program.now) c.args.f i.memory c.make_object.new.memory _ c.variables-variable-items.result.now i.local i.variable-index c.in_ok-local.local c.variable-item.result (values_of c.args.values.now) c.value_at-value.result i.invariant.index there c.variable-item.is c.value_at-value.ensures c.in_ok-make_object.ensures next i.invariant.made;
    }
