use Rattle.std.proofs.Common.{◌<◌, length, ap, arith}
use Rattle.fx_c_ast.specs.CheckedTrees.{struct_types}
use Rattle.fx_cmd_place.proofs.Steps.{globals_step}
use Rattle.fx_cmd_place.proofs.table.put_globals.Goals as goal

pub loop-i-preserved : goal.loop-i-preserved
loop-i-preserved c =
    let within : c.loop-i.i < length c.args.sections.now = omega (arith, c.requires.sections, ap length c.as_slice-global-items.ensures, c.loop-i-test.true) in
    let inside : c.loop-i.i < length c.args.addresses.now = omega (arith, c.requires.addresses, ap length c.as_slice-global-items.ensures, c.loop-i-test.true) in
    globals_step (struct_types c.args.p.now.structs) c.args.number c.args.key c.as_slice-global-items.result.now c.args.sections.now c.args.addresses.now c.loop-i.i c.global-item.result c.loop-i.out.items _ _ c.loop-i-test.true c.global-item.is within inside c.in_ok-put_global.ensures c.loop-i.invariant
