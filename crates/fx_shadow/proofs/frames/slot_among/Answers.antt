use Rattle.std.proofs.Common.{◌+◌, arith}
use Rattle.fx_c_ast.specs.CheckedTrees.{struct_types}
use Rattle.fx_shadow.proofs.Slots.{slots_size-take}
use Rattle.fx_shadow.proofs.frames.slot_among.Goals as goal

pub slots_bytes-requires-clause-small : goal.slots_bytes-requires-clause-small
slots_bytes-requires-clause-small c = omega (arith, slots_size-take (struct_types c.args.p.now.structs) (c.args.local + 1) c.args.locals.now)
