use Rattle.std.proofs.Common.{◌≡◌, drop, None}
use Rattle.fx_c_types_bodies.specs.Bodies.{in_blocks}
use Rattle.fx_c_types_bodies.proofs.nodes.in_blocks.Given as goal

abbrev pub invariant-loop-block : goal.invariant-loop-block
invariant-loop-block l = in_blocks l.number l.name (drop l.block-index l.blocks) ≡ in_blocks None l.name l.blocks
