use Rattle.std.proofs.Common.{refl}
use Rattle.fx_c_ast.proofs.Rows.{block_is}
use Rattle.fx_c_parse.proofs.build.block.Goals as goal

pub returns : goal.returns
returns c = block_is _ _ _ refl refl
