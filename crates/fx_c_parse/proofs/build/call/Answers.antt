use Rattle.std.proofs.Common.{refl}
use Rattle.fx_c_ast.proofs.Rows.{call_is}
use Rattle.fx_c_parse.proofs.build.call.Goals as goal

pub returns : goal.returns
returns c = call_is _ _ _ _ refl refl
