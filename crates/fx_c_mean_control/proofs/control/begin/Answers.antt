use Rattle.std.proofs.Common.{sym, ap}
use Rattle.fx_c_ast.proofs.Rows.{tblock_is}
use Rattle.fx_c_mean_model.specs.States.{begin, follow}
use Rattle.fx_c_mean_control.specs.Views.{frames_of}
use Rattle.fx_c_mean_control.proofs.control.begin.Goals as goal

pub returns-in-Block : goal.returns-in-Block
returns-in-Block c = sym (ap (λ t. begin t (frames_of c.args.frames.now) (follow (frames_of c.args.frames.now))) (tblock_is c.args.s.now _ c.deref.result.now c.in-Block.is c.deref.ensures.value))
