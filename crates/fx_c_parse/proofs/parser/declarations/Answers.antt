use Rattle.std.proofs.Common.{length, ap, arith}
use Rattle.fx_c_parse.proofs.Files.{begins_with, words_left, fault_read, fault_handed_on, pushed_length, declaration_goes_on}
use Rattle.fx_c_parse.proofs.parser.declarations.Goals as goal

pub loop-rest-init : goal.loop-rest-init
loop-rest-init c = record {
  fits = omega (arith, ap length c.requires);
  left = begins_with _ _ c.requires;
}

pub returns-in_err-decl-clause-read : goal.returns-in_err-decl-clause-read
returns-in_err-decl-clause-read c =
    fault_handed_on _ _ _ _ _ c.from_residual.ensures
    (fault_read _ _ _ _ _ c.loop-rest.invariant.left (words_left _ _ _ c.is_empty.ensures c.loop-rest-test.true) (omega (arith, c.loop-rest.decls.ok.0)) c.in_err-decl.ensures.tree)

pub loop-rest-preserved : goal.loop-rest-preserved
loop-rest-preserved c =
    let some = words_left _ _ _ c.is_empty.ensures c.loop-rest-test.true in
    record {
      fits = omega (arith, c.loop-rest.invariant.fits, c.in_ok-decl.ensures.shorter, pushed_length _ _ _ c.in_ok-push.ensures.items);
      left = declaration_goes_on _ _ _ _ _ _ c.loop-rest.invariant.left some c.in_ok-decl.ensures.tree c.in_ok-decl.ensures.shorter c.in_ok-push.ensures.items;
    }
