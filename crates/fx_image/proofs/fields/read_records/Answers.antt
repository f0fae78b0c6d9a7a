use Rattle.std.proofs.Common.{◌∷◌, [], arith}
use Rattle.std.proofs.lemmas.Result.{err_from_is_err_and}
use Rattle.std.proofs.lemmas.List.{length-append}
use Rattle.fx_image.specs.Reading.{records_at}
use Rattle.fx_image.proofs.Loop.{goes_on, ends, is_done}
use Rattle.fx_image.proofs.fields.read_records.Goals as goal

pub returns-in_err-record-clause-value : goal.returns-in_err-record-clause-value
returns-in_err-record-clause-value g c =
    let at = g.T.Recorded.read_at c.args.version in
    let p = err_from_is_err_and c.from_residual.result c.from_residual.ensures.1 in
    rw (p.1, p.2) (ends at c.in_err-record.field-0.0 c.loop.records.items c.args.count c.loop.counter c.loop.rest.now (records_at at c.args.count c.args.bytes.now) c.loop-test.true c.in_err-record.ensures c.loop.invariant.value)

pub loop-preserved : goal.loop-preserved
loop-preserved g c =
    let at = g.T.Recorded.read_at c.args.version in
    record {
      value = rw c.in_ok-push.ensures.items (goes_on at c.loop.records.items c.args.count c.loop.counter c.loop.rest.now c.in_ok-record.record c.in_ok-record.after.now (records_at at c.args.count c.args.bytes.now) c.loop-test.true c.in_ok-record.ensures c.loop.invariant.value);
      len = rw c.in_ok-push.ensures.items (omega (arith, length-append c.loop.records.items (c.in_ok-record.record ∷ []), c.loop.invariant.len));
    }

pub returns-clause-value : goal.returns-clause-value
returns-clause-value g c =
    let at = g.T.Recorded.read_at c.args.version in
    rw c.from_vec.ensures (is_done at c.loop.records.items c.args.count c.loop.counter c.loop.rest.now (records_at at c.args.count c.args.bytes.now) c.loop-test.false c.loop.invariant.value)
