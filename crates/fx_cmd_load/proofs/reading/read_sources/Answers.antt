use Rattle.std.proofs.Common.{◌<◌, length, arith}
use Rattle.std.proofs.lemmas.Result.{err_from_is_err_and}
use Rattle.fx_cmd_load.proofs.Stages.{same_twice, content_before, counted_twice, error_leaves, next_read, stops_here}
use Rattle.fx_cmd_load.proofs.reading.read_sources.Goals as goal

pub returns-in_err-bytes-clause-cause : goal.returns-in_err-bytes-clause-cause
returns-in_err-bytes-clause-cause g c =
    let p = err_from_is_err_and c.from_residual.result c.from_residual.ensures.1 in
    let within : c.loop-source.source-index < length c.args.names.now = omega arith in
    rw (p.1, p.2) (stops_here (g.F.Files.held c.args.files.now) (g.F.Files.held c.loop-source.files) (g.F.Files.faults c.args.files.now) (g.F.Files.faults c.loop-source.files) (g.F.Files.faults c.read_file.new.files)
    c.args.names.now c.loop-source.source-index c.source-item.result c.as_str.result.now c.loop-source.texts.items c.in_err-bytes.field-0.0 within c.source-item.is c.as_str.ensures
    c.loop-source.invariant.keeps c.loop-source.invariant.later c.loop-source.invariant.read c.in_err-bytes.ensures.cause)

pub returns-in_err-bytes-clause-counted : goal.returns-in_err-bytes-clause-counted
returns-in_err-bytes-clause-counted g c =
    let p = err_from_is_err_and c.from_residual.result c.from_residual.ensures.1 in
    rw (p.1, p.2) (error_leaves (g.F.Files.held c.args.files.now) (g.F.Files.held c.loop-source.files) (g.F.Files.faults c.args.files.now) (g.F.Files.faults c.loop-source.files) (g.F.Files.faults c.read_file.new.files)
    c.in_err-bytes.field-0.0 c.loop-source.invariant.keeps c.loop-source.invariant.counted c.in_err-bytes.ensures.counted)

pub loop-source-preserved : goal.loop-source-preserved
loop-source-preserved g c =
    let first = g.F.Files.held c.args.files.now in
    let before = g.F.Files.held c.loop-source.files in
    let within : c.loop-source.source-index < length c.args.names.now = omega arith in
    record {
      keeps = same_twice first before (g.F.Files.held c.read_file.new.files) c.loop-source.invariant.keeps c.in_ok-bytes.ensures.keeps;
      later = omega arith;
      counted = counted_twice first before (g.F.Files.faults c.args.files.now) (g.F.Files.faults c.loop-source.files) (g.F.Files.faults c.read_file.new.files) c.loop-source.invariant.keeps c.loop-source.invariant.counted c.in_ok-bytes.ensures.counted;
      read = next_read first c.args.names.now c.loop-source.source-index c.source-item.result c.as_str.result.now c.loop-source.texts.items c.push.new.self.items (record { bytes = c.in_ok-bytes.bytes })
          within c.source-item.is c.as_str.ensures c.in_ok-push.ensures.items c.loop-source.invariant.read
          (content_before first before c.as_str.result.now c.in_ok-bytes.bytes.items c.loop-source.invariant.keeps c.in_ok-bytes.ensures.content) c.in_ok-bytes.ensures.within;
    }
