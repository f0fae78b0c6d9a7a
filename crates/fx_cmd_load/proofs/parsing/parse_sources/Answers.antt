use Rattle.std.proofs.Common.{◌<◌, length, arith, refl, ap, sym, ◌∙◌}
use Rattle.std.proofs.lemmas.Result.{err_from_is_err_and}
use Rattle.fx_cmd_load.specs.declared.reading.SourceText.{SourceText}
use Rattle.fx_cmd_load.proofs.Trees.{next_parsed, stops_parsing}
use Rattle.fx_cmd_load.proofs.parsing.parse_sources.Goals as goal

pub returns-in_err-unit-clause-cause : goal.returns-in_err-unit-clause-cause
returns-in_err-unit-clause-cause c =
    let p = err_from_is_err_and c.from_residual.result c.from_residual.ensures.1 in
    let within : c.loop-number.number < length c.args.texts.now = omega arith in
    rw (p.1, p.2) (stops_parsing c.args.names.now c.args.texts.now c.loop-number.all.items c.loop-number.number c.index-texts-number.result c.as_slice.result.now c.in_err-unit.field-0.0
    within c.index-texts-number.is (c.as_slice.ensures.value ∙ ap (λ (t : SourceText). t.bytes.items) (sym c.index-texts-number.is)) c.loop-number.invariant c.in_err-unit.ensures.cause)

pub loop-number-preserved : goal.loop-number-preserved
loop-number-preserved c =
    let less : c.loop-number.number < length c.args.names.now = omega arith in
    let within : c.loop-number.number < length c.args.texts.now = omega arith in
    next_parsed c.args.names.now c.args.texts.now c.loop-number.all.items c.push.new.self.items c.loop-number.number c.index-names-number.result c.index-texts-number.result
    (record { library = c.index-names-number.result.library; unit = c.in_ok-unit.unit }) c.as_slice.result.now less within c.index-names-number.is c.index-texts-number.is
    c.in_ok-push.ensures.items (c.as_slice.ensures.value ∙ ap (λ (t : SourceText). t.bytes.items) (sym c.index-texts-number.is)) refl c.loop-number.invariant c.in_ok-unit.ensures.tree
