use Rattle.std.proofs.Common.{◌≤◌, List, All, length, arith, ap, subst, sym, ◌∙◌}
use Rattle.fx_cmd_load.specs.declared.reading.SourceText.{SourceText}
use Rattle.fx_cmd_load.specs.declared.named.SourceName.{SourceName}
use Rattle.fx_cmd_load.specs.Named.{source_files, from_library}
use Rattle.fx_cmd_load.specs.Reading.{AreRead, texts_of}
use Rattle.std.proofs.lemmas.Result.{err_from_is_err_and}
use Rattle.fx_cmd_load.proofs.Work.{trees_leave}
use Rattle.fx_cmd_load.proofs.Trees.{as_many, short_texts, few_names}
use Rattle.fx_cmd_load.proofs.loading.load_sources.Goals as goal

pub parse_sources-requires-clause-few : goal.parse_sources-requires-clause-few
parse_sources-requires-clause-few g c =
    let held = g.F.Files.held c.args.files.now in
    let names : List SourceName = c.in_ok-names.names.items in
    let texts : List SourceText = c.in_ok-texts.texts.items in
    let read = subst (λ (ns : List SourceName). AreRead held (source_files ns) (texts_of texts)) c.deref.ensures.value c.in_ok-texts.ensures.read in
    let few = few_names names c.args.config.now.libraries (c.in_ok-names.ensures ∙ ap (from_library 0) c.as_slice.ensures) c.requires.files in
    omega (arith, as_many held names texts read, ap length c.deref-3.ensures.value, few)

pub parse_sources-requires-clause-same : goal.parse_sources-requires-clause-same
parse_sources-requires-clause-same g c =
    let held = g.F.Files.held c.args.files.now in
    let names : List SourceName = c.in_ok-names.names.items in
    let texts : List SourceText = c.in_ok-texts.texts.items in
    let read = subst (λ (ns : List SourceName). AreRead held (source_files ns) (texts_of texts)) c.deref.ensures.value c.in_ok-texts.ensures.read in
    omega (arith, as_many held names texts read, ap length c.deref-2.ensures.value, ap length c.deref-3.ensures.value)

pub parse_sources-requires-clause-short : goal.parse_sources-requires-clause-short
parse_sources-requires-clause-short g c =
    let held = g.F.Files.held c.args.files.now in
    let names : List SourceName = c.in_ok-names.names.items in
    let texts : List SourceText = c.in_ok-texts.texts.items in
    let read = subst (λ (ns : List SourceName). AreRead held (source_files ns) (texts_of texts)) c.deref.ensures.value c.in_ok-texts.ensures.read in
    subst (λ (ts : List SourceText). All (λ (t : SourceText). length t.bytes.items ≤ 1048576) ts) (sym c.deref-3.ensures.value) (short_texts held names texts read)

pub returns-in_err-parsed-clause-counted : goal.returns-in_err-parsed-clause-counted
returns-in_err-parsed-clause-counted g c =
    let p = err_from_is_err_and c.from_residual-in_err-parsed.result c.from_residual-in_err-parsed.ensures.1 in
    rw (p.1, p.2) (trees_leave (texts_of c.deref-3.result.now) (g.F.Files.held c.args.files.now) (g.F.Files.faults c.args.files.now) (g.F.Files.faults c.read_sources.new.files) c.in_err-parsed.field-0.0 c.in_err-parsed.ensures.cause c.in_ok-texts.ensures.counted)
