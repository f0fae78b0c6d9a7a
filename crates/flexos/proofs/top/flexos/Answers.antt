use Rattle.std.proofs.Common.{Some, ℕ, List, map, string_bytes, ap, subst, sym, ◌∙◌, refl}
use Rattle.fx_cmd_base.specs.Ends.{ErrorStream, Ended}
use Rattle.fx_cmd_base.specs.Views.{run_given, exec_given}
use Rattle.fx_cmd_single.specs.Words.{single_given}
use Rattle.fx_cmd_build.proofs.Ways.{done, no_usage}
use Rattle.flexos.specs.Words.{Exec, Run, Single, Place, Build, Show, Migrate, Help, Version, Usage}
use Rattle.flexos.specs.Words.{build_given, migrate_given, said_of}
use Rattle.flexos.specs.Texts.{help_text, version_text, PutsText}
use Rattle.flexos.specs.declared.command.Command.{Command}
use Rattle.flexos.proofs.Running.{done_run, run_is_no_usage}
use Rattle.flexos.proofs.Placed.{place_is_no_usage}
use Rattle.flexos.proofs.Singled.{done_single, single_is_no_usage}
use Rattle.flexos.proofs.Shown.{show_is_no_usage}
use Rattle.flexos.proofs.Migrated.{migrate_is_no_usage}
use Rattle.flexos.proofs.Put.{text_is_no_usage, text_done}
use Rattle.flexos.proofs.Saying.{table_at, done_at}
use Rattle.flexos.proofs.top.flexos.Goals as goal

pub returns-in-Exec-clause-table : goal.returns-in-Exec-clause-table
returns-in-Exec-clause-table g c =
    table_at (Exec (exec_given c.in-Exec.given)) (map string_bytes c.args.words.now) _ _ _ _ _ (ap (λ (x : Command). said_of (Some x)) (sym c.in-Exec.is) ∙ c.in-Some.ensures)
    (c.exec_command.ensures.does, c.exec_command.ensures.named)

pub returns-in-Exec-clause-done : goal.returns-in-Exec-clause-done
returns-in-Exec-clause-done g c = λ none.
    done_at (Exec (exec_given c.in-Exec.given)) (map string_bytes c.args.words.now) _ _ _ _ c.exec_command.result (ap (λ (x : Command). said_of (Some x)) (sym c.in-Exec.is) ∙ c.in-Some.ensures)
    (c.exec_command.ensures.done none)

pub returns-in-Run-clause-table : goal.returns-in-Run-clause-table
returns-in-Run-clause-table g c =
    table_at (Run (run_given c.in-Run.given)) (map string_bytes c.args.words.now) _ _ _ _ _ (ap (λ (x : Command). said_of (Some x)) (sym c.in-Run.is) ∙ c.in-Some.ensures)
    (c.run_command.ensures, run_is_no_usage (run_given c.in-Run.given) _ _ _ c.run_command.result _ c.run_command.ensures)

pub returns-in-Run-clause-done : goal.returns-in-Run-clause-done
returns-in-Run-clause-done g c = λ none.
    done_at (Run (run_given c.in-Run.given)) (map string_bytes c.args.words.now) _ _ _ _ c.run_command.result (ap (λ (x : Command). said_of (Some x)) (sym c.in-Run.is) ∙ c.in-Some.ensures)
    (done_run (run_given c.in-Run.given) _ _ _ c.run_command.result _ c.run_command.ensures none)

pub returns-in-Place-clause-table : goal.returns-in-Place-clause-table
returns-in-Place-clause-table g c =
    let came = c.place_command.ensures.comes in
    table_at (Place c.in-Place.place.config.now) (map string_bytes c.args.words.now) _ _ _ _ _ (ap (λ (x : Command). said_of (Some x)) (sym c.in-Place.is) ∙ c.in-Some.ensures) (
      record { came = came.0; comes = came.1; counted = came.2; keeps = c.place_command.ensures.keeps; input = refl; input_faults = refl; reports = came.3 },
      place_is_no_usage came.0 c.place_command.result _ came.3,
    )

pub returns-in-Place-clause-done : goal.returns-in-Place-clause-done
returns-in-Place-clause-done g c = λ none.
    done_at (Place c.in-Place.place.config.now) (map string_bytes c.args.words.now) _ _ _ _ c.place_command.result (ap (λ (x : Command). said_of (Some x)) (sym c.in-Place.is) ∙ c.in-Some.ensures)
    (let well = c.place_command.ensures.done none in record { placed = well.0; quiet = well.1 })

pub returns-in-Single-clause-table : goal.returns-in-Single-clause-table
returns-in-Single-clause-table g c =
    table_at (Single (single_given c.in-Single.given)) (map string_bytes c.args.words.now) _ _ _ _ _ (ap (λ (x : Command). said_of (Some x)) (sym c.in-Single.is) ∙ c.in-Some.ensures)
    (c.single_command.ensures, single_is_no_usage (single_given c.in-Single.given) _ _ _ c.single_command.result _ c.single_command.ensures)

pub returns-in-Single-clause-done : goal.returns-in-Single-clause-done
returns-in-Single-clause-done g c = λ none.
    done_at (Single (single_given c.in-Single.given)) (map string_bytes c.args.words.now) _ _ _ _ c.single_command.result (ap (λ (x : Command). said_of (Some x)) (sym c.in-Single.is) ∙ c.in-Some.ensures)
    (done_single (single_given c.in-Single.given) _ _ _ c.single_command.result _ c.single_command.ensures none)

pub returns-in-Build-clause-table : goal.returns-in-Build-clause-table
returns-in-Build-clause-table g c =
    let given = build_given c.in-Build.given in
    let does = c.build_command.ensures.does in
    table_at (Build given) (map string_bytes c.args.words.now) _ _ _ _ _
    (ap (λ (x : Command). said_of (Some x)) (sym c.in-Build.is) ∙ c.in-Some.ensures) (
      record { does = does; untouched = record { input = refl; input_faults = refl; output = refl; output_faults = refl } },
      no_usage given.config given.image (g.F.Files.held c.args.files.now)
          (g.F.Files.held c.build_command.new.files) (g.F.Files.faults c.args.files.now)
          (g.F.Files.faults c.build_command.new.files) c.build_command.result _ does,
    )

pub returns-in-Build-clause-done : goal.returns-in-Build-clause-done
returns-in-Build-clause-done g c = λ none.
    let given = build_given c.in-Build.given in
    let well = done given.config given.image (g.F.Files.held c.args.files.now)
    (g.F.Files.held c.build_command.new.files) (g.F.Files.faults c.args.files.now)
    (g.F.Files.faults c.build_command.new.files) c.build_command.result _
    c.build_command.ensures.does none in
    done_at (Build given) (map string_bytes c.args.words.now) _ _ _ _ c.build_command.result
    (ap (λ (x : Command). said_of (Some x)) (sym c.in-Build.is) ∙ c.in-Some.ensures)
    (record { made = well.made; builds = well.builds; untouched = record { input = refl; input_faults = refl; output = refl; output_faults = refl }; quiet = well.quiet })

pub returns-in-Show-clause-table : goal.returns-in-Show-clause-table
returns-in-Show-clause-table g c =
    let came = c.show_command.ensures.comes in
    table_at (Show c.in-Show.show.image.now) (map string_bytes c.args.words.now) _ _ _ _ _ (ap (λ (x : Command). said_of (Some x)) (sym c.in-Show.is) ∙ c.in-Some.ensures) (
      record { came = came.0; comes = came.1; keeps = c.show_command.ensures.keeps; input = refl; input_faults = refl; reports = came.2 },
      show_is_no_usage c.in-Show.show.image.now came.0 c.show_command.result _ came.2,
    )

pub returns-in-Show-clause-done : goal.returns-in-Show-clause-done
returns-in-Show-clause-done g c = λ none.
    done_at (Show c.in-Show.show.image.now) (map string_bytes c.args.words.now) _ _ _ _ c.show_command.result (ap (λ (x : Command). said_of (Some x)) (sym c.in-Show.is) ∙ c.in-Some.ensures)
    (let well = c.show_command.ensures.done none in record { shown = well.0; quiet = well.1 })

pub returns-in-Migrate-clause-table : goal.returns-in-Migrate-clause-table
returns-in-Migrate-clause-table g c =
    let came = c.migrate_command.ensures.comes in
    table_at (Migrate (migrate_given c.in-Migrate.given)) (map string_bytes c.args.words.now) _ _ _ _ _ (ap (λ (x : Command). said_of (Some x)) (sym c.in-Migrate.is) ∙ c.in-Some.ensures) (
      record { came = came.0; comes = came.1; untouched = record { input = refl; input_faults = refl; output = refl; output_faults = refl }; reports = came.2 },
      migrate_is_no_usage c.in-Migrate.given.old.now c.in-Migrate.given.new.now came.0 c.migrate_command.result _ came.2,
    )

pub returns-in-Migrate-clause-done : goal.returns-in-Migrate-clause-done
returns-in-Migrate-clause-done g c = λ none.
    done_at (Migrate (migrate_given c.in-Migrate.given)) (map string_bytes c.args.words.now) _ _ _ _ c.migrate_command.result (ap (λ (x : Command). said_of (Some x)) (sym c.in-Migrate.is) ∙ c.in-Some.ensures)
    (let well = c.migrate_command.ensures.done none in record { migrated = well.0; untouched = record { input = refl; input_faults = refl; output = refl; output_faults = refl }; quiet = well.1 })

pub returns-in-Help-clause-table : goal.returns-in-Help-clause-table
returns-in-Help-clause-table g c =
    let puts = subst (λ (text : List ℕ). PutsText text (g.O.Sink.taken c.args.out.now) (g.O.Sink.taken c.put_text.new.out) (g.O.Sink.faults c.args.out.now) (g.O.Sink.faults c.put_text.new.out) c.put_text.result (record { told = g.E.Sink.taken c.args.err.now; printed = g.E.Sink.taken c.put_text.new.err; quiet = g.E.Sink.faults c.args.err.now; loud = g.E.Sink.faults c.put_text.new.err })) c.help.ensures c.put_text.ensures in
    table_at Help (map string_bytes c.args.words.now) _ _ _ _ _ (ap (λ (x : Command). said_of (Some x)) (sym c.in-Help.is) ∙ c.in-Some.ensures) (
      record { puts = puts; keeps = refl },
      text_is_no_usage help_text (g.O.Sink.taken c.args.out.now) (g.O.Sink.taken c.put_text.new.out) (g.O.Sink.faults c.args.out.now) (g.O.Sink.faults c.put_text.new.out) c.put_text.result (record { told = g.E.Sink.taken c.args.err.now; printed = g.E.Sink.taken c.put_text.new.err; quiet = g.E.Sink.faults c.args.err.now; loud = g.E.Sink.faults c.put_text.new.err }) puts,
    )

pub returns-in-Help-clause-done : goal.returns-in-Help-clause-done
returns-in-Help-clause-done g c = λ none.
    let puts = subst (λ (text : List ℕ). PutsText text (g.O.Sink.taken c.args.out.now) (g.O.Sink.taken c.put_text.new.out) (g.O.Sink.faults c.args.out.now) (g.O.Sink.faults c.put_text.new.out) c.put_text.result (record { told = g.E.Sink.taken c.args.err.now; printed = g.E.Sink.taken c.put_text.new.err; quiet = g.E.Sink.faults c.args.err.now; loud = g.E.Sink.faults c.put_text.new.err })) c.help.ensures c.put_text.ensures in
    done_at Help (map string_bytes c.args.words.now) _ _ _ _ c.put_text.result (ap (λ (x : Command). said_of (Some x)) (sym c.in-Help.is) ∙ c.in-Some.ensures)
    (let well = text_done help_text (g.O.Sink.taken c.args.out.now) (g.O.Sink.taken c.put_text.new.out) (g.O.Sink.faults c.args.out.now) (g.O.Sink.faults c.put_text.new.out) c.put_text.result (record { told = g.E.Sink.taken c.args.err.now; printed = g.E.Sink.taken c.put_text.new.err; quiet = g.E.Sink.faults c.args.err.now; loud = g.E.Sink.faults c.put_text.new.err }) puts none in record { put = well.0; quiet = well.1 })

pub returns-in-Version-clause-table : goal.returns-in-Version-clause-table
returns-in-Version-clause-table g c =
    let puts = subst (λ (text : List ℕ). PutsText text (g.O.Sink.taken c.args.out.now) (g.O.Sink.taken c.put_text-in-Version.new.out) (g.O.Sink.faults c.args.out.now) (g.O.Sink.faults c.put_text-in-Version.new.out) c.put_text-in-Version.result (record { told = g.E.Sink.taken c.args.err.now; printed = g.E.Sink.taken c.put_text-in-Version.new.err; quiet = g.E.Sink.faults c.args.err.now; loud = g.E.Sink.faults c.put_text-in-Version.new.err })) c.version.ensures c.put_text-in-Version.ensures in
    table_at Version (map string_bytes c.args.words.now) _ _ _ _ _ (ap (λ (x : Command). said_of (Some x)) (sym c.in-Version.is) ∙ c.in-Some.ensures) (
      record { puts = puts; keeps = refl },
      text_is_no_usage version_text (g.O.Sink.taken c.args.out.now) (g.O.Sink.taken c.put_text-in-Version.new.out) (g.O.Sink.faults c.args.out.now) (g.O.Sink.faults c.put_text-in-Version.new.out) c.put_text-in-Version.result (record { told = g.E.Sink.taken c.args.err.now; printed = g.E.Sink.taken c.put_text-in-Version.new.err; quiet = g.E.Sink.faults c.args.err.now; loud = g.E.Sink.faults c.put_text-in-Version.new.err }) puts,
    )

pub returns-in-Version-clause-done : goal.returns-in-Version-clause-done
returns-in-Version-clause-done g c = λ none.
    let puts = subst (λ (text : List ℕ). PutsText text (g.O.Sink.taken c.args.out.now) (g.O.Sink.taken c.put_text-in-Version.new.out) (g.O.Sink.faults c.args.out.now) (g.O.Sink.faults c.put_text-in-Version.new.out) c.put_text-in-Version.result (record { told = g.E.Sink.taken c.args.err.now; printed = g.E.Sink.taken c.put_text-in-Version.new.err; quiet = g.E.Sink.faults c.args.err.now; loud = g.E.Sink.faults c.put_text-in-Version.new.err })) c.version.ensures c.put_text-in-Version.ensures in
    done_at Version (map string_bytes c.args.words.now) _ _ _ _ c.put_text-in-Version.result (ap (λ (x : Command). said_of (Some x)) (sym c.in-Version.is) ∙ c.in-Some.ensures)
    (let well = text_done version_text (g.O.Sink.taken c.args.out.now) (g.O.Sink.taken c.put_text-in-Version.new.out) (g.O.Sink.faults c.args.out.now) (g.O.Sink.faults c.put_text-in-Version.new.out) c.put_text-in-Version.result (record { told = g.E.Sink.taken c.args.err.now; printed = g.E.Sink.taken c.put_text-in-Version.new.err; quiet = g.E.Sink.faults c.args.err.now; loud = g.E.Sink.faults c.put_text-in-Version.new.err }) puts none in record { put = well.0; quiet = well.1 })

pub returns-in_default-clause-table : goal.returns-in_default-clause-table
returns-in_default-clause-table g c =
    let stream : ErrorStream =
    record { told = g.E.Sink.taken c.args.err.now; printed = g.E.Sink.taken c.conclude.new.err; quiet = g.E.Sink.faults c.args.err.now; loud = g.E.Sink.faults c.conclude.new.err } in
    table_at Usage (map string_bytes c.args.words.now) _ _ _ stream c.conclude.result (ap said_of (sym c.in_default.is) ∙ c.command_of.ensures) (
      subst (λ line. Ended 2 line c.conclude.result stream) c.as_bytes.ensures.value c.conclude.ensures,
      refl,
    )
