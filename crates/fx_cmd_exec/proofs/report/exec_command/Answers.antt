use Rattle.std.proofs.Common.{inl, inr, refl}
use Rattle.fx_cmd_base.specs.Views.{exec_given}
use Rattle.fx_cmd_base.specs.Streams.{Streams}
use Rattle.fx_cmd_base.specs.Ends.{ErrorStream}
use Rattle.fx_cmd_exec.proofs.Coming.{executes}
use Rattle.fx_cmd_exec.proofs.AnyComing.{does_other, fault_reported, memory_reported}
use Rattle.fx_cmd_exec.proofs.Ending.{done, not_usage}
use Rattle.fx_cmd_exec.proofs.report.exec_command.Goals as goal

pub returns-in-Ok-clause-does : goal.returns-in-Ok-clause-does
returns-in-Ok-clause-does g c =
    let before : Streams =
    record { held = g.F.Files.held c.args.files.now; file_faults = g.F.Files.faults c.args.files.now; left = g.I.Source.left c.args.input.now; input_faults = g.I.Source.faults c.args.input.now; taken = g.O.Sink.taken c.args.out.now; output_faults = g.O.Sink.faults c.args.out.now } in
    let after : Streams =
    record { held = g.F.Files.held c.run_image-came.new.files; file_faults = g.F.Files.faults c.run_image-came.new.files; left = g.I.Source.left c.run_image-came.new.input; input_faults = g.I.Source.faults c.run_image-came.new.input; taken = g.O.Sink.taken c.run_image-came.new.out; output_faults = g.O.Sink.faults c.run_image-came.new.out } in
    let stream : ErrorStream =
    record { told = g.E.Sink.taken c.args.err.now; printed = g.E.Sink.taken c.report.new.err; quiet = g.E.Sink.faults c.args.err.now; loud = g.E.Sink.faults c.report.new.err } in
    let b = c.in-Ok.ensures.built in
    inl (inl (executes c.early_runs_play.ensures (exec_given c.args.words.now) _ before after (g.F.Files.held c.build_image.new.files) (g.F.Files.faults c.build_image.new.files) c.report.result
    stream b.0 c.in-Ok.image c.run_image-came.result
    b.1 c.in-Ok.ensures.written c.in-Ok.ensures.later c.run_image-came.ensures.keeps c.run_image-came.ensures.comes c.report.ensures))

pub returns-in-Ok-clause-done : goal.returns-in-Ok-clause-done
returns-in-Ok-clause-done g c = λ none. done (exec_given c.args.words.now) _ _ _ c.report.result _ (returns-in-Ok-clause-does g c) none

pub returns-in-Ok-clause-named : goal.returns-in-Ok-clause-named
returns-in-Ok-clause-named g c = λ two. not_usage (exec_given c.args.words.now) _ _ _ c.report.result _ (returns-in-Ok-clause-does g c) two

pub returns-in-Err-Other-clause-does : goal.returns-in-Err-Other-clause-does
returns-in-Err-Other-clause-does g c =
    let before : Streams =
    record { held = g.F.Files.held c.args.files.now; file_faults = g.F.Files.faults c.args.files.now; left = g.I.Source.left c.args.input.now; input_faults = g.I.Source.faults c.args.input.now; taken = g.O.Sink.taken c.args.out.now; output_faults = g.O.Sink.faults c.args.out.now } in
    let after : Streams =
    record { held = g.F.Files.held c.exec_any.new.files; file_faults = g.F.Files.faults c.exec_any.new.files; left = g.I.Source.left c.exec_any.new.input; input_faults = g.I.Source.faults c.exec_any.new.input; taken = g.O.Sink.taken c.exec_any.new.out; output_faults = g.O.Sink.faults c.exec_any.new.out } in
    let stream : ErrorStream =
    record { told = g.E.Sink.taken c.args.err.now; printed = g.E.Sink.taken c.exec_any.new.err; quiet = g.E.Sink.faults c.args.err.now; loud = g.E.Sink.faults c.exec_any.new.err } in
    inr (does_other (exec_given c.args.words.now) _ before after (g.F.Files.held c.build_image.new.files) (g.F.Files.faults c.build_image.new.files) c.exec_any.result stream c.in-Err-Other.field-0 c.in-Err-Other.field-0-0 c.in-Err-Other.field-0-is
    c.in-Err-Other.ensures.unbuilt c.in-Err-Other.ensures.counted c.build_image.ensures.later c.exec_any.ensures)

pub returns-in-Err-Other-clause-done : goal.returns-in-Err-Other-clause-done
returns-in-Err-Other-clause-done g c = λ none. done (exec_given c.args.words.now) _ _ _ c.exec_any.result _ (returns-in-Err-Other-clause-does g c) none

pub returns-in-Err-Other-clause-named : goal.returns-in-Err-Other-clause-named
returns-in-Err-Other-clause-named g c = λ two. not_usage (exec_given c.args.words.now) _ _ _ c.exec_any.result _ (returns-in-Err-Other-clause-does g c) two

pub returns-in-Err-FileFault-clause-does : goal.returns-in-Err-FileFault-clause-does
returns-in-Err-FileFault-clause-does g c = inl (inr (record { why = c.in-Err-FileFault.field-0; why_not = c.in-Err-FileFault.ensures.unbuilt; counted = c.in-Err-FileFault.ensures.counted; untouched = record { input = refl; input_faults = refl; output = refl; output_faults = refl }; reports = fault_reported (exec_given c.args.words.now) c.in-Err-FileFault.field-0 c.in-Err-FileFault.which c.in-Err-FileFault.error c.name_of.result.now c.report_fault.result _ c.in-Err-FileFault.field-0-is c.name_of.ensures c.report_fault.ensures }))

pub returns-in-Err-FileFault-clause-done : goal.returns-in-Err-FileFault-clause-done
returns-in-Err-FileFault-clause-done g c = λ none. done (exec_given c.args.words.now) _ _ _ c.report_fault.result _ (returns-in-Err-FileFault-clause-does g c) none

pub returns-in-Err-FileFault-clause-named : goal.returns-in-Err-FileFault-clause-named
returns-in-Err-FileFault-clause-named g c = λ two. not_usage (exec_given c.args.words.now) _ _ _ c.report_fault.result _ (returns-in-Err-FileFault-clause-does g c) two

pub returns-in-Err-OutOfMemory-clause-does : goal.returns-in-Err-OutOfMemory-clause-does
returns-in-Err-OutOfMemory-clause-does g c = inl (inr (record { why = c.in-Err-OutOfMemory.field-0; why_not = c.in-Err-OutOfMemory.ensures.unbuilt; counted = c.in-Err-OutOfMemory.ensures.counted; untouched = record { input = refl; input_faults = refl; output = refl; output_faults = refl }; reports = memory_reported (exec_given c.args.words.now) c.in-Err-OutOfMemory.field-0 c.report_out_of_memory.result _ c.in-Err-OutOfMemory.field-0-is c.report_out_of_memory.ensures }))

pub returns-in-Err-OutOfMemory-clause-done : goal.returns-in-Err-OutOfMemory-clause-done
returns-in-Err-OutOfMemory-clause-done g c = λ none. done (exec_given c.args.words.now) _ _ _ c.report_out_of_memory.result _ (returns-in-Err-OutOfMemory-clause-does g c) none

pub returns-in-Err-OutOfMemory-clause-named : goal.returns-in-Err-OutOfMemory-clause-named
returns-in-Err-OutOfMemory-clause-named g c = λ two. not_usage (exec_given c.args.words.now) _ _ _ c.report_out_of_memory.result _ (returns-in-Err-OutOfMemory-clause-does g c) two
