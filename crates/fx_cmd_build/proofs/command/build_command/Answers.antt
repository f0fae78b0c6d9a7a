use Rattle.std.proofs.Common.{inl, refl}
use Rattle.fx_cmd_build.proofs.Ways.{took_nothing}
use Rattle.fx_cmd_build.proofs.command.build_command.Goals as goal

pub returns-in-Ok : goal.returns-in-Ok
returns-in-Ok g c =
    let quiet = took_nothing (g.E.Sink.taken c.args.err.now) in
    record { does = inl (record { made = c.in-Ok.field-0; builds = c.in-Ok.ensures.builds; status = refl; quiet = quiet }) }
