-- What contracts see of the words of a command.
use Rattle.std.specs.Prelude.{option_map}
use Rattle.fx_cmd_base.specs.Words.{Given, RunGiven, ExecGiven}
use Rattle.fx_cmd_base.specs.declared.words.Options.{Options}
use Rattle.fx_cmd_base.specs.declared.words.RunWords.{RunWords}
use Rattle.fx_cmd_base.specs.declared.words.ExecWords.{ExecWords}

abbrev pub given : Options → Given
given o = record { steps = o.steps; schedule = option_map (λ word. word.now) o.schedule; unplug = o.unplug }

abbrev pub run_given : RunWords → RunGiven
run_given r = record { image = r.image.now; options = given r.options }

abbrev pub exec_given : ExecWords → ExecGiven
exec_given e = record { config = e.config.now; run = run_given e.run }
