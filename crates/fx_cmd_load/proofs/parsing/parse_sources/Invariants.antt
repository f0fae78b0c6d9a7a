use Rattle.std.proofs.Common.{take}
use Rattle.fx_cmd_load.specs.Named.{source_files}
use Rattle.fx_cmd_load.specs.Reading.{texts_of}
use Rattle.fx_cmd_load.specs.Parsing.{AreParsed}
use Rattle.fx_cmd_load.proofs.parsing.parse_sources.Given as goal

abbrev pub invariant-loop-number : goal.invariant-loop-number
invariant-loop-number l = AreParsed (source_files (take l.number l.names)) (texts_of (take l.number l.texts)) l.all.items
