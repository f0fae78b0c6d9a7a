use Rattle.std.proofs.Common.{◌≤◌, take}
use Rattle.fx_base.specs.Told.{Told}
use Rattle.fx_base.specs.Files.{SameFiles}
use Rattle.fx_cmd_load.specs.Named.{source_files}
use Rattle.fx_cmd_load.specs.Reading.{texts_of, AreRead, LeavesCount}
use Rattle.fx_cmd_load.proofs.reading.read_sources.Given as goal

abbrev pub invariant-loop-source : goal.invariant-loop-source
invariant-loop-source g l = record {
  keeps : Told SameFiles (g.F.Files.held l.fn.files) (g.F.Files.held l.files);
  later : g.F.Files.faults l.fn.files ≤ g.F.Files.faults l.files;
  counted : LeavesCount (g.F.Files.held l.fn.files) (g.F.Files.faults l.fn.files) (g.F.Files.faults l.files);
  read : AreRead (g.F.Files.held l.fn.files) (source_files (take l.source-index l.names)) (texts_of l.texts.items);
}
