-- Why nothing is loaded, from the steps of the work.
use Rattle.std.proofs.Common.{ℕ, ◌≤◌, List, Option}
use Rattle.fx_base.specs.Told.{Told}
use Rattle.fx_base.specs.Files.{Held, SameFiles}
use Rattle.fx_base.specs.declared.files.FileError.{FileError}
use Rattle.fx_cmd_load.specs.declared.error.LoadError.{LoadError}
use Rattle.fx_cmd_load.specs.declared.error.LoadError.TheVariants.{File, Config, Parse, OutOfMemory}
use Rattle.fx_cmd_load.specs.Named.{Named}
use Rattle.fx_cmd_load.specs.Reading.{source_limit, StopsReading}
use Rattle.fx_cmd_load.specs.Reading.{LeavesCount, ErrorLeaves}
use Rattle.fx_cmd_load.specs.Parsing.{OneHasNoTree}
use Rattle.fx_cmd_load.specs.Loading.{RefusesConfiguration}
use Rattle.fx_cmd_load.proofs.Stages.{read_before, fault_before}

pub stops_before : (a b : Option Held) (first before now : ℕ) (names : List Named) (name : List ℕ) (error : FileError) → Told SameFiles a b → first ≤ before → StopsReading b before now names name error → StopsReading a first now names name error
stops_before a b first before now names name error same le s = record {
  first = s.first;
  next = s.next;
  rest = s.rest;
  texts = s.texts;
  order = s.order;
  read = read_before a b s.first s.texts same s.read;
  same = s.same;
  fault = fault_before source_limit s.next.name a b first before now error same le s.fault;
}

-- ---- the count of faults, where what was read is refused

pub configuration_leaves : (text : List ℕ) (held : Option Held) (before now : ℕ) (error : LoadError) → RefusesConfiguration text error → LeavesCount held before now → ErrorLeaves held before now error
configuration_leaves text held before now (File name error) refuses same = absurd refuses
configuration_leaves text held before now (Config error) refuses same = same
configuration_leaves text held before now (Parse file error) refuses same = same
configuration_leaves text held before now OutOfMemory refuses same = tt

pub trees_leave : (texts : List (List ℕ)) (held : Option Held) (before now : ℕ) (error : LoadError) → OneHasNoTree texts error → LeavesCount held before now → ErrorLeaves held before now error
trees_leave texts held before now (File name error) none same = absurd none
trees_leave texts held before now (Config error) none same = same
trees_leave texts held before now (Parse file error) none same = same
trees_leave texts held before now OutOfMemory none same = tt
