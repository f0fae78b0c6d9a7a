-- A checked program can be granted and placed.
use Rattle.std.proofs.Common.{ℕ, ◌+◌, ◌<◌, List, length, Option, arith}
use Rattle.std.proofs.lemmas.List.{length-map}
use Rattle.fx_base.specs.Files.{Held}
use Rattle.fx_config.specs.declared.configuration.Config.{Config}
use Rattle.fx_c_ast.specs.declared.checked.TProgram.{TProgram}
use Rattle.fx_grants.specs.Homes.{homes_of}
use Rattle.fx_grants.specs.GrantSets.{grants_of, pair_of}
use Rattle.fx_sections.specs.Placement.{IsPlaceable}
use Rattle.fx_c_types.specs.declared.program.SourceFile.{SourceFile}
use Rattle.fx_c_types.specs.ProgramView.{declarations}
use Rattle.fx_c_types_law.proofs.Facts.{accepted_is, few, placeable}
use Rattle.fx_cmd_load.specs.Loading.{HasFewParts}
use Rattle.fx_cmd_load.specs.Programs.{sources_of, IsProgramOf}
use Rattle.fx_cmd_load.proofs.Counting.{few_declarations}
use Rattle.fx_c_types_texts_law.proofs.Checked.{literals_written}
use Rattle.fx_cmd_place.specs.Placing.{IsReady}
use Rattle.fx_cmd_place.proofs.Strings.{few_written}

pub ready : (name : List ℕ) (held : Option Held) (k : Config) (p : TProgram) → IsProgramOf name held k p → HasFewParts k → IsReady p k
ready name held k p is parts =
    let files : List SourceFile = sources_of is.0 in
    let count = few_declarations name held k is.0 is.1 parts in
    let accepted = accepted_is files p is.2 in
    let numbers = few p (length (declarations files)) accepted in
    let objects : length p.globals + length p.literals < 2147483648 = omega (arith, numbers.0, count, literals_written files p is.2, few_written name held k is.0 is.1 parts) in
    let at : IsPlaceable p (grants_of p k) k = placeable p (length (declarations files)) accepted (grants_of p k) k (length-map p.globals (pair_of k (homes_of k))) parts.compartments objects in
    record {
      functions = omega (arith, numbers.1, count);
      libraries = parts.libraries;
      compartments = parts.compartments;
      structs = at.structs;
      globals = at.globals;
      objects = at.objects;
      texts = at.texts;
    }
