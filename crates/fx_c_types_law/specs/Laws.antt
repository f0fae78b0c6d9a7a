-- What later stages need of a program that the check accepts.
use Rattle.std.specs.Prelude.{◌≡◌, false, true, ◌+◌, ◌<◌, ◌≤◌, ◌^◌, List, length, All, HoldsAt}
use Rattle.fx_config.specs.declared.configuration.Config.{Config}
use Rattle.fx_c_ast.specs.declared.checked.TFunction.{TFunction}
use Rattle.fx_c_ast.specs.declared.checked.TProgram.{TProgram}
use Rattle.fx_c_ast.specs.CheckedTrees.{ty_tree, tstmt_trees}
use Rattle.fx_c_types_rules.specs.Types.{category}
use Rattle.fx_shadow.specs.Frames.{HasFrames}
use Rattle.fx_grants.specs.declared.grants.Grants.{Grants}
use Rattle.fx_sections.specs.Placement.{IsPlaceable}
use Rattle.fx_c_types.specs.declared.program.SourceFile.{SourceFile}
use Rattle.fx_c_types_model.specs.Jumps.{all_inside}
use Rattle.fx_c_types.specs.WellTyped.{WellTyped}
use Rattle.fx_c_types.specs.Programs.{gives_status}
use Rattle.fx_c_types.specs.ProgramView.{declarations}

-- structs, parameters and locals have sizes, and a call of each function takes at most 65,536 bytes of stack
abbrev pub CheckedProgramsHaveFrames : Type 0
CheckedProgramsHaveFrames = (files : List SourceFile) (p : TProgram) → WellTyped files p → HasFrames p

-- globals have sizes too, and no text is longer than a type may be: with a pair of readers and writers for each
-- global, and fewer than 2^31 globals and strings, the program can be placed or is refused for its size
abbrev pub CheckedProgramsArePlaceable : Type 0
CheckedProgramsArePlaceable = (files : List SourceFile) (p : TProgram) (g : Grants) (k : Config) → WellTyped files p
    → length g.globals ≡ length p.globals → length k.compartments ≤ 16
    → length p.globals + length p.literals < 2 ^ 31 → IsPlaceable p g k

-- there are no more globals, and no more functions, than declarations
abbrev pub CheckedProgramsAreFew : Type 0
CheckedProgramsAreFew = (files : List SourceFile) (p : TProgram) → WellTyped files p
    → (length p.globals ≤ length (declarations files)) × (length p.functions ≤ length (declarations files))

-- a function takes at most six parameters, and the one that the program begins with is there, takes none and gives an
-- integer or nothing
abbrev pub CheckedProgramsStart : Type 0
CheckedProgramsStart = (files : List SourceFile) (p : TProgram) → WellTyped files p
    → All (λ (f : TFunction). f.params ≤ 6) p.functions
    × (p.main < length p.functions)
    × HoldsAt (λ (f : TFunction). (f.params ≡ 0) × (gives_status (category (ty_tree f.result)) ≡ true)) p.functions p.main

-- each `break` and `continue` stands in a loop
abbrev pub CheckedProgramsJumpInLoops : Type 0
CheckedProgramsJumpInLoops = (files : List SourceFile) (p : TProgram) → WellTyped files p
    → All (λ (f : TFunction). all_inside false (tstmt_trees f.body.items) ≡ true) p.functions
