-- What the functions of this crate are told, as plain data.
use Rattle.std.specs.Prelude.{ℕ, List, map}
use Rattle.fx_c_mean_model.specs.Programs.{Program, program_of}
use Rattle.fx_c_mean_model.specs.States.{Way, Plainly, ByGate}
use Rattle.fx_c_lin.specs.Ops.{Step, step_of}
use Rattle.fx_c_lower_model.specs.Direct as direct
use Rattle.fx_c_lower_tables.specs.declared.sizes.Sizes.{Sizes}
use Rattle.fx_c_lower.specs.declared.output.Output.{Output}
use Rattle.fx_c_lower.specs.declared.direct.Simple.{Simple}
use Rattle.fx_c_lower.specs.declared.direct.Simple.TheVariants as variant
use Rattle.fx_c_lower.specs.declared.pieces.Callee.{Callee}
use Rattle.fx_c_lower.specs.declared.pieces.Callee.TheVariants as callee

-- the steps that were made
abbrev pub made : Output → List Step
made out = map step_of out.steps.items

-- the program that is lowered
abbrev pub source : Sizes → Program
source s = program_of s.program.now

abbrev pub direct_of : Simple → direct.Direct
direct_of (variant.Constant word cost) = direct.Constant word cost
direct_of (variant.Whole n) = direct.Whole n
direct_of variant.Other = direct.Other

abbrev pub way_of : Callee → Way
way_of (callee.Function f) = Plainly
way_of (callee.Entry f) = ByGate

abbrev pub number_of : Callee → ℕ
number_of (callee.Function f) = f
number_of (callee.Entry f) = f
