use Rattle.std.proofs.Common.{◌≡◌, map, take}
use Rattle.fx_c_ast.specs.declared.checked.TFunction.{TFunction}
use Rattle.fx_c_ast.specs.CheckedTrees.{struct_types}
use Rattle.fx_c_mean_model.specs.Programs.{program_of, function_of}
use Rattle.fx_c_lin.specs.Ops.{step_of}
use Rattle.fx_c_lin.specs.declared.op.Step as declared
use Rattle.std.specs.Prelude.{List}
use Rattle.fx_c_lower_model.specs.Code.{function_code}
use Rattle.fx_c_lower.proofs.lower.lower.Given as goal

abbrev pub invariant-loop-f : goal.invariant-loop-f
invariant-loop-f l = map (λ (all : List declared.Step). map step_of all) l.functions.items
    ≡ map (λ (f : TFunction). function_code (program_of l.p)
    (function_of (struct_types l.p.structs) f)) (take l.f-index l.p.functions)
