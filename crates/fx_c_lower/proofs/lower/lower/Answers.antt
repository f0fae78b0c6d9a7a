use Rattle.std.proofs.Common.{◌≡◌, ◌≤◌, List, [], ◌∷◌, length, map, ap, refl, ◌∙◌, arith}
use Rattle.std.proofs.lemmas.List.{take_all}
use Rattle.fx_c_ast.specs.declared.checked.TFunction.{TFunction}
use Rattle.fx_c_ast.specs.CheckedTrees.{TyTree, struct_types}
use Rattle.fx_c_mean_model.specs.Programs.{Program, program_of, function_of}
use Rattle.fx_c_lin.specs.Ops.{Step, step_of}
use Rattle.fx_c_lin.specs.declared.op.Step as declared
use Rattle.fx_c_lower_model.specs.Code.{function_code}
use Rattle.fx_c_lower.proofs.lower.lower.Goals as goal

-- the code of each function of a list, and of what the list's functions are as plain data
code_is : (p : Program) (all : List (List TyTree)) (fs : List TFunction)
    → map (λ (f : TFunction). function_code p (function_of all f)) fs
    ≡ map (function_code p) (map (function_of all) fs)
code_is p all [] = refl
code_is p all (f ∷ fs) = ap (λ (rest : List (List Step)). function_code p
    (function_of all f) ∷ rest) (code_is p all fs)

pub returns : goal.returns
returns c =
    let p = program_of c.args.p.now in
    let all = struct_types c.args.p.now.structs in
    let fs = c.args.p.now.functions in
    let many : length c.as_slice-f-items.result.now
    ≡ length fs = ap length c.as_slice-f-items.ensures in
    let past : length fs ≤ c.loop-f.f-index = omega arith in
    ap (λ (codes : List (List declared.Step)). map
    (λ (steps : List declared.Step). map step_of steps) codes) c.from_vec.ensures
    ∙ c.loop-f.invariant
    ∙ ap (λ (some : List TFunction). map (λ (f : TFunction). function_code p (function_of all f))
    some) (take_all c.loop-f.f-index fs past)
    ∙ code_is p all fs
