use Rattle.std.proofs.Common.{◌∙◌, [], ◌∷◌, ◌++◌, true, false, refl, ap}
use Rattle.fx_c_ast.specs.declared.checked.Ty.{Void, Int}
use Rattle.fx_c_ast.specs.declared.checked.TLocal.{TLocal}
use Rattle.fx_c_ast.specs.declared.checked.TFunction.{TFunction}
use Rattle.fx_c_ast.specs.declared.operator.IntType.TheVariants.{Long, Char}
use Rattle.fx_shadow.proofs.Tried.{two_parameters}
use Rattle.fx_shadow.proofs.tests.one_function.Goals as goal

pub returns-clause-frames : goal.returns-clause-frames
returns-clause-frames c =
    let a : TLocal = record { shared = false; ty = Int Long } in
    let b : TLocal = record { shared = true; ty = Int Char } in
    let f : TFunction = record { library = 0; entry = false; result = Void; name = c.new.result; params = 2; locals = c.from_vec.result; body = c.new-2.result } in
    two_parameters _ f a b c.new-3.ensures
    (c.from_vec-2.ensures ∙ c.in_ok-push-3.ensures.items ∙ ap (λ l. l ++ f ∷ []) c.new-functions.ensures.items)
    (c.from_vec.ensures ∙ c.in_ok-push-2.ensures.items ∙ ap (λ l. l ++ b ∷ []) (c.in_ok-push.ensures.items ∙ ap (λ l. l ++ a ∷ []) c.new-locals.ensures.items))
    refl refl c.new-2.ensures.items
