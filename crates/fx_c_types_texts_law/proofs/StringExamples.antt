-- Strings counted by hand.
use Rattle.std.proofs.Common.{◌≡◌, false, [], ◌∷◌, Some, refl}
use Rattle.std.specs.Prelude.{codes}
use Rattle.fx_c_ast.specs.declared.operator.IntType.TheVariants.{Char}
use Rattle.fx_c_ast.specs.declared.parsed.Grant.TheVariants.{Private}
use Rattle.fx_c_ast.specs.declared.parsed.Init.TheVariants.{Text}
use Rattle.fx_c_ast.specs.ParsedTrees.{VoidType, IntegerType, PointerType, ArrayType, TextTree, CallTree, IndexTree, MoreExprs, NoExprs, LocalTree, EvalTree, MoreStmts, NoStmts, GlobalTree, FunctionTree}
use Rattle.fx_c_types_texts_law.specs.Strings.{strings, unit_strings}

-- f("a", "b")["c"]
call_of_two : strings (IndexTree (CallTree (codes "f") (MoreExprs (TextTree (codes "a")) (MoreExprs (TextTree (codes "b")) NoExprs))) (TextTree (codes "c"))) ≡ 3
call_of_two = refl

-- char g[3] = "ab"; void main(void) { char *p = "a"; puts("b"); }
global_has_none : unit_strings (
    GlobalTree Private Private (ArrayType (IntegerType Char) 3) (codes "g") (Text (codes "ab"))
    ∷ FunctionTree false VoidType (codes "main") [] (
    MoreStmts (LocalTree false (PointerType (IntegerType Char)) (codes "p") (Some (TextTree (codes "a"))))
    (MoreStmts (EvalTree (CallTree (codes "puts") (MoreExprs (TextTree (codes "b")) NoExprs))) NoStmts))
    ∷ []) ≡ 2
global_has_none = refl
