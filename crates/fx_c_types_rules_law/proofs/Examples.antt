-- Trees by hand, from the rules of C11.
use Rattle.std.proofs.Common.{◌≡◌, false, [], ◌∷◌, length, refl, arith}
use Rattle.fx_c_ast.specs.declared.operator.IntType.TheVariants.{Char, Int, Uint, Long}
use Rattle.fx_c_ast.specs.declared.operator.Unop.TheVariants.{Neg}
use Rattle.fx_c_ast.specs.declared.operator.Binop.TheVariants.{Add, Shl}
use Rattle.fx_c_ast.specs.ParsedTrees.{NumberTree, TextTree, UnTree, BinTree, IndexTree, BreakTree}
use Rattle.fx_c_ast.specs.CheckedTrees.{IntTy, PtrTy, ArrayTy, ENumber, ELiteral, EUn, EBin, EConvert, EIndex, TStmtTree}
use Rattle.fx_c_types_rules.specs.Structs.{place_32}
use Rattle.fx_c_types_bodies.specs.Bodies.{ScopeTree, BodyTree}
use Rattle.fx_c_types_rules_law.specs.Types.{integer_itself, integer_complete}
use Rattle.fx_c_types_rules_law.specs.Values.{array_value, own_value, unconverted, converted_to}
use Rattle.fx_c_types_rules_law.specs.Operators as operator
use Rattle.fx_c_types_rules_law.specs.Expressions.{HasType, with_string, number, string, unary_operator, binary_operator, index}
use Rattle.fx_c_types_rules_law.specs.Statements.{MeansStatement}

int_is_not_long : IntTy Int ≡ IntTy Long → ⊥
int_is_not_long h = cc

char_is_not_int : IntTy Char ≡ IntTy Int → ⊥
char_is_not_int h = cc

-- 1 + 2L: the int becomes a long
example-sum : (s : ScopeTree) (b : BodyTree) → HasType s b (BinTree Add (NumberTree 1 Int) (NumberTree 2 Long)) (EBin (IntTy Long) Add (EConvert (IntTy Long) (ENumber (IntTy Int) 1)) (ENumber (IntTy Long) 2)) b
example-sum s b = binary_operator number number (own_value integer_itself) (own_value integer_itself) (operator.arithmetic operator.sum refl refl (converted_to int_is_not_long) (unconverted refl))

-- 1U << 2L: neither operand takes the other's type
example-shift : (s : ScopeTree) (b : BodyTree) → HasType s b (BinTree Shl (NumberTree 1 Uint) (NumberTree 2 Long)) (EBin (IntTy Uint) Shl (ENumber (IntTy Uint) 1) (ENumber (IntTy Long) 2)) b
example-shift s b = binary_operator number number (own_value integer_itself) (own_value integer_itself) (operator.shift operator.left_shift refl refl (unconverted refl) (unconverted refl))

-- -"a"[0]: the array becomes a pointer, and the char an int
example-element : (s : ScopeTree) (b : BodyTree) → HasType s b (UnTree Neg (IndexTree (TextTree (97 ∷ [])) (NumberTree 0 Int)))
    (EUn (IntTy Int) Neg (EConvert (IntTy Int) (EIndex (IntTy Char) (EConvert (PtrTy (IntTy Char)) (ELiteral (ArrayTy (IntTy Char) 2) (place_32 (length b.literals)))) (ENumber (IntTy Int) 0))))
    (with_string b (97 ∷ []))
example-element s b =
    unary_operator (index (string (omega arith)) number (array_value refl) (own_value integer_itself) (operator.element refl refl integer_complete))
    (operator.negation (own_value integer_itself) refl (converted_to char_is_not_int))

-- no `break` outside a loop
example-break : (s : ScopeTree) (b c : BodyTree) (u : TStmtTree) → MeansStatement s false b BreakTree u c → ⊥
example-break s b c u h = elim h [ ]
