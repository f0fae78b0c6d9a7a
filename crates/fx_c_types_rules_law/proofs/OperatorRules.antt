-- The judgements of operators, and the definitions that decide them.
use Rattle.std.proofs.Common.{◌≡◌, ℕ, ◌&&◌, Bool, true, false, nat_lt, List, [], Option, Some, None, refl, sym, ap, ◌∙◌, subst, Ok}
use Rattle.std.specs.Prelude.{slice_get, if◌then◌else◌}
use Rattle.std.proofs.lemmas.Bool.{ltb-true, lt-ltb, and_parts, and_from}
use Rattle.fx_c_ast.specs.declared.operator.IntType.{IntType}
use Rattle.fx_c_ast.specs.declared.operator.IntType.TheVariants.{Int, Long}
use Rattle.fx_c_ast.specs.declared.operator.Unop.{Unop}
use Rattle.fx_c_ast.specs.declared.operator.Unop.TheVariants.{Neg, Not, Lnot, Deref, Addr}
use Rattle.fx_c_ast.specs.declared.operator.Binop.{Binop}
use Rattle.fx_c_ast.specs.declared.operator.Binop.TheVariants.{Add, Sub, Mul, Div, Rem, Shl, Shr, Lt, Gt, Le, Ge, Eq, Ne, And, Xor, Or, Land, Lor}
use Rattle.fx_c_ast.specs.CheckedTrees.{TyTree, IntTy, StructTy, PtrTy, TExprTree, EUn, EBin, EConvert, EIndex}
use Rattle.fx_c_types_rules.specs.declared.category.Category.TheVariants.{Integer, Pointer}
use Rattle.fx_c_types_rules.specs.Checks.{◌>>=◌, demand}
use Rattle.fx_c_types_rules.specs.declared.fault.TypeKind.TheVariants.{NotPointer, Mismatch}
use Rattle.fx_c_types_rules.specs.Types.{promoted, common, category, pointee, same_type, is_complete}
use Rattle.fx_c_types_rules.specs.Values.{type_of, converted, value_of, integer_of, condition, pointers_agree}
use Rattle.fx_c_types_rules.specs.Operators.{signed, negated, pointed, dereferenced, unary, arithmetic, shifted, logical, moved, sum_of, distance, difference_of, numbers_compared, compared_as, common_pointer, compared_of, compared, binary_values, cast_of, cast, element_of, element}
use Rattle.fx_c_types_rules.specs.Structs.{StructTree, member_at, members_of, struct_members, member_node, member_in, member, arrow_node, arrow_target, arrow_to, arrow}
use Rattle.fx_c_types_rules_law.specs.Types.{IsComplete}
use Rattle.fx_c_types_rules_law.specs.Values.{HasValue, Converts, unconverted, converted_to, HaveCommonPointer, IsTested}
use Rattle.fx_c_types_rules_law.specs.Operators as judged
use Rattle.fx_c_types_rules_law.specs.Operators.{UnaryGives, BinaryGives, CastGives, IndexGives, IsMember, member_named, MemberGives, member_of, ArrowGives, member_through, IsArithmetic, IsShift, IsComparison, IsLogical}
use Rattle.fx_c_types_rules_law.proofs.Ends.{Ends, answered, refused, bind_ends, demand_ends}
use Rattle.fx_c_types_rules_law.proofs.TypeRules.{same_is, same_self, complete_is, complete_holds}
use Rattle.fx_c_types_rules_law.proofs.ValueRules.{lvalue_is, lvalue_holds, value_is, value_holds, converts_is, converts_holds, null_is, null_holds, common_is, common_agrees, common_holds, integer_is, integer_holds, tested_is, tested_holds}

-- ---- one operand

pointed_is : (declared : ℕ) (t : TyTree) (e v : TExprTree) → HasValue e v → type_of v ≡ t → Ends (UnaryGives declared Deref e) (pointed declared (category t) v)
pointed_is declared (PtrTy t) e v value is =
    rw is (demand_ends _ _ _ (λ complete. answered (judged.indirection value is (complete_is declared t complete))))
pointed_is declared t e v value is = refused

pub unary_is : (declared : ℕ) (op : Unop) (e : TExprTree) → Ends (UnaryGives declared op e) (unary declared op e)
unary_is declared Neg e = bind_ends _ _ (integer_is (value_of e)) (λ i is. answered (judged.negation (value_is e) is (converts_is (IntTy (promoted i)) (value_of e))))
unary_is declared Not e = bind_ends _ _ (integer_is (value_of e)) (λ i is. answered (judged.complement (value_is e) is (converts_is (IntTy (promoted i)) (value_of e))))
unary_is declared Lnot e = bind_ends _ _ (tested_is (value_of e)) (λ w is. answered (judged.logical_negation (value_is e) is))
unary_is declared Deref e = pointed_is declared (type_of (value_of e)) e (value_of e) (value_is e) refl
unary_is declared Addr e = demand_ends _ _ _ (λ object. answered (judged.address (lvalue_is e object)))

signed_holds : (op : Unop) (v w : TExprTree) (i : IntType) → type_of v ≡ IntTy i → Converts (IntTy (promoted i)) v w → signed op v ≡ Ok (EUn (IntTy (promoted i)) op w)
signed_holds op v w i is c = ap (λ r. r >>= (λ i. Ok (EUn (IntTy (promoted i)) op (converted (IntTy (promoted i)) v)))) (integer_holds v i is) ∙ ap (λ x. Ok (EUn (IntTy (promoted i)) op x)) (converts_holds c)

pointed_holds : (declared : ℕ) (v : TExprTree) (t : TyTree) → type_of v ≡ PtrTy t → IsComplete declared t → dereferenced declared v ≡ Ok (EUn t Deref v)
pointed_holds declared v t is complete =
    ap (λ u. pointed declared (category u) v) is
    ∙ ap (λ u. demand (is_complete declared (pointee u)) NotPointer (Ok (EUn (pointee u) Deref v))) is
    ∙ rw (complete_holds complete) refl

pub unary_holds : {declared : ℕ} {op : Unop} {e t : TExprTree} → UnaryGives declared op e t → unary declared op e ≡ Ok t
unary_holds (judged.negation {declared} {e} {v} {w} {i} value is c) = ap (signed Neg) (value_holds value) ∙ signed_holds Neg v w i is c
unary_holds (judged.complement {declared} {e} {v} {w} {i} value is c) = ap (signed Not) (value_holds value) ∙ signed_holds Not v w i is c
unary_holds (judged.logical_negation {declared} {e} {v} {w} value is) = ap negated (value_holds value) ∙ ap (λ r. r >>= (λ x. Ok (EUn (IntTy Int) Lnot x))) (tested_holds is)
unary_holds (judged.indirection {declared} {e} {v} {t} value is complete) = ap (dereferenced declared) (value_holds value) ∙ pointed_holds declared v t is complete
unary_holds (judged.address {declared} {e} object) = rw (lvalue_holds object) refl

-- ---- two operands

arithmetic_is : (declared : ℕ) (op : Binop) (a b : TExprTree) → IsArithmetic op → Ends (BinaryGives declared op a b) (arithmetic op a b)
arithmetic_is declared op a b h =
    bind_ends _ _ (integer_is a) (λ i is. bind_ends _ _ (integer_is b) (λ j js.
    answered (judged.arithmetic h is js (converts_is (IntTy (common i j)) a) (converts_is (IntTy (common i j)) b))))

shifted_is : (declared : ℕ) (op : Binop) (a b : TExprTree) → IsShift op → Ends (BinaryGives declared op a b) (shifted op a b)
shifted_is declared op a b h =
    bind_ends _ _ (integer_is a) (λ i is. bind_ends _ _ (integer_is b) (λ j js.
    answered (judged.shift h is js (converts_is (IntTy (promoted i)) a) (converts_is (IntTy (promoted j)) b))))

logical_is : (declared : ℕ) (op : Binop) (a b : TExprTree) → IsLogical op → Ends (BinaryGives declared op a b) (logical op a b)
logical_is declared op a b h = bind_ends _ _ (tested_is a) (λ v is. bind_ends _ _ (tested_is b) (λ w js. answered (judged.logical h is js)))

sum_is : (declared : ℕ) (t u : TyTree) (a b : TExprTree) → type_of a ≡ t → type_of b ≡ u → Ends (BinaryGives declared Add a b) (sum_of declared (category t) (category u) a b)
sum_is declared (PtrTy t) (IntTy j) a b is js = rw is (demand_ends _ _ _ (λ complete. answered (judged.pointer_plus_integer is js (complete_is declared t complete))))
sum_is declared (IntTy i) (PtrTy t) a b is js = rw js (demand_ends _ _ _ (λ complete. answered (judged.integer_plus_pointer is js (complete_is declared t complete))))
sum_is declared t u a b is js = arithmetic_is declared Add a b judged.sum

distance_is : (declared : ℕ) (s t : TyTree) (a b : TExprTree) → type_of a ≡ PtrTy s → type_of b ≡ PtrTy t → Ends (BinaryGives declared Sub a b) (distance declared a b)
distance_is declared s t a b is js =
    demand_ends _ _ _ (λ complete. demand_ends _ _ _ (λ same.
    let both = and_parts (is_complete declared (pointee (type_of a))) (is_complete declared (pointee (type_of b))) complete in
    let first : is_complete declared s ≡ true = subst (λ u. is_complete declared (pointee u) ≡ true) is both.0 in
    answered (judged.pointer_minus_pointer is (sym (same_is (type_of a) (type_of b) same) ∙ is) (complete_is declared s first))))

difference_is : (declared : ℕ) (t u : TyTree) (a b : TExprTree) → type_of a ≡ t → type_of b ≡ u → Ends (BinaryGives declared Sub a b) (difference_of declared (category t) (category u) a b)
difference_is declared (PtrTy t) (IntTy j) a b is js = rw is (demand_ends _ _ _ (λ complete. answered (judged.pointer_minus_integer is js (complete_is declared t complete))))
difference_is declared (PtrTy s) (PtrTy t) a b is js = distance_is declared s t a b is js
difference_is declared t u a b is js = arithmetic_is declared Sub a b judged.difference

numbers_is : (declared : ℕ) (op : Binop) (a b : TExprTree) → IsComparison op → Ends (BinaryGives declared op a b) (numbers_compared op a b)
numbers_is declared op a b h =
    bind_ends _ _ (integer_is a) (λ i is. bind_ends _ _ (integer_is b) (λ j js.
    answered (judged.integers_compared h is js (converts_is (IntTy (common i j)) a) (converts_is (IntTy (common i j)) b))))

pub converted_self : (e : TExprTree) (t : TyTree) → type_of e ≡ t → converted t e ≡ e
converted_self e t is = converts_holds (unconverted is)

pub converted_other : (e : TExprTree) (t u : TyTree) → type_of e ≡ u → (u ≡ t → ⊥) → converted t e ≡ EConvert t e
converted_other e t u is other = converts_holds (converted_to (λ same. other (sym is ∙ same)))

no_pointer : (j : IntType) (t : TyTree) → IntTy j ≡ PtrTy t → ⊥
no_pointer j t h = cc

agreed_is : (declared : ℕ) (op : Binop) (s t : TyTree) (a b : TExprTree) → IsComparison op → type_of a ≡ PtrTy s → type_of b ≡ PtrTy t → (x y : TyTree) → x ≡ PtrTy s → y ≡ PtrTy t → Ends (BinaryGives declared op a b) (demand (pointers_agree x y) Mismatch (Ok (compared_as op (common_pointer x y) a b)))
agreed_is declared op s t a b h is js x y xs ys = rw (xs, ys) (demand_ends _ _ _ (λ agree.
    answered (judged.pointers_compared h is js (common_is s t agree) (converts_is (common_pointer (PtrTy s) (PtrTy t)) a) (converts_is (common_pointer (PtrTy s) (PtrTy t)) b))))

compared_is : (declared : ℕ) (op : Binop) (t u : TyTree) (a b : TExprTree) → IsComparison op → type_of a ≡ t → type_of b ≡ u → Ends (BinaryGives declared op a b) (compared_of op (category t) (category u) a b)
compared_is declared op (PtrTy s) (PtrTy t) a b h is js = agreed_is declared op s t a b h is js (type_of a) (type_of b) is js
compared_is declared op (PtrTy t) (IntTy j) a b h is js = demand_ends _ _ _ (λ null.
    let one : compared_as op (type_of a) a b ≡ EBin (IntTy Int) op a (EConvert (PtrTy t) b) =
    ap (λ x. compared_as op x a b) is ∙ ap (λ x. EBin (IntTy Int) op x (converted (PtrTy t) b)) (converted_self a (PtrTy t) is) ∙ ap (EBin (IntTy Int) op a) (converted_other b (PtrTy t) (IntTy j) js (no_pointer j t)) in
    answered (subst (BinaryGives declared op a b) (sym one) (judged.pointer_with_null h is js (null_is b null))))
compared_is declared op (IntTy i) (PtrTy t) a b h is js = demand_ends _ _ _ (λ null.
    let one : compared_as op (type_of b) a b ≡ EBin (IntTy Int) op (EConvert (PtrTy t) a) b =
    ap (λ x. compared_as op x a b) js ∙ ap (λ x. EBin (IntTy Int) op (converted (PtrTy t) a) x) (converted_self b (PtrTy t) js) ∙ ap (λ x. EBin (IntTy Int) op x b) (converted_other a (PtrTy t) (IntTy i) is (no_pointer i t)) in
    answered (subst (BinaryGives declared op a b) (sym one) (judged.null_with_pointer h is js (null_is a null))))
compared_is declared op t u a b h is js = numbers_is declared op a b h

pub binary_is : (declared : ℕ) (op : Binop) (a b : TExprTree) → Ends (BinaryGives declared op a b) (binary_values declared op a b)
binary_is declared Add a b = sum_is declared (type_of a) (type_of b) a b refl refl
binary_is declared Sub a b = difference_is declared (type_of a) (type_of b) a b refl refl
binary_is declared Mul a b = arithmetic_is declared Mul a b judged.product
binary_is declared Div a b = arithmetic_is declared Div a b judged.quotient
binary_is declared Rem a b = arithmetic_is declared Rem a b judged.remainder
binary_is declared Shl a b = shifted_is declared Shl a b judged.left_shift
binary_is declared Shr a b = shifted_is declared Shr a b judged.right_shift
binary_is declared Lt a b = compared_is declared Lt (type_of a) (type_of b) a b judged.less refl refl
binary_is declared Gt a b = compared_is declared Gt (type_of a) (type_of b) a b judged.greater refl refl
binary_is declared Le a b = compared_is declared Le (type_of a) (type_of b) a b judged.at_most refl refl
binary_is declared Ge a b = compared_is declared Ge (type_of a) (type_of b) a b judged.at_least refl refl
binary_is declared Eq a b = compared_is declared Eq (type_of a) (type_of b) a b judged.equal refl refl
binary_is declared Ne a b = compared_is declared Ne (type_of a) (type_of b) a b judged.unequal refl refl
binary_is declared And a b = arithmetic_is declared And a b judged.bitwise_and
binary_is declared Xor a b = arithmetic_is declared Xor a b judged.exclusive_or
binary_is declared Or a b = arithmetic_is declared Or a b judged.inclusive_or
binary_is declared Land a b = logical_is declared Land a b judged.logical_and
binary_is declared Lor a b = logical_is declared Lor a b judged.logical_or

arithmetic_holds : (op : Binop) (a b v w : TExprTree) (i j : IntType) → type_of a ≡ IntTy i → type_of b ≡ IntTy j → Converts (IntTy (common i j)) a v → Converts (IntTy (common i j)) b w → arithmetic op a b ≡ Ok (EBin (IntTy (common i j)) op v w)
arithmetic_holds op a b v w i j is js c d =
    ap (λ r. r >>= (λ i. integer_of b >>= (λ j. Ok (EBin (IntTy (common i j)) op (converted (IntTy (common i j)) a) (converted (IntTy (common i j)) b))))) (integer_holds a i is)
    ∙ ap (λ r. r >>= (λ j. Ok (EBin (IntTy (common i j)) op (converted (IntTy (common i j)) a) (converted (IntTy (common i j)) b)))) (integer_holds b j js)
    ∙ ap (λ x. Ok (EBin (IntTy (common i j)) op x (converted (IntTy (common i j)) b))) (converts_holds c) ∙ ap (λ x. Ok (EBin (IntTy (common i j)) op v x)) (converts_holds d)

numbers_holds : (op : Binop) (a b v w : TExprTree) (i j : IntType) → type_of a ≡ IntTy i → type_of b ≡ IntTy j → Converts (IntTy (common i j)) a v → Converts (IntTy (common i j)) b w → numbers_compared op a b ≡ Ok (EBin (IntTy Int) op v w)
numbers_holds op a b v w i j is js c d =
    ap (λ r. r >>= (λ i. integer_of b >>= (λ j. Ok (EBin (IntTy Int) op (converted (IntTy (common i j)) a) (converted (IntTy (common i j)) b))))) (integer_holds a i is)
    ∙ ap (λ r. r >>= (λ j. Ok (EBin (IntTy Int) op (converted (IntTy (common i j)) a) (converted (IntTy (common i j)) b)))) (integer_holds b j js)
    ∙ ap (λ x. Ok (EBin (IntTy Int) op x (converted (IntTy (common i j)) b))) (converts_holds c) ∙ ap (λ x. Ok (EBin (IntTy Int) op v x)) (converts_holds d)

shifted_holds : (op : Binop) (a b v w : TExprTree) (i j : IntType) → type_of a ≡ IntTy i → type_of b ≡ IntTy j → Converts (IntTy (promoted i)) a v → Converts (IntTy (promoted j)) b w → shifted op a b ≡ Ok (EBin (IntTy (promoted i)) op v w)
shifted_holds op a b v w i j is js c d =
    ap (λ r. r >>= (λ i. integer_of b >>= (λ j. Ok (EBin (IntTy (promoted i)) op (converted (IntTy (promoted i)) a) (converted (IntTy (promoted j)) b))))) (integer_holds a i is)
    ∙ ap (λ r. r >>= (λ j. Ok (EBin (IntTy (promoted i)) op (converted (IntTy (promoted i)) a) (converted (IntTy (promoted j)) b)))) (integer_holds b j js)
    ∙ ap (λ x. Ok (EBin (IntTy (promoted i)) op x (converted (IntTy (promoted j)) b))) (converts_holds c) ∙ ap (λ x. Ok (EBin (IntTy (promoted i)) op v x)) (converts_holds d)

logical_holds : (op : Binop) (a b v w : TExprTree) → IsTested a v → IsTested b w → logical op a b ≡ Ok (EBin (IntTy Int) op v w)
logical_holds op a b v w is js =
    ap (λ r. r >>= (λ a. condition b >>= (λ b. Ok (EBin (IntTy Int) op a b)))) (tested_holds is)
    ∙ ap (λ r. r >>= (λ b. Ok (EBin (IntTy Int) op v b))) (tested_holds js)

moved_holds : (declared : ℕ) (op : Binop) (a b : TExprTree) (x t : TyTree) → x ≡ PtrTy t → IsComplete declared t → moved declared op x a b ≡ Ok (EBin (PtrTy t) op a b)
moved_holds declared op a b x t is complete = ap (λ u. demand (is_complete declared (pointee u)) NotPointer (Ok (EBin u op a b))) is ∙ rw (complete_holds complete) refl

sum_at : (declared : ℕ) (a b : TExprTree) (t u : TyTree) → type_of a ≡ t → type_of b ≡ u → sum_of declared (category (type_of a)) (category (type_of b)) a b ≡ sum_of declared (category t) (category u) a b
sum_at declared a b t u is js = ap (λ x. sum_of declared (category x) (category (type_of b)) a b) is ∙ ap (λ x. sum_of declared (category t) (category x) a b) js

difference_at : (declared : ℕ) (a b : TExprTree) (t u : TyTree) → type_of a ≡ t → type_of b ≡ u → difference_of declared (category (type_of a)) (category (type_of b)) a b ≡ difference_of declared (category t) (category u) a b
difference_at declared a b t u is js = ap (λ x. difference_of declared (category x) (category (type_of b)) a b) is ∙ ap (λ x. difference_of declared (category t) (category x) a b) js

compared_at : (op : Binop) (a b : TExprTree) (t u : TyTree) → type_of a ≡ t → type_of b ≡ u → compared op a b ≡ compared_of op (category t) (category u) a b
compared_at op a b t u is js = ap (λ x. compared_of op (category x) (category (type_of b)) a b) is ∙ ap (λ x. compared_of op (category t) (category x) a b) js

arithmetic_rule : {op : Binop} (declared : ℕ) (a b : TExprTree) (i j : IntType) → IsArithmetic op → type_of a ≡ IntTy i → type_of b ≡ IntTy j → binary_values declared op a b ≡ arithmetic op a b
arithmetic_rule declared a b i j judged.sum is js = sum_at declared a b (IntTy i) (IntTy j) is js
arithmetic_rule declared a b i j judged.difference is js = difference_at declared a b (IntTy i) (IntTy j) is js
arithmetic_rule declared a b i j judged.product is js = refl
arithmetic_rule declared a b i j judged.quotient is js = refl
arithmetic_rule declared a b i j judged.remainder is js = refl
arithmetic_rule declared a b i j judged.bitwise_and is js = refl
arithmetic_rule declared a b i j judged.exclusive_or is js = refl
arithmetic_rule declared a b i j judged.inclusive_or is js = refl

shift_rule : {op : Binop} (declared : ℕ) (a b : TExprTree) → IsShift op → binary_values declared op a b ≡ shifted op a b
shift_rule declared a b judged.left_shift = refl
shift_rule declared a b judged.right_shift = refl

comparison_rule : {op : Binop} (declared : ℕ) (a b : TExprTree) → IsComparison op → binary_values declared op a b ≡ compared op a b
comparison_rule declared a b judged.less = refl
comparison_rule declared a b judged.greater = refl
comparison_rule declared a b judged.at_most = refl
comparison_rule declared a b judged.at_least = refl
comparison_rule declared a b judged.equal = refl
comparison_rule declared a b judged.unequal = refl

logical_rule : {op : Binop} (declared : ℕ) (a b : TExprTree) → IsLogical op → binary_values declared op a b ≡ logical op a b
logical_rule declared a b judged.logical_and = refl
logical_rule declared a b judged.logical_or = refl

pointers_hold : (op : Binop) (a b v w : TExprTree) (s t u x y : TyTree) → x ≡ PtrTy s → y ≡ PtrTy t → HaveCommonPointer (PtrTy s) (PtrTy t) u → Converts u a v → Converts u b w → demand (pointers_agree x y) Mismatch (Ok (compared_as op (common_pointer x y) a b)) ≡ Ok (EBin (IntTy Int) op v w)
pointers_hold op a b v w s t u x y xs ys c d e =
    ap (λ z. demand (pointers_agree z y) Mismatch (Ok (compared_as op (common_pointer z y) a b))) xs
    ∙ ap (λ z. demand (pointers_agree (PtrTy s) z) Mismatch (Ok (compared_as op (common_pointer (PtrTy s) z) a b))) ys
    ∙ ap (λ z. demand z Mismatch (Ok (compared_as op (common_pointer (PtrTy s) (PtrTy t)) a b))) (common_agrees c)
    ∙ ap (λ z. Ok (compared_as op z a b)) (common_holds c)
    ∙ ap (λ z. Ok (EBin (IntTy Int) op z (converted u b))) (converts_holds d) ∙ ap (λ z. Ok (EBin (IntTy Int) op v z)) (converts_holds e)

null_right : (op : Binop) (a b : TExprTree) (t : TyTree) (j : IntType) → type_of a ≡ PtrTy t → type_of b ≡ IntTy j → compared_as op (type_of a) a b ≡ EBin (IntTy Int) op a (EConvert (PtrTy t) b)
null_right op a b t j is js = ap (λ x. compared_as op x a b) is ∙ ap (λ x. EBin (IntTy Int) op x (converted (PtrTy t) b)) (converted_self a (PtrTy t) is) ∙ ap (EBin (IntTy Int) op a) (converted_other b (PtrTy t) (IntTy j) js (no_pointer j t))

null_left : (op : Binop) (a b : TExprTree) (t : TyTree) (i : IntType) → type_of a ≡ IntTy i → type_of b ≡ PtrTy t → compared_as op (type_of b) a b ≡ EBin (IntTy Int) op (EConvert (PtrTy t) a) b
null_left op a b t i is js = ap (λ x. compared_as op x a b) js ∙ ap (λ x. EBin (IntTy Int) op (converted (PtrTy t) a) x) (converted_self b (PtrTy t) js) ∙ ap (λ x. EBin (IntTy Int) op x b) (converted_other a (PtrTy t) (IntTy i) is (no_pointer i t))

pub binary_holds : {declared : ℕ} {op : Binop} {a b t : TExprTree} → BinaryGives declared op a b t → binary_values declared op a b ≡ Ok t
binary_holds (judged.arithmetic {declared} {op} {a} {b} {v} {w} {i} {j} h is js c d) = arithmetic_rule declared a b i j h is js ∙ arithmetic_holds op a b v w i j is js c d
binary_holds (judged.shift {declared} {op} {a} {b} {v} {w} {i} {j} h is js c d) = shift_rule declared a b h ∙ shifted_holds op a b v w i j is js c d
binary_holds (judged.logical {declared} {op} {a} {b} {v} {w} h is js) = logical_rule declared a b h ∙ logical_holds op a b v w is js
binary_holds (judged.pointer_plus_integer {declared} {a} {b} {t} {j} is js complete) = sum_at declared a b (PtrTy t) (IntTy j) is js ∙ moved_holds declared Add a b (type_of a) t is complete
binary_holds (judged.integer_plus_pointer {declared} {a} {b} {i} {t} is js complete) = sum_at declared a b (IntTy i) (PtrTy t) is js ∙ moved_holds declared Add a b (type_of b) t js complete
binary_holds (judged.pointer_minus_integer {declared} {a} {b} {t} {j} is js complete) = difference_at declared a b (PtrTy t) (IntTy j) is js ∙ moved_holds declared Sub a b (type_of a) t is complete
binary_holds (judged.pointer_minus_pointer {declared} {a} {b} {t} is js complete) =
    difference_at declared a b (PtrTy t) (PtrTy t) is js
    ∙ ap (λ x. demand (is_complete declared (pointee x) && is_complete declared (pointee (type_of b))) NotPointer (demand (same_type x (type_of b)) Mismatch (Ok (EBin (IntTy Long) Sub a b)))) is
    ∙ ap (λ x. demand (is_complete declared t && is_complete declared (pointee x)) NotPointer (demand (same_type (PtrTy t) x) Mismatch (Ok (EBin (IntTy Long) Sub a b)))) js
    ∙ ap (λ x. demand x NotPointer (demand (same_type t t) Mismatch (Ok (EBin (IntTy Long) Sub a b)))) (and_from (is_complete declared t) (is_complete declared t) (complete_holds complete) (complete_holds complete))
    ∙ ap (λ x. demand x Mismatch (Ok (EBin (IntTy Long) Sub a b))) (same_self t)
binary_holds (judged.integers_compared {declared} {op} {a} {b} {v} {w} {i} {j} h is js c d) =
    comparison_rule declared a b h ∙ compared_at op a b (IntTy i) (IntTy j) is js ∙ numbers_holds op a b v w i j is js c d
binary_holds (judged.pointers_compared {declared} {op} {a} {b} {v} {w} {s} {t} {u} h is js c d e) =
    comparison_rule declared a b h ∙ compared_at op a b (PtrTy s) (PtrTy t) is js ∙ pointers_hold op a b v w s t u (type_of a) (type_of b) is js c d e
binary_holds (judged.pointer_with_null {declared} {op} {a} {b} {t} {j} h is js null) =
    comparison_rule declared a b h ∙ compared_at op a b (PtrTy t) (IntTy j) is js
    ∙ ap (λ x. demand x Mismatch (Ok (compared_as op (type_of a) a b))) (null_holds null) ∙ ap Ok (null_right op a b t j is js)
binary_holds (judged.null_with_pointer {declared} {op} {a} {b} {i} {t} h is js null) =
    comparison_rule declared a b h ∙ compared_at op a b (IntTy i) (PtrTy t) is js
    ∙ ap (λ x. demand x Mismatch (Ok (compared_as op (type_of b) a b))) (null_holds null) ∙ ap Ok (null_left op a b t i is js)

-- ---- casts, elements, members

cast_at : (t u : TyTree) (e : TExprTree) → type_of e ≡ u → Ends (CastGives t e) (cast_of (category t) (category u) t e)
cast_at (IntTy i) (IntTy j) e is = answered (judged.integer_cast is)
cast_at (PtrTy s) (PtrTy t) e is = answered (judged.pointer_cast is)
cast_at t u e is = refused

pub cast_is : (t : TyTree) (e : TExprTree) → Ends (CastGives t e) (cast t e)
cast_is t e = cast_at t (type_of e) e refl

pub cast_holds : {t : TyTree} {e x : TExprTree} → CastGives t e x → cast t e ≡ Ok x
cast_holds (judged.integer_cast {i} {j} {e} is) = ap (λ u. cast_of (Integer i) (category u) (IntTy i) e) is
cast_holds (judged.pointer_cast {s} {t} {e} is) = ap (λ u. cast_of Pointer (category u) (PtrTy t) e) is

element_at : (declared : ℕ) (t : TyTree) (a b : TExprTree) → type_of a ≡ t → Ends (IndexGives declared a b) (element_of declared (category t) a b)
element_at declared (PtrTy t) a b is = rw is (bind_ends _ _ (integer_is b) (λ j js. demand_ends _ _ _ (λ complete. answered (judged.element is js (complete_is declared t complete)))))
element_at declared (IntTy i) a b is = bind_ends _ _ (integer_is b) (λ j js. refused)
element_at declared t a b is = refused

pub element_is : (declared : ℕ) (a b : TExprTree) → Ends (IndexGives declared a b) (element declared a b)
element_is declared a b = element_at declared (type_of a) a b refl

pub element_holds : {declared : ℕ} {a b t : TExprTree} → IndexGives declared a b t → element declared a b ≡ Ok t
element_holds (judged.element {declared} {a} {b} {t} {j} is js complete) =
    ap (λ u. element_of declared (category u) a b) is
    ∙ ap (λ u. integer_of b >>= (λ j. demand (is_complete declared (pointee u)) NotPointer (Ok (EIndex (pointee u) a b)))) is
    ∙ rw (integer_holds b j js, complete_holds complete) refl

member_found : (structs : List StructTree) (declared n : ℕ) (name : List ℕ) (b : Bool) (r : Option StructTree) (m : ℕ × TyTree) → nat_lt n declared ≡ b → slice_get structs n ≡ r → member_at 0 name (if b then members_of r else []) ≡ Some m → IsMember structs declared n name m
member_found structs declared n name true (Some st) m less is at = member_named (ltb-true n declared less) is at
member_found structs declared n name true None m less is at = absurd cc
member_found structs declared n name false r m less is at = absurd cc

pub member_held : {structs : List StructTree} {declared n : ℕ} {name : List ℕ} {m : ℕ × TyTree} → IsMember structs declared n name m → member_at 0 name (struct_members structs declared n) ≡ Some m
member_held (member_named {structs} {declared} {n} {name} {st} {m} less is at) =
    ap (λ (b : Bool). member_at 0 name (if b then members_of (slice_get structs n) else [])) (lt-ltb n declared less)
    ∙ ap (λ r. member_at 0 name (members_of r)) is ∙ at

pub declared_struct : {structs : List StructTree} {declared n : ℕ} {name : List ℕ} {m : ℕ × TyTree} → IsMember structs declared n name m → nat_lt n declared ≡ true
declared_struct (member_named {structs} {declared} {n} less is at) = lt-ltb n declared less

member_there : (structs : List StructTree) (declared n : ℕ) (name : List ℕ) (e : TExprTree) (r : Option (ℕ × TyTree)) → type_of e ≡ StructTy n → member_at 0 name (struct_members structs declared n) ≡ r → Ends (MemberGives structs declared name e) (member_node e r)
member_there structs declared n name e None is at = refused
member_there structs declared n name e (Some m) is at = answered (member_of is (member_found structs declared n name (nat_lt n declared) (slice_get structs n) m refl refl at))

member_in_is : (structs : List StructTree) (declared : ℕ) (name : List ℕ) (e : TExprTree) (t : TyTree) → type_of e ≡ t → Ends (MemberGives structs declared name e) (member_in structs declared name e t)
member_in_is structs declared name e (StructTy n) is = member_there structs declared n name e (member_at 0 name (struct_members structs declared n)) is refl
member_in_is structs declared name e t is = refused

pub member_is : (structs : List StructTree) (declared : ℕ) (name : List ℕ) (e : TExprTree) → Ends (MemberGives structs declared name e) (member structs declared name e)
member_is structs declared name e = member_in_is structs declared name e (type_of e) refl

pub member_holds : {structs : List StructTree} {declared : ℕ} {name : List ℕ} {e t : TExprTree} → MemberGives structs declared name e t → member structs declared name e ≡ Ok t
member_holds (member_of {structs} {declared} {n} {name} {e} {m} is has) = ap (λ t. member_in structs declared name e t) is ∙ ap (member_node e) (member_held has)

arrow_there : (structs : List StructTree) (declared n : ℕ) (name : List ℕ) (e : TExprTree) (r : Option (ℕ × TyTree)) → type_of e ≡ PtrTy (StructTy n) → member_at 0 name (struct_members structs declared n) ≡ r → Ends (ArrowGives structs declared name e) (arrow_node e r)
arrow_there structs declared n name e None is at = refused
arrow_there structs declared n name e (Some m) is at = answered (member_through is (member_found structs declared n name (nat_lt n declared) (slice_get structs n) m refl refl at))

arrow_in_is : (structs : List StructTree) (declared : ℕ) (name : List ℕ) (e : TExprTree) (t : TyTree) → type_of e ≡ t → Ends (ArrowGives structs declared name e) (arrow_to structs declared name e (arrow_target t))
arrow_in_is structs declared name e (PtrTy (StructTy n)) is = demand_ends _ _ _ (λ less. arrow_there structs declared n name e (member_at 0 name (struct_members structs declared n)) is refl)
arrow_in_is structs declared name e t is = refused

pub arrow_is : (structs : List StructTree) (declared : ℕ) (name : List ℕ) (e : TExprTree) → Ends (ArrowGives structs declared name e) (arrow structs declared name e)
arrow_is structs declared name e = arrow_in_is structs declared name e (type_of e) refl

pub arrow_holds : {structs : List StructTree} {declared : ℕ} {name : List ℕ} {e t : TExprTree} → ArrowGives structs declared name e t → arrow structs declared name e ≡ Ok t
arrow_holds (member_through {structs} {declared} {n} {name} {e} {m} is has) =
    ap (λ t. arrow_to structs declared name e (arrow_target t)) is
    ∙ ap (λ b. demand b NotPointer (arrow_node e (member_at 0 name (struct_members structs declared n)))) (declared_struct has) ∙ ap (arrow_node e) (member_held has)
