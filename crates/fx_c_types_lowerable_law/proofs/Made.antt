-- Nodes that the rules of types make: their numbers fit, their conversions join types that differ, and how many nodes
-- the rules add.
use Rattle.std.proofs.Common.{◌≡◌, ℕ, ◌+◌, ◌≤◌, Bool, true, false, ◌&&◌, ◌||◌, not, nat_eq, nat_lt, if◌then◌else◌, List, [], ◌∷◌, Option, Some, None, Ok, refl, sym, ◌∙◌, arith, subst, inl, inr}
use Rattle.std.specs.Prelude.{◌≢◌, ◌⊎◌}
use Rattle.std.proofs.lemmas.Bool.{and_parts}
use Rattle.fx_c_ast.specs.declared.operator.IntType.{IntType}
use Rattle.fx_c_ast.specs.declared.operator.IntType.TheVariants.{Int, Long}
use Rattle.fx_c_ast.specs.declared.operator.Unop.{Unop}
use Rattle.fx_c_ast.specs.declared.operator.Unop.TheVariants.{Neg, Not, Lnot, Deref, Addr}
use Rattle.fx_c_ast.specs.declared.operator.Binop.{Binop}
use Rattle.fx_c_ast.specs.declared.operator.Binop.TheVariants.{Add, Sub, Mul, Div, Rem, Shl, Shr, Lt, Gt, Le, Ge, Eq, Ne, And, Xor, Or, Land, Lor}
use Rattle.fx_c_ast.specs.CheckedTrees.{TyTree, VoidTy, IntTy, StructTy, PtrTy, ArrayTy, TExprTree, EUn, EBin, EConvert, EIndex, ECall, EGate, EPutc, EDevStore, ESpawn, ESwitch, TExprTrees, NoTExprs, MoreTExprs}
use Rattle.fx_c_types_rules.specs.declared.category.Category.{Category}
use Rattle.fx_c_types_rules.specs.declared.category.Category.TheVariants.{Nothing, Integer, Structure, Pointer, Array}
use Rattle.fx_c_types_rules.specs.declared.category.ArrowTarget.{ArrowTarget}
use Rattle.fx_c_types_rules.specs.declared.category.ArrowTarget.TheVariants as target
use Rattle.fx_c_types_rules.specs.declared.fault.TypeKind.TheVariants.{NotInteger, NotPointer, NotLvalue, Mismatch, Arguments, CrossCall, NotEntry}
use Rattle.fx_c_types_rules.specs.Checks.{Checked, ◌>>=◌, refuse, demand}
use Rattle.fx_c_types_rules.specs.Types.{promoted, common, category, pointee, same_type, is_void, is_complete}
use Rattle.fx_c_types_rules.specs.Values.{type_of, is_zero, is_object, converted, decayed, value_of, integer_type, integer_of, is_scalar, tested, condition, as_long, pointers_agree, agreement, agrees, is_whole, assigned}
use Rattle.fx_c_types_rules.specs.Operators.{signed, negated, pointed, address, unary, arithmetic, shifted, logical, moved, sum_of, distance, difference_of, numbers_compared, compared_as, common_pointer, compared_of, compared, binary_values, binary, cast_of, cast, element_of, element}
use Rattle.fx_c_types_rules.specs.Structs as plain
use Rattle.fx_c_types_rules.specs.Structs.{member_at, struct_members, member_node, member_in, member, arrow_node, arrow_target, arrow_to, arrow}
use Rattle.fx_c_types_rules.specs.Locals.{LocalTree}
use Rattle.fx_c_types_rules.specs.Calls.{are_scalars, are_passed, passed, arguments, joined, putc, device_store, switch}
use Rattle.fx_c_types_heads.specs.Heads.{HeadsTree, FunctionHead}
use Rattle.fx_c_types_heads.specs.Names.{found}
use Rattle.fx_c_types_bodies.specs.Bodies.{BodyTree, global_node, variable_node, variable, local_named, CalleeTree, call, gate, is_long, are_one_long, first_value, spawn}
use Rattle.fx_c_types_model.specs.Each.{Each, EachOfAll}
use Rattle.fx_c_types_model.specs.Counts.{nodes, nodes_of_all}
use Rattle.fx_c_types_model.specs.Values.{NumberFits, Joins, ConversionFits, IsNoArray}
use Rattle.fx_c_types_law.proofs.Ends.{Ends, bind_ends, demand_ends}
use Rattle.fx_c_types_trees_law.proofs.Shapes.{same_is, same_self}

-- a number fits, and a conversion joins types that differ
abbrev pub IsPlain : TExprTree → Type 0
IsPlain e = NumberFits e × ConversionFits e

-- all nodes are plain, and with two more there are at most so many
pub record IsMade (n : ℕ) (e : TExprTree) : Type 0 where
  pub plain : Each IsPlain e
  pub count : nodes e + 2 ≤ n

abbrev pub how_many : TExprTrees → ℕ
how_many NoTExprs = 0
how_many (MoreTExprs e rest) = 1 + how_many rest

-- so are arguments, each with one more
pub record AreMade (n : ℕ) (es : TExprTrees) : Type 0 where
  pub plain : EachOfAll IsPlain es
  pub count : nodes_of_all es + how_many es ≤ n

pub made_more : (m n : ℕ) (e : TExprTree) → m ≤ n → IsMade m e → IsMade n e
made_more m n e le h = record { plain = h.plain; count = omega (arith, le, h.count) }

-- ---- conversions

pub converted_made : (n : ℕ) (t : TyTree) (e : TExprTree) → (same_type (type_of e) t ≡ false → Joins t (type_of e) e) → IsMade n e → IsMade (n + 1) (converted t e)
converted_made n t e joins h = pick (same_type (type_of e) t) refl
  where
    differ : same_type (type_of e) t ≡ false → type_of e ≢ t
    differ other same = let yes : same_type (type_of e) t ≡ true = subst (λ x. same_type (type_of e) x ≡ true) same (same_self (type_of e)) in cc

    pick : (b : Bool) → same_type (type_of e) t ≡ b → IsMade (n + 1) (if b then e else EConvert t e)
    pick true same = record { plain = h.plain; count = omega (arith, h.count) }
    pick false other = record { plain = ((tt, (differ other, joins other)), h.plain); count = omega (arith, h.count) }

number_joins : (i : IntType) (t : TyTree) (j : IntType) (e : TExprTree) → t ≡ IntTy j → Joins (IntTy i) t e
number_joins i t j e is = subst (λ u. Joins (IntTy i) u e) (sym is) tt

number_made : (n : ℕ) (i j : IntType) (e : TExprTree) → type_of e ≡ IntTy j → IsMade n e → IsMade (n + 1) (converted (IntTy i) e)
number_made n i j e is h = converted_made n (IntTy i) e (λ other. number_joins i (type_of e) j e is) h

integer_ends : (e : TExprTree) → Ends (λ (i : IntType). type_of e ≡ IntTy i) (integer_of e)
integer_ends e = by_type (type_of e)
  where
    by_type : (t : TyTree) → Ends (λ (i : IntType). t ≡ IntTy i) (integer_type (category t))
    by_type VoidTy = tt
    by_type (IntTy i) = refl
    by_type (StructTy n) = tt
    by_type (PtrTy t) = tt
    by_type (ArrayTy t count) = tt

pub condition_made : (n : ℕ) (e : TExprTree) → IsMade n e → Ends (IsMade (n + 1)) (condition e)
condition_made n e h = by_type (type_of e) refl
  where
    by_type : (t : TyTree) → type_of e ≡ t → Ends (IsMade (n + 1)) (tested (category t) e)
    by_type VoidTy is = tt
    by_type (IntTy i) is = made_more n (n + 1) e (omega arith) h
    by_type (StructTy k) is = tt
    by_type (PtrTy t) is = converted_made n (IntTy Int) e (λ other. subst (λ u. Joins (IntTy Int) u e) (sym is) refl) h
    by_type (ArrayTy t count) is = tt

long_made : (n : ℕ) (e : TExprTree) → IsMade n e → Ends (IsMade (n + 1)) (as_long e)
long_made n e h =
    bind_ends (λ (i : IntType). type_of e ≡ IntTy i) (IsMade (n + 1)) (integer_of e) (λ i. Ok (converted (IntTy Long) e)) (integer_ends e) (λ i is. number_made n Long i e is h)

void_is : (t : TyTree) → is_void t ≡ true → t ≡ VoidTy
void_is VoidTy h = refl
void_is t h = cc

-- of two pointer types that agree and differ, one is to void
pointers_join : (s t : TyTree) → pointers_agree (PtrTy s) (PtrTy t) ≡ true → same_type t s ≡ false → (s ≡ VoidTy) ⊎ (t ≡ VoidTy)
pointers_join s t h other = pick (same_type s t) refl (is_void s) refl h
  where
    pick : (a : Bool) → same_type s t ≡ a → (b : Bool) → is_void s ≡ b → ((a || b) || is_void t) ≡ true → (s ≡ VoidTy) ⊎ (t ≡ VoidTy)
    pick true same b v k = let yes : same_type t s ≡ true = subst (λ x. same_type t x ≡ true) (sym (same_is s t same)) (same_self t) in absurd cc
    pick false same true v k = inl (void_is s v)
    pick false same false v k = inr (void_is t k)

agree_joins : (t u : TyTree) (e : TExprTree) → type_of e ≡ u → agreement (category t) (category u) t e ≡ true → same_type u t ≡ false → Joins t u e
agree_joins (IntTy i) (IntTy j) e is h other = tt
agree_joins (PtrTy s) (PtrTy t) e is h other = pointers_join s t (subst (λ x. pointers_agree (PtrTy s) x ≡ true) is h) other
agree_joins (PtrTy s) (IntTy i) e is h other = h
agree_joins (StructTy m) (StructTy n) e is h other =
    let same : StructTy m ≡ StructTy n = same_is (StructTy m) (type_of e) h ∙ is in
    let yes : same_type (StructTy n) (StructTy m) ≡ true = subst (λ x. same_type (StructTy n) x ≡ true) (sym same) (same_self (StructTy n)) in
    absurd cc
agree_joins t u e is h other = cc

-- a value that agrees with a type
pub agreed_made : (n : ℕ) (t : TyTree) (e : TExprTree) → agrees t e ≡ true → IsMade n e → IsMade (n + 1) (converted t e)
agreed_made n t e agree h = converted_made n t e (λ other. agree_joins t (type_of e) e refl agree other) h

pub assigned_made : (n : ℕ) (to e : TExprTree) → IsMade n e → Ends (IsMade (n + 1)) (assigned to e)
assigned_made n to e h =
    let last : Checked TExprTree = Ok (converted (type_of to) e) in
    demand_ends (IsMade (n + 1)) (not (is_void (type_of e))) NotInteger (demand (is_object to && is_whole (category (type_of to))) NotLvalue (demand (agrees (type_of to) e) Mismatch last)) (λ _.
    demand_ends (IsMade (n + 1)) (is_object to && is_whole (category (type_of to))) NotLvalue (demand (agrees (type_of to) e) Mismatch last) (λ _.
    demand_ends (IsMade (n + 1)) (agrees (type_of to) e) Mismatch last (λ agree. agreed_made n (type_of to) e agree h)))

-- ---- values

pub value_made : (n : ℕ) (e : TExprTree) → IsMade n e → IsMade (n + 1) (value_of e)
value_made n e h = by_type (type_of e) refl
  where
    same : IsMade (n + 1) e
    same = made_more n (n + 1) e (omega arith) h

    by_type : (t : TyTree) → type_of e ≡ t → IsMade (n + 1) (decayed t e)
    by_type VoidTy is = same
    by_type (IntTy i) is = same
    by_type (StructTy k) is = same
    by_type (PtrTy t) is = same
    by_type (ArrayTy t count) is = record {
      plain = ((tt, ((λ other. let no : ArrayTy t count ≡ PtrTy t = sym is ∙ other in cc), subst (λ u. Joins (PtrTy t) u e) (sym is) refl)), h.plain);
      count = omega (arith, h.count);
    }

-- no array is left
pub value_whole : (e : TExprTree) → IsNoArray (type_of (value_of e))
value_whole e = by_type (type_of e) refl
  where
    by_type : (t : TyTree) → type_of e ≡ t → IsNoArray (type_of (decayed t e))
    by_type VoidTy is = subst IsNoArray (sym is) tt
    by_type (IntTy i) is = subst IsNoArray (sym is) tt
    by_type (StructTy k) is = subst IsNoArray (sym is) tt
    by_type (PtrTy t) is = subst IsNoArray (sym is) tt
    by_type (ArrayTy t count) is = tt

-- ---- one operand

signed_made : (n : ℕ) (op : Unop) (e : TExprTree) → IsMade n e → Ends (IsMade (n + 2)) (signed op e)
signed_made n op e h =
    bind_ends (λ (i : IntType). type_of e ≡ IntTy i) (IsMade (n + 2)) (integer_of e) (λ i. Ok (EUn (IntTy (promoted i)) op (converted (IntTy (promoted i)) e))) (integer_ends e) (λ i is.
    let k : IsMade (n + 1) (converted (IntTy (promoted i)) e) = number_made n (promoted i) i e is h in
    record { plain = ((tt, tt), k.plain); count = omega (arith, k.count) })

negated_made : (n : ℕ) (e : TExprTree) → IsMade n e → Ends (IsMade (n + 2)) (negated e)
negated_made n e h =
    bind_ends (IsMade (n + 1)) (IsMade (n + 2)) (condition e) (λ e. Ok (EUn (IntTy Int) Lnot e)) (condition_made n e h) (λ x k.
    record { plain = ((tt, tt), k.plain); count = omega (arith, k.count) })

pointed_made : (n declared : ℕ) (c : Category) (e : TExprTree) → IsMade n e → Ends (IsMade (n + 2)) (pointed declared c e)
pointed_made n declared Nothing e h = tt
pointed_made n declared (Integer i) e h = tt
pointed_made n declared Structure e h = tt
pointed_made n declared Pointer e h =
    demand_ends (IsMade (n + 2)) (is_complete declared (pointee (type_of e))) NotPointer (Ok (EUn (pointee (type_of e)) Deref e)) (λ _.
    record { plain = ((tt, tt), h.plain); count = omega (arith, h.count) })
pointed_made n declared Array e h = tt

address_made : (n : ℕ) (e : TExprTree) → IsMade n e → Ends (IsMade (n + 2)) (address e)
address_made n e h =
    demand_ends (IsMade (n + 2)) (is_object e) NotLvalue (Ok (EUn (PtrTy (type_of e)) Addr e)) (λ _.
    record { plain = ((tt, tt), h.plain); count = omega (arith, h.count) })

pub unary_made : (n declared : ℕ) (op : Unop) (e : TExprTree) → IsMade n e → Ends (IsMade ((n + 1) + 2)) (unary declared op e)
unary_made n declared Neg e h = signed_made (n + 1) Neg (value_of e) (value_made n e h)
unary_made n declared Not e h = signed_made (n + 1) Not (value_of e) (value_made n e h)
unary_made n declared Lnot e h = negated_made (n + 1) (value_of e) (value_made n e h)
unary_made n declared Deref e h = pointed_made (n + 1) declared (category (type_of (value_of e))) (value_of e) (value_made n e h)
unary_made n declared Addr e h = address_made (n + 1) e (made_more n (n + 1) e (omega arith) h)

-- ---- two operands

-- a node of two operands
joined_made : (m n : ℕ) (ty : TyTree) (op : Binop) (a b : TExprTree) → IsMade (m + 1) a → IsMade (n + 1) b → IsMade (m + n + 1) (EBin ty op a b)
joined_made m n ty op a b h k = record { plain = ((tt, tt), h.plain, k.plain); count = omega (arith, h.count, k.count) }

plain_made : (m n : ℕ) (ty : TyTree) (op : Binop) (a b : TExprTree) → IsMade m a → IsMade n b → IsMade (m + n + 1) (EBin ty op a b)
plain_made m n ty op a b h k = record { plain = ((tt, tt), h.plain, k.plain); count = omega (arith, h.count, k.count) }

arithmetic_made : (m n : ℕ) (op : Binop) (a b : TExprTree) → IsMade m a → IsMade n b → Ends (IsMade (m + n + 1)) (arithmetic op a b)
arithmetic_made m n op a b h k =
    let build : IntType → IntType → TExprTree = λ i j. EBin (IntTy (common i j)) op (converted (IntTy (common i j)) a) (converted (IntTy (common i j)) b) in
    bind_ends (λ (i : IntType). type_of a ≡ IntTy i) (IsMade (m + n + 1)) (integer_of a) (λ i. integer_of b >>= (λ j. Ok (build i j))) (integer_ends a) (λ i p.
    bind_ends (λ (j : IntType). type_of b ≡ IntTy j) (IsMade (m + n + 1)) (integer_of b) (λ j. Ok (build i j)) (integer_ends b) (λ j q.
    joined_made m n (IntTy (common i j)) op (converted (IntTy (common i j)) a) (converted (IntTy (common i j)) b) (number_made m (common i j) i a p h) (number_made n (common i j) j b q k)))

shifted_made : (m n : ℕ) (op : Binop) (a b : TExprTree) → IsMade m a → IsMade n b → Ends (IsMade (m + n + 1)) (shifted op a b)
shifted_made m n op a b h k =
    let build : IntType → IntType → TExprTree = λ i j. EBin (IntTy (promoted i)) op (converted (IntTy (promoted i)) a) (converted (IntTy (promoted j)) b) in
    bind_ends (λ (i : IntType). type_of a ≡ IntTy i) (IsMade (m + n + 1)) (integer_of a) (λ i. integer_of b >>= (λ j. Ok (build i j))) (integer_ends a) (λ i p.
    bind_ends (λ (j : IntType). type_of b ≡ IntTy j) (IsMade (m + n + 1)) (integer_of b) (λ j. Ok (build i j)) (integer_ends b) (λ j q.
    joined_made m n (IntTy (promoted i)) op (converted (IntTy (promoted i)) a) (converted (IntTy (promoted j)) b) (number_made m (promoted i) i a p h) (number_made n (promoted j) j b q k)))

logical_made : (m n : ℕ) (op : Binop) (a b : TExprTree) → IsMade m a → IsMade n b → Ends (IsMade (m + n + 1)) (logical op a b)
logical_made m n op a b h k =
    bind_ends (IsMade (m + 1)) (IsMade (m + n + 1)) (condition a) (λ a. condition b >>= (λ b. Ok (EBin (IntTy Int) op a b))) (condition_made m a h) (λ x p.
    bind_ends (IsMade (n + 1)) (IsMade (m + n + 1)) (condition b) (λ b. Ok (EBin (IntTy Int) op x b)) (condition_made n b k) (λ y q. joined_made m n (IntTy Int) op x y p q))

numbers_made : (m n : ℕ) (op : Binop) (a b : TExprTree) → IsMade m a → IsMade n b → Ends (IsMade (m + n + 1)) (numbers_compared op a b)
numbers_made m n op a b h k =
    let build : IntType → IntType → TExprTree = λ i j. EBin (IntTy Int) op (converted (IntTy (common i j)) a) (converted (IntTy (common i j)) b) in
    bind_ends (λ (i : IntType). type_of a ≡ IntTy i) (IsMade (m + n + 1)) (integer_of a) (λ i. integer_of b >>= (λ j. Ok (build i j))) (integer_ends a) (λ i p.
    bind_ends (λ (j : IntType). type_of b ≡ IntTy j) (IsMade (m + n + 1)) (integer_of b) (λ j. Ok (build i j)) (integer_ends b) (λ j q.
    joined_made m n (IntTy Int) op (converted (IntTy (common i j)) a) (converted (IntTy (common i j)) b) (number_made m (common i j) i a p h) (number_made n (common i j) j b q k)))

-- pointers are compared as the type to void, if one is
left_joins : (s t : TyTree) (e : TExprTree) → category s ≡ Pointer → category t ≡ Pointer → pointers_agree s t ≡ true → same_type s (common_pointer s t) ≡ false → Joins (common_pointer s t) s e
left_joins (PtrTy s) (PtrTy t) e p q agree = pick (is_void t) refl
  where
    pick : (b : Bool) → is_void t ≡ b → same_type (PtrTy s) (if b then PtrTy t else PtrTy s) ≡ false → Joins (if b then PtrTy t else PtrTy s) (PtrTy s) e
    pick true void other = inl (void_is t void)
    pick false void other = let yes : same_type s s ≡ true = same_self s in absurd cc
left_joins s t e p q agree = absurd cc

right_joins : (s t : TyTree) (e : TExprTree) → category s ≡ Pointer → category t ≡ Pointer → pointers_agree s t ≡ true → same_type t (common_pointer s t) ≡ false → Joins (common_pointer s t) t e
right_joins (PtrTy s) (PtrTy t) e p q agree = pick (is_void t) refl
  where
    pick : (b : Bool) → is_void t ≡ b → same_type (PtrTy t) (if b then PtrTy t else PtrTy s) ≡ false → Joins (if b then PtrTy t else PtrTy s) (PtrTy t) e
    pick true void other = let yes : same_type t t ≡ true = same_self t in absurd cc
    pick false void other = pointers_join s t agree other
right_joins s t e p q agree = absurd cc

zero_joins : (s t : TyTree) (i : IntType) (e : TExprTree) → category s ≡ Pointer → category t ≡ Integer i → is_zero e ≡ true → Joins s t e
zero_joins (PtrTy s) (IntTy j) i e p q none = none
zero_joins s t i e p q none = absurd cc

itself_joins : (t : TyTree) (e : TExprTree) → same_type t t ≡ false → Joins t t e
itself_joins t e other = let yes : same_type t t ≡ true = same_self t in absurd cc

compared_of_made : (m n : ℕ) (op : Binop) (c d : Category) (a b : TExprTree) → category (type_of a) ≡ c → category (type_of b) ≡ d → IsMade m a → IsMade n b → Ends (IsMade (m + n + 1)) (compared_of op c d a b)
compared_of_made m n op Pointer Pointer a b p q h k =
    let t : TyTree = common_pointer (type_of a) (type_of b) in
    demand_ends (IsMade (m + n + 1)) (pointers_agree (type_of a) (type_of b)) Mismatch (Ok (compared_as op t a b)) (λ agree.
    joined_made m n (IntTy Int) op (converted t a) (converted t b)
    (converted_made m t a (left_joins (type_of a) (type_of b) a p q agree) h) (converted_made n t b (right_joins (type_of a) (type_of b) b p q agree) k))
compared_of_made m n op Pointer (Integer j) a b p q h k =
    let t : TyTree = type_of a in
    demand_ends (IsMade (m + n + 1)) (is_zero b) Mismatch (Ok (compared_as op t a b)) (λ none.
    joined_made m n (IntTy Int) op (converted t a) (converted t b)
    (converted_made m t a (itself_joins t a) h) (converted_made n t b (λ other. zero_joins t (type_of b) j b p q none) k))
compared_of_made m n op (Integer i) Pointer a b p q h k =
    let t : TyTree = type_of b in
    demand_ends (IsMade (m + n + 1)) (is_zero a) Mismatch (Ok (compared_as op t a b)) (λ none.
    joined_made m n (IntTy Int) op (converted t a) (converted t b)
    (converted_made m t a (λ other. zero_joins t (type_of a) i a q p none) h) (converted_made n t b (itself_joins t b) k))
compared_of_made m n op c d a b p q h k = numbers_made m n op a b h k

compared_made : (m n : ℕ) (op : Binop) (a b : TExprTree) → IsMade m a → IsMade n b → Ends (IsMade (m + n + 1)) (compared op a b)
compared_made m n op a b h k = compared_of_made m n op (category (type_of a)) (category (type_of b)) a b refl refl h k

moved_made : (m n declared : ℕ) (op : Binop) (t : TyTree) (a b : TExprTree) → IsMade m a → IsMade n b → Ends (IsMade (m + n + 1)) (moved declared op t a b)
moved_made m n declared op t a b h k = demand_ends (IsMade (m + n + 1)) (is_complete declared (pointee t)) NotPointer (Ok (EBin t op a b)) (λ _. plain_made m n t op a b h k)

sum_made : (m n declared : ℕ) (c d : Category) (a b : TExprTree) → IsMade m a → IsMade n b → Ends (IsMade (m + n + 1)) (sum_of declared c d a b)
sum_made m n declared Pointer (Integer j) a b h k = moved_made m n declared Add (type_of a) a b h k
sum_made m n declared (Integer i) Pointer a b h k = moved_made m n declared Add (type_of b) a b h k
sum_made m n declared c d a b h k = arithmetic_made m n Add a b h k

distance_made : (m n declared : ℕ) (a b : TExprTree) → IsMade m a → IsMade n b → Ends (IsMade (m + n + 1)) (distance declared a b)
distance_made m n declared a b h k =
    let last : Checked TExprTree = Ok (EBin (IntTy Long) Sub a b) in
    demand_ends (IsMade (m + n + 1)) (is_complete declared (pointee (type_of a)) && is_complete declared (pointee (type_of b))) NotPointer (demand (same_type (type_of a) (type_of b)) Mismatch last) (λ _.
    demand_ends (IsMade (m + n + 1)) (same_type (type_of a) (type_of b)) Mismatch last (λ _. plain_made m n (IntTy Long) Sub a b h k))

difference_made : (m n declared : ℕ) (c d : Category) (a b : TExprTree) → IsMade m a → IsMade n b → Ends (IsMade (m + n + 1)) (difference_of declared c d a b)
difference_made m n declared Pointer (Integer j) a b h k = moved_made m n declared Sub (type_of a) a b h k
difference_made m n declared Pointer Pointer a b h k = distance_made m n declared a b h k
difference_made m n declared c d a b h k = arithmetic_made m n Sub a b h k

values_made : (m n declared : ℕ) (op : Binop) (a b : TExprTree) → IsMade m a → IsMade n b → Ends (IsMade (m + n + 1)) (binary_values declared op a b)
values_made m n declared Add a b h k = sum_made m n declared (category (type_of a)) (category (type_of b)) a b h k
values_made m n declared Sub a b h k = difference_made m n declared (category (type_of a)) (category (type_of b)) a b h k
values_made m n declared Mul a b h k = arithmetic_made m n Mul a b h k
values_made m n declared Div a b h k = arithmetic_made m n Div a b h k
values_made m n declared Rem a b h k = arithmetic_made m n Rem a b h k
values_made m n declared Shl a b h k = shifted_made m n Shl a b h k
values_made m n declared Shr a b h k = shifted_made m n Shr a b h k
values_made m n declared Lt a b h k = compared_made m n Lt a b h k
values_made m n declared Gt a b h k = compared_made m n Gt a b h k
values_made m n declared Le a b h k = compared_made m n Le a b h k
values_made m n declared Ge a b h k = compared_made m n Ge a b h k
values_made m n declared Eq a b h k = compared_made m n Eq a b h k
values_made m n declared Ne a b h k = compared_made m n Ne a b h k
values_made m n declared And a b h k = arithmetic_made m n And a b h k
values_made m n declared Xor a b h k = arithmetic_made m n Xor a b h k
values_made m n declared Or a b h k = arithmetic_made m n Or a b h k
values_made m n declared Land a b h k = logical_made m n Land a b h k
values_made m n declared Lor a b h k = logical_made m n Lor a b h k

pub binary_made : (m n declared : ℕ) (op : Binop) (a b : TExprTree) → IsMade m a → IsMade n b → Ends (IsMade ((m + 1) + (n + 1) + 1)) (binary declared op a b)
binary_made m n declared op a b h k = values_made (m + 1) (n + 1) declared op (value_of a) (value_of b) (value_made m a h) (value_made n b k)

element_of_made : (m n declared : ℕ) (c : Category) (a b : TExprTree) → IsMade m a → IsMade n b → Ends (IsMade (m + n + 1)) (element_of declared c a b)
element_of_made m n declared Nothing a b h k = tt
element_of_made m n declared (Integer i) a b h k =
    bind_ends (λ (j : IntType). type_of b ≡ IntTy j) (IsMade (m + n + 1)) (integer_of b) (λ j. refuse NotPointer) (integer_ends b) (λ j _. tt)
element_of_made m n declared Structure a b h k = tt
element_of_made m n declared Pointer a b h k =
    let made : TExprTree = EIndex (pointee (type_of a)) a b in
    bind_ends (λ (j : IntType). type_of b ≡ IntTy j) (IsMade (m + n + 1)) (integer_of b) (λ j. demand (is_complete declared (pointee (type_of a))) NotPointer (Ok made)) (integer_ends b) (λ j _.
    demand_ends (IsMade (m + n + 1)) (is_complete declared (pointee (type_of a))) NotPointer (Ok made) (λ _.
    record { plain = ((tt, tt), h.plain, k.plain); count = omega (arith, h.count, k.count) }))
element_of_made m n declared Array a b h k = tt

pub element_made : (m n declared : ℕ) (a b : TExprTree) → IsMade m a → IsMade n b → Ends (IsMade (m + n + 1)) (element declared a b)
element_made m n declared a b h k = element_of_made m n declared (category (type_of a)) a b h k

-- ---- casts and members

cast_of_made : (n : ℕ) (c d : Category) (t : TyTree) (e : TExprTree) → IsMade n e → Ends (IsMade (n + 1)) (cast_of c d t e)
cast_of_made n (Integer i) (Integer j) t e h = record { plain = ((tt, tt), h.plain); count = omega (arith, h.count) }
cast_of_made n Pointer Pointer t e h = record { plain = ((tt, tt), h.plain); count = omega (arith, h.count) }
cast_of_made n (Integer i) Pointer t e h = tt
cast_of_made n Pointer (Integer j) t e h = tt
cast_of_made n c d t e h = tt

pub cast_made : (n : ℕ) (t : TyTree) (e : TExprTree) → IsMade n e → Ends (IsMade (n + 1)) (cast t e)
cast_made n t e h = cast_of_made n (category t) (category (type_of e)) t e h

member_node_made : (n : ℕ) (e : TExprTree) (m : Option (ℕ × TyTree)) → IsMade n e → Ends (IsMade (n + 1)) (member_node e m)
member_node_made n e None h = tt
member_node_made n e (Some m) h = record { plain = ((tt, tt), h.plain); count = omega (arith, h.count) }

arrow_node_made : (n : ℕ) (e : TExprTree) (m : Option (ℕ × TyTree)) → IsMade n e → Ends (IsMade (n + 1)) (arrow_node e m)
arrow_node_made n e None h = tt
arrow_node_made n e (Some m) h = record { plain = ((tt, tt), h.plain); count = omega (arith, h.count) }

member_in_made : (n : ℕ) (ss : List plain.StructTree) (declared : ℕ) (name : List ℕ) (e : TExprTree) (t : TyTree) → IsMade n e → Ends (IsMade (n + 1)) (member_in ss declared name e t)
member_in_made n ss declared name e VoidTy h = tt
member_in_made n ss declared name e (IntTy i) h = tt
member_in_made n ss declared name e (StructTy k) h = member_node_made n e (member_at 0 name (struct_members ss declared k)) h
member_in_made n ss declared name e (PtrTy t) h = tt
member_in_made n ss declared name e (ArrayTy t count) h = tt

pub member_made : (n : ℕ) (ss : List plain.StructTree) (declared : ℕ) (name : List ℕ) (e : TExprTree) → IsMade n e → Ends (IsMade (n + 1)) (member ss declared name e)
member_made n ss declared name e h = member_in_made n ss declared name e (type_of e) h

arrow_to_made : (n : ℕ) (ss : List plain.StructTree) (declared : ℕ) (name : List ℕ) (e : TExprTree) (to : ArrowTarget) → IsMade n e → Ends (IsMade (n + 1)) (arrow_to ss declared name e to)
arrow_to_made n ss declared name e (target.Structure k) h =
    demand_ends (IsMade (n + 1)) (nat_lt k declared) NotPointer (arrow_node e (member_at 0 name (struct_members ss declared k))) (λ _.
    arrow_node_made n e (member_at 0 name (struct_members ss declared k)) h)
arrow_to_made n ss declared name e (target.Refused kind) h = tt

pub arrow_made : (n : ℕ) (ss : List plain.StructTree) (declared : ℕ) (name : List ℕ) (e : TExprTree) → IsMade n e → Ends (IsMade (n + 1)) (arrow ss declared name e)
arrow_made n ss declared name e h = arrow_to_made n ss declared name e (arrow_target (type_of e)) h

-- ---- names

global_made : (h : HeadsTree) (n : Option ℕ) → Ends (IsMade 3) (global_node h n)
global_made h None = tt
global_made h (Some n) = record { plain = (tt, tt); count = omega arith }

variable_node_made : (h : HeadsTree) (b : BodyTree) (name : List ℕ) (n : Option ℕ) → Ends (IsMade 3) (variable_node h b name n)
variable_node_made h b name (Some n) = record { plain = (tt, tt); count = omega arith }
variable_node_made h b name None = global_made h (found name h.global_names)

pub variable_made : (h : HeadsTree) (b : BodyTree) (name : List ℕ) → Ends (IsMade 3) (variable h b name)
variable_made h b name = variable_node_made h b name (local_named b name)

-- ---- calls

pub none_made : AreMade 0 NoTExprs
none_made = record { plain = tt; count = omega arith }

pub push_made : (m n : ℕ) (before : TExprTrees) (e : TExprTree) → AreMade m before → IsMade (n + 1) e → AreMade (m + n) (joined before (MoreTExprs e NoTExprs))
push_made m n NoTExprs e all h = record { plain = (h.plain, tt); count = omega (arith, all.count, h.count) }
push_made m n (MoreTExprs x rest) e all h =
    let others : AreMade (nodes_of_all rest + how_many rest) rest = record { plain = all.plain.1; count = omega arith } in
    let k : AreMade (nodes_of_all rest + how_many rest + n) (joined rest (MoreTExprs e NoTExprs)) = push_made (nodes_of_all rest + how_many rest) n rest e others h in
    record { plain = (all.plain.0, k.plain); count = omega (arith, all.count, k.count) }

-- arguments as they are passed: each has one conversion more at most
record ArePassedAs (es : TExprTrees) (all : TExprTrees) : Type 0 where
  plain : EachOfAll IsPlain all
  count : nodes_of_all all ≤ nodes_of_all es + how_many es

passed_made : (ps : List LocalTree) (es : TExprTrees) → are_passed ps es ≡ true → EachOfAll IsPlain es → ArePassedAs es (passed ps es)
passed_made [] NoTExprs agree all = record { plain = tt; count = omega arith }
passed_made [] (MoreTExprs e rest) agree all = absurd cc
passed_made (p ∷ ps) NoTExprs agree all = absurd cc
passed_made (p ∷ ps) (MoreTExprs e rest) agree all =
    let both = and_parts (agrees p.ty e) (are_passed ps rest) agree in
    let first : IsMade ((nodes e + 2) + 1) (converted p.ty e) = agreed_made (nodes e + 2) p.ty e both.0 (record { plain = all.0; count = omega arith }) in
    let more : ArePassedAs rest (passed ps rest) = passed_made ps rest both.1 all.1 in
    record { plain = (first.plain, more.plain); count = omega (arith, first.count, more.count) }

arguments_made : (ps : List LocalTree) (es : TExprTrees) → EachOfAll IsPlain es → Ends (ArePassedAs es) (arguments ps es)
arguments_made ps es all =
    demand_ends (ArePassedAs es) (are_scalars es) NotInteger (demand (are_passed ps es) Arguments (Ok (passed ps es))) (λ _.
    demand_ends (ArePassedAs es) (are_passed ps es) Arguments (Ok (passed ps es)) (λ agree. passed_made ps es agree all))

pub call_made : (n library : ℕ) (f : Option CalleeTree) (es : TExprTrees) → AreMade n es → Ends (IsMade (n + 3)) (call library f es)
call_made n library None es all = tt
call_made n library (Some f) es all =
    bind_ends (ArePassedAs es) (IsMade (n + 3)) (arguments f.head.params es) (λ es. demand (nat_eq f.head.library library) CrossCall (Ok (ECall f.head.answer f.number es))) (arguments_made f.head.params es all.plain) (λ xs are.
    demand_ends (IsMade (n + 3)) (nat_eq f.head.library library) CrossCall (Ok (ECall f.head.answer f.number xs)) (λ _.
    record { plain = ((tt, tt), are.plain); count = omega (arith, are.count, all.count) }))

pub gate_made : (n : ℕ) (f : Option CalleeTree) (es : TExprTrees) → AreMade n es → Ends (IsMade (n + 3)) (gate f es)
gate_made n None es all = tt
gate_made n (Some f) es all =
    bind_ends (ArePassedAs es) (IsMade (n + 3)) (arguments f.head.params es) (λ es. demand f.head.entry NotEntry (Ok (EGate f.head.answer f.number es))) (arguments_made f.head.params es all.plain) (λ xs are.
    demand_ends (IsMade (n + 3)) f.head.entry NotEntry (Ok (EGate f.head.answer f.number xs)) (λ _.
    record { plain = ((tt, tt), are.plain); count = omega (arith, are.count, all.count) }))

first_made : (n : ℕ) (f : FunctionHead) (e : TExprTree) → IsMade n e → Ends (IsMade (n + 1)) (first_value f e)
first_made n f e h =
    let last : Checked TExprTree = Ok (converted (IntTy Long) e) in
    demand_ends (IsMade (n + 1)) (is_scalar (category (type_of e))) NotInteger (demand (is_long f.answer && are_one_long f.params) Arguments (demand (agrees (IntTy Long) e) Arguments last)) (λ _.
    demand_ends (IsMade (n + 1)) (is_long f.answer && are_one_long f.params) Arguments (demand (agrees (IntTy Long) e) Arguments last) (λ _.
    demand_ends (IsMade (n + 1)) (agrees (IntTy Long) e) Arguments last (λ agree. agreed_made n (IntTy Long) e agree h)))

pub spawn_made : (n library : ℕ) (f : Option CalleeTree) (e : TExprTree) → IsMade n e → Ends (IsMade (n + 2)) (spawn library f e)
spawn_made n library None e h = tt
spawn_made n library (Some f) e h =
    bind_ends (IsMade (n + 1)) (IsMade (n + 2)) (first_value f.head e) (λ e. demand (nat_eq f.head.library library) CrossCall (Ok (ESpawn (IntTy Long) f.number e))) (first_made n f.head e h) (λ x k.
    demand_ends (IsMade (n + 2)) (nat_eq f.head.library library) CrossCall (Ok (ESpawn (IntTy Long) f.number x)) (λ _.
    record { plain = ((tt, tt), k.plain); count = omega (arith, k.count) }))

-- ---- devices and threads

pub putc_made : (n : ℕ) (e : TExprTree) → IsMade n e → Ends (IsMade (n + 3)) (putc e)
putc_made n e h =
    bind_ends (IsMade ((n + 1) + 1)) (IsMade (n + 3)) (as_long (value_of e)) (λ e. Ok (EPutc VoidTy e)) (long_made (n + 1) (value_of e) (value_made n e h)) (λ x k.
    record { plain = ((tt, tt), k.plain); count = omega (arith, k.count) })

pub store_made : (n device register : ℕ) (e : TExprTree) → IsMade n e → Ends (IsMade (n + 3)) (device_store device register e)
store_made n device register e h =
    bind_ends (IsMade ((n + 1) + 1)) (IsMade (n + 3)) (as_long (value_of e)) (λ e. Ok (EDevStore VoidTy device register e)) (long_made (n + 1) (value_of e) (value_made n e h)) (λ x k.
    record { plain = ((tt, tt), k.plain); count = omega (arith, k.count) })

pub switch_made : (n : ℕ) (e : TExprTree) → IsMade n e → Ends (IsMade (n + 3)) (switch e)
switch_made n e h =
    bind_ends (IsMade ((n + 1) + 1)) (IsMade (n + 3)) (as_long (value_of e)) (λ e. Ok (ESwitch VoidTy e)) (long_made (n + 1) (value_of e) (value_made n e h)) (λ x k.
    record { plain = ((tt, tt), k.plain); count = omega (arith, k.count) })
