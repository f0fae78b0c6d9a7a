-- An expression has a tree by the judgements where the check gives it, and the other way round.
use Rattle.std.proofs.Common.{◌≡◌, inl, inr, ℕ, ◌||◌, true, List, Option, Some, None, refl, sym, ap, ◌∙◌, subst, Ok, length}
use Rattle.std.proofs.lemmas.Bool.{ltb-true, lt-ltb}
use Rattle.fx_c_ast.specs.declared.operator.IntType.{IntType}
use Rattle.fx_c_ast.specs.declared.operator.IntType.TheVariants.{Long}
use Rattle.fx_c_ast.specs.declared.operator.Binop.{Binop}
use Rattle.fx_c_ast.specs.ParsedTrees.{TypeTree, ExprTree, NumberTree, TextTree, VarTree, UnTree, BinTree, CastTree, SizeTree, IndexTree, MemberTree, ArrowTree, CallTree, GateTree, GetcTree, PutcTree, DevLoadTree, DevStoreTree, SpawnTree, SwitchTree, MeTree, ExprTrees, NoExprs, MoreExprs}
use Rattle.fx_c_ast.specs.CheckedTrees.{TyTree, IntTy, TExprTree, TExprTrees, NoTExprs, MoreTExprs}
use Rattle.fx_c_types_heads.specs.Names.{found}
use Rattle.fx_c_types_rules.specs.Checks.{Checked}
use Rattle.fx_c_types_rules.specs.Types.{is_void, is_complete}
use Rattle.fx_c_types_rules.specs.Values.{type_of, value_of, as_long}
use Rattle.fx_c_types_rules.specs.Calls.{joined}
use Rattle.fx_c_types_rules.specs.Operators.{binary_values, binary, cast, element}
use Rattle.fx_c_types_rules.specs.Structs.{arrow}
use Rattle.fx_c_types_heads.specs.Heads.{HeadsTree, FunctionHead}
use Rattle.fx_c_types_bodies.specs.Bodies.{ScopeTree, BodyTree, then_in, variable_node, variable, global_node, cast_type, cast_node, size_of_type, callee, CalleeTree, call, gate, spawn, typed, typed_all}
use Rattle.fx_c_types_rules_law.specs.Types.{Means}
use Rattle.fx_c_types_rules_law.specs.Values.{HasValue, Converts}
use Rattle.fx_c_types_rules_law.specs.Operators.{BinaryGives, IndexGives, CastGives, integer_cast, pointer_cast}
use Rattle.fx_c_types_rules_law.specs.Calls.{IsUndeclared, IsFunction, SpawnGives}
use Rattle.fx_c_types_rules_law.specs.Expressions as judged
use Rattle.fx_c_types_rules_law.specs.Expressions.{HasType, AreValues, no_values, more_values, IsLongValue, long_value}
use Rattle.fx_c_types_rules_law.proofs.Ends.{Ends, answered, refused, bind_ends, demand_ends, map_ends, bind_ok, demand_ok}
use Rattle.fx_c_types_rules_law.proofs.TypeRules.{means_is, means_named, means_type, object_is, object_holds}
use Rattle.fx_c_types_rules_law.proofs.ValueRules.{value_is, value_holds, converts_is, converts_holds, integer_is, integer_holds}
use Rattle.fx_c_types_rules_law.proofs.OperatorRules.{unary_is, unary_holds, binary_is, binary_holds, cast_is, cast_holds, element_is, element_holds, member_is, member_holds, arrow_is, arrow_holds}
use Rattle.fx_c_types_rules_law.proofs.CallRules.{local_cases, undeclared_holds, designates_holds, callee_is, callee_holds, call_is, call_holds, gate_is, gate_holds, spawn_is, spawn_holds}

-- ---- nodes

long_is : (e : TExprTree) → Ends (IsLongValue e) (as_long (value_of e))
long_is e = bind_ends _ _ (integer_is (value_of e)) (λ i is. answered (long_value (value_is e) is (converts_is (IntTy Long) (value_of e))))

long_at : (v w : TExprTree) (i : IntType) → type_of v ≡ IntTy i → Converts (IntTy Long) v w → as_long v ≡ Ok w
long_at v w i is c = bind_ok _ _ _ _ (integer_holds v i is) (ap Ok (converts_holds c))

long_holds : {e w : TExprTree} → IsLongValue e w → as_long (value_of e) ≡ Ok w
long_holds (long_value {e} {v} {w} {i} value is c) = ap as_long (value_holds value) ∙ long_at v w i is c

global_is : (s : ScopeTree) (b : BodyTree) (name : List ℕ) (r : Option ℕ) → IsUndeclared name b.blocks → found name s.heads.global_names ≡ r → Ends (λ t. HasType s b (VarTree name) t b) (global_node s.heads r)
global_is s b name None und is = refused
global_is s b name (Some n) und is = answered (judged.global_variable und is)

variable_is : (s : ScopeTree) (b : BodyTree) (name : List ℕ) → Ends (λ t. HasType s b (VarTree name) t b) (variable s.heads b name)
variable_is s b name = elim (local_cases b name) [
  | inl x ↦ rw x.1 (global_is s b name (found name s.heads.global_names) x.0 refl)
  | inr x ↦ rw x.2 (answered (judged.local_variable x.1))
]

cast_type_is : (s : ScopeTree) (t : TypeTree) → Ends (Means s.heads.tags t) (cast_type s t)
cast_type_is s t = demand_ends _ _ _ (λ named. demand_ends _ _ _ (λ complete. answered (means_is s.heads.tags t named)))

cast_complete : {ty : TyTree} {v t : TExprTree} (declared : ℕ) → CastGives ty v t → (is_void ty || is_complete declared ty) ≡ true
cast_complete declared (integer_cast is) = refl
cast_complete declared (pointer_cast is) = refl

cast_type_holds : (s : ScopeTree) (to : TypeTree) (ty : TyTree) → Means s.heads.tags to ty → (is_void ty || is_complete s.declared ty) ≡ true → cast_type s to ≡ Ok ty
cast_type_holds s to ty means complete =
    demand_ok _ _ _ _ (means_named means)
    (demand_ok _ _ _ _ (ap (λ u. is_void u || is_complete s.declared u) (means_type means) ∙ complete) (ap Ok (means_type means)))

called_is : (h : HeadsTree) (b : BodyTree) (name : List ℕ) (P : TExprTree → Type 0) (f : Option CalleeTree → Checked TExprTree) (r : Option CalleeTree) → callee h b name ≡ r → ((g : CalleeTree) → IsFunction h b.blocks name g.number g.head → Ends P (f (Some g))) → Ends P (f None) → Ends P (f r)
called_is h b name P f None is k none = none
called_is h b name P f (Some g) is k none = k g (callee_is h b name g is)

cast_node_is : (s : ScopeTree) (to : TypeTree) (e : TExprTree) → Ends (λ t. (ty : TyTree) × Means s.heads.tags to ty × CastGives ty (value_of e) t) (cast_node s to e)
cast_node_is s to e = bind_ends _ _ (cast_type_is s to) (λ ty means. map_ends _ (cast_is ty (value_of e)) (λ t given. (ty, means, given)))

size_is : (s : ScopeTree) (b : BodyTree) (t : TypeTree) → Ends (λ x. HasType s b (SizeTree t) x b) (size_of_type s t)
size_is s b t = bind_ends _ _ (object_is s.heads s.declared t) (λ ty is. answered (judged.size is))

-- ---- arguments behind others

joined_none : (es : TExprTrees) → joined es NoTExprs ≡ es
joined_none NoTExprs = refl
joined_none (MoreTExprs e rest) = ap (MoreTExprs e) (joined_none rest)

joined_more : (before : TExprTrees) (v : TExprTree) (vs : TExprTrees) → joined (joined before (MoreTExprs v NoTExprs)) vs ≡ joined before (MoreTExprs v vs)
joined_more NoTExprs v vs = refl
joined_more (MoreTExprs e rest) v vs = ap (MoreTExprs e) (joined_more rest v vs)

abbrev Follows : ScopeTree → BodyTree → TExprTrees → ExprTrees → TExprTrees × BodyTree → Type 0
Follows s b before es x = (vs : TExprTrees) × (joined before vs ≡ x.0) × AreValues s b es vs x.1

-- ---- what the check gives is judged

mutual
  pub typed_is : (s : ScopeTree) (b : BodyTree) (e : ExprTree) → Ends (λ x. HasType s b e x.0 x.1) (typed s b e)
  typed_is s b (NumberTree value ty) = answered judged.number
  typed_is s b (TextTree bytes) = demand_ends _ _ _ (λ small. answered (judged.string (ltb-true (length bytes) 67108864 small)))
  typed_is s b (VarTree name) = bind_ends _ _ (variable_is s b name) (λ t h. answered h)
  typed_is s b (UnTree op e) = bind_ends _ _ (typed_is s b e) (λ x h. bind_ends _ _ (unary_is s.declared op x.0) (λ t g. answered (judged.unary_operator h g)))
  typed_is s b (BinTree op e f) =
      bind_ends _ _ (typed_is s b e) (λ x h. bind_ends _ _ (typed_is s x.1 f) (λ y k. bind_ends _ _ (binary_is s.declared op (value_of x.0) (value_of y.0)) (λ t g.
      answered (judged.binary_operator h k (value_is x.0) (value_is y.0) g))))
  typed_is s b (CastTree t e) =
      bind_ends _ _ (typed_is s b e) (λ x h. bind_ends _ _ (cast_node_is s t x.0) (λ t g. answered (judged.cast h g.1 (value_is x.0) g.2)))
  typed_is s b (SizeTree t) = bind_ends _ _ (size_is s b t) (λ t h. answered h)
  typed_is s b (IndexTree e f) =
      bind_ends _ _ (typed_is s b e) (λ x h. bind_ends _ _ (typed_is s x.1 f) (λ y k. bind_ends _ _ (element_is s.declared (value_of x.0) (value_of y.0)) (λ t g.
      answered (judged.index h k (value_is x.0) (value_is y.0) g))))
  typed_is s b (MemberTree e name) = bind_ends _ _ (typed_is s b e) (λ x h. bind_ends _ _ (member_is s.heads.structs s.declared name x.0) (λ t g. answered (judged.member h g)))
  typed_is s b (ArrowTree e name) = bind_ends _ _ (typed_is s b e) (λ x h. bind_ends _ _ (arrow_is s.heads.structs s.declared name (value_of x.0)) (λ t g. answered (judged.arrow h (value_is x.0) g)))
  typed_is s b (CallTree name all) =
      bind_ends _ _ (values_are s b NoTExprs all) (λ x h.
      bind_ends _ _ (called_is s.heads x.1 name (λ t. HasType s b (CallTree name all) t x.1) (λ f. call s.library f x.0) (callee s.heads x.1 name) refl
      (λ g has. map_ends _ (call_is s.library g x.0) (λ t given. judged.call (subst (λ vs. AreValues s b all vs x.1) h.1 h.2) has given)) refused) (λ t g. answered g))
  typed_is s b (GateTree name all) =
      bind_ends _ _ (values_are s b NoTExprs all) (λ x h.
      bind_ends _ _ (called_is s.heads x.1 name (λ t. HasType s b (GateTree name all) t x.1) (λ f. gate f x.0) (callee s.heads x.1 name) refl
      (λ g has. map_ends _ (gate_is g x.0) (λ t given. judged.gate (subst (λ vs. AreValues s b all vs x.1) h.1 h.2) has given)) refused) (λ t g. answered g))
  typed_is s b GetcTree = answered judged.getc
  typed_is s b (PutcTree e) = bind_ends _ _ (typed_is s b e) (λ x h. bind_ends _ _ (bind_ends {Q = λ t. HasType s b (PutcTree e) t x.1} _ _ (long_is x.0) (λ v long. answered (judged.putc h long))) (λ t g. answered g))
  typed_is s b (DevLoadTree device register) = answered judged.device_load
  typed_is s b (DevStoreTree device register e) = bind_ends _ _ (typed_is s b e) (λ x h. bind_ends _ _ (bind_ends {Q = λ t. HasType s b (DevStoreTree device register e) t x.1} _ _ (long_is x.0) (λ v long. answered (judged.device_store h long))) (λ t g. answered g))
  typed_is s b (SpawnTree name e) =
      bind_ends _ _ (typed_is s b e) (λ x h.
      bind_ends _ _ (called_is s.heads x.1 name (λ t. HasType s b (SpawnTree name e) t x.1) (λ f. spawn s.library f (value_of x.0)) (callee s.heads x.1 name) refl
      (λ g has. map_ends _ (spawn_is s.library g (value_of x.0)) (λ t given. judged.spawn h (value_is x.0) has given)) refused) (λ t g. answered g))
  typed_is s b (SwitchTree e) = bind_ends _ _ (typed_is s b e) (λ x h. bind_ends _ _ (bind_ends {Q = λ t. HasType s b (SwitchTree e) t x.1} _ _ (long_is x.0) (λ v long. answered (judged.switch h long))) (λ t g. answered g))
  typed_is s b MeTree = answered judged.me

  values_are : (s : ScopeTree) (b : BodyTree) (before : TExprTrees) (es : ExprTrees) → Ends (Follows s b before es) (typed_all s b before es)
  values_are s b before NoExprs = answered (NoTExprs, joined_none before, no_values)
  values_are s b before (MoreExprs e rest) =
      bind_ends _ _ (typed_is s b e) (λ x h. map_ends _ (values_are s x.1 (joined before (MoreTExprs (value_of x.0) NoTExprs)) rest) (λ y k.
      (MoreTExprs (value_of x.0) k.0, sym (joined_more before (value_of x.0) k.0) ∙ k.1, more_values h (value_is x.0) k.2)))

-- ---- what is judged is what the check gives

binary_at : {x y v w t : TExprTree} (declared : ℕ) (op : Binop) → HasValue x v → HasValue y w → BinaryGives declared op v w t → binary declared op x y ≡ Ok t
binary_at {x} {y} {v} {w} declared op h k g = ap (λ a. binary_values declared op a (value_of y)) (value_holds h) ∙ ap (binary_values declared op v) (value_holds k) ∙ binary_holds g

element_at : {x y v w t : TExprTree} (declared : ℕ) → HasValue x v → HasValue y w → IndexGives declared v w t → element declared (value_of x) (value_of y) ≡ Ok t
element_at {x} {y} {v} {w} declared h k g = ap (λ a. element declared a (value_of y)) (value_holds h) ∙ ap (element declared v) (value_holds k) ∙ element_holds g

spawn_at : {h : HeadsTree} {x v t : TExprTree} (library n : ℕ) (f : FunctionHead) (c : BodyTree) (name : List ℕ) → HasValue x v → IsFunction h c.blocks name n f → SpawnGives library n f v t → spawn library (callee h c name) (value_of x) ≡ Ok t
spawn_at {h} {x} {v} library n f c name value has g = ap (λ r. spawn library r (value_of x)) (callee_holds c has) ∙ ap (spawn library (Some (record { number = n; head = f }))) (value_holds value) ∙ spawn_holds g

mutual
  pub typed_holds : {s : ScopeTree} {b c : BodyTree} {e : ExprTree} {t : TExprTree} → HasType s b e t c → typed s b e ≡ Ok (t, c)
  typed_holds judged.number = refl
  typed_holds (judged.string {s} {b} {bytes} less) = demand_ok _ _ _ _ (lt-ltb (length bytes) 67108864 less) refl
  typed_holds (judged.local_variable {s} {b} {name} {n} h) = ap (λ r. then_in b (variable_node s.heads b name r)) (designates_holds None h)
  typed_holds (judged.global_variable {s} {b} {name} {n} und is) =
      ap (λ r. then_in b (variable_node s.heads b name r)) (undeclared_holds None und) ∙ ap (λ r. then_in b (global_node s.heads r)) is
  typed_holds (judged.unary_operator h g) = bind_ok _ _ _ _ (typed_holds h) (bind_ok _ _ _ _ (unary_holds g) refl)
  typed_holds (judged.binary_operator {s} {b} {c} {d} {op} h k v w g) =
      bind_ok _ _ _ _ (typed_holds h) (bind_ok _ _ _ _ (typed_holds k) (bind_ok _ _ _ _ (binary_at s.declared op v w g) refl))
  typed_holds (judged.cast {s} {to = to} {ty} h means v g) =
      bind_ok _ _ _ _ (typed_holds h) (bind_ok _ _ _ _ (bind_ok _ _ _ _ (cast_type_holds s to ty means (cast_complete s.declared g)) (ap (cast ty) (value_holds v) ∙ cast_holds g)) refl)
  typed_holds (judged.size {s} {b} {of} {ty} is) = bind_ok _ _ _ _ (bind_ok _ _ _ _ (object_holds s.heads s.declared of ty is) refl) refl
  typed_holds (judged.index {s} h k v w g) =
      bind_ok _ _ _ _ (typed_holds h) (bind_ok _ _ _ _ (typed_holds k) (bind_ok _ _ _ _ (element_at s.declared v w g) refl))
  typed_holds (judged.member h g) = bind_ok _ _ _ _ (typed_holds h) (bind_ok _ _ _ _ (member_holds g) refl)
  typed_holds (judged.arrow {s} {name = name} h v g) = bind_ok _ _ _ _ (typed_holds h) (bind_ok _ _ _ _ (ap (arrow s.heads.structs s.declared name) (value_holds v) ∙ arrow_holds g) refl)
  typed_holds (judged.call {s} {b} {c} {vs = vs} h has g) = bind_ok _ _ _ _ (values_hold NoTExprs h) (bind_ok _ _ _ _ (ap (λ f. call s.library f vs) (callee_holds c has) ∙ call_holds g) refl)
  typed_holds (judged.gate {s} {b} {c} {vs = vs} h has g) = bind_ok _ _ _ _ (values_hold NoTExprs h) (bind_ok _ _ _ _ (ap (λ f. gate f vs) (callee_holds c has) ∙ gate_holds g) refl)
  typed_holds judged.getc = refl
  typed_holds (judged.putc h long) = bind_ok _ _ _ _ (typed_holds h) (bind_ok _ _ _ _ (bind_ok _ _ _ _ (long_holds long) refl) refl)
  typed_holds judged.device_load = refl
  typed_holds (judged.device_store h long) = bind_ok _ _ _ _ (typed_holds h) (bind_ok _ _ _ _ (bind_ok _ _ _ _ (long_holds long) refl) refl)
  typed_holds (judged.spawn {s} {b} {c} {name} {n} {f} h v has g) =
      bind_ok _ _ _ _ (typed_holds h) (bind_ok _ _ _ _ (spawn_at s.library n f c name v has g) refl)
  typed_holds (judged.switch h long) = bind_ok _ _ _ _ (typed_holds h) (bind_ok _ _ _ _ (bind_ok _ _ _ _ (long_holds long) refl) refl)
  typed_holds judged.me = refl

  values_hold : {s : ScopeTree} {b c : BodyTree} {es : ExprTrees} {vs : TExprTrees} (before : TExprTrees) → AreValues s b es vs c → typed_all s b before es ≡ Ok (joined before vs, c)
  values_hold before (no_values {s} {b}) = ap (λ es. Ok (es, b)) (sym (joined_none before))
  values_hold before (more_values {s} {b} {c} {d} {e} {es} {x} {v} {vs} h value more) =
      bind_ok _ _ _ _ (typed_holds h)
      (ap (λ u. typed_all s c (joined before (MoreTExprs u NoTExprs)) es) (value_holds value)
      ∙ values_hold (joined before (MoreTExprs v NoTExprs)) more ∙ ap (λ es. Ok (es, d)) (joined_more before v vs))
