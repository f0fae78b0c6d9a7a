-- What the checker refuses at the nodes of a body.
use Rattle.std.specs.Prelude.{◌≡◌, ℕ, Bool, true, nat_le, nat_lt, if◌then◌else◌, List, length, Option, Some, None, Ok}
use Rattle.fx_c_ast.specs.declared.operator.Unop.{Unop}
use Rattle.fx_c_ast.specs.declared.operator.Binop.{Binop}
use Rattle.fx_c_ast.specs.ParsedTrees.{TextTree, StmtTree, MaybeStmt, LocalTree, AssignTree, IfTree}
use Rattle.fx_c_ast.specs.ParsedTrees.{WhileTree, ForTree, BreakTree, ContinueTree, ReturnTree}
use Rattle.fx_c_ast.specs.ParsedTrees.{TypeTree, ExprTree, ExprTrees, VarTree, UnTree, BinTree}
use Rattle.fx_c_ast.specs.ParsedTrees.{CastTree, SizeTree, IndexTree, MemberTree, ArrowTree}
use Rattle.fx_c_ast.specs.ParsedTrees.{CallTree, GateTree, PutcTree, DevStoreTree, SpawnTree}
use Rattle.fx_c_ast.specs.ParsedTrees.{SwitchTree}
use Rattle.fx_c_ast.specs.StackUse.{frame_size}
use Rattle.fx_c_ast.specs.CheckedTrees.{TStmtTrees, SAssign, SIf, SWhile, SFor, SReturn, TExprTree, NoTExprs}
use Rattle.fx_c_types_rules.specs.declared.fault.TypeKind.TheVariants.{TooLarge, ReturnType, BreakOutside, FrameTooLong}
use Rattle.fx_c_types_rules.specs.Types.{is_void}
use Rattle.fx_c_types_rules.specs.Structs.{place_32}
use Rattle.fx_c_types_rules.specs.Locals.{types_of_locals}
use Rattle.fx_c_types_rules.specs.Checks.{◌>>=◌}
use Rattle.fx_c_types_heads.specs.Written.{ty_of}
use Rattle.fx_c_types_heads.specs.Sizes.{known}
use Rattle.fx_c_types_heads.specs.Heads.{HeadsTree, FunctionHead}
use Rattle.fx_c_types_bodies.specs.Bodies.{ScopeTree, BodyTree, then_in, typed, typed_all, with_local, started, declared_local, checked, checked_maybe}
use Rattle.fx_c_types.specs.Programs.{BodiesTree, finished}
use Rattle.fx_c_types_refusals_law.specs.Kinds.{kinds, first_broken, IsRefusedFor}
use Rattle.fx_c_types_refusals_law.specs.Nodes.{Node, Variable, Unary, Binary, Cast, Size, Index}
use Rattle.fx_c_types_refusals_law.specs.Nodes.{Member, Arrow, Call, Gate, Putc, DevStore, Spawn}
use Rattle.fx_c_types_refusals_law.specs.Nodes.{Switch, Assigned, Tested, Returned, node_of}
use Rattle.fx_c_types_refusals_law.specs.Nodes.{breaks_node, breaks_local}

-- an expression's operands are tried first, from left to right, and then its node
pub record ExpressionsAreTried : Type 0 where
  pub variable : (s : ScopeTree) (b : BodyTree) (name : List ℕ) → typed s b (VarTree name) ≡ then_in b (node_of s b (Variable name))
  pub unary : (s : ScopeTree) (b : BodyTree) (op : Unop) (e : ExprTree) → typed s b (UnTree op e) ≡ (typed s b e >>= (λ x. then_in x.1 (node_of s x.1 (Unary op x.0))))
  pub binary : (s : ScopeTree) (b : BodyTree) (op : Binop) (e f : ExprTree)
      → typed s b (BinTree op e f)
      ≡ (typed s b e
      >>= (λ x. typed s x.1 f >>= (λ y. then_in y.1 (node_of s y.1 (Binary op x.0 y.0)))))
  pub cast : (s : ScopeTree) (b : BodyTree) (t : TypeTree) (e : ExprTree) → typed s b (CastTree t e) ≡ (typed s b e >>= (λ x. then_in x.1 (node_of s x.1 (Cast t x.0))))
  pub size : (s : ScopeTree) (b : BodyTree) (t : TypeTree) → typed s b (SizeTree t) ≡ then_in b (node_of s b (Size t))
  pub index : (s : ScopeTree) (b : BodyTree) (e f : ExprTree) → typed s b (IndexTree e f) ≡ (typed s b e >>= (λ x. typed s x.1 f >>= (λ y. then_in y.1 (node_of s y.1 (Index x.0 y.0)))))
  pub member : (s : ScopeTree) (b : BodyTree) (e : ExprTree) (name : List ℕ) → typed s b (MemberTree e name) ≡ (typed s b e >>= (λ x. then_in x.1 (node_of s x.1 (Member x.0 name))))
  pub arrow : (s : ScopeTree) (b : BodyTree) (e : ExprTree) (name : List ℕ) → typed s b (ArrowTree e name) ≡ (typed s b e >>= (λ x. then_in x.1 (node_of s x.1 (Arrow x.0 name))))
  pub call : (s : ScopeTree) (b : BodyTree) (name : List ℕ) (all : ExprTrees) → typed s b (CallTree name all) ≡ (typed_all s b NoTExprs all >>= (λ x. then_in x.1 (node_of s x.1 (Call name x.0))))
  pub gate : (s : ScopeTree) (b : BodyTree) (name : List ℕ) (all : ExprTrees) → typed s b (GateTree name all) ≡ (typed_all s b NoTExprs all >>= (λ x. then_in x.1 (node_of s x.1 (Gate name x.0))))
  pub putc : (s : ScopeTree) (b : BodyTree) (e : ExprTree) → typed s b (PutcTree e) ≡ (typed s b e >>= (λ x. then_in x.1 (node_of s x.1 (Putc x.0))))
  pub store : (s : ScopeTree) (b : BodyTree) (device register : ℕ) (e : ExprTree)
      → typed s b (DevStoreTree device register e)
      ≡ (typed s b e >>= (λ x. then_in x.1 (node_of s x.1 (DevStore device register x.0))))
  pub spawn : (s : ScopeTree) (b : BodyTree) (name : List ℕ) (e : ExprTree) → typed s b (SpawnTree name e) ≡ (typed s b e >>= (λ x. then_in x.1 (node_of s x.1 (Spawn name x.0))))
  pub switch : (s : ScopeTree) (b : BodyTree) (e : ExprTree) → typed s b (SwitchTree e) ≡ (typed s b e >>= (λ x. then_in x.1 (node_of s x.1 (Switch x.0))))

-- a node is refused for the first rule of the table that it breaks, and passes where it breaks none
abbrev pub NodesAreRefused : Type 0
NodesAreRefused = (s : ScopeTree) (b : BodyTree) (n : Node) → IsRefusedFor (node_of s b n) (first_broken (breaks_node s b n) kinds)

-- so is the declaration of a local, behind the expression of its value
abbrev pub LocalsAreRefused : Type 0
LocalsAreRefused =
    (s : ScopeTree) (shared : Bool) (t : TypeTree) (name : List ℕ) (n : ℕ)
    (x : Option TExprTree × BodyTree)
    → IsRefusedFor (declared_local s shared t name n x)
    (first_broken (breaks_local s x.1 t name x.0) kinds)

-- the values and statements in a statement are tried first, in their order, and then what it asks of its values
pub record StatementsAreTried : Type 0 where
  pub assignment : (s : ScopeTree) (loop : Bool) (b : BodyTree) (to e : ExprTree)
      → checked s loop b (AssignTree to e)
      ≡ (typed s b to
      >>= (λ x. typed s x.1 e
      >>= (λ y. node_of s y.1 (Assigned x.0 y.0) >>= (λ v. Ok (SAssign x.0 v, y.1)))))
  pub condition : (s : ScopeTree) (loop : Bool) (b : BodyTree) (test : ExprTree) (one : StmtTree)
      (other : MaybeStmt)
      → checked s loop b (IfTree test one other)
      ≡ (typed s b test
      >>= (λ t. checked s loop t.1 one
      >>= (λ x. checked_maybe s loop x.1 other
      >>= (λ y. node_of s y.1 (Tested t.0) >>= (λ c. Ok (SIf c x.0 y.0, y.1))))))
  pub repetition : (s : ScopeTree) (loop : Bool) (b : BodyTree) (test : ExprTree) (body : StmtTree)
      → checked s loop b (WhileTree test body)
      ≡ (typed s b test
      >>= (λ t. checked s true t.1 body
      >>= (λ x. node_of s x.1 (Tested t.0) >>= (λ c. Ok (SWhile c x.0, x.1)))))
  pub counted : (s : ScopeTree) (loop : Bool) (b : BodyTree) (first next : MaybeStmt)
      (test : ExprTree) (body : StmtTree)
      → checked s loop b (ForTree first (Some test) next body)
      ≡ (checked_maybe s loop b first
      >>= (λ f. typed s f.1 test
      >>= (λ t. checked_maybe s loop t.1 next
      >>= (λ n. checked s true n.1 body
      >>= (λ x. node_of s x.1 (Tested t.0)
      >>= (λ c. Ok (SFor f.0 (Some c) n.0 x.0, x.1)))))))
  pub endless : (s : ScopeTree) (loop : Bool) (b : BodyTree) (first next : MaybeStmt)
      (body : StmtTree)
      → checked s loop b (ForTree first None next body)
      ≡ (checked_maybe s loop b first
      >>= (λ f. checked_maybe s loop f.1 next
      >>= (λ n. checked s true n.1 body >>= (λ x. Ok (SFor f.0 None n.0 x.0, x.1)))))
  pub result : (s : ScopeTree) (loop : Bool) (b : BodyTree) (e : ExprTree)
      → checked s loop b (ReturnTree (Some e))
      ≡ (typed s b e
      >>= (λ x. node_of s x.1 (Returned x.0) >>= (λ v. Ok (SReturn (Some v), x.1))))
  pub declaration : (s : ScopeTree) (loop : Bool) (b : BodyTree) (shared : Bool) (t : TypeTree)
      (name : List ℕ) (init : Option ExprTree)
      → checked s loop b (LocalTree shared t name init)
      ≡ (started s (with_local b shared (ty_of s.heads.tags t)) name (place_32 (length b.locals))
      init
      >>= (λ x. declared_local s shared t name (place_32 (length b.locals)) x))

-- nodes with one rule each: a string is at most as large as a type may be, `break` and `continue` stand in a loop, no
-- value is returned from a function that gives none, and a frame, which is tried behind the body, is short enough
pub record SingleRules : Type 0 where
  pub string : (s : ScopeTree) (b : BodyTree) (bytes : List ℕ) → IsRefusedFor (typed s b (TextTree bytes)) (if nat_lt (length bytes) 67108864 then None else Some TooLarge)
  pub break : (s : ScopeTree) (loop : Bool) (b : BodyTree) → IsRefusedFor (checked s loop b BreakTree) (if loop then None else Some BreakOutside)
  pub continue : (s : ScopeTree) (loop : Bool) (b : BodyTree) → IsRefusedFor (checked s loop b ContinueTree) (if loop then None else Some BreakOutside)
  pub no_value : (s : ScopeTree) (loop : Bool) (b : BodyTree) → IsRefusedFor (checked s loop b (ReturnTree None)) (if is_void s.answer then None else Some ReturnType)
  pub frame : (h : HeadsTree) (b : BodiesTree) (f : FunctionHead) (x : TStmtTrees × BodyTree)
      → IsRefusedFor (finished h b f x)
      (if nat_le (frame_size (known h.layouts) (types_of_locals x.1.locals) x.0) 65536
      then None
      else Some FrameTooLong)
