-- Bodies of functions: names in reach, expressions, statements.
--
-- Each judgement takes what is there before a node to the checked node and what is there after it, or to the first
-- rule that is violated: nodes in postorder, from left to right, and at a node the rules in their order.
use Rattle.std.specs.Prelude.{ℕ, Bool, true, false, ◌+◌, ◌-◌, ◌&&◌, ◌||◌, not, nat_eq, nat_lt, min}
use Rattle.std.specs.Prelude.{List, [], ◌∷◌, ◌++◌, length, take, slice_get, slice_index_or}
use Rattle.std.specs.Prelude.{slice_set, Option, Some, None, is_some, Ok}
use Rattle.fx_c_ast.specs.declared.operator.IntType.TheVariants.{Char, Long, Ulong}
use Rattle.fx_c_ast.specs.ParsedTrees.{TypeTree, ExprTree, NumberTree, TextTree, VarTree, UnTree}
use Rattle.fx_c_ast.specs.ParsedTrees.{BinTree, CastTree, SizeTree, IndexTree, MemberTree}
use Rattle.fx_c_ast.specs.ParsedTrees.{ArrowTree, CallTree, GateTree, GetcTree, PutcTree}
use Rattle.fx_c_ast.specs.ParsedTrees.{DevLoadTree, DevStoreTree, SpawnTree, SwitchTree, MeTree}
use Rattle.fx_c_ast.specs.ParsedTrees.{ExprTrees, NoExprs, MoreExprs, StmtTree, EmptyTree}
use Rattle.fx_c_ast.specs.ParsedTrees.{BlockTree, LocalTree, EvalTree, AssignTree, IfTree}
use Rattle.fx_c_ast.specs.ParsedTrees.{WhileTree, ForTree, BreakTree, ContinueTree, ReturnTree}
use Rattle.fx_c_ast.specs.ParsedTrees.{StmtTrees, NoStmts, MoreStmts, MaybeStmt, Absent, Present}
use Rattle.fx_c_ast.specs.CheckedTrees.{TyTree, VoidTy, IntTy, ArrayTy, TExprTree, ENumber}
use Rattle.fx_c_ast.specs.CheckedTrees.{ELiteral, EGlobal, ELocal, ESize, EGetc, EDevLoad, EMe}
use Rattle.fx_c_ast.specs.CheckedTrees.{ECall, EGate, ESpawn, TExprTrees, NoTExprs, MoreTExprs}
use Rattle.fx_c_ast.specs.CheckedTrees.{TStmtTree, SEmpty, SBlock, SLocal, SEval, SAssign, SIf}
use Rattle.fx_c_ast.specs.CheckedTrees.{SWhile, SFor, SBreak, SContinue, SReturn, TStmtTrees}
use Rattle.fx_c_ast.specs.CheckedTrees.{NoTStmts, MoreTStmts, MaybeTStmt, NoTStmt, OneTStmt}
use Rattle.fx_c_types_heads.specs.Names.{found}
use Rattle.fx_c_types_rules.specs.declared.fault.TypeKind.TheVariants.{Twice, UnknownType, TooLarge, UnknownName, NotInteger, Arguments, ReturnType, CrossCall, NotEntry, BreakOutside}
use Rattle.fx_c_types_rules.specs.Checks.{Checked, ◌>>=◌, refuse, demand}
use Rattle.fx_c_types_rules.specs.Types.{category, is_void, is_complete, same_type}
use Rattle.fx_c_types_rules.specs.Values.{type_of, value_of, is_scalar, condition, assigned, agrees, converted}
use Rattle.fx_c_types_rules.specs.Operators.{unary, binary, cast, element}
use Rattle.fx_c_types_rules.specs.Structs.{place_32, member, arrow}
use Rattle.fx_c_types_rules.specs.Locals as plain
use Rattle.fx_c_types_rules.specs.Calls.{arguments, joined, putc, device_store, switch}
use Rattle.fx_c_types_heads.specs.Written.{ty_of, is_named}
use Rattle.fx_c_types_heads.specs.Heads.{HeadsTree, FunctionHead, GlobalHead, object_type}

-- what holds in the whole of a function's body: the program's heads, how many structs are declared before the
-- function, and the function's library and result
pub record ScopeTree : Type 0 where
  pub heads : HeadsTree
  pub declared : ℕ
  pub library : ℕ
  pub answer : TyTree

-- what grows in a body: the program's strings, the parameters and locals so far, and the names that the open blocks
-- declare, the outermost block first
pub record BodyTree : Type 0 where
  pub literals : List (List ℕ)
  pub locals : List plain.LocalTree
  pub blocks : List (List (List ℕ × ℕ))

-- a node with what is there after it
abbrev pub then_in : {A : Type 0} → BodyTree → Checked A → Checked (A × BodyTree)
then_in b r = r >>= (λ x. Ok (x, b))

-- ---- names in reach

abbrev pub or_found : Option ℕ → Option ℕ → Option ℕ
or_found other None = other
or_found other (Some n) = Some n

-- the local that a name means: inner blocks hide outer ones
abbrev pub in_blocks : Option ℕ → List ℕ → List (List (List ℕ × ℕ)) → Option ℕ
in_blocks outer name [] = outer
in_blocks outer name (b ∷ bs) = in_blocks (or_found outer (found name b)) name bs

abbrev pub local_named : BodyTree → List ℕ → Option ℕ
local_named b name = in_blocks None name b.blocks

-- a local's number as 16 bits hold it: a frame of so many locals is too long
abbrev pub place_16 : ℕ → ℕ
place_16 n = min n 65535

abbrev pub type_or_void : Option plain.LocalTree → TyTree
type_or_void None = VoidTy
type_or_void (Some l) = l.ty

abbrev pub local_node : BodyTree → ℕ → TExprTree
local_node b n = ELocal (type_or_void (slice_get b.locals n)) (place_16 n)

abbrev pub global_or_void : Option GlobalHead → TyTree
global_or_void None = VoidTy
global_or_void (Some g) = g.ty

abbrev pub global_node : HeadsTree → Option ℕ → Checked TExprTree
global_node h None = refuse UnknownName
global_node h (Some n) = Ok (EGlobal (global_or_void (slice_get h.globals n)) n)

abbrev pub variable_node : HeadsTree → BodyTree → List ℕ → Option ℕ → Checked TExprTree
variable_node h b name (Some n) = Ok (local_node b n)
variable_node h b name None = global_node h (found name h.global_names)

-- a name as a value: a local, or a global that no local hides
abbrev pub variable : HeadsTree → BodyTree → List ℕ → Checked TExprTree
variable h b name = variable_node h b name (local_named b name)

abbrev pub unless_hidden : Option ℕ → Option ℕ → Option ℕ
unless_hidden None n = n
unless_hidden (Some hider) n = None

-- the number of the function that a name means
abbrev pub function_named : HeadsTree → BodyTree → List ℕ → Option ℕ
function_named h b name = unless_hidden (local_named b name) (found name h.function_names)

-- ---- expressions

-- a string: an object of its own, with a zero byte at its end
abbrev pub text_node : BodyTree → List ℕ → Checked (TExprTree × BodyTree)
text_node b bytes =
    demand (nat_lt (length bytes) 67108864) TooLarge
    (Ok (
      ELiteral (ArrayTy (IntTy Char) (length bytes + 1)) (place_32 (length b.literals)),
      record b { literals = b.literals ++ (bytes ++ 0 ∷ []) ∷ [] },
    ))

-- the type of a cast: a struct in it by value has to be complete
abbrev pub cast_type : ScopeTree → TypeTree → Checked TyTree
cast_type s t =
    demand (is_named s.heads.tags t) UnknownType
    (demand (is_void (ty_of s.heads.tags t) || is_complete s.declared (ty_of s.heads.tags t)) UnknownType
    (Ok (ty_of s.heads.tags t)))

abbrev pub cast_node : ScopeTree → TypeTree → TExprTree → Checked TExprTree
cast_node s t e = cast_type s t >>= (λ ty. cast ty (value_of e))

abbrev pub size_of_type : ScopeTree → TypeTree → Checked TExprTree
size_of_type s t = object_type s.heads s.declared t >>= (λ ty. Ok (ESize (IntTy Ulong) ty))

-- a function that is called: its number and its head
pub record CalleeTree : Type 0 where
  pub number : ℕ
  pub head : FunctionHead

abbrev pub numbered : ℕ → Option FunctionHead → Option CalleeTree
numbered n None = None
numbered n (Some f) = Some (record { number = n; head = f })

abbrev pub head_numbered : HeadsTree → Option ℕ → Option CalleeTree
head_numbered h None = None
head_numbered h (Some n) = numbered n (slice_get h.functions n)

abbrev pub callee : HeadsTree → BodyTree → List ℕ → Option CalleeTree
callee h b name = head_numbered h (function_named h b name)

-- a call, which stays within the library
abbrev pub call : ℕ → Option CalleeTree → TExprTrees → Checked TExprTree
call library None es = refuse UnknownName
call library (Some f) es = arguments f.head.params es >>= (λ es.
    demand (nat_eq f.head.library library) CrossCall (Ok (ECall f.head.answer f.number es)))

-- a gate call, which goes to an entry function of any library
abbrev pub gate : Option CalleeTree → TExprTrees → Checked TExprTree
gate None es = refuse UnknownName
gate (Some f) es = arguments f.head.params es >>= (λ es.
    demand f.head.entry NotEntry (Ok (EGate f.head.answer f.number es)))

abbrev pub is_long : TyTree → Bool
is_long t = same_type t (IntTy Long)

abbrev pub are_one_long : List plain.LocalTree → Bool
are_one_long [] = false
are_one_long (p ∷ []) = is_long p.ty
are_one_long (p ∷ (q ∷ ps)) = false

-- the value that a thread starts with, in a function that takes and gives a long
abbrev pub first_value : FunctionHead → TExprTree → Checked TExprTree
first_value f e =
    demand (is_scalar (category (type_of e))) NotInteger
    (demand (is_long f.answer && are_one_long f.params) Arguments
    (demand (agrees (IntTy Long) e) Arguments (Ok (converted (IntTy Long) e))))

-- a thread's start, which stays within the library
abbrev pub spawn : ℕ → Option CalleeTree → TExprTree → Checked TExprTree
spawn library None e = refuse UnknownName
spawn library (Some f) e = first_value f.head e >>= (λ e.
    demand (nat_eq f.head.library library) CrossCall (Ok (ESpawn (IntTy Long) f.number e)))

abbrev mutual
  pub typed : ScopeTree → BodyTree → ExprTree → Checked (TExprTree × BodyTree)
  typed s b (NumberTree value ty) = Ok (ENumber (IntTy ty) value, b)
  typed s b (TextTree bytes) = text_node b bytes
  typed s b (VarTree name) = then_in b (variable s.heads b name)
  typed s b (UnTree op e) = typed s b e >>= (λ x. then_in x.1 (unary s.declared op x.0))
  typed s b (BinTree op e f) = typed s b e >>= (λ x. typed s x.1 f >>= (λ y. then_in y.1 (binary s.declared op x.0 y.0)))
  typed s b (CastTree t e) = typed s b e >>= (λ x. then_in x.1 (cast_node s t x.0))
  typed s b (SizeTree t) = then_in b (size_of_type s t)
  typed s b (IndexTree e f) = typed s b e >>= (λ x. typed s x.1 f >>= (λ y. then_in y.1 (element s.declared (value_of x.0) (value_of y.0))))
  typed s b (MemberTree e name) = typed s b e >>= (λ x. then_in x.1 (member s.heads.structs s.declared name x.0))
  typed s b (ArrowTree e name) = typed s b e >>= (λ x. then_in x.1 (arrow s.heads.structs s.declared name (value_of x.0)))
  typed s b (CallTree name all) = typed_all s b NoTExprs all >>= (λ x. then_in x.1 (call s.library (callee s.heads x.1 name) x.0))
  typed s b (GateTree name all) = typed_all s b NoTExprs all >>= (λ x. then_in x.1 (gate (callee s.heads x.1 name) x.0))
  typed s b GetcTree = Ok (EGetc (IntTy Long), b)
  typed s b (PutcTree e) = typed s b e >>= (λ x. then_in x.1 (putc x.0))
  typed s b (DevLoadTree device register) = Ok (EDevLoad (IntTy Long) device register, b)
  typed s b (DevStoreTree device register e) = typed s b e >>= (λ x. then_in x.1 (device_store device register x.0))
  typed s b (SpawnTree name e) = typed s b e >>= (λ x. then_in x.1 (spawn s.library (callee s.heads x.1 name) (value_of x.0)))
  typed s b (SwitchTree e) = typed s b e >>= (λ x. then_in x.1 (switch x.0))
  typed s b MeTree = Ok (EMe (IntTy Long), b)

  -- arguments, as values, behind those before
  pub typed_all : ScopeTree → BodyTree → TExprTrees → ExprTrees → Checked (TExprTrees × BodyTree)
  typed_all s b before NoExprs = Ok (before, b)
  typed_all s b before (MoreExprs e rest) = typed s b e >>= (λ x. typed_all s x.1 (joined before (MoreTExprs (value_of x.0) NoTExprs)) rest)

-- ---- statements

-- the names of the innermost block
abbrev pub innermost : BodyTree → List (List ℕ × ℕ)
innermost b = slice_index_or b.blocks (length b.blocks - 1) []

abbrev pub entered : BodyTree → List (List ℕ × ℕ) → BodyTree
entered b names = record b { blocks = b.blocks ++ names ∷ [] }

abbrev pub left : BodyTree → BodyTree
left b = record b { blocks = take (length b.blocks - 1) b.blocks }

-- one more local
abbrev pub with_local : BodyTree → Bool → TyTree → BodyTree
with_local b shared ty = record b { locals = b.locals ++ record { shared = shared; ty = ty } ∷ [] }

-- a name in the innermost block
abbrev pub with_name : BodyTree → List ℕ → ℕ → BodyTree
with_name b name n = record b { blocks = slice_set b.blocks (length b.blocks - 1) (innermost b ++ (name, n) ∷ []) }

-- the value that a local begins with; the local is in reach there already
abbrev pub started : ScopeTree → BodyTree → List ℕ → ℕ → Option ExprTree → Checked (Option TExprTree × BodyTree)
started s b name n None = Ok (None, b)
started s b name n (Some e) = typed s (entered b ((name, n) ∷ [])) e >>= (λ x. Ok (Some (value_of x.0), left x.1))

abbrev pub assigned_start : TExprTree → Option TExprTree → Checked (Option TExprTree)
assigned_start to None = Ok None
assigned_start to (Some e) = assigned to e >>= (λ e. Ok (Some e))

-- a declaration, whose rules are tried behind those of its value's expression
abbrev pub declared_local : ScopeTree → Bool → TypeTree → List ℕ → ℕ → (Option TExprTree × BodyTree) → Checked (TStmtTree × BodyTree)
declared_local s shared t name n x =
    demand (not (is_some (found name (innermost x.1)))) Twice
    (object_type s.heads s.declared t >>= (λ ty.
    assigned_start (ELocal ty (place_16 n)) x.0 >>= (λ init.
    Ok (SLocal (place_16 n) init, with_name x.1 name n))))

abbrev pub local : ScopeTree → BodyTree → Bool → TypeTree → List ℕ → Option ExprTree → Checked (TStmtTree × BodyTree)
local s b shared t name init =
    started s (with_local b shared (ty_of s.heads.tags t)) name (place_32 (length b.locals)) init >>= (λ x.
    declared_local s shared t name (place_32 (length b.locals)) x)

-- a value that is returned
abbrev pub returned : TyTree → TExprTree → Checked TExprTree
returned t e =
    demand (is_scalar (category (type_of e))) NotInteger
    (demand (agrees t e) ReturnType (Ok (converted t e)))

abbrev pub maybe_typed : ScopeTree → BodyTree → Option ExprTree → Checked (Option TExprTree × BodyTree)
maybe_typed s b None = Ok (None, b)
maybe_typed s b (Some e) = typed s b e >>= (λ x. Ok (Some x.0, x.1))

abbrev pub maybe_condition : Option TExprTree → Checked (Option TExprTree)
maybe_condition None = Ok None
maybe_condition (Some e) = condition (value_of e) >>= (λ e. Ok (Some e))

abbrev pub return_node : ScopeTree → BodyTree → Option ExprTree → Checked (TStmtTree × BodyTree)
return_node s b None = demand (is_void s.answer) ReturnType (Ok (SReturn None, b))
return_node s b (Some e) = typed s b e >>= (λ x. returned s.answer (value_of x.0) >>= (λ e. Ok (SReturn (Some e), x.1)))

-- one more statement
abbrev pub followed : TStmtTrees → TStmtTree → TStmtTrees
followed NoTStmts t = MoreTStmts t NoTStmts
followed (MoreTStmts u rest) t = MoreTStmts u (followed rest t)

abbrev mutual
  -- a statement, inside a loop or not
  pub checked : ScopeTree → Bool → BodyTree → StmtTree → Checked (TStmtTree × BodyTree)
  checked s loop b EmptyTree = Ok (SEmpty, b)
  checked s loop b (BlockTree all) = checked_all s loop (entered b []) NoTStmts all >>= (λ x. Ok (SBlock x.0, left x.1))
  checked s loop b (LocalTree shared t name init) = local s b shared t name init
  checked s loop b (EvalTree e) = typed s b e >>= (λ x. Ok (SEval (value_of x.0), x.1))
  checked s loop b (AssignTree to e) = typed s b to >>= (λ x. typed s x.1 e >>= (λ y. assigned x.0 (value_of y.0) >>= (λ e. Ok (SAssign x.0 e, y.1))))
  checked s loop b (IfTree test one other) =
      typed s b test >>= (λ t. checked s loop t.1 one >>= (λ x. checked_maybe s loop x.1 other >>= (λ y.
      condition (value_of t.0) >>= (λ c. Ok (SIf c x.0 y.0, y.1)))))
  checked s loop b (WhileTree test body) =
      typed s b test >>= (λ t. checked s true t.1 body >>= (λ x.
      condition (value_of t.0) >>= (λ c. Ok (SWhile c x.0, x.1))))
  checked s loop b (ForTree first test next body) =
      checked_maybe s loop b first >>= (λ f. maybe_typed s f.1 test >>= (λ t. checked_maybe s loop t.1 next >>= (λ n.
      checked s true n.1 body >>= (λ x.
      maybe_condition t.0 >>= (λ c. Ok (SFor f.0 c n.0 x.0, x.1))))))
  checked s loop b BreakTree = demand loop BreakOutside (Ok (SBreak, b))
  checked s loop b ContinueTree = demand loop BreakOutside (Ok (SContinue, b))
  checked s loop b (ReturnTree e) = return_node s b e

  pub checked_maybe : ScopeTree → Bool → BodyTree → MaybeStmt → Checked (MaybeTStmt × BodyTree)
  checked_maybe s loop b Absent = Ok (NoTStmt, b)
  checked_maybe s loop b (Present t) = checked s loop b t >>= (λ x. Ok (OneTStmt x.0, x.1))

  -- statements, behind those before
  pub checked_all : ScopeTree → Bool → BodyTree → TStmtTrees → StmtTrees → Checked (TStmtTrees × BodyTree)
  checked_all s loop b before NoStmts = Ok (before, b)
  checked_all s loop b before (MoreStmts t rest) = checked s loop b t >>= (λ x. checked_all s loop x.1 (followed before x.0) rest)
