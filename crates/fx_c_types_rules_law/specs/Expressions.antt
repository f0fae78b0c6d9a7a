-- Expressions: which checked tree, with its types and the conversions that are written, an expression means (C11 6.5).
--
-- `HasType s b e t c`: in the scope s, where b is there, the expression e means the tree t; c is there behind it. An
-- expression adds its strings to what is there, in the order of the text, and nothing else.
use Rattle.std.specs.Prelude.{◌≡◌, ℕ, ◌+◌, ◌<◌, List, [], ◌∷◌, ◌++◌, length, Some, slice_get}
use Rattle.fx_c_ast.specs.declared.operator.IntType.{IntType}
use Rattle.fx_c_ast.specs.declared.operator.IntType.TheVariants.{Char, Long, Ulong}
use Rattle.fx_c_ast.specs.declared.operator.Unop.{Unop}
use Rattle.fx_c_ast.specs.declared.operator.Binop.{Binop}
use Rattle.fx_c_ast.specs.ParsedTrees.{TypeTree, ExprTree, NumberTree, TextTree, VarTree, UnTree}
use Rattle.fx_c_ast.specs.ParsedTrees.{BinTree, CastTree, SizeTree, IndexTree, MemberTree}
use Rattle.fx_c_ast.specs.ParsedTrees.{ArrowTree, CallTree, GateTree, GetcTree, PutcTree}
use Rattle.fx_c_ast.specs.ParsedTrees.{DevLoadTree, DevStoreTree, SpawnTree, SwitchTree, MeTree}
use Rattle.fx_c_ast.specs.ParsedTrees.{ExprTrees, NoExprs, MoreExprs}
use Rattle.fx_c_ast.specs.CheckedTrees.{TyTree, VoidTy, IntTy, ArrayTy, TExprTree, ENumber}
use Rattle.fx_c_ast.specs.CheckedTrees.{ELiteral, EGlobal, ELocal, ESize, EGetc, EPutc, EDevLoad}
use Rattle.fx_c_ast.specs.CheckedTrees.{EDevStore, ESwitch, EMe, TExprTrees, NoTExprs, MoreTExprs}
use Rattle.fx_c_types_heads.specs.Names.{found}
use Rattle.fx_c_types_rules.specs.Values.{type_of}
use Rattle.fx_c_types_rules.specs.Structs.{place_32}
use Rattle.fx_c_types_heads.specs.Heads.{FunctionHead}
use Rattle.fx_c_types_bodies.specs.Bodies.{ScopeTree, BodyTree, place_16, type_or_void, global_or_void}
use Rattle.fx_c_types_rules_law.specs.Types.{Means, IsObjectType}
use Rattle.fx_c_types_rules_law.specs.Values.{HasValue, Converts}
use Rattle.fx_c_types_rules_law.specs.Operators.{UnaryGives, BinaryGives, CastGives, IndexGives, MemberGives, ArrowGives}
use Rattle.fx_c_types_rules_law.specs.Calls.{IsUndeclared, Designates, IsFunction, CallGives, GateGives, SpawnGives}

-- one more string, with a zero byte at its end
abbrev pub with_string : BodyTree → List ℕ → BodyTree
with_string b bytes = record b { literals = b.literals ++ (bytes ++ 0 ∷ []) ∷ [] }

-- the value of an expression as a long, which devices and threads take (this project's own)
pub data IsLongValue : TExprTree → TExprTree → Type 0 where
  long_value : {e v w : TExprTree} {i : IntType} → HasValue e v → type_of v ≡ IntTy i → Converts (IntTy Long) v w → IsLongValue e w

mutual
  pub data HasType : ScopeTree → BodyTree → ExprTree → TExprTree → BodyTree → Type 0 where
    -- a constant has the type that its spelling gave it (6.4.4.1, 5; 6.4.4.4, 10)
    number : {s : ScopeTree} {b : BodyTree} {value : ℕ} {i : IntType} → HasType s b (NumberTree value i) (ENumber (IntTy i) value) b
    -- a string is an array of char, one longer for its zero byte, and an object of its own (6.4.5, 6)
    string : {s : ScopeTree} {b : BodyTree} {bytes : List ℕ} → length bytes < 67108864
        → HasType s b (TextTree bytes)
        (ELiteral (ArrayTy (IntTy Char) (length bytes + 1)) (place_32 (length b.literals)))
        (with_string b bytes)
    -- a variable has its declared type; a local hides a global (6.2.1, 4; 6.5.1, 2)
    local_variable : {s : ScopeTree} {b : BodyTree} {name : List ℕ} {n : ℕ} → Designates name b.blocks n → HasType s b (VarTree name) (ELocal (type_or_void (slice_get b.locals n)) (place_16 n)) b
    global_variable : {s : ScopeTree} {b : BodyTree} {name : List ℕ} {n : ℕ}
        → IsUndeclared name b.blocks → found name s.heads.global_names ≡ Some n
        → HasType s b (VarTree name) (EGlobal (global_or_void (slice_get s.heads.globals n)) n) b
    unary_operator : {s : ScopeTree} {b c : BodyTree} {op : Unop} {e : ExprTree} {x t : TExprTree} → HasType s b e x c → UnaryGives s.declared op x t → HasType s b (UnTree op e) t c
    binary_operator : {s : ScopeTree} {b c d : BodyTree} {op : Binop} {e f : ExprTree}
        {x y v w t : TExprTree}
        → HasType s b e x c → HasType s c f y d → HasValue x v → HasValue y w
        → BinaryGives s.declared op v w t → HasType s b (BinTree op e f) t d
    -- 6.5.4
    cast : {s : ScopeTree} {b c : BodyTree} {to : TypeTree} {ty : TyTree} {e : ExprTree}
        {x v t : TExprTree}
        → HasType s b e x c → Means s.heads.tags to ty → HasValue x v → CastGives ty v t
        → HasType s b (CastTree to e) t c
    -- 6.5.3.4, 2 and 5
    size : {s : ScopeTree} {b : BodyTree} {of : TypeTree} {ty : TyTree} → IsObjectType s.heads.tags s.heads.layouts s.declared of ty → HasType s b (SizeTree of) (ESize (IntTy Ulong) ty) b
    -- 6.5.2.1
    index : {s : ScopeTree} {b c d : BodyTree} {e f : ExprTree} {x y v w t : TExprTree}
        → HasType s b e x c → HasType s c f y d → HasValue x v → HasValue y w
        → IndexGives s.declared v w t → HasType s b (IndexTree e f) t d
    -- 6.5.2.3
    member : {s : ScopeTree} {b c : BodyTree} {e : ExprTree} {name : List ℕ} {x t : TExprTree}
        → HasType s b e x c → MemberGives s.heads.structs s.declared name x t
        → HasType s b (MemberTree e name) t c
    arrow : {s : ScopeTree} {b c : BodyTree} {e : ExprTree} {name : List ℕ} {x v t : TExprTree}
        → HasType s b e x c → HasValue x v → ArrowGives s.heads.structs s.declared name v t
        → HasType s b (ArrowTree e name) t c
    -- 6.5.2.2; gates and all that follows are this project's own
    call : {s : ScopeTree} {b c : BodyTree} {name : List ℕ} {n : ℕ} {f : FunctionHead}
        {es : ExprTrees} {vs : TExprTrees} {t : TExprTree}
        → AreValues s b es vs c → IsFunction s.heads c.blocks name n f
        → CallGives s.library n f vs t → HasType s b (CallTree name es) t c
    gate : {s : ScopeTree} {b c : BodyTree} {name : List ℕ} {n : ℕ} {f : FunctionHead}
        {es : ExprTrees} {vs : TExprTrees} {t : TExprTree}
        → AreValues s b es vs c → IsFunction s.heads c.blocks name n f → GateGives n f vs t
        → HasType s b (GateTree name es) t c
    getc : {s : ScopeTree} {b : BodyTree} → HasType s b GetcTree (EGetc (IntTy Long)) b
    putc : {s : ScopeTree} {b c : BodyTree} {e : ExprTree} {x v : TExprTree} → HasType s b e x c → IsLongValue x v → HasType s b (PutcTree e) (EPutc VoidTy v) c
    device_load : {s : ScopeTree} {b : BodyTree} {device register : ℕ} → HasType s b (DevLoadTree device register) (EDevLoad (IntTy Long) device register) b
    device_store : {s : ScopeTree} {b c : BodyTree} {device register : ℕ} {e : ExprTree}
        {x v : TExprTree}
        → HasType s b e x c → IsLongValue x v
        → HasType s b (DevStoreTree device register e) (EDevStore VoidTy device register v) c
    spawn : {s : ScopeTree} {b c : BodyTree} {name : List ℕ} {n : ℕ} {f : FunctionHead}
        {e : ExprTree} {x v t : TExprTree}
        → HasType s b e x c → HasValue x v → IsFunction s.heads c.blocks name n f
        → SpawnGives s.library n f v t → HasType s b (SpawnTree name e) t c
    switch : {s : ScopeTree} {b c : BodyTree} {e : ExprTree} {x v : TExprTree} → HasType s b e x c → IsLongValue x v → HasType s b (SwitchTree e) (ESwitch VoidTy v) c
    me : {s : ScopeTree} {b : BodyTree} → HasType s b MeTree (EMe (IntTy Long)) b

  -- the values of expressions, from left to right
  pub data AreValues : ScopeTree → BodyTree → ExprTrees → TExprTrees → BodyTree → Type 0 where
    no_values : {s : ScopeTree} {b : BodyTree} → AreValues s b NoExprs NoTExprs b
    more_values : {s : ScopeTree} {b c d : BodyTree} {e : ExprTree} {es : ExprTrees}
        {x v : TExprTree} {vs : TExprTrees}
        → HasType s b e x c → HasValue x v → AreValues s c es vs d
        → AreValues s b (MoreExprs e es) (MoreTExprs v vs) d
