-- The grammar of types and expressions (this project's C profile).
--
-- `IsX ws x rest` says that a phrase X, whose tree is x, begins the words `ws`, and that the words `rest`
-- stand behind it. No rule looks into `rest`. A height is how many nodes stand above one another from the
-- phrase's root to its deepest leaf, both included; a pair of parentheses is a node of its own.
use Rattle.std.specs.Prelude.{◌≡◌, ℕ, zero, suc, ◌+◌, ◌<◌, ◌≤◌, max, List, ◌∷◌, Some}
use Rattle.fx_c_ast.specs.declared.operator.IntType.{IntType}
use Rattle.fx_c_ast.specs.declared.operator.IntType.TheVariants.{Char, Uchar, Short, Ushort, Int, Uint, Long, Ulong}
use Rattle.fx_c_ast.specs.declared.operator.Unop.{Unop}
use Rattle.fx_c_ast.specs.declared.operator.Binop.{Binop}
use Rattle.fx_c_ast.specs.ParsedTrees.{TypeTree, VoidType, IntegerType, StructType, PointerType}
use Rattle.fx_c_ast.specs.ParsedTrees.{ArrayType, ExprTree, NumberTree, TextTree, VarTree, UnTree}
use Rattle.fx_c_ast.specs.ParsedTrees.{BinTree, CastTree, SizeTree, IndexTree, MemberTree}
use Rattle.fx_c_ast.specs.ParsedTrees.{ArrowTree, CallTree, GateTree, GetcTree, PutcTree}
use Rattle.fx_c_ast.specs.ParsedTrees.{DevLoadTree, DevStoreTree, SpawnTree, SwitchTree, MeTree}
use Rattle.fx_c_ast.specs.ParsedTrees.{ExprTrees, NoExprs, MoreExprs}
use Rattle.fx_c_lex.specs.declared.sign.TheConstants.{OPEN_PAREN, CLOSE_PAREN, OPEN_BRACKET, CLOSE_BRACKET, COMMA, DOT, ARROW, STAR}
use Rattle.fx_c_lex.specs.declared.keyword.TheConstants.{CHAR, SHORT, INT, LONG, UNSIGNED, VOID, STRUCT, SIZEOF, GATE, PUTC, GETC, IN, OUT, SPAWN, SWITCH, SELF}
use Rattle.fx_c_parse.specs.Words.{Word, NameWord, KeywordWord, NumberWord, CharWord, TextWord, SignWord}
use Rattle.fx_c_parse.specs.Fronts.{binary_operator, operator_of, unary_of}
use Rattle.fx_c_parse.specs.Types.{nesting}
use Rattle.fx_c_parse.specs.Expressions.{levels}

-- a keyword with the signed and the unsigned type that it names
pub data IsInteger : ℕ → IntType → IntType → Type 0 where
  char_word : IsInteger CHAR Char Uchar
  short_word : IsInteger SHORT Short Ushort
  int_word : IsInteger INT Int Uint
  long_word : IsInteger LONG Long Ulong

-- `unsigned` alone is `unsigned int`
pub data IsBase : List Word → TypeTree → List Word → Type 0 where
  void_base : {rest : List Word} → IsBase (KeywordWord VOID ∷ rest) VoidType rest
  signed_base : {k : ℕ} {i u : IntType} {rest : List Word} → IsInteger k i u → IsBase (KeywordWord k ∷ rest) (IntegerType i) rest
  unsigned_alone : {rest : List Word} → IsBase (KeywordWord UNSIGNED ∷ rest) (IntegerType Uint) rest
  unsigned_integer : {k : ℕ} {i u : IntType} {rest : List Word} → IsInteger k i u → IsBase (KeywordWord UNSIGNED ∷ KeywordWord k ∷ rest) (IntegerType u) rest
  struct_base : {tag : List ℕ} {rest : List Word} → IsBase (KeywordWord STRUCT ∷ NameWord tag ∷ rest) (StructType tag) rest

-- so many stars behind a type
pub data IsStars : ℕ → List Word → TypeTree → TypeTree → List Word → Type 0 where
  no_star : {t : TypeTree} {rest : List Word} → IsStars zero rest t t rest
  one_star : {n : ℕ} {a : List Word} {t u : TypeTree} {rest : List Word} → IsStars n a (PointerType t) u rest → IsStars (suc n) (SignWord STAR ∷ a) t u rest

-- so many dimensions behind a type; the first is the outermost
pub data IsDims : ℕ → List Word → TypeTree → TypeTree → List Word → Type 0 where
  no_dim : {t : TypeTree} {rest : List Word} → IsDims zero rest t t rest
  one_dim : {n count : ℕ} {ty : IntType} {a : List Word} {t u : TypeTree} {rest : List Word}
      → count < 4294967296 → IsDims n a t u rest
      → IsDims (suc n) (SignWord OPEN_BRACKET ∷ NumberWord count ty ∷ SignWord CLOSE_BRACKET ∷ a) t
      (ArrayType u count) rest

-- a base and so many stars
pub data IsPointerType : ℕ → List Word → TypeTree → List Word → Type 0 where
  pointer_type : {n : ℕ} {ws a : List Word} {t u : TypeTree} {rest : List Word} → IsBase ws t a → IsStars n a t u rest → IsPointerType n ws u rest

mutual
  pub data IsPrimary : List Word → ExprTree → ℕ → List Word → Type 0 where
    number : {value : ℕ} {ty : IntType} {rest : List Word} → IsPrimary (NumberWord value ty ∷ rest) (NumberTree value ty) 1 rest
    character : {byte : ℕ} {rest : List Word} → IsPrimary (CharWord byte ∷ rest) (NumberTree byte Int) 1 rest
    string : {bytes : List ℕ} {rest : List Word} → IsPrimary (TextWord bytes ∷ rest) (TextTree bytes) 1 rest
    variable : {name : List ℕ} {rest : List Word} → IsPrimary (NameWord name ∷ rest) (VarTree name) 1 rest
    parentheses : {a : List Word} {x : ExprTree} {h : ℕ} {rest : List Word} → IsBinary levels a x h (SignWord CLOSE_PAREN ∷ rest) → IsPrimary (SignWord OPEN_PAREN ∷ a) x (h + 1) rest
    call : {f : List ℕ} {a : List Word} {xs : ExprTrees} {h : ℕ} {rest : List Word}
        → IsArguments a xs h (SignWord CLOSE_PAREN ∷ rest)
        → IsPrimary (NameWord f ∷ SignWord OPEN_PAREN ∷ a) (CallTree f xs) (h + 1) rest
    gate : {f : List ℕ} {a : List Word} {xs : ExprTrees} {h : ℕ} {rest : List Word}
        → IsMore a xs h (SignWord CLOSE_PAREN ∷ rest)
        → IsPrimary (KeywordWord GATE ∷ SignWord OPEN_PAREN ∷ NameWord f ∷ a) (GateTree f xs)
        (h + 1) rest
    putc : {a : List Word} {x : ExprTree} {h : ℕ} {rest : List Word}
        → IsBinary levels a x h (SignWord CLOSE_PAREN ∷ rest)
        → IsPrimary (KeywordWord PUTC ∷ SignWord OPEN_PAREN ∷ a) (PutcTree x) (h + 1) rest
    getc : {rest : List Word} → IsPrimary (KeywordWord GETC ∷ SignWord OPEN_PAREN ∷ SignWord CLOSE_PAREN ∷ rest) GetcTree 1 rest
    device_load : {d r : ℕ} {t u : IntType} {rest : List Word} → d < 16 → r < 512
        → IsPrimary
        (KeywordWord IN ∷ SignWord OPEN_PAREN ∷ NumberWord d t ∷ SignWord COMMA ∷ NumberWord r u
        ∷ SignWord CLOSE_PAREN ∷ rest)
        (DevLoadTree d r) 1 rest
    device_store : {d r : ℕ} {t u : IntType} {a : List Word} {x : ExprTree} {h : ℕ}
        {rest : List Word}
        → d < 16 → r < 512 → IsBinary levels a x h (SignWord CLOSE_PAREN ∷ rest)
        → IsPrimary
        (KeywordWord OUT ∷ SignWord OPEN_PAREN ∷ NumberWord d t ∷ SignWord COMMA ∷ NumberWord r u
        ∷ SignWord COMMA ∷ a)
        (DevStoreTree d r x) (h + 1) rest
    spawn : {f : List ℕ} {a : List Word} {x : ExprTree} {h : ℕ} {rest : List Word}
        → IsBinary levels a x h (SignWord CLOSE_PAREN ∷ rest)
        → IsPrimary (KeywordWord SPAWN ∷ SignWord OPEN_PAREN ∷ NameWord f ∷ SignWord COMMA ∷ a)
        (SpawnTree f x) (h + 1) rest
    switch : {a : List Word} {x : ExprTree} {h : ℕ} {rest : List Word}
        → IsBinary levels a x h (SignWord CLOSE_PAREN ∷ rest)
        → IsPrimary (KeywordWord SWITCH ∷ SignWord OPEN_PAREN ∷ a) (SwitchTree x) (h + 1) rest
    me : {rest : List Word} → IsPrimary (KeywordWord SELF ∷ SignWord OPEN_PAREN ∷ SignWord CLOSE_PAREN ∷ rest) MeTree 1 rest

  pub data IsPostfix : List Word → ExprTree → ℕ → List Word → Type 0 where
    no_suffix : {ws : List Word} {x : ExprTree} {h : ℕ} {rest : List Word} → IsPrimary ws x h rest → IsPostfix ws x h rest
    index : {ws a : List Word} {x y : ExprTree} {h k : ℕ} {rest : List Word}
        → IsPostfix ws x h (SignWord OPEN_BRACKET ∷ a)
        → IsBinary levels a y k (SignWord CLOSE_BRACKET ∷ rest)
        → IsPostfix ws (IndexTree x y) (max h k + 1) rest
    member : {ws : List Word} {x : ExprTree} {h : ℕ} {name : List ℕ} {rest : List Word} → IsPostfix ws x h (SignWord DOT ∷ NameWord name ∷ rest) → IsPostfix ws (MemberTree x name) (h + 1) rest
    arrow : {ws : List Word} {x : ExprTree} {h : ℕ} {name : List ℕ} {rest : List Word} → IsPostfix ws x h (SignWord ARROW ∷ NameWord name ∷ rest) → IsPostfix ws (ArrowTree x name) (h + 1) rest

  pub data IsUnary : List Word → ExprTree → ℕ → List Word → Type 0 where
    no_sign : {ws : List Word} {x : ExprTree} {h : ℕ} {rest : List Word} → IsPostfix ws x h rest → IsUnary ws x h rest
    sign : {s : ℕ} {op : Unop} {a : List Word} {x : ExprTree} {h : ℕ} {rest : List Word} → unary_of s ≡ Some op → IsUnary a x h rest → IsUnary (SignWord s ∷ a) (UnTree op x) (h + 1) rest
    cast : {n : ℕ} {a c : List Word} {t : TypeTree} {x : ExprTree} {h : ℕ} {rest : List Word}
        → IsPointerType n a t (SignWord CLOSE_PAREN ∷ c) → n ≤ nesting → IsUnary c x h rest
        → IsUnary (SignWord OPEN_PAREN ∷ a) (CastTree t x) (h + 1) rest
    size : {n m : ℕ} {a c : List Word} {t u : TypeTree} {rest : List Word} → IsPointerType n a t c
        → IsDims m c t u (SignWord CLOSE_PAREN ∷ rest) → n + m ≤ nesting
        → IsUnary (KeywordWord SIZEOF ∷ SignWord OPEN_PAREN ∷ a) (SizeTree u) 1 rest

  -- with operators of the levels below this one, each level associating to the left
  pub data IsBinary : ℕ → List Word → ExprTree → ℕ → List Word → Type 0 where
    operand : {ws : List Word} {x : ExprTree} {h : ℕ} {rest : List Word} → IsUnary ws x h rest → IsBinary zero ws x h rest
    tighter : {level : ℕ} {ws : List Word} {x : ExprTree} {h : ℕ} {rest : List Word} → IsBinary level ws x h rest → IsBinary (suc level) ws x h rest
    joined : {level s : ℕ} {op : Binop} {ws a : List Word} {x y : ExprTree} {h k : ℕ}
        {rest : List Word}
        → IsBinary (suc level) ws x h (SignWord s ∷ a) → operator_of s ≡ binary_operator op level
        → IsBinary level a y k rest → IsBinary (suc level) ws (BinTree op x y) (max h k + 1) rest

  -- arguments and the height of the highest, 0 where there are none
  pub data IsArguments : List Word → ExprTrees → ℕ → List Word → Type 0 where
    no_argument : {rest : List Word} → IsArguments rest NoExprs 0 rest
    arguments : {ws a : List Word} {x : ExprTree} {xs : ExprTrees} {h k : ℕ} {rest : List Word} → IsBinary levels ws x h a → IsMore a xs k rest → IsArguments ws (MoreExprs x xs) (max h k) rest

  -- arguments, each behind a comma
  pub data IsMore : List Word → ExprTrees → ℕ → List Word → Type 0 where
    no_more : {rest : List Word} → IsMore rest NoExprs 0 rest
    more : {a c : List Word} {x : ExprTree} {xs : ExprTrees} {h k : ℕ} {rest : List Word} → IsBinary levels a x h c → IsMore c xs k rest → IsMore (SignWord COMMA ∷ a) (MoreExprs x xs) (max h k) rest

-- an expression within nesting
pub data IsExpression : List Word → ExprTree → List Word → Type 0 where
  nested : {ws : List Word} {x : ExprTree} {h : ℕ} {rest : List Word} → IsBinary levels ws x h rest → h ≤ nesting → IsExpression ws x rest
