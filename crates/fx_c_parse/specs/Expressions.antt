-- Expressions, with how many nodes stand above one another: parentheses count as a node.
use Rattle.std.specs.Prelude.{ℕ, zero, suc, ◌+◌, max, List, [], ◌∷◌, length, Option, Some, None, ◌&&◌, if◌then◌else◌, nat_lt}
use Rattle.fx_c_ast.specs.declared.operator.IntType.TheVariants.{Int}
use Rattle.fx_c_ast.specs.declared.operator.Binop.{Binop}
use Rattle.fx_c_ast.specs.ParsedTrees.{TypeTree, ExprTree, NumberTree, TextTree, VarTree, UnTree}
use Rattle.fx_c_ast.specs.ParsedTrees.{BinTree, CastTree, SizeTree, IndexTree, MemberTree}
use Rattle.fx_c_ast.specs.ParsedTrees.{ArrowTree, CallTree, GateTree, GetcTree, PutcTree}
use Rattle.fx_c_ast.specs.ParsedTrees.{DevLoadTree, DevStoreTree, SpawnTree, SwitchTree, MeTree}
use Rattle.fx_c_ast.specs.ParsedTrees.{ExprTrees, NoExprs, MoreExprs, expr_tree}
use Rattle.fx_c_lex.specs.declared.sign.TheConstants.{OPEN_PAREN, CLOSE_PAREN, CLOSE_BRACKET, COMMA}
use Rattle.fx_c_parse.specs.declared.front.UnaryFront.{UnaryFront}
use Rattle.fx_c_parse.specs.declared.front.UnaryFront.TheVariants as unary
use Rattle.fx_c_parse.specs.declared.front.Suffix.{Suffix}
use Rattle.fx_c_parse.specs.declared.front.Suffix.TheVariants as suffix
use Rattle.fx_c_parse.specs.declared.front.PrimaryFront.{PrimaryFront}
use Rattle.fx_c_parse.specs.declared.front.PrimaryFront.TheVariants as primary
use Rattle.fx_c_parse.specs.declared.head.Around.{Around}
use Rattle.fx_c_parse.specs.declared.head.Around.TheVariants.{Parentheses, Putc, Switch, Spawn, DevStore}
use Rattle.fx_c_parse.specs.declared.head.Head.{Head}
use Rattle.fx_c_parse.specs.declared.head.Head.TheVariants.{Whole, Inside, Call, Gate}
use Rattle.fx_c_parse.specs.Making.{with_last}
use Rattle.fx_c_parse.specs.Words.{Word, NameWord, KeywordWord, NumberWord, CharWord, TextWord, SignWord, first_name, first_number, has_sign, after_sign, tail}
use Rattle.fx_c_parse.specs.Reading.{◌>>=◌, Turn, Ends, Tries, turns}
use Rattle.fx_c_parse.specs.Fronts.{operator_at, unary_front, suffix_at, primary_front}
use Rattle.fx_c_parse.specs.Types.{nesting, pointer_type_of, dims_of}

-- how many levels of binary operators there are
unfoldable pub levels : ℕ
levels = 10

-- a number, a character or a string
abbrev pub constant_of : List Word → Option (ExprTree × List Word)
constant_of [] = None
constant_of (NumberWord value ty ∷ ws) = Some (NumberTree value ty, ws)
constant_of (CharWord byte ∷ ws) = Some (NumberTree byte Int, ws)
constant_of (TextWord bytes ∷ ws) = Some (TextTree bytes, ws)
constant_of (NameWord bytes ∷ ws) = None
constant_of (KeywordWord number ∷ ws) = None
constant_of (SignWord number ∷ ws) = None

-- `(`, a device from 0 to 15, a comma and a register from 0 to 511
abbrev pub device_of : List Word → Option (ℕ × ℕ × List Word)
device_of ws =
    after_sign OPEN_PAREN ws >>= λ a. first_number a >>= λ d. after_sign COMMA (tail a) >>= λ b. first_number b >>= λ r.
    (if nat_lt d 16 && nat_lt r 512 then Some (d, r, tail b) else None)

-- `(` and `)`
abbrev pub nothing_of : List Word → Option (List Word)
nothing_of ws = after_sign OPEN_PAREN ws >>= λ a. after_sign CLOSE_PAREN a

-- `(` and a name
abbrev pub named_of : List Word → Option (List ℕ × List Word)
named_of ws = after_sign OPEN_PAREN ws >>= λ a. first_name a >>= λ n. Some (n, tail a)

-- what is still to be read of a primary expression
pub data HeadTree : Type 0 where
  WholeHead : (e : ExprTree) → HeadTree
  InsideHead : (what : Around) → HeadTree
  CallHead : (f : List ℕ) → HeadTree
  GateHead : (f : List ℕ) → HeadTree

abbrev pub head_tree : Head → HeadTree
head_tree (Whole e) = WholeHead (expr_tree e)
head_tree (Inside what) = InsideHead what
head_tree (Call f) = CallHead f
head_tree (Gate f) = GateHead f

-- behind `sizeof`: `(`, a type and `)`
abbrev pub size_of : List Word → Option (ExprTree × List Word)
size_of ws = after_sign OPEN_PAREN ws >>= λ a. pointer_type_of a >>= λ t. dims_of t.1 t.0 t.2 >>= λ d. after_sign CLOSE_PAREN d.1 >>= λ rest. Some (SizeTree d.0, rest)

abbrev pub head_by : List Word → PrimaryFront → Option (HeadTree × List Word)
head_by ws primary.Constant = constant_of ws >>= λ x. Some (WholeHead x.0, x.1)
head_by ws primary.Variable = first_name ws >>= λ n. Some (WholeHead (VarTree n), tail ws)
head_by ws primary.Call = first_name ws >>= λ n. Some (CallHead n, tail (tail ws))
head_by ws primary.Parentheses = Some (InsideHead Parentheses, tail ws)
head_by ws primary.Gate = named_of (tail ws) >>= λ x. Some (GateHead x.0, x.1)
head_by ws primary.Putc = after_sign OPEN_PAREN (tail ws) >>= λ rest. Some (InsideHead Putc, rest)
head_by ws primary.Switch = after_sign OPEN_PAREN (tail ws) >>= λ rest. Some (InsideHead Switch, rest)
head_by ws primary.Getc = nothing_of (tail ws) >>= λ rest. Some (WholeHead GetcTree, rest)
head_by ws primary.Me = nothing_of (tail ws) >>= λ rest. Some (WholeHead MeTree, rest)
head_by ws primary.In = device_of (tail ws) >>= λ x. after_sign CLOSE_PAREN x.2 >>= λ rest. Some (WholeHead (DevLoadTree x.0 x.1), rest)
head_by ws primary.Out = device_of (tail ws) >>= λ x. after_sign COMMA x.2 >>= λ rest. Some (InsideHead (DevStore x.0 x.1), rest)
head_by ws primary.Spawn = named_of (tail ws) >>= λ x. after_sign COMMA x.1 >>= λ rest. Some (InsideHead (Spawn x.0), rest)

-- the beginning of a primary expression
abbrev pub head_of : List Word → Option (HeadTree × List Word)
head_of ws = head_by ws (primary_front ws)

abbrev pub around_tree : Around → ExprTree → ExprTree
around_tree Parentheses e = e
around_tree Putc e = PutcTree e
around_tree Switch e = SwitchTree e
around_tree (Spawn f) e = SpawnTree f e
around_tree (DevStore d r) e = DevStoreTree d r e

-- an expression, its height, and the words behind it
abbrev pub Reads : Type 0
Reads = Option (ExprTree × ℕ × List Word)

-- the height of a node above two others, within a budget
abbrev pub deeper : ℕ → ℕ → ℕ → Option ℕ
deeper left right budget = if nat_lt (max left right) budget then Some (max left right + 1) else None

-- a comma and an argument, or the end
abbrev pub argument_turn : (ℕ → List Word → Reads) → ExprTrees × ℕ → List Word → Turn (ExprTrees × ℕ)
argument_turn below x ws = if has_sign COMMA ws then Tries (below levels (tail ws) >>= λ y. Some ((with_last x.0 y.0, max x.1 y.1), y.2)) else Ends

-- more arguments and `)`
abbrev pub more_by : (ℕ → List Word → Reads) → ExprTrees → ℕ → List Word → Option (ExprTrees × ℕ × List Word)
more_by below args height ws = turns (argument_turn below) (length ws + 1) (args, height) ws >>= λ x. after_sign CLOSE_PAREN x.1 >>= λ rest. Some (x.0.0, x.0.1, rest)

-- arguments and `)`
abbrev pub arguments_by : (ℕ → List Word → Reads) → List Word → Option (ExprTrees × ℕ × List Word)
arguments_by below ws = if has_sign CLOSE_PAREN ws then Some (NoExprs, 0, tail ws) else (below levels ws >>= λ x. more_by below (MoreExprs x.0 NoExprs) x.1 x.2)

abbrev pub primary_rest : (ℕ → List Word → Reads) → ℕ → HeadTree → List Word → Reads
primary_rest below budget (WholeHead e) ws = Some (e, 1, ws)
primary_rest below budget (InsideHead what) ws = below levels ws >>= λ x. after_sign CLOSE_PAREN x.2 >>= λ rest. deeper x.1 0 budget >>= λ h. Some (around_tree what x.0, h, rest)
primary_rest below budget (CallHead f) ws = arguments_by below ws >>= λ x. deeper x.1 0 budget >>= λ h. Some (CallTree f x.0, h, x.2)
primary_rest below budget (GateHead f) ws = more_by below NoExprs 0 ws >>= λ x. deeper x.1 0 budget >>= λ h. Some (GateTree f x.0, h, x.2)

abbrev pub primary_by : (ℕ → List Word → Reads) → ℕ → List Word → Reads
primary_by below budget ws = head_of ws >>= λ x. primary_rest below budget x.0 x.1

-- behind the sign of a suffix
abbrev pub suffixed_by : (ℕ → List Word → Reads) → ℕ → Suffix → ExprTree → ℕ → List Word → Reads
suffixed_by below budget suffix.Index e h ws = below levels ws >>= λ x. after_sign CLOSE_BRACKET x.2 >>= λ rest. deeper h x.1 budget >>= λ k. Some (IndexTree e x.0, k, rest)
suffixed_by below budget suffix.Member e h ws = first_name ws >>= λ n. deeper h 0 budget >>= λ k. Some (MemberTree e n, k, tail ws)
suffixed_by below budget suffix.Arrow e h ws = first_name ws >>= λ n. deeper h 0 budget >>= λ k. Some (ArrowTree e n, k, tail ws)

abbrev pub suffix_turn_by : (ℕ → List Word → Reads) → ℕ → ExprTree × ℕ → List Word → Option Suffix → Turn (ExprTree × ℕ)
suffix_turn_by below budget x ws None = Ends
suffix_turn_by below budget x ws (Some s) = Tries (suffixed_by below budget s x.0 x.1 (tail ws) >>= λ y. Some ((y.0, y.1), y.2))

abbrev pub suffix_turn : (ℕ → List Word → Reads) → ℕ → ExprTree × ℕ → List Word → Turn (ExprTree × ℕ)
suffix_turn below budget x ws = suffix_turn_by below budget x ws (suffix_at ws)

abbrev pub flat : (ExprTree × ℕ) × List Word → ExprTree × ℕ × List Word
flat x = (x.0.0, x.0.1, x.1)

abbrev pub postfix_by : (ℕ → List Word → Reads) → ℕ → List Word → Reads
postfix_by below budget ws = primary_by below budget ws >>= λ x. turns (suffix_turn below budget) (length x.2 + 1) (x.0, x.1) x.2 >>= λ y. Some (flat y)

-- `(`, a base, stars and `)`
abbrev pub cast_type_of : List Word → Option (TypeTree × List Word)
cast_type_of ws = pointer_type_of (tail ws) >>= λ t. after_sign CLOSE_PAREN t.2 >>= λ rest. Some (t.0, rest)

abbrev pub operand_by : (ℕ → List Word → Reads) → ℕ → List Word → UnaryFront → Reads
operand_by below budget ws (unary.Sign op) = below 0 (tail ws) >>= λ x. deeper x.1 0 budget >>= λ h. Some (UnTree op x.0, h, x.2)
operand_by below budget ws unary.Cast = cast_type_of ws >>= λ t. below 0 t.1 >>= λ x. deeper x.1 0 budget >>= λ h. Some (CastTree t.0 x.0, h, x.2)
operand_by below budget ws unary.Size = size_of (tail ws) >>= λ x. Some (x.0, 1, x.1)
operand_by below budget ws unary.Postfix = postfix_by below budget ws

abbrev pub unary_by : (ℕ → List Word → Reads) → ℕ → List Word → Reads
unary_by below budget ws = operand_by below budget ws (unary_front ws)

abbrev pub binary_turn_by : (List Word → Reads) → ℕ → ExprTree × ℕ → List Word → Option Binop → Turn (ExprTree × ℕ)
binary_turn_by below budget x ws None = Ends
binary_turn_by below budget x ws (Some op) = Tries (below (tail ws) >>= λ y. deeper x.1 y.1 budget >>= λ h. Some ((BinTree op x.0 y.0, h), y.2))

-- an operator with its right operand, or the end
abbrev pub binary_turn : (List Word → Reads) → ℕ → ℕ → ExprTree × ℕ → List Word → Turn (ExprTree × ℕ)
binary_turn below budget level x ws = binary_turn_by below budget x ws (operator_at level ws)

-- operands joined by operators of the levels below this one, to the left
abbrev pub binary_by : (List Word → Reads) → (ℕ → List Word → Reads) → ℕ → ℕ → List Word → Reads
binary_by unary below budget zero ws = unary ws
binary_by unary below budget (suc level) ws = binary_by unary below budget level ws >>= λ x. turns (binary_turn (below level) budget level) (length x.2 + 1) (x.0, x.1) x.2 >>= λ y. Some (flat y)

-- an expression of operators of the levels below this one, of at most so many nodes above one another
abbrev pub binary_at : ℕ → ℕ → List Word → Reads
binary_at zero level ws = None
binary_at (suc below) level ws = binary_by (unary_by (binary_at below) (suc below)) (binary_at below) (suc below) level ws

abbrev pub expression_of : List Word → Option (ExprTree × List Word)
expression_of ws = binary_at nesting levels ws >>= λ x. Some (x.0, x.2)
