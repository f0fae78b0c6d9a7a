-- What the first words of a phrase say about it.
use Rattle.std.specs.Prelude.{ℕ, Bool, true, false, List, Option, Some, None, ◌==◌, ◌&&◌, ◌||◌, if◌then◌else◌, nat_le}
use Rattle.fx_c_ast.specs.declared.operator.Unop.{Unop}
use Rattle.fx_c_ast.specs.declared.operator.Unop.TheVariants.{Neg, Not, Lnot, Deref, Addr}
use Rattle.fx_c_ast.specs.declared.operator.Binop.{Binop}
use Rattle.fx_c_ast.specs.declared.operator.Binop.TheVariants.{Add, Sub, Mul, Div, Rem, Shl, Shr, Lt, Gt, Le, Ge, Eq, Ne, And, Xor, Or, Land, Lor}
use Rattle.fx_c_lex.specs.declared.sign.TheConstants.{OPEN_PAREN, OPEN_BRACE, OPEN_BRACKET}
use Rattle.fx_c_lex.specs.declared.sign.TheConstants.{SEMICOLON, DOT, ARROW, EQUAL, NOT_EQUAL, LESS}
use Rattle.fx_c_lex.specs.declared.sign.TheConstants.{GREATER, LESS_EQUAL, GREATER_EQUAL}
use Rattle.fx_c_lex.specs.declared.sign.TheConstants.{SHIFT_LEFT, SHIFT_RIGHT, PLUS, MINUS, STAR}
use Rattle.fx_c_lex.specs.declared.sign.TheConstants.{SLASH, PERCENT, AMPERSAND, BAR, CARET, TILDE}
use Rattle.fx_c_lex.specs.declared.sign.TheConstants.{BANG, AND_AND, BAR_BAR}
use Rattle.fx_c_lex.specs.declared.keyword.TheConstants as word
use Rattle.fx_c_parse.specs.declared.front.Operator.{Operator}
use Rattle.fx_c_parse.specs.declared.front.UnaryFront.{UnaryFront}
use Rattle.fx_c_parse.specs.declared.front.UnaryFront.TheVariants as unary
use Rattle.fx_c_parse.specs.declared.front.Suffix.{Suffix}
use Rattle.fx_c_parse.specs.declared.front.Suffix.TheVariants as suffix
use Rattle.fx_c_parse.specs.declared.front.PrimaryFront.{PrimaryFront}
use Rattle.fx_c_parse.specs.declared.front.PrimaryFront.TheVariants as primary
use Rattle.fx_c_parse.specs.declared.front.StatementFront.{StatementFront}
use Rattle.fx_c_parse.specs.declared.front.StatementFront.TheVariants as statement
use Rattle.fx_c_parse.specs.declared.front.DeclarationFront.{DeclarationFront}
use Rattle.fx_c_parse.specs.declared.front.DeclarationFront.TheVariants as declaration
use Rattle.fx_c_parse.specs.Words.{Word, first_sign, first_keyword, first_name, has_sign, has_keyword, tail}
use Rattle.fx_c_parse.specs.Reading.{◌>>=◌}

abbrev pub binary_operator : Binop → ℕ → Option Operator
binary_operator op level = Some (record { op = op; level = level })

-- the binary operators with their levels (C11, 6.5.5 to 6.5.14); the tightest is 0
abbrev pub operator_of : ℕ → Option Operator
operator_of s =
    if s == STAR then binary_operator Mul 0
    else (if s == SLASH then binary_operator Div 0
    else (if s == PERCENT then binary_operator Rem 0
    else (if s == PLUS then binary_operator Add 1
    else (if s == MINUS then binary_operator Sub 1
    else (if s == SHIFT_LEFT then binary_operator Shl 2
    else (if s == SHIFT_RIGHT then binary_operator Shr 2
    else (if s == LESS then binary_operator Lt 3
    else (if s == GREATER then binary_operator Gt 3
    else (if s == LESS_EQUAL then binary_operator Le 3
    else (if s == GREATER_EQUAL then binary_operator Ge 3
    else (if s == EQUAL then binary_operator Eq 4
    else (if s == NOT_EQUAL then binary_operator Ne 4
    else (if s == AMPERSAND then binary_operator And 5
    else (if s == CARET then binary_operator Xor 6
    else (if s == BAR then binary_operator Or 7
    else (if s == AND_AND then binary_operator Land 8
    else (if s == BAR_BAR then binary_operator Lor 9
    else None)))))))))))))))))

-- the unary operators (C11, 6.5.3)
abbrev pub unary_of : ℕ → Option Unop
unary_of s =
    if s == MINUS then Some Neg
    else (if s == TILDE then Some Not
    else (if s == BANG then Some Lnot
    else (if s == STAR then Some Deref
    else (if s == AMPERSAND then Some Addr
    else None))))

-- the keywords that a type begins with stand first in the list of keywords, `struct` last of them
abbrev pub begins_type : Option ℕ → Bool
begins_type None = false
begins_type (Some k) = nat_le k word.STRUCT

abbrev pub at_level : ℕ → Operator → Option Binop
at_level level o = if o.level == level then Some o.op else None

-- the operator of a level at the front
abbrev pub operator_at : ℕ → List Word → Option Binop
operator_at level ws = first_sign ws >>= λ s. operator_of s >>= λ o. at_level level o

abbrev pub unary_by_operator : ℕ → List Word → Option Unop → UnaryFront
unary_by_operator s ws (Some op) = unary.Sign op
unary_by_operator s ws None = if s == OPEN_PAREN && begins_type (first_keyword (tail ws)) then unary.Cast else unary.Postfix

abbrev pub unary_by_sign : List Word → Option ℕ → UnaryFront
unary_by_sign ws None = if has_keyword word.SIZEOF ws then unary.Size else unary.Postfix
unary_by_sign ws (Some s) = unary_by_operator s ws (unary_of s)

-- what an operand begins with: `(` before a type begins a cast
abbrev pub unary_front : List Word → UnaryFront
unary_front ws = unary_by_sign ws (first_sign ws)

abbrev pub suffix_by : ℕ → Option Suffix
suffix_by s = if s == OPEN_BRACKET then Some suffix.Index else (if s == DOT then Some suffix.Member else (if s == ARROW then Some suffix.Arrow else None))

-- what follows an operand
abbrev pub suffix_at : List Word → Option Suffix
suffix_at ws = first_sign ws >>= suffix_by

abbrev pub primary_by_keyword : Option ℕ → PrimaryFront
primary_by_keyword None = primary.Constant
primary_by_keyword (Some k) =
    if k == word.GATE then primary.Gate
    else (if k == word.PUTC then primary.Putc
    else (if k == word.GETC then primary.Getc
    else (if k == word.IN then primary.In
    else (if k == word.OUT then primary.Out
    else (if k == word.SPAWN then primary.Spawn
    else (if k == word.SWITCH then primary.Switch
    else (if k == word.SELF then primary.Me
    else primary.Constant)))))))

abbrev pub is_some_name : Option (List ℕ) → Bool
is_some_name None = false
is_some_name (Some bytes) = true

-- what a primary expression begins with: a name before `(` begins a call
abbrev pub primary_front : List Word → PrimaryFront
primary_front ws =
    if is_some_name (first_name ws) then (if has_sign OPEN_PAREN (tail ws) then primary.Call else primary.Variable)
    else (if has_sign OPEN_PAREN ws then primary.Parentheses else primary_by_keyword (first_keyword ws))

abbrev pub statement_by_keyword : Option ℕ → StatementFront
statement_by_keyword None = statement.Simple
statement_by_keyword (Some k) =
    if k == word.IF then statement.If
    else (if k == word.WHILE then statement.While
    else (if k == word.FOR then statement.For
    else (if k == word.BREAK then statement.Break
    else (if k == word.CONTINUE then statement.Continue
    else (if k == word.RETURN then statement.Return
    else (if k == word.SHARED || nat_le k word.STRUCT then statement.Local
    else statement.Simple))))))

-- what a statement begins with
abbrev pub statement_front : List Word → StatementFront
statement_front ws =
    if has_sign SEMICOLON ws then statement.Empty
    else (if has_sign OPEN_BRACE ws then statement.Block
    else statement_by_keyword (first_keyword ws))

-- `struct`, a name and `{` begin a struct's declaration
abbrev pub declaration_by : List Word → Option ℕ → DeclarationFront
declaration_by ws None = declaration.Plain
declaration_by ws (Some k) =
    if k == word.STRUCT && has_sign OPEN_BRACE (tail (tail ws)) then declaration.Struct
    else (if k == word.SHARED || k == word.READ then declaration.Granted
    else (if k == word.ENTRY then declaration.Entry
    else declaration.Plain))

abbrev pub declaration_front : List Word → DeclarationFront
declaration_front ws = declaration_by ws (first_keyword ws)
