-- The terminals of the grammar: what number stands for which keyword or punctuation (this project's C
-- profile; the spellings are those of C11 6.4.1 and 6.4.6, and of the profile's own keywords).
use Rattle.std.specs.Prelude.{◌≡◌, ◌↔◌, ℕ, List, Some, codes}
use Rattle.fx_c_lex.specs.declared.token.TokenKind.TheVariants.{Keyword, Sign}
use Rattle.fx_c_lex.specs.declared.keyword.TheConstants.{CHAR, SHORT, INT, LONG, UNSIGNED, VOID}
use Rattle.fx_c_lex.specs.declared.keyword.TheConstants.{STRUCT, IF, ELSE, WHILE, FOR, BREAK}
use Rattle.fx_c_lex.specs.declared.keyword.TheConstants.{CONTINUE, RETURN, SIZEOF, SHARED, ENTRY}
use Rattle.fx_c_lex.specs.declared.keyword.TheConstants.{GATE, PUTC, GETC, IN, OUT, SPAWN, SWITCH}
use Rattle.fx_c_lex.specs.declared.keyword.TheConstants.{SELF, READ}
use Rattle.fx_c_lex.specs.declared.sign.TheConstants.{OPEN_PAREN, CLOSE_PAREN, OPEN_BRACE}
use Rattle.fx_c_lex.specs.declared.sign.TheConstants.{CLOSE_BRACE, OPEN_BRACKET, CLOSE_BRACKET}
use Rattle.fx_c_lex.specs.declared.sign.TheConstants.{SEMICOLON, COMMA, DOT, ARROW, ASSIGN, EQUAL}
use Rattle.fx_c_lex.specs.declared.sign.TheConstants.{NOT_EQUAL, LESS, GREATER, LESS_EQUAL}
use Rattle.fx_c_lex.specs.declared.sign.TheConstants.{GREATER_EQUAL, SHIFT_LEFT, SHIFT_RIGHT, PLUS}
use Rattle.fx_c_lex.specs.declared.sign.TheConstants.{MINUS, STAR, SLASH, PERCENT, AMPERSAND, BAR}
use Rattle.fx_c_lex.specs.declared.sign.TheConstants.{CARET, TILDE, BANG, AND_AND, BAR_BAR}
use Rattle.fx_c_lex.specs.Lexis.{meaning}

-- The keyword of a number is this spelling, and no other bytes are that keyword.
abbrev pub IsKeyword : ℕ → List ℕ → Type 0
IsKeyword number spelling = (bytes : List ℕ) → (meaning bytes ≡ Some (Keyword number)) ↔ (bytes ≡ spelling)

-- The same of punctuation.
abbrev pub IsSign : ℕ → List ℕ → Type 0
IsSign number spelling = (bytes : List ℕ) → (meaning bytes ≡ Some (Sign number)) ↔ (bytes ≡ spelling)

pub record KeywordsAreSpelled : Type 0 where
  pub is_char : IsKeyword CHAR (codes "char")
  pub is_short : IsKeyword SHORT (codes "short")
  pub is_int : IsKeyword INT (codes "int")
  pub is_long : IsKeyword LONG (codes "long")
  pub is_unsigned : IsKeyword UNSIGNED (codes "unsigned")
  pub is_void : IsKeyword VOID (codes "void")
  pub is_struct : IsKeyword STRUCT (codes "struct")
  pub is_if : IsKeyword IF (codes "if")
  pub is_else : IsKeyword ELSE (codes "else")
  pub is_while : IsKeyword WHILE (codes "while")
  pub is_for : IsKeyword FOR (codes "for")
  pub is_break : IsKeyword BREAK (codes "break")
  pub is_continue : IsKeyword CONTINUE (codes "continue")
  pub is_return : IsKeyword RETURN (codes "return")
  pub is_sizeof : IsKeyword SIZEOF (codes "sizeof")
  pub is_shared : IsKeyword SHARED (codes "__shared")
  pub is_entry : IsKeyword ENTRY (codes "__entry")
  pub is_gate : IsKeyword GATE (codes "__gate")
  pub is_putc : IsKeyword PUTC (codes "__putc")
  pub is_getc : IsKeyword GETC (codes "__getc")
  pub is_in : IsKeyword IN (codes "__in")
  pub is_out : IsKeyword OUT (codes "__out")
  pub is_spawn : IsKeyword SPAWN (codes "__spawn")
  pub is_switch : IsKeyword SWITCH (codes "__switch")
  pub is_self : IsKeyword SELF (codes "__self")
  pub is_read : IsKeyword READ (codes "__read")

pub record SignsAreSpelled : Type 0 where
  pub is_open_paren : IsSign OPEN_PAREN (codes "(")
  pub is_close_paren : IsSign CLOSE_PAREN (codes ")")
  pub is_open_brace : IsSign OPEN_BRACE (codes "{")
  pub is_close_brace : IsSign CLOSE_BRACE (codes "}")
  pub is_open_bracket : IsSign OPEN_BRACKET (codes "[")
  pub is_close_bracket : IsSign CLOSE_BRACKET (codes "]")
  pub is_semicolon : IsSign SEMICOLON (codes ";")
  pub is_comma : IsSign COMMA (codes ",")
  pub is_dot : IsSign DOT (codes ".")
  pub is_arrow : IsSign ARROW (codes "->")
  pub is_assign : IsSign ASSIGN (codes "=")
  pub is_equal : IsSign EQUAL (codes "==")
  pub is_not_equal : IsSign NOT_EQUAL (codes "!=")
  pub is_less : IsSign LESS (codes "<")
  pub is_greater : IsSign GREATER (codes ">")
  pub is_less_equal : IsSign LESS_EQUAL (codes "<=")
  pub is_greater_equal : IsSign GREATER_EQUAL (codes ">=")
  pub is_shift_left : IsSign SHIFT_LEFT (codes "<<")
  pub is_shift_right : IsSign SHIFT_RIGHT (codes ">>")
  pub is_plus : IsSign PLUS (codes "+")
  pub is_minus : IsSign MINUS (codes "-")
  pub is_star : IsSign STAR (codes "*")
  pub is_slash : IsSign SLASH (codes "/")
  pub is_percent : IsSign PERCENT (codes "%")
  pub is_ampersand : IsSign AMPERSAND (codes "&")
  pub is_bar : IsSign BAR (codes "|")
  pub is_caret : IsSign CARET (codes "^")
  pub is_tilde : IsSign TILDE (codes "~")
  pub is_bang : IsSign BANG (codes "!")
  pub is_and_and : IsSign AND_AND (codes "&&")
  pub is_bar_bar : IsSign BAR_BAR (codes "||")
