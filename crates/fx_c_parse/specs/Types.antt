-- Types.
use Rattle.std.specs.Prelude.{ℕ, zero, suc, Bool, true, false, List, Option, Some, None, ◌==◌, if◌then◌else◌, nat_lt}
use Rattle.fx_c_ast.specs.declared.operator.IntType.{IntType}
use Rattle.fx_c_ast.specs.declared.operator.IntType.TheVariants.{Char, Uchar, Short, Ushort, Int, Uint, Long, Ulong}
use Rattle.fx_c_ast.specs.ParsedTrees.{TypeTree, VoidType, IntegerType, StructType, PointerType, ArrayType}
use Rattle.fx_c_lex.specs.declared.sign.TheConstants.{STAR, OPEN_BRACKET, CLOSE_BRACKET}
use Rattle.fx_c_lex.specs.declared.keyword.TheConstants.{CHAR, SHORT, INT, LONG, UNSIGNED, VOID, STRUCT}
use Rattle.fx_c_parse.specs.Words.{Word, first_keyword, first_name, first_number, has_sign, after_sign, tail}
use Rattle.fx_c_parse.specs.Reading.{◌>>=◌}

-- how deep types, expressions and statements may nest
unfoldable pub nesting : ℕ
nesting = 64

abbrev pub integer_by : Bool → IntType → IntType → IntType
integer_by false signed unsigned = signed
integer_by true signed unsigned = unsigned

-- the integer type of a keyword, signed or unsigned
abbrev pub integer_of : Bool → ℕ → Option IntType
integer_of unsigned k =
    if k == CHAR then Some (integer_by unsigned Char Uchar)
    else (if k == SHORT then Some (integer_by unsigned Short Ushort)
    else (if k == INT then Some (integer_by unsigned Int Uint)
    else (if k == LONG then Some (integer_by unsigned Long Ulong)
    else None)))

abbrev pub unsigned_by : List Word → Option IntType → TypeTree × List Word
unsigned_by ws None = (IntegerType Uint, ws)
unsigned_by ws (Some i) = (IntegerType i, tail ws)

-- behind `unsigned`, which alone is `unsigned int`
abbrev pub unsigned_base : List Word → TypeTree × List Word
unsigned_base ws = unsigned_by ws (first_keyword ws >>= integer_of true)

abbrev pub base_by : List Word → ℕ → Option (TypeTree × List Word)
base_by ws k =
    if k == VOID then Some (VoidType, tail ws)
    else (if k == STRUCT then (first_name (tail ws) >>= λ tag. Some (StructType tag, tail (tail ws)))
    else (if k == UNSIGNED then Some (unsigned_base (tail ws))
    else (integer_of false k >>= λ i. Some (IntegerType i, tail ws))))

-- a type without stars and dimensions
abbrev pub base_of : List Word → Option (TypeTree × List Word)
base_of ws = first_keyword ws >>= base_by ws

-- a pointer for each star, with how many more are allowed
abbrev pub stars_of : ℕ → TypeTree → List Word → Option (TypeTree × ℕ × List Word)
stars_of zero ty ws = if has_sign STAR ws then None else Some (ty, 0, ws)
stars_of (suc left) ty ws = if has_sign STAR ws then stars_of left (PointerType ty) (tail ws) else Some (ty, suc left, ws)

-- a number below 2^32 and `]`
abbrev pub dimension_of : List Word → Option (ℕ × List Word)
dimension_of ws = first_number ws >>= λ n. after_sign CLOSE_BRACKET (tail ws) >>= λ rest. (if nat_lt n 4294967296 then Some (n, rest) else None)

-- an array for each dimension; the first is the outermost
abbrev pub dims_of : ℕ → TypeTree → List Word → Option (TypeTree × List Word)
dims_of zero ty ws = if has_sign OPEN_BRACKET ws then None else Some (ty, ws)
dims_of (suc left) ty ws = if has_sign OPEN_BRACKET ws then (dimension_of (tail ws) >>= λ n. dims_of left ty n.1 >>= λ x. Some (ArrayType x.0 n.0, x.1)) else Some (ty, ws)

-- a base and stars, with how many dimensions are still allowed
abbrev pub pointer_type_of : List Word → Option (TypeTree × ℕ × List Word)
pointer_type_of ws = base_of ws >>= λ x. stars_of nesting x.0 x.1
