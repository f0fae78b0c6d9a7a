-- Values and objects: what an expression's type is, how it is read, and how it is converted.
use Rattle.std.specs.Prelude.{ℕ, Bool, true, false, ◌&&◌, ◌||◌, nat_eq, not, Ok, if◌then◌else◌}
use Rattle.fx_c_ast.specs.declared.operator.IntType.{IntType}
use Rattle.fx_c_ast.specs.declared.operator.IntType.TheVariants.{Int, Long}
use Rattle.fx_c_ast.specs.declared.operator.Unop.{Unop}
use Rattle.fx_c_ast.specs.declared.operator.Unop.TheVariants.{Neg, Not, Lnot, Deref, Addr}
use Rattle.fx_c_ast.specs.CheckedTrees.{TyTree, VoidTy, IntTy, StructTy, PtrTy, ArrayTy, TExprTree}
use Rattle.fx_c_ast.specs.CheckedTrees.{ENumber, ELiteral, EGlobal, ELocal, EUn, EBin, ECast}
use Rattle.fx_c_ast.specs.CheckedTrees.{EConvert, ESize, EIndex, EMember, EArrow, ECall, EGate}
use Rattle.fx_c_ast.specs.CheckedTrees.{EGetc, EPutc, EDevLoad, EDevStore, ESpawn, ESwitch, EMe}
use Rattle.fx_c_types_rules.specs.declared.category.Category.{Category}
use Rattle.fx_c_types_rules.specs.declared.category.Category.TheVariants.{Nothing, Integer, Structure, Pointer, Array}
use Rattle.fx_c_types_rules.specs.declared.fault.TypeKind.TheVariants.{NotInteger, NotLvalue, Mismatch}
use Rattle.fx_c_types_rules.specs.Checks.{Checked, ◌>>=◌, refuse, demand}
use Rattle.fx_c_types_rules.specs.Types.{promoted, category, pointee, same_type, is_void}

-- the type that an expression carries
abbrev pub type_of : TExprTree → TyTree
type_of (ENumber ty value) = ty
type_of (ELiteral ty n) = ty
type_of (EGlobal ty n) = ty
type_of (ELocal ty n) = ty
type_of (EUn ty op e) = ty
type_of (EBin ty op a b) = ty
type_of (ECast ty e) = ty
type_of (EConvert ty e) = ty
type_of (ESize ty of) = ty
type_of (EIndex ty a b) = ty
type_of (EMember ty e n) = ty
type_of (EArrow ty e n) = ty
type_of (ECall ty f all) = ty
type_of (EGate ty f all) = ty
type_of (EGetc ty) = ty
type_of (EPutc ty e) = ty
type_of (EDevLoad ty d r) = ty
type_of (EDevStore ty d r e) = ty
type_of (ESpawn ty f e) = ty
type_of (ESwitch ty e) = ty
type_of (EMe ty) = ty

-- the number token 0
abbrev pub is_zero : TExprTree → Bool
is_zero (ENumber ty value) = nat_eq value 0
is_zero _ = false

-- it names an object: a variable, a string, *e, e[i], e->m, and e.m where e does
abbrev pub is_object : TExprTree → Bool
is_object (ELiteral ty n) = true
is_object (EGlobal ty n) = true
is_object (ELocal ty n) = true
is_object (EUn ty Deref e) = true
is_object (EIndex ty a b) = true
is_object (EMember ty e n) = is_object e
is_object (EArrow ty e n) = true
is_object _ = false

-- converted to a type; nothing is written where it has that type
abbrev pub converted : TyTree → TExprTree → TExprTree
converted t e = if same_type (type_of e) t then e else EConvert t e

-- an array becomes a pointer to its first element
abbrev pub decayed : TyTree → TExprTree → TExprTree
decayed (ArrayTy t count) e = EConvert (PtrTy t) e
decayed _ e = e

-- an expression as a value
abbrev pub value_of : TExprTree → TExprTree
value_of e = decayed (type_of e) e

-- the type of an integer value
abbrev pub integer_type : Category → Checked IntType
integer_type (Integer i) = Ok i
integer_type _ = refuse NotInteger

abbrev pub integer_of : TExprTree → Checked IntType
integer_of e = integer_type (category (type_of e))

-- a value that is an integer or a pointer
abbrev pub is_scalar : Category → Bool
is_scalar (Integer i) = true
is_scalar Pointer = true
is_scalar _ = false

-- a value that is tested: a pointer is compared with null
abbrev pub tested : Category → TExprTree → Checked TExprTree
tested (Integer i) e = Ok e
tested Pointer e = Ok (converted (IntTy Int) e)
tested _ e = refuse NotInteger

abbrev pub condition : TExprTree → Checked TExprTree
condition e = tested (category (type_of e)) e

-- a value that is an integer, as a long
abbrev pub as_long : TExprTree → Checked TExprTree
as_long e = integer_of e >>= (λ i. Ok (converted (IntTy Long) e))

-- pointer types that agree: the same, or one of them points to void
abbrev pub pointers_agree : TyTree → TyTree → Bool
pointers_agree s t = (same_type s t || is_void (pointee s)) || is_void (pointee t)

-- a value may be stored in an object of a type
abbrev pub agreement : Category → Category → TyTree → TExprTree → Bool
agreement (Integer i) (Integer j) t e = true
agreement Pointer Pointer t e = pointers_agree t (type_of e)
agreement Pointer (Integer j) t e = is_zero e
agreement Structure Structure t e = same_type t (type_of e)
agreement _ _ t e = false

abbrev pub agrees : TyTree → TExprTree → Bool
agrees t e = agreement (category t) (category (type_of e)) t e

-- what may stand left of =, if it names an object
abbrev pub is_whole : Category → Bool
is_whole Array = false
is_whole _ = true

-- the value of e as it is assigned to the object
abbrev pub assigned : TExprTree → TExprTree → Checked TExprTree
assigned to e =
    demand (not (is_void (type_of e))) NotInteger
    (demand (is_object to && is_whole (category (type_of to))) NotLvalue
    (demand (agrees (type_of to) e) Mismatch (Ok (converted (type_of to) e))))
