-- The types of operands that each operation takes and the type that it gives, as C11 has them for the profile.
--
-- `structs` counts the structs of the program, `ty` is the type of the node, `a` and `b` are those of its operands.
use Rattle.std.specs.Prelude.{◌≡◌, ℕ, true, ◌⊎◌, List, [], ◌∷◌, Option, Some, None}
use Rattle.fx_c_ast.specs.declared.operator.IntType.TheVariants.{Int, Long}
use Rattle.fx_c_ast.specs.declared.operator.Unop.{Unop}
use Rattle.fx_c_ast.specs.declared.operator.Unop.TheVariants.{Neg, Not, Lnot, Deref, Addr}
use Rattle.fx_c_ast.specs.declared.operator.Binop.{Binop}
use Rattle.fx_c_ast.specs.declared.operator.Binop.TheVariants.{Add, Sub, Shl, Shr, Lt, Gt, Le, Ge, Eq, Ne, Land, Lor}
use Rattle.fx_c_ast.specs.CheckedTrees.{TyTree, VoidTy, IntTy, StructTy, PtrTy, ArrayTy, TExprTree, TExprTrees, NoTExprs, MoreTExprs}
use Rattle.fx_c_types_rules.specs.Types.{is_complete}
use Rattle.fx_c_types_rules.specs.Values.{type_of, is_zero, is_object}
use Rattle.fx_c_types_rules.specs.Locals.{LocalTree}
use Rattle.fx_c_types_heads.specs.Heads.{FunctionHead}

abbrev pub IsInteger : TyTree → Type 0
IsInteger (IntTy i) = Unit {0}
IsInteger t = ⊥

abbrev pub IsPointer : TyTree → Type 0
IsPointer (PtrTy t) = Unit {0}
IsPointer t = ⊥

-- an integer or a pointer: what is loaded, stored, passed and returned whole
abbrev pub IsScalar : TyTree → Type 0
IsScalar (IntTy i) = Unit {0}
IsScalar (PtrTy t) = Unit {0}
IsScalar t = ⊥

-- what a function gives: a scalar or nothing
abbrev pub IsAnswer : TyTree → Type 0
IsAnswer (IntTy i) = Unit {0}
IsAnswer (PtrTy t) = Unit {0}
IsAnswer VoidTy = Unit {0}
IsAnswer t = ⊥

-- what is assigned: a scalar, or a struct
abbrev pub IsAssigned : TyTree → Type 0
IsAssigned (IntTy i) = Unit {0}
IsAssigned (PtrTy t) = Unit {0}
IsAssigned (StructTy n) = Unit {0}
IsAssigned t = ⊥

-- a pointer to a type that has a size
abbrev pub IsElementPointer : ℕ → TyTree → Type 0
IsElementPointer structs (PtrTy t) = is_complete structs t ≡ true
IsElementPointer structs t = ⊥

-- ---- one operand

abbrev pub FitsUnary : ℕ → Unop → TyTree → TExprTree → Type 0
FitsUnary structs Neg ty e = IsInteger ty × (type_of e ≡ ty)
FitsUnary structs Not ty e = IsInteger ty × (type_of e ≡ ty)
FitsUnary structs Lnot ty e = (ty ≡ IntTy Int) × IsInteger (type_of e)
FitsUnary structs Deref ty e = (type_of e ≡ PtrTy ty) × (is_complete structs ty ≡ true)
FitsUnary structs Addr ty e = (ty ≡ PtrTy (type_of e)) × (is_object e ≡ true)

-- a cast goes between integers, or between pointers
abbrev pub Casts : TyTree → TyTree → Type 0
Casts (IntTy i) (IntTy j) = Unit {0}
Casts (PtrTy s) (PtrTy t) = Unit {0}
Casts s t = ⊥

-- the conversions that are written without a cast, to a type and from the type of e: between integers, between
-- pointers, of a pointer that is tested, of the number 0 to a pointer, and of an array to a pointer to its first element
abbrev pub Converts : TyTree → TyTree → TExprTree → Type 0
Converts (IntTy i) (IntTy j) e = Unit {0}
Converts (IntTy i) (PtrTy t) e = i ≡ Int
Converts (PtrTy s) (PtrTy t) e = Unit {0}
Converts (PtrTy s) (IntTy i) e = is_zero e ≡ true
Converts (PtrTy s) (ArrayTy t count) e = (s ≡ t) × (is_object e ≡ true)
Converts s t e = ⊥

-- ---- two operands

-- integers of one type, which is that of the result
abbrev pub IsArithmetic : TyTree → TyTree → TyTree → Type 0
IsArithmetic ty a b = IsInteger ty × (a ≡ ty) × (b ≡ ty)

-- integers, of which the first gives the type
abbrev pub IsShift : TyTree → TyTree → TyTree → Type 0
IsShift ty a b = IsInteger ty × (a ≡ ty) × IsInteger b

-- integers or pointers of one type
abbrev pub IsComparison : TyTree → TyTree → TyTree → Type 0
IsComparison ty a b = (ty ≡ IntTy Int) × (a ≡ b) × IsScalar a

abbrev pub IsLogical : TyTree → TyTree → TyTree → Type 0
IsLogical ty a b = (ty ≡ IntTy Int) × IsInteger a × IsInteger b

-- a pointer to elements that have a size, and by how many of them it is moved
abbrev pub IsMove : ℕ → TyTree → TyTree → TyTree → Type 0
IsMove structs ty pointer number = IsElementPointer structs pointer × (pointer ≡ ty) × IsInteger number

-- two pointers of one type to elements that have a size
abbrev pub IsDistance : ℕ → TyTree → TyTree → TyTree → Type 0
IsDistance structs ty a b = IsElementPointer structs a × (a ≡ b) × (ty ≡ IntTy Long)

abbrev pub FitsBinary : ℕ → Binop → TyTree → TyTree → TyTree → Type 0
FitsBinary structs Add ty a b = IsArithmetic ty a b ⊎ (IsMove structs ty a b ⊎ IsMove structs ty b a)
FitsBinary structs Sub ty a b = IsArithmetic ty a b ⊎ (IsMove structs ty a b ⊎ IsDistance structs ty a b)
FitsBinary structs Shl ty a b = IsShift ty a b
FitsBinary structs Shr ty a b = IsShift ty a b
FitsBinary structs Lt ty a b = IsComparison ty a b
FitsBinary structs Gt ty a b = IsComparison ty a b
FitsBinary structs Le ty a b = IsComparison ty a b
FitsBinary structs Ge ty a b = IsComparison ty a b
FitsBinary structs Eq ty a b = IsComparison ty a b
FitsBinary structs Ne ty a b = IsComparison ty a b
FitsBinary structs Land ty a b = IsLogical ty a b
FitsBinary structs Lor ty a b = IsLogical ty a b
FitsBinary structs op ty a b = IsArithmetic ty a b

-- ---- calls

-- an argument for each parameter, of its type
abbrev pub ArePassed : List LocalTree → TExprTrees → Type 0
ArePassed [] NoTExprs = Unit {0}
ArePassed [] (MoreTExprs e rest) = ⊥
ArePassed (p ∷ ps) NoTExprs = ⊥
ArePassed (p ∷ ps) (MoreTExprs e rest) = (type_of e ≡ p.ty) × IsScalar p.ty × ArePassed ps rest

-- a call of a function that is there and stays within its library
abbrev pub Calls : ℕ → Option FunctionHead → TyTree → TExprTrees → Type 0
Calls library None ty all = ⊥
Calls library (Some f) ty all = (ty ≡ f.answer) × IsAnswer ty × ArePassed f.params all × (f.library ≡ library)

-- a gate call, which goes to an entry function
abbrev pub Enters : Option FunctionHead → TyTree → TExprTrees → Type 0
Enters None ty all = ⊥
Enters (Some f) ty all = (ty ≡ f.answer) × IsAnswer ty × ArePassed f.params all × (f.entry ≡ true)

-- parameters that are one long
abbrev pub IsOneLong : List LocalTree → Type 0
IsOneLong [] = ⊥
IsOneLong (p ∷ []) = p.ty ≡ IntTy Long
IsOneLong (p ∷ (q ∷ ps)) = ⊥

-- a thread's start in a function that takes and gives a long and stays within the library
abbrev pub Starts : ℕ → Option FunctionHead → Type 0
Starts library None = ⊥
Starts library (Some f) = (f.answer ≡ IntTy Long) × IsOneLong f.params × (f.library ≡ library)
