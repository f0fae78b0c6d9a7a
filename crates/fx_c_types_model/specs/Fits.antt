-- What the numbers and types at the nodes of checked trees fit: the machine's devices, and the sizes of elements.
use Rattle.std.specs.Prelude.{ℕ, ◌≤◌, List, length}
use Rattle.fx_c_ast.specs.declared.operator.Binop.TheVariants.{Add, Sub}
use Rattle.fx_c_ast.specs.CheckedTrees.{TyTree, PtrTy, TExprTree, EBin, EIndex, EDevLoad, EDevStore}
use Rattle.fx_c_ast.specs.Layout.{known_layouts, layout_of, IsSized}
use Rattle.fx_c_types_rules.specs.Values.{type_of}

-- one of 16 devices, and one of its 512 registers
abbrev pub IsDeviceRegister : ℕ → ℕ → Type 0
IsDeviceRegister device register = (device ≤ 15) × (register ≤ 511)

abbrev pub DeviceFits : TExprTree → Type 0
DeviceFits (EDevLoad ty device register) = IsDeviceRegister device register
DeviceFits (EDevStore ty device register e) = IsDeviceRegister device register
DeviceFits e = Unit {0}

-- what holds of a pointer's target
abbrev pub Behind : (TyTree → Type 0) → TyTree → Type 0
Behind E (PtrTy t) = E t
Behind E t = Unit {0}

-- what holds of the elements that a node counts: those that an index goes over, over which a pointer is moved, and
-- that lie between two pointers of one type
abbrev pub Elements : (TyTree → Type 0) → TExprTree → Type 0
Elements E (EIndex ty a b) = E ty
Elements E (EBin ty Add a b) = Behind E (type_of a) × Behind E (type_of b)
Elements E (EBin ty Sub a b) = Behind E (type_of a)
Elements E e = Unit {0}

-- it has a size, which is from 1 byte to 64 MiB
abbrev pub HasElementSize : List (List TyTree) → TyTree → Type 0
HasElementSize structs t = IsSized (known_layouts structs) (length structs) t × (1 ≤ (layout_of structs t).size) × ((layout_of structs t).size ≤ 67108864)

-- in a program whose structs have members of these types
abbrev pub ElementFits : List (List TyTree) → TExprTree → Type 0
ElementFits structs e = Elements (HasElementSize structs) e
