-- Which rules a node of a body breaks, each rule by itself, where its operands have their trees.
use Rattle.std.specs.Prelude.{ℕ, Bool, true, false, ◌&&◌, ◌||◌, not, nat_eq, nat_lt, List, Option, Some, None, is_some}
use Rattle.fx_c_ast.specs.declared.operator.IntType.TheVariants.{Long}
use Rattle.fx_c_ast.specs.declared.operator.Unop.{Unop}
use Rattle.fx_c_ast.specs.declared.operator.Unop.TheVariants.{Neg, Not, Lnot, Deref, Addr}
use Rattle.fx_c_ast.specs.declared.operator.Binop.{Binop}
use Rattle.fx_c_ast.specs.declared.operator.Binop.TheVariants.{Add, Sub, Lt, Gt, Le, Ge, Eq, Ne, Land, Lor}
use Rattle.fx_c_ast.specs.ParsedTrees.{TypeTree}
use Rattle.fx_c_ast.specs.CheckedTrees.{TyTree, VoidTy, IntTy, StructTy, PtrTy, TExprTree, TExprTrees}
use Rattle.fx_c_types_rules.specs.declared.fault.TypeKind.{TypeKind}
use Rattle.fx_c_types_rules.specs.declared.fault.TypeKind.TheVariants.{Twice, UnknownType, TooLarge}
use Rattle.fx_c_types_rules.specs.declared.fault.TypeKind.TheVariants.{UnknownName, NotInteger}
use Rattle.fx_c_types_rules.specs.declared.fault.TypeKind.TheVariants.{NotPointer, NotLvalue}
use Rattle.fx_c_types_rules.specs.declared.fault.TypeKind.TheVariants.{Mismatch, Arguments}
use Rattle.fx_c_types_rules.specs.declared.fault.TypeKind.TheVariants.{ReturnType, CrossCall}
use Rattle.fx_c_types_rules.specs.declared.fault.TypeKind.TheVariants.{NotEntry}
use Rattle.fx_c_types_rules.specs.Checks.{Checked}
use Rattle.fx_c_types_rules.specs.Types.{category, same_type, is_void, is_complete}
use Rattle.fx_c_types_rules.specs.Values.{type_of, value_of, is_zero, is_object, is_scalar, is_whole, pointers_agree, agrees, condition, assigned}
use Rattle.fx_c_types_rules.specs.Operators.{unary, binary, element}
use Rattle.fx_c_types_rules.specs.Structs.{StructTree, member_at, struct_members, member, arrow}
use Rattle.fx_c_types_rules.specs.Calls.{are_scalars, are_passed, putc, device_store, switch}
use Rattle.fx_c_types_heads.specs.Names.{found}
use Rattle.fx_c_types_heads.specs.Written.{ty_of, is_named}
use Rattle.fx_c_types_heads.specs.Written as written
use Rattle.fx_c_types_heads.specs.Sizes.{is_small}
use Rattle.fx_c_types_bodies.specs.Bodies.{ScopeTree, BodyTree, local_named, variable, cast_node, size_of_type, CalleeTree, callee, call, gate, is_long, are_one_long, spawn, innermost, returned}

-- an expression whose operands have their trees; and the values that are assigned, tested and returned
pub data Node : Type 0 where
  Variable : (name : List ℕ) → Node
  Unary : (op : Unop) (e : TExprTree) → Node
  Binary : (op : Binop) (a b : TExprTree) → Node
  Cast : (t : TypeTree) (e : TExprTree) → Node
  Size : (t : TypeTree) → Node
  Index : (a b : TExprTree) → Node
  Member : (e : TExprTree) (name : List ℕ) → Node
  Arrow : (e : TExprTree) (name : List ℕ) → Node
  Call : (name : List ℕ) (all : TExprTrees) → Node
  Gate : (name : List ℕ) (all : TExprTrees) → Node
  Putc : (e : TExprTree) → Node
  DevStore : (device register : ℕ) (e : TExprTree) → Node
  Spawn : (name : List ℕ) (e : TExprTree) → Node
  Switch : (e : TExprTree) → Node
  Assigned : (to e : TExprTree) → Node
  Tested : (e : TExprTree) → Node
  Returned : (e : TExprTree) → Node

-- what the check does at it
abbrev pub node_of : ScopeTree → BodyTree → Node → Checked TExprTree
node_of s b (Variable name) = variable s.heads b name
node_of s b (Unary op e) = unary s.declared op e
node_of s b (Binary op a c) = binary s.declared op a c
node_of s b (Cast t e) = cast_node s t e
node_of s b (Size t) = size_of_type s t
node_of s b (Index a c) = element s.declared (value_of a) (value_of c)
node_of s b (Member e name) = member s.heads.structs s.declared name e
node_of s b (Arrow e name) = arrow s.heads.structs s.declared name (value_of e)
node_of s b (Call name all) = call s.library (callee s.heads b name) all
node_of s b (Gate name all) = gate (callee s.heads b name) all
node_of s b (Putc e) = putc e
node_of s b (DevStore device register e) = device_store device register e
node_of s b (Spawn name e) = spawn s.library (callee s.heads b name) (value_of e)
node_of s b (Switch e) = switch e
node_of s b (Assigned to e) = assigned to (value_of e)
node_of s b (Tested e) = condition (value_of e)
node_of s b (Returned e) = returned s.answer (value_of e)

-- ---- types

abbrev pub is_integer : TyTree → Bool
is_integer (IntTy i) = true
is_integer t = false

abbrev pub is_pointer : TyTree → Bool
is_pointer (PtrTy t) = true
is_pointer t = false

-- a pointer to a type that has a size
abbrev pub is_whole_pointer : ℕ → TyTree → Bool
is_whole_pointer declared (PtrTy t) = is_complete declared t
is_whole_pointer declared t = false

-- a pointer, but to a type that has no size
abbrev pub is_short_pointer : ℕ → TyTree → Bool
is_short_pointer declared (PtrTy t) = not (is_complete declared t)
is_short_pointer declared t = false

abbrev pub has_scalar : TyTree → Bool
has_scalar t = is_scalar (category t)

-- ---- operators, by the types of their operands as values

abbrev pub breaks_unary : ℕ → Unop → TExprTree → TypeKind → Bool
breaks_unary declared Neg e NotInteger = not (is_integer (type_of (value_of e)))
breaks_unary declared Not e NotInteger = not (is_integer (type_of (value_of e)))
breaks_unary declared Lnot e NotInteger = not (has_scalar (type_of (value_of e)))
breaks_unary declared Deref e NotInteger = not (has_scalar (type_of (value_of e)))
breaks_unary declared Deref e NotPointer = not (is_whole_pointer declared (type_of (value_of e)))
breaks_unary declared Addr e NotLvalue = not (is_object e)
breaks_unary declared op e kind = false

-- a sum of numbers, or a pointer that is moved
abbrev pub breaks_sum : ℕ → TyTree → TyTree → TypeKind → Bool
breaks_sum declared s t NotInteger = not ((is_integer s && has_scalar t) || (is_pointer s && is_integer t))
breaks_sum declared s t NotPointer = is_short_pointer declared s || is_short_pointer declared t
breaks_sum declared s t kind = false

-- a difference of numbers, a pointer that is moved, or the distance of two pointers
abbrev pub breaks_difference : ℕ → TyTree → TyTree → TypeKind → Bool
breaks_difference declared s t NotInteger = not ((is_integer s && is_integer t) || (is_pointer s && has_scalar t))
breaks_difference declared s t NotPointer = is_short_pointer declared s || is_short_pointer declared t
breaks_difference declared s t Mismatch = (is_pointer s && is_pointer t) && not (same_type s t)
breaks_difference declared s t kind = false

-- a pointer is compared with one that agrees, or with the number 0
abbrev pub may_compare : TyTree → TyTree → (a b : TExprTree) → Bool
may_compare (PtrTy s) (PtrTy t) a b = pointers_agree (PtrTy s) (PtrTy t)
may_compare (PtrTy s) (IntTy j) a b = is_zero b
may_compare (IntTy i) (PtrTy t) a b = is_zero a
may_compare s t a b = true

abbrev pub breaks_comparison : TExprTree → TExprTree → TypeKind → Bool
breaks_comparison a b NotInteger = not (has_scalar (type_of a) && has_scalar (type_of b))
breaks_comparison a b Mismatch = not (may_compare (type_of a) (type_of b) a b)
breaks_comparison a b kind = false

abbrev pub breaks_logical : TyTree → TyTree → TypeKind → Bool
breaks_logical s t NotInteger = not (has_scalar s && has_scalar t)
breaks_logical s t kind = false

abbrev pub breaks_arithmetic : TyTree → TyTree → TypeKind → Bool
breaks_arithmetic s t NotInteger = not (is_integer s && is_integer t)
breaks_arithmetic s t kind = false

abbrev pub breaks_values : ℕ → Binop → (a b : TExprTree) → TypeKind → Bool
breaks_values declared Add a b = breaks_sum declared (type_of a) (type_of b)
breaks_values declared Sub a b = breaks_difference declared (type_of a) (type_of b)
breaks_values declared Lt a b = breaks_comparison a b
breaks_values declared Gt a b = breaks_comparison a b
breaks_values declared Le a b = breaks_comparison a b
breaks_values declared Ge a b = breaks_comparison a b
breaks_values declared Eq a b = breaks_comparison a b
breaks_values declared Ne a b = breaks_comparison a b
breaks_values declared Land a b = breaks_logical (type_of a) (type_of b)
breaks_values declared Lor a b = breaks_logical (type_of a) (type_of b)
breaks_values declared op a b = breaks_arithmetic (type_of a) (type_of b)

-- from a type to one as it is written: between integers, or between pointers
abbrev pub breaks_cast : ScopeTree → TypeTree → TyTree → TypeKind → Bool
breaks_cast s t from UnknownType = not (is_named s.heads.tags t) || not (is_void (ty_of s.heads.tags t) || is_complete s.declared (ty_of s.heads.tags t))
breaks_cast s t from NotInteger = not (has_scalar (ty_of s.heads.tags t) && has_scalar from)
breaks_cast s t from NotPointer = not ((is_integer (ty_of s.heads.tags t) && is_integer from) || (is_pointer (ty_of s.heads.tags t) && is_pointer from))
breaks_cast s t from kind = false

-- a type that objects may have
abbrev pub breaks_object : ScopeTree → TypeTree → TypeKind → Bool
breaks_object s t UnknownType = not (written.is_object s.heads.tags s.declared t)
breaks_object s t TooLarge = not (is_small s.heads.layouts (ty_of s.heads.tags t))
breaks_object s t kind = false

abbrev pub breaks_index : ℕ → TyTree → TyTree → TypeKind → Bool
breaks_index declared s t NotInteger = not (has_scalar s && is_integer t)
breaks_index declared s t NotPointer = not (is_whole_pointer declared s)
breaks_index declared s t kind = false

-- ---- members

abbrev pub has_member : List StructTree → ℕ → List ℕ → TyTree → Bool
has_member structs declared name (StructTy n) = is_some (member_at 0 name (struct_members structs declared n))
has_member structs declared name t = false

abbrev pub breaks_member : List StructTree → ℕ → List ℕ → TyTree → TypeKind → Bool
breaks_member structs declared name t UnknownName = not (has_member structs declared name t)
breaks_member structs declared name t kind = false

-- what stands left of -> points to a type that has a size, but no such member
abbrev pub lacks_member : List StructTree → ℕ → List ℕ → TyTree → Bool
lacks_member structs declared name (PtrTy VoidTy) = false
lacks_member structs declared name (PtrTy (StructTy n)) = nat_lt n declared && not (has_member structs declared name (StructTy n))
lacks_member structs declared name (PtrTy t) = true
lacks_member structs declared name t = false

-- it points to no type that has a size
abbrev pub lacks_target : ℕ → TyTree → Bool
lacks_target declared (IntTy i) = true
lacks_target declared (PtrTy VoidTy) = true
lacks_target declared (PtrTy (StructTy n)) = not (nat_lt n declared)
lacks_target declared t = false

abbrev pub breaks_arrow : List StructTree → ℕ → List ℕ → TyTree → TypeKind → Bool
breaks_arrow structs declared name t UnknownName = lacks_member structs declared name t
breaks_arrow structs declared name t NotInteger = not (has_scalar t)
breaks_arrow structs declared name t NotPointer = lacks_target declared t
breaks_arrow structs declared name t kind = false

-- ---- calls

abbrev pub breaks_call : ℕ → Option CalleeTree → TExprTrees → TypeKind → Bool
breaks_call library None all UnknownName = true
breaks_call library None all kind = false
breaks_call library (Some f) all NotInteger = not (are_scalars all)
breaks_call library (Some f) all Arguments = not (are_passed f.head.params all)
breaks_call library (Some f) all CrossCall = not (nat_eq f.head.library library)
breaks_call library (Some f) all kind = false

abbrev pub breaks_gate : Option CalleeTree → TExprTrees → TypeKind → Bool
breaks_gate None all UnknownName = true
breaks_gate None all kind = false
breaks_gate (Some f) all NotInteger = not (are_scalars all)
breaks_gate (Some f) all Arguments = not (are_passed f.head.params all)
breaks_gate (Some f) all NotEntry = not f.head.entry
breaks_gate (Some f) all kind = false

abbrev pub breaks_spawn : ℕ → Option CalleeTree → TExprTree → TypeKind → Bool
breaks_spawn library None e UnknownName = true
breaks_spawn library None e kind = false
breaks_spawn library (Some f) e NotInteger = not (has_scalar (type_of e))
breaks_spawn library (Some f) e Arguments = not ((is_long f.head.answer && are_one_long f.head.params) && agrees (IntTy Long) e)
breaks_spawn library (Some f) e CrossCall = not (nat_eq f.head.library library)
breaks_spawn library (Some f) e kind = false

-- ---- values that are used

abbrev pub breaks_number : TyTree → TypeKind → Bool
breaks_number t NotInteger = not (is_integer t)
breaks_number t kind = false

abbrev pub breaks_assigned : (to e : TExprTree) → TypeKind → Bool
breaks_assigned to e NotInteger = is_void (type_of e)
breaks_assigned to e NotLvalue = not (is_object to && is_whole (category (type_of to)))
breaks_assigned to e Mismatch = not (agrees (type_of to) e)
breaks_assigned to e kind = false

abbrev pub breaks_test : TyTree → TypeKind → Bool
breaks_test t NotInteger = not (has_scalar t)
breaks_test t kind = false

abbrev pub breaks_return : TyTree → TExprTree → TypeKind → Bool
breaks_return answer e NotInteger = not (has_scalar (type_of e))
breaks_return answer e ReturnType = not (agrees answer e)
breaks_return answer e kind = false

abbrev pub breaks_variable : ScopeTree → BodyTree → List ℕ → TypeKind → Bool
breaks_variable s b name UnknownName = not (is_some (local_named b name) || is_some (found name s.heads.global_names))
breaks_variable s b name kind = false

-- ---- all nodes

abbrev pub breaks_node : ScopeTree → BodyTree → Node → TypeKind → Bool
breaks_node s b (Variable name) = breaks_variable s b name
breaks_node s b (Unary op e) = breaks_unary s.declared op e
breaks_node s b (Binary op a c) = breaks_values s.declared op (value_of a) (value_of c)
breaks_node s b (Cast t e) = breaks_cast s t (type_of (value_of e))
breaks_node s b (Size t) = breaks_object s t
breaks_node s b (Index a c) = breaks_index s.declared (type_of (value_of a)) (type_of (value_of c))
breaks_node s b (Member e name) = breaks_member s.heads.structs s.declared name (type_of e)
breaks_node s b (Arrow e name) = breaks_arrow s.heads.structs s.declared name (type_of (value_of e))
breaks_node s b (Call name all) = breaks_call s.library (callee s.heads b name) all
breaks_node s b (Gate name all) = breaks_gate (callee s.heads b name) all
breaks_node s b (Putc e) = breaks_number (type_of (value_of e))
breaks_node s b (DevStore device register e) = breaks_number (type_of (value_of e))
breaks_node s b (Spawn name e) = breaks_spawn s.library (callee s.heads b name) (value_of e)
breaks_node s b (Switch e) = breaks_number (type_of (value_of e))
breaks_node s b (Assigned to e) = breaks_assigned to (value_of e)
breaks_node s b (Tested e) = breaks_test (type_of (value_of e))
breaks_node s b (Returned e) = breaks_return s.answer (value_of e)

-- ---- a declaration of a local, with the tree of its value

-- the value of a local of this type
abbrev pub breaks_start : TyTree → Option TExprTree → TypeKind → Bool
breaks_start ty None kind = false
breaks_start ty (Some e) NotInteger = is_void (type_of e)
breaks_start ty (Some e) NotLvalue = not (is_whole (category ty))
breaks_start ty (Some e) Mismatch = not (agrees ty e)
breaks_start ty (Some e) kind = false

abbrev pub breaks_local : ScopeTree → BodyTree → TypeTree → List ℕ → Option TExprTree → TypeKind → Bool
breaks_local s b t name init Twice = is_some (found name (innermost b))
breaks_local s b t name init UnknownType = breaks_object s t UnknownType
breaks_local s b t name init TooLarge = breaks_object s t TooLarge
breaks_local s b t name init kind = breaks_start (ty_of s.heads.tags t) init kind
