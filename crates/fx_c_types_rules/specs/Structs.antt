-- The structs of a program as plain data, and their members.
use Rattle.std.specs.Prelude.{ℕ, ◌+◌, List, [], ◌∷◌, Option, Some, None, min, nat_lt, bytes_eq, slice_get, Ok, if◌then◌else◌}
use Rattle.fx_c_ast.specs.declared.checked.TMember.{TMember}
use Rattle.fx_c_ast.specs.declared.checked.TStruct.{TStruct}
use Rattle.fx_c_ast.specs.CheckedTrees.{TyTree, VoidTy, IntTy, StructTy, PtrTy, ArrayTy, TExprTree, EMember, EArrow, ty_tree}
use Rattle.fx_c_types_rules.specs.declared.category.ArrowTarget.{ArrowTarget}
use Rattle.fx_c_types_rules.specs.declared.category.ArrowTarget.TheVariants.{Structure, Refused}
use Rattle.fx_c_types_rules.specs.declared.fault.TypeKind.TheVariants.{NotInteger, NotPointer, UnknownName}
use Rattle.fx_c_types_rules.specs.Checks.{Checked, ◌>>=◌, refuse, demand}
use Rattle.fx_c_types_rules.specs.Values.{type_of}

pub record MemberTree : Type 0 where
  pub ty : TyTree
  pub name : List ℕ

pub record StructTree : Type 0 where
  pub name : List ℕ
  pub members : List MemberTree

abbrev pub member_trees : List TMember → List MemberTree
member_trees [] = []
member_trees (m ∷ ms) = record { ty = ty_tree m.ty; name = m.name } ∷ member_trees ms

abbrev pub struct_trees : List TStruct → List StructTree
struct_trees [] = []
struct_trees (s ∷ ss) = record { name = s.name; members = member_trees s.members } ∷ struct_trees ss

-- a number that 32 bits hold: no struct that is small enough has more members
abbrev pub place_32 : ℕ → ℕ
place_32 n = min n 4294967295

-- the place, behind so many others, and the type of the member with a name
abbrev pub member_at : ℕ → List ℕ → List MemberTree → Option (ℕ × TyTree)
member_at place name [] = None
member_at place name (m ∷ ms) = if bytes_eq m.name name then Some (place, m.ty) else member_at (place + 1) name ms

abbrev pub members_of : Option StructTree → List MemberTree
members_of None = []
members_of (Some s) = s.members

-- the members of a struct, if it is complete
abbrev pub struct_members : List StructTree → ℕ → ℕ → List MemberTree
struct_members structs declared n = if nat_lt n declared then members_of (slice_get structs n) else []

-- e.m where m is found
abbrev pub member_node : TExprTree → Option (ℕ × TyTree) → Checked TExprTree
member_node e None = refuse UnknownName
member_node e (Some m) = Ok (EMember m.1 e (place_32 m.0))

abbrev pub member_in : List StructTree → ℕ → List ℕ → TExprTree → TyTree → Checked TExprTree
member_in structs declared name e (StructTy n) = member_node e (member_at 0 name (struct_members structs declared n))
member_in structs declared name e _ = refuse UnknownName

-- e.m of a struct
abbrev pub member : List StructTree → ℕ → List ℕ → TExprTree → Checked TExprTree
member structs declared name e = member_in structs declared name e (type_of e)

-- e->m where m is found
abbrev pub arrow_node : TExprTree → Option (ℕ × TyTree) → Checked TExprTree
arrow_node e None = refuse UnknownName
arrow_node e (Some m) = Ok (EArrow m.1 e (place_32 m.0))

-- what stands left of ->: a pointer to a struct, or what is refused
abbrev pub target_of : TyTree → ArrowTarget
target_of (StructTy n) = Structure n
target_of VoidTy = Refused NotPointer
target_of _ = Refused UnknownName

abbrev pub arrow_target : TyTree → ArrowTarget
arrow_target (PtrTy t) = target_of t
arrow_target (IntTy i) = Refused NotPointer
arrow_target _ = Refused NotInteger

-- through a pointer to a struct, which has to be complete
abbrev pub arrow_to : List StructTree → ℕ → List ℕ → TExprTree → ArrowTarget → Checked TExprTree
arrow_to structs declared name e (Structure n) = demand (nat_lt n declared) NotPointer (arrow_node e (member_at 0 name (struct_members structs declared n)))
arrow_to structs declared name e (Refused kind) = refuse kind

-- e->m of a pointer to a complete struct
abbrev pub arrow : List StructTree → ℕ → List ℕ → TExprTree → Checked TExprTree
arrow structs declared name e = arrow_to structs declared name e (arrow_target (type_of e))
