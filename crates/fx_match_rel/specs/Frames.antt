-- What code generation asks of a function: its frame, its parameters and its result.
use Rattle.std.specs.Prelude.{◌≡◌, ℕ, ◌+◌, ◌*◌, ◌≤◌, Bool, true, false, List, [], ◌∷◌, Option, Some, None, All}
use Rattle.fx_x64_forms.specs.declared.operand.Width.{Width}
use Rattle.fx_x64_forms.specs.declared.operand.Width.TheVariants.{W8, W16, W32, W64}
use Rattle.fx_c_ast.specs.declared.operator.IntType.{IntType}
use Rattle.fx_c_ast.specs.declared.operator.IntType.TheVariants.{Char, Uchar, Short, Ushort, Int, Uint, Long, Ulong}
use Rattle.fx_c_ast.specs.declared.checked.TLocal.{TLocal}
use Rattle.fx_c_ast.specs.declared.checked.TFunction.{TFunction}
use Rattle.fx_c_ast.specs.CheckedTrees.{TyTree, VoidTy, IntTy, StructTy, PtrTy, ArrayTy, ty_tree, local_types}
use Rattle.fx_c_ast.specs.Layout.{known_layouts, layout_of, round_up}
use Rattle.fx_c_ast.specs.StackUse.{depth, slots_size, locals_size, fs}
use Rattle.fx_match_rel.specs.declared.frames.Scalar.{Scalar}
use Rattle.fx_match_rel.specs.declared.frames.Slot.{Slot}
use Rattle.fx_match_rel.specs.declared.frames.FrameTable.{FrameTable}

-- 8, 16, 32 or 64 bits
abbrev pub width_of : IntType → Width
width_of Char = W8
width_of Uchar = W8
width_of Short = W16
width_of Ushort = W16
width_of Int = W32
width_of Uint = W32
width_of Long = W64
width_of Ulong = W64

-- `char` is signed
abbrev pub is_signed : IntType → Bool
is_signed Char = true
is_signed Uchar = false
is_signed Short = true
is_signed Ushort = false
is_signed Int = true
is_signed Uint = false
is_signed Long = true
is_signed Ulong = false

-- the form of an integer or of a pointer; other types have none
abbrev pub scalar_of : TyTree → Option Scalar
scalar_of (IntTy i) = Some (record { width = width_of i; signed = is_signed i })
scalar_of (PtrTy t) = Some (record { width = W64; signed = false })
scalar_of VoidTy = None
scalar_of (StructTy n) = None
scalar_of (ArrayTy t n) = None

-- a local takes a multiple of 16 bytes
abbrev pub room_of : ℕ → ℕ
room_of size = round_up size 16

-- the bytes of the slots of some locals
abbrev pub slots_of : List (List TyTree) → List TLocal → ℕ
slots_of structs locals = slots_size (known_layouts structs) (local_types locals)

-- Slots stand one below the other, with 16 bytes between two of them and above the first; so many bytes
-- of slots stand above these.
abbrev pub slots_from : List (List TyTree) → ℕ → List TLocal → List Slot
slots_from structs before [] = []
slots_from structs before (l ∷ ls) =
    record { below = before + (room_of (layout_of structs (ty_tree l.ty)).size + 16); room = room_of (layout_of structs (ty_tree l.ty)).size; shared = l.shared; scalar = scalar_of (ty_tree l.ty) }
    ∷ slots_from structs (before + (room_of (layout_of structs (ty_tree l.ty)).size + 16)) ls

abbrev pub table_of : List (List TyTree) → TFunction → FrameTable
table_of structs f = record {
  size = fs structs f;
  locals = locals_size structs f;
  depth = depth f;
  params = f.params;
  result = scalar_of (ty_tree f.result);
  slots = slots_from structs 0 f.locals;
}

-- a slot in a frame of at most 65,536 bytes
abbrev pub IsNear : Slot → Type 0
IsNear s = (1 ≤ s.below) × (s.below ≤ 65536) × (s.room ≤ s.below)

-- a frame of at most 65,536 bytes, with its slots
pub record IsFrame (t : FrameTable) : Type 0 where
  pub size : t.size ≡ 16 + t.locals + 8 * t.depth
  pub small : t.size ≤ 65536
  pub slots : All IsNear t.slots
