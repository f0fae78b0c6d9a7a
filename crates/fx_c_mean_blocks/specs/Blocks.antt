-- Memory as a list of objects: what an access reads, what it writes, and where pointers lead. An object's
-- number is its place in the list; it keeps it when it dies. After C11 3.15, 6.2.4, 6.2.6 and 6.5.6.
use Rattle.std.specs.Prelude.{ℕ, zero, suc, ◌+◌, ◌*◌, ◌/◌, ◌%◌, Bool, true, false, not, ◌&&◌}
use Rattle.std.specs.Prelude.{nat_eq, nat_le, int_lt, int_le, ℤ, pos, ◌+ℤ◌, nat_abs, List, [], ◌∷◌}
use Rattle.std.specs.Prelude.{take, drop, slice_get, slice_index_or, slice_set, Option, Some, None}
use Rattle.std.specs.Prelude.{option_map, Result, Ok, Err, if◌then◌else◌}
use Rattle.fx_c_ast.specs.CheckedTrees.{TyTree, IntTy, PtrTy}
use Rattle.fx_c_ast.specs.Layout.{integer_size}
use Rattle.fx_c_mean_blocks.specs.declared.value.Pointer.{Pointer}
use Rattle.fx_c_mean_blocks.specs.declared.value.Value.{Value}
use Rattle.fx_c_mean_blocks.specs.declared.value.Value.TheVariants.{Void, Number, Null, Address}
use Rattle.fx_c_mean_blocks.specs.declared.value.Cell.{Cell}
use Rattle.fx_c_mean_blocks.specs.declared.value.Cell.TheVariants.{Byte, Part}
use Rattle.fx_c_mean_blocks.specs.declared.block.Object.{Object}
use Rattle.fx_c_mean_blocks.specs.declared.block.Place.{Place}
use Rattle.fx_c_mean_blocks.specs.declared.block.Place.TheVariants.{Global, Literal}
use Rattle.fx_c_mean_blocks.specs.declared.fault.Fault.{Fault}
use Rattle.fx_c_mean_blocks.specs.declared.fault.Fault.TheVariants.{Undefined}

-- ---- cells and values

-- the n lowest bytes of a number, little-endian
abbrev pub bytes_of : ℕ → ℕ → List Cell
bytes_of zero w = []
bytes_of (suc n) w = Byte (w % 256) ∷ bytes_of n (w / 256)

-- the number of bytes, little-endian; parts of a pointer are no number
abbrev pub number_of : List Cell → Option ℕ
number_of [] = Some 0
number_of (Byte b ∷ cells) = option_map (λ n. b + 256 * n) (number_of cells)
number_of (Part part pointer ∷ cells) = None

-- n parts of a pointer, from part i on
abbrev pub parts_from : ℕ → ℕ → Pointer → List Cell
parts_from i zero p = []
parts_from i (suc n) p = Part i p ∷ parts_from (i + 1) n p

abbrev pub same_pointer : Pointer → Pointer → Bool
same_pointer p q = nat_eq p.object q.object && nat_eq p.offset q.offset

-- whether cells are the parts of a pointer, from part i on, in order
abbrev pub are_parts : ℕ → Pointer → List Cell → Bool
are_parts i p [] = true
are_parts i p (Byte b ∷ cells) = false
are_parts i p (Part part q ∷ cells) = nat_eq part i && same_pointer p q && are_parts (i + 1) p cells

-- bytes that are all zero are the null pointer
abbrev pub null_of : Option ℕ → Result Value Fault
null_of (Some zero) = Ok Null
null_of (Some (suc n)) = Err Undefined
null_of None = Err Undefined

-- the pointer that eight cells hold: null, or the one whose parts they are, in order
abbrev pub pointer_of : List Cell → Result Value Fault
pointer_of (Part part p ∷ cells) = if are_parts 0 p (Part part p ∷ cells) then Ok (Address p) else Err Undefined
pointer_of cells = null_of (number_of cells)

abbrev pub number_in : Option ℕ → Result Value Fault
number_in (Some w) = Ok (Number w)
number_in None = Err Undefined

-- the value of a type that cells hold; pointer parts hold no number
abbrev pub value_in : TyTree → List Cell → Result Value Fault
value_in (IntTy i) cells = number_in (number_of cells)
value_in (PtrTy t) cells = pointer_of cells
value_in _ cells = Err Undefined

-- the cells that hold a value in so many bytes
abbrev pub cells_of : ℕ → Value → List Cell
cells_of n (Number w) = bytes_of n w
cells_of n Null = bytes_of n 0
cells_of n (Address p) = parts_from 0 n p
cells_of n Void = []

-- the bytes of a value of an integer or pointer type
abbrev pub width : TyTree → ℕ
width (IntTy i) = integer_size i
width (PtrTy t) = 8
width _ = 0

-- ---- accesses

abbrev pub and_then : {A B : Type 0} → Result A Fault → (A → Result B Fault) → Result B Fault
and_then (Ok a) go = go a
and_then (Err e) go = Err e

-- a live object holds n bytes from an offset on
abbrev pub holds : ℕ → ℕ → Object → Bool
holds offset n o = o.live && nat_le (offset + n) o.size

abbrev pub if_holds : ℕ → ℕ → Option Object → Result Object Fault
if_holds offset n None = Err Undefined
if_holds offset n (Some o) = if holds offset n o then Ok o else Err Undefined

-- the object of an access of n bytes through a value: undefined through null, at a dead object, and outside
abbrev pub reached : List Object → Value → ℕ → Result Object Fault
reached memory (Address p) n = if_holds p.offset n (slice_get memory p.object)
reached memory _ n = Err Undefined

-- the object that a value points to, and how many bytes into it; 0 where it points to none
abbrev pub object_in : Value → ℕ
object_in (Address p) = p.object
object_in _ = 0

abbrev pub offset_in : Value → ℕ
offset_in (Address p) = p.offset
offset_in _ = 0

-- n cells of an object from an offset on
abbrev pub cells_at : Object → ℕ → ℕ → List Cell
cells_at o offset n = take n (drop offset o.cells)

-- the cell that a read of one byte reads, and what object it reads
abbrev pub byte_read : List Object → Value → Result (Cell × Place) Fault
byte_read memory v = and_then (reached memory v 1) (λ o. Ok (slice_index_or o.cells (offset_in v) (Byte 0), o.place))

abbrev pub with_place : Place → Value → Result (Value × Place) Fault
with_place place v = Ok (v, place)

-- the value that a load of a type reads, and what object it reads
abbrev pub loaded : List Object → TyTree → Value → Result (Value × Place) Fault
loaded memory ty v = and_then (reached memory v (width ty)) (λ o. and_then (value_in ty (cells_at o (offset_in v) (width ty))) (with_place o.place))

abbrev pub unless_literal : Place → Result Place Fault
unless_literal (Literal n) = Err Undefined
unless_literal place = Ok place

-- what object a write of n bytes writes: no literal
abbrev pub writable : List Object → Value → ℕ → Result Place Fault
writable memory to n = and_then (reached memory to n) (λ o. unless_literal o.place)

-- cells set one after the other, from a place on
abbrev pub set_cells : List Cell → ℕ → List Cell → List Cell
set_cells cells at [] = cells
set_cells cells at (c ∷ cs) = set_cells (slice_set cells at c) (at + 1) cs

abbrev pub put_cells : List Object → Pointer → List Cell → Option Object → List Object
put_cells memory p new None = memory
put_cells memory p new (Some o) = slice_set memory p.object (record o { cells = set_cells o.cells p.offset new })

-- memory with other cells where a value points to
abbrev pub written : List Object → Value → List Cell → List Object
written memory (Address p) new = put_cells memory p new (slice_get memory p.object)
written memory _ new = memory

abbrev pub dead_at : List Object → ℕ → Option Object → List Object
dead_at memory at None = memory
dead_at memory at (Some o) = slice_set memory at (record o { live = false; cells = [] })

-- memory in which n objects from a number on are dead
abbrev pub without : List Object → ℕ → ℕ → List Object
without memory from zero = memory
without memory from (suc n) = without (dead_at memory from (slice_get memory from)) (from + 1) n

-- the declaration that an object is of; where there is none, that of the first global
abbrev pub declaration_of : Option Object → Place
declaration_of None = Global 0
declaration_of (Some o) = o.place

abbrev pub declared_at : List Object → ℕ → Place
declared_at memory number = declaration_of (slice_get memory number)

-- ---- pointers

-- a place in an object or at its end, dead or live
abbrev pub in_object : ℕ → ℤ → Option Object → Result Value Fault
in_object number at None = Err Undefined
in_object number at (Some o) = if not (int_lt at (pos 0)) && int_le at (pos o.size) then Ok (Address (record { object = number; offset = nat_abs at })) else Err Undefined

-- a pointer so many bytes on; undefined on null, before the object and past its end (6.5.6)
abbrev pub moved : List Object → Value → ℤ → Result Value Fault
moved memory (Address p) by = in_object p.object (pos p.offset +ℤ by) (slice_get memory p.object)
moved memory _ by = Err Undefined

abbrev pub is_live : Option Object → Bool
is_live None = false
is_live (Some o) = o.live

-- a pointer that equality and conditions take: null, or one to a live object
abbrev pub is_comparable : List Object → Value → Bool
is_comparable memory Null = true
is_comparable memory (Address p) = is_live (slice_get memory p.object)
is_comparable memory _ = false
