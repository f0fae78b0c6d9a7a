-- The bytes of linked code: each displacement leads to what its piece names.
use Rattle.std.specs.Prelude.{ℕ, ℤ, ◌+◌, ◌-◌, ◌*◌, ◌/◌, ◌%◌, ◌^◌, Bool, ◌&&◌, ◌==◌, if◌then◌else◌}
use Rattle.std.specs.Prelude.{List, [], ◌∷◌, ◌++◌, length, replicate, slice_index, slice_index_or}
use Rattle.std.specs.Prelude.{Option, None, Some}
use Rattle.std.specs.Int.{w32, cast_signed}
use Rattle.fx_x64_forms.specs.declared.inst.Inst.{Inst}
use Rattle.fx_x64_forms.specs.declared.inst.Inst.TheVariants.{Jcc, Jmp, Call}
use Rattle.fx_x64_forms.specs.declared.piece.Piece.{Piece}
use Rattle.fx_x64_forms.specs.declared.piece.Target.{Target}
use Rattle.fx_x64_forms.specs.declared.piece.Target.TheVariants.{Label, Function, Stub, Abort, Idle}
use Rattle.fx_x64_forms.specs.declared.piece.Target.TheVariants.{Switch}
use Rattle.fx_x64_code.specs.Spelling.{spelling}
use Rattle.fx_image.specs.declared.forms.Stub.{Stub as StubRecord}
use Rattle.fx_linker.specs.declared.parts.Parts.{Parts}
use Rattle.fx_linker.specs.declared.reach.Reach.{Reach}
use Rattle.fx_linker.specs.Entries.{homes}

-- whether a stub is the one from a compartment to an entry of another, whose number is cut to 16 bits
abbrev pub is_stub_of : (from to entry : ℕ) → StubRecord → Bool
is_stub_of from to entry s = s.from == from && s.to == to && s.entry == entry % 2 ^ 16

-- the number of the runtime's piece at which it begins
abbrev pub stub_piece : (from to entry : ℕ) → List StubRecord → ℕ
stub_piece from to entry [] = 0
stub_piece from to entry (s ∷ ss) =
    if is_stub_of from to entry s then s.offset else stub_piece from to entry ss

-- Where a target is, in code whose pieces stand at the places `own`. Stub(n) is the stub from compartment
-- n mod 16 to entry function n / 16.
abbrev pub reached : Parts → Reach → List ℕ → Target → ℕ
reached parts to own (Label k) = slice_index own k
reached parts to own (Function f) = slice_index to.functions f
reached parts to own (Stub n) =
    slice_index to.runtime
    (stub_piece (n % 16) (slice_index (homes parts.spots) (n / 16))
    (slice_index to.numbers (n / 16)) parts.map.stubs)
reached parts to own Abort = slice_index to.runtime parts.map.abort
reached parts to own Idle = slice_index to.runtime parts.map.idle
reached parts to own Switch = slice_index to.runtime parts.map.switch

-- the displacement of 32 bits that leads from a place to another
abbrev pub displacement : (from to : ℕ) → ℤ
displacement from to = cast_signed w32 ((to + (2 ^ 64 - from)) % 2 ^ 64 % 2 ^ 32)

-- an instruction with another displacement, where it is one that jumps
abbrev pub with_displacement : Inst → ℤ → Inst
with_displacement (Jcc cc rel) to = Jcc cc to
with_displacement (Jmp rel) to = Jmp to
with_displacement (Call rel) to = Call to
with_displacement i to = i

-- a piece's instruction, which ends at a place
abbrev pub linked : Parts → Reach → List ℕ → ℕ → Inst → Option Target → Inst
linked parts to own end i None = i
linked parts to own end i (Some target) =
    with_displacement i (displacement end (reached parts to own target))

-- the bytes of pieces from number k on, each of which ends where the next one begins
abbrev pub bytes_from : Parts → Reach → List ℕ → ℕ → List Piece → List ℕ
bytes_from parts to own k [] = []
bytes_from parts to own k (p ∷ ps) =
    spelling (linked parts to own (slice_index own (k + 1)) p.inst p.target)
    ++ bytes_from parts to own (k + 1) ps

-- bytes filled up to whole pages with HLT
abbrev pub filled : List ℕ → List ℕ
filled bytes = bytes ++ replicate ((4096 - length bytes % 4096) % 4096) 0xf4

abbrev pub range_code : Parts → Reach → List ℕ → List Piece → List ℕ
range_code parts to own pieces = filled (bytes_from parts to own 0 pieces)

-- ranges from number c on, one behind the other
abbrev pub ranges_code : Parts → Reach → List (List ℕ) → ℕ → List (List Piece) → List ℕ
ranges_code parts to places c [] = []
ranges_code parts to places c (r ∷ rs) =
    range_code parts to (slice_index_or places c []) r ++ ranges_code parts to places (c + 1) rs
