use Rattle.std.specs.Prelude.{ℕ, ℤ, pos, ◌+◌, ◌-◌, ◌*◌, ◌%◌, ◌-ℤ◌, List, [], ◌∷◌, ◌++◌, length, replicate}
use Rattle.std.specs.List.{flat_map}
use Rattle.fx_x64_forms.specs.declared.operand.Width.TheVariants.{W64}
use Rattle.fx_x64_forms.specs.declared.operand.Reg.TheVariants.{Rax, Rcx, Rdi}
use Rattle.fx_x64_forms.specs.declared.operand.Mem.{Mem}
use Rattle.fx_x64_forms.specs.declared.inst.Inst.{Inst}
use Rattle.fx_x64_forms.specs.declared.inst.Inst.TheVariants.{MovImm, Store, Jmp, Call, Ret, Hlt}
use Rattle.fx_x64_code.specs.Spelling.{spelling}

-- The code of a program whose `main` writes constants to the console and returns.

-- The console's registers, device 0, stand in the page at F100000; register 0 at its beginning.
abbrev pub console : ℕ
console = 0xf10_0000

abbrev pub at_rax : Mem
at_rax = record { base = Rax; disp = pos 0 }

-- The bytes of instructions one after the other.
abbrev pub spelled : List Inst → List ℕ
spelled code = flat_map spelling code

-- One constant: into RCX, and from there to the console's register 0, whose address RAX holds.
abbrev pub putc_code : ℕ → List Inst
putc_code c = MovImm Rcx (pos c) ∷ Store W64 at_rax Rcx ∷ []

abbrev pub putc_bytes : ℕ → List ℕ
putc_bytes c = spelled (putc_code c)

-- `main`: the console's address, each constant in order, and the return.
abbrev pub main_bytes : List ℕ → List ℕ
main_bytes constants = spelling (MovImm Rax (pos console)) ++ flat_map putc_bytes constants ++ spelling Ret

-- The runtime's code, which begins right behind the compartment's range of so many bytes. The start
-- calls main by its jump in the entry table, at the range's beginning, and exits with 0 (RAX 0, the
-- value in RDI). The abort stub stops with a RAX that names no other stop.
abbrev pub start_code : ℕ → List Inst
start_code range = Call (pos 0 -ℤ pos (range + 5)) ∷ MovImm Rax (pos 0) ∷ MovImm Rdi (pos 0) ∷ Hlt ∷ []

abbrev pub abort_code : List Inst
abort_code = MovImm Rax (pos 4) ∷ Hlt ∷ []

-- Bytes filled up with F4 (HLT) to a multiple of a unit.
unfoldable pub filled : ℕ → List ℕ → List ℕ
filled unit bytes = bytes ++ replicate ((unit - length bytes % unit) % unit) 0xf4

-- The compartment's range: its entry table, in which entry 0 is the jump to main, and main. The jump
-- has five bytes of the entry's sixteen.
abbrev pub entry_table : List ℕ
entry_table = filled 16 (spelled (Jmp (pos 11) ∷ []))

unfoldable pub range_bytes : List ℕ → List ℕ
range_bytes constants = filled 4096 (entry_table ++ main_bytes constants)

-- The whole code: the compartment's range, and then the runtime's.
unfoldable pub code_bytes : List ℕ → List ℕ
code_bytes constants =
    filled 4096 (range_bytes constants ++ spelled (start_code (length (range_bytes constants))) ++ spelled abort_code)
