-- The thread switch. It is asked by RSI: 0, the running thread has ended; 1, to the thread RDI; 2,
-- a thread is to be made whose argument is RDI and whose start's address is the second word on the
-- stack.
--
-- The table of the scheduler's compartment has, of thread t, the kept pointer at 8 * t and whether it
-- is live, 1 or 0, at 128 + 8 * t; and at 256 how many threads have been made. The kept pointer of a
-- live thread that doesn't run points at the address at which it goes on (this project's own layout).
use Rattle.std.specs.Prelude.{ℕ, ◌+◌, pos, List, [], ◌∷◌, ◌++◌}
use Rattle.fx_x64_forms.specs.declared.operand.Width.TheVariants.{W64}
use Rattle.fx_x64_forms.specs.declared.operand.Reg.{Reg}
use Rattle.fx_x64_forms.specs.declared.operand.Reg.TheVariants.{Rax, Rcx, Rdx, Rsi, Rdi, Rsp, R8}
use Rattle.fx_x64_forms.specs.declared.operand.Reg.TheVariants.{R9, R11}
use Rattle.fx_x64_forms.specs.declared.operand.Cond.TheVariants.{E, Ne, Ae}
use Rattle.fx_x64_forms.specs.declared.inst.AluOp.TheVariants.{Add, Cmp}
use Rattle.fx_x64_forms.specs.declared.inst.Inst.TheVariants as inst
use Rattle.fx_x64_forms.specs.declared.piece.Target.TheVariants.{Label}
use Rattle.fx_x64_forms.specs.declared.piece.Piece.{Piece}
use Rattle.fx_templates_core.specs.Pieces.{plain, set, copy, load, store, alu, alu_number, branch}
use Rattle.fx_templates_core.specs.Pieces.{jump}
use Rattle.fx_templates_core.specs.Memory.{thread_number}

-- the number of a thread in a register becomes the place of its words in the table
abbrev pub words_of : Reg → ℕ → List Piece
words_of reg table =
    set Rcx (pos 8) ∷ plain (inst.Imul W64 reg Rcx) ∷ plain (inst.MovImm64 Rcx table)
    ∷ alu Add reg Rcx ∷ []

-- the machine stops with a number: 2, no such thread; 3, there are sixteen
abbrev pub stop : ℕ → List Piece
stop code = set Rax (pos code) ∷ plain inst.Hlt ∷ []

-- ---- what is asked

abbrev pub if_begins : ℕ → List Piece
if_begins to = alu_number Cmp Rsi (pos 2) ∷ branch E to ∷ []

-- the running thread's number to R8, its words to R11; RDX points at the number
abbrev pub running_words : ℕ → List Piece
running_words table = thread_number R8 Rdx ++ copy R11 R8 ∷ words_of R11 table

abbrev pub if_ends : ℕ → List Piece
if_ends to = alu_number Cmp Rsi (pos 0) ∷ branch E to ∷ []

abbrev pub dispatch : (table begin ending : ℕ) → List Piece
dispatch table begin ending = if_begins begin ++ running_words table ++ if_ends ending

-- ---- to another thread

-- to oneself there is nothing to do
abbrev pub unless_self : ℕ → List Piece
unless_self to = alu Cmp Rdi R8 ∷ branch Ne to ∷ plain inst.Ret ∷ []

abbrev pub if_no_number : ℕ → List Piece
if_no_number to = alu_number Cmp Rdi (pos 16) ∷ branch Ae to ∷ []

-- the words of the thread RDI to R9
abbrev pub other_words : ℕ → List Piece
other_words table = copy R9 Rdi ∷ words_of R9 table

abbrev pub if_not_live : ℕ → List Piece
if_not_live to = load Rax R9 (pos 128) ∷ alu_number Cmp Rax (pos 1) ∷ branch Ne to ∷ []

-- the running thread waits at the address on its stack
abbrev pub wait_here : ℕ → List Piece
wait_here to = store R11 (pos 0) Rsp ∷ jump (Label to) ∷ []

abbrev pub to_other : (table bad resume : ℕ) → List Piece
to_other table bad resume =
    if_no_number bad ++ other_words table ++ if_not_live bad ++ wait_here resume

-- ---- the running thread has ended

abbrev pub not_live : List Piece
not_live = set Rax (pos 0) ∷ store R11 (pos 128) Rax ∷ []

abbrev pub end_running : ℕ → List Piece
end_running table = not_live ++ other_words table

-- the thread RDI runs where it waited
abbrev pub resume_other : List Piece
resume_other = store Rdx (pos 0) Rdi ∷ load Rsp R9 (pos 0) ∷ plain inst.Ret ∷ []

-- ---- a thread is made

-- its number, how many there are, to RAX; RDX points at it
abbrev pub next_number : (table full : ℕ) → List Piece
next_number table full =
    plain (inst.MovImm64 Rdx (table + 256)) ∷ load Rax Rdx (pos 0) ∷ alu_number Cmp Rax (pos 16)
    ∷ branch Ae full ∷ []

abbrev pub new_words : ℕ → List Piece
new_words table = copy R9 Rax ∷ words_of R9 table

abbrev pub one_more : List Piece
one_more = copy Rcx Rax ∷ alu_number Add Rcx (pos 1) ∷ store Rdx (pos 0) Rcx ∷ []

abbrev pub now_live : List Piece
now_live = set Rcx (pos 1) ∷ store R9 (pos 128) Rcx ∷ []

-- RDX to the word on its stack at which it begins, which in thread 0 would be `top`
abbrev pub new_stack : (stride top : ℕ) → List Piece
new_stack stride top =
    set Rdx (pos stride) ∷ plain (inst.Imul W64 Rdx Rax) ∷ alu_number Add Rdx (pos top) ∷ []

-- the start's address, and above it the argument
abbrev pub begin_there : List Piece
begin_there =
    load Rcx Rsp (pos 8) ∷ store Rdx (pos 0) Rcx ∷ store Rdx (pos 8) Rdi ∷ store R9 (pos 0) Rdx ∷ []

abbrev pub count_thread : (table full : ℕ) → List Piece
count_thread table full = next_number table full ++ new_words table ++ one_more ++ now_live

abbrev pub make_thread : (table stride top full : ℕ) → List Piece
make_thread table stride top full =
    count_thread table full ++ new_stack stride top ++ begin_there ++ plain inst.Ret ∷ []

-- ---- the whole, which begins at the piece `here`

abbrev pub leave_running : (table here : ℕ) → List Piece
leave_running table here =
    dispatch table (here + 39) (here + 27) ++ unless_self (here + 15)
    ++ to_other table (here + 37) (here + 34)

abbrev pub go_on : ℕ → List Piece
go_on table = end_running table ++ resume_other ++ stop 2

abbrev pub thread_switch : (table stride top here : ℕ) → List Piece
thread_switch table stride top here =
    leave_running table here ++ go_on table ++ make_thread table stride top (here + 61) ++ stop 3
