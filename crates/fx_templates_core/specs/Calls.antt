-- Calls, returns and threads. Arguments go by registers (System V ABI for x86-64); a result is in RAX.
use Rattle.std.specs.Prelude.{ℕ, ◌+◌, zero, suc, Bool, true, false, pos, List, [], ◌∷◌, ◌++◌}
use Rattle.fx_x64_forms.specs.declared.operand.Reg.{Reg}
use Rattle.fx_x64_forms.specs.declared.operand.Reg.TheVariants.{Rax, Rcx, Rdx, Rsi, Rdi, R8, R9}
use Rattle.fx_x64_forms.specs.declared.operand.Reg.TheVariants.{Rbp, Rsp}
use Rattle.fx_x64_forms.specs.declared.inst.Inst.TheVariants as inst
use Rattle.fx_x64_forms.specs.declared.piece.Target.{Target}
use Rattle.fx_x64_forms.specs.declared.piece.Target.TheVariants.{Label, Function, Switch}
use Rattle.fx_x64_forms.specs.declared.piece.Piece.{Piece}
use Rattle.fx_templates_core.specs.Pieces.{plain, set, copy, call, jump, load_slot, spill}

-- the register of argument i
abbrev pub argument : ℕ → Reg
argument zero = Rdi
argument (suc zero) = Rsi
argument (suc (suc zero)) = Rdx
argument (suc (suc (suc zero))) = Rcx
argument (suc (suc (suc (suc zero)))) = R8
argument (suc (suc (suc (suc (suc i))))) = R9

-- the first i arguments from their slots, with k operands below them
abbrev pub load_arguments : (locals k i : ℕ) → List Piece
load_arguments locals k zero = []
load_arguments locals k (suc i) = load_slot (argument i) locals (k + i) ∷ load_arguments locals k i

-- All arguments, with k operands below them: the last one from RAX, the others from their slots. Where there is none,
-- the latest of the k operands goes to its slot.
abbrev pub arguments : (locals k count : ℕ) → List Piece
arguments locals k zero = spill locals k
arguments locals k (suc i) = copy (argument i) Rax ∷ load_arguments locals k i

abbrev pub call_with : (locals k count : ℕ) → Target → List Piece
call_with locals k count to = arguments locals k count ++ call to ∷ []

-- a return that names no value gives 0 or null, where one is due
abbrev pub default_result : (due : Bool) (count : ℕ) → List Piece
default_result true zero = set Rax (pos 0) ∷ []
default_result true (suc k) = []
default_result false count = []

abbrev pub leave : List Piece
leave = copy Rsp Rbp ∷ plain (inst.Pop Rbp) ∷ plain inst.Ret ∷ []

abbrev pub return : (due : Bool) (count : ℕ) → List Piece
return due count = default_result due count ++ leave

-- ---- threads: what the thread switch is asked for stands in RSI

abbrev pub ends : ℕ
ends = 0

abbrev pub switches : ℕ
switches = 1

abbrev pub begins : ℕ
begins = 2

-- What the thread switch is to do, with what is in RAX.
abbrev pub ask : ℕ → List Piece
ask for = copy Rdi Rax ∷ set Rsi (pos for) ∷ []

-- The frame pointer waits above the return address.
abbrev pub wait : List Piece
wait = plain (inst.Push Rbp) ∷ call Switch ∷ plain (inst.Pop Rbp) ∷ []

-- to the thread whose number is in RAX
abbrev pub switch : List Piece
switch = ask switches ++ wait

-- a thread ends in favour of thread 0
abbrev pub end_thread : List Piece
end_thread = set Rdi (pos 0) ∷ set Rsi (pos ends) ∷ jump Switch ∷ []

-- A thread begins with its argument on its stack, and calls its function.
abbrev pub thread_start : ℕ → List Piece
thread_start f = plain (inst.Pop Rdi) ∷ call (Function f) ∷ end_thread

-- a new thread is to be made; on at a piece of the same list, with the address of the next one on the stack
abbrev pub ask_over : ℕ → List Piece
ask_over over = ask begins ++ call (Label over) ∷ []

-- A thread that will call a function with what is in RAX; its number comes to RAX. The call over its start leaves the
-- start's address on the stack. These pieces begin at a place of their list.
abbrev pub spawn : (here f : ℕ) → List Piece
spawn here f = ask_over (here + 8) ++ thread_start f ++ (call Switch ∷ plain (inst.Pop Rcx) ∷ [])
