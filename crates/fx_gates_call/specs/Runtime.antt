-- What an image under plain calls has beside its compartments' code: the start, the thread switch and
-- the abort stub.
use Rattle.std.specs.Prelude.{ℕ, ◌+◌, ◌-◌, Bool, true, false, ◌==◌, if◌then◌else◌, pos, List, []}
use Rattle.std.specs.Prelude.{◌∷◌, ◌++◌, length, replicate, slice_get, slice_index, Option, Some}
use Rattle.std.specs.Prelude.{None}
use Rattle.fx_x64_forms.specs.declared.operand.Width.{Width}
use Rattle.fx_x64_forms.specs.declared.operand.Width.TheVariants.{W8, W16, W32, W64}
use Rattle.fx_x64_forms.specs.declared.operand.Reg.TheVariants.{Rax, Rdi}
use Rattle.fx_x64_forms.specs.declared.inst.Inst.TheVariants as inst
use Rattle.fx_x64_forms.specs.declared.piece.Target.TheVariants.{Function}
use Rattle.fx_x64_forms.specs.declared.piece.Piece.{Piece}
use Rattle.fx_c_ast.specs.declared.operator.IntType.{IntType}
use Rattle.fx_c_ast.specs.declared.checked.TFunction.{TFunction}
use Rattle.fx_c_ast.specs.declared.checked.TProgram.{TProgram}
use Rattle.fx_c_ast.specs.CheckedTrees.{TyTree, VoidTy, IntTy, StructTy, PtrTy, ArrayTy, ty_tree}
use Rattle.fx_config.specs.declared.configuration.Compartment.{Compartment}
use Rattle.fx_config.specs.declared.configuration.Config.{Config}
use Rattle.fx_shadow.specs.Stacks.{first_stack, stack_size, stack_span}
use Rattle.fx_sections.specs.declared.placement.Placement.{Placement}
use Rattle.fx_image_runtime.specs.declared.RuntimeMap.{RuntimeMap}
use Rattle.fx_match_rel.specs.Addresses.{runtime_addresses}
use Rattle.fx_match_rel.specs.Frames.{width_of, is_signed}
use Rattle.fx_templates_core.specs.Pieces.{plain, set, copy, call}
use Rattle.fx_gates_call.specs.Threads.{thread_switch, stop}

-- ---- the start

-- RAX, a word of a width, as a number of 64 bits
abbrev pub as_number : Bool → Width → List Piece
as_number false w = []
as_number true W64 = []
as_number true W32 = plain (inst.Sign W32 Rax Rax) ∷ []
as_number true W16 = plain (inst.Sign W16 Rax Rax) ∷ []
as_number true W8 = plain (inst.Sign W8 Rax Rax) ∷ []

abbrev pub integer_value : IntType → List Piece
integer_value i = as_number (is_signed i) (width_of i) ++ copy Rdi Rax ∷ []

-- what a run exits with: the integer that `main` gives, else 0
abbrev pub exit_value : TyTree → List Piece
exit_value (IntTy i) = integer_value i
exit_value VoidTy = set Rdi (pos 0) ∷ []
exit_value (StructTy n) = set Rdi (pos 0) ∷ []
exit_value (PtrTy t) = set Rdi (pos 0) ∷ []
exit_value (ArrayTy t n) = set Rdi (pos 0) ∷ []

abbrev pub exit_value_in : Option TFunction → List Piece
exit_value_in None = set Rdi (pos 0) ∷ []
exit_value_in (Some f) = exit_value (ty_tree f.result)

-- `main` is called, and the machine stops with 0 and the value
abbrev pub start : TProgram → List Piece
start p = call (Function p.main) ∷ exit_value_in (slice_get p.functions p.main) ++ stop 0

-- ---- the thread switch

-- the table of the scheduler's compartment
abbrev pub table_at : Placement → Config → ℕ
table_at at k = slice_index (runtime_addresses at.sections) k.scheduler

-- The word at which a thread begins: 16 bytes below where its stack's use does, above which are the
-- runtime's 32 bytes.
abbrev pub first_word : Config → ℕ
first_word k = first_stack + stack_size k - 48

abbrev pub switch_at : Placement → Config → ℕ → List Piece
switch_at at k here = thread_switch (table_at at k) (stack_span k) (first_word k) here

-- ---- tables at boot

-- thread 0 is live, and one thread has been made
abbrev pub first_table : List ℕ
first_table = replicate 128 0 ++ 1 ∷ replicate 127 0 ++ 1 ∷ []

abbrev pub table_of : (scheduler c : ℕ) → List ℕ
table_of scheduler c = if c == scheduler then first_table else []

-- the tables of the compartments from number c on
abbrev pub tables_from : (scheduler c : ℕ) → List Compartment → List (List ℕ)
tables_from scheduler c [] = []
tables_from scheduler c (x ∷ xs) = table_of scheduler c ∷ tables_from scheduler (c + 1) xs

-- ---- the whole, which begins at the piece `here`

abbrev pub up_to_abort : TProgram → Placement → Config → ℕ → List Piece
up_to_abort p at k here = start p ++ switch_at at k (here + length (start p))

-- the abort stub stops the machine with 4
abbrev pub runtime_pieces : TProgram → Placement → Config → ℕ → List Piece
runtime_pieces p at k here = up_to_abort p at k here ++ stop 4

-- there are no stubs and there is no idle loop
abbrev pub map_with : Config → (start switch abort : ℕ) → RuntimeMap
map_with k start switch abort = record {
  stubs = [];
  abort = abort;
  idle = 0;
  switch = switch;
  starts = start ∷ [];
  initials = tables_from k.scheduler 0 k.compartments;
}

abbrev pub runtime_map : TProgram → Placement → Config → ℕ → RuntimeMap
runtime_map p at k here =
    map_with k here (here + length (start p)) (here + length (up_to_abort p at k here))
