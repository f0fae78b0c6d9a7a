-- How many operands are pending before each op of a function.
--
-- A jump leads to its place with the operands that stay behind it. So where an earlier op leads to
-- a place, what it leaves is pending there, and elsewhere what the op before leaves.
use Rattle.std.specs.Prelude.{ℕ, ◌+◌, ◌-◌, List, [], ◌∷◌, length, replicate, slice_index_or}
use Rattle.std.specs.Prelude.{slice_set, Option, Some, None}
use Rattle.fx_c_lin.specs.declared.op.Right.{Right}
use Rattle.fx_c_lin.specs.declared.op.Right.TheVariants as right
use Rattle.fx_c_lin.specs.Ops.{Op, Step}
use Rattle.fx_c_lin.specs.Ops as op
use Rattle.fx_match_rel.specs.declared.addresses.Addresses.{Addresses}
use Rattle.fx_templates_core.specs.Functions.{params_at}

-- whether a right operand is pending, as a number
abbrev pub right_count : Right → ℕ
right_count right.Pending = 1
right_count (right.Number n) = 0
right_count (right.Local n) = 0

-- So many operands are pending before an op, and this many behind it. A call, a switch and an
-- output leave a word also where they have no result.
abbrev pub behind : Addresses → ℕ → Op → ℕ
behind a count (op.Number w) = count + 1
behind a count (op.LocalAddr n) = count + 1
behind a count (op.LoadLocal n) = count + 1
behind a count (op.StoreLocal n) = count - 1
behind a count (op.GlobalAddr n) = count + 1
behind a count (op.LiteralAddr n) = count + 1
behind a count (op.Load ty) = count
behind a count (op.Store ty) = count - 2
behind a count (op.Copy bytes) = count - 2
behind a count (op.Unary o i) = count
behind a count (op.Binary o i right) = count - right_count right
behind a count (op.PtrCompare o right) = count - right_count right
behind a count (op.CompareJump o of right to) = count - 1 - right_count right
behind a count (op.Convert from to) = count
behind a count (op.Index bytes right) = count - right_count right
behind a count (op.IndexLeft bytes) = count - 1
behind a count (op.Back bytes) = count - 1
behind a count (op.Difference bytes) = count - 1
behind a count (op.Offset bytes) = count
behind a count (op.Jump to) = count
behind a count (op.JumpZero to) = count - 1
behind a count (op.Call f) = count - params_at a f + 1
behind a count (op.Gate f) = count - params_at a f + 1
behind a count (op.Spawn f) = count
behind a count op.Switch = count
behind a count op.Me = count + 1
behind a count (op.DevLoad device register) = count + 1
behind a count (op.DevStore device register) = count
behind a count op.Getc = count + 1
behind a count op.Putc = count
behind a count op.Drop = count - 1
behind a count op.Return = 0

-- the place to which an op may lead
abbrev pub leads_to : Op → Option ℕ
leads_to (op.CompareJump o of right to) = Some to
leads_to (op.Jump to) = Some to
leads_to (op.JumpZero to) = Some to
leads_to o = None

-- by place, what an op brings there that leads to it
abbrev pub with_mark : List (Option ℕ) → ℕ → Option ℕ → List (Option ℕ)
with_mark marks count None = marks
with_mark marks count (Some to) = slice_set marks to (Some count)

abbrev pub brought_or : Option ℕ → ℕ → ℕ
brought_or None count = count
brought_or (Some brought) count = brought

-- what is pending at place k, where the op before it leaves so many
abbrev pub pending_at : List (Option ℕ) → (k count : ℕ) → ℕ
pending_at marks k count = brought_or (slice_index_or marks k None) count

-- what is pending before each op from place k on, where the op before it leaves so many
abbrev pub pending_from : Addresses → List (Option ℕ) → (k count : ℕ) → List Step → List ℕ
pending_from a marks k count [] = []
pending_from a marks k count (x ∷ xs) =
    pending_at marks k count
    ∷ pending_from a (with_mark marks (behind a (pending_at marks k count) x.op) (leads_to x.op))
    (k + 1) (behind a (pending_at marks k count) x.op) xs

-- no op leads anywhere yet
abbrev pub no_marks : ℕ → List (Option ℕ)
no_marks count = replicate count None

abbrev pub pending_before : Addresses → List Step → List ℕ
pending_before a steps = pending_from a (no_marks (length steps)) 0 0 steps
