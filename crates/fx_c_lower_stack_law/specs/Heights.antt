-- How many operands are pending before each step of a function.
--
-- A jump leads to its place with the operands that stay behind it. So where an earlier step leads to
-- a place, what that step leaves is pending there, and elsewhere what the step before leaves.
use Rattle.std.specs.Prelude.{ℕ, ◌+◌, ◌-◌, Bool, true, false, List, [], ◌∷◌, length, replicate}
use Rattle.std.specs.Prelude.{slice_index, slice_index_or, slice_set, Option, Some, None}
use Rattle.fx_c_mean_model.specs.Programs.{Program, function_at}
use Rattle.fx_c_lin.specs.declared.op.Right.{Right}
use Rattle.fx_c_lin.specs.declared.op.Right.TheVariants as right
use Rattle.fx_c_lin.specs.Ops.{Op, Step}
use Rattle.fx_c_lin.specs.Ops as op

-- ---- one op

-- whether a right operand is pending, as a number
abbrev pub right_takes : Right → ℕ
right_takes right.Pending = 1
right_takes r = 0

-- how many operands an op takes; a return leaves without those that are pending
abbrev pub takes : Program → Op → ℕ
takes p (op.StoreLocal n) = 1
takes p (op.Load ty) = 1
takes p (op.Store ty) = 2
takes p (op.Copy bytes) = 2
takes p (op.Unary o i) = 1
takes p (op.Binary o i right) = 1 + right_takes right
takes p (op.PtrCompare o right) = 1 + right_takes right
takes p (op.CompareJump o of right to) = 1 + right_takes right
takes p (op.Convert from to) = 1
takes p (op.Index bytes right) = 1 + right_takes right
takes p (op.IndexLeft bytes) = 2
takes p (op.Back bytes) = 2
takes p (op.Difference bytes) = 2
takes p (op.Offset bytes) = 1
takes p (op.JumpZero to) = 1
takes p (op.Call f) = (function_at p f).params
takes p (op.Gate f) = (function_at p f).params
takes p (op.Spawn f) = 1
takes p op.Switch = 1
takes p (op.DevStore device register) = 1
takes p op.Putc = 1
takes p op.Drop = 1
takes p o = 0

-- how many words it leaves in their place; a call, a switch and an output leave one also where they
-- have no result
abbrev pub leaves : Op → ℕ
leaves (op.StoreLocal n) = 0
leaves (op.Store ty) = 0
leaves (op.Copy bytes) = 0
leaves (op.CompareJump o of right to) = 0
leaves (op.Jump to) = 0
leaves (op.JumpZero to) = 0
leaves op.Drop = 0
leaves op.Return = 0
leaves o = 1

-- what is pending behind an op, where so many operands are before it; a function begins with none
abbrev pub behind : Program → ℕ → Op → ℕ
behind p count op.Return = 0
behind p count o = count - takes p o + leaves o

-- whether the step behind an op can follow it
abbrev pub goes_on : Op → Bool
goes_on (op.Jump to) = false
goes_on op.Return = false
goes_on o = true

-- the place to which an op may lead
abbrev pub leads_to : Op → Option ℕ
leads_to (op.CompareJump o of right to) = Some to
leads_to (op.Jump to) = Some to
leads_to (op.JumpZero to) = Some to
leads_to o = None

-- ---- the steps of a function

-- by place, what an op leaves there that leads to it
abbrev pub with_mark : List (Option ℕ) → ℕ → Option ℕ → List (Option ℕ)
with_mark marks count None = marks
with_mark marks count (Some to) = slice_set marks to (Some count)

abbrev pub marked_or : Option ℕ → ℕ → ℕ
marked_or None count = count
marked_or (Some marked) count = marked

-- what is pending at place k, where the step before it leaves so many
abbrev pub height_with : List (Option ℕ) → (k count : ℕ) → ℕ
height_with marks k count = marked_or (slice_index_or marks k None) count

-- What is pending before each step from place k on, where the step before it leaves so many, and
-- each op leaves what this function says.
abbrev pub heights_from : (ℕ → Op → ℕ) → List (Option ℕ) → (k count : ℕ) → List Step → List ℕ
heights_from b marks k count [] = []
heights_from b marks k count (x ∷ xs) =
    height_with marks k count
    ∷ heights_from b (with_mark marks (b (height_with marks k count) x.op) (leads_to x.op)) (k + 1)
    (b (height_with marks k count) x.op) xs

-- what is pending before each step of a function
abbrev pub heights : Program → List Step → List ℕ
heights p steps = heights_from (behind p) (replicate (length steps) None) 0 0 steps

abbrev pub height_at : Program → List Step → ℕ → ℕ
height_at p steps k = slice_index (heights p steps) k
