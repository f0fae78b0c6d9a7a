-- Code that is well stacked, and that lowered code is.
use Rattle.std.specs.Prelude.{◌≡◌, ℕ, ◌+◌, ◌<◌, ◌≤◌, true, max, List, length, slice_get, Some}
use Rattle.fx_c_ast.specs.declared.checked.TProgram.{TProgram}
use Rattle.fx_c_ast.specs.StackUse.{need_stmts}
use Rattle.fx_c_mean_model.specs.Programs.{Program, program_of, function_at}
use Rattle.fx_c_lin.specs.Ops.{Op, Step}
use Rattle.fx_c_lin.specs.Ops as op
use Rattle.fx_c_lin.specs.Machine.{steps_of}
use Rattle.fx_c_lower_model.specs.Code.{code_of}
use Rattle.fx_c_types_model.specs.Lowerable.{IsLowerable}
use Rattle.fx_c_lower_stack_law.specs.Heights.{takes, behind, goes_on, leads_to, height_at}

-- An op at place k of these steps finds what it takes. Where the step behind it can follow, there is
-- one, which finds what the op leaves, and so does the step to which it leads. A function returns
-- with one word or none.
pub record IsStacked (p : Program) (most : ℕ) (steps : List Step) (k : ℕ) (o : Op) : Type 0 where
  pub few : height_at p steps k ≤ most
  pub there : takes p o ≤ height_at p steps k
  pub on : goes_on o ≡ true
      → (k + 1 < length steps) × (height_at p steps (k + 1) ≡ behind p (height_at p steps k) o)
  pub to : (t : ℕ) → leads_to o ≡ Some t
      → (t < length steps) × (height_at p steps t ≡ behind p (height_at p steps k) o)
  pub last : o ≡ op.Return → height_at p steps k ≤ 1

-- the steps of a function, which begins with nothing pending, and of which at most so many operands
-- are pending at once
pub record AreStacked (p : Program) (most : ℕ) (steps : List Step) : Type 0 where
  pub some : 0 < length steps
  pub first : height_at p steps 0 ≡ 0
  pub each : (k : ℕ) (x : Step) → slice_get steps k ≡ Some x → IsStacked p most steps k x.op

-- The code of each function of a program that may be lowered; one operand alone, as a result that no
-- statement gives, may be pending where the frame has no room for operands, since it is in the
-- register.
abbrev pub LoweredCodeIsStacked : Type 0
LoweredCodeIsStacked =
    (p : TProgram) (f : ℕ) → IsLowerable p
    → AreStacked (program_of p) (max 1 (need_stmts (function_at (program_of p) f).body))
    (steps_of (code_of (program_of p)) f)
