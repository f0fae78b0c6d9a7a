-- Ops whose numbers are in range, and that those of lowered code are.
use Rattle.std.specs.Prelude.{◌≡◌, ℕ, ◌<◌, ◌≤◌, true, false, length, slice_get, slice_index_or}
use Rattle.std.specs.Prelude.{Some}
use Rattle.fx_c_ast.specs.declared.checked.TProgram.{TProgram}
use Rattle.fx_c_mean_model.specs.Programs.{Program, Function, program_of, function_at}
use Rattle.fx_c_mean_model.specs.Rights.{no_variable}
use Rattle.fx_c_mean_model.specs.States.{is_scalar}
use Rattle.fx_c_lin.specs.declared.op.Right.{Right}
use Rattle.fx_c_lin.specs.declared.op.Right.TheVariants as right
use Rattle.fx_c_lin.specs.Ops.{Op, Step}
use Rattle.fx_c_lin.specs.Ops as op
use Rattle.fx_c_lin.specs.Machine.{steps_of}
use Rattle.fx_c_lower_model.specs.Direct.{holds_key}
use Rattle.fx_c_lower_model.specs.Code.{code_of}
use Rattle.fx_c_types_model.specs.Fits.{IsDeviceRegister}
use Rattle.fx_c_types_model.specs.Lowerable.{IsLowerable}

-- a variable of the function, of integer or pointer type
abbrev pub IsWhole : Function → ℕ → Type 0
IsWhole f n =
    (n < length f.variables)
    × (is_scalar (slice_index_or f.variables n no_variable).ty ≡ true)

-- a number that an instruction may have in it, or such a variable
abbrev pub RightInRange : Function → Right → Type 0
RightInRange f right.Pending = Unit {0}
RightInRange f (right.Number w) = holds_key w ≡ false
RightInRange f (right.Local n) = IsWhole f n

-- the size of an element, or of a struct that is copied, in bytes
abbrev pub IsSize : ℕ → Type 0
IsSize bytes = (1 ≤ bytes) × (bytes ≤ 67108864)

-- an op of a function of the program
abbrev pub OpInRange : Program → Function → Op → Type 0
OpInRange p f (op.LocalAddr n) = n < length f.variables
OpInRange p f (op.LoadLocal n) = IsWhole f n
OpInRange p f (op.StoreLocal n) = IsWhole f n
OpInRange p f (op.GlobalAddr n) = n < length p.globals
OpInRange p f (op.LiteralAddr n) = n < length p.literals
OpInRange p f (op.Load ty) = is_scalar ty ≡ true
OpInRange p f (op.Store ty) = is_scalar ty ≡ true
OpInRange p f (op.Copy bytes) = IsSize bytes
OpInRange p f (op.Binary o i right) = RightInRange f right
OpInRange p f (op.PtrCompare o right) = RightInRange f right
OpInRange p f (op.CompareJump o of right to) = RightInRange f right
OpInRange p f (op.Index bytes right) = IsSize bytes × RightInRange f right
OpInRange p f (op.IndexLeft bytes) = IsSize bytes
OpInRange p f (op.Back bytes) = IsSize bytes
OpInRange p f (op.Difference bytes) = IsSize bytes
OpInRange p f (op.Call g) = g < length p.functions
OpInRange p f (op.Gate g) = g < length p.functions
OpInRange p f (op.Spawn g) = g < length p.functions
OpInRange p f (op.DevLoad device register) = IsDeviceRegister device register
OpInRange p f (op.DevStore device register) = IsDeviceRegister device register
OpInRange p f o = Unit {0}

abbrev pub LoweredCodeIsInRange : Type 0
LoweredCodeIsInRange =
    (p : TProgram) (f k : ℕ) (x : Step) → IsLowerable p
    → slice_get (steps_of (code_of (program_of p)) f) k ≡ Some x
    → OpInRange (program_of p) (function_at (program_of p) f) x.op
