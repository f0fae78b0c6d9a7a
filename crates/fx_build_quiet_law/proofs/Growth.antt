-- An op leaves at most one operand more, and no more than it has pieces.
use Rattle.std.proofs.Common.{◌≡◌, ℕ, ◌+◌, ◌-◌, ◌==◌, ◌≤◌, Bool, true, false, List, []}
use Rattle.std.proofs.Common.{◌∷◌, ◌++◌, length, length-append, slice_get, slice_index, pos, refl}
use Rattle.std.proofs.Common.{arith}
use Rattle.std.specs.Prelude.{Option, Some, None, if◌then◌else◌}
use Rattle.fx_x64_forms.specs.declared.operand.Reg.{Reg}
use Rattle.fx_x64_forms.specs.declared.operand.Reg.TheVariants.{Rax}
use Rattle.fx_x64_forms.specs.declared.piece.Target.TheVariants.{Function}
use Rattle.fx_x64_forms.specs.declared.piece.Piece.{Piece}
use Rattle.fx_x64_forms.specs.declared.inst.Inst.TheVariants as inst
use Rattle.fx_c_lin.specs.Ops.{Op}
use Rattle.fx_c_lin.specs.Ops as op
use Rattle.fx_match_rel.specs.declared.addresses.Addresses.{Addresses}
use Rattle.fx_match_rel.specs.declared.context.GateSite.{GateSite}
use Rattle.fx_match_rel.specs.declared.frames.FrameTable.{FrameTable}
use Rattle.fx_templates_core.specs.Pieces.{plain, set, load, call, load_of, spill}
use Rattle.fx_templates_core.specs.Calls.{arguments}
use Rattle.fx_templates_core.specs.Memory.{device_place, thread_number}
use Rattle.fx_templates_core.specs.Constants.{has_key, built, constant}
use Rattle.fx_templates_core.specs.Functions.{params_at, called}
use Rattle.fx_templates.specs.Variables.{variable_at}
use Rattle.fx_templates.specs.Ops.{code_in}
use Rattle.fx_gates_call.specs.Gates.{between, gate, gate_in}
use Rattle.fx_build_parts.specs.declared.plan.Plan.{Plan}
use Rattle.fx_build_parts.specs.Pending.{right_count, behind}
use Rattle.fx_build_parts.specs.Functions.{site_of, gate_of, gate_or_op}

-- the code of an op, told the table of the function that it is in
abbrev pub coded : Plan → (c here label count : ℕ) → Op → Option ℕ → Option FrameTable → List Piece
coded plan c here label count o None t = code_in plan.at here label count o t
coded plan c here label count o (Some to) t = gate_in plan.at count (site_of plan c to) t

pub is_coded : (plan : Plan) (c f here label count : ℕ) (o : Op) (gate : Option ℕ)
    → gate_or_op plan c f here label count o gate
    ≡ coded plan c here label count o gate (slice_get plan.at.frames f)
is_coded plan c f here label count o None = refl
is_coded plan c f here label count o (Some to) = refl

-- a function that isn't there has none
pub none_coded : (plan : Plan) (c here label count : ℕ) (o : Op) (gate : Option ℕ)
    → coded plan c here label count o gate None ≡ []
none_coded plan c here label count o None = refl
none_coded plan c here label count o (Some to) = refl

-- ---- pieces that there are

behind_some : (ps qs : List Piece) → 1 ≤ length qs → 1 ≤ length (ps ++ qs)
behind_some ps qs some = omega (arith, some, length-append ps qs)

pushed_some : (locals count : ℕ) (ps : List Piece) → 1 ≤ length ps
    → 1 ≤ length (spill locals count ++ ps)
pushed_some locals count ps some = behind_some (spill locals count) ps some

constant_some : (dst : Reg) (n : ℕ) → 1 ≤ length (constant dst n)
constant_some dst n = by (has_key n)
  where
    by : (b : Bool) → 1 ≤ length (if b then built dst n else plain (inst.MovImm64 dst n) ∷ [])
    by true = omega arith
    by false = omega arith

called_some : (a : Addresses) (locals count f : ℕ) → 1 ≤ length (called a locals count f)
called_some a locals count f =
    behind_some (arguments locals (count - params_at a f) (params_at a f)) (call (Function f) ∷ [])
    (omega arith)

gate_some : (a : Addresses) (locals count : ℕ) (site : GateSite)
    → 1 ≤ length (gate a locals count site)
gate_some a locals count site = by (site.from == site.to)
  where
    by : (b : Bool)
        → 1 ≤ length
        (if b then called a locals count site.function else between a locals count site.function)
    by true = called_some a locals count site.function
    by false = omega arith

-- ---- what an op leaves

no_more : (left before n : ℕ) → left ≤ before → left ≤ before + n
no_more left before n less = omega (arith, less)

one_more : (left before n : ℕ) → left ≤ before + 1 → 1 ≤ n → left ≤ before + n
one_more left before n less some = omega (arith, less, some)

pub grown : (plan : Plan) (c here label count before : ℕ) (o : Op) (t : FrameTable)
    → behind plan.at before o
    ≤ before + length (coded plan c here label count o (gate_of o) (Some t))
grown plan c here label count before (op.Number w) t =
    one_more (before + 1) before _ (omega arith)
    (pushed_some t.locals count (constant Rax w) (constant_some Rax w))
grown plan c here label count before (op.LocalAddr n) t =
    one_more (before + 1) before _ (omega arith)
    (pushed_some t.locals count (plain (inst.Lea Rax (variable_at plan.at t.slots n).mem) ∷ [])
    (omega arith))
grown plan c here label count before (op.LoadLocal n) t =
    let v = variable_at plan.at t.slots n in
    one_more (before + 1) before _ (omega arith)
    (pushed_some t.locals count (plain (load_of v.width Rax v.mem) ∷ []) (omega arith))
grown plan c here label count before (op.GlobalAddr n) t =
    let address = slice_index plan.at.globals n in
    one_more (before + 1) before _ (omega arith)
    (pushed_some t.locals count (constant Rax address) (constant_some Rax address))
grown plan c here label count before (op.LiteralAddr n) t =
    let address = slice_index plan.at.literals n in
    one_more (before + 1) before _ (omega arith)
    (pushed_some t.locals count (constant Rax address) (constant_some Rax address))
grown plan c here label count before (op.Call f) t =
    one_more (before - params_at plan.at f + 1) before _ (omega arith)
    (called_some plan.at t.locals count f)
grown plan c here label count before (op.Gate f) t =
    one_more (before - params_at plan.at f + 1) before _ (omega arith)
    (gate_some plan.at t.locals count (site_of plan c f))
grown plan c here label count before op.Me t =
    one_more (before + 1) before _ (omega arith)
    (pushed_some t.locals count (thread_number Rax Rax) (omega arith))
grown plan c here label count before (op.DevLoad device register) t =
    one_more (before + 1) before _ (omega arith)
    (pushed_some t.locals count
    (set Rax (pos (device_place device register)) ∷ load Rax Rax (pos 0) ∷ []) (omega arith))
grown plan c here label count before op.Getc t =
    one_more (before + 1) before _ (omega arith)
    (pushed_some t.locals count (set Rax (pos (device_place 0 0)) ∷ load Rax Rax (pos 0) ∷ [])
    (omega arith))
grown plan c here label count before (op.StoreLocal n) t =
    no_more (before - 1) before _ (omega arith)
grown plan c here label count before (op.Load ty) t = no_more before before _ (omega arith)
grown plan c here label count before (op.Store ty) t = no_more (before - 2) before _ (omega arith)
grown plan c here label count before (op.Copy bytes) t = no_more (before - 2) before _ (omega arith)
grown plan c here label count before (op.Unary o i) t = no_more before before _ (omega arith)
grown plan c here label count before (op.Binary o i right) t =
    no_more (before - right_count right) before _ (omega arith)
grown plan c here label count before (op.PtrCompare o right) t =
    no_more (before - right_count right) before _ (omega arith)
grown plan c here label count before (op.CompareJump o of right to) t =
    no_more (before - 1 - right_count right) before _ (omega arith)
grown plan c here label count before (op.Convert from to) t = no_more before before _ (omega arith)
grown plan c here label count before (op.Index bytes right) t =
    no_more (before - right_count right) before _ (omega arith)
grown plan c here label count before (op.IndexLeft bytes) t =
    no_more (before - 1) before _ (omega arith)
grown plan c here label count before (op.Back bytes) t = no_more (before - 1) before _ (omega arith)
grown plan c here label count before (op.Difference bytes) t =
    no_more (before - 1) before _ (omega arith)
grown plan c here label count before (op.Offset bytes) t = no_more before before _ (omega arith)
grown plan c here label count before (op.Jump to) t = no_more before before _ (omega arith)
grown plan c here label count before (op.JumpZero to) t =
    no_more (before - 1) before _ (omega arith)
grown plan c here label count before (op.Spawn f) t = no_more before before _ (omega arith)
grown plan c here label count before op.Switch t = no_more before before _ (omega arith)
grown plan c here label count before (op.DevStore device register) t =
    no_more before before _ (omega arith)
grown plan c here label count before op.Putc t = no_more before before _ (omega arith)
grown plan c here label count before op.Drop t = no_more (before - 1) before _ (omega arith)
grown plan c here label count before op.Return t = no_more 0 before _ (omega arith)
