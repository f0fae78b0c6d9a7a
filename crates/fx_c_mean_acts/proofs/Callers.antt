-- Calls: who waits, what is taken of a stack, and the objects.
use Rattle.std.proofs.Common.{◌≡◌, ℕ, zero, suc, ◌+◌, ◌-◌, ◌^◌, ◌<◌, ◌≤◌, min, not, Bool, true, false, nat_lt, nat_le, List, [], ◌∷◌, ◌++◌, length, map, drop, Option, Some, None, refl, sym, ap, ◌∙◌, arith, zero-add}
use Rattle.std.proofs.lemmas.Bool.Decides.{nat_tests}
use Rattle.std.proofs.Common.{append_assoc, take, get_or}
use Rattle.std.proofs.lemmas.List.{drop_more, length-take, take-append-le}
use Rattle.fx_c_ast.specs.declared.checked.TLocal.{TLocal}
use Rattle.fx_c_ast.specs.CheckedTrees.{ty_tree}
use Rattle.fx_c_mean_blocks.specs.declared.block.Object.{Object}
use Rattle.std.specs.Prelude.{slice_get}
use Rattle.fx_c_mean_blocks.specs.declared.block.Place.TheVariants.{Local}
use Rattle.fx_c_mean_blocks.specs.declared.value.Value.{Value}
use Rattle.fx_c_mean_model.specs.declared.rights.Rights.{Rights}
use Rattle.fx_c_mean_model.specs.Programs.{Program, Variable, variable_of, call_objects}
use Rattle.fx_c_mean_model.specs.States.{Way, Plainly, ByGate, First, Call, Caller, unwind, Does, Stuck, after_loop, next_round}
use Rattle.fx_c_mean_model.specs.States as states
use Rattle.fx_c_mean_model.specs.Steps.{use_of, waiting_for, return_extra}
use Rattle.fx_c_mean_control.specs.declared.frames.Frame.{Frame}
use Rattle.fx_c_mean_control.specs.declared.frames.Frame.TheVariants as frame
use Rattle.fx_c_mean_control.specs.declared.frames.Call.{Call as RunCall}
use Rattle.fx_c_mean_control.specs.Views.{call_of, frame_of, frames_of}
use Rattle.fx_c_mean_acts.specs.Cores.{caller_of, caller_in, taken_of, waits_for, with_caller, local_object}

pub waits : (p : Program) (r : Rights) (way : Way) (f : ℕ) (call : Call) (rest : List states.Frame) → waiting_for p r way f call rest ≡ with_caller (waits_for p r way call.function f) call rest
waits p r Plainly f call rest = refl
waits p r ByGate f call rest = refl
waits p r First f call rest = refl

-- ---- frames one after the other

use_more : (p : Program) (r : Rights) (stack : ℕ) (f : Frame) (rest : List states.Frame) → use_of p r stack (frame_of f ∷ rest) ≡ taken_of p r stack (caller_of f) + use_of p r stack rest
use_more p r stack (frame.Caller call crosses) rest = refl
use_more p r stack _ rest = sym (zero-add (use_of p r stack rest))

frame_at : (fs : List Frame) (i : ℕ) → i < length fs → (f : Frame) × (slice_get fs i ≡ Some f) × (frames_of (drop i fs) ≡ frame_of f ∷ frames_of (drop (i + 1) fs))
frame_at [] i l = absurd (omega arith)
frame_at (f ∷ fs) zero l = (f, refl, refl)
frame_at (f ∷ fs) (suc i) l =
    let h = frame_at fs i (omega arith) in
    let n : suc (i + 1) ≡ suc i + 1 = omega arith in
    (h.0, h.1, h.2 ∙ ap (λ (n : ℕ). frame_of h.0 ∷ frames_of (drop n (f ∷ fs))) n)

pub use_next : (p : Program) (r : Rights) (stack : ℕ) (fs : List Frame) (i : ℕ) → i < length fs → use_of p r stack (frames_of (drop i fs)) ≡ taken_of p r stack (caller_in (slice_get fs i)) + use_of p r stack (frames_of (drop (i + 1) fs))
use_next p r stack fs i l =
    let h = frame_at fs i l in
    ap (use_of p r stack) h.2 ∙ use_more p r stack h.0 (frames_of (drop (i + 1) fs))
    ∙ ap (λ (o : Option Frame). taken_of p r stack (caller_in o) + use_of p r stack (frames_of (drop (i + 1) fs))) (sym h.1)

unwind_more : (f : Frame) (rest : List states.Frame) → caller_of f ≡ None → unwind (frame_of f ∷ rest) ≡ unwind rest
unwind_more (frame.Caller call crosses) rest e = cc
unwind_more _ rest e = refl

-- what a frame of a caller is, in the meaning
caller_frame : (f : Frame) (c : RunCall × Bool) → caller_of f ≡ Some c → frame_of f ≡ Caller (call_of c.0) c.1
caller_frame (frame.Caller call crosses) c e = let h : (call, crosses) ≡ c = cc in ap (λ (x : RunCall × Bool). Caller (call_of x.0) x.1) h
caller_frame _ c e = cc

pub unwind_next : (fs : List Frame) (i : ℕ) → i < length fs → caller_in (slice_get fs i) ≡ None → unwind (frames_of (drop i fs)) ≡ unwind (frames_of (drop (i + 1) fs))
unwind_next fs i l e =
    let h = frame_at fs i l in
    ap unwind h.2 ∙ unwind_more h.0 (frames_of (drop (i + 1) fs)) (sym (ap caller_in h.1) ∙ e)

-- the nearest caller, and the frames below it
pub caller_below : (fs : List Frame) (i : ℕ) (call : RunCall) (b : Bool) → i < length fs → unwind (frames_of (drop i fs)) ≡ unwind (frames_of fs) → caller_in (slice_get fs i) ≡ Some (call, b) → unwind (frames_of fs) ≡ Caller (call_of call) b ∷ frames_of (drop (i + 1) fs)
caller_below fs i call b l same e =
    let h = frame_at fs i l in
    let k = caller_frame h.0 (call, b) (sym (ap caller_in h.1) ∙ e) in
    sym same ∙ ap unwind (h.2 ∙ ap (λ (f : states.Frame). f ∷ frames_of (drop (i + 1) fs)) k)

extra_of : Bool → ℕ
extra_of true = 2
extra_of false = 0

crossed : (call : Call) (b : Bool) (rest : List states.Frame) → extra_of b ≡ return_extra (Caller call b ∷ rest)
unfolding extra_of
crossed call true rest = refl
crossed call false rest = refl

here : (fs : List Frame) (i : ℕ) (c : RunCall × Bool) → i < length fs → unwind (frames_of (drop i fs)) ≡ unwind (frames_of fs) → caller_in (slice_get fs i) ≡ Some c → extra_of c.1 ≡ return_extra (unwind (frames_of fs))
here fs i c l same e =
    let h = frame_at fs i l in
    let k = caller_frame h.0 c (sym (ap caller_in h.1) ∙ e) in
    crossed (call_of c.0) c.1 (frames_of (drop (i + 1) fs))
    ∙ ap return_extra (sym (ap unwind (h.2 ∙ ap (λ (f : states.Frame). f ∷ frames_of (drop (i + 1) fs)) k)))
    ∙ ap return_extra same

-- the nearest caller waits for a gate between compartments, or not
pub gate_here : (fs : List Frame) (i : ℕ) (call : RunCall) (b : Bool) → i < length fs → unwind (frames_of (drop i fs)) ≡ unwind (frames_of fs) → caller_in (slice_get fs i) ≡ Some (call, b) → b ≡ true → 2 ≡ return_extra (unwind (frames_of fs))
unfolding extra_of
gate_here fs i call b l same e is = sym (ap extra_of is) ∙ here fs i (call, b) l same e

pub call_here : (fs : List Frame) (i : ℕ) (call : RunCall) (b : Bool) → i < length fs → unwind (frames_of (drop i fs)) ≡ unwind (frames_of fs) → caller_in (slice_get fs i) ≡ Some (call, b) → b ≡ false → 0 ≡ return_extra (unwind (frames_of fs))
unfolding extra_of
call_here fs i call b l same e is = sym (ap extra_of is) ∙ here fs i (call, b) l same e

pub unwind_end : (fs : List Frame) (i : ℕ) → length fs ≤ i → unwind (frames_of (drop i fs)) ≡ []
unwind_end [] zero l = refl
unwind_end [] (suc i) l = refl
unwind_end (f ∷ fs) zero l = absurd (omega arith)
unwind_end (f ∷ fs) (suc i) l = unwind_end fs i (omega arith)

-- ---- room

-- a sum that stays at the greatest number, with one more
pub sum_next : (sum t u total : ℕ) → min (sum + (t + u)) (2 ^ 64 - 1) ≡ total → min (min (sum + t) (2 ^ 64 - 1) + u) (2 ^ 64 - 1) ≡ total
sum_next sum t u total e = omega arith

-- a sum that stays at the greatest number is no more than a small one exactly where the sum is
pub room : (used caller frame size : ℕ) → size < 2 ^ 32 → nat_le (min (min (min (min used (2 ^ 64 - 1) + caller) (2 ^ 64 - 1) + frame) (2 ^ 64 - 1) + 96) (2 ^ 64 - 1)) size ≡ not (nat_lt size (caller + used + frame + 96))
room used caller frame size small = grind (arith, nat_tests)

-- ---- objects

pub object_next : (p : Program) (f n : ℕ) (x : Variable) (xs : List Variable) (k : ℕ) (vs : List Value) → call_objects p f n (x ∷ xs) (drop k vs) ≡ local_object p (Local f n) x.ty (slice_get vs k) ∷ call_objects p f (n + 1) xs (drop (k + 1) vs)
object_next p f n x xs zero [] = refl
object_next p f n x xs zero (v ∷ vs) = refl
object_next p f n x xs (suc k) [] =
    let e : suc (suc k) ≡ suc k + 1 = omega arith in
    ap (λ (m : ℕ). local_object p (Local f n) x.ty None ∷ call_objects p f (n + 1) xs (drop m [])) e
object_next p f n x xs (suc k) (v ∷ vs) =
    let e : suc (k + 1) ≡ suc k + 1 = omega arith in
    object_next p f n x xs k vs ∙ ap (λ (m : ℕ). local_object p (Local f n) x.ty (slice_get vs k) ∷ call_objects p f (n + 1) xs (drop m (v ∷ vs))) e

-- ---- loops

-- without frames there is no loop
pub stuck_after : (fs : List Frame) → slice_get fs 0 ≡ None → Does Stuck (frames_of fs) ≡ after_loop (frames_of fs)
stuck_after [] e = refl
stuck_after (f ∷ fs) e = cc

pub stuck_next : (fs : List Frame) → slice_get fs 0 ≡ None → Does Stuck (frames_of fs) ≡ next_round (frames_of fs)
stuck_next [] e = refl
stuck_next (f ∷ fs) e = cc

-- past the last frame nothing is taken
pub use_end : (p : Program) (r : Rights) (stack : ℕ) (fs : List Frame) (i : ℕ) → length fs ≤ i → use_of p r stack (frames_of (drop i fs)) ≡ 0
use_end p r stack [] zero l = refl
use_end p r stack [] (suc i) l = refl
use_end p r stack (f ∷ fs) zero l = absurd (omega arith)
use_end p r stack (f ∷ fs) (suc i) l = use_end p r stack fs i (omega arith)

-- one object more of a call
pub objects_more : (p : Program) (f : ℕ) (before after total : List Object) (xs : List TLocal) (i j k : ℕ) (x : TLocal) (vs : List Value) (o : Option Value) → i ≡ j → j < length xs → x ≡ get_or xs j x → o ≡ slice_get vs i → after ≡ before ++ local_object p (Local f i) (ty_tree x.ty) o ∷ [] → k ≡ i + 1 → before ++ call_objects p f i (map variable_of (drop j xs)) (drop i vs) ≡ total → after ++ call_objects p f k (map variable_of (drop (j + 1) xs)) (drop k vs) ≡ total
objects_more p f before after total xs i j k x vs o same l is has made next h =
    let rest = map variable_of (drop (j + 1) xs) in
    let here : map variable_of (drop j xs) ≡ variable_of x ∷ rest = ap (map variable_of) (drop_more xs j x l) ∙ ap (λ (y : TLocal). variable_of y ∷ rest) (sym is) in
    ap (λ (n : ℕ). after ++ call_objects p f n rest (drop n vs)) next
    ∙ ap (λ (m : List Object). m ++ call_objects p f (i + 1) rest (drop (i + 1) vs)) (made ∙ ap (λ (q : Option Value). before ++ local_object p (Local f i) (ty_tree x.ty) q ∷ []) has)
    ∙ append_assoc before (local_object p (Local f i) (ty_tree x.ty) (slice_get vs i) ∷ []) (call_objects p f (i + 1) rest (drop (i + 1) vs))
    ∙ ap (λ (m : List Object). before ++ m) (sym (object_next p f i (variable_of x) rest i vs))
    ∙ ap (λ (ys : List Variable). before ++ call_objects p f i ys (drop i vs)) (sym here)
    ∙ h

-- the objects that were there still stand in front
pub front_more : (n : ℕ) (front before after more : List Object) → length front ≡ n → take n before ≡ front → after ≡ before ++ more → take n after ≡ front
front_more n front before after more many h e =
    let long : length (take n before) ≡ n = ap length h ∙ many in
    let le : n ≤ length before = omega (arith, length-take n before) in
    ap (take n) e ∙ take-append-le n before more le ∙ h
