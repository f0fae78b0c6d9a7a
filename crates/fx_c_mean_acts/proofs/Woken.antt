-- The threads of the meaning after those of the runner changed.
use Rattle.std.proofs.Common.{◌≡◌, ◌≢◌, ℕ, zero, suc, ◌<◌, ◌≤◌, List, [], ◌∷◌, ◌++◌, length, map, set, Bool, true, false, nat_lt, nat_eq, Option, Some, None, ◌⊎◌, inl, inr, refl, sym, ap, ◌∙◌}
use Rattle.std.proofs.lemmas.List.{map-set, map-append, length-map}
use Rattle.std.proofs.lemmas.Bool.{lt-ltb, ne_eqb}
use Rattle.std.proofs.lemmas.Option.{slice_get-map, slice_get_past}
use Rattle.std.specs.Prelude.{slice_get, option_map, if◌then◌else◌}
use Rattle.fx_c_mean_model.specs.Steps as steps
use Rattle.fx_c_mean_acts.specs.declared.state.Thread.{Thread}
use Rattle.fx_c_mean_acts.specs.declared.state.Thread.TheVariants as thread
use Rattle.fx_outcomes.specs.Runs.{Goes, Stops}
use Rattle.fx_c_mean_blocks.specs.declared.block.Object.{Object}
use Rattle.fx_c_mean_blocks.specs.declared.value.Value.{Value}
use Rattle.fx_c_mean_blocks.specs.declared.value.Value.TheVariants.{Number, Void}
use Rattle.fx_c_mean_model.specs.declared.end.End.TheVariants.{ThreadsFull, BadThread}
use Rattle.fx_c_mean_model.specs.States.{Call, Frame, Spot, give}
use Rattle.fx_c_mean_model.specs.Steps.{State, Outcome}
use Rattle.fx_c_mean_control.specs.declared.frames.Now.{Now}
use Rattle.fx_c_mean_control.specs.declared.frames.Frame.{Frame as RunFrame}
use Rattle.fx_c_mean_control.specs.declared.frames.Call.{Call as RunCall}
use Rattle.fx_c_mean_control.specs.Views.{call_of, frames_of, spot_of}
use Rattle.fx_c_mean_acts.specs.declared.state.Moved.{Moved}
use Rattle.fx_c_mean_acts.specs.declared.state.Moved.TheVariants as moved
use Rattle.fx_c_mean_acts.specs.Cores.{thread_of, Comes}

get_other : {A : Type 0} (xs : List A) (i j : ℕ) (x : A) → i ≢ j → slice_get (set xs j x) i ≡ slice_get xs i
get_other [] i j x d = refl
get_other (y ∷ ys) zero zero x d = absurd (d refl)
get_other (y ∷ ys) zero (suc j) x d = refl
get_other (y ∷ ys) (suc i) zero x d = refl
get_other (y ∷ ys) (suc i) (suc j) x d = get_other ys i j x (λ e. d (ap suc e))

-- the thread that is woken is the one that was there
pub woken : (ts : List Thread) (current t : ℕ) (left x : Thread) → t ≢ current → slice_get (set ts current left) t ≡ Some x → slice_get (map thread_of ts) t ≡ Some (thread_of x)
woken ts current t left x d e = slice_get-map thread_of ts t ∙ ap (option_map thread_of) (sym (get_other ts t current left d) ∙ e)

-- the threads after it was woken
pub kept : (ts : List Thread) (current t : ℕ) (left : Thread) → map thread_of (set (set ts current left) t thread.Running) ≡ set (set (map thread_of ts) current (thread_of left)) t steps.Running
kept ts current t left = map-set thread_of (set ts current left) t thread.Running ∙ ap (λ (l : List steps.Thread). set l t steps.Running) (map-set thread_of ts current left)

-- no thread stands past the last
pub nobody : (ts : List Thread) (t : ℕ) → length ts ≤ t → slice_get (map thread_of ts) t ≡ None
nobody ts t le = slice_get-map thread_of ts t ∙ ap (option_map thread_of) (slice_get_past ts t le)

-- what is done without want of memory leaves the same, wherever it began
pub comes_from : (o p : Outcome) (r : Moved) (mid before after : State) → o ≡ p → (r ≡ moved.OutOfMemory → ⊥) → Comes p r mid after → Comes o r before after
comes_from o p moved.Went mid before after e done h = e ∙ h
comes_from o p (moved.Stopped x) mid before after e done h = e ∙ h
comes_from o p moved.OutOfMemory mid before after e done h = absurd (done refl)

pub went_done : (r : Moved) → r ≡ moved.Went → r ≡ moved.OutOfMemory → ⊥
went_done r e h = cc

-- a thread more
pub spawned : (memory : List Object) (current : ℕ) (call : Call) (spot : Spot) (rest : List Frame) (f : ℕ) (v : Value) (ts new : List Thread) (t : Thread) (n : ℕ) → new ≡ ts ++ t ∷ [] → thread_of t ≡ steps.new_thread f v → n ≡ length ts → n < 16 → steps.spawn (record { memory = memory; threads = map thread_of ts; current = current; call = call; spot = spot }) rest f v ≡ steps.gives (record { memory = memory; threads = map thread_of new; current = current; call = call; spot = spot }) rest (Number n)
spawned memory current call spot rest f v ts new t n e is count few =
    let many : length (map thread_of ts) ≡ n = length-map ts thread_of ∙ sym count in
    let room : nat_lt (length (map thread_of ts)) 16 ≡ true = ap (λ (k : ℕ). nat_lt k 16) many ∙ lt-ltb n 16 few in
    let all : map thread_of new ≡ map thread_of ts ++ steps.new_thread f v ∷ [] = ap (map thread_of) e ∙ map-append thread_of ts (t ∷ []) ∙ ap (λ (x : steps.Thread). map thread_of ts ++ x ∷ []) is in
    ap (λ (b : Bool). if b then Goes [] (record { memory = memory; threads = map thread_of ts ++ steps.new_thread f v ∷ []; current = current; call = call; spot = give (Number (length (map thread_of ts))) rest }) else Stops [] ThreadsFull) room
    ∙ ap (λ (k : ℕ). Goes [] (record { memory = memory; threads = map thread_of ts ++ steps.new_thread f v ∷ []; current = current; call = call; spot = give (Number k) rest })) many
    ∙ ap (λ (l : List steps.Thread). Goes [] (record { memory = memory; threads = l; current = current; call = call; spot = give (Number n) rest })) (sym all)

-- a thread that waits goes on
pub woke : (memory : List Object) (current : ℕ) (call : Call) (spot : Spot) (ts put new : List Thread) (left x : Thread) (t at place : ℕ) (now : Now) (frames fs : List RunFrame) (to : RunCall) → t ≢ current → at ≡ current → place ≡ t → put ≡ set ts at left → slice_get put place ≡ Some x → x ≡ thread.Waiting now frames to → new ≡ set put place thread.Running → fs ≡ frames → steps.resume (record { memory = memory; threads = map thread_of ts; current = current; call = call; spot = spot }) (thread_of left) t (slice_get (map thread_of ts) t) ≡ Goes [] (record { memory = memory; threads = map thread_of new; current = t; call = call_of to; spot = spot_of now (frames_of fs) })
woke memory current call spot ts put new left x t at place now frames fs to d here there puts gets is news same =
    let e : put ≡ set ts current left = puts ∙ ap (λ (n : ℕ). set ts n left) here in
    let g : slice_get (set ts current left) t ≡ Some (thread.Waiting now frames to) = sym (ap (λ (l : List Thread). slice_get l t) e) ∙ ap (slice_get put) (sym there) ∙ gets ∙ ap (λ (y : Thread). Some y) is in
    let n : new ≡ set (set ts current left) t thread.Running = news ∙ ap (λ (m : ℕ). set put m thread.Running) there ∙ ap (λ (l : List Thread). set l t thread.Running) e in
    ap (steps.resume (record { memory = memory; threads = map thread_of ts; current = current; call = call; spot = spot }) (thread_of left) t) (woken ts current t left (thread.Waiting now frames to) d g)
    ∙ ap (λ (l : List steps.Thread). Goes [] (record { memory = memory; threads = l; current = t; call = call_of to; spot = spot_of now (frames_of frames) })) (sym (kept ts current t left))
    ∙ ap (λ (l : List Thread). Goes [] (record { memory = memory; threads = map thread_of l; current = t; call = call_of to; spot = spot_of now (frames_of frames) })) (sym n)
    ∙ ap (λ (l : List RunFrame). Goes [] (record { memory = memory; threads = map thread_of new; current = t; call = call_of to; spot = spot_of now (frames_of l) })) (sym same)

-- one that runs or has ended does not, nor does one that was not made
pub slept : (s : State) (ts put : List Thread) (left x : Thread) (t at place : ℕ) → s.threads ≡ map thread_of ts → t ≢ s.current → at ≡ s.current → place ≡ t → put ≡ set ts at left → slice_get put place ≡ Some x → (x ≡ thread.Running) ⊎ (x ≡ thread.Ended) → steps.resume s (thread_of left) t (slice_get s.threads t) ≡ Stops [] BadThread
slept s ts put left x t at place all d here there puts gets h =
    let e : put ≡ set ts s.current left = puts ∙ ap (λ (n : ℕ). set ts n left) here in
    let g : slice_get (set ts s.current left) t ≡ Some x = sym (ap (λ (l : List Thread). slice_get l t) e) ∙ ap (slice_get put) (sym there) ∙ gets in
    let found : slice_get s.threads t ≡ Some (thread_of x) = ap (λ (l : List steps.Thread). slice_get l t) all ∙ woken ts s.current t left x d g in
    ap (steps.resume s (thread_of left) t) found
    ∙ elim h [ inl r ↦ ap (λ (y : Thread). steps.resume s (thread_of left) t (Some (thread_of y))) r | inr r ↦ ap (λ (y : Thread). steps.resume s (thread_of left) t (Some (thread_of y))) r ]

-- where the one that is left stands does not matter
same_resume : (s : State) (x : Spot) (left : steps.Thread) (u : ℕ) (o : Option steps.Thread) → steps.resume s left u o ≡ steps.resume (record s { spot = x }) left u o
same_resume s x left u None = refl
same_resume s x left u (Some steps.Running) = refl
same_resume s x left u (Some (steps.Waiting spot call)) = refl
same_resume s x left u (Some steps.Ended) = refl

-- control passes to another thread
pub switched : (s : State) (x : Spot) (rest : List Frame) (v : Value) (t u : ℕ) (left : steps.Thread) → v ≡ Number t → t ≢ s.current → u ≡ t → left ≡ steps.Waiting (give Void rest) s.call → steps.switch s rest v ≡ steps.resume (record s { spot = x }) left u (slice_get s.threads u)
switched s x rest v t u left e ne same is =
    let no : nat_eq t s.current ≡ false = ne_eqb t s.current ne in
    ap (steps.switch s rest) e
    ∙ ap (λ (b : Bool). if b then steps.gives s rest Void else steps.resume s (steps.Waiting (give Void rest) s.call) t (slice_get s.threads t)) no
    ∙ ap (λ (n : ℕ). steps.resume s (steps.Waiting (give Void rest) s.call) n (slice_get s.threads n)) (sym same)
    ∙ ap (λ (l : steps.Thread). steps.resume s l u (slice_get s.threads u)) (sym is)
    ∙ same_resume s x left u (slice_get s.threads u)

pub nowhere : (s : State) (ts : List Thread) (left : steps.Thread) (t : ℕ) → s.threads ≡ map thread_of ts → length ts ≤ t → steps.resume s left t (slice_get s.threads t) ≡ Stops [] BadThread
nowhere s ts left t all le = ap (steps.resume s left t) (ap (λ (l : List steps.Thread). slice_get l t) all ∙ nobody ts t le)
