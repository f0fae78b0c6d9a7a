-- All calls of a state, and any two of them.
use Rattle.std.proofs.Common.{◌≡◌, ◌≢◌, ◌⊎◌, inl, inr, ℕ, zero, suc, ◌+◌, ◌-◌, ◌*◌, ◌<◌, ◌≤◌, Bool, true, false, nat_eq, List, [], ◌∷◌, ◌++◌, length, slice_get, Option, Some, None, if◌then◌else◌, refl, sym, ap, subst, ◌∙◌, arith}
use Rattle.std.specs.Prelude.{slice_index_or}
use Rattle.std.proofs.lemmas.Bool.{cases_lt, eq-eqb}
use Rattle.fx_config.specs.declared.configuration.Config.{Config}
use Rattle.fx_c_ast.specs.declared.checked.TProgram.{TProgram}
use Rattle.fx_c_mean_blocks.specs.declared.block.Object.{Object}
use Rattle.fx_c_mean_model.specs.declared.rights.Rights.{Rights}
use Rattle.fx_c_mean_model.specs.Programs.{Program, program_of, function_at, size_in}
use Rattle.fx_c_mean_model.specs.Rights.{stack_of, stack_size, no_variable}
use Rattle.fx_c_mean_model.specs.States.{Plainly, ByGate, First, Enter, Stuck, Call, Frame, Caller, Arguments, Spot, Does}
use Rattle.fx_c_mean_model.specs.Steps.{Thread, Running, Waiting, Ended, State, taken, use_of}
use Rattle.fx_c_mean_places.specs.Places.{Standing, standing, callers_in, calls_at, calls_of, calls_from, calls_in}
use Rattle.fx_c_mean_places_law.specs.Laws.{AreOf}
use Rattle.fx_c_mean_places_law.proofs.Silent.{callers}
use Rattle.fx_c_mean_places_law.proofs.Kept.{use_callers, IsNone, Stands, Fits, FitsAt, Kept}
use Rattle.fx_c_mean_places_law.proofs.Apart.{Room, Clear, by_thread, by_stack}

-- ---- lists

abbrev pub Each : {A : Type 0} → (A → Type 0) → List A → Type 0
Each Q [] = Unit {0}
Each Q (x ∷ xs) = Q x × Each Q xs

pub each_of_both : {A : Type 0} (Q : A → Type 0) (xs ys : List A) → Each Q xs → Each Q ys → Each Q (xs ++ ys)
each_of_both Q [] ys h k = k
each_of_both Q (x ∷ xs) ys h k = (h.0, each_of_both Q xs ys h.1 k)

pub each_at : {A : Type 0} (Q : A → Type 0) (xs : List A) (i : ℕ) (x : A) → Each Q xs → slice_get xs i ≡ Some x → Q x
each_at Q [] i x h e = cc
each_at Q (y ∷ ys) zero x h e = let same : y ≡ x = cc in subst Q same h.0
each_at Q (y ∷ ys) (suc i) x h e = each_at Q ys i x h.1 e

pub each_more : {A : Type 0} (Q R : A → Type 0) (xs : List A) → ((x : A) → Q x → R x) → Each Q xs → Each R xs
each_more Q R [] f h = tt
each_more Q R (x ∷ xs) f h = (f x h.0, each_more Q R xs f h.1)

each_both : {A : Type 0} (Q R : A → Type 0) (xs : List A) → Each Q xs → Each R xs → Each (λ x. Q x × R x) xs
each_both Q R [] h k = tt
each_both Q R (x ∷ xs) h k = ((h.0, k.0), each_both Q R xs h.1 k.1)

-- a relation between each element and each one behind it
abbrev pub InOrder : {A : Type 0} → (A → A → Type 0) → List A → Type 0
InOrder R [] = Unit {0}
InOrder R (x ∷ xs) = Each (R x) xs × InOrder R xs

pub ordered_at : {A : Type 0} (R : A → A → Type 0) (xs : List A) (i j : ℕ) (x y : A) → InOrder R xs → i < j → slice_get xs i ≡ Some x → slice_get xs j ≡ Some y → R x y
ordered_at R [] i j x y h less e f = cc
ordered_at R (z ∷ zs) zero zero x y h less e f = absurd (omega arith)
ordered_at R (z ∷ zs) zero (suc j) x y h less e f = let same : z ≡ x = cc in subst (λ w. R w y) same (each_at (R z) zs j y h.0 f)
ordered_at R (z ∷ zs) (suc i) zero x y h less e f = absurd (omega arith)
ordered_at R (z ∷ zs) (suc i) (suc j) x y h less e f = ordered_at R zs i j x y h.1 (omega arith) e f

ordered_both : {A : Type 0} (R : A → A → Type 0) (xs ys : List A) → InOrder R xs → InOrder R ys → Each (λ x. Each (R x) ys) xs → InOrder R (xs ++ ys)
ordered_both R [] ys h k c = k
ordered_both R (x ∷ xs) ys h k c = (each_of_both (R x) xs ys h.0 c.0, ordered_both R xs ys h.1 k c.1)

-- ---- threads of calls

module _ (p : Program) (r : Rights) where
  abbrev In : ℕ → Standing → Type 0
  In t x = x.thread ≡ t

  callers_are_in : (t : ℕ) (rest : List Frame) → Each (In t) (callers_in p r t rest)
  callers_are_in t [] = tt
  callers_are_in t (Caller call crosses ∷ rest) = (refl, callers_are_in t rest)
  callers_are_in t (_ ∷ rest) = callers_are_in t rest

  spot_is_in : (t : ℕ) (call : Call) (spot : Spot) → Each (In t) (calls_at p r t call spot)
  spot_is_in t call (Does (Enter f First values) rest) = callers_are_in t rest
  spot_is_in t call (Does (Enter f Plainly values) rest) = (refl, callers_are_in t rest)
  spot_is_in t call (Does (Enter f ByGate values) rest) = (refl, callers_are_in t rest)
  spot_is_in t call (Does Stuck rest) = tt
  spot_is_in t call (Does act rest) = (refl, callers_are_in t rest)

  thread_is_in : (n : ℕ) (t : Thread) → Each (In n) (calls_of p r n t)
  thread_is_in n (Waiting spot call) = spot_is_in n call spot
  thread_is_in n Running = tt
  thread_is_in n Ended = tt

  threads_from : (n : ℕ) (ts : List Thread) → Each (λ x. n ≤ x.thread) (calls_from p r n ts)
  threads_from n [] = tt
  threads_from n (t ∷ ts) =
      each_of_both (λ x. n ≤ x.thread) (calls_of p r n t) (calls_from p r (n + 1) ts)
      (each_more (In n) (λ x. n ≤ x.thread) (calls_of p r n t) (λ x e. omega arith) (thread_is_in n t))
      (each_more (λ x. n + 1 ≤ x.thread) (λ x. n ≤ x.thread) (calls_from p r (n + 1) ts) (λ x le. omega arith) (threads_from (n + 1) ts))

  -- a thread that runs waits with no call
  none_of : (n j : ℕ) (ts : List Thread) → slice_get ts j ≡ Some Running → Each (λ x. x.thread ≢ n + j) (calls_from p r n ts)
  none_of n j [] e = cc
  none_of n zero (Running ∷ ts) e = each_more (λ x. n + 1 ≤ x.thread) (λ x. x.thread ≢ n + zero) (calls_from p r (n + 1) ts) (λ x le same. absurd (omega arith)) (threads_from (n + 1) ts)
  none_of n zero (Waiting spot call ∷ ts) e = cc
  none_of n zero (Ended ∷ ts) e = cc
  none_of n (suc j) (t ∷ ts) e =
      each_of_both (λ x. x.thread ≢ n + suc j) (calls_of p r n t) (calls_from p r (n + 1) ts)
      (each_more (In n) (λ x. x.thread ≢ n + suc j) (calls_of p r n t) (λ x is same. absurd (omega arith)) (thread_is_in n t))
      (each_more (λ x. x.thread ≢ n + 1 + j) (λ x. x.thread ≢ n + suc j) (calls_from p r (n + 1) ts) (λ x other same. other (omega arith)) (none_of (n + 1) j ts e))

  -- ---- room and objects

  -- a call's frame fits, and its objects are there
  abbrev pub Good : List Object → Standing → Type 0
  Good m x =
      (x.in_use + (function_at p x.call.function).frame + 96 ≤ stack_size r)
      × ((i : ℕ) → i < length (function_at p x.call.function).variables → (o : Object) × (slice_get m (x.call.base + i) ≡ Some o) × (o.size ≡ size_in p (slice_index_or (function_at p x.call.function).variables i no_variable).ty))

  good_one : (m : List Object) (t : ℕ) (call : Call) (rest : List Frame) → Stands p r m call (callers rest) → Good m (standing p r t call rest)
  good_one m t call rest h = (omega (arith, use_callers p r (stack_of p r call.function) rest, h.0), h.1)

  good_callers : (m : List Object) (t : ℕ) (rest : List Frame) → Fits p r m (callers rest) → Each (Good m) (callers_in p r t rest)
  good_callers m t [] h = tt
  good_callers m t (Caller call crosses ∷ rest) h = (good_one m t call rest h.0, good_callers m t rest h.1)
  good_callers m t (Arguments f First before more ∷ rest) h = absurd h
  good_callers m t (Arguments f Plainly before more ∷ rest) h = good_callers m t rest h
  good_callers m t (Arguments f ByGate before more ∷ rest) h = good_callers m t rest h
  good_callers m t (_ ∷ rest) h = good_callers m t rest h

  good_at : (m : List Object) (t : ℕ) (call : Call) (spot : Spot) → FitsAt p r m call spot → Each (Good m) (calls_at p r t call spot)
  good_at m t call (Does (Enter f First values) rest) h = subst (λ x. Each (Good m) (callers_in p r t x)) (sym h) tt
  good_at m t call (Does (Enter f Plainly values) rest) h = (good_one m t call rest h.0, good_callers m t rest h.1)
  good_at m t call (Does (Enter f ByGate values) rest) h = (good_one m t call rest h.0, good_callers m t rest h.1)
  good_at m t call (Does Stuck rest) h = tt
  good_at m t call (Does act rest) h = (good_one m t call rest h.0, good_callers m t rest h.1)

  good_from : (m : List Object) (n : ℕ) (ts : List Thread) → ((t : ℕ) (spot : Spot) (call : Call) → slice_get ts t ≡ Some (Waiting spot call) → FitsAt p r m call spot) → Each (Good m) (calls_from p r n ts)
  good_from m n [] h = tt
  good_from m n (Waiting spot call ∷ ts) h =
      each_of_both (Good m) (calls_at p r n call spot) (calls_from p r (n + 1) ts) (good_at m n call spot (h zero spot call refl)) (good_from m (n + 1) ts (λ t at c e. h (suc t) at c e))
  good_from m n (Running ∷ ts) h = good_from m (n + 1) ts (λ t at c e. h (suc t) at c e)
  good_from m n (Ended ∷ ts) h = good_from m (n + 1) ts (λ t at c e. h (suc t) at c e)

  pub good_in : (s : State) → Kept p r s → Each (Good s.memory) (calls_in p r s)
  good_in s v = each_of_both (Good s.memory) (calls_at p r s.current s.call s.spot) (calls_from p r 0 s.threads) (good_at s.memory s.current s.call s.spot v.here) (good_from s.memory 0 s.threads v.there)

  -- ---- callers below a call

  -- on one stack a caller's frame lies below what the callers take
  abbrev Below : ℕ → ℕ → Standing → Type 0
  Below k n y = stack_of p r y.call.function ≡ k → y.in_use + (function_at p y.call.function).frame ≤ n

  takes : (k : ℕ) (call : Call) (crosses : Bool) → stack_of p r call.function ≡ k → (function_at p call.function).frame ≤ taken p r k call crosses
  takes k call crosses e = subst (λ b. (function_at p call.function).frame ≤ (if b then (function_at p call.function).frame + (if crosses then 16 else 0) else 0)) (sym (eq-eqb (stack_of p r call.function) k e)) (omega arith)

  below_all : (k t : ℕ) (rest : List Frame) → Each (Below k (use_of p r k rest)) (callers_in p r t rest)
  below_all k t [] = tt
  below_all k t (Caller call crosses ∷ rest) = (
    (λ e. let used : use_of p r (stack_of p r call.function) rest ≡ use_of p r k rest = ap (λ n. use_of p r n rest) e in omega (arith, takes k call crosses e)),
    each_more (Below k (use_of p r k rest)) (Below k (taken p r k call crosses + use_of p r k rest)) (callers_in p r t rest) (λ y h e. omega (arith, h e)) (below_all k t rest),
  )
  below_all k t (_ ∷ rest) = below_all k t rest

module _ (p : TProgram) (k : Config) (r : Rights) (own : AreOf (program_of p) k r) where
  abbrev P : Program
  P = program_of p

  pub roomy : (m : List Object) (x : Standing) → Good P r m x → Room p k r own x
  roomy m x h = let e = ap (λ n. 4096 * n) own.pages in omega (arith, h.0)

  abbrev Apart : Standing → Standing → Type 0
  Apart x y = Clear p k r own x y

  -- one above the callers that wait for it
  above : (m : List Object) (t : ℕ) (call : Call) (rest : List Frame) → Good P r m (standing P r t call rest) → Each (Good P r m) (callers_in P r t rest) → Each (Apart (standing P r t call rest)) (callers_in P r t rest)
  above m t call rest good all =
      let x = standing P r t call rest in
      each_more (λ y. (Good P r m y × In P r t y) × Below P r (stack_of P r call.function) x.in_use y) (Apart x) (callers_in P r t rest)
      (λ y h. by_stack p k r own x y (roomy m x good) (roomy m y h.0.0) (sym h.0.1) h.1)
      (each_both (λ y. Good P r m y × In P r t y) (Below P r (stack_of P r call.function) x.in_use) (callers_in P r t rest)
      (each_both (Good P r m) (In P r t) (callers_in P r t rest) all (callers_are_in P r t rest)) (below_all P r (stack_of P r call.function) t rest))

  ordered_callers : (m : List Object) (t : ℕ) (rest : List Frame) → Each (Good P r m) (callers_in P r t rest) → InOrder Apart (callers_in P r t rest)
  ordered_callers m t [] all = tt
  ordered_callers m t (Caller call crosses ∷ rest) all = (above m t call rest all.0 all.1, ordered_callers m t rest all.1)
  ordered_callers m t (_ ∷ rest) all = ordered_callers m t rest all

  ordered_spot : (m : List Object) (t : ℕ) (call : Call) (spot : Spot) → Each (Good P r m) (calls_at P r t call spot) → InOrder Apart (calls_at P r t call spot)
  ordered_spot m t call (Does (Enter f First values) rest) all = ordered_callers m t rest all
  ordered_spot m t call (Does (Enter f Plainly values) rest) all = (above m t call rest all.0 all.1, ordered_callers m t rest all.1)
  ordered_spot m t call (Does (Enter f ByGate values) rest) all = (above m t call rest all.0 all.1, ordered_callers m t rest all.1)
  ordered_spot m t call (Does Stuck rest) all = tt
  ordered_spot m t call (Does act rest) all = (above m t call rest all.0 all.1, ordered_callers m t rest all.1)

  -- calls of threads that differ
  crossed : (m : List Object) (t : ℕ) (xs ys : List Standing) → Each (Good P r m) xs → Each (In P r t) xs → Each (Good P r m) ys → Each (λ y. y.thread ≢ t) ys → Each (λ x. Each (Apart x) ys) xs
  crossed m t xs ys gx ix gy iy =
      each_more (λ x. Good P r m x × In P r t x) (λ x. Each (Apart x) ys) xs
      (λ x h. each_more (λ y. Good P r m y × (y.thread ≢ t)) (Apart x) ys (λ y j. by_thread p k r own x y (roomy m x h.0) (roomy m y j.0) (λ e. j.1 (sym e ∙ h.1))) (each_both (Good P r m) (λ y. y.thread ≢ t) ys gy iy))
      (each_both (Good P r m) (In P r t) xs gx ix)

  ordered_threads : (m : List Object) (n : ℕ) (ts : List Thread) → ((t : ℕ) (spot : Spot) (call : Call) → slice_get ts t ≡ Some (Waiting spot call) → FitsAt P r m call spot) → InOrder Apart (calls_from P r n ts)
  ordered_threads m n [] h = tt
  ordered_threads m n (Waiting spot call ∷ ts) h =
      let xs = calls_at P r n call spot in
      let ys = calls_from P r (n + 1) ts in
      let gx = good_at P r m n call spot (h zero spot call refl) in
      let gy = good_from P r m (n + 1) ts (λ t at c e. h (suc t) at c e) in
      ordered_both Apart xs ys (ordered_spot m n call spot gx) (ordered_threads m (n + 1) ts (λ t at c e. h (suc t) at c e))
      (crossed m n xs ys gx (spot_is_in P r n call spot) gy (each_more (λ y. n + 1 ≤ y.thread) (λ y. y.thread ≢ n) ys (λ y le same. absurd (omega arith)) (threads_from P r (n + 1) ts)))
  ordered_threads m n (Running ∷ ts) h = ordered_threads m (n + 1) ts (λ t at c e. h (suc t) at c e)
  ordered_threads m n (Ended ∷ ts) h = ordered_threads m (n + 1) ts (λ t at c e. h (suc t) at c e)

  pub ordered_in : (s : State) → Kept P r s → InOrder Apart (calls_in P r s)
  ordered_in s v =
      let m = s.memory in
      let xs = calls_at P r s.current s.call s.spot in
      let ys = calls_from P r 0 s.threads in
      let gx = good_at P r m s.current s.call s.spot v.here in
      let gy = good_from P r m 0 s.threads v.there in
      let e : 0 + s.current ≡ s.current = omega arith in
      ordered_both Apart xs ys (ordered_spot m s.current s.call s.spot gx) (ordered_threads m 0 s.threads v.there)
      (crossed m s.current xs ys gx (spot_is_in P r s.current s.call s.spot) gy (subst (λ n. Each (λ y. y.thread ≢ n) ys) e (none_of P r 0 s.current s.threads v.running)))
