-- Where statements begin and where they lead to.
use Rattle.std.proofs.Common.{◌≡◌, Bool, true, false, ℕ, zero, suc, ◌+◌, ◌-◌, ◌<◌, ◌≤◌, ◌⊎◌, inl, inr, List, [], ◌∷◌, ◌++◌, length, Option, Some, None, refl, sym, ap, ◌∙◌, subst, arith}
use Rattle.std.specs.Prelude.{slice_get}
use Rattle.fx_c_ast.specs.CheckedTrees.{TyTree, IntTy, PtrTy, TExprTree, ELocal, TStmtTree, SEmpty, SBlock, SLocal, SEval, SAssign, SIf, SWhile, SFor, SBreak, SContinue, SReturn, TStmtTrees, NoTStmts, MoreTStmts, MaybeTStmt, NoTStmt, OneTStmt}
use Rattle.fx_c_mean_blocks.specs.declared.value.Value.{Value}
use Rattle.fx_c_mean_blocks.specs.declared.value.Value.TheVariants.{Number}
use Rattle.fx_c_mean_blocks.specs.declared.block.Object.{Object}
use Rattle.fx_c_mean_model.specs.Programs.{Program, function_at}
use Rattle.fx_c_mean_model.specs.States.{Loop, While, For, Call, Frame, Target, Discards, Forks, Tests, Answers, Then, Enters, Body, Third, Caller, JumpBack, FallOff, Stuck, Spot, Does, type_of, is_scalar, loop_body, start, reach, begin, begin_maybe, begin_all, begin_loop, begin_body, after_body, follow, after_loop, next_round}
use Rattle.fx_c_lin.specs.Ops as op
use Rattle.fx_c_lin.specs.Machine as lin
use Rattle.fx_c_lin.specs.Machine.{At, settle, settle_on, freed}
use Rattle.fx_c_lower_model.specs.Steps.{costing, free, chosen, fall_code}
use Rattle.fx_c_lower_model.specs.Direct.{whole_local}
use Rattle.fx_c_lower_model.specs.Late.{value_late}
use Rattle.fx_c_lower_model.specs.Lengths.{reach_len, value_len, condition_len, assign_len, else_len, stmt_len, maybe_len, stmts_len}
use Rattle.fx_c_lower_model.specs.Code.{exit_by, else_at, else_jump, reach_code, value_code, condition_code, assign_code, stmt_code, maybe_code, stmts_code}
use Rattle.fx_c_lower_law.specs.Fits.{Fits, FitsLocal, FitsStmt, FitsOther, FitsStmts}
use Rattle.fx_c_lower_law.proofs.Places.{HasAt, has_front, has_rest}
use Rattle.fx_c_lower_law.proofs.Lengths.{reach_length, condition_length, stmt_length, maybe_length, stmts_length, length_else}
use Rattle.fx_c_lower_law.proofs.Relation.{fall_stack}
use Rattle.fx_c_lower_law.proofs.Relation as relation
use Rattle.fx_c_lower_law.proofs.Reach as reaching
use Rattle.fx_c_lower_law.proofs.Costs.{Costs, costly, settle_here}
use Rattle.fx_c_lower_law.proofs.Costs as costs

-- an op of cost 0 is done
pub settle_free : (code : List op.Step) (n at : ℕ) (stack : List Value) (o : op.Op) (to : ℕ) (after : List Value) → 1 ≤ n → slice_get code at ≡ Some (free o) → freed (Some (free o)) at stack ≡ Some (to, after) → settle code n at stack ≡ settle code (n - 1) to after
settle_free code zero at stack o to after le h e = absurd (omega (arith, le))
settle_free code (suc n) at stack o to after le h e =
    let m : suc n - 1 ≡ n = omega arith in
    rw (h, e, m)

no_code : (code : List op.Step) (at : ℕ) (xs : List op.Step) → length xs ≡ 0 → HasAt code at xs
no_code code at [] e = tt
no_code code at (x ∷ xs) e = absurd (omega (arith, e))

module _ (p : Program) (all : List (List op.Step)) (memory : List Object) (c : Call) where
  abbrev pub g : TyTree
  g = (function_at p c.function).gives

  abbrev pub f : ℕ
  f = c.function

  abbrev pub K : List op.Step
  K = relation.K p all c

  abbrev pub Follows : List Frame → ℕ → Type 0
  Follows rest at = relation.Follows p all c rest at

  abbrev pub Jumps : List Frame → ℕ → ℕ → Type 0
  Jumps rest leave again = relation.Jumps p all c rest leave again

  abbrev pub Reaches : ℕ → ℕ → Type 0
  Reaches at exit = relation.Reaches p all c at exit

  abbrev pub SpotAt : Spot → lin.Spot → Type 0
  SpotAt spot there = relation.SpotAt p all memory c 0 spot there

  -- from a place the source's spot is reached by ops of cost 0, of which so many are enough
  pub record Lands (spot : Spot) (at least : ℕ) : Type 0 where
    pub by : (n : ℕ) → least ≤ n → SpotAt spot (settle K n at [])

  more_free : (spot : Spot) (at m n : ℕ) → m ≤ n → Lands spot at m → Lands spot at n
  more_free spot at m n le h = record { by = λ i lt. h.by i (omega (arith, le, lt)) }

  -- an op that costs something stands there
  here : (spot : Spot) (at least : ℕ) → Costs K at 1 → SpotAt spot (At at []) → Lands spot at least
  here spot at least k h = record { by = λ n le. rw (settle_here K n at [] k) h }

  pub by_jump : (spot : Spot) (at exit least : ℕ) → Reaches at exit → Lands spot exit least → Lands spot at (least + 1)
  by_jump spot at exit least (inl e) h = record { by = λ n le. subst (λ i. SpotAt spot (settle K n i [])) (sym e) (h.by n (omega (arith, le))) }
  by_jump spot at exit least (inr j) h = record { by = λ n le. rw (settle_free K n at [] (op.Jump exit) exit [] (omega (arith, le)) j.0 refl) (h.by (n - 1) (omega (arith, le))) }

  falls : (rest : List Frame) (at : ℕ) (t : TyTree) → t ≡ g → HasAt K at (fall_code t) → Lands (Does FallOff rest) at 1
  falls rest at (IntTy i) e h =
      let n0 : Costs K (at + 1) 1 = record { step = _; here = h.1.0; least = omega arith } in
      record { by = λ n le. rw (settle_free K n at [] (op.Number 0) (at + 1) (Number 0 ∷ []) le h.0 refl, settle_here K (n - 1) (at + 1) (Number 0 ∷ []) n0) (refl, ap fall_stack e, h.1) }
  falls rest at (PtrTy t) e h =
      let n0 : Costs K (at + 1) 1 = record { step = _; here = h.1.0; least = omega arith } in
      record { by = λ n le. rw (settle_free K n at [] (op.Number 0) (at + 1) (Number 0 ∷ []) le h.0 refl, settle_here K (n - 1) (at + 1) (Number 0 ∷ []) n0) (refl, ap fall_stack e, h.1) }
  falls rest at t e h =
      let n0 : Costs K at 1 = record { step = _; here = h.0; least = omega arith } in
      here (Does FallOff rest) at 1 n0 (refl, ap fall_stack e, h)

  -- ---- statements

  abbrev pub BeginsAt : TStmtTree → Type 0
  BeginsAt s = FitsStmt p f s → (rest : List Frame) (at exit leave again d : ℕ) → 1 ≤ d → HasAt K at (stmt_code p g at exit leave again s) → Reaches (at + stmt_len p g s) exit → Follows rest exit → Jumps rest leave again → (stmt_len p g s ≡ 0 → Lands (follow rest) at d) → Lands (begin s rest (follow rest)) at d

  abbrev pub MaybeBeginsAt : MaybeTStmt → Type 0
  MaybeBeginsAt s = FitsOther p f s → (rest : List Frame) (at exit leave again d : ℕ) → 1 ≤ d → HasAt K at (maybe_code p g at exit leave again s) → Reaches (at + maybe_len p g s) exit → Follows rest exit → Jumps rest leave again → (maybe_len p g s ≡ 0 → Lands (follow rest) at d) → Lands (begin_maybe s rest (follow rest)) at d

  abbrev pub LoopAt : List Frame → Loop → ℕ → Type 0
  LoopAt rest loop at = relation.LoopAt p all c (Follows rest) (Jumps rest) loop at

  abbrev pub AfterAt : List Frame → Loop → ℕ → Type 0
  AfterAt rest loop at = relation.AfterAt p all c (Follows rest) (Jumps rest) loop at

  abbrev pub BackAt : List Frame → Loop → ℕ → Type 0
  BackAt rest loop at = relation.BackAt p all c (Follows rest) (Jumps rest) loop at

  pub moved : (spot : Spot) (m n d : ℕ) → m ≡ n → Lands spot m d → Lands spot n d
  moved spot m n d e h = subst (λ i. Lands spot i d) e h

  reaches : (m n exit : ℕ) → m ≡ n → Reaches m exit → Reaches n exit
  reaches m n exit e h = subst (λ i. Reaches i exit) e h

  -- an expression with what is to be done with its value
  starts : (e : TExprTree) (ys : List op.Step) → Fits p f e → (rest : List Frame) (at d : ℕ) → HasAt K at (value_code p at 0 e ++ ys) → (HasAt K (at + value_len p e) ys → relation.Awaits p all c (value_late p e) rest (at + value_len p e) []) → Lands (start e rest) at d
  starts e ys fits rest at d has go =
      here (start e rest) at d (costs.start_owes p e K at at 0 ys has) (reaching.start_at p all memory c e ys fits at 0 rest [] has go)

  -- a condition with what its truths lead to
  tests : (e : TExprTree) (ys : List op.Step) → Fits p f e → (rest : List Frame) (at to d : ℕ) → HasAt K at (condition_code p at to e ++ ys) → relation.Turns p all c rest 1 false to [] → relation.Turns p all c rest 1 true (at + condition_len p e) [] → Lands (start e rest) at d
  tests e ys fits rest at to d has t u =
      here (start e rest) at d (costs.condition_owes p e K at at 0 1 false to ys has)
      (reaching.test_at p all memory c e fits at 0 1 false to rest [] (has_front K at (condition_code p at to e) ys has) t u)

  backs : (rest : List Frame) (loop : Loop) (at d : ℕ) → BackAt rest loop at → Lands (Does (JumpBack loop) rest) at d
  backs rest loop at d h =
      let n0 : Costs K at 1 = record { step = _; here = h.1.0; least = omega arith } in
      here (Does (JumpBack loop) rest) at d n0 (refl, refl, h)

  -- the third part of a `for`
  abbrev pub NextBegins : Loop → Type 0
  NextBegins (While test s) = Unit {0}
  NextBegins (For test next s) = MaybeBeginsAt next

  -- behind a loop's body
  pub afters : (loop : Loop) (rest : List Frame) (at d : ℕ) → NextBegins loop → 1 ≤ d → AfterAt rest loop at → Lands (after_body loop rest) at d
  afters (While test s) rest at d next le h = backs rest (While test s) at d h
  afters (For test next s) rest at d by le h =
      by h.3 (Third (For test next s) ∷ rest) at (at + maybe_len p g next) h.0 h.1 d le h.4 (inl refl) h.5 h.2
      (λ e. moved (Does (JumpBack (For test next s)) rest) (at + maybe_len p g next) at d (omega (arith, e)) (backs rest (For test next s) _ d h.5))

  -- a `for` behind its test
  abbrev for_code : (i at exit leave again : ℕ) → MaybeTStmt → TStmtTree → List op.Step
  for_code i at exit leave again next s =
      stmt_code p g i (i + stmt_len p g s) exit (i + stmt_len p g s) s
      ++ (maybe_code p g (i + stmt_len p g s) (i + stmt_len p g s + maybe_len p g next) leave again next ++ costing 1 (op.Jump at) ∷ [])

  for_after : (test : Option TExprTree) (next : MaybeTStmt) (s : TStmtTree) (rest : List Frame) (at i : ℕ) → (h : LoopAt rest (For test next s) at) → HasAt K i (for_code i at h.0 h.1 h.2 next s) → AfterAt rest (For test next s) (i + stmt_len p g s)
  for_after test next s rest at i h inside =
      let j = i + stmt_len p g s in
      let third = has_rest K i j (stmt_code p g i j h.0 j s) _ (ap (λ n. i + n) (stmt_length p g i j h.0 j s)) inside in
      let jump = has_rest K j (j + maybe_len p g next) (maybe_code p g j (j + maybe_len p g next) h.1 h.2 next) _ (ap (λ n. j + n) (maybe_length p g j _ h.1 h.2 next)) third in
      (h.1, h.2, h.6, h.3.1, has_front K j (maybe_code p g j (j + maybe_len p g next) h.1 h.2 next) _ third, (at, jump, h))

  pub loops : (loop : Loop) (rest : List Frame) (at d : ℕ) → BeginsAt (loop_body loop) → NextBegins loop → 1 ≤ d → LoopAt rest loop at → Lands (begin_loop loop rest) at d
  loops (While test s) rest at d body next le h =
      let i = at + condition_len p test in
      let inside = has_rest K at i (condition_code p at h.0 test) _ (ap (λ n. at + n) (condition_length p at h.0 test)) h.4 in
      let jump = has_rest K i (i + stmt_len p g s) (stmt_code p g i (i + stmt_len p g s) h.0 at s) _ (ap (λ n. i + n) (stmt_length p g i _ h.0 at s)) inside in
      let front = has_front K i (stmt_code p g i (i + stmt_len p g s) h.0 at s) _ inside in
      tests test _ h.3.0 (Tests (While test s) ∷ rest) at h.0 d h.4
      (refl, refl, (i, h.0, h.0, at, h.3.1, front, (at, jump, h), (h.5, h), h.5, refl))
      (refl, refl, (i, h.0, h.0, at, h.3.1, front, (at, jump, h), (h.5, h), h.5, refl))
  loops (For (Some test) next s) rest at d body by le h =
      let i = at + condition_len p test in
      let inside : HasAt K i (for_code i at h.0 h.1 h.2 next s) = has_rest K at i (condition_code p at h.0 test) _ (ap (λ n. at + n) (condition_length p at h.0 test)) h.4 in
      let after = for_after (Some test) next s rest at i h inside in
      let front = has_front K i (stmt_code p g i (i + stmt_len p g s) h.0 (i + stmt_len p g s) s) _ inside in
      tests test _ h.3.0 (Tests (For (Some test) next s) ∷ rest) at h.0 d h.4
      (refl, refl, (i, h.0, h.0, i + stmt_len p g s, h.3.2, front, after, (h.5, after), h.5, refl))
      (refl, refl, (i, h.0, h.0, i + stmt_len p g s, h.3.2, front, after, (h.5, after), h.5, refl))
  loops (For None next s) rest at d body by le h =
      let i = at + 0 in
      let q : at + 0 ≡ at = omega arith in
      let inside : HasAt K i (for_code i at h.0 h.1 h.2 next s) = subst (λ j. HasAt K j (for_code i at h.0 h.1 h.2 next s)) (sym q) h.4 in
      let after = for_after None next s rest at i h inside in
      moved (begin_body (For None next s) s rest) i at d q
      (body h.3.2 (Body (For None next s) ∷ rest) i (i + stmt_len p g s) h.0 (i + stmt_len p g s) d le (has_front K i (stmt_code p g i (i + stmt_len p g s) h.0 (i + stmt_len p g s) s) _ inside) (inl refl) after (h.5, after)
      (λ e. moved (after_body (For None next s) rest) (i + stmt_len p g s) i d (omega (arith, e)) (afters (For None next s) rest _ d by le after)))

  -- a statement with others behind it leads to them, or out where no code follows
  joint : (more : TStmtTrees) (rest : List Frame) (at exit leave again n : ℕ) → n ≡ stmts_len p g more → FitsStmts p f more → HasAt K at (stmts_code p g at exit leave again more) → Reaches (at + stmts_len p g more) exit → Follows rest exit → Jumps rest leave again → Reaches at (exit_by n exit at) × Follows (Then more ∷ rest) (exit_by n exit at)
  joint more rest at exit leave again zero e fits has end follows jumps =
      let none : HasAt K exit (stmts_code p g exit exit leave again more) = no_code K exit _ (stmts_length p g exit exit leave again more ∙ sym e) in
      (reaches (at + stmts_len p g more) at exit (omega (arith, e)) end, (exit, leave, again, fits, none, jumps, inl (sym e, follows)))
  joint more rest at exit leave again (suc n) e fits has end follows jumps =
      (inl refl, (exit, leave, again, fits, has, jumps, inr (omega (arith, e), end, follows)))

  -- ---- assignments

  assign_by_address : (to e : TExprTree) → Fits p f to → Fits p f e → (rest : List Frame) (at exit d : ℕ) → HasAt K at (assign_code p at None to e) → Reaches (at + (reach_len p to + (value_len p e + 1))) exit → Follows rest exit → Lands (reach to (Target (type_of to) e ∷ rest)) at d
  assign_by_address to e fits_to fits_e rest at exit d has end follows =
      let first = has_front K at (reach_code p at 0 to) _ has in
      let behind = has_rest K at (at + reach_len p to) (reach_code p at 0 to) _ (ap (λ n. at + n) (reach_length p at 0 to)) has in
      here _ at d (costs.first_owes p to K at at 0 first)
      (reaching.reach_at p all memory c to fits_to at 0 (Target (type_of to) e ∷ rest) [] first
      (refl, fits_e, behind, (exit, reaches (at + (reach_len p to + (value_len p e + 1))) _ exit (omega arith) end, follows)))

  assign_local : (x : Bool) (ty : TyTree) (n : ℕ) (e : TExprTree) → is_scalar ty ≡ x → FitsLocal p f ty n → Fits p f e → (rest : List Frame) (at exit d : ℕ) → HasAt K at (assign_code p at (chosen x (Some n) None) (ELocal ty n) e) → Reaches (at + assign_len (chosen x (Some n) None) (reach_len p (ELocal ty n)) (value_len p e)) exit → Follows rest exit → Lands (reach (ELocal ty n) (Target ty e ∷ rest)) at d
  assign_local true ty n e q fits_to fits_e rest at exit d has end follows =
      here _ at d (costly K at (1 + 1) 1 (omega arith) (costs.start_owes p e K at at 1 _ has))
      (inr (refl, q, fits_to, fits_e, has, (exit, reaches (at + (value_len p e + 1)) _ exit (omega arith) end, follows)))
  assign_local false ty n e q fits_to fits_e rest at exit d has end follows = assign_by_address (ELocal ty n) e fits_to fits_e rest at exit d has end follows

  assigns : (to e : TExprTree) → Fits p f to → Fits p f e → (rest : List Frame) (at exit d : ℕ) → HasAt K at (assign_code p at (whole_local to) to e) → Reaches (at + assign_len (whole_local to) (reach_len p to) (value_len p e)) exit → Follows rest exit → Lands (reach to (Target (type_of to) e ∷ rest)) at d
  assigns (ELocal ty n) e fits_to fits_e rest at exit d has end follows = assign_local (is_scalar ty) ty n e refl fits_to fits_e rest at exit d has end follows
  assigns to e fits_to fits_e rest at exit d has end follows = assign_by_address to e fits_to fits_e rest at exit d has end follows

  local_begins : (n : ℕ) (e : TExprTree) → FitsLocal p f (type_of e) n → Fits p f e → (x : Bool) → is_scalar (type_of e) ≡ x → (rest : List Frame) (at exit d : ℕ) → HasAt K at (assign_code p at (chosen x (Some n) None) (ELocal (type_of e) n) e) → Reaches (at + chosen x (value_len p e + 1) (1 + (value_len p e + 1))) exit → Follows rest exit → Lands (reach (ELocal (type_of e) n) (Target (type_of e) e ∷ rest)) at d
  local_begins n e fits_to fits_e true q rest at exit d has end follows = assign_local true (type_of e) n e q fits_to fits_e rest at exit d has end follows
  local_begins n e fits_to fits_e false q rest at exit d has end follows = assign_local false (type_of e) n e q fits_to fits_e rest at exit d has end follows

  mutual
    pub begins : (s : TStmtTree) → BeginsAt s
    begins SEmpty fits rest at exit leave again d le has end follows jumps done = done refl
    begins (SBlock all2) fits rest at exit leave again d le has end follows jumps done = all_begin all2 fits rest at exit leave again d le has end follows jumps done
    begins (SLocal n None) fits rest at exit leave again d le has end follows jumps done = done refl
    begins (SLocal n (Some e)) fits rest at exit leave again d le has end follows jumps done =
        local_begins n e fits.0 fits.1 (is_scalar (type_of e)) refl rest at exit d has end follows
    begins (SEval e) fits rest at exit leave again d le has end follows jumps done =
        starts e _ fits (Discards ∷ rest) at d has (λ k. (refl, k, (exit, reaches (at + (value_len p e + 1)) _ exit (omega arith) end, follows)))
    begins (SAssign to e) fits rest at exit leave again d le has end follows jumps done = assigns to e fits.0 fits.1 rest at exit d has end follows
    begins (SIf test s other) fits rest at exit leave again d le has end follows jumps done =
        let i = at + condition_len p test in
        let to = else_at other (i + stmt_len p g s) exit in
        let behind = has_rest K at i (condition_code p at to test) _ (ap (λ n. at + n) (condition_length p at to test)) has in
        let out = reaches (at + (condition_len p test + (stmt_len p g s + (else_len other + maybe_len p g other)))) (i + stmt_len p g s + length (else_jump other exit) + maybe_len p g other) exit (omega (arith, length_else other exit)) end in
        tests test _ fits.0 (Forks s other ∷ rest) at to d has
        (refl, refl, (i, exit, leave, again, fits.1, fits.2, behind, out, follows, jumps, refl))
        (refl, refl, (i, exit, leave, again, fits.1, fits.2, behind, out, follows, jumps, refl))
    begins (SWhile test s) fits rest at exit leave again d le has end follows jumps done =
        loops (While test s) rest at d (begins s) tt le (exit, leave, again, fits, has, follows, jumps)
    begins (SFor first (Some test) next s) fits rest at exit leave again d le has end follows jumps done =
        let loop = For (Some test) next s in
        let l = at + maybe_len p g first in
        let behind = has_rest K at l (maybe_code p g at l leave again first) _ (ap (λ n. at + n) (maybe_length p g at l leave again first)) has in
        let whole : LoopAt rest loop l = (exit, leave, again, (fits.1, fits.2, fits.3), behind, follows, jumps) in
        maybe_begins first fits.0 (Enters loop ∷ rest) at l leave again d le (has_front K at (maybe_code p g at l leave again first) _ has) (inl refl) whole jumps
        (λ e. moved (begin_loop loop rest) l at d (omega (arith, e)) (loops loop rest l d (begins s) (maybe_begins next) le whole))
    begins (SFor first None next s) fits rest at exit leave again d le has end follows jumps done =
        let loop = For None next s in
        let l = at + maybe_len p g first in
        let behind = has_rest K at l (maybe_code p g at l leave again first) _ (ap (λ n. at + n) (maybe_length p g at l leave again first)) has in
        let whole : LoopAt rest loop l = (exit, leave, again, (fits.1, fits.2, fits.3), behind, follows, jumps) in
        maybe_begins first fits.0 (Enters loop ∷ rest) at l leave again d le (has_front K at (maybe_code p g at l leave again first) _ has) (inl refl) whole jumps
        (λ e. moved (begin_loop loop rest) l at d (omega (arith, e)) (loops loop rest l d (begins s) (maybe_begins next) le whole))
    begins SBreak fits rest at exit leave again d le has end follows jumps done =
        let n0 : Costs K at 1 = record { step = _; here = has.0; least = omega arith } in
        here _ at d n0 (refl, refl, leave, again, has, jumps)
    begins SContinue fits rest at exit leave again d le has end follows jumps done =
        let n0 : Costs K at 1 = record { step = _; here = has.0; least = omega arith } in
        here _ at d n0 (refl, refl, leave, again, has, jumps)
    begins (SReturn None) fits rest at exit leave again d le has end follows jumps done = more_free _ at 1 d le (falls rest at g refl has)
    begins (SReturn (Some e)) fits rest at exit leave again d le has end follows jumps done = starts e _ fits (Answers ∷ rest) at d has (λ k. (refl, k))

    pub maybe_begins : (s : MaybeTStmt) → MaybeBeginsAt s
    maybe_begins NoTStmt fits rest at exit leave again d le has end follows jumps done = done refl
    maybe_begins (OneTStmt s) fits rest at exit leave again d le has end follows jumps done = begins s fits rest at exit leave again d le has end follows jumps done

    pub all_begin : (all2 : TStmtTrees) → FitsStmts p f all2 → (rest : List Frame) (at exit leave again d : ℕ) → 1 ≤ d → HasAt K at (stmts_code p g at exit leave again all2) → Reaches (at + stmts_len p g all2) exit → Follows rest exit → Jumps rest leave again → (stmts_len p g all2 ≡ 0 → Lands (follow rest) at d) → Lands (begin_all all2 rest (follow rest)) at d
    all_begin NoTStmts fits rest at exit leave again d le has end follows jumps done = done refl
    all_begin (MoreTStmts s more) fits rest at exit leave again d le has end follows jumps done =
        let next = at + stmt_len p g s in
        let out = exit_by (stmts_len p g more) exit next in
        let behind = has_rest K at next (stmt_code p g at out leave again s) _ (ap (λ n. at + n) (stmt_length p g at out leave again s)) has in
        let end2 = reaches (at + (stmt_len p g s + stmts_len p g more)) (next + stmts_len p g more) exit (omega arith) end in
        let j = joint more rest next exit leave again (stmts_len p g more) refl fits.1 behind end2 follows jumps in
        begins s fits.0 (Then more ∷ rest) at out leave again d le (has_front K at (stmt_code p g at out leave again s) _ has) j.0 j.1 jumps
        (λ e. moved (begin_all more rest (follow rest)) next at d (omega (arith, e))
        (all_begin more fits.1 rest next exit leave again d le behind end2 follows jumps (λ e2. moved (follow rest) at next d (omega (arith, e)) (done (omega (arith, e, e2))))))

  -- ---- what follows

  pub next_begins : (loop : Loop) → NextBegins loop
  next_begins (While test s) = tt
  next_begins (For test next s) = maybe_begins next

  then_at : (more : TStmtTrees) (rest : List Frame) (at exit leave again : ℕ) → FitsStmts p f more → HasAt K at (stmts_code p g at exit leave again more) → Jumps rest leave again → (Follows rest at → Lands (follow rest) at 1) → ((stmts_len p g more ≡ 0) × Follows rest at) ⊎ ((0 < stmts_len p g more) × Reaches (at + stmts_len p g more) exit × Follows rest exit) → Lands (begin_all more rest (follow rest)) at 1
  then_at more rest at exit leave again fits has jumps next (inl h) =
      let none : HasAt K at (stmts_code p g at at leave again more) = no_code K at _ (stmts_length p g at at leave again more ∙ h.0) in
      all_begin more fits rest at at leave again 1 (omega arith) none (inl (omega (arith, h.0))) h.1 jumps (λ e. next h.1)
  then_at more rest at exit leave again fits has jumps next (inr h) = all_begin more fits rest at exit leave again 1 (omega arith) has h.1 h.2 jumps (λ e. absurd (omega (arith, e, h.0)))

  pub follow_at : (rest : List Frame) (at : ℕ) → Follows rest at → Lands (follow rest) at 1
  follow_at [] at h = falls [] at g refl h
  follow_at (Then more ∷ rest) at h = then_at more rest at h.0 h.1 h.2 h.3 h.4 h.5 (λ x. follow_at rest at x) h.6
  follow_at (Enters loop ∷ rest) at h = loops loop rest at 1 (begins (loop_body loop)) (next_begins loop) (omega arith) h
  follow_at (Body loop ∷ rest) at h = afters loop rest at 1 (next_begins loop) (omega arith) h
  follow_at (Third loop ∷ rest) at h = backs rest loop at 1 h
  follow_at (Caller call crosses ∷ rest) at h = falls (Caller call crosses ∷ rest) at g refl h
  follow_at (x ∷ rest) at h = absurd h

  -- a loop's body
  pub bodies : (loop : Loop) (rest : List Frame) (at leave again : ℕ) → FitsStmt p f (loop_body loop) → HasAt K at (stmt_code p g at (at + stmt_len p g (loop_body loop)) leave again (loop_body loop)) → Follows (Body loop ∷ rest) (at + stmt_len p g (loop_body loop)) → Jumps (Body loop ∷ rest) leave again → Lands (begin_body loop (loop_body loop) rest) at 1
  bodies loop rest at leave again fits has follows jumps =
      let end = at + stmt_len p g (loop_body loop) in
      begins (loop_body loop) fits (Body loop ∷ rest) at end leave again 1 (omega arith) has (inl refl) follows jumps
      (λ e. moved (follow (Body loop ∷ rest)) end at 1 (omega (arith, e)) (follow_at (Body loop ∷ rest) end follows))

  -- the branches of a choice
  pub first_branch : (s : TStmtTree) (other : MaybeTStmt) (rest : List Frame) (at exit leave again : ℕ) → FitsStmt p f s → Follows rest exit → Jumps rest leave again → HasAt K at (stmt_code p g at exit leave again s ++ (else_jump other exit ++ maybe_code p g (at + stmt_len p g s + 1) exit leave again other)) → Reaches (at + stmt_len p g s + length (else_jump other exit) + maybe_len p g other) exit → Lands (begin s rest (follow rest)) at 2
  first_branch s other rest at exit leave again fits follows jumps has end =
      let j = at + stmt_len p g s in
      let behind = has_rest K at j (stmt_code p g at exit leave again s) _ (ap (λ n. at + n) (stmt_length p g at exit leave again s)) has in
      let out = out_of other j behind end in
      begins s fits rest at exit leave again 2 (omega arith) (has_front K at (stmt_code p g at exit leave again s) _ has) out follows jumps
      (λ e. moved (follow rest) j at 2 (omega (arith, e)) (by_jump (follow rest) j exit 1 out (follow_at rest exit follows))) where
        out_of : (other : MaybeTStmt) (j : ℕ) → HasAt K j (else_jump other exit ++ maybe_code p g (j + 1) exit leave again other) → Reaches (j + length (else_jump other exit) + maybe_len p g other) exit → Reaches j exit
        out_of NoTStmt j h end = reaches (j + 0 + 0) j exit (omega arith) end
        out_of (OneTStmt o) j h end = inr (h.0, tt)

  pub second_branch : (other : MaybeTStmt) (rest : List Frame) (at exit leave again : ℕ) → FitsOther p f other → Follows rest exit → Jumps rest leave again → HasAt K at (else_jump other exit ++ maybe_code p g (at + 1) exit leave again other) → Reaches (at + length (else_jump other exit) + maybe_len p g other) exit → Lands (begin_maybe other rest (follow rest)) (else_at other at exit) 2
  second_branch NoTStmt rest at exit leave again fits follows jumps has end = more_free (follow rest) exit 1 2 (omega arith) (follow_at rest exit follows)
  second_branch (OneTStmt o) rest at exit leave again fits follows jumps has end =
      begins o fits rest (at + 1) exit leave again 2 (omega arith) has.1 end follows jumps
      (λ e. moved (follow rest) (at + 1 + stmt_len p g o) (at + 1) 2 (omega (arith, e)) (by_jump (follow rest) _ exit 1 end (follow_at rest exit follows)))

  pub done_at : (rest : List Frame) (at : ℕ) → relation.Done p all c rest at → Lands (follow rest) at 2
  done_at rest at h = by_jump (follow rest) at h.0 1 h.1 (follow_at rest h.0 h.2)

  stuck : (code : List op.Step) (n at : ℕ) (stack : List Value) (rest : List Frame) → SpotAt (Does Stuck rest) (settle code n at stack)
  stuck code zero at stack rest = tt
  stuck code (suc n) at stack rest = on (freed (slice_get code at) at stack) (λ at2 stack2. stuck code n at2 stack2 rest) where
    on : (x : Option (ℕ × List Value)) → ((at2 : ℕ) (stack2 : List Value) → SpotAt (Does Stuck rest) (settle code n at2 stack2)) → SpotAt (Does Stuck rest) (settle_on x (At at stack) (settle code n))
    on None next = tt
    on (Some x) next = next x.0 x.1

  stuck_at : (rest : List Frame) (at : ℕ) → Lands (Does Stuck rest) at 1
  stuck_at rest at = record { by = λ n le. stuck K n at [] rest }

  pub after_at : (rest : List Frame) (leave again : ℕ) → Jumps rest leave again → Lands (after_loop rest) leave 1
  after_at [] leave again h = stuck_at [] leave
  after_at (Body loop ∷ rest) leave again h = follow_at rest leave h.0
  after_at (Caller call crosses ∷ rest) leave again h = stuck_at rest leave
  after_at (x ∷ rest) leave again h = after_at rest leave again h

  pub round_at : (rest : List Frame) (leave again : ℕ) → Jumps rest leave again → Lands (next_round rest) again 1
  round_at [] leave again h = stuck_at [] again
  round_at (Body (While test s) ∷ rest) leave again h = loops (While test s) rest again 1 (begins s) tt (omega arith) h.1
  round_at (Body (For test next s) ∷ rest) leave again h = afters (For test next s) rest again 1 (maybe_begins next) (omega arith) h.1
  round_at (Caller call crosses ∷ rest) leave again h = stuck_at rest again
  round_at (x ∷ rest) leave again h = round_at rest leave again h
