-- The heights before the steps of statements and of functions.
use Rattle.std.proofs.Common.{◌≡◌, ℕ, zero, suc, ◌+◌, ◌≤◌, List, [], ◌∷◌, ◌++◌, length, Option, Some, None, refl, ◌∙◌, arith}
use Rattle.std.specs.Prelude.{slice_get}
use Rattle.fx_c_ast.specs.CheckedTrees.{TyTree, TExprTree, ELocal, TStmtTree, SEmpty, SBlock, SLocal, SEval, SAssign, SIf, SWhile, SFor, SBreak, SContinue, SReturn, TStmtTrees, NoTStmts, MoreTStmts, MaybeTStmt, NoTStmt, OneTStmt}
use Rattle.fx_c_ast.specs.StackUse.{need, need_maybe, need_start, need_stmt, need_maybe_stmt, need_stmts}
use Rattle.fx_c_mean_model.specs.Programs.{Program}
use Rattle.fx_c_mean_model.specs.States.{type_of}
use Rattle.fx_c_types_model.specs.Each.{Each, EachOfValue, EachIn, EachInMaybe, EachInAll}
use Rattle.fx_c_lin.specs.Ops.{Step}
use Rattle.fx_c_lin.specs.Ops as op
use Rattle.fx_c_lower_model.specs.Steps.{costing, free}
use Rattle.fx_c_lower_model.specs.Direct.{whole_local}
use Rattle.fx_c_lower_model.specs.Late.{late}
use Rattle.fx_c_lower_model.specs.Lengths.{reach_len, condition_len, maybe_condition_len, stmt_len, maybe_len, stmts_len}
use Rattle.fx_c_lower_model.specs.Code.{reach_code, value_code, condition_code, assign_code, local_code, return_code, exit_by, maybe_condition_code, stmt_code, maybe_code, stmts_code}
use Rattle.fx_c_lower_law.proofs.Lengths as lengths
use Rattle.fx_c_lower_stack_law.proofs.Stands.{Stands, rest}
use Rattle.fx_c_lower_stack_law.proofs.Pieces.{Stacks, Goes, ends}
use Rattle.fx_c_lower_stack_law.proofs.Pieces as pieces
use Rattle.fx_c_lower_stack_law.proofs.Ops as ops
use Rattle.fx_c_lower_stack_law.proofs.Needs.{CallPasses, need_some}
use Rattle.fx_c_lower_stack_law.proofs.Expressions as expressions

-- what is known is known where more is
abbrev Weaker : (List ℕ → List Step → Type 0) → (List ℕ → List Step → Type 0) → Type 0
Weaker O O2 = (all : List ℕ) (steps : List Step) → O2 all steps → O all steps

module _ (p : Program) (most : ℕ) (room : 1 ≤ most) where
  -- ---- statements of several pieces

  -- one statement and those behind it
  sequence : (O : List ℕ → List Step → Type 0) (at l : ℕ) (xs ys : List Step) → length xs ≡ l
      → ((O2 : List ℕ → List Step → Type 0) → Weaker O O2 → Goes O2 (at + l) 0 → Stacks p most O2 at 0 0 xs)
      → ((O2 : List ℕ → List Step → Type 0) → Weaker O O2 → Stacks p most O2 (at + l) 0 0 ys)
      → Stacks p most O at 0 0 (xs ++ ys)
  sequence O at l xs ys e x y = pieces.closed p most O O2 at 0 0 (xs ++ ys) (pieces.both p most O2 at 0 0 0 l xs ys e first last) known where
    O2 : List ℕ → List Step → Type 0
    O2 = λ all steps. O all steps × (slice_get all (at + l) ≡ Some 0)

    first : Stacks p most O2 at 0 0 xs
    first = x O2 (λ all steps o. o.0) (λ all steps o. o.1)

    last : Stacks p most O2 (at + l) 0 0 ys
    last = y O2 (λ all steps o. o.0)

    known : (all : List ℕ) (steps : List Step) → Stands steps at (xs ++ ys) → Stands all at (first.heights ++ last.heights) → slice_get all (at + length (xs ++ ys)) ≡ Some 0 → O all steps → O2 all steps
    known all steps c h z o = (o, pieces.seam p most O2 at 0 0 0 l xs ys e first last all h z)

  -- a condition, the branch behind it, and a jump over the other one
  branches : (O : List ℕ → List Step → Type 0) (at lc ls exit : ℕ) (xs ys zs : List Step) → length xs ≡ lc → length ys ≡ ls → Goes O exit 0
      → ((O2 : List ℕ → List Step → Type 0) → Goes O2 (at + lc + ls + 1) 0 → Stacks p most O2 at 0 0 xs)
      → ((O2 : List ℕ → List Step → Type 0) → Weaker O O2 → Stacks p most O2 (at + lc) 0 0 ys)
      → ((O2 : List ℕ → List Step → Type 0) → Weaker O O2 → Stacks p most O2 (at + lc + ls + 1) 0 0 zs)
      → Stacks p most O at 0 0 (xs ++ (ys ++ free (op.Jump exit) ∷ zs))
  branches O at lc ls exit xs ys zs ex ey goes x y z =
      pieces.closed p most O O2 at 0 0 (xs ++ (ys ++ free (op.Jump exit) ∷ zs))
      (pieces.both p most O2 at 0 0 0 lc xs (ys ++ free (op.Jump exit) ∷ zs) ex first
      (pieces.both p most O2 (at + lc) 0 0 0 ls ys (free (op.Jump exit) ∷ zs) ey second
      (pieces.both p most O2 (at + lc + ls) 0 0 0 1 (free (op.Jump exit) ∷ []) zs refl over last))) known where
        O2 : List ℕ → List Step → Type 0
        O2 = λ all steps. O all steps × (slice_get all (at + lc + ls + 1) ≡ Some 0)

        first : Stacks p most O2 at 0 0 xs
        first = x O2 (λ all steps o. o.1)

        second : Stacks p most O2 (at + lc) 0 0 ys
        second = y O2 (λ all steps o. o.0)

        over : Stacks p most O2 (at + lc + ls) 0 0 (free (op.Jump exit) ∷ [])
        over = pieces.jump p most O2 (at + lc + ls) 0 exit 0 (omega arith) (λ all steps o. goes all steps o.0)

        last : Stacks p most O2 (at + lc + ls + 1) 0 0 zs
        last = z O2 (λ all steps o. o.0)

        known : (all : List ℕ) (steps : List Step) → Stands steps at (xs ++ (ys ++ free (op.Jump exit) ∷ zs)) → Stands all at (first.heights ++ (second.heights ++ (over.heights ++ last.heights))) → slice_get all (at + length (xs ++ (ys ++ free (op.Jump exit) ∷ zs))) ≡ Some 0 → O all steps → O2 all steps
        known all steps c h e o =
            let h1 = rest all at first.heights (second.heights ++ (over.heights ++ last.heights)) lc (first.size ∙ ex) h in
            let h2 = rest all (at + lc) second.heights (over.heights ++ last.heights) ls (second.size ∙ ey) h1 in
            let e1 : slice_get all (at + lc + length (ys ++ free (op.Jump exit) ∷ zs)) ≡ Some 0 = ends all at lc 0 xs (ys ++ free (op.Jump exit) ∷ zs) ex e in
            let e2 : slice_get all (at + lc + ls + length (free (op.Jump exit) ∷ zs)) ≡ Some 0 = ends all (at + lc) ls 0 ys (free (op.Jump exit) ∷ zs) ey e1 in
            (o, pieces.seam p most O2 (at + lc + ls) 0 0 0 1 (free (op.Jump exit) ∷ []) zs refl over last all h2 e2)

  -- a condition, a body, and the jump back
  loops : (O : List ℕ → List Step → Type 0) (at lc ls : ℕ) (xs ys : List Step) → length xs ≡ lc → length ys ≡ ls
      → ((O2 : List ℕ → List Step → Type 0) → Weaker O O2 → Stacks p most O2 at 0 0 xs)
      → ((O2 : List ℕ → List Step → Type 0) → Weaker O O2 → Goes O2 (at + lc + ls) 0 → Goes O2 at 0 → Stacks p most O2 (at + lc) 0 0 ys)
      → Stacks p most O at 0 0 (xs ++ (ys ++ costing 1 (op.Jump at) ∷ []))
  loops O at lc ls xs ys ex ey x y = pieces.closed p most O O2 at 0 0 (xs ++ (ys ++ costing 1 (op.Jump at) ∷ [])) whole known where
    O2 : List ℕ → List Step → Type 0
    O2 = λ all steps. O all steps × (slice_get all (at + lc + ls) ≡ Some 0) × (slice_get all at ≡ Some 0)

    first : Stacks p most O2 at 0 0 xs
    first = x O2 (λ all steps o. o.0)

    second : Stacks p most O2 (at + lc) 0 0 ys
    second = y O2 (λ all steps o. o.0) (λ all steps o. o.1) (λ all steps o. o.2)

    back : Stacks p most O2 (at + lc + ls) 0 0 (costing 1 (op.Jump at) ∷ [])
    back = pieces.jump p most O2 (at + lc + ls) 0 at 1 (omega arith) (λ all steps o. o.2)

    tail : Stacks p most O2 (at + lc) 0 0 (ys ++ costing 1 (op.Jump at) ∷ [])
    tail = pieces.both p most O2 (at + lc) 0 0 0 ls ys (costing 1 (op.Jump at) ∷ []) ey second back

    whole : Stacks p most O2 at 0 0 (xs ++ (ys ++ costing 1 (op.Jump at) ∷ []))
    whole = pieces.both p most O2 at 0 0 0 lc xs (ys ++ costing 1 (op.Jump at) ∷ []) ex first tail

    known : (all : List ℕ) (steps : List Step) → Stands steps at (xs ++ (ys ++ costing 1 (op.Jump at) ∷ [])) → Stands all at whole.heights → slice_get all (at + length (xs ++ (ys ++ costing 1 (op.Jump at) ∷ []))) ≡ Some 0 → O all steps → O2 all steps
    known all steps c h e o =
        let h1 = rest all at first.heights (second.heights ++ back.heights) lc (first.size ∙ ex) h in
        let e1 : slice_get all (at + lc + length (ys ++ costing 1 (op.Jump at) ∷ [])) ≡ Some 0 = ends all at lc 0 xs (ys ++ costing 1 (op.Jump at) ∷ []) ex e in
        (o, pieces.seam p most O2 (at + lc) 0 0 0 ls ys (costing 1 (op.Jump at) ∷ []) ey second back all h1 e1, whole.starts all h e)

  -- what comes before a loop, its condition, its body, what is done after each round, and the jump back
  rounds : (O : List ℕ → List Step → Type 0) (at lf lc ls ln : ℕ) (fs cs ss ns : List Step) → length fs ≡ lf → length cs ≡ lc → length ss ≡ ls → length ns ≡ ln
      → ((O2 : List ℕ → List Step → Type 0) → Weaker O O2 → Goes O2 (at + lf) 0 → Stacks p most O2 at 0 0 fs)
      → ((O2 : List ℕ → List Step → Type 0) → Weaker O O2 → Stacks p most O2 (at + lf) 0 0 cs)
      → ((O2 : List ℕ → List Step → Type 0) → Weaker O O2 → Goes O2 (at + lf + lc + ls) 0 → Stacks p most O2 (at + lf + lc) 0 0 ss)
      → ((O2 : List ℕ → List Step → Type 0) → Weaker O O2 → Goes O2 (at + lf + lc + ls + ln) 0 → Stacks p most O2 (at + lf + lc + ls) 0 0 ns)
      → Stacks p most O at 0 0 (fs ++ (cs ++ (ss ++ (ns ++ costing 1 (op.Jump (at + lf)) ∷ []))))
  rounds O at lf lc ls ln fs cs ss ns ef ec es en f c s n =
      pieces.closed p most O O2 at 0 0 (fs ++ (cs ++ (ss ++ (ns ++ j)))) (pieces.both p most O2 at 0 0 0 lf fs (cs ++ (ss ++ (ns ++ j))) ef first behind_first) known where
        j : List Step
        j = costing 1 (op.Jump (at + lf)) ∷ []

        O2 : List ℕ → List Step → Type 0
        O2 = λ all steps. O all steps × (slice_get all (at + lf) ≡ Some 0) × (slice_get all (at + lf + lc + ls) ≡ Some 0) × (slice_get all (at + lf + lc + ls + ln) ≡ Some 0)

        first : Stacks p most O2 at 0 0 fs
        first = f O2 (λ all steps o. o.0) (λ all steps o. o.1)

        test : Stacks p most O2 (at + lf) 0 0 cs
        test = c O2 (λ all steps o. o.0)

        body : Stacks p most O2 (at + lf + lc) 0 0 ss
        body = s O2 (λ all steps o. o.0) (λ all steps o. o.2)

        next : Stacks p most O2 (at + lf + lc + ls) 0 0 ns
        next = n O2 (λ all steps o. o.0) (λ all steps o. o.3)

        back : Stacks p most O2 (at + lf + lc + ls + ln) 0 0 j
        back = pieces.jump p most O2 (at + lf + lc + ls + ln) 0 (at + lf) 1 (omega arith) (λ all steps o. o.1)

        behind_body : Stacks p most O2 (at + lf + lc + ls) 0 0 (ns ++ j)
        behind_body = pieces.both p most O2 (at + lf + lc + ls) 0 0 0 ln ns j en next back

        behind_test : Stacks p most O2 (at + lf + lc) 0 0 (ss ++ (ns ++ j))
        behind_test = pieces.both p most O2 (at + lf + lc) 0 0 0 ls ss (ns ++ j) es body behind_body

        behind_first : Stacks p most O2 (at + lf) 0 0 (cs ++ (ss ++ (ns ++ j)))
        behind_first = pieces.both p most O2 (at + lf) 0 0 0 lc cs (ss ++ (ns ++ j)) ec test behind_test

        known : (all : List ℕ) (steps : List Step) → Stands steps at (fs ++ (cs ++ (ss ++ (ns ++ j)))) → Stands all at (first.heights ++ behind_first.heights) → slice_get all (at + length (fs ++ (cs ++ (ss ++ (ns ++ j))))) ≡ Some 0 → O all steps → O2 all steps
        known all steps k h e o =
            let h1 = rest all at first.heights behind_first.heights lf (first.size ∙ ef) h in
            let h2 = rest all (at + lf) test.heights behind_test.heights lc (test.size ∙ ec) h1 in
            let h3 = rest all (at + lf + lc) body.heights behind_body.heights ls (body.size ∙ es) h2 in
            let e1 : slice_get all (at + lf + length (cs ++ (ss ++ (ns ++ j)))) ≡ Some 0 = ends all at lf 0 fs (cs ++ (ss ++ (ns ++ j))) ef e in
            let e2 : slice_get all (at + lf + lc + length (ss ++ (ns ++ j))) ≡ Some 0 = ends all (at + lf) lc 0 cs (ss ++ (ns ++ j)) ec e1 in
            let e3 : slice_get all (at + lf + lc + ls + length (ns ++ j)) ≡ Some 0 = ends all (at + lf + lc) ls 0 ss (ns ++ j) es e2 in
            (o, behind_first.starts all h1 e1, behind_body.starts all h3 e3, pieces.seam p most O2 (at + lf + lc + ls) 0 0 0 ln ns j en next back all h3 e3)

  -- ---- assignments and returns

  assigns : (O : List ℕ → List Step → Type 0) (at : ℕ) (x : Option ℕ) (to e : TExprTree) → Each (CallPasses p) to → Each (CallPasses p) e → need to ≤ most → 1 + need e ≤ most → Stacks p most O at 0 0 (assign_code p at x to e)
  assigns O at (Some n) to e ht he ft fe =
      pieces.both p most O at 0 1 0 (length (value_code p at 1 e)) (value_code p at 1 e) _ refl (expressions.valued p most O at 1 0 e he (omega arith)) (pieces.plain p most O _ 1 0 _ refl refl (omega arith) (omega arith) room)
  assigns O at None to e ht he ft fe =
      pieces.both p most O at 0 1 0 (reach_len p to) (reach_code p at 0 to) _ (lengths.reach_length p at 0 to) (expressions.reach p most O at 0 0 to ht (omega arith))
      (pieces.both p most O (at + reach_len p to) 1 2 0 (length (value_code p (at + reach_len p to) (late p to) e)) (value_code p (at + reach_len p to) (late p to) e) _ refl
      (expressions.valued p most O (at + reach_len p to) (late p to) 1 e he (omega arith)) (ops.assigned p most O _ _ (type_of to) (omega (arith, need_some e))))

  starts : (O : List ℕ → List Step → Type 0) (at n : ℕ) (init : Option TExprTree) → EachOfValue (CallPasses p) init → need_start init ≤ most → Stacks p most O at 0 0 (local_code p at n init)
  starts O at n None h few = pieces.none p most O at 0
  starts O at n (Some e) h few = assigns O at (whole_local (ELocal (type_of e) n)) (ELocal (type_of e) n) e tt h room (omega arith)

  returns : (O : List ℕ → List Step → Type 0) (gives : TyTree) (at : ℕ) (e : Option TExprTree) → EachOfValue (CallPasses p) e → need_maybe e ≤ most → Stacks p most O at 0 0 (return_code p gives at e)
  returns O gives at None h few = ops.fallen p most O at gives room
  returns O gives at (Some e) h few =
      pieces.both p most O at 0 1 0 (length (value_code p at 0 e)) (value_code p at 0 e) _ refl (expressions.valued p most O at 0 0 e h (omega arith)) (pieces.returns p most O _ 1 _ (omega arith) room)

  maybe_test : (O : List ℕ → List Step → Type 0) (at exit : ℕ) (test : Option TExprTree) → EachOfValue (CallPasses p) test → need_maybe test ≤ most → Goes O exit 0 → Stacks p most O at 0 0 (maybe_condition_code p at exit test)
  maybe_test O at exit None h few goes = pieces.none p most O at 0
  maybe_test O at exit (Some e) h few goes = expressions.condition p most O at exit e h few goes

  left_to : (O : List ℕ → List Step → Type 0) (more exit next : ℕ) → Goes O exit 0 → Goes O next 0 → Goes O (exit_by more exit next) 0
  left_to O zero exit next g h = g
  left_to O (suc n) exit next g h = h

  -- ---- all statements

  mutual
    statement : (O : List ℕ → List Step → Type 0) (gives : TyTree) (at exit leave again : ℕ) (s : TStmtTree) → EachIn (CallPasses p) s → need_stmt s ≤ most → Goes O exit 0 → Goes O leave 0 → Goes O again 0 → Stacks p most O at 0 0 (stmt_code p gives at exit leave again s)
    statement O gives at exit leave again SEmpty h few x l a = pieces.none p most O at 0
    statement O gives at exit leave again (SBlock all) h few x l a = statements O gives at exit leave again all h few x l a
    statement O gives at exit leave again (SLocal n init) h few x l a = starts O at n init h few
    statement O gives at exit leave again (SEval e) h few x l a =
        pieces.both p most O at 0 1 0 (length (value_code p at 0 e)) (value_code p at 0 e) _ refl (expressions.valued p most O at 0 0 e h (omega arith)) (pieces.plain p most O _ 1 0 _ refl refl (omega arith) (omega arith) room)
    statement O gives at exit leave again (SAssign to e) h few x l a = assigns O at (whole_local to) to e h.0 h.1 (omega arith) (omega arith)
    statement O gives at exit leave again (SIf test s NoTStmt) h few x l a =
        pieces.both p most O at 0 0 0 (condition_len p test) (condition_code p at exit test) _ (lengths.condition_length p at exit test) (expressions.condition p most O at exit test h.0 (omega arith) x)
        (pieces.both p most O (at + condition_len p test) 0 0 0 (stmt_len p gives s) (stmt_code p gives (at + condition_len p test) exit leave again s) [] (lengths.stmt_length p gives _ exit leave again s)
        (statement O gives (at + condition_len p test) exit leave again s h.1 (omega arith) x l a) (pieces.none p most O _ 0))
    statement O gives at exit leave again (SIf test s (OneTStmt t)) h few x l a =
        branches O at (condition_len p test) (stmt_len p gives s) exit (condition_code p at (at + condition_len p test + stmt_len p gives s + 1) test) (stmt_code p gives (at + condition_len p test) exit leave again s) (stmt_code p gives (at + condition_len p test + stmt_len p gives s + 1) exit leave again t)
        (lengths.condition_length p at _ test) (lengths.stmt_length p gives _ exit leave again s) x
        (λ O2 g. expressions.condition p most O2 at (at + condition_len p test + stmt_len p gives s + 1) test h.0 (omega arith) g)
        (λ O2 w. statement O2 gives (at + condition_len p test) exit leave again s h.1 (omega arith) (λ t2 steps o. x t2 steps (w t2 steps o)) (λ t2 steps o. l t2 steps (w t2 steps o)) (λ t2 steps o. a t2 steps (w t2 steps o)))
        (λ O2 w. statement O2 gives (at + condition_len p test + stmt_len p gives s + 1) exit leave again t h.2 (omega arith) (λ t2 steps o. x t2 steps (w t2 steps o)) (λ t2 steps o. l t2 steps (w t2 steps o)) (λ t2 steps o. a t2 steps (w t2 steps o)))
    statement O gives at exit leave again (SWhile test s) h few x l a =
        loops O at (condition_len p test) (stmt_len p gives s) (condition_code p at exit test) (stmt_code p gives (at + condition_len p test) (at + condition_len p test + stmt_len p gives s) exit at s)
        (lengths.condition_length p at exit test) (lengths.stmt_length p gives _ _ exit at s)
        (λ O2 w. expressions.condition p most O2 at exit test h.0 (omega arith) (λ t2 steps o. x t2 steps (w t2 steps o)))
        (λ O2 w g b. statement O2 gives (at + condition_len p test) (at + condition_len p test + stmt_len p gives s) exit at s h.1 (omega arith) g (λ t2 steps o. x t2 steps (w t2 steps o)) b)
    statement O gives at exit leave again (SFor first test next s) h few x l a =
        let lf = maybe_len p gives first in
        let lc = maybe_condition_len p test in
        let ls = stmt_len p gives s in
        let ln = maybe_len p gives next in
        rounds O at lf lc ls ln _ _ _ _
        (lengths.maybe_length p gives at (at + lf) leave again first) (lengths.maybe_condition_length p (at + lf) exit test) (lengths.stmt_length p gives (at + lf + lc) (at + lf + lc + ls) exit (at + lf + lc + ls) s) (lengths.maybe_length p gives (at + lf + lc + ls) (at + lf + lc + ls + ln) leave again next)
        (λ O2 w g. other O2 gives at (at + lf) leave again first h.0 (omega arith) g (λ t2 steps o. l t2 steps (w t2 steps o)) (λ t2 steps o. a t2 steps (w t2 steps o)))
        (λ O2 w. maybe_test O2 (at + lf) exit test h.1 (omega arith) (λ t2 steps o. x t2 steps (w t2 steps o)))
        (λ O2 w g. statement O2 gives (at + lf + lc) (at + lf + lc + ls) exit (at + lf + lc + ls) s h.3 (omega arith) g (λ t2 steps o. x t2 steps (w t2 steps o)) g)
        (λ O2 w g. other O2 gives (at + lf + lc + ls) (at + lf + lc + ls + ln) leave again next h.2 (omega arith) g (λ t2 steps o. l t2 steps (w t2 steps o)) (λ t2 steps o. a t2 steps (w t2 steps o)))
    statement O gives at exit leave again SBreak h few x l a = pieces.jump p most O at 0 leave 1 (omega arith) l
    statement O gives at exit leave again SContinue h few x l a = pieces.jump p most O at 0 again 1 (omega arith) a
    statement O gives at exit leave again (SReturn e) h few x l a = returns O gives at e h few

    other : (O : List ℕ → List Step → Type 0) (gives : TyTree) (at exit leave again : ℕ) (s : MaybeTStmt) → EachInMaybe (CallPasses p) s → need_maybe_stmt s ≤ most → Goes O exit 0 → Goes O leave 0 → Goes O again 0 → Stacks p most O at 0 0 (maybe_code p gives at exit leave again s)
    other O gives at exit leave again NoTStmt h few x l a = pieces.none p most O at 0
    other O gives at exit leave again (OneTStmt s) h few x l a = statement O gives at exit leave again s h few x l a

    pub statements : (O : List ℕ → List Step → Type 0) (gives : TyTree) (at exit leave again : ℕ) (all : TStmtTrees) → EachInAll (CallPasses p) all → need_stmts all ≤ most → Goes O exit 0 → Goes O leave 0 → Goes O again 0 → Stacks p most O at 0 0 (stmts_code p gives at exit leave again all)
    statements O gives at exit leave again NoTStmts h few x l a = pieces.none p most O at 0
    statements O gives at exit leave again (MoreTStmts s more) h few x l a =
        sequence O at (stmt_len p gives s) (stmt_code p gives at (exit_by (stmts_len p gives more) exit (at + stmt_len p gives s)) leave again s) (stmts_code p gives (at + stmt_len p gives s) exit leave again more) (lengths.stmt_length p gives at _ leave again s)
        (λ O2 w g. statement O2 gives at (exit_by (stmts_len p gives more) exit (at + stmt_len p gives s)) leave again s h.0 (omega arith) (left_to O2 (stmts_len p gives more) exit (at + stmt_len p gives s) (λ t2 steps o. x t2 steps (w t2 steps o)) g) (λ t2 steps o. l t2 steps (w t2 steps o)) (λ t2 steps o. a t2 steps (w t2 steps o)))
        (λ O2 w. statements O2 gives (at + stmt_len p gives s) exit leave again more h.1 (omega arith) (λ t2 steps o. x t2 steps (w t2 steps o)) (λ t2 steps o. l t2 steps (w t2 steps o)) (λ t2 steps o. a t2 steps (w t2 steps o)))
