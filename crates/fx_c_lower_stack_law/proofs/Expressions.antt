-- The heights before the steps of expressions.
use Rattle.std.proofs.Common.{◌≡◌, ℕ, ◌+◌, ◌<◌, ◌≤◌, Bool, true, false, not, List, [], ◌∷◌, ◌++◌, length, Some, None, refl, sym, ap, ◌∙◌, subst, arith, length-append}
use Rattle.std.specs.Prelude.{slice_get}
use mathlib.Core.Bool.{beq}
use Rattle.fx_c_ast.specs.declared.operator.Unop.TheVariants.{Lnot}
use Rattle.fx_c_ast.specs.declared.operator.Binop.{Binop}
use Rattle.fx_c_ast.specs.declared.operator.Binop.TheVariants.{Add}
use Rattle.fx_c_ast.specs.CheckedTrees.{TExprTree, ENumber, ELiteral, EGlobal, ELocal, EUn, EBin, ECast, EConvert, ESize, EIndex, EMember, EArrow, ECall, EGate, EGetc, EPutc, EDevLoad, EDevStore, ESpawn, ESwitch, EMe, TExprTrees, NoTExprs, MoreTExprs}
use Rattle.fx_c_ast.specs.StackUse.{need, need_all}
use Rattle.fx_c_mean_model.specs.Programs.{Program, function_at}
use Rattle.fx_c_mean_model.specs.States.{Way, Plainly, ByGate, type_of}
use Rattle.fx_c_types_model.specs.Each.{Each, EachOfAll}
use Rattle.fx_c_lin.specs.declared.op.Right.{Right}
use Rattle.fx_c_lin.specs.declared.op.Right.TheVariants as right
use Rattle.fx_c_lin.specs.Ops.{Step}
use Rattle.fx_c_lin.specs.Ops as op
use Rattle.fx_c_lower_model.specs.Steps.{costing, chosen, is_loaded, takes_value, is_logical, is_comparison, stops, tests_pointer}
use Rattle.fx_c_lower_model.specs.Direct.{direct, right_owed}
use Rattle.fx_c_lower_model.specs.Operands.{left_code, left_len, truth_code, test_code}
use Rattle.fx_c_lower_model.specs.Late.{late, value_late}
use Rattle.fx_c_lower_model.specs.Lengths.{jump_len, value_len, condition_len}
use Rattle.fx_c_lower_model.specs.Code.{right_code, right_operand, second_owed, second_at, binary_code, compare_code, decided_at, reach_code, jump_code, args_code, value_code, condition_code}
use Rattle.fx_c_lower_law.proofs.Lengths as lengths
use Rattle.fx_c_lower_stack_law.specs.Heights.{right_takes, takes, goes_on, leads_to}
use Rattle.fx_c_lower_stack_law.specs.Heights as stack
use Rattle.fx_c_lower_stack_law.proofs.Stands.{Stands, front, rest, got_behind, stands_at}
use Rattle.fx_c_lower_stack_law.proofs.Pieces.{IsLed, led_by, Stacks, Goes, ends}
use Rattle.fx_c_lower_stack_law.proofs.Pieces as pieces
use Rattle.fx_c_lower_stack_law.proofs.Ops as ops
use Rattle.fx_c_lower_stack_law.proofs.Needs.{count, CallPasses, need_first, need_second, need_both, need_some}

-- ---- a step of a condition leads to where it jumps

-- a step of some code that leads to a place
pub record LeadsTo (to : ℕ) (code : List Step) : Type 0 where
  pub from : ℕ
  pub leads : led_by (slice_get code from) ≡ Some to
  pub inside : from < length code

over : (to : ℕ) (xs ys : List Step) → LeadsTo to ys → LeadsTo to (xs ++ ys)
over to xs ys h = record {
  from = length xs + h.from;
  leads = ap led_by (got_behind xs ys h.from) ∙ h.leads;
  inside = omega (arith, length-append xs ys, h.inside);
}

last_leads : (to : ℕ) (x : Step) → leads_to x.op ≡ Some to → LeadsTo to (x ∷ [])
last_leads to x e = record { from = 0; leads = e; inside = omega arith }

one_leads : (to : ℕ) (b : Bool) (xs ys : List Step) → LeadsTo to xs → LeadsTo to ys → LeadsTo to (chosen b xs ys)
one_leads to true xs ys h k = h
one_leads to false xs ys h k = k

test_leads : (at cost : ℕ) (sense : Bool) (to : ℕ) → LeadsTo to (test_code at cost sense to)
test_leads at cost false to = last_leads to _ refl
test_leads at cost true to = over to (costing cost (op.JumpZero (at + 2)) ∷ []) _ (last_leads to (costing 0 (op.Jump to)) refl)

jump_leads : (p : Program) (at owed more : ℕ) (sense : Bool) (to : ℕ) (e : TExprTree) (value : List Step) → LeadsTo to (jump_code p at owed more sense to e value)
jump_leads p at owed more sense to (EUn ty Lnot e) value = jump_leads p at owed (more + 1) (not sense) to e (value_code p at owed e)
jump_leads p at owed more sense to (EBin ty o a b) value =
    one_leads to (is_logical o) _ _
    (over to _ _ (over to (costing more (op.Jump (chosen (beq sense (stops o)) to (at + jump_len p (not (stops o)) a (value_len p a) + 1 + jump_len p sense b (value_len p b)))) ∷ []) _ (jump_leads p (at + jump_len p (not (stops o)) a (value_len p a) + 1) 0 (more + 1) sense to b (value_code p (at + jump_len p (not (stops o)) a (value_len p a) + 1) 0 b))))
    (one_leads to (is_comparison o) _ _ (over to _ _ (over to _ _ (last_leads to _ refl))) (over to value _ (test_leads _ _ sense to)))
jump_leads p at owed more sense to (EConvert ty e) value =
    one_leads to (tests_pointer (type_of e) ty) _ _ (over to _ _ (last_leads to _ refl)) (over to value _ (test_leads _ _ sense to))
jump_leads p at owed more sense to e value = over to value _ (test_leads _ _ sense to)

-- where the code stands, its place is led to from before
led : (steps : List Step) (at to t : ℕ) (code : List Step) → Stands steps at code → LeadsTo to code → to ≡ t → at + length code ≤ t → IsLed steps t
led steps at to t code h l same before = record {
  from = at + l.from;
  before = omega (arith, l.inside);
  leads = ap led_by (stands_at steps at code l.from l.inside h) ∙ l.leads ∙ ap Some same;
}

-- ---- expressions

module _ (p : Program) (most : ℕ) where
  at_most : (n : ℕ) (r : Right) → n + 1 + 1 ≤ most → n + 1 + right_takes r ≤ most
  at_most n right.Pending h = h
  at_most n (right.Number w) h = omega arith
  at_most n (right.Local i) h = omega arith

  -- two operands and what combines them
  binary : (O : List ℕ → List Step → Type 0) (at n : ℕ) (o : Binop) (a b : TExprTree) (xs ys : List Step) → length xs ≡ value_len p a → n + 1 + 1 ≤ most → Stacks p most O at n (n + 1) xs → Stacks p most O (second_at p at o a b) (n + 1) (n + 1 + 1) ys → Stacks p most O at n (n + 1) (binary_code p o a b xs ys)
  binary O at n o a b xs ys l few x y =
      let r = right_operand p o a b in
      let lefts = left_code o (value_late p a) (type_of a) (type_of b) in
      let owed = right_owed r (direct p b) (second_owed p o a b) (value_late p b) in
      pieces.both p most O at n (n + 1) (n + 1) (value_len p a) xs _ l x
      (pieces.both p most O _ (n + 1) (n + 1) (n + 1) (left_len o (type_of a) (type_of b)) lefts _ (lengths.length_left o (value_late p a) (type_of a) (type_of b))
      (ops.left p most O _ n o (value_late p a) (type_of a) (type_of b) (omega arith))
      (pieces.both p most O _ (n + 1) (n + 1 + right_takes r) (n + 1) (length (right_code r ys)) (right_code r ys) _ refl
      (ops.second p most O _ n r ys y)
      (ops.combined p most O _ n owed o (type_of a) (type_of b) (direct p b) (at_most n r few))))

  compares : (O : List ℕ → List Step → Type 0) (at n more : ℕ) (sense : Bool) (to : ℕ) (o : Binop) (a b : TExprTree) (xs ys : List Step) → length xs ≡ value_len p a → n + 1 + 1 ≤ most → Goes O to n → Stacks p most O at n (n + 1) xs → Stacks p most O (at + value_len p a) (n + 1) (n + 1 + 1) ys → Stacks p most O at n n (compare_code p more sense to o a b xs ys)
  compares O at n more sense to o a b xs ys l few goes x y =
      let r = right_operand p o a b in
      pieces.both p most O at n (n + 1) n (value_len p a) xs _ l x
      (pieces.both p most O _ (n + 1) (n + 1 + right_takes r) n (length (right_code r ys)) (right_code r ys) _ refl
      (ops.second p most O _ n r ys y)
      (pieces.branch p most O _ (n + 1 + right_takes r) n to _ refl refl (omega arith) (omega arith) (at_most n r few) goes))

  -- a value whose truth is tested
  tests : (O : List ℕ → List Step → Type 0) (at n cost : ℕ) (sense : Bool) (to : ℕ) (e : TExprTree) (value : List Step) → length value ≡ value_len p e → n + 1 ≤ most → Goes O to n → Stacks p most O at n (n + 1) value → Stacks p most O at n n (value ++ test_code (at + value_len p e) cost sense to)
  tests O at n cost sense to e value l few goes x =
      pieces.both p most O at n (n + 1) n (value_len p e) value _ l x (ops.tested p most O (at + value_len p e) cost n sense to few goes)

  -- the first operand of `&&` or `||`, the jump that it leads over, and the second one
  decides : (O : List ℕ → List Step → Type 0) (at n cost to la lb : ℕ) (b : Bool) (xs ys : List Step) → length xs ≡ la → length ys ≡ lb → n ≤ most → Goes O to n
      → ((O2 : List ℕ → List Step → Type 0) → Goes O2 (at + la + 1) n → Stacks p most O2 at n n xs)
      → ((O2 : List ℕ → List Step → Type 0) → Goes O2 to n → Stacks p most O2 (at + la + 1) n n ys)
      → Stacks p most O at n n (xs ++ costing cost (op.Jump (chosen b to (at + la + 1 + lb))) ∷ ys)
  decides O at n cost to la lb b xs ys ex ey few goes x y =
      pieces.closed p most O O2 at n n (xs ++ behind) (pieces.both p most O2 at n n n la xs behind ex first (pieces.both p most O2 (at + la) n n n 1 (skip ∷ []) ys refl mid last)) known where
        skip : Step
        skip = costing cost (op.Jump (chosen b to (at + la + 1 + lb)))

        behind : List Step
        behind = skip ∷ ys

        O2 : List ℕ → List Step → Type 0
        O2 = λ all steps. O all steps × (slice_get all (at + la + 1) ≡ Some n) × (slice_get all (at + la + 1 + lb) ≡ Some n)

        out : (c : Bool) → Goes O2 (chosen c to (at + la + 1 + lb)) n
        out true all steps o = goes all steps o.0
        out false all steps o = o.2

        first : Stacks p most O2 at n n xs
        first = x O2 (λ all steps o. o.1)

        mid : Stacks p most O2 (at + la) n n (skip ∷ [])
        mid = pieces.jump p most O2 (at + la) n (chosen b to (at + la + 1 + lb)) cost few (out b)

        last : Stacks p most O2 (at + la + 1) n n ys
        last = y O2 (λ all steps o. goes all steps o.0)

        known : (all : List ℕ) (steps : List Step) → Stands steps at (xs ++ behind) → Stands all at (first.heights ++ (mid.heights ++ last.heights)) → slice_get all (at + length (xs ++ behind)) ≡ Some n → O all steps → O2 all steps
        known all steps c h e o =
            let h1 = rest all at first.heights (mid.heights ++ last.heights) la (first.size ∙ ex) h in
            let h2 = rest all (at + la) mid.heights last.heights 1 mid.size h1 in
            let e1 : slice_get all (at + la + length behind) ≡ Some n = ends all at la n xs behind ex e in
            let e2 : slice_get all (at + la + 1 + length ys) ≡ Some n = ends all (at + la) 1 n (skip ∷ []) ys refl e1 in
            (o, last.starts all h2 e2, subst (λ k. slice_get all (at + la + 1 + k) ≡ Some n) ey e2)

  -- the value of `&&` or `||`
  logical : (O : List ℕ → List Step → Type 0) (at n la lb : ℕ) (b : Bool) (xs ys : List Step) → length xs ≡ la → length ys ≡ lb → n + 1 ≤ most → LeadsTo (at + la + lb + 2) ys
      → ((O2 : List ℕ → List Step → Type 0) → Goes O2 (decided_at b (at + la + lb)) n → Stacks p most O2 at n n xs)
      → ((O2 : List ℕ → List Step → Type 0) → Goes O2 (at + la + lb + 2) n → Stacks p most O2 (at + la) n n ys)
      → Stacks p most O at n (n + 1) (xs ++ (ys ++ truth_code (at + la + lb)))
  logical O at n la lb b xs ys ex ey few leads x y =
      pieces.closed p most O O2 at n (n + 1) (xs ++ behind) (pieces.both p most O2 at n n (n + 1) la xs behind ex first (pieces.both p most O2 (at + la) n n (n + 1) lb ys (truth_code (at + la + lb)) ey mid (ops.truth p most O2 (at + la + lb) n few (λ all steps o. o.3)))) known where
        behind : List Step
        behind = ys ++ truth_code (at + la + lb)

        O2 : List ℕ → List Step → Type 0
        O2 = λ all steps. O all steps × (slice_get all (at + la + lb) ≡ Some n) × (slice_get all (at + la + lb + 2) ≡ Some n) × IsLed steps (at + la + lb + 1 + 1)

        to : (c : Bool) → Goes O2 (decided_at c (at + la + lb)) n
        to true all steps o = o.1
        to false all steps o = o.2

        first : Stacks p most O2 at n n xs
        first = x O2 (to b)

        mid : Stacks p most O2 (at + la) n n ys
        mid = y O2 (λ all steps o. o.2)

        known : (all : List ℕ) (steps : List Step) → Stands steps at (xs ++ behind) → Stands all at (first.heights ++ (mid.heights ++ (n ∷ (n + 1) ∷ n ∷ []))) → slice_get all (at + length (xs ++ behind)) ≡ Some (n + 1) → O all steps → O2 all steps
        known all steps c h e o =
            let h1 = rest all at first.heights (mid.heights ++ (n ∷ (n + 1) ∷ n ∷ [])) la (first.size ∙ ex) h in
            let h2 = rest all (at + la) mid.heights (n ∷ (n + 1) ∷ n ∷ []) lb (mid.size ∙ ey) h1 in
            let c1 = front steps (at + la) ys (truth_code (at + la + lb)) (rest steps at xs behind la ex c) in
            let z : at + la + lb + 1 + 1 ≡ at + la + lb + 2 = omega arith in
            (o, h2.0, subst (λ k. slice_get all k ≡ Some n) z h2.1.1.0, led steps (at + la) (at + la + lb + 2) (at + la + lb + 1 + 1) ys c1 leads (sym z) (omega (arith, ey)))

  leaf : (O : List ℕ → List Step → Type 0) (at n : ℕ) (x : Step) → goes_on x.op ≡ true → leads_to x.op ≡ None → takes p x.op ≤ n → stack.behind p n x.op ≡ n + 1 → n + 1 ≤ most → Stacks p most O at n (n + 1) (x ∷ [])
  leaf O at n x g t none b few = pieces.plain p most O at n (n + 1) x g t none b (omega arith)

  one_on : (O : List ℕ → List Step → Type 0) (at n : ℕ) (x : Step) → goes_on x.op ≡ true → leads_to x.op ≡ None → takes p x.op ≡ 1 → stack.behind p (n + 1) x.op ≡ n + 1 → n + 1 ≤ most → Stacks p most O at (n + 1) (n + 1) (x ∷ [])
  one_on O at n x g t one b few = pieces.plain p most O at (n + 1) (n + 1) x g t (omega arith) b few

  value : (O : List ℕ → List Step → Type 0) (at owed n : ℕ) (e : TExprTree) → n + need e ≤ most → Stacks p most O at n (n + 1) (reach_code p at owed e) → Stacks p most O at n (n + 1) (value_code p at owed e)
  value O at owed n e few x = ops.value p most O at n (direct p e) owed (reach_code p at owed e) (is_loaded e) (late p e) (type_of e) (omega (arith, need_some e)) x

  -- a value, and what is done with it
  after : (O : List ℕ → List Step → Type 0) (at owed n m : ℕ) (e : TExprTree) (ys : List Step) → n + need e ≤ most → Stacks p most O at n (n + 1) (reach_code p at owed e) → ((at2 : ℕ) → Stacks p most O at2 (n + 1) m ys) → Stacks p most O at n m (value_code p at owed e ++ ys)
  after O at owed n m e ys few x y = pieces.both p most O at n (n + 1) m (length (value_code p at owed e)) (value_code p at owed e) ys refl (value O at owed n e few x) (y _)

  mutual
    pub reach : (O : List ℕ → List Step → Type 0) (at owed n : ℕ) (e : TExprTree) → Each (CallPasses p) e → n + need e ≤ most → Stacks p most O at n (n + 1) (reach_code p at owed e)
    reach O at owed n (ENumber ty w) h few = leaf O at n _ refl refl (omega arith) (omega arith) few
    reach O at owed n (ELiteral ty i) h few = leaf O at n _ refl refl (omega arith) (omega arith) few
    reach O at owed n (EGlobal ty i) h few = leaf O at n _ refl refl (omega arith) (omega arith) few
    reach O at owed n (ELocal ty i) h few = leaf O at n _ refl refl (omega arith) (omega arith) few
    reach O at owed n (EUn ty o e) h few =
        pieces.either p most O at n (n + 1) (takes_value o) _ _
        (λ y. after O at owed n (n + 1) e _ few (reach O at owed n e h.1 few) (λ at2. ops.unary p most O at2 n o (value_late p e) (type_of e) (omega (arith, need_some e))))
        (λ y. reach O at owed n e h.1 few)
    reach O at owed n (EBin ty o a b) h few =
        let fa : n + need a ≤ most = omega (arith, need_first o (need a) (need b)) in
        let fb : n + need b ≤ most = omega (arith, need_second o (need a) (need b)) in
        let la = jump_len p (stops o) a (value_len p a) in
        pieces.either p most O at n (n + 1) (is_logical o) _ _
        (λ y. logical O at n la (condition_len p b) (stops o) _ _
        (lengths.jump_length p at owed 1 (stops o) (decided_at (stops o) (at + la + condition_len p b)) a _ _ (lengths.value_length p at owed a))
        (lengths.jump_length p (at + la) 0 1 false (at + la + condition_len p b + 2) b _ _ (lengths.value_length p (at + la) 0 b))
        (omega (arith, need_some a))
        (jump_leads p (at + la) 0 1 false (at + la + condition_len p b + 2) b _)
        (λ O2 g. jumps O2 at owed 1 n (stops o) _ a _ h.1 fa g (value O2 at owed n a fa (reach O2 at owed n a h.1 fa)) (lengths.value_length p at owed a))
        (λ O2 g. jumps O2 (at + la) 0 1 n false _ b _ h.2 fb g (value O2 (at + la) 0 n b fb (reach O2 (at + la) 0 n b h.2 fb)) (lengths.value_length p (at + la) 0 b)))
        (λ y.
        let fb1 : n + 1 + need b ≤ most = omega (arith, need_both o (need a) (need b) y) in
        binary O at n o a b _ _ (lengths.value_length p at owed a) (omega (arith, need_some b)) (value O at owed n a fa (reach O at owed n a h.1 fa)) (value O (second_at p at o a b) (second_owed p o a b) (n + 1) b fb1 (reach O (second_at p at o a b) (second_owed p o a b) (n + 1) b h.2 fb1)))
    reach O at owed n (ECast ty e) h few = after O at owed n (n + 1) e _ few (reach O at owed n e h.1 few) (λ at2. ops.cast p most O at2 n (value_late p e) (type_of e) ty (omega (arith, need_some e)))
    reach O at owed n (EConvert ty e) h few = after O at owed n (n + 1) e _ few (reach O at owed n e h.1 few) (λ at2. ops.cast p most O at2 n (value_late p e) (type_of e) ty (omega (arith, need_some e)))
    reach O at owed n (ESize ty t) h few = leaf O at n _ refl refl (omega arith) (omega arith) few
    reach O at owed n (EIndex ty a b) h few =
        let fa : n + need a ≤ most = omega arith in
        let fb : n + 1 + need b ≤ most = omega arith in
        binary O at n Add a b _ _ (lengths.value_length p at owed a) (omega (arith, need_some b)) (value O at owed n a fa (reach O at owed n a h.1 fa)) (value O (second_at p at Add a b) (second_owed p Add a b) (n + 1) b fb (reach O (second_at p at Add a b) (second_owed p Add a b) (n + 1) b h.2 fb))
    reach O at owed n (EMember ty e i) h few =
        pieces.both p most O at n (n + 1) (n + 1) (length (reach_code p at owed e)) (reach_code p at owed e) _ refl (reach O at owed n e h.1 few) (one_on O _ n _ refl refl refl (omega arith) (omega (arith, need_some e)))
    reach O at owed n (EArrow ty e i) h few = after O at owed n (n + 1) e _ few (reach O at owed n e h.1 few) (λ at2. one_on O at2 n _ refl refl refl (omega arith) (omega (arith, need_some e)))
    reach O at owed n (ECall ty f all) h few = args O at owed n 0 n Plainly f all h.1 (omega arith) (omega (arith, h.0)) (omega arith) (omega arith)
    reach O at owed n (EGate ty f all) h few = args O at owed n 0 n ByGate f all h.1 (omega arith) (omega (arith, h.0)) (omega arith) (omega arith)
    reach O at owed n (EGetc ty) h few = leaf O at n _ refl refl (omega arith) (omega arith) few
    reach O at owed n (EPutc ty e) h few = after O at owed n (n + 1) e _ (omega arith) (reach O at owed n e h.1 (omega arith)) (λ at2. ops.told p most O at2 n _ 0 0 (omega arith))
    reach O at owed n (EDevLoad ty d r) h few = ops.asked p most O at n _ d r few
    reach O at owed n (EDevStore ty d r e) h few = after O at owed n (n + 1) e _ (omega arith) (reach O at owed n e h.1 (omega arith)) (λ at2. ops.told p most O at2 n _ d r (omega arith))
    reach O at owed n (ESpawn ty f e) h few = after O at owed n (n + 1) e _ (omega arith) (reach O at owed n e h.1 (omega arith)) (λ at2. one_on O at2 n _ refl refl refl (omega arith) (omega arith))
    reach O at owed n (ESwitch ty e) h few = after O at owed n (n + 1) e _ (omega arith) (reach O at owed n e h.1 (omega arith)) (λ at2. one_on O at2 n _ refl refl refl (omega arith) (omega arith))
    reach O at owed n (EMe ty) h few = leaf O at n _ refl refl (omega arith) (omega arith) few

    jumps : (O : List ℕ → List Step → Type 0) (at owed more n : ℕ) (sense : Bool) (to : ℕ) (e : TExprTree) (code : List Step) → Each (CallPasses p) e → n + need e ≤ most → Goes O to n → Stacks p most O at n (n + 1) code → length code ≡ value_len p e → Stacks p most O at n n (jump_code p at owed more sense to e code)
    jumps O at owed more n sense to (EUn ty Lnot e) code h few goes x l =
        jumps O at owed (more + 1) n (not sense) to e _ h.1 few goes (value O at owed n e few (reach O at owed n e h.1 few)) (lengths.value_length p at owed e)
    jumps O at owed more n sense to (EBin ty o a b) code h few goes x l =
        let fa : n + need a ≤ most = omega (arith, need_first o (need a) (need b)) in
        let fb : n + need b ≤ most = omega (arith, need_second o (need a) (need b)) in
        let la = jump_len p (not (stops o)) a (value_len p a) in
        pieces.either p most O at n n (is_logical o) _ _
        (λ y. decides O at n more to la (jump_len p sense b (value_len p b)) (beq sense (stops o)) _ _
        (lengths.jump_length p at owed 1 (not (stops o)) (at + la + 1) a _ _ (lengths.value_length p at owed a))
        (lengths.jump_length p (at + la + 1) 0 (more + 1) sense to b _ _ (lengths.value_length p (at + la + 1) 0 b))
        (omega arith) goes
        (λ O2 g. jumps O2 at owed 1 n (not (stops o)) _ a _ h.1 fa g (value O2 at owed n a fa (reach O2 at owed n a h.1 fa)) (lengths.value_length p at owed a))
        (λ O2 g. jumps O2 (at + la + 1) 0 (more + 1) n sense to b _ h.2 fb g (value O2 (at + la + 1) 0 n b fb (reach O2 (at + la + 1) 0 n b h.2 fb)) (lengths.value_length p (at + la + 1) 0 b)))
        (λ y. pieces.either p most O at n n (is_comparison o) _ _
        (λ z.
        let fb1 : n + 1 + need b ≤ most = omega (arith, need_both o (need a) (need b) y) in
        compares O at n more sense to o a b _ _ (lengths.value_length p at owed a) (omega (arith, need_some b)) goes (value O at owed n a fa (reach O at owed n a h.1 fa)) (value O (at + value_len p a) (value_late p a) (n + 1) b fb1 (reach O (at + value_len p a) (value_late p a) (n + 1) b h.2 fb1)))
        (λ z. tests O at n (more + value_late p (EBin ty o a b)) sense to (EBin ty o a b) code l (omega (arith, need_some a)) goes x))
    jumps O at owed more n sense to (EConvert ty e) code h few goes x l =
        pieces.either p most O at n n (tests_pointer (type_of e) ty) _ _
        (λ y. after O at owed n n e _ few (reach O at owed n e h.1 few) (λ at2. pieces.branch p most O at2 (n + 1) n to _ refl refl (omega arith) (omega arith) (omega (arith, need_some e)) goes))
        (λ y. tests O at n (more + value_late p (EConvert ty e)) sense to (EConvert ty e) code l (omega (arith, need_some e)) goes x)
    jumps O at owed more n sense to e code h few goes x l = tests O at n (more + value_late p e) sense to e code l (omega (arith, need_some e)) goes x

    -- arguments behind k others, and the call
    args : (O : List ℕ → List Step → Type 0) (at owed n k s : ℕ) (way : Way) (f : ℕ) (all : TExprTrees) → EachOfAll (CallPasses p) all → s ≡ n + k → s + count all ≡ n + (function_at p f).params → n + need_all k all ≤ most → s ≤ most → Stacks p most O at s (n + 1) (args_code p at owed way f all)
    args O at owed n k s way f NoTExprs h e c few room = ops.called p most O at s n _ way f (omega arith) room
    args O at owed n k s way f (MoreTExprs a more) h e c few room =
        let fa : s + need a ≤ most = omega arith in
        pieces.both p most O at s (s + 1) (n + 1) (value_len p a) (value_code p at owed a) _ (lengths.value_length p at owed a) (value O at owed s a fa (reach O at owed s a h.0 fa))
        (args O (at + value_len p a) (value_late p a) n (k + 1) (s + 1) way f more h.1 (omega arith) (omega arith) (omega arith) (omega (arith, need_some a)))

  pub valued : (O : List ℕ → List Step → Type 0) (at owed n : ℕ) (e : TExprTree) → Each (CallPasses p) e → n + need e ≤ most → Stacks p most O at n (n + 1) (value_code p at owed e)
  valued O at owed n e h few = value O at owed n e few (reach O at owed n e h few)

  pub condition : (O : List ℕ → List Step → Type 0) (at to : ℕ) (e : TExprTree) → Each (CallPasses p) e → need e ≤ most → Goes O to 0 → Stacks p most O at 0 0 (condition_code p at to e)
  condition O at to e h few goes = jumps O at 0 1 0 false to e _ h (omega arith) goes (valued O at 0 0 e h (omega arith)) (lengths.value_length p at 0 e)
