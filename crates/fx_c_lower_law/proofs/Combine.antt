-- Operators of two operands, and conversions.
use Rattle.std.proofs.Common.{◌≡◌, Bool, true, false, not, ◌&&◌, ℕ, zero, suc, ◌+◌, ◌⊎◌, inl, inr, List, [], ◌∷◌, Some, Result, Ok, Err, if◌then◌else◌, refl, sym, ap, ◌∙◌, subst, arith}
use Rattle.std.specs.Prelude.{slice_get, nat_eq, pos}
use Rattle.std.proofs.lemmas.Bool.Decides.{nat_tests}
use Rattle.fx_c_ast.specs.declared.operator.IntType.{IntType}
use Rattle.fx_c_ast.specs.declared.operator.IntType.TheVariants.{Long}
use Rattle.fx_c_ast.specs.declared.operator.Unop.{Unop}
use Rattle.fx_c_ast.specs.declared.operator.Unop.TheVariants.{Lnot, Deref, Addr}
use Rattle.fx_c_ast.specs.declared.operator.Binop.{Binop}
use Rattle.fx_c_ast.specs.declared.operator.Binop.TheVariants.{Add, Sub, Eq, Ne}
use Rattle.fx_c_ast.specs.CheckedTrees.{TyTree, VoidTy, IntTy, StructTy, PtrTy, ArrayTy}
use Rattle.fx_c_mean_blocks.specs.declared.value.Value.{Value}
use Rattle.fx_c_mean_blocks.specs.declared.value.Value.TheVariants.{Void, Number, Null, Address}
use Rattle.fx_c_mean_blocks.specs.declared.block.Object.{Object}
use Rattle.fx_c_mean_blocks.specs.declared.fault.Fault.{Fault}
use Rattle.fx_c_mean_blocks.specs.declared.fault.Fault.TheVariants as fault
use Rattle.fx_c_mean_blocks.specs.Integers.{converted, truth}
use Rattle.fx_c_mean_blocks.specs.Blocks.{is_comparable, moved}
use Rattle.fx_c_mean_blocks.specs.Operators.{unary_result, conversion, binary_result, integers, difference, pointer_result}
use Rattle.fx_c_mean_model.specs.declared.rights.Rights.{Rights}
use Rattle.fx_c_mean_model.specs.Programs.{Program, size_in}
use Rattle.fx_c_mean_model.specs.States.{Call, Frame, Act, Apply, Convert, Step, Ask, Tell, Combine, Does}
use Rattle.fx_c_mean_model.specs.Steps as source
use Rattle.fx_c_mean_model.specs.Steps.{is_true, operation}
use Rattle.fx_c_mean_model.specs.Expected.{is_ask}
use Rattle.fx_c_lin.specs.declared.op.Right.{Right}
use Rattle.fx_c_lin.specs.declared.op.Right.TheVariants as right
use Rattle.fx_c_lin.specs.declared.op.Compared.{Compared}
use Rattle.fx_c_lin.specs.declared.op.Compared.TheVariants.{Pointers}
use Rattle.fx_c_lin.specs.Ops as op
use Rattle.fx_c_lin.specs.Machine as lin
use Rattle.fx_c_lin.specs.Machine.{Saved, At, word_of, pointer_of_word}
use Rattle.fx_c_lower_model.specs.Steps.{costing, unary_code, member_offset, is_comparison, jumping, opposite, compared}
use Rattle.fx_c_lower_law.specs.Fits.{FitsPair, FitsIndex}
use Rattle.fx_c_lower_law.proofs.Places.{HasAt}
use Rattle.fx_c_lower_law.proofs.Relation.{Knows, places_of, left_word, right_word, if_widened, is_wide, combine_op, takes}
use Rattle.fx_c_lower_law.proofs.Relation as relation
use Rattle.fx_c_lower_law.proofs.Agrees.{Agrees, Counts, Compares, long_counts, wide_counts, own_counts, add_agrees, sub_agrees, integers_agree, difference_agrees, pointers_agree, compares}
use Rattle.fx_c_lower_law.proofs.Results as results
use Rattle.fx_c_lower_law.proofs.Acts as acts
use Rattle.fx_c_lower_law.proofs.Truths as truths

-- operators of one operand that have an op
abbrev takes_op : Unop → Bool
takes_op Deref = false
takes_op Addr = false
takes_op o = true

abbrev is_sub : Binop → Bool
is_sub Sub = true
is_sub o = false

not_sub : (o : Binop) (x y : Result Value Fault) → is_sub o ≡ false → o ≡ Sub ⊎ Agrees x y → Agrees x y
not_sub o x y e (inl q) = let z : is_sub o ≡ true = ap is_sub q in absurd cc
not_sub o x y e (inr h) = h

op_load : (s t : TyTree) (p : Program) (r : Right) (o : Binop) → lin.is_load (combine_op p r o s t) ≡ false
op_load (IntTy i) (IntTy j) p r o = refl
op_load (PtrTy s) (IntTy i) p r Sub = refl
op_load (PtrTy s) (IntTy i) p r o = refl
op_load (IntTy i) (PtrTy t) p r o = refl
op_load (PtrTy s) (PtrTy t) p r Sub = refl
op_load (PtrTy s) (PtrTy t) p r o = refl
op_load s t p r o = refl

op_cross : (s t : TyTree) (p : Program) (r : Right) (o : Binop) (cs : List Saved) → lin.more_cost (combine_op p r o s t) cs ≡ 0
op_cross (IntTy i) (IntTy j) p r o cs = refl
op_cross (PtrTy s) (IntTy i) p r Sub cs = refl
op_cross (PtrTy s) (IntTy i) p r o cs = refl
op_cross (IntTy i) (PtrTy t) p r o cs = refl
op_cross (PtrTy s) (PtrTy t) p r Sub cs = refl
op_cross (PtrTy s) (PtrTy t) p r o cs = refl
op_cross s t p r o cs = refl

-- the word of the right operand
abbrev right_value : Right → TyTree → TyTree → Value → Value
right_value right.Pending s t w = right_word s t (word_of w)
right_value (right.Number n) s t w = Number n
right_value (right.Local n) s t w = word_of w

plain_left : (s t : TyTree) (o : Binop) (v : Value) → is_comparison o ≡ true → FitsPair o s t → left_word s t v ≡ v
plain_left (IntTy i) (PtrTy t) Add v e fits = absurd cc
plain_left (IntTy i) (PtrTy t) o v e fits = absurd fits
plain_left s t o v e fits = refl

and_true : (b : Bool) → (b && true) ≡ b
and_true true = refl
and_true false = refl

null_live : (b : Bool) → Compares (if b then Ok (Number (truth true)) else Err fault.Undefined) (if b && true then Ok (Number (truth true)) else Err fault.Undefined) (if b && true then Ok (Number (truth false)) else Err fault.Undefined)
null_live true = inl (true, refl, refl, refl)
null_live false = inr refl

-- a pointer that is tested is compared with null
null_compares : (memory : List Object) (t : TyTree) (j : IntType) (v : Value) → Compares (conversion memory (PtrTy t) (IntTy j) v) (lin.comparison memory Ne Pointers (word_of v) (Number 0)) (lin.comparison memory Eq Pointers (word_of v) (Number 0))
null_compares memory t j Null = inl (false, refl, refl, refl)
null_compares memory t j (Address q) = null_live (is_comparable memory (Address q))
null_compares memory t j v = inr refl

truth_not : (b : Bool) → is_true (Number (truth b)) ≡ not (not b)
truth_not true = refl
truth_not false = refl

module _ (p : Program) (r : Rights) (all : List (List op.Step)) (s : source.State) (us : List lin.Thread) (cs : List Saved) (waiting : relation.ThreadsAt p all (places_of s.memory) s.threads us) (knows : Knows p (places_of s.memory) s.call) where
  abbrev c : Call
  c = s.call

  abbrev K : List op.Step
  K = relation.K p all c

  abbrev Res : ℕ → Act → List Frame → ℕ → List Value → Type 0
  Res owed now rest at stack = results.Result2 p r all owed s now rest (results.built p r all s us cs (At at stack))

  abbrev ActAt : ℕ → Act → List Frame → ℕ → List Value → Type 0
  ActAt owed now rest at stack = relation.ActAt p all s.memory c owed now rest at stack

  abbrev Awaits : (owed : ℕ) → List Frame → ℕ → List Value → Type 0
  Awaits owed rest at stack = relation.Awaits p all c owed rest at stack

  abbrev Turns : List Frame → (cost : ℕ) → Bool → ℕ → List Value → Type 0
  Turns rest cost b to under = relation.Turns p all c rest cost b to under

  abbrev Leaves : List Frame → Type 0
  Leaves rest = relation.Leaves p all (places_of s.memory) rest cs

  abbrev RightIs : TyTree → TyTree → Right → Value → List Value → List Value → Type 0
  RightIs a b x w stack under = relation.RightIs p all s.memory c a b x w stack under

  -- ---- the right operand

  with_right_is : (x : Right) (a b : TyTree) (w : Value) (stack under : List Value) → RightIs a b x w stack under → (m : lin.State) → m.memory ≡ s.memory → m.call ≡ c → (go : Value → List Value → lin.Outcome) → lin.with_right p m x stack go ≡ go (right_value x a b w) under
  with_right_is right.Pending a b w stack under h m k l go = rw h refl
  with_right_is (right.Number n) a b w stack under h m k l go = rw h.0 refl
  with_right_is (right.Local n) a b w stack under h m k l go = rw (h.0, k, l, h.1.1, h.3) refl

  counts : (x : Right) (t : TyTree) (i : IntType) (w : Value) (stack under : List Value) (m : lin.State) → m.call ≡ c → FitsIndex i → RightIs (PtrTy t) (IntTy i) x w stack under → Counts i (lin.index_type p m x) w (right_value x (PtrTy t) (IntTy i) w)
  counts right.Pending t i w stack under m l fits h = wide_counts i fits w
  counts (right.Number n) t i w stack under m l fits h = rw h.3 (long_counts i fits w h.1 h.2)
  counts (right.Local n) t i w stack under m l fits h = rw (l, h.1.1) (own_counts i w)

  plain_right : (a b : TyTree) (o : Binop) (x : Right) (w : Value) (stack under : List Value) → is_comparison o ≡ true → FitsPair o a b → RightIs a b x w stack under → right_value x a b w ≡ word_of w
  plain_right (IntTy i) (IntTy j) o right.Pending w stack under e fits h = refl
  plain_right (IntTy i) (IntTy j) o (right.Number n) w stack under e fits h = ap Number h.3 ∙ sym h.2
  plain_right (IntTy i) (IntTy j) o (right.Local n) w stack under e fits h = refl
  plain_right (PtrTy i) (PtrTy j) o right.Pending w stack under e fits h = refl
  plain_right (PtrTy i) (PtrTy j) o (right.Number n) w stack under e fits h = ap Number h.3 ∙ sym h.2
  plain_right (PtrTy i) (PtrTy j) o (right.Local n) w stack under e fits h = refl
  plain_right (PtrTy t) (IntTy i) Add x w stack under e fits h = absurd cc
  plain_right (PtrTy t) (IntTy i) Sub x w stack under e fits h = absurd cc
  plain_right (PtrTy t) (IntTy i) o x w stack under e fits h = absurd fits
  plain_right (IntTy i) (PtrTy t) Add x w stack under e fits h = absurd cc
  plain_right (IntTy i) (PtrTy t) o x w stack under e fits h = absurd fits
  plain_right a b o x w stack under e fits h = absurd fits

  same_right : (a b : TyTree) (x : Right) (w : Value) (stack under : List Value) → relation.number_in_op a b ≡ (λ n. n) → right_word a b (word_of w) ≡ word_of w → RightIs a b x w stack under → right_value x a b w ≡ word_of w
  same_right a b right.Pending w stack under e q h = q
  same_right a b (right.Number n) w stack under e q h = ap Number (h.3 ∙ ap (λ (g : ℕ → ℕ). g h.1) e) ∙ sym h.2
  same_right a b (right.Local n) w stack under e q h = refl

  -- what the op gives
  record Gives (a b : TyTree) (o : Binop) (x : Right) (v w : Value) (at : ℕ) (stack under : List Value) : Type 0 where
    y : Result Value Fault
    runs : (answer : ℕ) → lin.perform p r answer (results.built p r all s us cs (At at stack)) at (combine_op p x o a b) stack ≡ lin.pushes (results.built p r all s us cs (At at stack)) at under y
    agrees : Agrees (binary_result p.structs s.memory o a b v w) y

  by_right : (x : Right) (a b : TyTree) (w : Value) (at : ℕ) (stack under : List Value) → RightIs a b x w stack under → (go : Value → List Value → lin.Outcome) → lin.with_right p (results.built p r all s us cs (At at stack)) x stack go ≡ go (right_value x a b w) under
  by_right x a b w at stack under h go = with_right_is x a b w stack under h (results.built p r all s us cs (At at stack)) refl refl go

  combines : (a b : TyTree) (o : Binop) (x : Right) (v w : Value) (at : ℕ) (stack under : List Value) → FitsPair o a b → RightIs a b x w stack (left_word a b (word_of v) ∷ under) → takes x o a b ≡ true → Gives a b o x v w at stack under
  combines (IntTy i) (IntTy j) o x v w at stack under fits h e =
      record {
        y = integers o i (word_of v) (right_value x (IntTy i) (IntTy j) w);
        runs = λ answer. by_right x (IntTy i) (IntTy j) w at stack (word_of v ∷ under) h (lin.binary (results.built p r all s us cs (At at stack)) at o i);
        agrees = rw (same_right (IntTy i) (IntTy j) x w stack (word_of v ∷ under) refl refl h) (integers_agree o i v w);
      }
  combines (PtrTy t) (IntTy i) Add x v w at stack under fits h e =
      record {
        y = lin.indexed s.memory (size_in p t) (lin.index_type p (results.built p r all s us cs (At at stack)) x) (word_of v) (right_value x (PtrTy t) (IntTy i) w);
        runs = λ answer. by_right x (PtrTy t) (IntTy i) w at stack (word_of v ∷ under) h (lin.index (results.built p r all s us cs (At at stack)) at (size_in p t) (lin.index_type p (results.built p r all s us cs (At at stack)) x));
        agrees = add_agrees s.memory (size_in p t) i _ v w (right_value x (PtrTy t) (IntTy i) w) (counts x t i w stack (word_of v ∷ under) (results.built p r all s us cs (At at stack)) refl fits h);
      }
  combines (PtrTy t) (IntTy i) Sub right.Pending v w at stack under fits h e =
      record { y = lin.indexed_back s.memory (size_in p t) (word_of v) (right_word (PtrTy t) (IntTy i) (word_of w)); runs = λ answer. rw h refl; agrees = sub_agrees s.memory (size_in p t) i v w (right_word (PtrTy t) (IntTy i) (word_of w)) (wide_counts i fits w) }
  combines (PtrTy t) (IntTy i) Sub x v w at stack under fits h e = absurd cc
  combines (PtrTy t) (IntTy i) o x v w at stack under fits h e = absurd fits
  combines (IntTy i) (PtrTy t) Add right.Pending v w at stack under fits h e =
      record { y = lin.indexed s.memory (size_in p t) Long (word_of w) (left_word (IntTy i) (PtrTy t) (word_of v)); runs = λ answer. rw h refl; agrees = add_agrees s.memory (size_in p t) i Long w v (left_word (IntTy i) (PtrTy t) (word_of v)) (wide_counts i fits v) }
  combines (IntTy i) (PtrTy t) Add x v w at stack under fits h e = absurd cc
  combines (IntTy i) (PtrTy t) o x v w at stack under fits h e = absurd fits
  combines (PtrTy a) (PtrTy b) Sub right.Pending v w at stack under fits h e =
      record { y = difference (size_in p a) (word_of v) (word_of w); runs = λ answer. rw h refl; agrees = difference_agrees (size_in p a) v w }
  combines (PtrTy a) (PtrTy b) Sub x v w at stack under fits h e = absurd cc
  combines (PtrTy a) (PtrTy b) o x v w at stack under fits h e =
      record {
        y = pointer_result s.memory o 1 (pointer_of_word (word_of v)) (pointer_of_word (right_value x (PtrTy a) (PtrTy b) w));
        runs = λ answer. by_right x (PtrTy a) (PtrTy b) w at stack (word_of v ∷ under) h (lin.compare_pointers (results.built p r all s us cs (At at stack)) at o);
        agrees = subst (λ z. Agrees (pointer_result s.memory o (size_in p a) v w) (pointer_result s.memory o 1 (pointer_of_word (word_of v)) (pointer_of_word z))) (sym (same_right (PtrTy a) (PtrTy b) x w stack (word_of v ∷ under) refl refl h)) (not_sub o _ _ refl (pointers_agree o s.memory (size_in p a) v w));
      }
  combines a b o x v w at stack under fits h e = absurd fits

  agrees_same : (rest : List Frame) (at : ℕ) (stack under : List Value) (x y : Result Value Fault) → Agrees x y → Leaves rest → Awaits 0 rest (at + 1) under → results.Same p r all (source.gives_result s rest x) (lin.pushes (results.built p r all s us cs (At at stack)) at under y)
  agrees_same rest at stack under x y (inl e) leaves h = rw e (acts.tried p r all s us cs waiting knows rest at stack under x leaves h)
  agrees_same rest at stack under x y (inr e) leaves h = rw e (inr (refl, tt))

  -- ---- a comparison that is a condition

  compare_sure : (sense t : Bool) (o : Binop) (of : Compared) (x : Right) (a b : Value) (at to : ℕ) (stack under : List Value) → ((m : lin.State) → m.memory ≡ s.memory → m.call ≡ c → (go : Value → List Value → lin.Outcome) → lin.with_right p m x stack go ≡ go b (a ∷ under)) → lin.comparison s.memory o of a b ≡ Ok (Number (truth t)) → lin.comparison s.memory (opposite o) of a b ≡ Ok (Number (truth (not t))) → relation.Surely p all s.memory c (op.CompareJump (jumping sense o) of x to) at stack (if sense then (if t then to else at + 1) else (if t then at + 1 else to)) under
  compare_sure false true o of x a b at to stack under by e q = record { runs = λ r2 m answer k l. by m k l (lin.compare_jump m at o of to) ∙ rw (k, e) refl; loads = refl; crosses = λ cs2. refl }
  compare_sure false false o of x a b at to stack under by e q = record { runs = λ r2 m answer k l. by m k l (lin.compare_jump m at o of to) ∙ rw (k, e) refl; loads = refl; crosses = λ cs2. refl }
  compare_sure true true o of x a b at to stack under by e q = record { runs = λ r2 m answer k l. by m k l (lin.compare_jump m at (opposite o) of to) ∙ rw (k, q) refl; loads = refl; crosses = λ cs2. refl }
  compare_sure true false o of x a b at to stack under by e q = record { runs = λ r2 m answer k l. by m k l (lin.compare_jump m at (opposite o) of to) ∙ rw (k, q) refl; loads = refl; crosses = λ cs2. refl }

  compare_pass : (owed : ℕ) (now : Act) (rest : List Frame) (at : ℕ) (stack under : List Value) (sense t : Bool) (more to : ℕ) (o : Binop) (of : Compared) (x : Right) (a b : Value) → ((m : lin.State) → m.memory ≡ s.memory → m.call ≡ c → (go : Value → List Value → lin.Outcome) → lin.with_right p m x stack go ≡ go b (a ∷ under)) → lin.comparison s.memory o of a b ≡ Ok (Number (truth t)) → lin.comparison s.memory (opposite o) of a b ≡ Ok (Number (truth (not t))) → slice_get K at ≡ Some (costing (1 + more + owed) (op.CompareJump (jumping sense o) of x to)) → Turns rest more sense to under → Turns rest more (not sense) (at + 1) under → ((answer : ℕ) → source.perform p r answer s (Does now rest) ≡ source.gives s rest (Number (truth t))) → source.act_extra p (Does now rest) ≡ 0 → is_ask (Does now rest) ≡ false → Leaves rest → Res owed now rest at stack
  compare_pass owed now rest at stack under sense t more to o of x a b by e q has turn other gives extra ask leaves =
      let m : 1 + more + owed ≡ more + (owed + 1) = omega arith in
      let here = has ∙ ap (λ k. Some (costing k (op.CompareJump (jumping sense o) of x to))) m in
      go sense t here (compare_sure sense t o of x a b at to stack under by e q) turn other gives where
        go : (sense t : Bool) → slice_get K at ≡ Some (costing (more + (owed + 1)) (op.CompareJump (jumping sense o) of x to)) → relation.Surely p all s.memory c (op.CompareJump (jumping sense o) of x to) at stack (if sense then (if t then to else at + 1) else (if t then at + 1 else to)) under → Turns rest more sense to under → Turns rest more (not sense) (at + 1) under → ((answer : ℕ) → source.perform p r answer s (Does now rest) ≡ source.gives s rest (Number (truth t))) → Res owed now rest at stack
        go true true here sure turn other gives = truths.pass p r all s us cs waiting knows owed now rest at stack (Number 1) _ more to to under here sure (inl refl) turn gives extra ask leaves
        go true false here sure turn other gives = truths.pass p r all s us cs waiting knows owed now rest at stack (Number 0) _ more (at + 1) (at + 1) under here sure (inl refl) other gives extra ask leaves
        go false true here sure turn other gives = truths.pass p r all s us cs waiting knows owed now rest at stack (Number 1) _ more (at + 1) (at + 1) under here sure (inl refl) other gives extra ask leaves
        go false false here sure turn other gives = truths.pass p r all s us cs waiting knows owed now rest at stack (Number 0) _ more to to under here sure (inl refl) turn gives extra ask leaves

  -- ---- two operands

  pub combine : (o : Binop) (a b : TyTree) (v w : Value) (rest : List Frame) (owed at : ℕ) (stack : List Value) → Leaves rest → ActAt owed (Combine o a b v w) rest at stack → Res owed (Combine o a b v w) rest at stack
  combine o a b v w rest owed at stack leaves h = on h.4 where
    on : relation.CombinesAt p all c owed (λ at stack. Awaits 0 rest at stack) (λ cost b to under. Turns rest cost b to under) h.0 o a b at h.1 → Res owed (Combine o a b v w) rest at stack
    on (inl k) =
        let g = combines a b o h.0 v w at stack h.1 h.2 h.3 k.2 in
        acts.made p r all s us cs waiting knows owed (Combine o a b v w) rest at stack (costing (1 + owed) (combine_op p h.0 o a b)) k.0.0 (omega arith) (omega (arith, op_cross a b p h.0 o cs)) (op_load a b p h.0 o)
        (λ answer. rw (g.runs answer) (agrees_same rest at stack h.1 (binary_result p.structs s.memory o a b v w) g.y g.agrees leaves k.1))
    on (inr k) = by (compares a b p o s.memory v w k.0 h.2) where
      by : Compares (binary_result p.structs s.memory o a b v w) (lin.comparison s.memory o (compared a) (word_of v) (word_of w)) (lin.comparison s.memory (opposite o) (compared a) (word_of v) (word_of w)) → Res owed (Combine o a b v w) rest at stack
      by (inl z) =
          compare_pass owed (Combine o a b v w) rest at stack h.1 k.1.0 z.0 k.1.1 k.1.2 o (compared a) h.0 (word_of v) (word_of w)
          (λ m mem call go. with_right_is h.0 a b w stack (left_word a b (word_of v) ∷ h.1) h.3 m mem call go ∙ ap (λ y. go y (left_word a b (word_of v) ∷ h.1)) (plain_right a b o h.0 w stack _ k.0 h.2 h.3) ∙ ap (λ y. go (word_of w) (y ∷ h.1)) (plain_left a b o (word_of v) k.0 h.2))
          z.2 z.3 k.1.3.0 k.1.4 k.1.5 (λ answer. ap (λ y. source.gives_result s rest y) z.1) refl refl leaves
      by (inr e) = results.Breaks (λ answer. ap (λ y. source.gives_result s rest y) e) refl refl

  -- ---- one operand

  plain_apply : (o : Unop) (ty : TyTree) (v : Value) (rest : List Frame) (owed at : ℕ) (under : List Value) → takes_op o ≡ true → Leaves rest → HasAt K at (unary_code o owed ty) → Awaits 0 rest (at + 1) under → Res owed (Apply o ty v) rest at (word_of v ∷ under)
  plain_apply Deref ty v rest owed at under e leaves has go = absurd cc
  plain_apply Addr ty v rest owed at under e leaves has go = absurd cc
  plain_apply o (IntTy i) (Number w) rest owed at under e leaves has go =
      acts.made p r all s us cs waiting knows owed (Apply o (IntTy i) (Number w)) rest at (Number w ∷ under) _ has.0 (omega arith) (omega arith) refl (λ answer. acts.tried p r all s us cs waiting knows rest at (Number w ∷ under) under (unary_result o (IntTy i) (Number w)) leaves go)
  plain_apply o ty v rest owed at under e leaves has go =
      acts.made p r all s us cs waiting knows owed (Apply o ty v) rest at (word_of v ∷ under) _ has.0 (omega arith) (omega arith) refl (λ answer. inr (refl, tt))

  -- `!` before a jump
  lnot_pass : (ty : TyTree) (v : Value) (rest : List Frame) (owed at : ℕ) (stack : List Value) → Leaves rest → relation.Judged p all s.memory c owed (relation.LnotTurns p all (λ cost b to under. Turns rest cost b to under)) v at stack → Res owed (Apply Lnot ty v) rest at stack
  lnot_pass (IntTy i) (Number w) rest owed at stack leaves h =
      truths.pass p r all s us cs waiting knows owed (Apply Lnot (IntTy i) (Number w)) rest at stack (Number (truth (nat_eq w 0))) h.0 h.8.0 h.2 h.3 h.4 (truths.one_less p r all s us cs waiting knows h.1 h.8.0 owed at h.0 h.8.1 h.5) h.6 h.7
      (subst (λ b. Turns rest h.8.0 b h.3 h.4) (sym (truth_not (nat_eq w 0))) h.8.2) (λ answer. refl) refl refl leaves
  lnot_pass ty v rest owed at stack leaves h = results.Breaks (λ answer. refl) refl refl

  pub apply : (o : Unop) (ty : TyTree) (v : Value) (rest : List Frame) (owed at : ℕ) (stack : List Value) → Leaves rest → ActAt owed (Apply o ty v) rest at stack → Res owed (Apply o ty v) rest at stack
  apply Deref ty v rest owed at stack leaves h = rw h.1 (acts.silent p r all s us cs waiting knows rest owed (Apply Deref ty v) at v h.0 (λ answer. refl) refl refl leaves h.2)
  apply Addr ty v rest owed at stack leaves h = rw h.1 (acts.silent p r all s us cs waiting knows rest owed (Apply Addr ty v) at v h.0 (λ answer. refl) refl refl leaves h.2)
  apply Lnot ty v rest owed at stack leaves (inl h) = rw h.1 (plain_apply Lnot ty v rest owed at h.0 refl leaves h.2 h.3)
  apply Lnot ty v rest owed at stack leaves (inr h) = lnot_pass ty v rest owed at stack leaves h
  apply o ty v rest owed at stack leaves h = rw h.1 (plain_apply o ty v rest owed at h.0 refl leaves h.2 h.3)

  -- ---- conversions

  -- a pointer that is tested, as a value
  tested : (t : TyTree) (j : IntType) (v : Value) (rest : List Frame) (at : ℕ) (under : List Value) → Leaves rest → Awaits 0 rest (at + 1) under → results.Same p r all (source.gives_result s rest (conversion s.memory (PtrTy t) (IntTy j) v)) (lin.perform p r 0 (results.built p r all s us cs (At at (word_of v ∷ under))) at (op.PtrCompare Ne (right.Number 0)) (word_of v ∷ under))
  tested t j (Address q) rest at under leaves h =
      rw (and_true (is_comparable s.memory (Address q))) (acts.tried p r all s us cs waiting knows rest at (Address q ∷ under) under (if is_comparable s.memory (Address q) then Ok (Number 1) else Err fault.Undefined) leaves h)
  tested t j Null rest at under leaves h = acts.tried p r all s us cs waiting knows rest at (Number 0 ∷ under) under (Ok (Number 0)) leaves h
  tested t j v rest at under leaves h = inr (refl, tt)

  -- and before a jump
  null_pass : (t : TyTree) (j : IntType) (v : Value) (rest : List Frame) (owed at : ℕ) (under : List Value) → Leaves rest → relation.ComparedAt p all c owed (relation.null_op p all) (λ cost b to under. Turns rest cost b to under) at under → Res owed (Convert (PtrTy t) (IntTy j) v) rest at (word_of v ∷ under)
  null_pass t j v rest owed at under leaves h = by (null_compares s.memory t j v) where
    by : Compares (conversion s.memory (PtrTy t) (IntTy j) v) (lin.comparison s.memory Ne Pointers (word_of v) (Number 0)) (lin.comparison s.memory Eq Pointers (word_of v) (Number 0)) → Res owed (Convert (PtrTy t) (IntTy j) v) rest at (word_of v ∷ under)
    by (inl z) =
        compare_pass owed (Convert (PtrTy t) (IntTy j) v) rest at (word_of v ∷ under) under h.0 z.0 h.1 h.2 Ne Pointers (right.Number 0) (word_of v) (Number 0) (λ m mem call go. refl)
        z.2 z.3 h.3.0 h.4 h.5 (λ answer. ap (λ y. source.gives_result s rest y) z.1) refl refl leaves
    by (inr e) = results.Breaks (λ answer. ap (λ y. source.gives_result s rest y) e) refl refl

  null_token : (i : IntType) (t : TyTree) (w : ℕ) (rest : List Frame) (owed at : ℕ) (under : List Value) → Leaves rest → Awaits (owed + 1) rest at under → Res owed (Convert (IntTy i) (PtrTy t) (Number w)) rest at (Number w ∷ under)
  null_token i t zero rest owed at under leaves h = acts.silent p r all s us cs waiting knows rest owed (Convert (IntTy i) (PtrTy t) (Number 0)) at Null under (λ answer. refl) refl refl leaves h
  null_token i t (suc w) rest owed at under leaves h =
      let e : nat_eq (suc w) 0 ≡ false = grind (arith, nat_tests) in
      results.Breaks (λ answer. rw e refl) refl refl

  null_given : (i : IntType) (t : TyTree) (w n : ℕ) (rest : List Frame) (owed at : ℕ) (stack : List Value) → Leaves rest → Number w ≡ Number n → relation.Given p all c owed n rest at stack → Res owed (Convert (IntTy i) (PtrTy t) (Number w)) rest at stack
  null_given i t zero n rest owed at stack leaves q h = acts.given p r all s us cs waiting knows owed (Convert (IntTy i) (PtrTy t) (Number 0)) rest at stack Null n q (λ answer. refl) refl refl leaves h
  null_given i t (suc w) n rest owed at stack leaves q h =
      let e : nat_eq (suc w) 0 ≡ false = grind (arith, nat_tests) in
      results.Breaks (λ answer. rw e refl) refl refl

  abbrev number_in : Value → ℕ
  number_in (Number n) = n
  number_in v = 0

  pub convert : (from to : TyTree) (v : Value) (rest : List Frame) (owed at : ℕ) (stack : List Value) → Leaves rest → ActAt owed (Convert from to v) rest at stack → Res owed (Convert from to v) rest at stack
  convert (IntTy i) (IntTy j) (Number w) rest owed at stack leaves (inl h) =
      rw h.1 (acts.made p r all s us cs waiting knows owed (Convert (IntTy i) (IntTy j) (Number w)) rest at _ _ h.2.0.0 (omega arith) (omega arith) refl (λ answer. acts.gave p r all s us cs waiting knows rest at (at + 1) (Number (converted i j w)) (Number w ∷ h.0) h.0 leaves h.2.1))
  convert (IntTy i) (IntTy j) (Number w) rest owed at stack leaves (inr h) =
      acts.given p r all s us cs waiting knows owed (Convert (IntTy i) (IntTy j) (Number w)) rest at stack (Number (converted i j w)) (converted i j h.0) (ap (λ x. Number (converted i j (number_in x))) h.1) (λ answer. refl) refl refl leaves h.2
  convert (IntTy i) (IntTy j) v rest owed at stack leaves h = results.Breaks (λ answer. refl) refl refl
  convert (IntTy i) (PtrTy t) (Number w) rest owed at stack leaves (inl h) = rw h.1 (null_token i t w rest owed at h.0 leaves h.2)
  convert (IntTy i) (PtrTy t) (Number w) rest owed at stack leaves (inr h) = null_given i t w h.0 rest owed at stack leaves h.1 h.2
  convert (PtrTy t) (PtrTy u) v rest owed at stack leaves (inl h) = rw h.1 (acts.silent p r all s us cs waiting knows rest owed (Convert (PtrTy t) (PtrTy u) v) at v h.0 (λ answer. refl) refl refl leaves h.2)
  convert (PtrTy t) (PtrTy u) v rest owed at stack leaves (inr h) = acts.given p r all s us cs waiting knows owed (Convert (PtrTy t) (PtrTy u) v) rest at stack v h.0 h.1 (λ answer. refl) refl refl leaves h.2
  convert (ArrayTy t n) (PtrTy u) v rest owed at stack leaves (inl h) = rw h.1 (acts.silent p r all s us cs waiting knows rest owed (Convert (ArrayTy t n) (PtrTy u) v) at v h.0 (λ answer. refl) refl refl leaves h.2)
  convert (ArrayTy t n) (PtrTy u) v rest owed at stack leaves (inr h) = acts.given p r all s us cs waiting knows owed (Convert (ArrayTy t n) (PtrTy u) v) rest at stack v h.0 h.1 (λ answer. refl) refl refl leaves h.2
  convert (PtrTy t) (IntTy j) v rest owed at stack leaves (inl h) =
      rw h.1 (acts.made p r all s us cs waiting knows owed (Convert (PtrTy t) (IntTy j) v) rest at _ _ h.2.0.0 (omega arith) (omega arith) refl (λ answer. tested t j v rest at h.0 leaves h.2.1))
  convert (PtrTy t) (IntTy j) v rest owed at stack leaves (inr h) = rw h.1 (null_pass t j v rest owed at h.0 leaves h.2)
  convert from to v rest owed at stack leaves h = results.Breaks (λ answer. refl) refl refl

  -- ---- members and devices

  pub member : (struct : TyTree) (n : ℕ) (v : Value) (rest : List Frame) (owed at : ℕ) (stack : List Value) → Leaves rest → ActAt owed (Step struct n v) rest at stack → Res owed (Step struct n v) rest at stack
  member struct n (Address q) rest owed at stack leaves h =
      rw h.1 (acts.made p r all s us cs waiting knows owed (Step struct n (Address q)) rest at _ _ h.2.0.0 (omega arith) (omega arith) refl (λ answer. rw (offset_is struct) (acts.tried p r all s us cs waiting knows rest at (Address q ∷ h.0) h.0 (moved s.memory (Address q) (pos (member_offset p struct n))) leaves h.2.1))) where
        offset_is : (t : TyTree) → source.member_of p t n ≡ pos (member_offset p t n)
        offset_is (StructTy k) = refl
        offset_is VoidTy = refl
        offset_is (IntTy i) = refl
        offset_is (PtrTy t) = refl
        offset_is (ArrayTy t k) = refl
  member struct n v rest owed at stack leaves h = rw h.1 (acts.made p r all s us cs waiting knows owed (Step struct n v) rest at _ _ h.2.0.0 (omega arith) (omega arith) refl (λ answer. inl refl))

  device_gave : (device register answer : ℕ) (rest : List Frame) (at : ℕ) (stack : List Value) → Leaves rest → Awaits 0 rest (at + 1) stack → results.Same p r all (source.asked s rest device register answer) (lin.asked (results.built p r all s us cs (At at stack)) at stack device register answer)
  device_gave device register answer rest at stack leaves h = results.gave p r all s us cs waiting rest (at + 1) (Number answer) stack (operation device register false answer ∷ []) (At at stack) leaves knows h

  pub ask : (device register : ℕ) (rest : List Frame) (owed at : ℕ) (stack : List Value) → Leaves rest → ActAt owed (Ask device register) rest at stack → Res owed (Ask device register) rest at stack
  ask zero zero rest owed at stack leaves h = acts.made p r all s us cs waiting knows owed (Ask 0 0) rest at _ _ h.0.0 (omega arith) (omega arith) refl (λ answer. device_gave 0 0 answer rest at stack leaves h.1)
  ask zero (suc n) rest owed at stack leaves h = acts.made p r all s us cs waiting knows owed (Ask 0 (suc n)) rest at _ _ h.0.0 (omega arith) (omega arith) refl (λ answer. device_gave 0 (suc n) answer rest at stack leaves h.1)
  ask (suc d) n rest owed at stack leaves h = acts.made p r all s us cs waiting knows owed (Ask (suc d) n) rest at _ _ h.0.0 (omega arith) (omega arith) refl (λ answer. device_gave (suc d) n answer rest at stack leaves h.1)

  device_told : (device register : ℕ) (v : Value) (rest : List Frame) (at : ℕ) (under : List Value) → Leaves rest → Awaits 0 rest (at + 1) under → results.Same p r all (source.told s rest device register v) (lin.told (results.built p r all s us cs (At at (word_of v ∷ under))) at under device register (word_of v))
  device_told device register (Number w) rest at under leaves h = results.gave p r all s us cs waiting rest (at + 1) Void under (operation device register true w ∷ []) (At at (Number w ∷ under)) leaves knows h
  device_told device register v rest at under leaves h = inr (refl, tt)

  pub tell : (device register : ℕ) (v : Value) (rest : List Frame) (owed at : ℕ) (stack : List Value) → Leaves rest → ActAt owed (Tell device register v) rest at stack → Res owed (Tell device register v) rest at stack
  tell zero zero v rest owed at stack leaves h = rw h.1 (acts.made p r all s us cs waiting knows owed (Tell 0 0 v) rest at _ _ h.2.0.0 (omega arith) (omega arith) refl (λ answer. device_told 0 0 v rest at h.0 leaves h.2.1))
  tell zero (suc n) v rest owed at stack leaves h = rw h.1 (acts.made p r all s us cs waiting knows owed (Tell 0 (suc n) v) rest at _ _ h.2.0.0 (omega arith) (omega arith) refl (λ answer. device_told 0 (suc n) v rest at h.0 leaves h.2.1))
  tell (suc d) n v rest owed at stack leaves h = rw h.1 (acts.made p r all s us cs waiting knows owed (Tell (suc d) n v) rest at _ _ h.2.0.0 (omega arith) (omega arith) refl (λ answer. device_told (suc d) n v rest at h.0 leaves h.2.1))
