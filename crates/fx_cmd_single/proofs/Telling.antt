-- What objects tell over several calls, and what a step's operations put out and take in.
use Rattle.std.proofs.Common.{◌≡◌, ℕ, ◌%◌, ◌≤◌, List, [], ◌∷◌, ◌++◌, length, Option, Some, None, Bool, true, false, cond, refl, ap, sym, ◌∙◌, subst, arith, append_assoc, append-nil}
use Rattle.std.specs.Prelude.{not, ◌&&◌, ◌==◌}
use Rattle.fx_base.specs.declared.device_op.DeviceOp.{DeviceOp}
use Rattle.fx_base.specs.Told.{Told}
use Rattle.fx_c_mean.specs.declared.runner.Walk.{Walk}
use Rattle.fx_c_mean.specs.declared.runner.Walk.TheVariants as walk
use Rattle.fx_c_mean.specs.Walks.{says, takes_input}
use Rattle.fx_cmd_base.specs.Streams.{Gained}
use Rattle.fx_cmd_single.specs.Streams.{output_of, outputs, input_of, inputs, Reads, LostOne}

pub told_same : {A : Type 0} (R : A → A → Type 0) → ((x : A) → R x x) → (o : Option A) → Told R o o
told_same R same None = tt
told_same R same (Some x) = same x

pub told_map : {A : Type 0} (R Q : A → A → Type 0) → ((x y : A) → R x y → Q x y) → (a b : Option A) → Told R a b → Told Q a b
told_map R Q f None None h = tt
told_map R Q f None (Some y) h = h
told_map R Q f (Some x) None h = h
told_map R Q f (Some x) (Some y) h = f x y h

pub told_join : {A : Type 0} (R S Q : A → A → Type 0) → ((x y z : A) → R x y → S y z → Q x z) → (a b c : Option A) → Told R a b → Told S b c → Told Q a c
told_join R S Q f None None None g h = tt
told_join R S Q f None None (Some z) g h = h
told_join R S Q f None (Some y) c g h = absurd g
told_join R S Q f (Some x) None c g h = absurd g
told_join R S Q f (Some x) (Some y) None g h = h
told_join R S Q f (Some x) (Some y) (Some z) g h = f x y z g h

-- ---- what operations put out and take in

pub outputs-append : (xs ys : List DeviceOp) → outputs (xs ++ ys) ≡ outputs xs ++ outputs ys
outputs-append [] ys = refl
outputs-append (x ∷ xs) ys = ap (λ p. output_of x ++ p) (outputs-append xs ys) ∙ sym (append_assoc (output_of x) (outputs xs) (outputs ys))

pub inputs-append : (xs ys : List DeviceOp) → inputs (xs ++ ys) ≡ inputs xs ++ inputs ys
inputs-append [] ys = refl
inputs-append (x ∷ xs) ys = ap (λ p. input_of x ++ p) (inputs-append xs ys) ∙ sym (append_assoc (input_of x) (inputs xs) (inputs ys))

one_op : (op : DeviceOp) (ops : List DeviceOp) → length (op ∷ ops) ≤ 1 → ops ≡ []
one_op op [] h = refl
one_op op (next ∷ more) h = absurd (omega (arith, h))

-- by the console's test and by whether it is a store
quiet : (x w : Bool) (v : ℕ) → walk.Went ≡ elim (x && w) as (λ _. Walk) [ true ↦ walk.Output v | false ↦ walk.Went ] → x && not w ≡ false → (cond (x && w) (v ∷ []) [] ++ [] ≡ []) × (x && not w ≡ false)
quiet true true v e h = cc
quiet true false v e h = cc
quiet false w v e h = (refl, refl)

spoken : (x w : Bool) (v b : ℕ) → walk.Output b ≡ elim (x && w) as (λ _. Walk) [ true ↦ walk.Output v | false ↦ walk.Went ] → (cond (x && w) (v ∷ []) [] ++ [] ≡ b ∷ []) × (x && not w ≡ false)
spoken true true v b e = (ap (λ k. k ∷ []) (same v b e), refl) where
  same : (v b : ℕ) → walk.Output b ≡ walk.Output v → v ≡ b
  same v b e = cc
spoken true false v b e = cc
spoken false w v b e = cc

no_input : (t : Bool) (v : ℕ) → t ≡ false → cond t (v ∷ []) [] ++ [] ≡ []
no_input true v e = cc
no_input false v e = refl

pub went_puts : (made : List DeviceOp) → length made ≤ 1 → walk.Went ≡ says made → takes_input made ≡ false → (outputs made ≡ []) × (inputs made ≡ [])
went_puts [] one e h = (refl, refl)
went_puts (op ∷ ops) one e h =
    let q = quiet ((op.device == 0) && (op.reg == 0)) op.write (op.value % 256) e h in
    let none = one_op op ops one in
    (ap (λ l. output_of op ++ outputs l) none ∙ q.0, ap (λ l. input_of op ++ inputs l) none ∙ no_input ((op.device == 0) && (op.reg == 0) && not op.write) op.value q.1)

pub output_puts : (made : List DeviceOp) (b : ℕ) → length made ≤ 1 → walk.Output b ≡ says made → (outputs made ≡ b ∷ []) × (inputs made ≡ [])
output_puts [] b one e = cc
output_puts (op ∷ ops) b one e =
    let q = spoken ((op.device == 0) && (op.reg == 0)) op.write (op.value % 256) b e in
    let none = one_op op ops one in
    (ap (λ l. output_of op ++ outputs l) none ∙ q.0, ap (λ l. input_of op ++ inputs l) none ∙ no_input ((op.device == 0) && (op.reg == 0) && not op.write) op.value q.1)

-- ---- over several steps

pub reads-append : (xs ys start middle left : List ℕ) → Reads xs start middle → Reads ys middle left → Reads (xs ++ ys) start left
reads-append [] ys start middle left g h = subst (λ s. Reads ys s left) g h
reads-append (v ∷ vs) ys [] middle left g h = (g.0, reads-append vs ys [] middle left g.1 h)
reads-append (v ∷ vs) ys (b ∷ bs) middle left g h = (g.0, reads-append vs ys bs middle left g.1 h)

pub gained-append : (xs ys start middle now : List ℕ) → Gained xs start middle → Gained ys middle now → Gained (xs ++ ys) start now
gained-append xs ys start middle now g h = h ∙ ap (λ l. l ++ ys) g ∙ append_assoc start xs ys

-- ---- one step

pub nothing_put : (out : List ℕ) → out ≡ [] → (x : List ℕ) → Gained out x x
nothing_put out none x = sym (ap (λ o. x ++ o) none ∙ append-nil x)

pub nothing_read : (values : List ℕ) → values ≡ [] → (x : List ℕ) → Reads values x x
nothing_read values none x = subst (λ v. Reads v x x) (sym none) refl

pub lost_one : (answer : ℕ) (left after : List ℕ) → Reads (answer ∷ []) left after → LostOne left after
lost_one answer [] after h = h.1
lost_one answer (b ∷ bs) after h = h.1
