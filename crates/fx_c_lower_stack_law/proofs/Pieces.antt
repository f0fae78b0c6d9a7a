-- Pieces of code with the heights before their steps, and how they are put together.
use Rattle.std.proofs.Common.{◌≡◌, ◌⊎◌, inl, ℕ, ◌+◌, ◌<◌, ◌≤◌, Bool, true, false, List, [], ◌∷◌, ◌++◌, length, Option, Some, None, refl, sym, ap, ◌∙◌, subst, arith, length-append}
use Rattle.std.specs.Prelude.{slice_get}
use Rattle.fx_c_mean_model.specs.Programs.{Program}
use Rattle.fx_c_lin.specs.Ops.{Op, Step}
use Rattle.fx_c_lin.specs.Ops as op
use Rattle.fx_c_lower_model.specs.Steps.{costing, chosen}
use Rattle.fx_c_lower_stack_law.specs.Heights.{takes, behind, goes_on, leads_to}
use Rattle.fx_c_lower_stack_law.proofs.Stands.{Stands, front, rest}

-- ---- one step in a table of heights

abbrev pub led_by : Option Step → Option ℕ
led_by None = None
led_by (Some x) = leads_to x.op

-- a step before a place leads there
pub record IsLed (steps : List Step) (t : ℕ) : Type 0 where
  pub from : ℕ
  pub before : from < t
  pub leads : led_by (slice_get steps from) ≡ Some t

pub record IsRight (p : Program) (most : ℕ) (all : List ℕ) (steps : List Step) (at : ℕ) (o : Op) : Type 0 where
  pub count : ℕ
  pub here : slice_get all at ≡ Some count
  pub few : count ≤ most
  pub there : takes p o ≤ count
  pub on : goes_on o ≡ true → slice_get all (at + 1) ≡ Some (behind p count o)
  pub to : (t : ℕ) → leads_to o ≡ Some t → slice_get all t ≡ Some (behind p count o)
  pub last : o ≡ op.Return → count ≤ 1
  -- the height behind it is what it leaves, or what an earlier step brings there
  pub next : (h : ℕ) → slice_get all (at + 1) ≡ Some h → (h ≡ behind p count o) ⊎ IsLed steps (at + 1)

abbrev pub AreRight : Program → ℕ → List ℕ → List Step → ℕ → List Step → Type 0
AreRight p most all steps at [] = Unit {0}
AreRight p most all steps at (x ∷ xs) = IsRight p most all steps at x.op × AreRight p most all steps (at + 1) xs

-- ---- pieces

-- Code at a place, with n operands pending before it and m behind it: the heights before its steps, which are right in
-- each table where they stand with m behind them and of which O is known.
pub record Stacks (p : Program) (most : ℕ) (O : List ℕ → List Step → Type 0) (at n m : ℕ) (code : List Step) : Type 0 where
  pub heights : List ℕ
  pub size : length heights ≡ length code
  pub starts : (all : List ℕ) → Stands all at heights → slice_get all (at + length code) ≡ Some m → slice_get all at ≡ Some n
  pub fits : (all : List ℕ) (steps : List Step) → Stands steps at code → Stands all at heights → slice_get all (at + length code) ≡ Some m → O all steps → AreRight p most all steps at code

-- that so many are pending at a place
abbrev pub Goes : (List ℕ → List Step → Type 0) → ℕ → ℕ → Type 0
Goes O to n = (all : List ℕ) (steps : List Step) → O all steps → slice_get all to ≡ Some n

pub moved : (all : List ℕ) (i j m : ℕ) → i ≡ j → slice_get all i ≡ Some m → slice_get all j ≡ Some m
moved all i j m e h = subst (λ k. slice_get all k ≡ Some m) e h

-- where two pieces end is where the second one ends
pub ends : (all : List ℕ) (at l m : ℕ) (xs ys : List Step) → length xs ≡ l → slice_get all (at + length (xs ++ ys)) ≡ Some m → slice_get all (at + l + length ys) ≡ Some m
ends all at l m xs ys e h = moved all _ _ m (omega (arith, length-append xs ys, e)) h

pub some_same : (x y : ℕ) → Some x ≡ Some y → x ≡ y
some_same x y e = cc

module _ (p : Program) (most : ℕ) where
  pub right_both : (all : List ℕ) (steps : List Step) (at : ℕ) (xs ys : List Step) → AreRight p most all steps at xs → AreRight p most all steps (at + length xs) ys → AreRight p most all steps at (xs ++ ys)
  right_both all steps at [] ys h k = let z : at + length {A = Step} [] ≡ at = omega arith in subst (λ n. AreRight p most all steps n ys) z k
  right_both all steps at (x ∷ xs) ys h k =
      let z : at + length (x ∷ xs) ≡ at + 1 + length xs = omega arith in
      (h.0, right_both all steps (at + 1) xs ys h.1 (subst (λ n. AreRight p most all steps n ys) z k))

  module _ (O : List ℕ → List Step → Type 0) where
    pub none : (at n : ℕ) → Stacks p most O at n n []
    none at n = record {
      heights = [];
      size = refl;
      starts = λ all h e. moved all _ _ n (omega arith) e;
      fits = λ all steps c h e o. tt;
    }

    -- ---- two pieces

    module _ (at n k m l : ℕ) (xs ys : List Step) (e : length xs ≡ l) (x : Stacks p most O at n k xs) (y : Stacks p most O (at + l) k m ys) where
      pub both_size : length (x.heights ++ y.heights) ≡ length (xs ++ ys)
      both_size = omega (arith, length-append x.heights y.heights, length-append xs ys, x.size, y.size)

      -- the heights of the second piece, and what is pending between them
      pub second : (all : List ℕ) → Stands all at (x.heights ++ y.heights) → Stands all (at + l) y.heights
      second all h = rest all at x.heights y.heights l (x.size ∙ e) h

      pub seam : (all : List ℕ) → Stands all at (x.heights ++ y.heights) → slice_get all (at + length (xs ++ ys)) ≡ Some m → slice_get all (at + l) ≡ Some k
      seam all h z = y.starts all (second all h) (ends all at l m xs ys e z)

      pub both_starts : (all : List ℕ) → Stands all at (x.heights ++ y.heights) → slice_get all (at + length (xs ++ ys)) ≡ Some m → slice_get all at ≡ Some n
      both_starts all h z = x.starts all (front all at x.heights y.heights h) (moved all _ _ k (ap (λ i. at + i) (sym e)) (seam all h z))

      pub both_fits : (all : List ℕ) (steps : List Step) → Stands steps at (xs ++ ys) → Stands all at (x.heights ++ y.heights) → slice_get all (at + length (xs ++ ys)) ≡ Some m → O all steps → AreRight p most all steps at (xs ++ ys)
      both_fits all steps c h z o =
          let i : at + l ≡ at + length xs = ap (λ j. at + j) (sym e) in
          right_both all steps at xs ys
          (x.fits all steps (front steps at xs ys c) (front all at x.heights y.heights h) (moved all _ _ k i (seam all h z)) o)
          (subst (λ j. AreRight p most all steps j ys) i (y.fits all steps (rest steps at xs ys l e c) (second all h) (ends all at l m xs ys e z) o))

      abbrev pub both : Stacks p most O at n m (xs ++ ys)
      both = record { heights = x.heights ++ y.heights; size = both_size; starts = both_starts; fits = both_fits }

    -- one of two codes
    pub either : (at n m : ℕ) (b : Bool) (xs ys : List Step) → (b ≡ true → Stacks p most O at n m xs) → (b ≡ false → Stacks p most O at n m ys) → Stacks p most O at n m (chosen b xs ys)
    either at n m true xs ys x y = x refl
    either at n m false xs ys x y = y refl

    -- ---- one step

    pub plain_right : (o : Op) (n m : ℕ) → goes_on o ≡ true → leads_to o ≡ None → takes p o ≤ n → behind p n o ≡ m → n ≤ most → (all : List ℕ) (steps : List Step) (at : ℕ) → slice_get all at ≡ Some n → slice_get all (at + 1) ≡ Some m → IsRight p most all steps at o
    plain_right o n m g t there b few all steps at here on = record {
      count = n;
      here = here;
      few = few;
      there = there;
      on = λ i. on ∙ ap Some (sym b);
      to = λ i j. absurd (none_some i (sym t ∙ j));
      last = λ r. absurd (false_true (sym (ap goes_on r) ∙ g));
      next = λ i j. inl (some_same i m (sym j ∙ on) ∙ sym b);
    } where
      none_some : (i : ℕ) → None ≡ Some i → ⊥
      none_some i e = cc

      false_true : false ≡ true → ⊥
      false_true e = cc

    -- an op that goes on to the next one alone
    pub plain : (at n m : ℕ) (x : Step) → goes_on x.op ≡ true → leads_to x.op ≡ None → takes p x.op ≤ n → behind p n x.op ≡ m → n ≤ most → Stacks p most O at n m (x ∷ [])
    plain at n m x g t there b few = record {
      heights = n ∷ [];
      size = refl;
      starts = λ all h e. h.0;
      fits = λ all steps c h e o. (plain_right x.op n m g t there b few all steps at h.0 e, tt);
    }

    -- an op that goes on to the next one or leads to a place
    pub branch : (at n m to : ℕ) (x : Step) → goes_on x.op ≡ true → leads_to x.op ≡ Some to → takes p x.op ≤ n → behind p n x.op ≡ m → n ≤ most → Goes O to m → Stacks p most O at n m (x ∷ [])
    branch at n m to x g t there b few goes = record {
      heights = n ∷ [];
      size = refl;
      starts = λ all h e. h.0;
      fits = λ all steps c h e o. (
        record {
          count = n;
          here = h.0;
          few = few;
          there = there;
          on = λ i. e ∙ ap Some (sym b);
          to = λ i j. moved all _ _ (behind p n x.op) (some_same to i (sym t ∙ j)) (goes all steps o ∙ ap Some (sym b));
          last = λ r. absurd (false_true (sym (ap goes_on r) ∙ g));
          next = λ i j. inl (some_same i m (sym j ∙ e) ∙ sym b);
        },
        tt,
      );
    } where
      false_true : false ≡ true → ⊥
      false_true e = cc

    pub jump : (at n to cost : ℕ) → n ≤ most → Goes O to n → Stacks p most O at n n (costing cost (op.Jump to) ∷ [])
    jump at n to cost few goes = record {
      heights = n ∷ [];
      size = refl;
      starts = λ all h e. h.0;
      fits = λ all steps c h e o. (
        record {
          count = n;
          here = h.0;
          few = few;
          there = omega arith;
          on = λ i. e ∙ ap Some none_taken;
          to = λ i j. moved all _ _ (behind p n (op.Jump to)) (some_same to i j) (goes all steps o ∙ ap Some none_taken);
          last = λ r. absurd (cc);
          next = λ i j. inl (some_same i n (sym j ∙ e) ∙ none_taken);
        },
        tt,
      );
    } where
      none_taken : n ≡ behind p n (op.Jump to)
      none_taken = omega arith

    -- a return, behind which nothing is pending where there is code
    pub return_right : (all : List ℕ) (steps : List Step) (at n : ℕ) → n ≤ 1 → n ≤ most → slice_get all at ≡ Some n → ((h : ℕ) → slice_get all (at + 1) ≡ Some h → h ≡ 0) → IsRight p most all steps at op.Return
    return_right all steps at n one few here after = record {
      count = n;
      here = here;
      few = few;
      there = omega arith;
      on = λ i. absurd (cc);
      to = λ i j. absurd (cc);
      last = λ r. one;
      next = λ i j. inl (after i j);
    }

    pub returns : (at n cost : ℕ) → n ≤ 1 → n ≤ most → Stacks p most O at n 0 (costing cost op.Return ∷ [])
    returns at n cost one few = record {
      heights = n ∷ [];
      size = refl;
      starts = λ all h e. h.0;
      fits = λ all steps c h e o. (return_right all steps at n one few h.0 (λ i j. some_same i 0 (sym j ∙ e)), tt);
    }

    -- what is known where the piece stands need not be known before
    pub closed : (O2 : List ℕ → List Step → Type 0) (at n m : ℕ) (code : List Step) (x : Stacks p most O2 at n m code) → ((all : List ℕ) (steps : List Step) → Stands steps at code → Stands all at x.heights → slice_get all (at + length code) ≡ Some m → O all steps → O2 all steps) → Stacks p most O at n m code
    closed O2 at n m code x known = record {
      heights = x.heights;
      size = x.size;
      starts = x.starts;
      fits = λ all steps c h e o. x.fits all steps c h e (known all steps c h e o);
    }
