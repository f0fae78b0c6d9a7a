-- Memory that keeps its objects, and in which none comes to life.
use Rattle.std.proofs.Common.{◌≡◌, ◌≢◌, ◌⊎◌, inl, inr, ℕ, zero, suc, ◌+◌, ◌<◌, ◌≤◌, Bool, true, false, List, [], ◌∷◌, ◌++◌, length, slice_get, Option, Some, None, refl, sym, ap, ◌∙◌, subst, arith}
use Rattle.std.specs.Prelude.{slice_set}
use Rattle.std.proofs.lemmas.Bool.{cases_eq, cases_lt}
use Rattle.fx_c_mean_blocks.specs.declared.value.Value.{Value}
use Rattle.fx_c_mean_blocks.specs.declared.value.Value.TheVariants.{Address}
use Rattle.fx_c_mean_blocks.specs.declared.value.Cell.{Cell}
use Rattle.fx_c_mean_blocks.specs.declared.value.Pointer.{Pointer}
use Rattle.fx_c_mean_blocks.specs.declared.block.Object.{Object}
use Rattle.fx_c_mean_blocks.specs.Blocks.{set_cells, put_cells, written, dead_at, without}

-- ---- lists

pub get_same : {A : Type 0} (xs : List A) (i : ℕ) (x y : A) → slice_get xs i ≡ Some y → slice_get (slice_set xs i x) i ≡ Some x
get_same [] i x y e = cc
get_same (z ∷ zs) zero x y e = refl
get_same (z ∷ zs) (suc i) x y e = get_same zs i x y e

pub get_other : {A : Type 0} (xs : List A) (i j : ℕ) (x : A) → i ≢ j → slice_get (slice_set xs j x) i ≡ slice_get xs i
get_other [] i j x d = refl
get_other (y ∷ ys) zero zero x d = absurd (d refl)
get_other (y ∷ ys) zero (suc j) x d = refl
get_other (y ∷ ys) (suc i) zero x d = refl
get_other (y ∷ ys) (suc i) (suc j) x d = get_other ys i j x (λ e. d (ap suc e))

pub get_before : {A : Type 0} (xs ys : List A) (i : ℕ) → i < length xs → slice_get (xs ++ ys) i ≡ slice_get xs i
get_before [] ys i l = absurd (omega arith)
get_before (x ∷ xs) ys zero l = refl
get_before (x ∷ xs) ys (suc i) l = get_before xs ys i (omega arith)

pub get_behind : {A : Type 0} (xs ys : List A) (i : ℕ) → slice_get (xs ++ ys) (length xs + i) ≡ slice_get ys i
get_behind [] ys i = let e : 0 + i ≡ i = omega arith in ap (slice_get ys) e
get_behind (x ∷ xs) ys i = let e : length (x ∷ xs) + i ≡ suc (length xs + i) = omega arith in ap (slice_get (x ∷ (xs ++ ys))) e ∙ get_behind xs ys i

pub is_within : {A : Type 0} (xs : List A) (i : ℕ) (x : A) → slice_get xs i ≡ Some x → i < length xs
is_within [] i x e = cc
is_within (y ∷ ys) zero x e = omega arith
is_within (y ∷ ys) (suc i) x e = omega (arith, is_within ys i x e)

-- ---- memory

-- the same objects and more, of the same sizes
abbrev pub Keeps : List Object → List Object → Type 0
Keeps m n = (i : ℕ) (o : Object) → slice_get m i ≡ Some o → (u : Object) × (slice_get n i ≡ Some u) × (u.size ≡ o.size)

-- what is live was live before
abbrev pub Wakes : List Object → List Object → Type 0
Wakes m n = (i : ℕ) (u : Object) → slice_get n i ≡ Some u → u.live ≡ true → (o : Object) × (slice_get m i ≡ Some o) × (o.live ≡ true)

pub keeps_all : (m : List Object) → Keeps m m
keeps_all m i o e = (o, e, refl)

pub wakes_none : (m : List Object) → Wakes m m
wakes_none m i u e live = (u, e, live)

pub keeps_more : (m n l : List Object) → Keeps m n → Keeps n l → Keeps m l
keeps_more m n l h k i o e =
    let (u, f, s) = h i o e in
    let (w, g, t) = k i u f in
    (w, g, t ∙ s)

wakes_more : (m n l : List Object) → Wakes m n → Wakes n l → Wakes m l
wakes_more m n l h k i w g live =
    let (u, f, a) = k i w g live in
    h i u f a

set_keeps : (m : List Object) (at : ℕ) (o new : Object) → slice_get m at ≡ Some o → new.size ≡ o.size → Keeps m (slice_set m at new)
set_keeps m at o new e size i u f =
    elim (cases_eq i at) [
      | inl same ↦
          let both : Some o ≡ Some u = sym e ∙ ap (slice_get m) (sym same) ∙ f in
          let one : o ≡ u = cc in
          (new, ap (slice_get (slice_set m at new)) same ∙ get_same m at new o e, size ∙ ap (λ (x : Object). x.size) one)
      | inr other ↦ (u, get_other m i at new other ∙ f, refl)
    ]

set_wakes : (m : List Object) (at : ℕ) (o new : Object) → slice_get m at ≡ Some o → (new.live ≡ true → o.live ≡ true) → Wakes m (slice_set m at new)
set_wakes m at o new e live i u f is =
    elim (cases_eq i at) [
      | inl same ↦
          let both : Some new ≡ Some u = sym (get_same m at new o e) ∙ ap (slice_get (slice_set m at new)) (sym same) ∙ f in
          let one : new ≡ u = cc in
          (o, ap (slice_get m) same ∙ e, live (ap (λ (x : Object). x.live) one ∙ is))
      | inr other ↦ (u, sym (get_other m i at new other) ∙ f, is)
    ]

put_keeps : (m : List Object) (q : Pointer) (cells : List Cell) (x : Option Object) → slice_get m q.object ≡ x → Keeps m (put_cells m q cells x)
put_keeps m q cells None e = keeps_all m
put_keeps m q cells (Some o) e = set_keeps m q.object o (record o { cells = set_cells o.cells q.offset cells }) e refl

put_wakes : (m : List Object) (q : Pointer) (cells : List Cell) (x : Option Object) → slice_get m q.object ≡ x → Wakes m (put_cells m q cells x)
put_wakes m q cells None e = wakes_none m
put_wakes m q cells (Some o) e = set_wakes m q.object o (record o { cells = set_cells o.cells q.offset cells }) e (λ h. h)

pub written_keeps : (m : List Object) (v : Value) (cells : List Cell) → Keeps m (written m v cells)
written_keeps m (Address q) cells = put_keeps m q cells (slice_get m q.object) refl
written_keeps m _ cells = keeps_all m

pub written_wakes : (m : List Object) (v : Value) (cells : List Cell) → Wakes m (written m v cells)
written_wakes m (Address q) cells = put_wakes m q cells (slice_get m q.object) refl
written_wakes m _ cells = wakes_none m

pub appended_keeps : (m n : List Object) → Keeps m (m ++ n)
appended_keeps m n i o e = (o, get_before m n i (is_within m i o e) ∙ e, refl)

-- ---- objects that die

dead_keeps : (m : List Object) (at : ℕ) (x : Option Object) → slice_get m at ≡ x → Keeps m (dead_at m at x)
dead_keeps m at None e = keeps_all m
dead_keeps m at (Some o) e = set_keeps m at o (record o { live = false; cells = [] }) e refl

dead_wakes : (m : List Object) (at : ℕ) (x : Option Object) → slice_get m at ≡ x → Wakes m (dead_at m at x)
dead_wakes m at None e = wakes_none m
dead_wakes m at (Some o) e = set_wakes m at o (record o { live = false; cells = [] }) e (λ h. absurd (no h))
  where
    no : false ≡ true → ⊥
    no h = cc

is_dead : (m : List Object) (at : ℕ) (x : Option Object) (u : Object) → slice_get m at ≡ x → slice_get (dead_at m at x) at ≡ Some u → u.live ≡ true → ⊥
is_dead m at None u e f live = cc
is_dead m at (Some o) u e f live =
    let both : Some (record o { live = false; cells = [] }) ≡ Some u = sym (get_same m at (record o { live = false; cells = [] }) o e) ∙ f in
    let one : record o { live = false; cells = [] } ≡ u = cc in
    let no : false ≡ true = ap (λ (x : Object). x.live) one ∙ live in
    cc

pub without_keeps : (m : List Object) (from n : ℕ) → Keeps m (without m from n)
without_keeps m from zero = keeps_all m
without_keeps m from (suc n) =
    let next = dead_at m from (slice_get m from) in
    keeps_more m next (without next (from + 1) n) (dead_keeps m from (slice_get m from) refl) (without_keeps next (from + 1) n)

pub without_wakes : (m : List Object) (from n : ℕ) → Wakes m (without m from n)
without_wakes m from zero = wakes_none m
without_wakes m from (suc n) =
    let next = dead_at m from (slice_get m from) in
    wakes_more m next (without next (from + 1) n) (dead_wakes m from (slice_get m from) refl) (without_wakes next (from + 1) n)

-- what is live is none of them
pub without_none : (m : List Object) (from n i : ℕ) (u : Object) → slice_get (without m from n) i ≡ Some u → u.live ≡ true → (i < from) ⊎ (from + n ≤ i)
without_none m from zero i u e live = elim (cases_lt i from) [ inl less ↦ inl less | inr le ↦ inr (omega arith) ]
without_none m from (suc n) i u e live =
    let next = dead_at m from (slice_get m from) in
    elim (without_none next (from + 1) n i u e live) [
      | inl less ↦ elim (cases_lt i from) [
        | inl lower ↦ inl lower
        | inr le ↦
            let same : i ≡ from = omega arith in
            let (o, f, is) = without_wakes next (from + 1) n i u e live in
            absurd (is_dead m from (slice_get m from) o refl (ap (slice_get next) (sym same) ∙ f) is)
      ]
      | inr le ↦ inr (omega arith)
    ]
