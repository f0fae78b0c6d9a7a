-- Places in lists that grow.
use Rattle.std.proofs.Common.{◌≡◌, ℕ, zero, suc, ◌<◌, ◌≤◌, List, [], ◌∷◌, ◌++◌, length, take, slice_get, slice_set, slice_index_or, Some, refl, arith}

-- each element of a list stands at its place in another
abbrev pub Before : {A : Type 0} → List A → List A → Type 0
Before {A} xs ys = (n : ℕ) (x : A) → slice_get xs n ≡ Some x → slice_get ys n ≡ Some x

pub before_append : {A : Type 0} (xs ys : List A) → Before xs (xs ++ ys)
before_append [] ys n x h = cc
before_append (z ∷ xs) ys zero x h = h
before_append (z ∷ xs) ys (suc n) x h = before_append xs ys n x h

pub there : {A : Type 0} (xs : List A) (n : ℕ) (x : A) → slice_get xs n ≡ Some x → n < length xs
there [] n x h = cc
there (z ∷ xs) zero x h = omega arith
there (z ∷ xs) (suc n) x h = omega (arith, there xs n x h)

pub some_at : {A : Type 0} (xs : List A) (n : ℕ) → n < length xs → (x : A) × (slice_get xs n ≡ Some x)
some_at [] n less = absurd (omega arith)
some_at (z ∷ xs) zero less = (z, refl)
some_at (z ∷ xs) (suc n) less = some_at xs n (omega arith)

pub last_at : {A : Type 0} (xs : List A) (x : A) → slice_get (xs ++ x ∷ []) (length xs) ≡ Some x
last_at [] x = refl
last_at (z ∷ xs) x = last_at xs x

-- ---- names with numbers below a bound

abbrev pub AreBelow : ℕ → List (List ℕ × ℕ) → Type 0
AreBelow bound [] = Unit {0}
AreBelow bound (e ∷ es) = (e.1 < bound) × AreBelow bound es

abbrev pub AllBelow : ℕ → List (List (List ℕ × ℕ)) → Type 0
AllBelow bound [] = Unit {0}
AllBelow bound (es ∷ ess) = AreBelow bound es × AllBelow bound ess

pub below_more : (m n : ℕ) → m ≤ n → (es : List (List ℕ × ℕ)) → AreBelow m es → AreBelow n es
below_more m n le [] h = tt
below_more m n le (e ∷ es) h = (omega (arith, h.0), below_more m n le es h.1)

pub all_more : (m n : ℕ) → m ≤ n → (ess : List (List (List ℕ × ℕ))) → AllBelow m ess → AllBelow n ess
all_more m n le [] h = tt
all_more m n le (es ∷ ess) h = (below_more m n le es h.0, all_more m n le ess h.1)

pub below_push : (bound : ℕ) (es : List (List ℕ × ℕ)) (e : List ℕ × ℕ) → AreBelow bound es → e.1 < bound → AreBelow bound (es ++ e ∷ [])
below_push bound [] e h k = (k, tt)
below_push bound (x ∷ es) e h k = (h.0, below_push bound es e h.1 k)

pub all_push : (bound : ℕ) (ess : List (List (List ℕ × ℕ))) (es : List (List ℕ × ℕ)) → AllBelow bound ess → AreBelow bound es → AllBelow bound (ess ++ es ∷ [])
all_push bound [] es h k = (k, tt)
all_push bound (x ∷ ess) es h k = (h.0, all_push bound ess es h.1 k)

pub all_take : (bound n : ℕ) (ess : List (List (List ℕ × ℕ))) → AllBelow bound ess → AllBelow bound (take n ess)
all_take bound zero [] h = tt
all_take bound zero (es ∷ ess) h = tt
all_take bound (suc n) [] h = tt
all_take bound (suc n) (es ∷ ess) h = (h.0, all_take bound n ess h.1)

pub all_set : (bound n : ℕ) (ess : List (List (List ℕ × ℕ))) (es : List (List ℕ × ℕ)) → AllBelow bound ess → AreBelow bound es → AllBelow bound (slice_set ess n es)
all_set bound zero [] es h k = tt
all_set bound (suc n) [] es h k = tt
all_set bound zero (x ∷ ess) es h k = (k, h.1)
all_set bound (suc n) (x ∷ ess) es h k = (h.0, all_set bound n ess es h.1 k)

pub all_at : (bound n : ℕ) (ess : List (List (List ℕ × ℕ))) → AllBelow bound ess → AreBelow bound (slice_index_or ess n [])
all_at bound zero [] h = tt
all_at bound (suc n) [] h = tt
all_at bound zero (es ∷ ess) h = h.0
all_at bound (suc n) (es ∷ ess) h = all_at bound n ess h.1
