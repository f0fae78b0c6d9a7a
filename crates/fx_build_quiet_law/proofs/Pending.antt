-- How many operands may be pending: no more than pieces stand before an op.
use Rattle.std.proofs.Common.{ℕ, zero, suc, ◌≤◌, List, [], ◌∷◌, le_trans, arith}
use Rattle.std.specs.Prelude.{slice_index_or, slice_set, Option, None, Some}
use Rattle.fx_build_parts.specs.Pending.{with_mark, brought_or, pending_at, no_marks}

-- no op brings more than so many operands to a place
abbrev pub AreWithin : ℕ → List (Option ℕ) → Type 0
AreWithin n marks = (j : ℕ) → brought_or (slice_index_or marks j None) 0 ≤ n

brought_within : (n count : ℕ) (mark : Option ℕ) → brought_or mark 0 ≤ n → count ≤ n
    → brought_or mark count ≤ n
brought_within n count None few less = less
brought_within n count (Some brought) few less = few

pub at_within : (n : ℕ) (marks : List (Option ℕ)) (k count : ℕ) → AreWithin n marks → count ≤ n
    → pending_at marks k count ≤ n
at_within n marks k count few less = brought_within n count (slice_index_or marks k None)
    (few k) less

pub more_within : (n m : ℕ) (marks : List (Option ℕ)) → n ≤ m → AreWithin n marks
    → AreWithin m marks
more_within n m marks le few j = le_trans (few j) le

set_within : (n : ℕ) (marks : List (Option ℕ)) (to count : ℕ) → AreWithin n marks → count ≤ n
    → AreWithin n (slice_set marks to (Some count))
set_within n [] to count few less j = few j
set_within n (m ∷ ms) zero count few less zero = less
set_within n (m ∷ ms) zero count few less (suc j) = few (suc j)
set_within n (m ∷ ms) (suc to) count few less zero = few zero
set_within n (m ∷ ms) (suc to) count few less (suc j) =
    set_within n ms to count (λ i. few (suc i)) less j

pub mark_within : (n : ℕ) (marks : List (Option ℕ)) (count : ℕ) (to : Option ℕ) → AreWithin n marks
    → count ≤ n → AreWithin n (with_mark marks count to)
mark_within n marks count None few less = few
mark_within n marks count (Some to) few less = set_within n marks to count few less

pub none_within : (n count : ℕ) → AreWithin n (no_marks count)
none_within n zero j = omega arith
none_within n (suc count) zero = omega arith
none_within n (suc count) (suc j) = none_within n count j
