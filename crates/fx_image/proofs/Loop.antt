-- Reading records one after the other, as a loop does.
use Rattle.std.proofs.Common.{◌≡◌, ℕ, suc, ◌-◌, ◌+◌, ◌≤◌, ◌<◌, List, [], ◌∷◌, ◌++◌, Ok, Err, refl, sym, ap, ◌∙◌, append_assoc, arith}
use Rattle.std.proofs.lemmas.List.{append-nil}
use Rattle.fx_image.specs.Reading.{◌>>=◌, Fails, Read, records_at}
use Rattle.fx_image.specs.declared.error.ImageError.{ImageError}
use Rattle.fx_image.specs.declared.error.ImageError.TheVariants.{Magic, Version, Short, Extra, Field, KeySequence, OutOfMemory}

-- what was read before, and what is still read
abbrev pub with_front : {X : Type 0} → List X → Read (List X) → Read (List X)
with_front front read = read >>= λ x. Ok (front ++ x.0, x.1)

regroup : {X : Type 0} (front : List X) (n : X) (read : Read (List X)) → with_front front (read >>= λ x. Ok (n ∷ x.0, x.1)) ≡ with_front (front ++ n ∷ []) read
regroup {X} front n (Ok x) = ap (λ (ns : List X). Ok (ns, x.1)) (simp append_assoc)
regroup front n (Err f) = refl

pub goes_on : {X : Type 0} (at : List ℕ → Read X) (front : List X) (count i : ℕ) (bytes : List ℕ) (n : X) (after : List ℕ) (total : Read (List X)) → i < count → at bytes ≡ Ok (n, after)
    → with_front front (records_at at (count - i) bytes) ≡ total → with_front (front ++ n ∷ []) (records_at at (count - (i + 1)) after) ≡ total
unfolding records_at
goes_on at front count i bytes n after total lt h so_far =
    let k : count - i ≡ suc (count - (i + 1)) = omega arith in
    let one : with_front front (records_at at (count - i) bytes) ≡ with_front (front ++ n ∷ []) (records_at at (count - (i + 1)) after) = rw (k, h) (regroup front n (records_at at (count - (i + 1)) after)) in
    sym one ∙ so_far

stops : {X : Type 0} (at : List ℕ → Read X) (f : ImageError) (front : List X) (count i : ℕ) (bytes : List ℕ) (total : Read (List X)) → i < count → at bytes ≡ Err f
    → with_front front (records_at at (count - i) bytes) ≡ total → total ≡ Err f
unfolding records_at
stops at f front count i bytes total lt h so_far =
    let k : count - i ≡ suc (count - (i + 1)) = omega arith in
    let one : with_front front (records_at at (count - i) bytes) ≡ Err f = rw (k, h) refl in
    sym so_far ∙ one

pub ends : {X : Type 0} (at : List ℕ → Read X) (e : ImageError) (front : List X) (count i : ℕ) (bytes : List ℕ) (total : Read (List X)) → i < count → Fails e (at bytes)
    → with_front front (records_at at (count - i) bytes) ≡ total → Fails e total
ends at Magic front count i bytes total lt h so_far = stops at Magic front count i bytes total lt h so_far
ends at Version front count i bytes total lt h so_far = stops at Version front count i bytes total lt h so_far
ends at Short front count i bytes total lt h so_far = stops at Short front count i bytes total lt h so_far
ends at Extra front count i bytes total lt h so_far = stops at Extra front count i bytes total lt h so_far
ends at (Field n) front count i bytes total lt h so_far = stops at (Field n) front count i bytes total lt h so_far
ends at (KeySequence k) front count i bytes total lt h so_far = stops at (KeySequence k) front count i bytes total lt h so_far
ends at OutOfMemory front count i bytes total lt h so_far = tt

pub is_done : {X : Type 0} (at : List ℕ → Read X) (front : List X) (count i : ℕ) (bytes : List ℕ) (total : Read (List X)) → count ≤ i → with_front front (records_at at (count - i) bytes) ≡ total → total ≡ Ok (front, bytes)
unfolding records_at
is_done {X} at front count i bytes total le so_far =
    let k : count - i ≡ 0 = omega arith in
    let one : with_front front (records_at at (count - i) bytes) ≡ Ok (front, bytes) = rw k (ap (λ (ns : List X). Ok (ns, bytes)) (append-nil front)) in
    sym so_far ∙ one
