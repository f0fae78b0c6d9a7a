-- The boxes of the bus by the numbers of their devices.
use Rattle.std.proofs.Common.{◌≡◌, ◌≢◌, ℕ, zero, suc, ◌<◌, ◌≤◌, ◌-◌, ◌==◌, false, List, [], ◌∷◌, ◌++◌, length, map, get_or, set, slice_set, Option, Some, None, option_map, Result, Ok, refl, ap, arith}
use Rattle.std.proofs.lemmas.Bool.Decides.{nat_tests}
use Rattle.std.proofs.lemmas.List.{map-set, get_or-map, get_or_past, set_past, length-map, get_or-set_same, get_or-set_other}
use Rattle.fx_device.specs.Rules.{Meaning, Request}
use Rattle.fx_device.specs.Bus.{box_of, with_box, plugged, silence, Ends, Lands}
use Rattle.fx_device.specs.declared.bus_error.BusError.{BusError}

pub nonzero : (device : ℕ) → device ≢ 0 → (device == 0) ≡ false
nonzero device h = grind (arith, nat_tests)

-- a request reached a box
pub Lands-at : {A : Type 0} (f : A → Meaning) (xs : List (Option A)) (device place : ℕ) (request : Request) (result : Result ℕ BusError) (d new : Option A) → device ≢ 0 → place ≡ device - 1 → place < length xs
    → Ends device request result (option_map f (get_or xs place d)) (option_map f new) → Lands device request result (map (option_map f) xs) (map (option_map f) (slice_set xs place new))
Lands-at f xs device place request result d new here at within ends = record {
  content = option_map f new;
  ends = rw (nonzero device here, ← at, get_or-map (option_map f) xs place d None within) ends;
  boxes = rw (nonzero device here, ← at, map-set (option_map f) xs place new) refl;
}

-- a request of a number without a box changes none
pub Lands-zero : {A : Type 0} (g : A → Option Meaning) (xs : List A) (device : ℕ) (request : Request) (value : ℕ) → device ≡ 0 → value ≡ silence request → Lands device request (Ok value) (map g xs) (map g xs)
Lands-zero g xs device request value at h = record {
  content = None;
  ends = rw at (h, refl);
  boxes = rw at refl;
}

pub Lands-past : {A : Type 0} (g : A → Option Meaning) (xs : List A) (device : ℕ) (request : Request) (value : ℕ) → length xs < device → value ≡ silence request → Lands device request (Ok value) (map g xs) (map g xs)
Lands-past g xs device request value past h =
    let here : device ≢ 0 = omega arith in
    let beyond : length (map g xs) ≤ device - 1 = rw (length-map xs g) (omega arith) in
    record {
      content = None;
      ends = rw (nonzero device here, get_or_past (map g xs) (device - 1) None beyond) (h, refl);
      boxes = rw (nonzero device here, set_past (map g xs) (device - 1) None beyond) refl;
    }

-- another content of a box
pub map_box : {A : Type 0} (f : A → Meaning) (xs : List (Option A)) (device place : ℕ) (content last : Option A) → device ≢ 0 → place ≡ device - 1 → content ≡ last
    → map (option_map f) (slice_set xs place content) ≡ with_box device (option_map f last) (map (option_map f) xs)
map_box f xs device place content last here at is = rw (nonzero device here, ← at, is, map-set (option_map f) xs place last) refl

-- one more device in the boxes
pub plugged-push : {A : Type 0} (n : ℕ) (devices : List A) (d : A) → length devices < n → set (plugged n devices) (length devices) (Some d) ≡ plugged n (devices ++ d ∷ [])
plugged-push zero devices d h = absurd (omega arith)
plugged-push (suc n) [] d h = refl
plugged-push (suc n) (x ∷ devices) d h = ap (λ bs. Some x ∷ bs) (plugged-push n devices d (omega arith))

-- what a box holds after a write, and what the others hold
pub box_of-with_box_other : (bs : List (Option Meaning)) (device other : ℕ) (content : Option Meaning) → other ≢ device → box_of other (with_box device content bs) ≡ box_of other bs
box_of-with_box_other bs zero zero content apart = absurd (apart refl)
box_of-with_box_other bs zero (suc other) content apart = refl
box_of-with_box_other bs (suc device) zero content apart = refl
box_of-with_box_other bs (suc device) (suc other) content apart =
    let away : other ≢ device = λ e. apart (ap (λ n. suc n) e) in
    let left : suc other - 1 ≡ other = omega arith in
    let right : suc device - 1 ≡ device = omega arith in
    let first : suc other ≢ 0 = omega arith in
    let second : suc device ≢ 0 = omega arith in
    rw (nonzero (suc other) first, nonzero (suc device) second, left, right) (get_or-set_other bs device other content None away)

holds : (bs : List (Option Meaning)) (i : ℕ) (b : Meaning) → get_or bs i None ≡ Some b → i < length bs
holds [] i b h = absurd (nothing h)
  where
    nothing : None ≡ Some b → ⊥
    nothing e = cc
holds (x ∷ bs) zero b h = omega arith
holds (x ∷ bs) (suc i) b h = let more = holds bs i b h in omega (arith, more)

pub box_of-with_box : (bs : List (Option Meaning)) (device : ℕ) (b : Meaning) (content : Option Meaning) → box_of device bs ≡ Some b → box_of device (with_box device content bs) ≡ content
box_of-with_box bs zero b content h = absurd (nothing h)
  where
    nothing : None ≡ Some b → ⊥
    nothing e = cc
box_of-with_box bs (suc device) b content h =
    let right : suc device - 1 ≡ device = omega arith in
    let second : suc device ≢ 0 = omega arith in
    let found : get_or bs device None ≡ Some b = rw (nonzero (suc device) second, right) at h in
    rw (nonzero (suc device) second, right) (get_or-set_same bs device content None (holds bs device b found))

pub box_of-with_none : (bs : List (Option Meaning)) (device : ℕ) → box_of device bs ≡ None → box_of device (with_box device None bs) ≡ None
box_of-with_none bs zero h = refl
box_of-with_none bs (suc device) h =
    let right : suc device - 1 ≡ device = omega arith in
    let second : suc device ≢ 0 = omega arith in
    rw (nonzero (suc device) second, right) (none_set bs device)
  where
    none_set : (bs : List (Option Meaning)) (i : ℕ) → get_or (set bs i None) i None ≡ None
    none_set [] i = refl
    none_set (x ∷ bs) zero = refl
    none_set (x ∷ bs) (suc i) = none_set bs i
