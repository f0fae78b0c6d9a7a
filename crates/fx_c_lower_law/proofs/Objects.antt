-- What is known of the declarations of objects stays known: memory only grows.
use Rattle.std.proofs.Common.{◌≡◌, ℕ, zero, suc, ◌+◌, ◌<◌, List, [], ◌∷◌, ◌++◌, length, Option, Some, None, refl, sym, ap, ◌∙◌, arith, append_assoc}
use Rattle.std.specs.Prelude.{slice_get, slice_set}
use Rattle.fx_c_mean_blocks.specs.declared.value.Value.{Value}
use Rattle.fx_c_mean_blocks.specs.declared.value.Value.TheVariants.{Void, Number, Null, Address}
use Rattle.fx_c_mean_blocks.specs.declared.value.Cell.{Cell}
use Rattle.fx_c_mean_blocks.specs.declared.block.Place.{Place}
use Rattle.fx_c_mean_blocks.specs.declared.block.Place.TheVariants.{Local}
use Rattle.fx_c_mean_blocks.specs.declared.block.Object.{Object}
use Rattle.fx_c_mean_blocks.specs.Blocks.{written, put_cells, without, dead_at}
use Rattle.fx_c_mean_model.specs.Programs.{Program, Variable, function_at, call_objects}
use Rattle.fx_c_mean_model.specs.States.{Call, Frame, Caller, Spot}
use Rattle.fx_c_mean_model.specs.Steps as source
use Rattle.fx_c_lin.specs.Ops as op
use Rattle.fx_c_lin.specs.Machine as lin
use Rattle.fx_c_lin.specs.Machine.{Saved, At, Begins, Copies}
use Rattle.fx_c_lower_law.proofs.Relation.{places_of, own_places, Knows}
use Rattle.fx_c_lower_law.proofs.Relation as relation

-- ---- the places of memory

pub places_append : (xs ys : List Object) → places_of (xs ++ ys) ≡ places_of xs ++ places_of ys
places_append [] ys = refl
places_append (x ∷ xs) ys = ap (λ l. x.place ∷ l) (places_append xs ys)

set_place : (memory : List Object) (n : ℕ) (o x : Object) → slice_get memory n ≡ Some o → x.place ≡ o.place → places_of (slice_set memory n x) ≡ places_of memory
set_place [] n o x h e = refl
set_place (y ∷ memory) zero o x h e = ap (λ q. q ∷ places_of memory) (e ∙ sym (ap place_in h)) where
  place_in : Option Object → Place
  place_in None = o.place
  place_in (Some z) = z.place
set_place (y ∷ memory) (suc n) o x h e = ap (λ l. y.place ∷ l) (set_place memory n o x h e)

pub places_written : (memory : List Object) (v : Value) (cells : List Cell) → places_of (written memory v cells) ≡ places_of memory
places_written memory (Address q) cells = on (slice_get memory q.object) refl where
  on : (x : Option Object) → slice_get memory q.object ≡ x → places_of (put_cells memory q cells x) ≡ places_of memory
  on None h = refl
  on (Some o) h = set_place memory q.object o _ h refl
places_written memory Void cells = refl
places_written memory (Number w) cells = refl
places_written memory Null cells = refl

places_dead : (memory : List Object) (n : ℕ) (x : Option Object) → slice_get memory n ≡ x → places_of (dead_at memory n x) ≡ places_of memory
places_dead memory n None h = refl
places_dead memory n (Some o) h = set_place memory n o _ h refl

pub places_without : (memory : List Object) (from n : ℕ) → places_of (without memory from n) ≡ places_of memory
places_without memory from zero = refl
places_without memory from (suc n) = places_without (dead_at memory from (slice_get memory from)) (from + 1) n ∙ places_dead memory from (slice_get memory from) refl

pub places_call : (p : Program) (f n : ℕ) (xs : List Variable) (vs : List Value) → places_of (call_objects p f n xs vs) ≡ own_places f n xs
places_call p f n [] vs = refl
places_call p f n (x ∷ xs) [] = ap (λ l. Local f n ∷ l) (places_call p f (n + 1) xs [])
places_call p f n (x ∷ xs) (v ∷ vs) = ap (λ l. Local f n ∷ l) (places_call p f (n + 1) xs vs)

places_length : (xs : List Object) → length (places_of xs) ≡ length xs
places_length [] = refl
places_length (x ∷ xs) = ap suc (places_length xs)

-- ---- what is known

pub knows_more : (p : Program) (places more : List Place) (c : Call) → Knows p places c → Knows p (places ++ more) c
knows_more p places more c h =
    let own = own_places c.function 0 (function_at p c.function).variables in
    (h.0, h.1 ++ more, h.2, ap (λ l. l ++ more) h.3 ∙ append_assoc h.0 (own ++ h.1) more ∙ ap (λ l. h.0 ++ l) (append_assoc own h.1 more))

-- a call's own objects, made behind all others
pub knows_new : (p : Program) (memory : List Object) (f : ℕ) (values : List Value) → Knows p (places_of (memory ++ call_objects p f 0 (function_at p f).variables values)) (record { function = f; base = length memory })
knows_new p memory f values =
    let own = own_places f 0 (function_at p f).variables in (
      places_of memory,
      [],
      places_length memory,
      places_append memory (call_objects p f 0 (function_at p f).variables values)
          ∙ ap (λ l. places_of memory ++ l) (places_call p f 0 (function_at p f).variables values ∙ no_more own),
    ) where
      no_more : (l : List Place) → l ≡ l ++ []
      no_more [] = refl
      no_more (x ∷ l) = ap (λ k. x ∷ k) (no_more l)

own_at : (f m n : ℕ) (xs : List Variable) (after : List Place) → n < length xs → slice_get (own_places f m xs ++ after) n ≡ Some (Local f (m + n))
own_at f m n [] after le = absurd (omega (arith, le))
own_at f m zero (x ∷ xs) after le = ap (λ k. Some (Local f k)) (omega arith)
own_at f m (suc n) (x ∷ xs) after le =
    let e : m + 1 + n ≡ m + suc n = omega arith in
    own_at f (m + 1) n xs after (omega (arith, le)) ∙ ap (λ k. Some (Local f k)) e

get_behind : (before ys : List Place) (n : ℕ) → slice_get (before ++ ys) (length before + n) ≡ slice_get ys n
get_behind [] ys n = let e : 0 + n ≡ n = omega arith in rw e refl
get_behind (x ∷ before) ys n =
    let e : length (x ∷ before) + n ≡ suc (length before + n) = omega arith in
    rw e (get_behind before ys n)

get_place : (memory : List Object) (n : ℕ) (o : Object) → slice_get memory n ≡ Some o → slice_get (places_of memory) n ≡ Some o.place
get_place [] n o h = absurd cc
get_place (x ∷ memory) zero o h = ap place_in h where
  place_in : Option Object → Option Place
  place_in None = None
  place_in (Some z) = Some z.place
get_place (x ∷ memory) (suc n) o h = get_place memory n o h

-- the object of a call's variable
pub own_place : (p : Program) (memory : List Object) (c : Call) (n : ℕ) (o : Object) → Knows p (places_of memory) c → n < length (function_at p c.function).variables → slice_get memory (c.base + n) ≡ Some o → Some o.place ≡ Some (Local c.function n)
own_place p memory c n o h le e =
    let own = own_places c.function 0 (function_at p c.function).variables in
    let b : c.base + n ≡ length h.0 + n = omega (arith, h.2) in
    let z : 0 + n ≡ n = omega arith in
    sym (get_place memory (c.base + n) o e)
    ∙ ap (λ l. slice_get l (c.base + n)) h.3
    ∙ ap (λ k. slice_get (h.0 ++ (own ++ h.1)) k) b
    ∙ get_behind h.0 (own ++ h.1) n
    ∙ own_at c.function 0 n (function_at p c.function).variables h.1 le
    ∙ ap (λ k. Some (Local c.function k)) z

module _ (p : Program) (all : List (List op.Step)) where
  pub leaves_more : (rest : List Frame) (places more : List Place) (cs : List Saved) → relation.Leaves p all places rest cs → relation.Leaves p all (places ++ more) rest cs
  leaves_more [] places more cs h = h
  leaves_more (Caller call crosses ∷ rest) places more cs h = (h.0, h.1, h.2, h.3, h.4, knows_more p places more call h.5, leaves_more rest places more h.2 h.6)
  leaves_more (x ∷ rest) places more cs h = leaves_more rest places more cs h

  waits_more : (places more : List Place) (c : Call) (spot : Spot) (there : lin.Spot) (cs : List Saved) → relation.WaitsAt p all places c spot there cs → relation.WaitsAt p all (places ++ more) c spot there cs
  waits_more places more c spot (At place stack) cs h = (h.0, h.1, h.2, h.3, h.4, leaves_more h.0 places more cs h.5, knows_more p places more c h.6)
  waits_more places more c spot (Begins f values) cs h = h
  waits_more places more c spot (Copies at stack bytes to v done read) cs h = absurd h

  thread_more : (places more : List Place) (t : source.Thread) (u : lin.Thread) → relation.ThreadAt p all places t u → relation.ThreadAt p all (places ++ more) t u
  thread_more places more source.Running lin.Running h = tt
  thread_more places more source.Ended lin.Ended h = tt
  thread_more places more (source.Waiting spot call) (lin.Waiting there other callers) h = (h.0, waits_more places more call spot there callers h.1)
  thread_more places more source.Running lin.Ended h = absurd h
  thread_more places more source.Running (lin.Waiting a b d) h = absurd h
  thread_more places more source.Ended lin.Running h = absurd h
  thread_more places more source.Ended (lin.Waiting a b d) h = absurd h
  thread_more places more (source.Waiting a b) lin.Running h = absurd h
  thread_more places more (source.Waiting a b) lin.Ended h = absurd h

  pub threads_more : (places more : List Place) (ts : List source.Thread) (us : List lin.Thread) → relation.ThreadsAt p all places ts us → relation.ThreadsAt p all (places ++ more) ts us
  threads_more places more [] [] h = tt
  threads_more places more (t ∷ ts) (u ∷ us) h = (thread_more places more t u h.0, threads_more places more ts us h.1)
  threads_more places more [] (u ∷ us) h = absurd h
  threads_more places more (t ∷ ts) [] h = absurd h
