-- A call's accesses to its own variables are granted.
use Rattle.std.proofs.Common.{◌≡◌, Bool, true, false, not, ◌||◌, ℕ, ◌+◌, ◌<◌, length, List, Option, Some, None, Result, Ok, Err, if◌then◌else◌, refl, sym, ap, ◌∙◌, arith, nat_eq}
use Rattle.std.specs.Prelude.{slice_get}
use Rattle.std.proofs.lemmas.Bool.Decides.{nat_tests}
use Rattle.fx_c_ast.specs.CheckedTrees.{TyTree}
use Rattle.fx_c_mean_blocks.specs.declared.value.Pointer.{Pointer}
use Rattle.fx_c_mean_blocks.specs.declared.value.Value.{Value}
use Rattle.fx_c_mean_blocks.specs.declared.value.Value.TheVariants.{Address}
use Rattle.fx_c_mean_blocks.specs.declared.block.Place.{Place}
use Rattle.fx_c_mean_blocks.specs.declared.block.Place.TheVariants.{Global, Literal, Local}
use Rattle.fx_c_mean_blocks.specs.declared.block.Object.{Object}
use Rattle.fx_c_mean_blocks.specs.declared.fault.Fault.{Fault}
use Rattle.fx_c_mean_blocks.specs.declared.fault.Fault.TheVariants as fault
use Rattle.fx_c_mean_blocks.specs.Blocks.{and_then, holds, if_holds, cells_at, value_in, with_place, width, loaded, unless_literal, writable}
use Rattle.fx_c_mean_model.specs.declared.rights.Rights.{Rights}
use Rattle.fx_c_mean_model.specs.Programs.{Program, function_at}
use Rattle.fx_c_mean_model.specs.Rights.{home, may, is_shared}
use Rattle.fx_c_mean_model.specs.States.{Call}
use Rattle.fx_c_lower_law.proofs.Relation.{Knows, places_of}
use Rattle.fx_c_lower_law.proofs.Objects.{own_place}

any : (a b d e : Bool) → e ≡ true → (a || b || d || e) ≡ true
any true true true true q = refl
any true true false true q = refl
any true false true true q = refl
any true false false true q = refl
any false true true true q = refl
any false true false true q = refl
any false false true true q = refl
any false false false true q = refl
any a b d false q = absurd cc

same_number : (n : ℕ) → nat_eq n n ≡ true
same_number n = grind (arith, nat_tests)

pub may_own : (p : Program) (r : Rights) (f n : ℕ) (write : Bool) → may p r (home p r f) (Local f n) write ≡ true
may_own p r f n write = any (not r.guarded) (not r.own_stacks) (is_shared p f n) (nat_eq (home p r f) (home p r f)) (same_number (home p r f))

-- ---- the object of an access

abbrev place_in : Place → Result (Value × Place) Fault → Place
place_in other (Ok x) = x.1
place_in other (Err e) = other

abbrev place_of_result : Place → Result Place Fault → Place
place_of_result other (Ok x) = x
place_of_result other (Err e) = other

abbrev place_of_option : Place → Option Place → Place
place_of_option other (Some x) = x
place_of_option other None = other

pub record Found (memory : List Object) (q : Pointer) (place : Place) : Type 0 where
  pub object : Object
  pub there : slice_get memory q.object ≡ Some object
  pub is : place ≡ object.place

placed : (o : Object) (y : Result Value Fault) (x : Value × Place) → and_then y (with_place o.place) ≡ Ok x → x.1 ≡ o.place
placed o (Ok v) x h = sym (ap (place_in o.place) h)
placed o (Err e) x h = absurd cc

held : (b : Bool) (o : Object) (ty : TyTree) (q : Pointer) (x : Value × Place) → and_then (if b then Ok o else Err fault.Undefined) (λ (o : Object). and_then (value_in ty (cells_at o q.offset (width ty))) (with_place o.place)) ≡ Ok x → x.1 ≡ o.place
held true o ty q x h = placed o (value_in ty (cells_at o q.offset (width ty))) x h
held false o ty q x h = absurd cc

pub loaded_place : (memory : List Object) (ty : TyTree) (q : Pointer) (x : Value × Place) → loaded memory ty (Address q) ≡ Ok x → Found memory q x.1
loaded_place memory ty q x e = on (slice_get memory q.object) refl e where
  on : (y : Option Object) → slice_get memory q.object ≡ y → and_then (if_holds q.offset (width ty) y) (λ (o : Object). and_then (value_in ty (cells_at o q.offset (width ty))) (with_place o.place)) ≡ Ok x → Found memory q x.1
  on None there h = absurd cc
  on (Some o) there h = record { object = o; there = there; is = held (holds q.offset (width ty) o) o ty q x h }

unless : (place other : Place) → unless_literal place ≡ Ok other → other ≡ place
unless (Literal n) other h = absurd cc
unless (Global n) other h = sym (ap (place_of_result (Global n)) h)
unless (Local f n) other h = sym (ap (place_of_result (Local f n)) h)

written_to : (b : Bool) (o : Object) (place : Place) → and_then (if b then Ok o else Err fault.Undefined) (λ (o : Object). unless_literal o.place) ≡ Ok place → place ≡ o.place
written_to true o place h = unless o.place place h
written_to false o place h = absurd cc

pub writable_place : (memory : List Object) (q : Pointer) (n : ℕ) (place : Place) → writable memory (Address q) n ≡ Ok place → Found memory q place
writable_place memory q n place e = on (slice_get memory q.object) refl e where
  on : (y : Option Object) → slice_get memory q.object ≡ y → and_then (if_holds q.offset n y) (λ (o : Object). unless_literal o.place) ≡ Ok place → Found memory q place
  on None there h = absurd cc
  on (Some o) there h = record { object = o; there = there; is = written_to (holds q.offset n o) o place h }

pub own_found : (p : Program) (memory : List Object) (c : Call) (n : ℕ) (place : Place) → Knows p (places_of memory) c → n < length (function_at p c.function).variables → Found memory (record { object = c.base + n; offset = 0 }) place → place ≡ Local c.function n
own_found p memory c n place knows le h = h.is ∙ ap (place_of_option h.object.place) (own_place p memory c n h.object knows le h.there)
