-- A configuration has no more libraries, files and compartments than it may.
use Rattle.std.proofs.Common.{◌≡◌, ℕ, suc, ◌≤◌, Bool, true, false, ◌&&◌, nat_le, List, [], ◌∷◌, length, Option, Ok, Err, IfOk, refl, ap, subst, arith}
use Rattle.std.proofs.lemmas.Bool.{and_parts, leb-true}
use Rattle.std.specs.Prelude.{ok_or, codes, ℤ}
use Rattle.std.specs.Int.{is_in_range}
use Rattle.toml.specs.Data.{Data, Members, get_member}
use Rattle.fx_config.specs.declared.configuration.Mechanism.{Mechanism}
use Rattle.fx_config.specs.declared.configuration.Mechanism.TheVariants.{Call, Light, Full, Ept}
use Rattle.fx_config.specs.declared.configuration.Config.{Config}
use Rattle.fx_config.specs.declared.configuration.ConfigError.{ConfigError}
use Rattle.fx_config.specs.Answers.{Reading, ◌>>=◌, demand, read_each}
use Rattle.fx_config.specs.Document.{required, if_there, string_of, integer_of, tables_of}
use Rattle.fx_config.specs.declared.configuration.Library.{Library}
use Rattle.fx_config.specs.declared.configuration.Compartment.{Compartment}
use Rattle.fx_config.specs.Reading.{Top, top_of, has_only, mechanism_of, stack_pages_of, scheduler_of, stands_once, config_of, passes_if_there, configuration_of, document_of, files_of, compartment_limit, library_of, compartment_of}
use Rattle.fx_config.specs.Names.{is_c_name}
use Rattle.fx_config.specs.declared.configuration.ConfigError.TheVariants.{OutOfRange, UnknownField, TwoPlaces}
use Rattle.fx_cmd_load.specs.Loading.{HasFewParts}

bound : {A B : Type 0} → (P : B → Type 0) (r : Reading A) (f : A → Reading B) → ((x : A) → r ≡ Ok x → IfOk (f x) P) → IfOk (r >>= f) P
bound P (Ok x) f each = each x refl
bound P (Err e) f each = tt

demanded : {A : Type 0} → (P : A → Type 0) (b : Bool) (e : ConfigError) (r : Reading A) → (b ≡ true → IfOk r P) → IfOk (demand b e r) P
demanded P true e r then = then refl
demanded P false e r then = tt

apply : {A : Type 0} → (P : A → Type 0) (r : Reading A) (x : A) → IfOk r P → r ≡ Ok x → P x
apply P r x holds is = subst (λ (s : Reading _). IfOk s P) is holds

-- as many are read as there are
read_count : {A B : Type 0} → (f : A → Reading B) (xs : List A) → IfOk (read_each f xs) (λ ys. length ys ≡ length xs)
read_count f [] = refl
read_count {A} {B} f (x ∷ xs) =
    bound (λ (ys : List B). length ys ≡ suc (length xs)) (f x) (λ y. read_each f xs >>= (λ ys. Ok (y ∷ ys))) (λ y _.
    bound (λ (ys : List B). length ys ≡ suc (length xs)) (read_each f xs) (λ ys. Ok (y ∷ ys)) (λ ys e.
    ap suc (apply (λ (ys : List B). length ys ≡ length xs) (read_each f xs) ys (read_count f xs) e)))

few_compartments : (m : Mechanism) → compartment_limit m ≤ 16
few_compartments Call = omega arith
few_compartments Light = omega arith
few_compartments Full = omega arith
few_compartments Ept = omega arith

abbrev IsSmallTop : Top → Type 0
IsSmallTop t = (length t.libraries ≤ 64) × (length t.compartments ≤ 16)

ranged : (low high n : ℕ) → is_in_range low high n ≡ true → n ≤ high
ranged low high n h = leb-true n high (and_parts (nat_le low n) (nat_le n high) h).1

-- the steps of a top table, each with those behind it
module _ (table : Members) where
  abbrev last : List Members → List Members → Option (List ℕ) → Mechanism → ℕ → Reading Top
  last libraries compartments scheduler mechanism stack_pages =
      demand (passes_if_there is_c_name scheduler && is_in_range 1 64 (length libraries) && is_in_range 1 (compartment_limit mechanism) (length compartments)) OutOfRange
      (Ok (record { mechanism = mechanism; stack_pages = stack_pages; scheduler = scheduler; libraries = libraries; compartments = compartments }))

  abbrev paged : List Members → List Members → Option ℤ → Option (List ℕ) → Mechanism → Reading Top
  paged libraries compartments pages scheduler mechanism = ok_or (stack_pages_of pages) OutOfRange >>= last libraries compartments scheduler mechanism

  abbrev separated : List ℕ → List Members → List Members → Option ℤ → Option (List ℕ) → Reading Top
  separated word libraries compartments pages scheduler = ok_or (mechanism_of word) OutOfRange >>= paged libraries compartments pages scheduler

  abbrev scheduled : List ℕ → List Members → List Members → Option ℤ → Reading Top
  scheduled word libraries compartments pages = if_there string_of (get_member (codes "scheduler") table) >>= separated word libraries compartments pages

  abbrev stacked : List ℕ → List Members → List Members → Reading Top
  stacked word libraries compartments = if_there integer_of (get_member (codes "stack_pages") table) >>= scheduled word libraries compartments

  abbrev parted : Data → List ℕ → List Members → Reading Top
  parted compartments word libraries = tables_of compartments >>= stacked word libraries

  abbrev filed : Data → Data → List ℕ → Reading Top
  filed libraries compartments word = tables_of libraries >>= parted compartments word

  abbrev worded : Data → Data → Data → Reading Top
  worded word libraries compartments = string_of word >>= filed libraries compartments

  abbrev third : Data → Data → Reading Top
  third word libraries = required (codes "compartment") table >>= worded word libraries

  abbrev second : Data → Reading Top
  second word = required (codes "library") table >>= third word

  abbrev first : Reading Top
  first = required (codes "mechanism") table >>= second

  last_small : (libraries compartments : List Members) (scheduler : Option (List ℕ)) (mechanism : Mechanism) (stack_pages : ℕ) → IfOk (last libraries compartments scheduler mechanism stack_pages) IsSmallTop
  last_small libraries compartments scheduler mechanism stack_pages =
      demanded IsSmallTop (passes_if_there is_c_name scheduler && is_in_range 1 64 (length libraries) && is_in_range 1 (compartment_limit mechanism) (length compartments)) OutOfRange
      (Ok (record { mechanism = mechanism; stack_pages = stack_pages; scheduler = scheduler; libraries = libraries; compartments = compartments }))
      (λ h.
      let outer = and_parts (passes_if_there is_c_name scheduler && is_in_range 1 64 (length libraries)) (is_in_range 1 (compartment_limit mechanism) (length compartments)) h in
      let inner = and_parts (passes_if_there is_c_name scheduler) (is_in_range 1 64 (length libraries)) outer.0 in
      (ranged 1 64 (length libraries) inner.1, omega (arith, ranged 1 (compartment_limit mechanism) (length compartments) outer.1, few_compartments mechanism)))

  stacked_small : (word : List ℕ) (libraries compartments : List Members) → IfOk (stacked word libraries compartments) IsSmallTop
  stacked_small word libraries compartments =
      bound IsSmallTop (if_there integer_of (get_member (codes "stack_pages") table)) (scheduled word libraries compartments) (λ pages _.
      bound IsSmallTop (if_there string_of (get_member (codes "scheduler") table)) (separated word libraries compartments pages) (λ scheduler _.
      bound IsSmallTop (ok_or (mechanism_of word) OutOfRange) (paged libraries compartments pages scheduler) (λ mechanism _.
      bound IsSmallTop (ok_or (stack_pages_of pages) OutOfRange) (last libraries compartments scheduler mechanism) (λ stack_pages _.
      last_small libraries compartments scheduler mechanism stack_pages))))

  top_small : IfOk (top_of table) IsSmallTop
  top_small =
      demanded IsSmallTop (has_only (codes "mechanism" ∷ codes "stack_pages" ∷ codes "scheduler" ∷ codes "library" ∷ codes "compartment" ∷ []) table) UnknownField first (λ _.
      bound IsSmallTop (required (codes "mechanism") table) second (λ word _.
      bound IsSmallTop (required (codes "library") table) (third word) (λ libraries _.
      bound IsSmallTop (required (codes "compartment") table) (worded word libraries) (λ compartments _.
      bound IsSmallTop (string_of word) (filed libraries compartments) (λ w _.
      bound IsSmallTop (tables_of libraries) (parted compartments w) (λ ls _.
      bound IsSmallTop (tables_of compartments) (stacked w ls) (λ cs _.
      stacked_small w ls cs)))))))

-- the steps of a document
abbrev placed : Top → List Library → List Compartment → ℕ → Reading Config
placed top libraries compartments scheduler =
    demand (stands_once libraries compartments) TwoPlaces
    (Ok (record { mechanism = top.mechanism; stack_pages = top.stack_pages; scheduler = scheduler; libraries = libraries; compartments = compartments }))

abbrev counted : Top → List Library → List Compartment → Reading Config
counted top libraries compartments = demand (nat_le (length (files_of libraries)) 64) OutOfRange (ok_or (scheduler_of top.scheduler compartments) OutOfRange >>= placed top libraries compartments)

abbrev housed : Top → List Library → Reading Config
housed top libraries = read_each compartment_of top.compartments >>= counted top libraries

abbrev topped : Top → Reading Config
topped top = read_each library_of top.libraries >>= housed top

config_few : (document : Members) → IfOk (config_of document) HasFewParts
config_few document =
    bound HasFewParts (top_of document) topped (λ (t : Top) is.
    bound HasFewParts (read_each library_of t.libraries) (housed t) (λ libraries first.
    bound HasFewParts (read_each compartment_of t.compartments) (counted t libraries) (λ compartments second.
    demanded HasFewParts (nat_le (length (files_of libraries)) 64) OutOfRange (ok_or (scheduler_of t.scheduler compartments) OutOfRange >>= placed t libraries compartments) (λ files.
    bound HasFewParts (ok_or (scheduler_of t.scheduler compartments) OutOfRange) (placed t libraries compartments) (λ scheduler _.
    demanded HasFewParts (stands_once libraries compartments) TwoPlaces
    (Ok (record { mechanism = t.mechanism; stack_pages = t.stack_pages; scheduler = scheduler; libraries = libraries; compartments = compartments })) (λ _.
    let small : IsSmallTop t = apply IsSmallTop (top_of document) t (top_small document) is in
    let one : length libraries ≡ length t.libraries = apply (λ (ys : List Library). length ys ≡ length t.libraries) (read_each library_of t.libraries) libraries (read_count library_of t.libraries) first in
    let two : length compartments ≡ length t.compartments = apply (λ (ys : List Compartment). length ys ≡ length t.compartments) (read_each compartment_of t.compartments) compartments (read_count compartment_of t.compartments) second in
    record { libraries = omega (arith, small.0, one); files = leb-true (length (files_of libraries)) 64 files; compartments = omega (arith, small.1, two) }))))))

pub few : (text : List ℕ) (k : Config) → configuration_of text ≡ Ok k → HasFewParts k
few text k h = apply HasFewParts (configuration_of text) k (bound HasFewParts (document_of text) config_of (λ document _. config_few document)) h
