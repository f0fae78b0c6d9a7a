-- What is read of the tables of a document.
use Rattle.std.proofs.Common.{◌≡◌, ◌≤◌, ℕ, ℤ, pos, negsuc, Bool, true, ◌&&◌, List, [], ◌∷◌, length}
use Rattle.std.proofs.Common.{Option, Some, None, Ok, arith}
use Rattle.std.specs.Prelude.{codes, ok_or, nat_le}
use Rattle.std.specs.List.{list_all}
use Rattle.std.specs.Int.{is_in_range}
use Rattle.std.proofs.lemmas.Bool.{and_parts, leb-true}
use Rattle.std.proofs.lemmas.Option.{none-some, same_Some, cond_some}
use Rattle.toml.specs.Data.{Data, Members, get_member}
use Rattle.fx_config.specs.declared.configuration.Compartment.{Compartment}
use Rattle.fx_config.specs.declared.configuration.Mechanism.{Mechanism}
use Rattle.fx_config.specs.declared.configuration.ConfigError.TheVariants.{UnknownField, OutOfRange}
use Rattle.fx_config.specs.Answers.{Reading, ◌>>=◌, demand, read_each}
use Rattle.fx_config.specs.Document.{required, if_there, each_if_there, string_of, integer_of}
use Rattle.fx_config.specs.Document.{strings_of, integers_of, tables_of}
use Rattle.fx_config.specs.Names.{is_c_name, number_in}
use Rattle.fx_config.specs.Reading.{has_only, passes_if_there, device_of, compartment_of, Top}
use Rattle.fx_config.specs.Reading.{mechanism_of, compartment_limit, stack_pages_of, top_of}
use Rattle.fx_config_law.proofs.Ends.{Ends, bind_ends, then_ends, demand_ends, found_ends}

-- ---- a compartment

abbrev pub is_named : Compartment → Bool
is_named c = is_c_name c.name

abbrev IsNamed : Compartment → Type 0
IsNamed c = is_named c ≡ true

-- the steps of a compartment's reading, from the last one on
module _ (table : Members) where
  abbrev finished : List ℕ → List (List ℕ) → Option (List (List ℕ)) → List ℕ → Reading Compartment
  finished name libraries calls devices =
      Ok (record { name = name; libraries = libraries; calls = calls; devices = devices })

  abbrev are_names : List ℕ → List (List ℕ) → Option (List (List ℕ)) → Bool
  are_names name libraries calls =
      is_c_name name && list_all is_c_name libraries && passes_if_there (list_all is_c_name) calls

  abbrev tested : List ℕ → List (List ℕ) → Option (List (List ℕ)) → List ℤ → Reading Compartment
  tested name libraries calls devices =
      demand (are_names name libraries calls) OutOfRange
      (read_each device_of devices >>= finished name libraries calls)

  abbrev with_devices : List ℕ → List (List ℕ) → Option (List (List ℕ)) → Reading Compartment
  with_devices name libraries calls =
      each_if_there integers_of (get_member (codes "devices") table) >>= tested name libraries calls

  abbrev with_calls : List ℕ → List (List ℕ) → Reading Compartment
  with_calls name libraries =
      if_there strings_of (get_member (codes "calls") table) >>= with_devices name libraries

  abbrev with_libraries : Data → List ℕ → Reading Compartment
  with_libraries libraries name = strings_of libraries >>= with_calls name

  abbrev with_name : Data → Data → Reading Compartment
  with_name name libraries = string_of name >>= with_libraries libraries

  abbrev with_required : Data → Reading Compartment
  with_required name = required (codes "libraries") table >>= with_name name

  tested_named : (name : List ℕ) (libraries : List (List ℕ)) (calls : Option (List (List ℕ)))
      (devices : List ℤ) → Ends IsNamed (tested name libraries calls devices)
  tested_named name libraries calls devices =
      demand_ends IsNamed (are_names name libraries calls) OutOfRange
      (read_each device_of devices >>= finished name libraries calls) (λ fine.
      then_ends IsNamed (read_each device_of devices) (finished name libraries calls) (λ numbers.
      (and_parts (is_c_name name) (list_all is_c_name libraries)
      (and_parts (is_c_name name && list_all is_c_name libraries)
      (passes_if_there (list_all is_c_name) calls) fine).0).0))

  required_named : Ends IsNamed (required (codes "name") table >>= with_required)
  required_named =
      then_ends IsNamed (required (codes "name") table) with_required (λ name.
      then_ends IsNamed (required (codes "libraries") table) (with_name name) (λ libraries.
      then_ends IsNamed (string_of name) (with_libraries libraries) (λ name.
      then_ends IsNamed (strings_of libraries) (with_calls name) (λ libraries.
      then_ends IsNamed (if_there strings_of (get_member (codes "calls") table))
      (with_devices name libraries) (λ calls.
      then_ends IsNamed (each_if_there integers_of (get_member (codes "devices") table))
      (tested name libraries calls) (tested_named name libraries calls))))))

  pub compartment_named : Ends IsNamed (compartment_of table)
  compartment_named =
      demand_ends IsNamed
      (has_only (codes "name" ∷ codes "libraries" ∷ codes "calls" ∷ codes "devices" ∷ []) table)
      UnknownField (required (codes "name") table >>= with_required) (λ known. required_named)

-- ---- the top table

-- as many compartments as the mechanism allows, and stacks of so many pages
pub record IsTop (t : Top) : Type 0 where
  pub some : 1 ≤ length t.compartments
  pub few : length t.compartments ≤ compartment_limit t.mechanism
  pub least : 1 ≤ t.stack_pages
  pub most : t.stack_pages ≤ 64

in_range : (low high m n : ℕ) → number_in low high (pos m) ≡ Some n → (low ≤ n) × (n ≤ high)
in_range low high m n is =
    let found = cond_some (is_in_range low high m) m n is in
    let parts = and_parts (nat_le low m) (nat_le m high) found.0 in
    let same : m ≡ n = found.1 in
    rw (← same) (leb-true low m parts.0, leb-true m high parts.1)

pages_in : (n : ℕ) (o : Option ℤ) → stack_pages_of o ≡ Some n → (1 ≤ n) × (n ≤ 64)
pages_in n None is = let e : 4 ≡ n = same_Some 4 n is in (omega (arith, e), omega (arith, e))
pages_in n (Some (pos m)) is = in_range 1 64 m n is
pages_in n (Some (negsuc m)) is = absurd (none-some n is)

-- the steps of the top table's reading, from the last one on
module _ (table : Members) where
  abbrev made : List Members → List Members → Option (List ℕ) → Mechanism → ℕ → Top
  made libraries compartments scheduler mechanism pages = record {
    mechanism = mechanism;
    stack_pages = pages;
    scheduler = scheduler;
    libraries = libraries;
    compartments = compartments;
  }

  abbrev is_within : List Members → List Members → Option (List ℕ) → Mechanism → Bool
  is_within libraries compartments scheduler mechanism =
      passes_if_there is_c_name scheduler && is_in_range 1 64 (length libraries)
      && is_in_range 1 (compartment_limit mechanism) (length compartments)

  abbrev with_pages : List Members → List Members → Option (List ℕ) → Mechanism → ℕ → Reading Top
  with_pages libraries compartments scheduler mechanism pages =
      demand (is_within libraries compartments scheduler mechanism) OutOfRange
      (Ok (made libraries compartments scheduler mechanism pages))

  abbrev with_mechanism : List Members → List Members → Option ℤ → Option (List ℕ) → Mechanism
      → Reading Top
  with_mechanism libraries compartments pages scheduler mechanism =
      ok_or (stack_pages_of pages) OutOfRange
      >>= with_pages libraries compartments scheduler mechanism

  abbrev with_scheduler : List ℕ → List Members → List Members → Option ℤ → Option (List ℕ)
      → Reading Top
  with_scheduler word libraries compartments pages scheduler =
      ok_or (mechanism_of word) OutOfRange
      >>= with_mechanism libraries compartments pages scheduler

  abbrev with_stacks : List ℕ → List Members → List Members → Option ℤ → Reading Top
  with_stacks word libraries compartments pages =
      if_there string_of (get_member (codes "scheduler") table)
      >>= with_scheduler word libraries compartments pages

  abbrev with_tables : List ℕ → List Members → List Members → Reading Top
  with_tables word libraries compartments =
      if_there integer_of (get_member (codes "stack_pages") table)
      >>= with_stacks word libraries compartments

  abbrev with_first : List ℕ → Data → List Members → Reading Top
  with_first word compartments libraries = tables_of compartments >>= with_tables word libraries

  abbrev with_word : Data → Data → List ℕ → Reading Top
  with_word libraries compartments word = tables_of libraries >>= with_first word compartments

  abbrev with_fields : Data → Data → Data → Reading Top
  with_fields word libraries compartments = string_of word >>= with_word libraries compartments

  abbrev with_second : Data → Data → Reading Top
  with_second word libraries =
      required (codes "compartment") table >>= with_fields word libraries

  abbrev with_mark : Data → Reading Top
  with_mark word = required (codes "library") table >>= with_second word

  pages_top : (libraries compartments : List Members) (scheduler : Option (List ℕ))
      (mechanism : Mechanism) (pages : ℕ) → (1 ≤ pages) × (pages ≤ 64)
      → Ends IsTop (with_pages libraries compartments scheduler mechanism pages)
  pages_top libraries compartments scheduler mechanism pages within =
      demand_ends IsTop (is_within libraries compartments scheduler mechanism) OutOfRange
      (Ok (made libraries compartments scheduler mechanism pages)) (λ fine.
      let count = and_parts
      (passes_if_there is_c_name scheduler && is_in_range 1 64 (length libraries))
      (is_in_range 1 (compartment_limit mechanism) (length compartments)) fine in
      let parts = and_parts (nat_le 1 (length compartments))
      (nat_le (length compartments) (compartment_limit mechanism)) count.1 in
      record {
        some = leb-true 1 (length compartments) parts.0;
        few = leb-true (length compartments) (compartment_limit mechanism) parts.1;
        least = within.0;
        most = within.1;
      })

  mechanism_top : (libraries compartments : List Members) (pages : Option ℤ)
      (scheduler : Option (List ℕ)) (mechanism : Mechanism)
      → Ends IsTop (with_mechanism libraries compartments pages scheduler mechanism)
  mechanism_top libraries compartments pages scheduler mechanism =
      bind_ends (λ n. stack_pages_of pages ≡ Some n) IsTop (ok_or (stack_pages_of pages) OutOfRange)
      (with_pages libraries compartments scheduler mechanism)
      (found_ends (stack_pages_of pages) OutOfRange) (λ n is.
      pages_top libraries compartments scheduler mechanism n (pages_in n pages is))

  fields_top : (word libraries compartments : Data)
      → Ends IsTop (with_fields word libraries compartments)
  fields_top word libraries compartments =
      then_ends IsTop (string_of word) (with_word libraries compartments) (λ word.
      then_ends IsTop (tables_of libraries) (with_first word compartments) (λ libraries.
      then_ends IsTop (tables_of compartments) (with_tables word libraries) (λ compartments.
      then_ends IsTop (if_there integer_of (get_member (codes "stack_pages") table))
      (with_stacks word libraries compartments) (λ pages.
      then_ends IsTop (if_there string_of (get_member (codes "scheduler") table))
      (with_scheduler word libraries compartments pages) (λ scheduler.
      then_ends IsTop (ok_or (mechanism_of word) OutOfRange)
      (with_mechanism libraries compartments pages scheduler)
      (mechanism_top libraries compartments pages scheduler))))))

  abbrev fields : List (List ℕ)
  fields =
      codes "mechanism" ∷ codes "stack_pages" ∷ codes "scheduler" ∷ codes "library"
      ∷ codes "compartment" ∷ []

  pub top_within : Ends IsTop (top_of table)
  top_within =
      demand_ends IsTop (has_only fields table) UnknownField
      (required (codes "mechanism") table >>= with_mark) (λ known.
      then_ends IsTop (required (codes "mechanism") table) with_mark (λ word.
      then_ends IsTop (required (codes "library") table) (with_second word) (λ libraries.
      then_ends IsTop (required (codes "compartment") table) (with_fields word libraries)
      (fields_top word libraries))))
