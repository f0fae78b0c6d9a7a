-- What is read of a whole document.
use Rattle.std.proofs.Common.{◌≡◌, ◌<◌, ◌≤◌, ℕ, Bool, true, ◌&&◌, nat_eq, List, [], ◌∷◌, length}
use Rattle.std.proofs.Common.{map, Option, Some, None, Ok, arith}
use Rattle.std.specs.Prelude.{nat_le, bytes_eq, ok_or}
use Rattle.std.proofs.lemmas.Bool.{and_parts}
use Rattle.std.proofs.lemmas.Option.{same_Some}
use Rattle.std.proofs.lemmas.List.Quantifiers.{position-Some}
use Rattle.toml.specs.Data.{Members}
use Rattle.fx_config.specs.declared.configuration.Config.{Config}
use Rattle.fx_config.specs.declared.configuration.Library.{Library}
use Rattle.fx_config.specs.declared.configuration.Compartment.{Compartment}
use Rattle.fx_config.specs.declared.configuration.ConfigError.TheVariants.{OutOfRange, TwoPlaces}
use Rattle.fx_config.specs.Answers.{Reading, ◌>>=◌, demand, read_each}
use Rattle.fx_config.specs.Names.{all_differ}
use Rattle.fx_config.specs.Reading.{library_of, compartment_of, Top, top_of, scheduler_of, files_of}
use Rattle.fx_config.specs.Reading.{libraries_of, devices_of, stands_once, config_of, document_of}
use Rattle.fx_config.specs.Reading.{configuration_of}
use Rattle.fx_config_law.specs.Laws.{HasBounds}
use Rattle.fx_config_law.proofs.Ends.{Ends, bind_ends, then_ends, demand_ends, found_ends}
use Rattle.fx_config_law.proofs.Ends.{each_ends, Passes, ended}
use Rattle.fx_config_law.proofs.Tables.{is_named, compartment_named, IsTop, top_within}

abbrev names_of : List Compartment → List (List ℕ)
names_of compartments = map (λ (c : Compartment). c.name) compartments

-- the scheduler's compartment is one of them
scheduler_within : (name : Option (List ℕ)) (compartments : List Compartment) (n : ℕ)
    → 1 ≤ length compartments → scheduler_of name compartments ≡ Some n → n < length compartments
scheduler_within None compartments n some is =
    let e : 0 ≡ n = same_Some 0 n is in omega (arith, e, some)
scheduler_within (Some name) [] n some is = absurd (omega (arith, some))
scheduler_within (Some name) (c ∷ cs) n some is =
    (position-Some (λ (x : Compartment). bytes_eq x.name name) (c ∷ cs) n c is).0

-- no two compartments have one name
names_differ : (libraries : List Library) (compartments : List Compartment)
    → stands_once libraries compartments ≡ true → all_differ bytes_eq (names_of compartments) ≡ true
names_differ libraries compartments once =
    let a : Bool = all_differ bytes_eq (map (λ (l : Library). l.name) libraries) in
    let b : Bool = all_differ bytes_eq (names_of compartments) in
    let c : Bool = all_differ bytes_eq (libraries_of compartments) in
    let d : Bool = all_differ bytes_eq (files_of libraries) in
    let e : Bool = all_differ nat_eq (devices_of compartments) in
    (and_parts a b (and_parts (a && b) c (and_parts (a && b && c) d
    (and_parts (a && b && c && d) e once).0).0).0).1

-- the steps of a document's reading, from the last one on
abbrev finished : Top → List Library → List Compartment → ℕ → Config
finished top libraries compartments scheduler = record {
  mechanism = top.mechanism;
  stack_pages = top.stack_pages;
  scheduler = scheduler;
  libraries = libraries;
  compartments = compartments;
}

abbrev with_scheduler : Top → List Library → List Compartment → ℕ → Reading Config
with_scheduler top libraries compartments scheduler =
    demand (stands_once libraries compartments) TwoPlaces
    (Ok (finished top libraries compartments scheduler))

abbrev with_compartments : Top → List Library → List Compartment → Reading Config
with_compartments top libraries compartments =
    demand (nat_le (length (files_of libraries)) 64) OutOfRange
    (ok_or (scheduler_of top.scheduler compartments) OutOfRange
    >>= with_scheduler top libraries compartments)

abbrev with_libraries : Top → List Library → Reading Config
with_libraries top libraries =
    read_each compartment_of top.compartments >>= with_compartments top libraries

abbrev with_top : Top → Reading Config
with_top top = read_each library_of top.libraries >>= with_libraries top

scheduler_bounds : (top : Top) (libraries : List Library) (compartments : List Compartment)
    (scheduler : ℕ) → IsTop top → Passes is_named top.compartments compartments
    → scheduler_of top.scheduler compartments ≡ Some scheduler
    → Ends HasBounds (with_scheduler top libraries compartments scheduler)
scheduler_bounds top libraries compartments scheduler is named found =
    demand_ends HasBounds (stands_once libraries compartments) TwoPlaces
    (Ok (finished top libraries compartments scheduler)) (λ once. record {
      some = omega (arith, is.some, named.1);
      few = omega (arith, is.few, named.1);
      least = is.least;
      most = is.most;
      scheduler = scheduler_within top.scheduler compartments scheduler
          (omega (arith, is.some, named.1)) found;
      names = named.0;
      distinct = names_differ libraries compartments once;
    })

compartments_bounds : (top : Top) (libraries : List Library) (compartments : List Compartment)
    → IsTop top → Passes is_named top.compartments compartments
    → Ends HasBounds (with_compartments top libraries compartments)
compartments_bounds top libraries compartments is named =
    let number : Reading ℕ = ok_or (scheduler_of top.scheduler compartments) OutOfRange in
    demand_ends HasBounds (nat_le (length (files_of libraries)) 64) OutOfRange
    (number >>= with_scheduler top libraries compartments) (λ few.
    bind_ends (λ n. scheduler_of top.scheduler compartments ≡ Some n) HasBounds number
    (with_scheduler top libraries compartments)
    (found_ends (scheduler_of top.scheduler compartments) OutOfRange) (λ n found.
    scheduler_bounds top libraries compartments n is named found))

document_bounds : (document : Members) → Ends HasBounds (config_of document)
document_bounds document =
    bind_ends IsTop HasBounds (top_of document) with_top (top_within document) (λ top is.
    then_ends HasBounds (read_each library_of top.libraries) (with_libraries top) (λ libraries.
    bind_ends (Passes is_named top.compartments) HasBounds
    (read_each compartment_of top.compartments) (with_compartments top libraries)
    (each_ends is_named compartment_of compartment_named top.compartments)
    (λ compartments named. compartments_bounds top libraries compartments is named)))

pub read_bounds : (text : List ℕ) (k : Config) → configuration_of text ≡ Ok k → HasBounds k
read_bounds text k is =
    ended HasBounds (configuration_of text) k
    (then_ends HasBounds (document_of text) config_of document_bounds) is
