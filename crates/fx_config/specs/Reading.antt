-- What the bytes of a configuration document mean, table by table, and what refuses them first.
--
-- The document's fields, their ranges and the order of refusals are this project's own. Of each table four
-- causes are tried in this order: a field that is not known, one that is missing, one of another type, one out of
-- its range. The top table comes first, then each library, then each compartment.
use Rattle.std.specs.Prelude.{ℕ, ℤ, Bool, true, ◌&&◌, nat_le, List, [], ◌∷◌, length, codes, bytes_eq, nat_eq, Option, Some, None, ok_or, position, flat_map, Ok, Err, if◌then◌else◌, map}
use Rattle.std.specs.List.{list_all, list_any}
use Rattle.std.specs.Int.{is_in_range}
use Rattle.std.specs.Str.{is_utf8}
use Rattle.toml.specs.Data.{Members, get_member}
use Rattle.toml.specs.Parse.{parse_document}
use Rattle.fx_config.specs.declared.configuration.Mechanism.{Mechanism}
use Rattle.fx_config.specs.declared.configuration.Mechanism.TheVariants.{Call, Light, Full, Ept}
use Rattle.fx_config.specs.declared.configuration.Config.{Config}
use Rattle.fx_config.specs.declared.configuration.Library.{Library}
use Rattle.fx_config.specs.declared.configuration.Compartment.{Compartment}
use Rattle.fx_config.specs.declared.configuration.ConfigError.TheVariants.{NotToml, UnknownField, OutOfRange, TwoPlaces}
use Rattle.fx_config.specs.Answers.{Reading, ◌>>=◌, demand, read_each}
use Rattle.fx_config.specs.Document.{keys, required, if_there, each_if_there, string_of, integer_of, strings_of, integers_of, tables_of}
use Rattle.fx_config.specs.Names.{is_c_name, is_file_name, number_in, all_differ}

-- every key of the table is one of these
abbrev pub has_only : List (List ℕ) → Members → Bool
has_only fields table = list_all (λ key. list_any (λ field. bytes_eq field key) fields) (keys table)

-- the test passes, or there is nothing to try it on
abbrev pub passes_if_there : {A : Type 0} → (A → Bool) → Option A → Bool
passes_if_there test None = true
passes_if_there test (Some x) = test x

-- ---- a library

abbrev pub library_of : Members → Reading Library
library_of table =
    demand (has_only (codes "name" ∷ codes "files" ∷ []) table) UnknownField
    (required (codes "name") table >>= (λ name. required (codes "files") table >>= (λ files.
    string_of name >>= (λ name. strings_of files >>= (λ files.
    demand (is_c_name name && list_all is_file_name files) OutOfRange
    (Ok (record { name = name; files = files })))))))

-- ---- a compartment

-- the number of a device
abbrev pub device_of : ℤ → Reading ℕ
device_of number = ok_or (number_in 0 15 number) OutOfRange

abbrev pub compartment_of : Members → Reading Compartment
compartment_of table =
    demand (has_only (codes "name" ∷ codes "libraries" ∷ codes "calls" ∷ codes "devices" ∷ []) table) UnknownField
    (required (codes "name") table >>= (λ name. required (codes "libraries") table >>= (λ libraries.
    string_of name >>= (λ name. strings_of libraries >>= (λ libraries.
    if_there strings_of (get_member (codes "calls") table) >>= (λ calls.
    each_if_there integers_of (get_member (codes "devices") table) >>= (λ devices.
    demand (is_c_name name && list_all is_c_name libraries && passes_if_there (list_all is_c_name) calls) OutOfRange
    (read_each device_of devices >>= (λ devices.
    Ok (record { name = name; libraries = libraries; calls = calls; devices = devices }))))))))))

-- ---- the top table

-- what the top table's own fields say
pub record Top : Type 0 where
  pub mechanism : Mechanism
  pub stack_pages : ℕ
  pub scheduler : Option (List ℕ)
  pub libraries : List Members
  pub compartments : List Members

-- the mechanism of a word
abbrev pub mechanism_of : List ℕ → Option Mechanism
mechanism_of word =
    if bytes_eq word (codes "call") then Some Call
    else if bytes_eq word (codes "light") then Some Light
    else if bytes_eq word (codes "full") then Some Full
    else if bytes_eq word (codes "ept") then Some Ept
    else None

-- the most compartments under a mechanism
abbrev pub compartment_limit : Mechanism → ℕ
compartment_limit Call = 8
compartment_limit Light = 8
compartment_limit Full = 8
compartment_limit Ept = 16

-- the pages of a stack are 4 where the document does not say
abbrev pub stack_pages_of : Option ℤ → Option ℕ
stack_pages_of None = Some 4
stack_pages_of (Some pages) = number_in 1 64 pages

abbrev pub top_of : Members → Reading Top
top_of table =
    demand (has_only (codes "mechanism" ∷ codes "stack_pages" ∷ codes "scheduler" ∷ codes "library" ∷ codes "compartment" ∷ []) table) UnknownField
    (required (codes "mechanism") table >>= (λ word. required (codes "library") table >>= (λ libraries. required (codes "compartment") table >>= (λ compartments.
    string_of word >>= (λ word. tables_of libraries >>= (λ libraries. tables_of compartments >>= (λ compartments.
    if_there integer_of (get_member (codes "stack_pages") table) >>= (λ pages.
    if_there string_of (get_member (codes "scheduler") table) >>= (λ scheduler.
    ok_or (mechanism_of word) OutOfRange >>= (λ mechanism.
    ok_or (stack_pages_of pages) OutOfRange >>= (λ stack_pages.
    demand (passes_if_there is_c_name scheduler && is_in_range 1 64 (length libraries) && is_in_range 1 (compartment_limit mechanism) (length compartments)) OutOfRange
    (Ok (record { mechanism = mechanism; stack_pages = stack_pages; scheduler = scheduler; libraries = libraries; compartments = compartments })))))))))))))

-- ---- the whole document

-- the number of the scheduler's compartment: the first where the document names none
abbrev pub scheduler_of : Option (List ℕ) → List Compartment → Option ℕ
scheduler_of None compartments = Some 0
scheduler_of (Some name) compartments = position (λ (c : Compartment). bytes_eq c.name name) compartments

-- the files of all libraries, the libraries of all compartments, and the devices of all compartments
abbrev pub files_of : List Library → List (List ℕ)
files_of libraries = flat_map (λ (l : Library). l.files) libraries

abbrev pub libraries_of : List Compartment → List (List ℕ)
libraries_of compartments = flat_map (λ (c : Compartment). c.libraries) compartments

abbrev pub devices_of : List Compartment → List ℕ
devices_of compartments = flat_map (λ (c : Compartment). c.devices) compartments

-- no two libraries or compartments of one name, and no library, file or device in two places
abbrev pub stands_once : List Library → List Compartment → Bool
stands_once libraries compartments =
    all_differ bytes_eq (map (λ (l : Library). l.name) libraries) && all_differ bytes_eq (map (λ (c : Compartment). c.name) compartments)
    && all_differ bytes_eq (libraries_of compartments) && all_differ bytes_eq (files_of libraries) && all_differ nat_eq (devices_of compartments)

abbrev pub config_of : Members → Reading Config
config_of document =
    top_of document >>= (λ (top : Top).
    read_each library_of top.libraries >>= (λ libraries.
    read_each compartment_of top.compartments >>= (λ compartments.
    demand (nat_le (length (files_of libraries)) 64) OutOfRange
    (ok_or (scheduler_of top.scheduler compartments) OutOfRange >>= (λ scheduler.
    demand (stands_once libraries compartments) TwoPlaces
    (Ok (record { mechanism = top.mechanism; stack_pages = top.stack_pages; scheduler = scheduler; libraries = libraries; compartments = compartments })))))))

-- the table that a text is, if it is UTF-8 and a document of TOML 1.1
unfoldable pub document_of : List ℕ → Reading Members
document_of text = if is_utf8 text then ok_or (parse_document text) NotToml else Err NotToml

-- the configuration that a text is, or its first refusal
abbrev pub configuration_of : List ℕ → Reading Config
configuration_of text = document_of text >>= config_of
