-- The lines of refusals and of files' faults. Their form is this project's own.
use Rattle.std.specs.Prelude.{ℕ, List, ◌++◌, codes}
use Rattle.std.specs.Fmt.{decimal}
use Rattle.fx_base.specs.declared.files.FileError.{FileError}
use Rattle.fx_base.specs.declared.files.FileError.TheVariants as files
use Rattle.fx_config.specs.declared.configuration.ConfigError.{ConfigError}
use Rattle.fx_config.specs.declared.configuration.ConfigError.TheVariants as config
use Rattle.fx_c_parse.specs.declared.fault.ParseError.{ParseError}
use Rattle.fx_c_parse.specs.declared.fault.ParseError.TheVariants as parse
use Rattle.fx_c_types_rules.specs.declared.fault.TypeKind.{TypeKind}
use Rattle.fx_c_types_rules.specs.declared.fault.TypeKind.TheVariants as types
use Rattle.fx_grants.specs.declared.resolution.GrantError.{GrantError}
use Rattle.fx_grants.specs.declared.resolution.GrantError.TheVariants as grants
use Rattle.fx_sections.specs.declared.placement.PlaceError.{PlaceError}
use Rattle.fx_sections.specs.declared.placement.PlaceError.TheVariants as place

-- a refusal's word is its variant's name
abbrev pub config_kind : ConfigError → List ℕ
config_kind config.NotToml = codes "NotToml"
config_kind config.UnknownField = codes "UnknownField"
config_kind config.Missing = codes "Missing"
config_kind config.WrongType = codes "WrongType"
config_kind config.OutOfRange = codes "OutOfRange"
config_kind config.TwoPlaces = codes "TwoPlaces"
config_kind config.OutOfMemory = codes "OutOfMemory"

abbrev pub type_kind : TypeKind → List ℕ
type_kind types.Twice = codes "Twice"
type_kind types.UnknownType = codes "UnknownType"
type_kind types.TooLarge = codes "TooLarge"
type_kind types.TooManyParameters = codes "TooManyParameters"
type_kind types.Initialiser = codes "Initialiser"
type_kind types.UnknownName = codes "UnknownName"
type_kind types.NotInteger = codes "NotInteger"
type_kind types.NotPointer = codes "NotPointer"
type_kind types.NotLvalue = codes "NotLvalue"
type_kind types.Mismatch = codes "Mismatch"
type_kind types.Arguments = codes "Arguments"
type_kind types.ReturnType = codes "ReturnType"
type_kind types.CrossCall = codes "CrossCall"
type_kind types.NotEntry = codes "NotEntry"
type_kind types.BreakOutside = codes "BreakOutside"
type_kind types.FrameTooLong = codes "FrameTooLong"
type_kind types.NoMain = codes "NoMain"

-- a word and a number behind it
abbrev pub numbered : List ℕ → ℕ → List ℕ
numbered word n = word ++ (codes " " ++ decimal n)

abbrev pub parse_kind : ParseError → List ℕ
parse_kind (parse.Byte at) = numbered (codes "Byte") at
parse_kind (parse.Syntax n) = numbered (codes "Syntax") n
parse_kind parse.OutOfMemory = codes "OutOfMemory"

abbrev pub grants_kind : GrantError → List ℕ
grants_kind grants.UnknownLibrary = codes "UnknownLibrary"
grants_kind (grants.NoCompartment n) = numbered (codes "NoCompartment") n
grants_kind grants.UnknownEntry = codes "UnknownEntry"
grants_kind (grants.NotOwner n) = numbered (codes "NotOwner") n
grants_kind (grants.GateNotGranted n) = numbered (codes "GateNotGranted") n
grants_kind (grants.NotScheduler n) = numbered (codes "NotScheduler") n
grants_kind grants.OutOfMemory = codes "OutOfMemory"

abbrev pub place_kind : PlaceError → List ℕ
place_kind (place.TooManyKeys n) = numbered (codes "TooManyKeys") n
place_kind (place.TooManyObjects n) = numbered (codes "TooManyObjects") n
place_kind (place.DataTooLong n) = numbered (codes "DataTooLong") n
place_kind (place.InitialTooLong n) = numbered (codes "InitialTooLong") n
place_kind place.OutOfMemory = codes "OutOfMemory"

-- the part that refuses, the kind and its numbers, parted by spaces
abbrev pub config_refusal : ConfigError → List ℕ
config_refusal e = codes "refused: config " ++ config_kind e

abbrev pub parse_refusal : ℕ → ParseError → List ℕ
parse_refusal file e = codes "refused: parse file " ++ (decimal file ++ (codes " " ++ parse_kind e))

abbrev pub types_refusal : TypeKind → ℕ → List ℕ
types_refusal kind declaration = codes "refused: types " ++ (type_kind kind ++ (codes " " ++ decimal declaration))

abbrev pub grants_refusal : GrantError → List ℕ
grants_refusal e = codes "refused: grants " ++ grants_kind e

abbrev pub place_refusal : PlaceError → List ℕ
place_refusal e = codes "refused: place " ++ place_kind e

-- a file's fault with its name
abbrev pub fault_words : FileError → List ℕ
fault_words files.Failed = codes "file fault: "
fault_words files.Missing = codes "no file: "
fault_words files.TooLong = codes "file too long: "
fault_words files.OutOfMemory = codes "file fault: "

abbrev pub file_fault : List ℕ → FileError → List ℕ
file_fault name e = fault_words e ++ name
