-- The values of a TOML document at the types that a configuration asks for.
use Rattle.std.specs.Prelude.{ℕ, ℤ, List, [], ◌∷◌, Option, Some, None, option_map, ok_or, Ok}
use Rattle.toml.specs.Data.{Data, Items, no_items, item, Members, no_members, member, get_member, as_array, as_str, as_integer, as_table}
use Rattle.fx_config.specs.declared.configuration.ConfigError.TheVariants.{Missing, WrongType}
use Rattle.fx_config.specs.Answers.{Reading, ◌>>=◌, read_each}

-- the keys of a table
abbrev pub keys : Members → List (List ℕ)
keys no_members = []
keys (member k d ms) = k ∷ keys ms

-- the elements of an array, in order
abbrev pub elements : Items → List Data
elements no_items = []
elements (item d ds) = d ∷ elements ds

-- the value at a key that has to be there
abbrev pub required : List ℕ → Members → Reading Data
required key table = ok_or (get_member key table) Missing

-- what f reads of the value at a key, if it is there
abbrev pub if_there : {A : Type 0} → (Data → Reading A) → Option Data → Reading (Option A)
if_there f None = Ok None
if_there f (Some value) = f value >>= (λ x. Ok (Some x))

-- what f reads of the array at a key, and nothing if it is not there
abbrev pub each_if_there : {A : Type 0} → (Data → Reading (List A)) → Option Data → Reading (List A)
each_if_there f None = Ok []
each_if_there f (Some value) = f value

-- a string, an integer and a table
abbrev pub string_of : Data → Reading (List ℕ)
string_of value = ok_or (as_str value) WrongType

abbrev pub integer_of : Data → Reading ℤ
integer_of value = ok_or (as_integer value) WrongType

abbrev pub table_of : Data → Reading Members
table_of value = ok_or (as_table value) WrongType

-- an array, and arrays of one type
abbrev pub array_of : Data → Reading (List Data)
array_of value = ok_or (option_map elements (as_array value)) WrongType

abbrev pub strings_of : Data → Reading (List (List ℕ))
strings_of value = array_of value >>= read_each string_of

abbrev pub integers_of : Data → Reading (List ℤ)
integers_of value = array_of value >>= read_each integer_of

abbrev pub tables_of : Data → Reading (List Members)
tables_of value = array_of value >>= read_each table_of
