-- Which compartment has a library, and which owns a device.
use Rattle.std.specs.Prelude.{ℕ, Bool, ◌==◌, List, map, slice_index, bytes_eq, Option, unwrap_or, position}
use Rattle.std.specs.List.{list_any}
use Rattle.fx_config.specs.declared.configuration.Config.{Config}
use Rattle.fx_config.specs.declared.configuration.Compartment.{Compartment}
use Rattle.fx_config.specs.declared.configuration.Library.{Library}

-- whether a compartment has the library of this name
abbrev pub holds_library : List ℕ → Compartment → Bool
holds_library name c = list_any (λ library. bytes_eq library name) c.libraries

-- the compartment that has the library of this name, if there is one
abbrev pub compartment_of : Config → List ℕ → Option ℕ
compartment_of k name = position (holds_library name) k.compartments

-- the same, 0 where there is none
abbrev pub home_of : Config → List ℕ → ℕ
home_of k name = unwrap_or (compartment_of k name) 0

-- the compartment of each library, by its number
abbrev pub homes_of : Config → List ℕ
homes_of k = map (λ (l : Library). home_of k l.name) k.libraries

abbrev pub home_at : List ℕ → ℕ → ℕ
home_at homes library = slice_index homes library

-- whether a compartment lists a device
abbrev pub lists_device : ℕ → Compartment → Bool
lists_device device c = list_any (λ d. d == device) c.devices

-- the owner of a device: the compartment that lists it, or the first
abbrev pub owner_of : Config → ℕ → ℕ
owner_of k device = unwrap_or (position (lists_device device) k.compartments) 0
