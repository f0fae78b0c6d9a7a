-- What a configuration has that a document means.
use Rattle.std.specs.Prelude.{◌≡◌, ℕ, ◌<◌, ◌≤◌, true, List, length, map, Ok}
use Rattle.std.specs.List.{list_all}
use Rattle.std.specs.Str.{bytes_eq}
use Rattle.fx_config.specs.declared.configuration.Config.{Config}
use Rattle.fx_config.specs.declared.configuration.Compartment.{Compartment}
use Rattle.fx_config.specs.Names.{is_c_name, all_differ}
use Rattle.fx_config.specs.Reading.{compartment_limit, configuration_of}

-- From 1 compartment to as many as the mechanism allows, of different C names, one of which is the
-- scheduler's; and stacks of 1 to 64 pages.
pub record HasBounds (k : Config) : Type 0 where
  pub some : 1 ≤ length k.compartments
  pub few : length k.compartments ≤ compartment_limit k.mechanism
  pub least : 1 ≤ k.stack_pages
  pub most : k.stack_pages ≤ 64
  pub scheduler : k.scheduler < length k.compartments
  pub names : list_all (λ (c : Compartment). is_c_name c.name) k.compartments ≡ true
  pub distinct : all_differ bytes_eq (map (λ (c : Compartment). c.name) k.compartments) ≡ true

-- the configuration that a text means has them
abbrev pub ReadConfigurationsAreSound : Type 0
ReadConfigurationsAreSound =
    (text : List ℕ) (k : Config) → configuration_of text ≡ Ok k → HasBounds k
