-- The top table's fields as the code holds them.
use Rattle.std.specs.Prelude.{map, option_map}
use Rattle.toml.specs.View.{table_view}
use Rattle.fx_config.specs.declared.top_table.TopTable.{TopTable}
use Rattle.fx_config.specs.Reading.{Top}

abbrev pub top_view : TopTable → Top
top_view t = record {
  mechanism = t.mechanism;
  stack_pages = t.stack_pages;
  scheduler = option_map (λ s. s.now) t.scheduler;
  libraries = map (λ m. table_view m.now) t.libraries.items;
  compartments = map (λ m. table_view m.now) t.compartments.items;
}
