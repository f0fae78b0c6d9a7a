-- Grants as rights.
use Rattle.std.specs.Prelude.{map, not}
use Rattle.fx_grants.specs.declared.grants.Pair.{Pair}
use Rattle.fx_grants.specs.declared.grants.Grants.{Grants}
use Rattle.fx_grants.specs.GrantSets.{denies_nothing, has_common_stacks}
use Rattle.fx_c_mean_model.specs.declared.rights.Rights.{Rights}

-- Each compartment has its libraries; accesses are checked under every mechanism but plain calls; and
-- compartments have stacks of their own where they have memory of their own.
abbrev pub rights_of : Grants → Rights
rights_of g = record {
  homes = g.homes;
  readers = map (λ (p : Pair). p.readers) g.globals;
  writers = map (λ (p : Pair). p.writers) g.globals;
  guarded = not (denies_nothing g.mechanism);
  own_stacks = not (has_common_stacks g.mechanism);
  stack_pages = g.stack_pages;
}
