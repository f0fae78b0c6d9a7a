use Rattle.std.proofs.Common.{◌≡◌, rules, nat_eq}
use Rattle.std.specs.HashSet.{hash_set_len}
use Rattle.std.specs.Set.{distinct_count}
use Rattle.std.proofs.lemmas.Cmp.{nat_eq_equiv}
use Rattle.std.proofs.lemmas.Map.Made.{hash_set_len-from_list}
use Rattle.fx_config.proofs.Differ.{all_differ-count}
use Rattle.fx_config.proofs.names.numbers_differ.Goals as goal

pub returns : goal.returns
returns c =
    let numbers = c.args.numbers.now in
    let count : hash_set_len c.in_ok-distinct.distinct ≡ distinct_count nat_eq numbers = hash_set_len-from_list nat_eq_equiv numbers c.in_ok-distinct.distinct c.in_ok-distinct.ensures in
    rw (all_differ-count nat_eq numbers, ← count) (search rules)
