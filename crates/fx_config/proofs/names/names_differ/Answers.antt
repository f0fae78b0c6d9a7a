use Rattle.std.proofs.Common.{rules, sym, bytes_eq}
use Rattle.std.proofs.lemmas.Cmp.{nat_list_cmp_total, on_total}
use Rattle.std.proofs.lemmas.Map.Text.{is_eq-slice_cmp}
use Rattle.std.proofs.lemmas.Map.Views.{btree_set_len-from_list}
use Rattle.fx_config.proofs.Differ.{all_differ-count, all_differ-map, all_differ-same}
use Rattle.fx_config.proofs.names.names_differ.Goals as goal

pub returns : goal.returns
returns c =
    let names = c.args.names.now in
    rw (
      all_differ-map bytes_eq (λ s. s.now) names,
      all_differ-same _ _ (λ x y. sym (is_eq-slice_cmp x.now y.now)) names,
      all_differ-count _ names,
      ← btree_set_len-from_list (on_total (λ s. s.now) nat_list_cmp_total) names _ c.in_ok-distinct.ensures,
    ) (search rules)
