use Rattle.std.proofs.Common.{◌≡◌, ◌∙◌, ap, map, sym, arith, bytes_eq}
use Rattle.std.proofs.lemmas.Cmp.{nat_list_cmp_total, on_total}
use Rattle.std.proofs.lemmas.Grind.{common_steps}
use Rattle.std.proofs.lemmas.Map.Text.{is_eq-slice_cmp}
use Rattle.std.proofs.lemmas.Map.Views.{btree_set_len-from_list}
use Rattle.fx_image.specs.declared.forms.Obj.{Obj}
use Rattle.fx_image.proofs.Differ.{distinct-count, distinct-map, distinct-same}
use Rattle.fx_image.proofs.objects.have_distinct_names.Goals as goal

pub returns : goal.returns
returns c =
    let names = c.deref.result.now in
    let named : map (λ s. s.now) names ≡ map (λ (o : Obj). o.name) c.args.objects.now = ap (map (λ s. s.now)) c.deref.ensures.value ∙ c.in_ok-names.ensures in
    rw (
      ← distinct-map bytes_eq (λ (o : Obj). o.name) c.args.objects.now,
      ← named,
      distinct-map bytes_eq (λ s. s.now) names,
      distinct-same _ _ (λ x y. sym (is_eq-slice_cmp x.now y.now)) names,
      distinct-count _ names,
      ← btree_set_len-from_list (on_total (λ s. s.now) nat_list_cmp_total) names _ c.in_ok-distinct.ensures,
    ) (grind (arith, common_steps))
