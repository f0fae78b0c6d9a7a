use Rattle.std.proofs.Common.{◌∙◌, ◌+◌, ◌≤◌, [], ◌∷◌, ◌++◌, All, sym, ap, subst, zero-add}
use Rattle.std.proofs.lemmas.List.Elements.{All-push}
use Rattle.fx_sections.specs.declared.regions.Room.{Room}
use Rattle.fx_sections.specs.Placement.{opening, rooms_from}
use Rattle.fx_sections.proofs.Rooms.{rooms_from-more}
use Rattle.fx_sections.proofs.layout.openings.Goals as goal

pub loop-k-preserved : goal.loop-k-preserved
loop-k-preserved c =
    let k = c.loop-k.k in
    let low : Room → Type 0 = λ (r : Room). r.next ≤ 4128 in
    let ordered : Room → Type 0 = λ (r : Room). r.end ≤ r.next in
    record {
      rooms = c.in_ok-push.ensures.items ∙ ap (λ l. l ++ c.opening.result ∷ []) c.loop-k.invariant.rooms
          ∙ ap (λ r. rooms_from c.args.n [] 0 k ++ r ∷ []) (c.opening.ensures.value ∙ ap (opening c.args.n) (sym (zero-add k)))
          ∙ sym (rooms_from-more c.args.n [] 0 k);
      small = subst (All low) (sym c.in_ok-push.ensures.items) (All-push low c.loop-k.rooms.items c.opening.result c.loop-k.invariant.small c.opening.ensures.small);
      ordered = subst (All ordered) (sym c.in_ok-push.ensures.items) (All-push ordered c.loop-k.rooms.items c.opening.result c.loop-k.invariant.ordered c.opening.ensures.ordered);
    }
