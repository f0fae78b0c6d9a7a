use Rattle.std.proofs.Common.{subst, sym}
use Rattle.fx_linker.specs.Linked.{IsLinkable}
use Rattle.fx_build_core.proofs.building.build.Goals as goal

pub link-requires : goal.link-requires
link-requires c =
    subst (λ parts. IsLinkable parts c.args.p.now c.args.at.now c.args.k.now)
    (sym c.in_ok-parts.ensures)
    (c.parts_are_linkable.ensures c.args.p.now c.args.g.now c.args.at.now c.args.k.now c.requires)
