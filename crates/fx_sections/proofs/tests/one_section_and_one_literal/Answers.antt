use Rattle.fx_sections.proofs.Tried.{one_literal}
use Rattle.fx_sections.proofs.tests.one_section_and_one_literal.Goals as goal

pub place-requires : goal.place-requires
place-requires g c = one_literal _ _ _ c.in_ok-p.ensures.structs c.in_ok-p.ensures.globals c.in_ok-p.ensures.literals c.no_globals-g.ensures c.in_ok-c.ensures
