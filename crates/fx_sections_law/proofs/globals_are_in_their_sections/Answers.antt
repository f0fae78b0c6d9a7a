use Rattle.fx_grants.specs.declared.grants.Pair.{Pair}
use Rattle.fx_sections_law.proofs.Globals.{in_section, global_in_section}
use Rattle.fx_sections_law.proofs.globals_are_in_their_sections.Goals as goal

pub returns : goal.returns
returns c = λ p g k has i less d.
    let none : Pair = record { readers = 0; writers = 0 } in (
      (in_section p g k has i less d none none).0,
      λ s. (
        (λ q. (global_in_section p g k has i less d s q).0),
        (global_in_section p g k has i less d s none).1,
        (global_in_section p g k has i less d s none).2,
      ),
    )
