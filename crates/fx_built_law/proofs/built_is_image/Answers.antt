use Rattle.fx_built_law.proofs.Built.{built_image}
use Rattle.fx_built_law.proofs.built_is_image.Goals as goal

pub returns : goal.returns
returns c =
    built_image (record {
      given = c.configured_programs_are_given.ensures;
      lowerable = c.configured_programs_are_lowerable.ensures;
      starts = c.checked_programs_start.ensures;
      homes = c.grants_give_homes.ensures;
      whole = c.parts_are_whole.ensures;
      keys = c.parts_have_no_keys.ensures;
      short = c.linked_are_short.ensures;
      linked = c.linked_are_images.ensures;
    })
