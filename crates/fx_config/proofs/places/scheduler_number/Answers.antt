use Rattle.fx_config.proofs.places.scheduler_number.Goals as goal

pub returns-in-Some : goal.returns-in-Some
returns-in-Some c = rw (c.in-Some.is, ← c.as_bytes.ensures.value) c.number_of.ensures
