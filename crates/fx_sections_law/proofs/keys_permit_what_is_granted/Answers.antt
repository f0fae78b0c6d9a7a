use Rattle.fx_sections_law.proofs.Bits.{permits}
use Rattle.fx_sections_law.proofs.keys_permit_what_is_granted.Goals as goal

pub returns : goal.returns
returns c = λ m page ps rs scheduler d flags frame keyed same few writable. permits m page ps rs scheduler d keyed same few flags frame writable
