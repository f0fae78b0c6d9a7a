use Rattle.std.proofs.Common.{length}
use Rattle.fx_cmd_base.proofs.words.+digits_number.Given as goal

abbrev pub decreases-digits_number : goal.decreases-digits_number
decreases-digits_number l = length l.digits.now
