use Rattle.fx_pieces_law.proofs.Turning.{piece_turns}
use Rattle.fx_pieces_law.proofs.piece_turns.Goals as goal

pub returns : goal.returns
returns c = piece_turns
