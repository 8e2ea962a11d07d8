use Rattle.piece_modes.specs.Pieces.{text_over}
use Rattle.perdoaze_calls.proofs.Overs.{whole_same}
use Rattle.perdoaze_calls.proofs.over_pieces.open_by.Goals as goal

pub returns-in-Err-clause-undone : goal.returns-in-Err-clause-undone
returns-in-Err-clause-undone g c = λ no.
    whole_same c.args.n (text_over c.args.pieces.now) (text_over c.unseal_pieces.new.pieces) c.in-Err.ensures.text.2 c.unseal_pieces.ensures.rest
