use Rattle.piece_modes.specs.Pieces.{text_over}
use Rattle.perdoaze_calls.proofs.Overs.{refused_is}
use Rattle.perdoaze_calls.proofs.over_pieces.open_by_gcm.Goals as goal

pub returns-in-Err-clause-opened : goal.returns-in-Err-clause-opened
returns-in-Err-clause-opened g c =
    rw (← c.copy_from_slice.ensures.after)
    (refused_is _ _ c.args.n (text_over c.args.pieces.now) (text_over c.open_gcm.new.pieces) c.in-Err.ensures.text c.open_gcm.ensures.rest)
