use Rattle.std.proofs.Common.{refl, arith}
use Rattle.perdoaze_calls.proofs.Gathering.{scattered}
use Rattle.perdoaze_calls.proofs.pieces.scatter.Goals as goal

pub loop-piece-preserved : goal.loop-piece-preserved
loop-piece-preserved c =
    scattered c.args.pieces.now c.loop-piece.pieces c.args.from.now c.loop-piece.piece-index c.loop-piece.done _ _ c.copy_from.new.into
    (omega (arith, c.loop-piece-test.true, c.loop-piece.invariant.count)) c.requires c.loop-piece.invariant refl c.copy_from.ensures
