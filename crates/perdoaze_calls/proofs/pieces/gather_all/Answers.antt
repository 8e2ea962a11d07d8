use Rattle.std.proofs.Common.{ap}
use Rattle.perdoaze_calls.proofs.Gathering.{copied_more, copied_all}
use Rattle.perdoaze_calls.proofs.pieces.gather_all.Goals as goal

pub loop-piece-preserved : goal.loop-piece-preserved
loop-piece-preserved c =
    copied_more c.args.pieces.now c.loop-piece.piece-index c.loop-piece.done c.piece-item.result c.args.into.now c.loop-piece.into c.put_behind.new.into _ c.loop-piece-test.true
    c.requires (ap (λ p. p.bytes.now) c.piece-item.is) c.loop-piece.invariant c.put_behind.ensures

pub returns-clause-count : goal.returns-clause-count
returns-clause-count c = (copied_all c.args.pieces.now c.loop-piece.piece-index c.loop-piece.done c.args.into.now c.loop-piece.into c.loop-piece-test.false c.loop-piece.invariant).0

pub returns-clause-copied : goal.returns-clause-copied
returns-clause-copied c = (copied_all c.args.pieces.now c.loop-piece.piece-index c.loop-piece.done c.args.into.now c.loop-piece.into c.loop-piece-test.false c.loop-piece.invariant).1
