use Rattle.std.proofs.Common.{refl}
use Rattle.piece_modes.proofs.Hashed.{text_from}
use Rattle.perdoaze_calls.specs.declared.pieces.Piece.{Piece}
use Rattle.perdoaze_calls.proofs.Gathering.{gathered, gathered_all}
use Rattle.perdoaze_calls.proofs.pieces.gather.Goals as goal

pub loop-piece-preserved : goal.loop-piece-preserved
loop-piece-preserved c =
    gathered c.args.pieces.now c.args.at c.args.n c.loop-piece.piece-index c.loop-piece.skip c.loop-piece.done c.min-begin.result c.min-count.result
    c.args.into.now c.loop-piece.into c.put_behind.new.into _ _
    (text_from (λ (p : Piece). p.bytes.now) c.args.pieces.now c.loop-piece.piece-index _ c.loop-piece-test.true)
    c.min-begin.ensures c.min-count.ensures refl c.requires.room c.loop-piece.invariant c.put_behind.ensures

pub returns : goal.returns
returns c =
    gathered_all c.args.pieces.now c.args.at c.args.n c.loop-piece.piece-index c.loop-piece.skip c.loop-piece.done c.args.into.now c.loop-piece.into
    c.loop-piece-test.false c.requires.within c.requires.room c.loop-piece.invariant
