use Rattle.std.proofs.Common.{take}
use Rattle.piece_modes.specs.Pieces.{text_over}
use Rattle.piece_modes.proofs.Tags.{text_is}
use Rattle.piece_modes.proofs.gcm.count_over.Goals as goal

pub returns-clause-text : goal.returns-clause-text
returns-clause-text g c =
    text_is g.C.BlockCipher.sealed c.new.result c.walk_front.result c.args.cipher.now c.args.iv.now (take c.args.n (text_over c.args.pieces.now)) (take c.args.n (text_over c.walk_front.new.pieces))
    c.new.ensures c.walk_front.ensures.made
