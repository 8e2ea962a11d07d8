use Rattle.std.proofs.Common.{take, arith}
use Rattle.piece_modes.specs.Pieces.{text_over}
use Rattle.piece_modes.proofs.Parts.{same_total_over}
use Rattle.piece_modes.proofs.Tags.{sealed_is}
use Rattle.piece_modes.proofs.gcm.seal_gcm.Goals as goal

pub returns-clause-sealed : goal.returns-clause-sealed
returns-clause-sealed g c =
    sealed_is (g.C.BlockCipher.sealed c.args.gcm.now) c.args.iv.now c.args.associated.now (take c.args.n (text_over c.args.pieces.now)) (take c.args.n (text_over c.count_over.new.pieces))
    (take c.args.n (text_over c.tag_over.new.pieces)) c.tag_over.result (rw c.cipher.ensures at c.count_over.ensures.text) c.tag_over.ensures.text c.tag_over.ensures.tag

pub tag_over-requires-clause-within : goal.tag_over-requires-clause-within
tag_over-requires-clause-within g c = omega (arith, c.requires.within, same_total_over c.args.pieces.now c.count_over.new.pieces c.count_over.ensures.sizes)
