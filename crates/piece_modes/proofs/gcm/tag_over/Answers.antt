use Rattle.std.proofs.Common.{◌≡◌, take, length, sym}
use Rattle.std.proofs.lemmas.List.{length-take-le}
use Rattle.piece_modes.specs.Pieces.{text_over}
use Rattle.piece_modes.proofs.Tags.{tag_is}
use Rattle.piece_modes.proofs.gcm.tag_over.Goals as goal

pub returns-clause-tag : goal.returns-clause-tag
returns-clause-tag g c =
    let long : length (take c.args.n (text_over c.args.pieces.now)) ≡ c.args.n = length-take-le c.args.n (text_over c.args.pieces.now) c.requires.within in
    tag_is g.H.GhashKey.block (g.C.BlockCipher.sealed c.args.gcm.now) c.new.result c.walk_front-hashed.result c.key.result.now c.args.iv.now c.args.associated.now
    (take c.args.n (text_over c.args.pieces.now)) (take c.args.n (text_over c.walk_front-hashed.new.pieces)) c.seal_hash.result c.hash.result c.args.n
    c.new.ensures c.walk_front-hashed.ensures.made c.hash.ensures c.key.ensures (g.met.H.GhashKey.fits c.key.result.now)
    (λ i. (c.type_inv.associated i).fits) c.requires.associated_short (rw long c.requires.text_short) (sym long) c.seal_hash.ensures

pub returns-clause-text : goal.returns-clause-text
returns-clause-text g c = c.walk_front-hashed.ensures.made.kept
