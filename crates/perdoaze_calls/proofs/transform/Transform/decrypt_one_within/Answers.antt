use Rattle.std.proofs.Common.{refl}
use Rattle.std.proofs.Math.Seq.{map-set_same}
use Rattle.piece_modes.specs.Pieces.{size_of}
use Rattle.perdoaze_calls.proofs.Single.{decrypted_one}
use Rattle.perdoaze_calls.proofs.transform.Transform.decrypt_one_within.Goals as goal

pub returns-clause-came : goal.returns-clause-came
returns-clause-came c =
    decrypted_one c.args.self.now c.args.iv.now c.args.aad.now c.args.n c.decrypt_within.result c.args.pieces.now _ _ c.decrypt_within.new.buffer c.decrypt_within.new.written
    c.requires refl c.decrypt_within.ensures

pub returns-clause-sizes : goal.returns-clause-sizes
returns-clause-sizes c = map-set_same size_of c.args.pieces.now 0 _ _ c.decrypt_within.auto.buffer
