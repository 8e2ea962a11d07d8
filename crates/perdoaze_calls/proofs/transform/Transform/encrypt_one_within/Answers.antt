use Rattle.std.proofs.Common.{refl}
use Rattle.std.proofs.Math.Seq.{map-set_same}
use Rattle.piece_modes.specs.Pieces.{size_of}
use Rattle.perdoaze_calls.proofs.Single.{encrypted_one}
use Rattle.perdoaze_calls.proofs.transform.Transform.encrypt_one_within.Goals as goal

pub returns-clause-came : goal.returns-clause-came
returns-clause-came c =
    encrypted_one c.args.self.now c.args.iv.now c.args.aad.now c.args.n c.encrypt_within.result c.args.pieces.now _ _ c.encrypt_within.new.buffer c.encrypt_within.new.written
    c.requires refl c.encrypt_within.ensures

pub returns-clause-sizes : goal.returns-clause-sizes
returns-clause-sizes c = map-set_same size_of c.args.pieces.now 0 _ _ c.encrypt_within.auto.buffer
