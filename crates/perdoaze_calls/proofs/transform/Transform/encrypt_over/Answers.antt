use Rattle.std.proofs.Common.{◌+◌, take}
use Rattle.piece_modes.specs.Pieces.{text_over}
use Rattle.transforms.specs.InPlace.{sealing}
use Rattle.perdoaze_calls.proofs.Answering.{IsKey}
use Rattle.perdoaze_calls.proofs.Making.{gave_at}
use Rattle.perdoaze_calls.proofs.Overs.{same_total}
use Rattle.perdoaze_calls.proofs.transform.Transform.encrypt_over.Goals as goal

pub returns-clause-came : goal.returns-clause-came
returns-clause-came c = λ yes.
    let t = c.args.self.now in
    let i : IsKey t c.in-Ok.keyed.now = record { plan = c.in-Ok.ensures.0; key = c.in-Ok.ensures.1 } in
    gave_at t c.in-Ok.keyed.now (sealing c.args.iv.now c.args.aad.now (take c.args.n (text_over c.args.pieces.now))) (text_over c.args.pieces.now) (text_over c.seal_keyed_over.new.pieces)
    (c.args.n + t.authsize) i (c.seal_keyed_over.ensures.sealed c.if-not-seal_keyed_over.false) c.seal_keyed_over.ensures.rest
    (same_total c.args.pieces.now c.seal_keyed_over.new.pieces c.seal_keyed_over.ensures.sizes) (c.have.ensures c.if-not-have.false)
