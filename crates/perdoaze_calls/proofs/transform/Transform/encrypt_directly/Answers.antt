use Rattle.std.proofs.Common.{◌+◌, length, arith}
use Rattle.transforms.specs.InPlace.{sealing}
use Rattle.perdoaze_calls.proofs.Answering.{IsKey}
use Rattle.perdoaze_calls.proofs.Making.{gave_at}
use Rattle.perdoaze_calls.proofs.transform.Transform.encrypt_directly.Goals as goal

pub returns-clause-came : goal.returns-clause-came
returns-clause-came c = λ yes.
    let t = c.args.self.now in
    let i : IsKey t c.in-Ok.keyed.now = record { plan = c.in-Ok.ensures.0; key = c.in-Ok.ensures.1 } in
    let done = c.if-not-seal_directly.false in
    gave_at t c.in-Ok.keyed.now (sealing c.args.iv.now c.args.aad.now c.args.text.now) c.args.out.now c.seal_directly.new.out (length c.args.text.now + t.authsize)
    i (c.seal_directly.ensures.sealed done) (c.seal_directly.ensures.rest done) c.seal_directly.ensures.len (omega arith)
