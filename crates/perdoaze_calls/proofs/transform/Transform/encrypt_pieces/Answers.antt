use Rattle.std.proofs.Common.{arith}
use Rattle.perdoaze_calls.proofs.Answering.{IsKey, gave_copied, whole_gathered}
use Rattle.perdoaze_calls.proofs.transform.Transform.encrypt_pieces.Goals as goal

pub returns-in-Ok-seal_front : goal.returns-in-Ok-seal_front
returns-in-Ok-seal_front c =
    let i : IsKey c.args.self.now c.in-Ok.keyed.now = record { plan = c.in-Ok.ensures.0; key = c.in-Ok.ensures.1 } in
    gave_copied c.args.self.now c.in-Ok.keyed.now c.args.iv.now c.args.aad.now _ c.args.out.now c.gather.new.into c.seal_front.new.buffer c.in-Some.n
    i c.in-Some.ensures.0 (omega arith) (whole_gathered _ c.args.out.now c.gather.new.into c.in-Some.n c.in-Some.ensures.0 c.gather.ensures) c.in-Ok-seal_front.ensures.sealed c.seal_front.ensures.rest c.seal_front.ensures.len
