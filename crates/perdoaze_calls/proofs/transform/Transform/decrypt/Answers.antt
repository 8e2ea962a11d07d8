use Rattle.perdoaze_calls.proofs.Answering.{IsKey, decryption_refused}
use Rattle.perdoaze_calls.proofs.transform.Transform.decrypt.Goals as goal

pub returns-in-Err-open_under : goal.returns-in-Err-open_under
returns-in-Err-open_under c =
    let i : IsKey c.args.self.now c.in-Ok.keyed.now = record { plan = c.in-Ok.ensures.0; key = c.in-Ok.ensures.1 } in
    decryption_refused c.args.self.now c.in-Ok.keyed.now c.args.iv.now c.args.aad.now c.args.text.now c.split_at.result.0.now c.split_at.result.1.now
    c.args.out.now c.copy_front.new.into c.open_under.new.buffer c.clear_front.new.bytes c.in-Err-open_under.error c.status_of.result
    i c.if-text-tag_size.false c.split_at.ensures.front c.split_at.ensures.back c.copy_front.ensures c.in-Err-open_under.ensures.opened.0
    c.in-Err-open_under.ensures.rest c.clear_front.ensures c.status_of.ensures
