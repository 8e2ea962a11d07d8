use Rattle.std.proofs.Common.{◌≡◌, ◌-◌, ℕ, take, drop, ap, arith}
use Rattle.perdoaze_calls.proofs.Answering.{IsKey, tag_gathered, gave_opened, gathered_refused}
use Rattle.perdoaze_calls.specs.Pieces.{text_in}
use Rattle.perdoaze_calls.proofs.transform.Transform.decrypt_pieces.Goals as goal

pub returns-in-Ok-open_under : goal.returns-in-Ok-open_under
returns-in-Ok-open_under c =
    let t = c.args.self.now in
    let text = text_in c.args.pieces.now in
    let n : ℕ = c.in-Some.n - t.authsize in
    let i : IsKey t c.in-Ok.keyed.now = record { plan = c.in-Ok.ensures.0; key = c.in-Ok.ensures.1 } in
    let tag : take t.authsize c.gather.new.into ≡ drop n text =
    tag_gathered text _ c.gather.new.into n t.authsize (omega (arith, c.in-Some.ensures.0, c.if-n-tag_size.false)) c.gather.ensures in
    gave_opened t c.in-Ok.keyed.now c.args.iv.now c.args.aad.now text c.args.out.now c.gather-2.new.into c.open_under.new.buffer _ n
    i (omega (arith, c.in-Some.ensures.0, c.if-n-tag_size.false)) (ap (λ (j : ℕ). j - t.authsize) c.in-Some.ensures.0) c.if-out-size.false
    c.gather-2.ensures tag c.in-Ok-open_under.ensures.opened c.open_under.ensures.rest c.open_under.ensures.len

pub returns-in-Err-open_under : goal.returns-in-Err-open_under
returns-in-Err-open_under c =
    let t = c.args.self.now in
    let text = text_in c.args.pieces.now in
    let n : ℕ = c.in-Some.n - t.authsize in
    let i : IsKey t c.in-Ok.keyed.now = record { plan = c.in-Ok.ensures.0; key = c.in-Ok.ensures.1 } in
    let tag : take t.authsize c.gather.new.into ≡ drop n text =
    tag_gathered text _ c.gather.new.into n t.authsize (omega (arith, c.in-Some.ensures.0, c.if-n-tag_size.false)) c.gather.ensures in
    gathered_refused t c.in-Ok.keyed.now c.args.iv.now c.args.aad.now text c.args.out.now c.gather-2.new.into c.open_under.new.buffer c.clear_front.new.bytes _ n
    c.in-Err-open_under.error c.status_of.result
    i (omega (arith, c.in-Some.ensures.0, c.if-n-tag_size.false)) (ap (λ (j : ℕ). j - t.authsize) c.in-Some.ensures.0)
    c.gather-2.ensures tag c.in-Err-open_under.ensures.opened.0 c.open_under.ensures.rest c.clear_front.ensures c.status_of.ensures
