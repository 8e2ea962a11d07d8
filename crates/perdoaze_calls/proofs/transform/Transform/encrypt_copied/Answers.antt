use Rattle.std.proofs.Common.{List, ℕ, ◌+◌, length, take, drop, subst, arith, ap, ◌∙◌, length-append, length-drop}
use Rattle.std_defs.specs.Value.Value.{bytes}
use Rattle.transforms.specs.InPlace as kept
use Rattle.transforms.specs.InPlace.{sealing}
use Rattle.perdoaze_calls.proofs.Answering.{IsKey, has_value, text_copied, behind_copied}
use Rattle.perdoaze_calls.proofs.transform.Transform.encrypt_copied.Goals as goal

pub returns-in-Ok-seal_front : goal.returns-in-Ok-seal_front
returns-in-Ok-seal_front c =
    let t = c.args.self.now in
    let k = c.in-Ok.keyed.now in
    let text = c.args.text.now in
    let mid = c.copy_front.new.into in
    let i : IsKey t k = record { plan = c.in-Ok.ensures.0; key = c.in-Ok.ensures.1 } in
    record {
      value = has_value t k _ _ i (subst (λ (x : List ℕ). kept.HasValue k t.authsize (sealing c.args.iv.now c.args.aad.now x) (bytes (take (length text + t.authsize) c.seal_front.new.buffer))) (text_copied text c.args.out.now mid c.copy_front.ensures) c.in-Ok-seal_front.ensures.sealed);
      fits = omega (arith, c.seal_front.ensures.len, c.if-out-size.false, ap length c.copy_front.ensures, length-append text (drop (length text) c.args.out.now), length-drop (length text) c.args.out.now);
      rest = c.seal_front.ensures.rest ∙ behind_copied text c.args.out.now mid (length text + t.authsize) (omega arith) c.copy_front.ensures;
    }
