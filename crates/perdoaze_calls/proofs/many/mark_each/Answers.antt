use Rattle.std.proofs.Common.{◌≡◌, ◌∙◌, ◌<◌, ◌+◌, ℕ, pos, ap, arith, inl, inr, length, length-set}
use Rattle.std.proofs.lemmas.Bool.{cases_lt}
use Rattle.std.proofs.Math.Seq.{map-set_same}
use Rattle.perdoaze_calls.specs.Many.{question_of}
use Rattle.perdoaze_calls.specs.declared.encryption.Encryption.{Encryption}
use Rattle.perdoaze_calls.proofs.Encryptions.{field_at, field_set, field_others, len_kept, short_enough}
use Rattle.perdoaze_calls.proofs.many.mark_each.Goals as goal

pub mark-requires : goal.mark-requires
mark-requires c =
    let i = c.loop-i.i in
    let held = c.loop-i.invariant in
    short_enough c.loop-i.asked i _ (omega (arith, held.count)) c.args.tag_size
    (omega (arith, c.requires.short i (omega (arith, held.count)), len_kept c.loop-i.asked c.args.asked.now held.kept i)) c.requires.tag

pub loop-i-preserved : goal.loop-i-preserved
loop-i-preserved c =
    let i = c.loop-i.i in
    let held = c.loop-i.invariant in
    let asked = c.loop-i.asked in
    let e : Encryption = c.mark.new.asked in
    let inside : i < length asked = omega (arith, held.count) in
    record {
      done = λ k below. elim (cases_lt k i) [
        | inl first ↦ (
          field_others (λ (y : Encryption). y.status) asked i (pos 0) k e (omega (arith, first)) ∙ (held.done k first).0,
          field_others (λ (y : Encryption). y.written) asked i 0 k e (omega (arith, first)) ∙ (held.done k first).1,
        )
        | inr from ↦
            let is : k ≡ i = omega (arith, below, from) in
            rw is (
              field_set (λ (y : Encryption). y.status) asked i (pos 0) e inside ∙ c.mark.ensures.marked.0,
              field_set (λ (y : Encryption). y.written) asked i 0 e inside ∙ c.mark.ensures.marked.1
                  ∙ ap (λ (n : ℕ). n + c.args.tag_size) (field_at (λ (y : Encryption). y.len) asked i 0 _ inside ∙ len_kept asked c.args.asked.now held.kept i),
            )
      ];
      kept = map-set_same question_of asked i e _ c.mark.ensures.kept ∙ held.kept;
      count = length-set asked i e ∙ held.count;
    }
