use Rattle.std.proofs.Common.{◌≡◌, ◌∙◌, ◌<◌, [], pos, arith, inl, inr, length, length-set}
use Rattle.std.proofs.lemmas.Bool.{cases_lt}
use Rattle.std.proofs.Math.Seq.{map-set_same}
use Rattle.perdoaze_calls.specs.Many.{question_of}
use Rattle.piece_modes.specs.Pieces.{size_of}
use Rattle.perdoaze_calls.specs.declared.encryption.Encryption.{Encryption}
use Rattle.piece_modes.specs.declared.piece.PieceMut.{PieceMut}
use Rattle.perdoaze_calls.proofs.Encryptions.{field_at, field_set, field_others, iv_kept, aad_kept, len_kept, came_stays, came_now}
use Rattle.perdoaze_calls.proofs.many.answer_each.Goals as goal

pub loop-i-preserved : goal.loop-i-preserved
loop-i-preserved c =
    let i = c.loop-i.i in
    let t = c.args.transform.now in
    let old = c.args.asked.now in
    let before = c.args.buffers.now in
    let held = c.loop-i.invariant in
    let asked = c.loop-i.asked in
    let buffers = c.loop-i.buffers in
    let e : Encryption = c.answer_one.new.asked in
    let inside : i < length asked = omega (arith, held.asked_count) in
    let within : i < length buffers = omega (arith, held.buffer_count) in
    record {
      done = λ k below. elim (cases_lt k i) [
        | inl first ↦ came_stays t old asked _ before buffers _ k
            (field_others (λ (y : Encryption). y.status) asked i (pos 0) k e (omega (arith, first)))
            (field_others (λ (y : Encryption). y.written) asked i 0 k e (omega (arith, first)))
            (field_others (λ (y : PieceMut). y.bytes.now) buffers i [] k _ (omega (arith, first)))
            (held.done k first)
        | inr from ↦
            let is : k ≡ i = omega (arith, below, from) in
            rw is (came_now t old _ before _ i _ _ _ c.answer_one.ensures.came.0 e.status _ c.answer_one.new.buffer e.written
            c.answer_one.ensures.came.2 c.answer_one.ensures.came.1
            (field_at (λ (y : Encryption). y.iv.now) asked i [] _ inside ∙ iv_kept asked old held.kept i)
            (field_at (λ (y : Encryption). y.aad.now) asked i [] _ inside ∙ aad_kept asked old held.kept i)
            (field_at (λ (y : Encryption). y.len) asked i 0 _ inside ∙ len_kept asked old held.kept i)
            (field_at (λ (y : PieceMut). y.bytes.now) buffers i [] _ within ∙ held.left i (omega arith))
            (field_set (λ (y : Encryption). y.status) asked i (pos 0) e inside)
            (field_set (λ (y : PieceMut). y.bytes.now) buffers i [] _ within)
            (field_set (λ (y : Encryption). y.written) asked i 0 e inside))
      ];
      left = λ k from. field_others (λ (y : PieceMut). y.bytes.now) buffers i [] k _ (omega (arith, from)) ∙ held.left k (omega (arith, from));
      kept = map-set_same question_of asked i e _ c.answer_one.ensures.kept ∙ held.kept;
      sizes = map-set_same size_of buffers i _ _ c.answer_one.ensures.size ∙ held.sizes;
      asked_count = length-set asked i e ∙ held.asked_count;
      buffer_count = length-set buffers i _ ∙ held.buffer_count;
    }
