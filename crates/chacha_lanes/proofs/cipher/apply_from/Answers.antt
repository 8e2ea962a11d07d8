use Rattle.std.proofs.Common.{◌≡◌, ◌∙◌, ℕ, ◌+◌, ◌-◌, ◌*◌, ◌/◌, ◌%◌, ◌<◌, ◌≤◌, ap, ap₂, arith, subst, ⊎_elim, length, slice_index, bit_xor}
use Rattle.std.proofs.lemmas.Bool.{cases_lt}
use Rattle.std_defs.specs.ChaCha20.{stream_byte}
use Rattle.chacha_lanes.proofs.Shifts.{shifted}
use Rattle.chacha_lanes.proofs.cipher.apply_from.Goals as goal

pub loop-g-preserved : goal.loop-g-preserved
loop-g-preserved c =
    let key = c.args.key.now in
    let nonce = c.args.nonce.now in
    let counter : ℕ = c.args.counter in
    let at : ℕ = c.args.at in
    let g : ℕ = c.loop-g.g in
    let e = c.xor_eight_at.ensures in
    let i = c.loop-g.invariant in
    record {
      long = omega (arith, e.long, i.long);
      before = λ p lt. e.before p (omega arith) ∙ i.before p lt;
      done = λ k lt. ⊎_elim
          (λ (h : k < 512 * g). e.before (at + k) (omega arith) ∙ i.done k h)
          (λ (h : 512 * g ≤ k).
          let place : at + 512 * g + (k - 512 * g) ≡ at + k = omega arith in
          subst (λ p. slice_index c.xor_eight_at.new.text p ≡ bit_xor (slice_index c.args.text.now p) (stream_byte key nonce counter k)) place
          (e.there (k - 512 * g) (omega arith)
          ∙ ap₂ bit_xor (i.left (at + 512 * g + (k - 512 * g)) (omega arith)) (shifted key nonce (counter + 8 * g) counter (k - 512 * g) k (omega arith) (omega arith))))
          (cases_lt k (512 * g));
      left = λ p h. e.behind p (omega arith) ∙ i.left p (omega arith);
    }

pub returns-clause-there : goal.returns-clause-there
returns-clause-there c k within =
    let key = c.args.key.now in
    let nonce = c.args.nonce.now in
    let counter : ℕ = c.args.counter in
    let at : ℕ = c.args.at in
    let g : ℕ = c.loop-g.g in
    let n : ℕ = (length c.args.text.now - at - 1) / 512 in
    let last : n ≡ g = omega arith in
    let e = c.xor_part.ensures in
    let i = c.loop-g.invariant in
    ⊎_elim
    (λ (h : k < 512 * g). e.before (at + k) (omega arith) ∙ i.done k h)
    (λ (h : 512 * g ≤ k).
    let place : at + 512 * n + (k - 512 * g) ≡ at + k = omega arith in
    let start : 0 + (k - 512 * g) ≡ k - 512 * g = omega arith in
    subst (λ p. slice_index c.xor_part.new.text p ≡ bit_xor (slice_index c.args.text.now p) (stream_byte key nonce counter k)) place
    (e.there (k - 512 * g) (omega (arith, i.long)) (omega arith)
    ∙ ap₂ bit_xor (i.left (at + 512 * n + (k - 512 * g)) (omega arith))
    (ap (slice_index c.eight_blocks_of-last.result) start ∙ c.eight_blocks_of-last.ensures (k - 512 * g) (omega arith)
    ∙ shifted key nonce (counter + 8 * n) counter (k - 512 * g) k (omega arith) (omega arith))))
    (cases_lt k (512 * g))
