use Rattle.std.proofs.Common.{◌≡◌, ◌∙◌, ◌+◌, ◌-◌, ◌*◌, ◌++◌, ℕ, ap, refl, arith, length, take, drop}
use Rattle.sha2.specs.Sha256.{padding}
use Rattle.in_step.specs.Pieces.{behind}
use Rattle.in_step.proofs.Behind.{inner_block}
use Rattle.in_step.proofs.padding.put_block.Goals as goal

pub returns-then-at-front : goal.returns-then-at-front
returns-then-at-front c =
    let f = c.args.first.now in
    let s = c.args.second.now in
    let i = c.args.i in
    let start : ℕ = 64 * i - length f in
    let size : start + 64 - start ≡ 64 = omega arith in
    let place : 64 * i ≡ i * 64 = omega arith in
    c.copy_from_slice.ensures.after ∙ ap (λ (n : ℕ). take n (drop start s)) size
    ∙ inner_block f s (padding (c.args.taken + length (f ++ s))) (64 * i) start (omega arith) refl (omega arith)
    ∙ ap (λ (a : ℕ). take 64 (drop a (behind c.args.taken f s))) place
