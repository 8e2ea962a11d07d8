use Rattle.std.proofs.Common.{◌≡◌, ◌∙◌, ℕ, ◌*◌, ◌%◌, ◌<◌, List, ap, arith, refl, sym, take, drop, length}
use Rattle.std.proofs.lemmas.Bool.{eqb-true, eqb-false}
use Rattle.std.specs.Int.{div_ceil}
use Rattle.std_defs.specs.Poly1305.{prime, accumulated, message_block}
use Rattle.poly1305.specs.Limbs.{value_of, fronted}
use Rattle.poly1305.proofs.Horner.{accumulated_blocks}
use Rattle.poly1305.proofs.PaddedText.{marked_block}
use Rattle.poly1305.proofs.powers.Powers.after_short.Goals as goal

pub returns-then-is_empty-clause-value : goal.returns-then-is_empty-clause-value
unfolding accumulated
returns-then-is_empty-clause-value c =
    let empty : length c.args.last.now ≡ 0 = eqb-true _ _ (sym c.is_empty.ensures ∙ c.if-is_empty.true) in
    let none : div_ceil (length c.args.last.now) 16 ≡ 0 = omega arith in
    rw none refl

pub returns-clause-value : goal.returns-clause-value
returns-clause-value c =
    let r : ℕ = c.args.self.now.r in
    let last : List ℕ = c.args.last.now in
    let v : ℕ = value_of c.args.value in
    let differ = eqb-false (length c.args.last.now) 0 (sym c.is_empty.ensures ∙ c.if-is_empty.false) in
    let some : 0 < length last = omega arith in
    let count : div_ceil (length last) 16 ≡ 1 = omega arith in
    let block : fronted 0 (take 16 (drop (16 * 0) c.marked.result)) ≡ message_block last 0 =
    ap (λ t. fronted 0 (take 16 (drop (16 * 0) t))) c.marked.ensures ∙ marked_block last some c.requires.short in
    let first : (i : ℕ) → i < 1 → fronted 0 (take 16 (drop (16 * i) c.marked.result)) ≡ message_block last i =
    λ i lt. (let e : i ≡ 0 = omega arith in rw e block) in
    c.after_blocks.ensures.value
    ∙ ap (λ x. x % prime) (accumulated_blocks r (λ i. fronted 0 (take 16 (drop (16 * i) c.marked.result))) (message_block last) v 1 first)
    ∙ ap (λ k. accumulated r (message_block last) v k % prime) (sym count)
