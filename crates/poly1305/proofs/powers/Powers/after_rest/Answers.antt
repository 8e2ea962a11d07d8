use Rattle.std.proofs.Common.{◌≡◌, ◌∙◌, ℕ, ◌*◌, ◌/◌, ◌%◌, ◌^◌, List, ap, arith, refl, sym, take, drop, length}
use Rattle.std.proofs.lemmas.Bool.{eqb-true}
use Rattle.std.specs.Int.{div_ceil}
use Rattle.std_defs.specs.Gcm.{padded}
use Rattle.std_defs.specs.Poly1305.{prime, accumulated, message_block}
use Rattle.poly1305.specs.Limbs.{value_of, fronted}
use Rattle.poly1305.proofs.Horner.{accumulated_blocks}
use Rattle.poly1305.proofs.PaddedText.{length-padded, filled_block}
use Rattle.poly1305.proofs.powers.Powers.after_rest.Goals as goal

pub returns-then-is_empty-clause-value : goal.returns-then-is_empty-clause-value
unfolding accumulated
returns-then-is_empty-clause-value c =
    let empty : length c.args.rest.now ≡ 0 = eqb-true _ _ (sym c.is_empty.ensures ∙ c.if-is_empty.true) in
    let none : length (padded c.args.rest.now) / 16 ≡ 0 = omega (arith, length-padded c.args.rest.now) in
    rw none refl

pub returns-clause-value : goal.returns-clause-value
returns-clause-value c =
    let r : ℕ = c.args.self.now.r in
    let rest : List ℕ = c.args.rest.now in
    let v : ℕ = value_of c.args.value in
    let n : ℕ = div_ceil (length rest) 16 in
    let count : length (padded rest) / 16 ≡ n = omega (arith, length-padded rest) in
    c.after_blocks.ensures.value
    ∙ ap (λ k. accumulated r (λ i. fronted (2 ^ 24) (take 16 (drop (16 * i) c.filled.result))) v k % prime) c.div_ceil.ensures
    ∙ ap (λ x. x % prime) (accumulated_blocks r (λ i. fronted (2 ^ 24) (take 16 (drop (16 * i) c.filled.result))) (message_block (padded rest)) v n
    (λ i lt. ap (λ t. fronted (2 ^ 24) (take 16 (drop (16 * i) t))) c.filled.ensures ∙ filled_block rest i (omega arith) lt))
    ∙ ap (λ k. accumulated r (message_block (padded rest)) v k % prime) (sym count)
