use Rattle.std.proofs.Common.{◌≡◌, ℕ, ◌*◌, ◌<◌, Bool, cond, eqb, sym, ap, ◌∙◌, arith, ⊎_elim, subst, Fits}
use Rattle.std.specs.Int.{w128}
use Rattle.std.proofs.lemmas.Bool.{eq-eqb, ne_eqb, cases_eq}
use Rattle.ghash_field.proofs.product.times_bit.Goals as goal

once : (v : ℕ) → 1 * v ≡ v
once v = omega arith

never : (v : ℕ) → 0 * v ≡ 0
never v = omega arith

product : (bit v : ℕ) → bit < 2 → bit * v ≡ cond (eqb bit 1) v 0
product bit v h =
    ⊎_elim
    (λ (one : bit ≡ 1). ap (λ (t : ℕ). t * v) one ∙ once v ∙ ap (λ (b : Bool). cond b v 0) (sym (eq-eqb bit 1 one)))
    (λ (other : bit ≡ 1 → ⊥).
    let none : bit ≡ 0 = omega arith in
    ap (λ (t : ℕ). t * v) none ∙ never v ∙ ap (λ (b : Bool). cond b v 0) (sym (ne_eqb bit 1 other)))
    (cases_eq bit 1)

pub overflow_mul-result : goal.overflow_mul-result
overflow_mul-result c =
    let bit : ℕ = c.args.bit in
    let v : ℕ = c.args.v in
    ⊎_elim
    (λ (one : bit ≡ 1). subst (λ (t : ℕ). Fits w128 t) (sym (ap (λ (t : ℕ). t * v) one ∙ once v)) c.ranges.v)
    (λ (other : bit ≡ 1 → ⊥).
    let none : bit ≡ 0 = omega (arith, c.requires) in
    subst (λ (t : ℕ). Fits w128 t) (sym (ap (λ (t : ℕ). t * v) none ∙ never v ∙ sym none)) c.ranges.bit)
    (cases_eq bit 1)

pub returns : goal.returns
returns c = product c.args.bit c.args.v c.requires
