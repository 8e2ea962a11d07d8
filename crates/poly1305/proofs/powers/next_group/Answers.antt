use Rattle.std.proofs.Common.{◌≡◌, ◌∙◌, ◌+◌, ◌*◌, ◌%◌, [], ◌∷◌, ap, arith, refl, take, drop, slice_index}
use Rattle.std.proofs.lemmas.Simd.{get_or-replicate}
use Rattle.std_defs.specs.Poly1305.{prime}
use Rattle.poly1305.specs.Limbs.{value_in, fronted}
use Rattle.poly1305.proofs.Horner.{Same, same_sum, same_product}
use Rattle.poly1305.proofs.powers.next_group.Goals as goal

pub returns-clause-below : goal.returns-clause-below
returns-clause-below c j lt below power =
    let f = c.args.front in
    let front : slice_index (f ∷ f ∷ f ∷ f ∷ []) j ≡ f = get_or-replicate 4 j f 0 lt in
    c.products.ensures.below j lt (c.sum.ensures.below j lt (c.carried.ensures.below j lt below) (c.four_blocks-m.ensures.below j lt (omega arith))) power

pub returns-clause-value : goal.returns-clause-value
returns-clause-value c j lt below power =
    let bytes = c.args.bytes.now in
    let at = c.args.at in
    let f = c.args.front in
    let front : slice_index (f ∷ f ∷ f ∷ f ∷ []) j ≡ f = get_or-replicate 4 j f 0 lt in
    let mb = c.four_blocks-m.ensures.below j lt (omega arith) in
    let cb = c.carried.ensures.below j lt below in
    let is = c.four_blocks-m.ensures.value j lt (omega arith) in
    let m : value_in c.four_blocks-m.result j ≡ fronted f (take 16 (drop (at + 16 * j) bytes)) = omega arith in
    let s : Same (value_in c.sum.result j) (value_in c.args.h j + fronted f (take 16 (drop (at + 16 * j) bytes))) =
    ap (λ n. n % prime) (c.sum.ensures.sum j lt cb mb)
    ∙ same_sum (value_in c.carried.result j) (value_in c.args.h j) (value_in c.four_blocks-m.result j) (fronted f (take 16 (drop (at + 16 * j) bytes)))
    (c.carried.ensures.value j lt below) (ap (λ n. n % prime) m) in
    c.products.ensures.product j lt (c.sum.ensures.below j lt cb mb) power
    ∙ same_product (value_in c.sum.result j) (value_in c.args.h j + fronted f (take 16 (drop (at + 16 * j) bytes))) (value_in c.args.power j) (value_in c.args.power j) s refl
