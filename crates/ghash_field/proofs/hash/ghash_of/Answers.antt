use Rattle.std.proofs.Common.{◌<◌, length, arith, sym, ◌∙◌}
use Rattle.std.proofs.lemmas.Bool.{eqb-false}
use Rattle.ghash_field.proofs.LastBlocks.{short_hash, long_hash}
use Rattle.ghash_field.proofs.hash.ghash_of.Goals as goal

pub returns-then-text-le96 : goal.returns-then-text-le96
returns-then-text-le96 g c =
    let differ = eqb-false (length c.args.associated.now) 0 (sym c.is_empty.ensures ∙ c.if-not-is_empty.true) in
    let some : 0 < length c.args.associated.now = omega arith in
    short_hash (g.K.GhashKey.block c.args.key.now) c.args.last c.args.associated.now c.args.text.now (g.met.K.GhashKey.fits c.args.key.now) c.ranges.last.fits
    (λ i. (c.type_inv.associated i).fits) (λ i. (c.type_inv.text i).fits) c.hash_last.result c.block_at.result some c.if-associated-le16.true c.block_at.ensures c.hash_last.ensures

pub returns : goal.returns
returns g c =
    long_hash (g.K.GhashKey.block c.args.key.now) c.args.last c.args.associated.now c.args.text.now (g.met.K.GhashKey.fits c.args.key.now) c.ranges.last.fits
    (λ i. (c.type_inv.associated i).fits) (λ i. (c.type_inv.text i).fits) c.finish.result c.carried_on-after_associated.result c.carried_on-after_front.result c.front_len-front.result
    c.front_len-front.ensures.whole c.front_len-front.ensures.within c.carried_on-after_associated.ensures c.carried_on-after_front.ensures c.finish.ensures
