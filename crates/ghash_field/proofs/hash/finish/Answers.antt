use Rattle.std.proofs.Common.{◌<◌, length, arith, sym, ◌∙◌}
use Rattle.std.proofs.lemmas.Bool.{eqb-true, eqb-false}
use Rattle.ghash_field.proofs.LastBlocks.{none_left, some_left, behind_first}
use Rattle.ghash_field.proofs.hash.finish.Goals as goal

pub returns-then-is_empty : goal.returns-then-is_empty
returns-then-is_empty g c =
    none_left (g.K.GhashKey.block c.args.key.now) c.args.y c.product.result c.args.last c.args.rest.now (eqb-true _ _ (sym c.is_empty.ensures ∙ c.if-is_empty.true)) c.product.ensures

pub returns : goal.returns
returns g c =
    let differ = eqb-false (length c.args.rest.now) 0 (sym c.is_empty.ensures ∙ c.if-is_empty.false) in
    let some : 0 < length c.args.rest.now = omega arith in
    some_left (g.K.GhashKey.block c.args.key.now) c.args.y c.hash_last.result c.args.last c.block_at.result c.args.rest.now _ some
    (behind_first c.args.rest.now c.min.result c.min.ensures) c.block_at.ensures c.hash_last.ensures
