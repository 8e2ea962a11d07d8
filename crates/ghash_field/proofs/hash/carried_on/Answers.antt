use Rattle.std.proofs.Common.{◌≤◌, length, ◌∙◌, refl, ap, arith, bit_xor}
use Rattle.std.proofs.lemmas.List.{take_all}
use Rattle.std_defs.specs.GhashField.{field_product}
use Rattle.std_defs.specs.Gcm.{padded_blocks}
use Rattle.std_defs.proofs.Horner.{horner}
use Rattle.std_defs.proofs.PaddedBlocks.{horner_more, padded_blocks-length}
use Rattle.ghash_field.proofs.EightBlocks.{eight_more, part_is, part_long}
use Rattle.ghash_field.proofs.hash.carried_on.Goals as goal

pub loop-i-init : goal.loop-i-init
unfolding horner
loop-i-init g c = refl

pub loop-i-preserved : goal.loop-i-preserved
loop-i-preserved g c =
    c.absorb_eight-y.ensures
    ∙ eight_more (g.K.GhashKey.block c.args.key.now) c.args.y c.loop-i.y c.args.bytes.now _ c.loop-i.i (omega arith) (part_is c.loop-i.i c.args.bytes.now) (part_long c.loop-i.i c.args.bytes.now (omega arith)) c.loop-i.invariant

pub loop-i-2-preserved : goal.loop-i-2-preserved
loop-i-2-preserved g c =
    c.product-y.ensures
    ∙ ap (λ b. field_product (bit_xor c.loop-i-2.y b) (g.K.GhashKey.block c.args.key.now)) c.block_at.ensures
    ∙ horner_more (g.K.GhashKey.block c.args.key.now) c.args.y c.loop-i-2.y c.args.bytes.now c.loop-i-2.i
    (omega (arith, c.div_ceil-i-end.ensures)) c.loop-i-2.invariant

pub returns : goal.returns
returns g c =
    let all : length (padded_blocks c.args.bytes.now) ≤ c.loop-i-2.i = omega (arith, padded_blocks-length c.args.bytes.now, c.div_ceil-i-end.ensures) in
    c.loop-i-2.invariant
    ∙ ap (horner (g.K.GhashKey.block c.args.key.now) c.args.y) (take_all c.loop-i-2.i (padded_blocks c.args.bytes.now) all)
