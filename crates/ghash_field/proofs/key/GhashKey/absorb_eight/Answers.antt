use Rattle.std.proofs.Common.{◌≤◌, length, ◌∙◌, refl, ap, arith, bit_xor}
use Rattle.std.proofs.lemmas.List.{take_all}
use Rattle.std_defs.specs.GhashField.{field_product}
use Rattle.std_defs.specs.Gcm.{padded_blocks}
use Rattle.std_defs.proofs.Horner.{horner}
use Rattle.std_defs.proofs.PaddedBlocks.{horner_more, padded_blocks-length}
use Rattle.ghash_field.proofs.EightBlocks.{eight_count}
use Rattle.ghash_field.proofs.key.GhashKey.absorb_eight.Goals as goal

pub loop-i-init : goal.loop-i-init
unfolding horner
loop-i-init g c = refl

pub loop-i-preserved : goal.loop-i-preserved
loop-i-preserved g c =
    c.product-y.ensures
    ∙ ap (λ b. field_product (bit_xor c.loop-i.y b) (g.Self.GhashKey.block c.args.self.now)) c.block_at.ensures
    ∙ horner_more (g.Self.GhashKey.block c.args.self.now) c.args.y c.loop-i.y c.args.eight.now c.loop-i.i
    (omega (arith, eight_count (length c.args.eight.now) c.requires)) c.loop-i.invariant

pub returns : goal.returns
returns g c =
    let all : length (padded_blocks c.args.eight.now) ≤ c.loop-i.i = omega (arith, padded_blocks-length c.args.eight.now, eight_count (length c.args.eight.now) c.requires) in
    c.loop-i.invariant
    ∙ ap (horner (g.Self.GhashKey.block c.args.self.now) c.args.y) (take_all c.loop-i.i (padded_blocks c.args.eight.now) all)
