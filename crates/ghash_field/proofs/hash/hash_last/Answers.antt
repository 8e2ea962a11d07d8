use Rattle.std.proofs.Common.{◌∙◌}
use Rattle.ghash_field.proofs.LastBlocks.{last_blocks}
use Rattle.ghash_field.proofs.hash.hash_last.Goals as goal

pub returns : goal.returns
returns g c =
    c.absorb_eight.ensures
    ∙ last_blocks (g.K.GhashKey.block c.args.key.now) c.args.first c.args.last c.args.rest.now c.eight_at_the_end.result (g.met.K.GhashKey.fits c.args.key.now) c.ranges.first.fits c.ranges.last.fits c.requires c.eight_at_the_end.ensures
