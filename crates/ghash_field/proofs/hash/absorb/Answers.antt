use Rattle.std.proofs.Common.{◌∙◌}
use Rattle.std_defs.specs.Gcm.{padded_blocks}
use Rattle.std_defs.proofs.Horner.{horner-ghash}
use Rattle.std_defs.proofs.PaddedBlocks.{padded_blocks-fit}
use Rattle.ghash_field.proofs.hash.absorb.Goals as goal

pub returns : goal.returns
returns g c =
    c.carried_on.ensures
    ∙ horner-ghash (g.K.GhashKey.block c.args.key.now) c.args.y (padded_blocks c.args.bytes.now)
    (g.met.K.GhashKey.fits c.args.key.now) c.ranges.y.fits (padded_blocks-fit c.args.bytes.now (λ i. (c.type_inv.bytes i).fits))
