use Rattle.std.proofs.Common.{◌∙◌, ap, ap₂, bit_xor, slice_index}
use Rattle.std_defs.specs.Aes.{product}
use Rattle.ghash_clmul.specs.Wide.{number}
use Rattle.ghash_clmul.proofs.Vectors.{number-swapped, number-halves, low_lt, high_lt}
use Rattle.ghash_clmul.proofs.Folds.{by_fold}
use Rattle.ghash_clmul.proofs.lanes.folded.Goals as goal

pub returns-clause-folds : goal.returns-clause-folds
returns-clause-folds c =
    let x = c.args.x in
    c.added.ensures.sum
    ∙ ap₂ bit_xor (number-swapped x c.fits-x) (ap number c.clmul_low_low.ensures ∙ number-halves (product 0xc200000000000000 (slice_index x 0) 64))
    ∙ by_fold (slice_index x 0) (slice_index x 1) (low_lt x c.fits-x) (high_lt x c.fits-x)
