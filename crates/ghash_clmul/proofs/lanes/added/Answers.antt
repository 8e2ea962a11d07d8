use Rattle.std.proofs.Common.{subst, sym, ◌<◌, ℕ, ◌^◌}
use Rattle.std.specs.Int.Bits.{xor_lt}
use Rattle.ghash_clmul.specs.Wide.{number}
use Rattle.ghash_clmul.proofs.Vectors.{number-xor, number-lt}
use Rattle.ghash_clmul.proofs.lanes.added.Goals as goal

pub returns-clause-sum : goal.returns-clause-sum
returns-clause-sum c = number-xor c.args.x c.args.y c.fits-x c.fits-y

pub returns-clause-fits : goal.returns-clause-fits
returns-clause-fits c =
    subst (λ (t : ℕ). t < 2 ^ 128) (sym (number-xor c.args.x c.args.y c.fits-x c.fits-y))
    (xor_lt 128 (number c.args.x) (number c.args.y) (number-lt c.args.x c.fits-x) (number-lt c.args.y c.fits-y))
