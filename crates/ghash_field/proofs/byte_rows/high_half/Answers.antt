use Rattle.std.proofs.Common.{ℕ, ◌/◌, ◌^◌}
use Rattle.std.proofs.lemmas.Simd.{zip2_splat}
use Rattle.ghash_field.proofs.byte_rows.high_half.Goals as goal

abbrev down : ℕ → ℕ → ℕ
down a b = a / 2 ^ b

pub returns : goal.returns
returns c = zip2_splat down c.args.x 16 4 c.fits-x.0
