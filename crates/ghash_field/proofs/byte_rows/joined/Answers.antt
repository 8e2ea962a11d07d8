use Rattle.std.proofs.Common.{◌++◌, ◌+◌, ◌∙◌, ap₂, ℕ, length-append}
use Rattle.std.proofs.lemmas.Simd.{pick_l_whole}
use Rattle.ghash_field.proofs.byte_rows.joined.Goals as goal

pub returns : goal.returns
returns c = pick_l_whole 0 (c.args.x ++ c.args.y) 32 (length-append c.args.x c.args.y ∙ ap₂ (λ (a b : ℕ). a + b) c.fits-x.0 c.fits-y.0)
