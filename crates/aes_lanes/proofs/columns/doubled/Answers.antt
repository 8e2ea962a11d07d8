use Rattle.std.specs.Prelude.{◌≡◌, ◌+◌, ◌^◌, ◌%◌, map, bit_xor}
use Rattle.std.proofs.Common.{subst, cond, leb, replicate}
use Rattle.std_defs.specs.Aes.{mul8}
use lib.Lanes.{zip2, sel_l, top}
use Rattle.aes_lanes.proofs.Mixing.{all_doubled}
use Rattle.aes_lanes.proofs.columns.doubled.Goals as goal

pub returns : goal.returns
returns c =
    subst (λ n. zip2 bit_xor (zip2 (λ a b. (a + b) % 2 ^ 8) c.args.x c.args.x) (sel_l (map (top 7) (zip2 (λ a b. cond (leb a b) 255 0) (replicate n 128) c.args.x)) (replicate n 27) (replicate n 0)) ≡ map (mul8 2) c.args.x)
    c.fits-x.0 (all_doubled c.args.x c.fits-x.1)
