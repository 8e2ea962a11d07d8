use Rattle.std.specs.Prelude.{bit_xor}
use Rattle.std.proofs.Common.{◌∙◌}
use Rattle.std.proofs.lemmas.Simd.{zip2_splat}
use Rattle.aes_lanes.proofs.pair_keys.pair_key.Goals as goal

pub returns : goal.returns
returns c = c.in_sealing_tower.ensures ∙ zip2_splat bit_xor c.args.key 32 0x63 c.fits-key.0
