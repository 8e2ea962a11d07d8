use Rattle.std.proofs.Common.{ap, ◌∙◌}
use Rattle.aes_block.specs.Key.{AesKey}
use Rattle.std_defs.specs.Aes.{seal}
use Rattle.aes_lanes.proofs.lane_aes.LaneAesBlockCipher.seal_block.Goals as goal

pub returns : goal.returns
returns c = c.seal_one.ensures ∙ ap (λ (k : AesKey). seal k.bytes c.args.b.now) c.self.view_is
