use Rattle.std.proofs.Common.{ap, ◌∙◌, map}
use Rattle.aes_block.specs.Key.{AesKey}
use Rattle.std.proofs.Common.{ap, ◌∙◌, map}
use Rattle.std_defs.specs.Aes.{seal}
use Rattle.aes_lanes.specs.Key.{lane_key}
use Rattle.aes_lanes.proofs.lane_aes.LaneAesBlockCipher.seal_eight.Goals as goal

pub returns : goal.returns
returns c =
    let k = lane_key c.self.inside.schedule in
    c.parted.ensures ∙ c.seal_four.ensures ∙ ap (map (seal k)) c.paired.ensures
    ∙ ap (λ (k : AesKey). map (seal k.bytes) c.args.b.now) c.self.view_is
