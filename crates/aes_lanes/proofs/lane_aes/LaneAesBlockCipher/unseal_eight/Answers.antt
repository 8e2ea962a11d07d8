use Rattle.std.proofs.Common.{ap, ◌∙◌, map}
use Rattle.aes_block.specs.Key.{AesKey}
use Rattle.std.proofs.Common.{ap, ◌∙◌, map}
use Rattle.std_defs.specs.Aes.{unseal}
use Rattle.aes_lanes.specs.Key.{lane_key}
use Rattle.aes_lanes.proofs.lane_aes.LaneAesBlockCipher.unseal_eight.Goals as goal

pub returns : goal.returns
returns c =
    let k = lane_key c.self.inside.schedule in
    c.parted.ensures ∙ c.unseal_four.ensures ∙ ap (map (unseal k)) c.paired.ensures
    ∙ ap (λ (k : AesKey). map (unseal k.bytes) c.args.b.now) c.self.view_is
