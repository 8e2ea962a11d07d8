use Rattle.std.proofs.Common.{ap, ◌∙◌}
use Rattle.aes_block.specs.Key.{AesKey}
use Rattle.std_defs.specs.Aes.{unseal}
use Rattle.aes_lanes.specs.Key.{lane_key}
use Rattle.aes_lanes.proofs.Sides.{first_alone, unseal_long}
use Rattle.aes_lanes.proofs.lane_aes.LaneAesBlockCipher.unseal_block.Goals as goal

pub returns : goal.returns
returns c =
    let s = c.self.inside.schedule in
    first_alone (unseal (lane_key s)) (unseal_long (lane_key s)) c.args.b.now _ _ _ c.told-b c.joined.ensures.both c.unseal_pair.ensures c.first_of.ensures
    ∙ ap (λ (k : AesKey). unseal k.bytes c.args.b.now) c.self.view_is
