use Rattle.std.proofs.Common.{ap, ◌∙◌, ◌*◌, ◌+◌, arith, get_or, set, [], length-set}
use Rattle.aes_block.specs.Key.{AesKey}
use Rattle.std_defs.specs.Aes.{seal}
use Rattle.aes_lanes.specs.Key.{lane_key}
use Rattle.aes_lanes.proofs.Sides.{first_of_pair, second_of_pair, two_more, seal_long}
use Rattle.aes_lanes.proofs.lane_aes.LaneAes.seal_few.Goals as goal

pub loop-j-preserved : goal.loop-j-preserved
loop-j-preserved c =
    let k = lane_key c.self.inside.schedule in
    let b = c.loop-j.b in
    let j = c.loop-j.j in
    record {
      long = length-set (set b (2 * j) c.first_of.result) (2 * j + 1) c.second_of.result ∙ length-set b (2 * j) c.first_of.result ∙ c.loop-j.invariant.long;
      done = two_more (seal c.args.self.now.bytes) c.args.b.now b j _ _ (omega (arith, c.told-b, c.loop-j.invariant.long)) (omega (arith, c.told-b)) c.loop-j.invariant.done
          (first_of_pair (seal k) (seal_long k) _ _ _ _ c.joined.ensures.first c.seal_pair-pair.ensures c.first_of.ensures ∙ ap (λ (k : AesKey). seal k.bytes (get_or b (2 * j) [])) c.self.view_is)
          (second_of_pair (seal k) (seal_long k) _ _ _ _ c.joined.ensures.second c.seal_pair-pair.ensures c.second_of.ensures ∙ ap (λ (k : AesKey). seal k.bytes (get_or b (2 * j + 1) [])) c.self.view_is);
    }
