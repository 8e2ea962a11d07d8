use Rattle.std.proofs.Common.{◌≡◌, ◌∙◌, arith, ap, sym}
use Rattle.sha2.specs.Sha256.{compress}
use Rattle.sha_lanes.specs.Lanes.{block_at}
use Rattle.sha_lanes.proofs.HashedBlocks.{next, none}
use Rattle.sha_lanes.proofs.blocks.take_first.Goals as goal

pub loop-lane-init : goal.loop-lane-init
loop-lane-init c = none c.args.state.now c.args.blocks.now

pub loop-lane-preserved : goal.loop-lane-preserved
loop-lane-preserved c =
    let p = c.args.blocks.now in
    let lane = c.loop-lane.lane in
    c.lane_compressed.ensures (block_at p lane) (c.write_eight.ensures lane (omega arith)) ∙ ap (λ h. compress h (block_at p lane)) c.loop-lane.invariant
    ∙ sym (next c.args.state.now p lane)

pub returns : goal.returns
returns c =
    let all : c.loop-lane.lane ≡ c.args.count = omega arith in
    rw all at c.loop-lane.invariant
