use Rattle.std.proofs.Common.{◌≡◌, ◌*◌, ◌∙◌, ap, arith, refl}
use Rattle.sha2.specs.Sha256.{rounds, schedule}
use Rattle.sha_lanes.specs.Lanes.{block_at, in_lane}
use Rattle.sha_lanes.proofs.Steps.{at}
use Rattle.sha_lanes.proofs.in_step.all_steps.Goals as goal

pub loop-turn-init : goal.loop-turn-init
unfolding rounds
loop-turn-init c = λ n lt.
    let s = in_lane c.args.state n in
    c.eight_first_steps-v-2.ensures n s lt (c.eight_first_steps-v.ensures n s lt ((λ k below. absurd (omega arith)), refl))

pub loop-turn-preserved : goal.loop-turn-preserved
loop-turn-preserved c = λ n lt.
    let b = block_at c.args.blocks.now n in
    at (in_lane c.args.state n) b _ (omega arith) (c.eight_next_steps-next.ensures n (in_lane c.args.state n) b lt (c.loop-turn.invariant n lt))

pub returns : goal.returns
returns c = λ n lt.
    let all : 8 * c.loop-turn.turn ≡ 64 = omega arith in
    (c.loop-turn.invariant n lt).1 ∙ ap (rounds (in_lane c.args.state n) (schedule (block_at c.args.blocks.now n) 48)) all
