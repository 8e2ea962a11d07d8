use Rattle.std.proofs.Common.{◌≡◌, ◌*◌, ap, arith, refl, ◌∙◌}
use Rattle.sha2.specs.Sha256.{rounds, schedule}
use Rattle.sha_lanes.proofs.Steps.{at}
use Rattle.sha_lanes.proofs.one_block.all_steps.Goals as goal

pub loop-turn-init : goal.loop-turn-init
unfolding rounds
loop-turn-init c =
    let s = c.args.state in
    c.eight_first_steps-v-2.ensures s (c.eight_first_steps-v.ensures s ((λ k lt. absurd (omega arith)), refl))

pub loop-turn-preserved : goal.loop-turn-preserved
loop-turn-preserved c =
    let b = c.args.block.now in
    at c.args.state b _ (omega arith) (c.eight_next_steps-next.ensures c.args.state b c.loop-turn.invariant)

pub returns : goal.returns
returns c =
    let all : 8 * c.loop-turn.turn ≡ 64 = omega arith in
    c.loop-turn.invariant.1 ∙ ap (rounds c.args.state (schedule c.args.block.now 48)) all
