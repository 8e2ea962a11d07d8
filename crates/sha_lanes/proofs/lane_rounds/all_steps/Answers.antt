use Rattle.std.proofs.Common.{◌≡◌, ◌*◌, ◌∙◌, ap, arith, refl}
use Rattle.sha2.specs.Sha256.{rounds, schedule}
use Rattle.sha_lanes.proofs.lane_rounds.all_steps.Goals as goal

pub loop-turn-init : goal.loop-turn-init
unfolding rounds
loop-turn-init c = λ b words. refl

pub loop-turn-preserved : goal.loop-turn-preserved
loop-turn-preserved c = λ b words.
    c.eight_steps-next.ensures c.args.state b words (c.loop-turn.invariant b words) ∙ ap (rounds c.args.state (schedule b 48)) (omega arith)

pub returns : goal.returns
returns c = λ b words.
    let all : 8 * c.loop-turn.turn ≡ 64 = omega arith in
    c.loop-turn.invariant b words ∙ ap (rounds c.args.state (schedule b 48)) all
