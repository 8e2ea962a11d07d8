use Rattle.std.proofs.Common.{◌∙◌, refl}
use Rattle.dialogues.specs.PipelineCommands.{drains_at_end, drain_all}
use Rattle.dialogues.specs.ScriptState.{Live}
use Rattle.recorded_calls.specs.Passes.{known}
use Rattle.script_session.specs.SharedEnd.{HasFreed, HasDelivered}
use Rattle.script_session.proofs.Joined.{lent-sets-out, next-lent, lent-further, all-lent, goes-sees, beside-then}
use Rattle.script_session.proofs.Leading.{drain-more}
use Rattle.script_session.proofs.Moving.{fails}
use Rattle.script_session.proofs.shared_end.drain_shared_all.Goals as goal

pub loop-live-init : goal.loop-live-init
loop-live-init g c = (lent-sets-out HasFreed HasDelivered drain_all c.args.lives.now (known c.args.caller.now) c.args.answers.now.items (λ rest. refl) c.requires.freed, refl)

pub drain_shared-requires-clause-at : goal.drain_shared-requires-clause-at
drain_shared-requires-clause-at g c = c.loop-live.invariant.1 ∙ c.requires.at

pub drain_shared-requires-clause-legal : goal.drain_shared-requires-clause-legal
drain_shared-requires-clause-legal g c = c.loop-live.invariant.0.moves.goes.legal

pub drain_shared-requires-clause-gone : goal.drain_shared-requires-clause-gone
drain_shared-requires-clause-gone g c = c.loop-live.invariant.0.moves.goes.gone

pub drain_shared-requires-clause-pipe : goal.drain_shared-requires-clause-pipe
drain_shared-requires-clause-pipe g c =
    let l = known c.loop-live.caller in
    let had = c.args.answers.now.items in
    let said = c.loop-live.answers.items in
    next-lent HasFreed HasDelivered drain_all (λ (x : Live). drains_at_end x.label x.pipe) drain-more c.loop-live.live-index c.args.lives.now c.live-item.result (known c.args.caller.now) l l had said said c.loop-live.invariant.0 c.loop-live-test.true c.live-item.is

pub returns-in_err-drain_shared-clause-lock : goal.returns-in_err-drain_shared-clause-lock
returns-in_err-drain_shared-clause-lock g c = c.drain_shared.ensures.lock ∙ c.loop-live.invariant.1

pub returns-in_err-drain_shared-clause-moved : goal.returns-in_err-drain_shared-clause-moved
returns-in_err-drain_shared-clause-moved g c =
    let k = known c.args.caller.now in
    let l = known c.loop-live.caller in
    let way = c.loop-live.invariant.0.moves in
    fails c.from_residual.result _ c.from_residual.ensures.0
    (beside-then k l (known c.drain_shared.new.caller) (goes-sees k l way.calls way.goes) c.in_err-drain_shared.ensures.moved)

pub loop-live-preserved : goal.loop-live-preserved
loop-live-preserved g c =
    let l = known c.loop-live.caller in
    let l' = known c.drain_shared.new.caller in (
      lent-further HasFreed HasDelivered drain_all (λ (x : Live). drains_at_end x.label x.pipe) drain-more c.loop-live.live-index c.args.lives.now c.live-item.result (known c.args.caller.now) l l' c.args.answers.now.items c.loop-live.answers.items c.drain_shared.new.answers.items
          c.loop-live.invariant.0 c.loop-live-test.true c.live-item.is c.in_ok-drain_shared.ensures.moved,
      c.drain_shared.ensures.lock ∙ c.loop-live.invariant.1,
    )

pub returns-clause-moved : goal.returns-clause-moved
returns-clause-moved g c =
    all-lent HasFreed HasDelivered drain_all c.loop-live.live-index c.args.lives.now (known c.args.caller.now) (known c.loop-live.caller) c.args.answers.now.items c.loop-live.answers.items c.loop-live.invariant.0 c.loop-live-test.false
