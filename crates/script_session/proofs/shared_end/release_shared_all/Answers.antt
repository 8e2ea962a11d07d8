use Rattle.std.proofs.Common.{◌∙◌, [], refl}
use Rattle.dialogues.specs.PipelineCommands.{lets_go, let_all_go}
use Rattle.dialogues.specs.ScriptState.{Live}
use Rattle.recorded_calls.specs.Passes.{known}
use Rattle.script_session.specs.SharedEnd.{HasFreed}
use Rattle.script_session.specs.Loans.{HasLent}
use Rattle.script_session.proofs.Joined.{lent-sets-out, next-lent, lent-further, all-lent, goes-sees, beside-then}
use Rattle.script_session.proofs.Leading.{let-more}
use Rattle.script_session.proofs.Moving.{fails}
use Rattle.script_session.proofs.shared_end.release_shared_all.Goals as goal

pub loop-live-init : goal.loop-live-init
loop-live-init g c = (lent-sets-out HasLent HasFreed let_all_go c.args.lives.now (known c.args.caller.now) [] (λ rest. refl) c.requires.lent, refl)

pub release_shared-requires-clause-at : goal.release_shared-requires-clause-at
release_shared-requires-clause-at g c = c.loop-live.invariant.1 ∙ c.requires.at

pub release_shared-requires-clause-legal : goal.release_shared-requires-clause-legal
release_shared-requires-clause-legal g c = c.loop-live.invariant.0.moves.goes.legal

pub release_shared-requires-clause-gone : goal.release_shared-requires-clause-gone
release_shared-requires-clause-gone g c = c.loop-live.invariant.0.moves.goes.gone

pub release_shared-requires-clause-pipe : goal.release_shared-requires-clause-pipe
release_shared-requires-clause-pipe g c =
    let l = known c.loop-live.caller in
    next-lent HasLent HasFreed let_all_go (λ (x : Live). lets_go x.pipe) let-more c.loop-live.live-index c.args.lives.now c.live-item.result (known c.args.caller.now) l l [] [] [] c.loop-live.invariant.0 c.loop-live-test.true c.live-item.is

pub returns-in_err-release_shared-clause-lock : goal.returns-in_err-release_shared-clause-lock
returns-in_err-release_shared-clause-lock g c = c.release_shared.ensures.lock ∙ c.loop-live.invariant.1

pub returns-in_err-release_shared-clause-moved : goal.returns-in_err-release_shared-clause-moved
returns-in_err-release_shared-clause-moved g c =
    let k = known c.args.caller.now in
    let l = known c.loop-live.caller in
    let way = c.loop-live.invariant.0.moves in
    fails c.from_residual.result _ c.from_residual.ensures.0
    (beside-then k l (known c.release_shared.new.caller) (goes-sees k l way.calls way.goes) c.in_err-release_shared.ensures.moved)

pub loop-live-preserved : goal.loop-live-preserved
loop-live-preserved g c =
    let l = known c.loop-live.caller in
    let l' = known c.release_shared.new.caller in (
      lent-further HasLent HasFreed let_all_go (λ (x : Live). lets_go x.pipe) let-more c.loop-live.live-index c.args.lives.now c.live-item.result (known c.args.caller.now) l l' [] [] [] c.loop-live.invariant.0 c.loop-live-test.true c.live-item.is
          c.in_ok-release_shared.ensures.moved,
      c.release_shared.ensures.lock ∙ c.loop-live.invariant.1,
    )

pub returns-clause-moved : goal.returns-clause-moved
returns-clause-moved g c = all-lent HasLent HasFreed let_all_go c.loop-live.live-index c.args.lives.now (known c.args.caller.now) (known c.loop-live.caller) [] [] c.loop-live.invariant.0 c.loop-live-test.false
