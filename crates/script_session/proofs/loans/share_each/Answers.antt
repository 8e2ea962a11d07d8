use Rattle.std.proofs.Common.{◌∙◌, refl}
use Rattle.recorded_calls.specs.Passes.{known}
use Rattle.script_session.proofs.Lends.{none-shared, next-on, shares-more, all-shared}
use Rattle.script_session.proofs.Moving.{sees-on, fails}
use Rattle.script_session.proofs.loans.share_each.Goals as goal

pub loop-live-init : goal.loop-live-init
loop-live-init g c = (none-shared c.args.lives.now (known c.args.caller.now) c.requires.posted, refl)

pub share_live-requires-clause-at : goal.share_live-requires-clause-at
share_live-requires-clause-at g c = c.loop-live.invariant.1 ∙ c.requires.at

pub share_live-requires-clause-legal : goal.share_live-requires-clause-legal
share_live-requires-clause-legal g c = c.loop-live.invariant.0.front.legal

pub share_live-requires-clause-pipe : goal.share_live-requires-clause-pipe
share_live-requires-clause-pipe g c =
    next-on c.loop-live.live-index c.args.lives.now c.live-item.result (known c.args.caller.now) (known c.loop-live.caller) (known c.loop-live.caller) c.loop-live.invariant.0 c.loop-live-test.true c.live-item.is

pub returns-in_err-share_live-clause-lock : goal.returns-in_err-share_live-clause-lock
returns-in_err-share_live-clause-lock g c = c.share_live.ensures.lock ∙ c.loop-live.invariant.1

pub returns-in_err-share_live-clause-shared : goal.returns-in_err-share_live-clause-shared
returns-in_err-share_live-clause-shared g c =
    fails c.from_residual.result _ c.from_residual.ensures.0
    (sees-on (known c.args.caller.now) (known c.loop-live.caller) (known c.share_live.new.caller) c.loop-live.invariant.0.sees c.in_err-share_live.ensures.shared)

pub loop-live-preserved : goal.loop-live-preserved
loop-live-preserved g c = (
  shares-more c.loop-live.live-index c.args.lives.now c.live-item.result (known c.args.caller.now) (known c.loop-live.caller) (known c.share_live.new.caller) c.loop-live.invariant.0 c.loop-live-test.true c.live-item.is c.in_ok-share_live.ensures.shared,
  c.share_live.ensures.lock ∙ c.loop-live.invariant.1,
)

pub returns-clause-shared : goal.returns-clause-shared
returns-clause-shared g c = all-shared c.loop-live.live-index c.args.lives.now (known c.args.caller.now) (known c.loop-live.caller) c.loop-live.invariant.0 c.loop-live-test.false
