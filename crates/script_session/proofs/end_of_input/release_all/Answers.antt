use Rattle.std.proofs.Common.{◌∙◌, ◌<◌, ◌≤◌, [], refl, sym, subst}
use Rattle.dialogues.specs.PipelineCommands.{lets_go, let_all_go}
use Rattle.dialogues.specs.ScriptState.{Live}
use Rattle.recorded_calls.specs.Passes.{known}
use Rattle.script_session.specs.EndOfInput.{Moves, StopsMoving}
use Rattle.script_session.specs.States.{HasPipe}
use Rattle.script_session.proofs.Leading.{let-more, let-split}
use Rattle.script_session.proofs.Moving.{sets-out, on-board, goes-further, breaks-further, all-moved, fails}
use Rattle.recorded_calls.proofs.Boarding.{kept-same}
use Rattle.script_session.proofs.Said.{tells-nothing, tells-more}
use Rattle.script_session.proofs.end_of_input.release_all.Goals as goal

pub loop-live-init : goal.loop-live-init
loop-live-init g c = (sets-out let_all_go c.args.lives.now (known c.args.caller.now) [] (λ rest. refl) c.requires.posted c.requires.posted.2.legal, refl, tells-nothing (known c.args.caller.now) (known c.args.caller.now) (kept-same (known c.args.caller.now) c.requires.posted.2.legal).called)

pub release_live-requires-clause-at : goal.release_live-requires-clause-at
release_live-requires-clause-at g c = c.loop-live.invariant.1 ∙ c.requires.at

pub release_live-requires-clause-legal : goal.release_live-requires-clause-legal
release_live-requires-clause-legal g c = c.loop-live.invariant.0.moves.posted.2.legal

pub release_live-requires-clause-pipe : goal.release_live-requires-clause-pipe
release_live-requires-clause-pipe g c =
    let l = known c.loop-live.caller in
    let item = c.live-item.result in
    subst (λ (x : Live). HasPipe l x.pipe) c.live-item.is
    (on-board let_all_go (λ (x : Live). lets_go x.pipe) let-more c.args.lives.now c.loop-live.lives c.loop-live.live-index item item (known c.args.caller.now) l l [] [] [] c.loop-live.invariant.0
    (subst (λ n. c.loop-live.live-index < n) (sym c.loop-live.auto.lives) c.loop-live-test.true) c.live-item.is)

pub returns-in_err-release_live-clause-lock : goal.returns-in_err-release_live-clause-lock
returns-in_err-release_live-clause-lock g c = c.release_live.ensures.lock ∙ c.loop-live.invariant.1

pub returns-in_err-release_live-clause-moved : goal.returns-in_err-release_live-clause-moved
returns-in_err-release_live-clause-moved g c =
    let l = known c.loop-live.caller in
    let l' = known c.release_live.new.caller in
    let item = c.live-item.result in
    fails c.from_residual.result _ c.from_residual.ensures.0
    (breaks-further let_all_go (λ (x : Live). lets_go x.pipe) let-more c.args.lives.now c.loop-live.lives c.loop-live.live-index item item (known c.args.caller.now) l l' [] [] [] c.loop-live.invariant.0
    (subst (λ n. c.loop-live.live-index < n) (sym c.loop-live.auto.lives) c.loop-live-test.true) c.live-item.is let-split
    (subst (λ (x : Live). StopsMoving (lets_go x.pipe) l l') (sym c.live-item.is) c.in_err-release_live.ensures.moved))

pub loop-live-preserved : goal.loop-live-preserved
loop-live-preserved g c =
    let l = known c.loop-live.caller in
    let l' = known c.release_live.new.caller in
    let item = c.live-item.result in
    let live' = c.release_live.new.live in (
      goes-further let_all_go (λ (x : Live). lets_go x.pipe) let-more c.args.lives.now c.loop-live.lives c.loop-live.live-index item live' (known c.args.caller.now) l l' [] [] [] c.loop-live.invariant.0
          (subst (λ n. c.loop-live.live-index < n) (sym c.loop-live.auto.lives) c.loop-live-test.true) c.live-item.is _ refl
          (subst (λ (x : Live). Moves (lets_go x.pipe) x live' l l' [] []) (sym c.live-item.is) c.in_ok-release_live.ensures.moved),
      c.release_live.ensures.lock ∙ c.loop-live.invariant.1,
      tells-more (known c.args.caller.now) l l' [] [] c.loop-live.invariant.2 c.release_live.ensures.told,
    )

pub returns-clause-moved : goal.returns-clause-moved
returns-clause-moved g c =
    all-moved let_all_go c.loop-live.live-index c.args.lives.now c.loop-live.lives (known c.args.caller.now) (known c.loop-live.caller) [] [] c.loop-live.invariant.0
    (subst (λ n. n ≤ c.loop-live.live-index) (sym c.loop-live.auto.lives) c.loop-live-test.false)

pub returns-in_err-release_live-clause-told : goal.returns-in_err-release_live-clause-told
returns-in_err-release_live-clause-told g c = tells-more (known c.args.caller.now) (known c.loop-live.caller) (known c.release_live.new.caller) [] [] c.loop-live.invariant.2 c.release_live.ensures.told

pub returns-clause-told : goal.returns-clause-told
returns-clause-told g c = c.loop-live.invariant.2
