use Rattle.std.proofs.Common.{◌∙◌, ◌<◌, ◌≤◌, refl, sym, subst}
use Rattle.std.proofs.lemmas.List.Elements.{All-nil}
use Rattle.dialogues.specs.PipelineCommands.{drains_at_end, drain_all}
use Rattle.dialogues.specs.ScriptState.{Live}
use Rattle.recorded_calls.specs.Passes.{known}
use Rattle.script_session.specs.EndOfInput.{Moves, StopsMoving, AllDelivered}
use Rattle.script_session.specs.States.{HasPipe}
use Rattle.script_session.proofs.Leading.{drain-more, drain-split}
use Rattle.script_session.proofs.Moving.{sets-out, on-board, goes-further, breaks-further, paid-further, all-moved, all-paid, fails}
use Rattle.script_session.proofs.end_of_input.drain_last_all.Goals as goal

pub loop-live-init : goal.loop-live-init
loop-live-init g c =
    (sets-out drain_all c.args.lives.now (known c.args.caller.now) c.args.answers.now.items (λ rest. refl) c.requires.posted c.requires.posted.2.legal, refl, All-nil (λ (x : Live). AllDelivered x.pipe))

pub drain_last-requires-clause-at : goal.drain_last-requires-clause-at
drain_last-requires-clause-at g c = c.loop-live.invariant.1 ∙ c.requires.at

pub drain_last-requires-clause-legal : goal.drain_last-requires-clause-legal
drain_last-requires-clause-legal g c = c.loop-live.invariant.0.moves.posted.2.legal

pub drain_last-requires-clause-pipe : goal.drain_last-requires-clause-pipe
drain_last-requires-clause-pipe g c =
    let l = known c.loop-live.caller in
    let item = c.live-item.result in
    let said = c.loop-live.answers.items in
    subst (λ (x : Live). HasPipe l x.pipe) c.live-item.is
    (on-board drain_all (λ (x : Live). drains_at_end x.label x.pipe) drain-more c.args.lives.now c.loop-live.lives c.loop-live.live-index item item (known c.args.caller.now) l l c.args.answers.now.items said said c.loop-live.invariant.0
    (subst (λ n. c.loop-live.live-index < n) (sym c.loop-live.auto.lives) c.loop-live-test.true) c.live-item.is)

pub returns-in_err-drain_last-clause-lock : goal.returns-in_err-drain_last-clause-lock
returns-in_err-drain_last-clause-lock g c = c.drain_last.ensures.lock ∙ c.loop-live.invariant.1

pub returns-in_err-drain_last-clause-moved : goal.returns-in_err-drain_last-clause-moved
returns-in_err-drain_last-clause-moved g c =
    let l = known c.loop-live.caller in
    let l' = known c.drain_last.new.caller in
    let item = c.live-item.result in
    let said = c.loop-live.answers.items in
    fails c.from_residual.result _ c.from_residual.ensures.0
    (breaks-further drain_all (λ (x : Live). drains_at_end x.label x.pipe) drain-more c.args.lives.now c.loop-live.lives c.loop-live.live-index item item (known c.args.caller.now) l l' c.args.answers.now.items said said c.loop-live.invariant.0
    (subst (λ n. c.loop-live.live-index < n) (sym c.loop-live.auto.lives) c.loop-live-test.true) c.live-item.is drain-split
    (subst (λ (x : Live). StopsMoving (drains_at_end x.label x.pipe) l l') (sym c.live-item.is) c.in_err-drain_last.ensures.moved))

pub loop-live-preserved : goal.loop-live-preserved
loop-live-preserved g c =
    let l = known c.loop-live.caller in
    let l' = known c.drain_last.new.caller in
    let item = c.live-item.result in
    let live' = c.drain_last.new.live in
    let one = λ (x : Live). drains_at_end x.label x.pipe in
    let lives = c.args.lives.now in
    let now = c.loop-live.lives in
    let i = c.loop-live.live-index in
    let first = known c.args.caller.now in
    let had = c.args.answers.now.items in
    let said = c.loop-live.answers.items in
    let said' = c.drain_last.new.answers.items in
    let way = c.loop-live.invariant.0 in
    let within = subst (λ n. i < n) (sym c.loop-live.auto.lives) c.loop-live-test.true in (
      goes-further drain_all one drain-more lives now i item live' first l l' had said said' way within c.live-item.is _ refl
          (subst (λ (x : Live). Moves (drains_at_end x.label x.pipe) x live' l l' said said') (sym c.live-item.is) c.in_ok-drain_last.ensures.moved),
      c.drain_last.ensures.lock ∙ c.loop-live.invariant.1,
      paid-further drain_all one drain-more lives now i item live' first l l' had said said' way within c.live-item.is _ refl c.loop-live.invariant.2 c.in_ok-drain_last.ensures.paid,
    )

pub returns-clause-moved : goal.returns-clause-moved
returns-clause-moved g c =
    all-moved drain_all c.loop-live.live-index c.args.lives.now c.loop-live.lives (known c.args.caller.now) (known c.loop-live.caller) c.args.answers.now.items c.loop-live.answers.items c.loop-live.invariant.0
    (subst (λ n. n ≤ c.loop-live.live-index) (sym c.loop-live.auto.lives) c.loop-live-test.false)

pub returns-clause-paid : goal.returns-clause-paid
returns-clause-paid g c = all-paid c.loop-live.live-index c.loop-live.lives c.loop-live.invariant.2 (subst (λ n. n ≤ c.loop-live.live-index) (sym c.loop-live.auto.lives) c.loop-live-test.false)
