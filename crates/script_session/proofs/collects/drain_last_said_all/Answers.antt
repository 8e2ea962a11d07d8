use Rattle.std.proofs.Common.{◌∙◌, ◌<◌, ◌≤◌, [], refl, sym, subst, ap}
use Rattle.std.specs.Prelude.{sum_by}
use Rattle.std.proofs.lemmas.List.Elements.{All-nil}
use Rattle.dialogues.specs.PipelineCommands.{drains_at_end, drain_all}
use Rattle.dialogues.specs.ScriptState.{Live}
use Rattle.recorded_calls.specs.Passes.{known}
use Rattle.transforms.specs.AskValue.{ask_size}
use Rattle.script_session.specs.EndOfInput.{StopsMoving, AllDelivered}
use Rattle.script_session.specs.ReplyText.{SaysMove}
use Rattle.script_session.specs.States.{HasPipe}
use Rattle.script_session.proofs.Leading.{drain-more, drain-split}
use Rattle.script_session.proofs.Moving.{on-board, breaks-further, paid-further, all-paid, fails}
use Rattle.script_session.proofs.Said.{says-out, says-further, says-all, told-more}
use Rattle.script_session.proofs.collects.drain_last_said_all.Goals as goal

pub loop-live-init : goal.loop-live-init
loop-live-init g c =
    (says-out c.args.lives.now (known c.args.caller.now) c.args.reply.now.text c.requires.posted c.requires.posted.2.legal, refl, All-nil (λ (x : Live). AllDelivered x.pipe))

pub drain_last_said-requires-clause-at : goal.drain_last_said-requires-clause-at
drain_last_said-requires-clause-at g c = c.loop-live.invariant.1 ∙ c.requires.at

pub drain_last_said-requires-clause-legal : goal.drain_last_said-requires-clause-legal
drain_last_said-requires-clause-legal g c = c.loop-live.invariant.0.way.moves.posted.2.legal

pub drain_last_said-requires-clause-pipe : goal.drain_last_said-requires-clause-pipe
drain_last_said-requires-clause-pipe g c =
    let l = known c.loop-live.caller in
    let item = c.live-item.result in
    let saying = c.loop-live.invariant.0 in
    subst (λ (x : Live). HasPipe l x.pipe) c.live-item.is
    (on-board drain_all (λ (x : Live). drains_at_end x.label x.pipe) drain-more c.args.lives.now c.loop-live.lives c.loop-live.live-index item item (known c.args.caller.now) l l [] saying.said saying.said saying.way
    (subst (λ n. c.loop-live.live-index < n) (sym c.loop-live.auto.lives) c.loop-live-test.true) c.live-item.is)

pub drain_last_said-requires-clause-bytes : goal.drain_last_said-requires-clause-bytes
drain_last_said-requires-clause-bytes g c = ap (sum_by ask_size) c.loop-live.invariant.0.way.moves.accepted ∙ c.requires.bytes

pub returns-in_err-drain_last_said-clause-lock : goal.returns-in_err-drain_last_said-clause-lock
returns-in_err-drain_last_said-clause-lock g c = c.drain_last_said.ensures.lock ∙ c.loop-live.invariant.1

pub returns-in_err-drain_last_said-clause-moved : goal.returns-in_err-drain_last_said-clause-moved
returns-in_err-drain_last_said-clause-moved g c =
    let l = known c.loop-live.caller in
    let l' = known c.drain_last_said.new.caller in
    let item = c.live-item.result in
    let saying = c.loop-live.invariant.0 in
    fails c.from_residual.result _ c.from_residual.ensures.0
    (breaks-further drain_all (λ (x : Live). drains_at_end x.label x.pipe) drain-more c.args.lives.now c.loop-live.lives c.loop-live.live-index item item (known c.args.caller.now) l l' [] saying.said saying.said saying.way
    (subst (λ n. c.loop-live.live-index < n) (sym c.loop-live.auto.lives) c.loop-live-test.true) c.live-item.is drain-split
    (subst (λ (x : Live). StopsMoving (drains_at_end x.label x.pipe) l l') (sym c.live-item.is) c.in_err-drain_last_said.ensures.moved))

pub returns-in_err-drain_last_said-clause-told : goal.returns-in_err-drain_last_said-clause-told
returns-in_err-drain_last_said-clause-told g c =
    told-more (known c.args.caller.now) (known c.loop-live.caller) (known c.drain_last_said.new.caller) c.args.reply.now.text c.loop-live.reply.text c.drain_last_said.new.reply.text c.loop-live.invariant.0.told c.drain_last_said.ensures.told

pub loop-live-preserved : goal.loop-live-preserved
loop-live-preserved g c =
    let l = known c.loop-live.caller in
    let l' = known c.drain_last_said.new.caller in
    let item = c.live-item.result in
    let live' = c.drain_last_said.new.live in
    let one = λ (x : Live). drains_at_end x.label x.pipe in
    let lives = c.args.lives.now in
    let now = c.loop-live.lives in
    let i = c.loop-live.live-index in
    let first = known c.args.caller.now in
    let text = c.loop-live.reply.text in
    let text' = c.drain_last_said.new.reply.text in
    let saying = c.loop-live.invariant.0 in
    let within = subst (λ n. i < n) (sym c.loop-live.auto.lives) c.loop-live-test.true in (
      says-further i lives now _ item live' first l l' c.args.reply.now.text text text' saying within c.live-item.is refl
          (subst (λ (x : Live). SaysMove (drains_at_end x.label x.pipe) x live' l l' text text') (sym c.live-item.is) c.in_ok-drain_last_said.ensures.moved) c.drain_last_said.ensures.told,
      c.drain_last_said.ensures.lock ∙ c.loop-live.invariant.1,
      paid-further drain_all one drain-more lives now i item live' first l l' [] saying.said saying.said saying.way within c.live-item.is _ refl c.loop-live.invariant.2 c.in_ok-drain_last_said.ensures.paid,
    )

pub returns-clause-moved : goal.returns-clause-moved
returns-clause-moved g c =
    says-all c.loop-live.live-index c.args.lives.now c.loop-live.lives (known c.args.caller.now) (known c.loop-live.caller) c.args.reply.now.text c.loop-live.reply.text c.loop-live.invariant.0
    (subst (λ n. n ≤ c.loop-live.live-index) (sym c.loop-live.auto.lives) c.loop-live-test.false)

pub returns-clause-told : goal.returns-clause-told
returns-clause-told g c = c.loop-live.invariant.0.told

pub returns-clause-paid : goal.returns-clause-paid
returns-clause-paid g c = all-paid c.loop-live.live-index c.loop-live.lives c.loop-live.invariant.2 (subst (λ n. n ≤ c.loop-live.live-index) (sym c.loop-live.auto.lives) c.loop-live-test.false)
