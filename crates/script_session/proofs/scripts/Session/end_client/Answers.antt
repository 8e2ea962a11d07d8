use Rattle.std.proofs.Common.{◌≡◌, ◌∙◌, [], ap, refl, sym, subst, arith, length}
use Rattle.std.specs.Prelude.{sum_by}
use Rattle.std.proofs.lemmas.List.{with_items_is}
use Rattle.board.specs.Allowance.{accepted_by}
use Rattle.dialogues.specs.Dialogues.{Ends}
use Rattle.dialogues.specs.PipelineCommands.{end_beside}
use Rattle.recorded_calls.specs.Passes.{known}
use Rattle.transforms.specs.AskValue.{ask_size}
use Rattle.script_session.specs.ReplyText.{SaysTold}
use Rattle.script_session.specs.States.{State, PipelinesMatch}
use Rattle.script_session.proofs.Ended.{client-arm, ends-paid, stops-here, release-stops, drain-stops}
use Rattle.script_session.proofs.Said.{on-err, tells-nothing, told-first, told-after}
use Rattle.script_session.proofs.Rules.{called-nothing}
use Rattle.script_session.proofs.Moving.{fails}
use Rattle.script_session.proofs.scripts.Session.end_client.Goals as goal

pub release_all-requires-clause-posted : goal.release_all-requires-clause-posted
release_all-requires-clause-posted g c =
    let s = c.args.self.now in (
      s.script_state,
      sym (c.deref_mut.ensures.value ∙ (c.in_ok-lives.ensures.all ∙ ap (λ (x : State). x.script_state.lives) c.self.view_is)),
      subst (λ (x : State). PipelinesMatch s.script_state (known x.board)) (sym c.self.view_is) c.requires.posted,
    )

pub drain_last_said_all-requires-clause-bytes : goal.drain_last_said_all-requires-clause-bytes
drain_last_said_all-requires-clause-bytes g c =
    ap (sum_by ask_size) c.in_ok-release_all.ensures.moved.accepted
    ∙ subst (λ (x : State). sum_by ask_size (accepted_by (known x.board).number (known x.board).seen) ≡ x.script_state.bytes) (sym c.self.view_is) c.requires.posted.bytes

pub returns-clause-done : goal.returns-clause-done
returns-clause-done g c =
    let says = c.in_ok-drain_last_said_all.ensures.moved in
    client-arm c.args.self.now c.self.view_is c.deref_mut.result.now c.release_all.new.lives c.deref_mut-2.result.now c.drain_last_said_all.new.lives (known c.release_all.new.caller) (known c.drain_last_said_all.new.caller)
    [] says.said says.said c.args.reply.now.text c.drain_last_said_all.new.reply.text
    (c.deref_mut.ensures.value ∙ c.in_ok-lives.ensures.all)
    (c.deref_mut-2.ensures.value ∙ with_items_is c.in_ok-lives.lives c.release_all.new.lives (omega (arith, c.release_all.auto.lives, c.deref_mut.ensures.len, ap length c.deref_mut.ensures.value))) refl refl
    (c.meet.ensures.lock ∙ (c.drain_last_said_all.ensures.lock ∙ c.release_all.ensures.lock)) c.requires.stands
    c.in_ok-release_all.ensures.moved says.moves c.meet.ensures.kept.called says.says

pub returns-clause-paid : goal.returns-clause-paid
returns-clause-paid g c =
    ends-paid c.only_collects_hand_out.ensures.drained c.drain_last_said_all.new.lives (known c.drain_last_said_all.new.caller) (known c.meet.new.self) c.in_ok-drain_last_said_all.ensures.moved.moves.posted c.in_ok-drain_last_said_all.ensures.paid c.meet.ensures.kept c.meet.ensures.own

-- memory was wanting before anything was called
pub returns-in_err-lives-clause-done : goal.returns-in_err-lives-clause-done
returns-in_err-lives-clause-done g c =
    fails c.from_residual.result _ c.from_residual.ensures.0 ((stops-here c.args.self.now c.self.view_is (end_beside c.args.self.now.script_state) _ c.requires.stands).stops)

-- or while pipelines were let go
pub returns-in_err-release_all-clause-done : goal.returns-in_err-release_all-clause-done
returns-in_err-release_all-clause-done g c =
    fails c.from_residual-in_err-release_all.result _ c.from_residual-in_err-release_all.ensures.0
    ((release-stops c.args.self.now c.self.view_is (Ends c.args.self.now.script_state) c.deref_mut.result.now (c.deref_mut.ensures.value ∙ c.in_ok-lives.ensures.all) c.release_all.ensures.lock c.requires.stands c.in_err-release_all.ensures.moved).stops)

-- or while they were drained
pub returns-in_err-drain_last_said_all-clause-done : goal.returns-in_err-drain_last_said_all-clause-done
returns-in_err-drain_last_said_all-clause-done g c =
    fails c.from_residual-in_err-drain_last_said_all.result _ c.from_residual-in_err-drain_last_said_all.ensures.0
    ((drain-stops c.args.self.now c.self.view_is (Ends c.args.self.now.script_state) c.deref_mut.result.now c.release_all.new.lives c.deref_mut-2.result.now (known c.release_all.new.caller)
    (c.deref_mut.ensures.value ∙ c.in_ok-lives.ensures.all)
    (c.deref_mut-2.ensures.value ∙ with_items_is c.in_ok-lives.lives c.release_all.new.lives (omega (arith, c.release_all.auto.lives, c.deref_mut.ensures.len, ap length c.deref_mut.ensures.value)))
    (c.drain_last_said_all.ensures.lock ∙ c.release_all.ensures.lock) c.requires.stands c.requires.posted c.in_ok-release_all.ensures.moved c.in_err-drain_last_said_all.ensures.moved).stops)

-- what the reply has then
pub returns-in_err-lives-clause-told : goal.returns-in_err-lives-clause-told
returns-in_err-lives-clause-told g c =
    on-err c.from_residual.result
    (subst (λ (x : State). SaysTold (known x.board) (known c.self.inside.board) c.args.reply.now.text c.args.reply.now.text) c.self.view_is
    (told-first (known c.self.inside.board) (known c.self.inside.board) c.args.reply.now.text
    (tells-nothing (known c.self.inside.board) (known c.self.inside.board) (called-nothing (known c.self.inside.board)))))

pub returns-in_err-release_all-clause-told : goal.returns-in_err-release_all-clause-told
returns-in_err-release_all-clause-told g c =
    on-err c.from_residual-in_err-release_all.result
    (subst (λ (x : State). SaysTold (known x.board) (known c.release_all.new.caller) c.args.reply.now.text c.args.reply.now.text) c.self.view_is
    (told-first (known c.self.inside.board) (known c.release_all.new.caller) c.args.reply.now.text c.release_all.ensures.told))

pub returns-in_err-drain_last_said_all-clause-told : goal.returns-in_err-drain_last_said_all-clause-told
returns-in_err-drain_last_said_all-clause-told g c =
    on-err c.from_residual-in_err-drain_last_said_all.result
    (subst (λ (x : State). SaysTold (known x.board) (known c.drain_last_said_all.new.caller) c.args.reply.now.text c.drain_last_said_all.new.reply.text) c.self.view_is
    (told-after (known c.self.inside.board) (known c.release_all.new.caller) (known c.drain_last_said_all.new.caller) c.args.reply.now.text c.drain_last_said_all.new.reply.text c.release_all.ensures.told c.drain_last_said_all.ensures.told))
