use Rattle.std.proofs.Common.{subst}
use Rattle.std.specs.Arc.{arc_value}
use Rattle.dialogues.specs.Dialogues.{Ends}
use Rattle.dialogues.specs.Lines.{lines_dialogue}
use Rattle.dialogues.specs.Widths.{widest}
use Rattle.reply_text.specs.Written.{Written}
use Rattle.script_session.specs.Replies.{Replies}
use Rattle.script_text.specs.Script.{script_of}
use Rattle.recorded_calls.specs.Passes.{known}
use Rattle.turn_lock.specs.Passes.{knows}
use Rattle.script_run.proofs.NewSession.{new-ready}
use Rattle.client_run.proofs.Opening.{shared-of, own-of, opens}
use Rattle.client_run.proofs.first.open_first.Goals as goal

pub answer_part-answer-requires-clause-ready : goal.answer_part-answer-requires-clause-ready
answer_part-answer-requires-clause-ready g c = λ lifetimes bounds.
    new-ready c.args.registry.now c.args.board.now c.args.workers c.args.passes c.new-session.result c.requires.lock c.requires.new c.requires.few c.new-session.ensures

pub returns-in-Ok-shared-clause-opened : goal.returns-in-Ok-shared-clause-opened
returns-in-Ok-shared-clause-opened g c =
    let s = c.new-session.result in
    let s' = c.answer_part-answer.new.session in
    let given = c.share-on_registry in
    let q = knows given.result.1 in
    let lines = script_of c.args.part.now in
    let text = c.answer_part-answer.new.reply.text in
    let shares = shared-of (λ a. arc_value a) s'.script_state.lives (known s'.board) q given.result.2 c.in-Ok-shared.shared c.in-Ok-shared.is given.ensures.shared in
    opens c.args.registry.now c.args.board.now c.args.workers c.args.passes (record { board = given.result.1; registry = given.result.0 }) c.requires.new s s'
    c.new-session.ensures given.ensures.registry c.in-Ok.ensures.ready lines text
    (subst (λ (x : Written). Replies (widest lines) (lines_dialogue s.workers s.script_state 1 lines Ends) s s' x.text text) c.new-reply.ensures c.in-Ok.ensures.done)
    (arc_value c.in-Ok-shared.shared) shares.1 shares.0 (own-of q given.result.2 c.in-Ok-shared.shared c.in-Ok-shared.is given.ensures.own) c.in-Ok.malformed c.in-Ok.ensures.malformed
