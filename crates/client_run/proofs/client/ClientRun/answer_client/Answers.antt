use Rattle.std.proofs.Common.{subst}
use Rattle.dialogues.specs.Dialogues.{Ends}
use Rattle.dialogues.specs.Lines.{lines_dialogue}
use Rattle.dialogues.specs.Widths.{widest}
use Rattle.reply_text.specs.Written.{Written}
use Rattle.script_session.specs.Replies.{Replies}
use Rattle.script_session.proofs.Probed.{stopped}
use Rattle.script_text.specs.Script.{script_of}
use Rattle.client_run.proofs.Answering.{stops-then}
use Rattle.client_run.proofs.Clients.{replied-stops, answers-part}
use Rattle.client_run.proofs.client.ClientRun.answer_client.Goals as goal

pub returns-in_err-end_client : goal.returns-in_err-end_client
returns-in_err-end_client g c =
    let s = c.args.session.now in
    let t = c.answer_part.new.session in
    let lines = script_of c.args.part.now in
    record {
      done =
          stopped c.from_residual-in_err-end_client.result _ c.from_residual-in_err-end_client.ensures.0
          (stops-then s t c.end_client.new.self
          (replied-stops c.args.self.now.registry.now c.args.self.now.board.now (widest lines) (lines_dialogue s.workers s.script_state 1 lines Ends) s t c.new-reply.result.text c.answer_part.new.reply.text
          c.requires.ready c.in_ok-malformed.ensures.ready c.in_ok-malformed.ensures.done)
          c.in_err-end_client.ensures.done);
    }

pub returns : goal.returns
returns g c =
    let s = c.args.session.now in
    let t = c.answer_part.new.session in
    let lines = script_of c.args.part.now in
    let text = c.answer_part.new.reply.text in
    record {
      done =
          answers-part c.laws.ensures lines s t c.end_client.new.self text c.end_client.new.reply.text c.in_ok-malformed.malformed c.requires.ready.stands.caller
          (subst (λ (x : Written). Replies (widest lines) (lines_dialogue s.workers s.script_state 1 lines Ends) s t x.text text) c.new-reply.ensures c.in_ok-malformed.ensures.done)
          c.in_ok-end_client.ensures.done c.in_ok-malformed.ensures.malformed c.in_ok-end_client.ensures.paid;
    }
