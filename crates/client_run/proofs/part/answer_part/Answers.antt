use Rattle.script_session.proofs.Probed.{stopped}
use Rattle.client_run.proofs.Answering.{stops-then, answering-begins, answering-stops, answering-more, answering-ends, answering-malformed}
use Rattle.client_run.proofs.part.answer_part.Goals as goal

pub loop-line-init : goal.loop-line-init
loop-line-init g c = record {
  at = answering-begins c.laws.ensures c.args.registry.now c.args.board.now c.args.session.now c.requires.ready c.args.reply.now.text c.args.part.now;
}

pub returns-in_err-said-clause-done : goal.returns-in_err-said-clause-done
returns-in_err-said-clause-done g c =
    stopped c.from_residual.result _ c.from_residual.ensures.0
    (answering-stops c.laws.ensures c.args.registry.now c.args.board.now c.args.session.now c.requires.ready c.args.reply.now.text c.args.part.now
    c.loop-line.rest.now c.loop-line.number c.loop-line.malformed c.loop-line.session c.loop-line.reply.text c.loop-line.invariant.at)

pub returns-in_err-line-clause-done : goal.returns-in_err-line-clause-done
returns-in_err-line-clause-done g c =
    stopped c.from_residual-in_err-line.result _ c.from_residual-in_err-line.ensures.0
    (stops-then c.args.session.now c.loop-line.session c.line.new.self
    (answering-stops c.laws.ensures c.args.registry.now c.args.board.now c.args.session.now c.requires.ready c.args.reply.now.text c.args.part.now
    c.loop-line.rest.now c.loop-line.number c.loop-line.malformed c.loop-line.session c.loop-line.reply.text c.loop-line.invariant.at)
    c.in_err-line.ensures.done.stops)

pub loop-line-preserved : goal.loop-line-preserved
loop-line-preserved g c = record {
  at =
      answering-more c.laws.ensures c.args.registry.now c.args.board.now c.args.session.now c.requires.ready c.args.reply.now.text c.args.part.now
      c.loop-line.rest.now c.loop-line.number c.loop-line.malformed c.loop-line.session c.loop-line.reply.text c.loop-line.invariant.at
      c.in-Some.line.now c.in-Some.behind.now c.in_ok-said.said c.in-Some.ensures.line c.in-Some.ensures.bytes c.in_ok-said.ensures.line
      c.is_malformed_line-bad.result c.is_malformed_line-bad.ensures c.line.new.self c.line.new.reply.text c.in_ok-line.ensures.done c.in_ok-line.ensures.ready;
}

pub returns-clause-done : goal.returns-clause-done
returns-clause-done g c =
    answering-ends c.laws.ensures c.args.registry.now c.args.board.now c.args.session.now c.requires.ready c.args.reply.now.text c.args.part.now
    c.loop-line.rest.now c.loop-line.number c.loop-line.malformed c.loop-line.session c.loop-line.reply.text c.loop-line.invariant.at c.in_default.ensures.line

pub returns-clause-malformed : goal.returns-clause-malformed
returns-clause-malformed g c =
    answering-malformed c.laws.ensures c.args.registry.now c.args.board.now c.args.session.now c.requires.ready c.args.reply.now.text c.args.part.now
    c.loop-line.rest.now c.loop-line.number c.loop-line.malformed c.loop-line.session c.loop-line.reply.text c.loop-line.invariant.at c.in_default.ensures.line
