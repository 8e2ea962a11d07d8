use Rattle.std.proofs.Common.{◌-◌, Some, ap, ◌∙◌}
use Rattle.std.specs.Arc.{arc_value}
use Rattle.dialogues.specs.ScriptState.{start_beside}
use Rattle.script_text.specs.Script.{script_of}
use Rattle.client_run.proofs.Clients.{client-ready, if-answered}
use Rattle.client_run.proofs.client.ClientRun.run_part.Goals as goal

pub answer_client-answer-requires-clause-ready : goal.answer_client-answer-requires-clause-ready
answer_client-answer-requires-clause-ready g c = λ lifetimes bounds.
    let run = c.args.self.now in
    let q = c.meet-on_board.result in
    let session_is =
    c.client-session.ensures
    ∙ ap (λ shared. record { workers = run.workers; script_state = start_beside (c.args.number - 16) shared; registry = Some q.registry; board = Some q.board }) c.in-Ok.ensures.cases in
    client-ready c.laws.ensures run.registry.now run.board.now run.workers (arc_value run.shared) run.parts.now c.args.number c.args.passes q c.client-session.result
    c.shared_is_known.ensures.stays c.requires.client c.requires.may c.meet-on_board.ensures.met c.meet-on_board.ensures.lock session_is

pub returns-clause-answers : goal.returns-clause-answers
returns-clause-answers g c =
    let run = c.args.self.now in
    let q = c.meet-on_board.result in
    let given = c.into_passes-on_registry in
    let session_is =
    c.client-session.ensures
    ∙ ap (λ shared. record { workers = run.workers; script_state = start_beside (c.args.number - 16) shared; registry = Some q.registry; board = Some q.board }) c.in-Ok.ensures.cases in
    if-answered c.laws.ensures run.workers (arc_value run.shared) run.parts.now c.args.number c.requires.client c.args.passes q (record { board = given.result.1; registry = given.result.0 })
    c.requires.may c.meet-on_board.ensures.met c.client-session.result c.answer_client-answer.new.session session_is given.ensures.0 given.ensures.1
    (script_of c.args.part.now) c.answer_client-answer.result c.answer_client-answer.ensures.done
