use Rattle.std.proofs.Common.{◌≡◌, inl, inr}
use Rattle.dialogues.specs.Texts.{IsText}
use Rattle.script_run.specs.Answered.{IsCutOff, IsBrokenOff}
use Rattle.script_run.specs.ByLines.{IsTextByLines}
use Rattle.script_run.specs.Fronts.{IsFrontText}
use Rattle.dialogues.specs.ScriptState.{start}
use Rattle.script_text.specs.Script.{script_of}
use Rattle.settled_scripts.specs.Settled.{IsSettled, plain_text}
use Rattle.trace_text.specs.Asks.{ask_origin}
use Rattle.trace_text.specs.Trace.{FitTypes}
use Rattle.script_run.specs.Endings.{CanBeRead, traced}
use Rattle.script_run.specs.declared.errors.RunError.TheVariants.{NoMemory, WriteFault}
use Rattle.script_run.proofs.Traced.{then-ok, then-both, then-if, then-gains, then-gains_if, then-front, then-cut, then-ran, stays}
use Rattle.script_run.proofs.traced_run.run_traced.Goals as goal

pub returns-clause-whole : goal.returns-clause-whole
returns-clause-whole g c =
    let held = g.K.Sink.held in
    let ran = c.run_script-answer.result in
    let workers = c.args.options.now.workers in
    then-gains ran.answer c.answer_traced-answer.result (held c.args.out.now) (held c.run_script-answer.new.out) (held c.answer_traced-answer.new.out)
    (traced c.args.options.now.trace ran.registry ran.board) c.answer_traced-answer.ensures.whole (g.S.Source.left c.args.src.now)
    (λ script text. IsText workers (start 0) 0 (script_of script) ran.registry ran.board text) c.run_script-answer.ensures.ran.whole

pub returns-clause-readable : goal.returns-clause-readable
returns-clause-readable g c =
    let held = g.K.Sink.held in
    let ran = c.run_script-answer.result in
    let histories = c.run_script-answer.ensures.ran.histories in
    let workers = c.args.options.now.workers in
    λ asked. then-both ran.answer c.answer_traced-answer.result (held c.args.out.now) (held c.run_script-answer.new.out) (held c.answer_traced-answer.new.out)
    (traced c.args.options.now.trace ran.registry ran.board) c.answer_traced-answer.ensures.whole (g.S.Source.left c.args.src.now)
    (FitTypes ask_origin ran.registry ran.board) (CanBeRead ran.registry ran.board) _
    c.run_script-answer.ensures.ran.whole (c.answer_traced-answer.ensures.fits asked)
    (λ script gained fit. c.traces_can_be_read.ensures workers script ran.registry ran.board gained.0 c.requires.few histories.legal histories.faithful histories.callers.0 gained.1 fit)

pub returns-clause-settled : goal.returns-clause-settled
returns-clause-settled g c =
    let held = g.K.Sink.held in
    let ran = c.run_script-answer.result in
    then-gains_if ran.answer c.answer_traced-answer.result (held c.args.out.now) (held c.run_script-answer.new.out) (held c.answer_traced-answer.new.out)
    (traced c.args.options.now.trace ran.registry ran.board) c.answer_traced-answer.ensures.whole (g.S.Source.left c.args.src.now)
    (λ script. IsSettled (script_of script)) (λ script text. text ≡ plain_text (script_of script)) c.run_script-answer.ensures.ran.settled

pub returns-clause-front : goal.returns-clause-front
returns-clause-front g c =
    let held = g.K.Sink.held in
    let ran = c.run_script-answer.result in
    let workers = c.args.options.now.workers in
    then-front ran.answer c.answer_traced-answer.result (held c.args.out.now) (held c.run_script-answer.new.out) (held c.answer_traced-answer.new.out)
    (traced c.args.options.now.trace ran.registry ran.board) c.answer_traced-answer.ensures.whole c.answer_traced-answer.ensures.front (g.S.Source.left c.args.src.now)
    (λ script text. IsFrontText workers (start 0) 0 (script_of script) ran.registry ran.board text)
    (λ script text. IsText workers (start 0) 0 (script_of script) ran.registry ran.board text)
    c.run_script-answer.ensures.ran.front c.run_script-answer.ensures.ran.whole

pub returns-clause-by_lines : goal.returns-clause-by_lines
returns-clause-by_lines g c =
    let held = g.K.Sink.held in
    let ran = c.run_script-answer.result in
    let workers = c.args.options.now.workers in
    then-front ran.answer c.answer_traced-answer.result (held c.args.out.now) (held c.run_script-answer.new.out) (held c.answer_traced-answer.new.out)
    (traced c.args.options.now.trace ran.registry ran.board) c.answer_traced-answer.ensures.whole c.answer_traced-answer.ensures.front (g.S.Source.left c.args.src.now)
    (λ script text. IsTextByLines workers (script_of script) ran.registry ran.board text)
    (λ script text. IsText workers (start 0) 0 (script_of script) ran.registry ran.board text)
    c.run_script-answer.ensures.ran.by_lines c.run_script-answer.ensures.ran.whole

pub returns-clause-cut : goal.returns-clause-cut
returns-clause-cut g c =
    let held = g.K.Sink.held in
    let ran = c.run_script-answer.result in
    let workers = c.args.options.now.workers in
    then-cut ran.answer c.answer_traced-answer.result (held c.args.out.now) (held c.run_script-answer.new.out) (held c.answer_traced-answer.new.out)
    (traced c.args.options.now.trace ran.registry ran.board) c.answer_traced-answer.ensures.whole c.answer_traced-answer.ensures.front WriteFault (g.S.Source.left c.args.src.now)
    (λ script text. IsCutOff workers (script_of script) ran.registry ran.board text)
    (λ script text. IsText workers (start 0) 0 (script_of script) ran.registry ran.board text)
    c.run_script-answer.ensures.ran.cut c.run_script-answer.ensures.ran.whole

pub returns-clause-broken : goal.returns-clause-broken
returns-clause-broken g c =
    let held = g.K.Sink.held in
    let ran = c.run_script-answer.result in
    let workers = c.args.options.now.workers in
    then-cut ran.answer c.answer_traced-answer.result (held c.args.out.now) (held c.run_script-answer.new.out) (held c.answer_traced-answer.new.out)
    (traced c.args.options.now.trace ran.registry ran.board) c.answer_traced-answer.ensures.whole c.answer_traced-answer.ensures.front NoMemory (g.S.Source.left c.args.src.now)
    (λ script text. IsBrokenOff workers (script_of script) ran.registry ran.board text)
    (λ script text. IsText workers (start 0) 0 (script_of script) ran.registry ran.board text)
    c.run_script-answer.ensures.ran.broken c.run_script-answer.ensures.ran.whole

pub returns-clause-first : goal.returns-clause-first
returns-clause-first g c =
    let held = g.K.Sink.held in
    let left = g.S.Source.left in
    let ran = c.run_script-answer.result in
    then-ran ran.answer c.answer_traced-answer.result (held c.args.out.now) (held c.run_script-answer.new.out) (held c.answer_traced-answer.new.out)
    (traced c.args.options.now.trace ran.registry ran.board) c.answer_traced-answer.ensures.whole c.answer_traced-answer.ensures.front c.answer_traced-answer.ensures.causes
    c.args.options.now.workers (left c.args.src.now) (left c.run_script-answer.new.src) ran.registry ran.board c.run_script-answer.ensures.ran.first

pub returns-clause-ended : goal.returns-clause-ended
returns-clause-ended g c =
    let held = g.K.Sink.held in
    let ran = c.run_script-answer in
    let traced_ = c.answer_traced-answer in
    then-ok ran.result.answer traced_.result (held c.args.out.now) (held ran.new.out) (held traced_.new.out) (traced c.args.options.now.trace ran.result.registry ran.result.board) traced_.ensures.whole _ ran.ensures.ran.ended

pub returns-clause-in_turn : goal.returns-clause-in_turn
returns-clause-in_turn g c =
    let held = g.K.Sink.held in
    let ran = c.run_script-answer in
    let traced_ = c.answer_traced-answer in
    then-ok ran.result.answer traced_.result (held c.args.out.now) (held ran.new.out) (held traced_.new.out) (traced c.args.options.now.trace ran.result.registry ran.result.board) traced_.ensures.whole _ ran.ensures.ran.in_turn

pub returns-clause-shut : goal.returns-clause-shut
returns-clause-shut g c =
    let held = g.K.Sink.held in
    let ran = c.run_script-answer in
    let traced_ = c.answer_traced-answer in
    then-ok ran.result.answer traced_.result (held c.args.out.now) (held ran.new.out) (held traced_.new.out) (traced c.args.options.now.trace ran.result.registry ran.result.board) traced_.ensures.whole _ ran.ensures.ran.shut

pub returns-clause-malformed : goal.returns-clause-malformed
returns-clause-malformed g c =
    let held = g.K.Sink.held in
    let ran = c.run_script-answer in
    let traced_ = c.answer_traced-answer in
    then-if ran.result.answer traced_.result (held c.args.out.now) (held ran.new.out) (held traced_.new.out) (traced c.args.options.now.trace ran.result.registry ran.result.board) traced_.ensures.whole _ ran.ensures.ran.malformed

pub returns-clause-closed : goal.returns-clause-closed
returns-clause-closed g c =
    let held = g.K.Sink.held in
    let ran = c.run_script-answer in
    let traced_ = c.answer_traced-answer in
    elim ran.ensures.ran.closed [
      | inl once ↦ inl once
      | inr none ↦ inr (
        stays ran.result.answer traced_.result (held c.args.out.now) (held ran.new.out) (held traced_.new.out) (traced c.args.options.now.trace ran.result.registry ran.result.board)
            traced_.ensures.whole traced_.ensures.front traced_.ensures.causes NoMemory none.0,
        none.1,
        none.2,
      )
    ]

pub returns-clause-callers : goal.returns-clause-callers
returns-clause-callers g c = c.run_script-answer.ensures.ran.histories.callers

pub returns-clause-legal : goal.returns-clause-legal
returns-clause-legal g c = c.run_script-answer.ensures.ran.histories.legal

pub returns-clause-legal_board : goal.returns-clause-legal_board
returns-clause-legal_board g c = c.run_script-answer.ensures.ran.histories.legal_board

pub returns-clause-faithful : goal.returns-clause-faithful
returns-clause-faithful g c = c.run_script-answer.ensures.ran.histories.faithful
