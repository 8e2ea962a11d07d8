use Rattle.std.proofs.Common.{ap, sym, ◌∙◌, ◌++◌, map, append_assoc}
use Rattle.board.specs.HandedOut.{completions}
use Rattle.dialogues.specs.ScriptState.{PipelineState}
use Rattle.recorded_calls.specs.Passes.{known}
use Rattle.dialogues.specs.PipelineCommands.{end_said}
use Rattle.script_session.specs.CallbackText.{callback_said}
use Rattle.script_session.proofs.Ended.{stays-put, drains-last, drain-stopped}
use Rattle.script_session.proofs.Leading.{drains-none}
use Rattle.script_session.proofs.Moving.{fails}
use Rattle.script_session.proofs.Piped.{from-empty}
use Rattle.script_session.proofs.Stopping.{moving-kept}
use Rattle.script_session.proofs.end_of_input.drain_last.Goals as goal

pub returns-in_default-clause-moved : goal.returns-in_default-clause-moved
returns-in_default-clause-moved g c = stays-put _ c.args.live.now (known c.args.caller.now) _ c.requires.pipe c.requires.legal (drains-none c.args.live.now.label c.args.live.now.pipe (sym c.in_default.ensures))

pub returns-clause-moved : goal.returns-clause-moved
returns-clause-moved g c =
    let d = c.in_ok-drain.ensures.drained in
    let pipe = c.in-Some.pipe.now in
    let live = c.args.live.now in
    let had = c.args.answers.now.items in
    let count = c.count_completions-count.result in
    let told = map (callback_said pipe.lines) d.0 in
    drains-last (known c.args.caller.now) (known c.drain.new.self) live c.deliver.new.self pipe count d.0 _ _ (sym c.in-Some.ensures) d.2
    (c.count_completions-count.ensures ∙ ap completions (c.as_slice.ensures ∙ from-empty c.new-into.result _ _ c.new-into.ensures d.1)) c.deliver.ensures
    (c.in_ok-say_end.ensures
    ∙ (ap (λ x. x ++ end_said c.label.result.now count)
    (c.in_ok-tell.ensures
    ∙ (ap (λ ls. had ++ map (callback_said ls) c.drain.new.into.list) (ap (λ (p : PipelineState). p.lines) c.pipe-2.view_is)
    ∙ ap (λ cs. had ++ map (callback_said pipe.lines) cs) (from-empty c.new-into.result _ _ c.new-into.ensures d.1)))
    ∙ (ap (λ l. (had ++ told) ++ end_said l count) c.label.ensures ∙ append_assoc had told (end_said live.label count))))

pub returns-in_err-drain-clause-moved : goal.returns-in_err-drain-clause-moved
returns-in_err-drain-clause-moved g c =
    fails c.from_residual.result _ c.from_residual.ensures.0 (moving-kept _ (known c.args.caller.now) (known c.drain.new.self) c.in_err-drain.ensures.drained.2)

-- what was collected isn't told
pub returns-in_err-tell-clause-moved : goal.returns-in_err-tell-clause-moved
returns-in_err-tell-clause-moved g c =
    let d = c.in_ok-drain.ensures.drained in
    fails c.from_residual-in_err-tell.result _ c.from_residual-in_err-tell.ensures.0 (drain-stopped (known c.args.caller.now) (known c.drain.new.self) c.args.live.now c.in-Some.pipe.now d.0 (sym c.in-Some.ensures) d.2)

pub returns-in_err-say_end-clause-moved : goal.returns-in_err-say_end-clause-moved
returns-in_err-say_end-clause-moved g c =
    let d = c.in_ok-drain.ensures.drained in
    fails c.from_residual-in_err-say_end.result _ c.from_residual-in_err-say_end.ensures.0 (drain-stopped (known c.args.caller.now) (known c.drain.new.self) c.args.live.now c.in-Some.pipe.now d.0 (sym c.in-Some.ensures) d.2)
