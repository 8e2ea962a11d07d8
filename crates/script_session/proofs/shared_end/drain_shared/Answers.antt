use Rattle.std.proofs.Common.{ap, sym, ◌∙◌, ◌++◌, map, append_assoc}
use Rattle.board.specs.HandedOut.{completions}
use Rattle.dialogues.specs.ScriptState.{PipelineState}
use Rattle.recorded_calls.specs.Passes.{known}
use Rattle.dialogues.specs.PipelineCommands.{end_said}
use Rattle.script_session.specs.CallbackText.{callback_said}
use Rattle.script_session.proofs.Joined.{drains-no, freed-lent, drains-gathered, drains-beside, beside-sees, kept-beside, beside-then}
use Rattle.script_session.proofs.Moving.{fails}
use Rattle.script_session.proofs.Piped.{from-empty}
use Rattle.script_session.proofs.shared_end.drain_shared.Goals as goal

pub returns-in_default-clause-moved : goal.returns-in_default-clause-moved
returns-in_default-clause-moved g c = drains-no (known c.args.caller.now) c.args.live.now.label c.args.live.now.pipe c.args.answers.now.items (sym c.in_default.ensures) c.requires.legal c.requires.gone

pub gather-requires-clause-pipe : goal.gather-requires-clause-pipe
gather-requires-clause-pipe g c = freed-lent (known c.args.caller.now) c.args.live.now.pipe c.in-Some.shared.now c.freed-pipe.result (sym c.in-Some.ensures) c.freed-pipe.ensures c.requires.pipe

pub returns-in_err-gather-clause-moved : goal.returns-in_err-gather-clause-moved
returns-in_err-gather-clause-moved g c =
    fails c.from_residual.result _ c.from_residual.ensures.0 (beside-sees (known c.args.caller.now) (known c.gather.new.self) c.requires.gone c.gather.ensures.beside)

pub returns-in_err-drain_gathered-clause-moved : goal.returns-in_err-drain_gathered-clause-moved
returns-in_err-drain_gathered-clause-moved g c =
    let k = known c.args.caller.now in
    let m = known c.gather.new.self in
    let l = known c.drain_gathered.new.self in
    let d = c.in_err-drain_gathered.ensures.drained in
    fails c.from_residual-in_err-drain_gathered.result _ c.from_residual-in_err-drain_gathered.ensures.0
    (beside-then k m l (beside-sees k m c.requires.gone c.gather.ensures.beside) (kept-beside m l d.2 d.3))

pub returns-in_err-tell-clause-moved : goal.returns-in_err-tell-clause-moved
returns-in_err-tell-clause-moved g c =
    let d = c.in_ok-drain_gathered.ensures.drained in
    fails c.from_residual-in_err-tell.result _ c.from_residual-in_err-tell.ensures.0
    (drains-beside (known c.args.caller.now) (known c.gather.new.self) (known c.drain_gathered.new.self) c.gather.new.pipe d.0 c.requires.gone c.gather.ensures.beside d.2)

pub returns-in_err-say_end-clause-moved : goal.returns-in_err-say_end-clause-moved
returns-in_err-say_end-clause-moved g c =
    let d = c.in_ok-drain_gathered.ensures.drained in
    fails c.from_residual-in_err-say_end.result _ c.from_residual-in_err-say_end.ensures.0
    (drains-beside (known c.args.caller.now) (known c.gather.new.self) (known c.drain_gathered.new.self) c.gather.new.pipe d.0 c.requires.gone c.gather.ensures.beside d.2)

pub returns-clause-moved : goal.returns-clause-moved
returns-clause-moved g c =
    let d = c.in_ok-drain_gathered.ensures.drained in
    let live = c.args.live.now in
    let first = c.in-Some.shared.now in
    let pipe = c.gather.new.pipe in
    let had = c.args.answers.now.items in
    let count = c.count_completions-count.result in
    let told = map (callback_said pipe.lines) d.0 in
    drains-gathered (known c.args.caller.now) (known c.gather.new.self) (known c.drain_gathered.new.self) live.label live.pipe first pipe count d.0 had c.say_end.new.answers.items
    (sym c.in-Some.ensures)
    (ap (λ (p : PipelineState). p.number) c.in_ok-gather.ensures.gathered.0 ∙ ap (λ (p : PipelineState). p.number) c.freed-pipe.ensures)
    c.requires.gone c.gather.ensures.beside c.in_ok-gather.ensures.gathered.1 d.2 d.3
    (c.count_completions-count.ensures ∙ ap completions (c.as_slice.ensures ∙ from-empty c.new-into.result _ _ c.new-into.ensures d.1))
    (c.in_ok-say_end.ensures
    ∙ (ap (λ x. x ++ end_said c.label.result.now count)
    (c.in_ok-tell.ensures
    ∙ (ap (λ ls. had ++ map (callback_said ls) c.drain_gathered.new.into.list) (ap (λ (p : PipelineState). p.lines) c.pipe-2.view_is)
    ∙ ap (λ cs. had ++ map (callback_said pipe.lines) cs) (from-empty c.new-into.result _ _ c.new-into.ensures d.1)))
    ∙ (ap (λ l. (had ++ told) ++ end_said l count) c.label.ensures ∙ append_assoc had told (end_said live.label count))))
