use Rattle.std.proofs.Common.{ap, sym, subst, ◌∙◌}
use Rattle.dialogues.specs.ScriptState.{PipelineState}
use Rattle.recorded_calls.specs.Passes.{known}
use Rattle.recorded_calls.specs.SharedCalls.{KnowsLent}
use Rattle.script_session.specs.Loans.{HasLent}
use Rattle.script_session.proofs.Joined.{frees-none, frees-free, frees-held, beside-sees}
use Rattle.script_session.proofs.Moving.{fails}
use Rattle.script_session.proofs.shared_end.release_shared.Goals as goal

pub returns-in_default-clause-moved : goal.returns-in_default-clause-moved
returns-in_default-clause-moved g c = frees-none (known c.args.caller.now) c.args.live.now.pipe (sym c.in_default.ensures) c.requires.legal c.requires.gone

pub returns-then-not-pipe-clause-moved : goal.returns-then-not-pipe-clause-moved
returns-then-not-pipe-clause-moved g c =
    frees-free (known c.args.caller.now) c.args.live.now.pipe c.in-Some.pipe.now (sym c.in-Some.ensures) (sym (ap (λ (p : PipelineState). p.held) c.pipe-2.view_is) ∙ c.if-not-pipe.true) c.requires.legal c.requires.gone c.requires.pipe

pub go_gathered-requires-clause-pipe : goal.go_gathered-requires-clause-pipe
go_gathered-requires-clause-pipe g c = subst (HasLent (known c.args.caller.now)) (sym c.in-Some.ensures) c.requires.pipe

pub go_gathered-requires-clause-queue : goal.go_gathered-requires-clause-queue
go_gathered-requires-clause-queue g c =
    let k = known c.args.caller.now in
    let on : KnowsLent k c.in-Some.pipe.now = subst (HasLent k) (sym c.in-Some.ensures) c.requires.pipe in
    on.queue (sym (ap (λ (p : PipelineState). p.held) c.pipe-2.view_is) ∙ c.if-not-pipe.false)

pub returns-in_err-go_gathered-clause-moved : goal.returns-in_err-go_gathered-clause-moved
returns-in_err-go_gathered-clause-moved g c =
    fails c.from_residual.result _ c.from_residual.ensures.0
    (beside-sees (known c.args.caller.now) (known c.go_gathered.new.self) c.requires.gone c.in_err-go_gathered.ensures.held.1)

pub returns-clause-moved : goal.returns-clause-moved
returns-clause-moved g c =
    frees-held (known c.args.caller.now) (known c.go_gathered.new.self) c.args.live.now.pipe c.in-Some.pipe.now (sym c.in-Some.ensures) (sym (ap (λ (p : PipelineState). p.held) c.pipe-2.view_is) ∙ c.if-not-pipe.false)
    c.requires.pipe c.in_ok-go_gathered.ensures.held
