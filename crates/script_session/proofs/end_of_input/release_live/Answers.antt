use Rattle.std.proofs.Common.{ap, sym, subst, ◌∙◌}
use Rattle.dialogues.specs.ScriptState.{PipelineState}
use Rattle.recorded_calls.specs.Passes.{known}
use Rattle.recorded_calls.specs.Pipelines.{KnowsPipe}
use Rattle.recorded_calls.proofs.Boarding.{kept-same}
use Rattle.script_session.specs.States.{HasPipe}
use Rattle.script_session.proofs.Ended.{stays-put, goes-free_now}
use Rattle.script_session.proofs.Leading.{goes-none, goes-free}
use Rattle.script_session.proofs.Moving.{fails}
use Rattle.script_session.proofs.Said.{tells-nothing, tells-go}
use Rattle.script_session.proofs.Stopping.{moving-kept}
use Rattle.script_session.proofs.end_of_input.release_live.Goals as goal

pub returns-in_default-clause-moved : goal.returns-in_default-clause-moved
returns-in_default-clause-moved g c = stays-put _ c.args.live.now (known c.args.caller.now) _ c.requires.pipe c.requires.legal (goes-none c.args.live.now.pipe (sym c.in_default.ensures))

pub returns-then-not-pipe-clause-moved : goal.returns-then-not-pipe-clause-moved
returns-then-not-pipe-clause-moved g c =
    stays-put _ c.args.live.now (known c.args.caller.now) _ c.requires.pipe c.requires.legal
    (goes-free c.args.live.now.pipe c.in-Some.pipe.now (sym c.in-Some.ensures) (sym (ap (λ (p : PipelineState). p.held) c.pipe-2.view_is) ∙ c.if-not-pipe.true))

pub go-requires-clause-queue : goal.go-requires-clause-queue
go-requires-clause-queue g c =
    let k = known c.args.caller.now in
    let on : KnowsPipe k c.in-Some.pipe.now = subst (HasPipe k) (sym c.in-Some.ensures) c.requires.pipe in
    on.queue (sym (ap (λ (p : PipelineState). p.held) c.pipe-2.view_is) ∙ c.if-not-pipe.false)

pub returns-clause-moved : goal.returns-clause-moved
returns-clause-moved g c =
    goes-free_now (known c.args.caller.now) (known c.go.new.self) c.args.live.now c.set_held.new.self c.in-Some.pipe.now (sym c.in-Some.ensures) (sym (ap (λ (p : PipelineState). p.held) c.pipe-2.view_is) ∙ c.if-not-pipe.false)
    c.in_ok-go.ensures.held c.set_held.ensures

pub returns-in_default-clause-told : goal.returns-in_default-clause-told
returns-in_default-clause-told g c = tells-nothing (known c.args.caller.now) (known c.args.caller.now) (kept-same (known c.args.caller.now) c.requires.legal).called

pub returns-then-not-pipe-clause-told : goal.returns-then-not-pipe-clause-told
returns-then-not-pipe-clause-told g c = tells-nothing (known c.args.caller.now) (known c.args.caller.now) (kept-same (known c.args.caller.now) c.requires.legal).called

pub returns-in_err-go-clause-told : goal.returns-in_err-go-clause-told
returns-in_err-go-clause-told g c = tells-nothing (known c.args.caller.now) (known c.go.new.self) c.in_err-go.ensures.held.1.called

pub returns-clause-told : goal.returns-clause-told
returns-clause-told g c = tells-go (known c.args.caller.now) (known c.go.new.self) c.in-Some.pipe.now _ c.in_ok-go.ensures.held

pub returns-in_err-go-clause-moved : goal.returns-in_err-go-clause-moved
returns-in_err-go-clause-moved g c = fails c.from_residual.result _ c.from_residual.ensures.0 (moving-kept _ (known c.args.caller.now) (known c.go.new.self) c.in_err-go.ensures.held.1)
