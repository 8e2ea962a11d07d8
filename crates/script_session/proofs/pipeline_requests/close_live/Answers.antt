use Rattle.std.proofs.Common.{sym, subst}
use Rattle.recorded_calls.specs.Passes.{known}
use Rattle.script_session.specs.States.{HasPipe}
use Rattle.script_session.proofs.Changing.{released-none, released-closed, nothing-owed}
use Rattle.script_session.proofs.pipeline_requests.close_live.Goals as goal

pub returns-in_default-clause-released : goal.returns-in_default-clause-released
returns-in_default-clause-released g c = released-none c.args.live.now (known c.args.caller.now) (sym c.in_default.ensures) c.requires.legal

pub close-requires-clause-done : goal.close-requires-clause-done
close-requires-clause-done g c =
    let has = sym c.in-Some.ensures in
    nothing-owed c.only_collects_hand_out.ensures.most (known c.args.caller.now) c.args.live.now c.in-Some.pipe.now has c.requires.legal (subst (HasPipe (known c.args.caller.now)) has c.requires.pipe) c.requires.paid

pub returns-clause-released : goal.returns-clause-released
returns-clause-released g c = released-closed c.args.live.now c.in-Some.pipe.now (known c.args.caller.now) (known c.close.new.self) (sym c.in-Some.ensures) c.close.ensures.closed
