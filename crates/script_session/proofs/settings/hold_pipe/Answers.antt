use Rattle.recorded_calls.specs.Passes.{known}
use Rattle.script_session.proofs.Piped.{held-changed}
use Rattle.script_session.proofs.settings.hold_pipe.Goals as goal

pub returns-then-held-clause-changed : goal.returns-then-held-clause-changed
returns-then-held-clause-changed g c = held-changed c.hold.result (known c.args.caller.now) (known c.hold.new.self) c.args.pipe.now _ _ c.if-held.true c.hold.ensures.held

pub returns-else-held-clause-changed : goal.returns-else-held-clause-changed
returns-else-held-clause-changed g c = held-changed c.go.result (known c.args.caller.now) (known c.go.new.self) c.args.pipe.now _ _ c.if-held.false c.go.ensures.held
