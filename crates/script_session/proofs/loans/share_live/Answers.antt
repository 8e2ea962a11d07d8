use Rattle.std.proofs.Common.{sym}
use Rattle.recorded_calls.specs.Passes.{known}
use Rattle.script_session.proofs.Lends.{shares-none, shares-one}
use Rattle.script_session.proofs.loans.share_live.Goals as goal

pub returns-in_default-clause-shared : goal.returns-in_default-clause-shared
returns-in_default-clause-shared g c = shares-none (known c.args.caller.now) c.args.live.now (sym c.in_default.ensures) c.requires.legal

pub returns-clause-shared : goal.returns-clause-shared
returns-clause-shared g c = shares-one (known c.args.caller.now) (known c.share.new.self) c.args.live.now c.in-Some.pipe.now (sym c.in-Some.ensures) c.in_ok-share.ensures.shared
