use Rattle.std.proofs.Common.{◌≡◌}
use Rattle.recorded_calls.specs.Passes.{known, lock_of}
use Rattle.script_session.proofs.Lends.{SharedUpTo}
use Rattle.script_session.proofs.loans.share_each.Given as goal

abbrev pub invariant-loop-live : goal.invariant-loop-live
invariant-loop-live g l = SharedUpTo l.live-index l.fn.lives (known l.fn.caller) (known l.caller) × (lock_of l.caller ≡ lock_of l.fn.caller)
