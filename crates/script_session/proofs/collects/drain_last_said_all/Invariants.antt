use Rattle.std.proofs.Common.{◌≡◌, take}
use Rattle.recorded_calls.specs.Passes.{known, lock_of}
use Rattle.script_session.specs.EndOfInput.{AreAllDelivered}
use Rattle.script_session.proofs.Said.{SaidSoFar}
use Rattle.script_session.proofs.collects.drain_last_said_all.Given as goal

abbrev pub invariant-loop-live : goal.invariant-loop-live
invariant-loop-live g l = SaidSoFar l.live-index l.fn.lives l.lives (known l.fn.caller) (known l.caller) l.fn.reply.text l.reply.text × (lock_of l.caller ≡ lock_of l.fn.caller) × AreAllDelivered (take l.live-index l.lives)
