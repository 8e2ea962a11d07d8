use Rattle.std.proofs.Common.{◌≡◌}
use Rattle.dialogues.specs.PipelineCommands.{drain_all}
use Rattle.recorded_calls.specs.Passes.{known, lock_of}
use Rattle.script_session.specs.SharedEnd.{HasFreed, HasDelivered}
use Rattle.script_session.proofs.Joined.{LentOnTheWay}
use Rattle.script_session.proofs.shared_end.drain_shared_all.Given as goal

abbrev pub invariant-loop-live : goal.invariant-loop-live
invariant-loop-live g l = LentOnTheWay HasFreed HasDelivered drain_all l.live-index l.fn.lives (known l.fn.caller) (known l.caller) l.fn.answers.items l.answers.items × (lock_of l.caller ≡ lock_of l.fn.caller)
