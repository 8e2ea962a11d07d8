use Rattle.std.proofs.Common.{◌≡◌, []}
use Rattle.dialogues.specs.PipelineCommands.{let_all_go}
use Rattle.recorded_calls.specs.Passes.{known, lock_of}
use Rattle.script_session.specs.SharedEnd.{HasFreed}
use Rattle.script_session.specs.Loans.{HasLent}
use Rattle.script_session.proofs.Joined.{LentOnTheWay}
use Rattle.script_session.proofs.shared_end.release_shared_all.Given as goal

abbrev pub invariant-loop-live : goal.invariant-loop-live
invariant-loop-live g l = LentOnTheWay HasLent HasFreed let_all_go l.live-index l.fn.lives (known l.fn.caller) (known l.caller) [] [] × (lock_of l.caller ≡ lock_of l.fn.caller)
