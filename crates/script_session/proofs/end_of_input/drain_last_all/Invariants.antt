use Rattle.std.proofs.Common.{◌≡◌, take}
use Rattle.dialogues.specs.PipelineCommands.{drain_all}
use Rattle.recorded_calls.specs.Passes.{known, lock_of}
use Rattle.script_session.specs.EndOfInput.{AreAllDelivered}
use Rattle.script_session.proofs.Moving.{OnTheWay}
use Rattle.script_session.proofs.end_of_input.drain_last_all.Given as goal

abbrev pub invariant-loop-live : goal.invariant-loop-live
invariant-loop-live g l = OnTheWay drain_all l.live-index l.fn.lives l.lives (known l.fn.caller) (known l.caller) l.fn.answers.items l.answers.items × (lock_of l.caller ≡ lock_of l.fn.caller) × AreAllDelivered (take l.live-index l.lives)
