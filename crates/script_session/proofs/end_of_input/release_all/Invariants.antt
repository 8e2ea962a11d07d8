use Rattle.std.proofs.Common.{◌≡◌, []}
use Rattle.dialogues.specs.PipelineCommands.{let_all_go}
use Rattle.recorded_calls.specs.Passes.{known, lock_of}
use Rattle.script_session.specs.ReplyText.{Tells}
use Rattle.script_session.proofs.Moving.{OnTheWay}
use Rattle.script_session.proofs.end_of_input.release_all.Given as goal

abbrev pub invariant-loop-live : goal.invariant-loop-live
invariant-loop-live g l = OnTheWay let_all_go l.live-index l.fn.lives l.lives (known l.fn.caller) (known l.caller) [] [] × (lock_of l.caller ≡ lock_of l.fn.caller) × Tells (known l.fn.caller) (known l.caller) []
