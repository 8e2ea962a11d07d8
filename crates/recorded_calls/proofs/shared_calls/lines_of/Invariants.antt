use Rattle.std.proofs.Common.{◌≡◌, map, take}
use Rattle.std.specs.Arc.{arc_value}
use Rattle.dialogues.specs.BoardCalls.{origin_of}
use Rattle.recorded_calls.proofs.shared_calls.lines_of.Given as goal

abbrev pub invariant-loop-ask : goal.invariant-loop-ask
invariant-loop-ask l = l.lines ≡ map origin_of (map arc_value (take l.ask-index l.asks))
