use Rattle.std.proofs.Common.{◌≡◌, map, take}
use Rattle.std.specs.Arc.{arc_value}
use Rattle.board.specs.Entries.{entries_of, submissions}
use Rattle.board.proofs.asks.asks_in.Given as goal

abbrev pub invariant-loop-entry : goal.invariant-loop-entry
invariant-loop-entry g l = map arc_value l.asks.items ≡ submissions (entries_of l.of (take l.entry-index l.entries))
