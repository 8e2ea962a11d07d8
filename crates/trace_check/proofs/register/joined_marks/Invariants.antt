use Rattle.std.proofs.Common.{map, take}
use Rattle.trace_check.specs.Registers.{larval_of}
use Rattle.trace_check.specs.Held.{AreJoined}
use Rattle.trace_check.proofs.register.joined_marks.Given as goal

abbrev pub invariant-loop-larval : goal.invariant-loop-larval
invariant-loop-larval l = AreJoined (map larval_of (take l.larval-index l.larvals)) l.text l.count l.marks.items
