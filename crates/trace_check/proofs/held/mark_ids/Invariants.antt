use Rattle.std.proofs.Common.{take}
use Rattle.trace_check.specs.Held.{AreMarked}
use Rattle.trace_check.proofs.held.mark_ids.Given as goal

abbrev pub invariant-loop-id : goal.invariant-loop-id
invariant-loop-id l = AreMarked l.fn.marks.items l.marks.items (take l.id-index l.ids)
