use Rattle.std.specs.Bool.{IsFalse}
use Rattle.kc_base.specs.Memory.{fails_next}
use Rattle.kc_base.proofs.in_memory.MemSinkSink.write.Goals as goal
use Rattle.kc_base.proofs.in_memory.MemSinkSink.write.Goals.{in-Ok, in-Err}

-- src/in_memory.rt:215:5
pub returns-clause-answer : goal.returns-clause-answer
returns-clause-answer c =
    let unlisted : IsFalse (fails_next c.self.inside.calls c.self.inside.failing.items) =
    rw (← c.deref.ensures.value) (rw (← c.contains.ensures.value) c.if-contains.false) in
    elim c.match-append.branch [
      | in-Ok w ↦ rw (← c.self.view_is) (rw w.result-is (unlisted, c.min-count.ensures))
      | in-Err w ↦ rw (← c.self.view_is) (rw w.result-is unlisted)
    ]
