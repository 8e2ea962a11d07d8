use Rattle.std.proofs.Common.{◌+◌, ◌≤◌, List, ℕ}
use Rattle.std.specs.Prelude.{if◌then◌else◌}
use Rattle.script_text.specs.NextLine.{StandsAt}
use Rattle.script_text.proofs.Searching.{Searched}
use Rattle.script_text.proofs.line_reader.LineReader.next.Given as goal

abbrev pub invariant-loop-self : goal.invariant-loop-self
invariant-loop-self g l =
    let left = g.S.Source.left in
    record {
      searched : (pending : List ℕ) → StandsAt pending l.fn.self (left l.fn.src) → Searched pending l.fn.self l.self (left l.fn.src) (left l.src);
      later : g.S.Source.faults l.fn.src ≤ g.S.Source.faults l.src;
    }

abbrev pub decreases-loop-self : goal.decreases-loop-self
decreases-loop-self g l = l.self.room + (if l.self.ended then 0 else 1)
