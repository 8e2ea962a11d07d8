use Rattle.std.proofs.Common.{◌≡◌, ◌++◌, ◌-◌, ◌≤◌}
use Rattle.script_text.specs.Lines.{lines_of}
use Rattle.script_text.specs.Parts.{parts_of, cut_lines}
use Rattle.script_text.proofs.parts.cut_parts.Given as goal

abbrev pub invariant-loop : goal.invariant-loop
invariant-loop l = (l.counter ≤ l.clients) × (parts_of l.clients l.input ≡ l.parts.items ++ cut_lines (l.clients - l.counter) (lines_of l.rest))
