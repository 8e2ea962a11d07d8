use Rattle.std.proofs.Common.{take}
use Rattle.trace_check.specs.TraceReader.{IsOneLine}
use Rattle.trace_check.proofs.trace_reader.cut_line.Given as goal

abbrev pub invariant-loop-place : goal.invariant-loop-place
invariant-loop-place l = IsOneLine (take l.place l.text)
