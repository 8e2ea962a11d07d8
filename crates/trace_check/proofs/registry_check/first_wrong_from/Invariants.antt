use Rattle.std.proofs.Common.{map, take}
use Rattle.trace_check.specs.Registers.{row_of, larval_of}
use Rattle.trace_check.proofs.RegJudging.{IsRegister}
use Rattle.trace_check.proofs.registry_check.first_wrong_from.Given as goal

abbrev pub invariant-loop-place : goal.invariant-loop-place
invariant-loop-place l = IsRegister (take l.place l.events) (map row_of l.entries.items) (map larval_of l.larvals.items) l.references.items
