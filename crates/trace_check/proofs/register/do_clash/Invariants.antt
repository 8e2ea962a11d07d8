use Rattle.std.proofs.Common.{◌≡◌, map, drop}
use Rattle.std.specs.List.{list_any}
use Rattle.alg_registry.specs.Answers.{clashes_with}
use Rattle.trace_check.specs.Registers.{row_of}
use Rattle.trace_check.proofs.register.do_clash.Given as goal

abbrev pub invariant-loop-place : goal.invariant-loop-place
invariant-loop-place l = list_any (clashes_with l.spec) (map row_of (drop l.place l.entries)) ≡ list_any (clashes_with l.spec) (map row_of l.entries)
