use Rattle.std.proofs.Common.{◌≡◌, ◌&&◌, map, drop}
use Rattle.std.specs.List.{position_from}
use Rattle.std.specs.Str.{bytes_eq}
use Rattle.alg_registry.specs.Answers.{may_find}
use Rattle.trace_check.specs.Registers.{row_of}
use Rattle.trace_check.proofs.register.plain_driver.Given as goal

abbrev pub invariant-loop-place : goal.invariant-loop-place
invariant-loop-place l = position_from (λ row. may_find l.plain row && bytes_eq row.spec.driver l.text) l.place (map row_of (drop l.place l.entries)) ≡ position_from (λ row. may_find l.plain row && bytes_eq row.spec.driver l.text) 0 (map row_of l.entries)
