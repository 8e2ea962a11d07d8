use Rattle.std.proofs.Common.{◌≡◌, ◌&&◌, map, drop}
use Rattle.std.specs.List.{position_from}
use Rattle.std.specs.Str.{bytes_eq}
use Rattle.alg_registry.specs.Answers.{driver_place}
use Rattle.trace_check.specs.Registers.{row_of}
use Rattle.trace_check.proofs.register.driver_place.Given as goal

abbrev pub invariant-loop-place : goal.invariant-loop-place
invariant-loop-place l = position_from (λ row. row.listed && bytes_eq row.spec.driver l.driver) l.place (map row_of (drop l.place l.entries)) ≡ driver_place (map row_of l.entries) l.driver
