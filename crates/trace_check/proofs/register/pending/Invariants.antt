use Rattle.std.proofs.Common.{◌≡◌, map, drop}
use Rattle.std.specs.List.{position_from}
use Rattle.alg_registry.specs.Answers.{is_pending}
use Rattle.trace_check.specs.Registers.{larval_of}
use Rattle.trace_check.proofs.register.pending.Given as goal

abbrev pub invariant-loop-place : goal.invariant-loop-place
invariant-loop-place l = position_from (is_pending l.text) l.place (map larval_of (drop l.place l.larvals)) ≡ position_from (is_pending l.text) 0 (map larval_of l.larvals)
