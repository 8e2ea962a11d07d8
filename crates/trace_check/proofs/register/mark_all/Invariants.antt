use Rattle.std.proofs.Common.{◌≡◌, [], map, take, drop}
use Rattle.alg_registry.specs.Rows.{marked}
use Rattle.trace_check.specs.Registers.{row_of}
use Rattle.trace_check.proofs.register.mark_all.Given as goal

-- the entries before the place have their marks, and the rest will
abbrev pub invariant-loop-place : goal.invariant-loop-place
invariant-loop-place l = marked (map row_of (take l.place l.entries)) (map row_of (drop l.place l.entries)) ≡ marked [] (map row_of l.fn.entries)
