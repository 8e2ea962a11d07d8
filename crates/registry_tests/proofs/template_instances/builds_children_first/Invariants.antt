use Rattle.alg_registry.specs.Made.{Made}
use Rattle.templates.specs.Table.{table}
use Rattle.templates.specs.LookResults.{NonePending}
use Rattle.registry_tests.proofs.template_instances.builds_children_first.Given as goal

-- between builds the history is one of faithful builds, and no larval is pending
abbrev pub invariant-loop-row : goal.invariant-loop-row
invariant-loop-row g l = Made table l.registry × NonePending l.registry
