use Rattle.std.proofs.Common.{sym, subst, arith, List}
use Rattle.alg_registry.specs.declared.entry.RegEntry.{RegEntry}
use Rattle.alg_registry.specs.Made.{Made}
use Rattle.templates.specs.Table.{table}
use Rattle.templates.specs.LookResults.{NonePending}
use Rattle.registry_tests.proofs.template_instances.builds_children_first.Goals as goal

pub loop-row-init : goal.loop-row-init
loop-row-init g c = subst (λ (h : List RegEntry). Made table h × NonePending h) (sym c.new_registry-registry.ensures) (tt, λ n lt. absurd (omega (arith, lt)))
