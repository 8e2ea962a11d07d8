use Rattle.std.proofs.Common.{◌-◌, ◌^◌, List, drop, sym, subst, arith, length-drop}
use Rattle.std.specs.List.{All}
use Rattle.alg_registry.specs.declared.row.Row.{Row}
use Rattle.alg_registry.proofs.Tallies.{HasFewer, few-gave_all}
use Rattle.alg_registry.proofs.mark_counts.give_all.Goals as goal

pub give_references-requires-clause-few : goal.give_references-requires-clause-few
give_references-requires-clause-few c =
    subst (λ (rows : List Row). All (HasFewer (2 ^ 64 - 2)) rows) (sym c.loop-i.invariant.gave)
    (few-gave_all (2 ^ 61) (2 ^ 64 - 2) (drop c.loop-i.i c.args.held.now) c.args.rows.now (omega (arith, length-drop c.loop-i.i c.args.held.now)) c.requires.few)
