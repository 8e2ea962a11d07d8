use Rattle.std.proofs.Common.{◌≡◌, ◌+◌, ◌*◌, length}
use Rattle.templates.specs.Resolution.{weight}
use Rattle.turn_lock.specs.Passes.{knows}
use Rattle.shared_registry.specs.Passes.{IsPassOn}
use Rattle.shared_registry.proofs.Children.{Asks}
use Rattle.shared_registry.proofs.builds.+resolve.Given as goal

abbrev pub decreases-resolve_within : goal.decreases-resolve_within
decreases-resolve_within g l = 6 * weight l.name.now + 5

abbrev pub decreases-settle_within : goal.decreases-settle_within
decreases-settle_within g l = 6 * weight l.name.now + 4

abbrev pub decreases-settle_larval : goal.decreases-settle_larval
decreases-settle_larval g l = 6 * weight l.name.now + 3

abbrev pub decreases-build_claimed : goal.decreases-build_claimed
decreases-build_claimed g l = 6 * weight l.name.now + 2

abbrev pub decreases-build : goal.decreases-build
decreases-build g l = 6 * weight l.name.now + 1

abbrev pub decreases-resolve_children : goal.decreases-resolve_children
decreases-resolve_children g l = 6 * weight l.name.now

-- the looks for the children passed so far came to these entries
abbrev pub invariant-resolve_children-loop-child : goal.invariant-resolve_children-loop-child
invariant-resolve_children-loop-child g l = IsPassOn l.registry l.mine × Asks l.larval l.name (knows l.fn.pass) (knows l.mine) l.ids.items × (length l.ids.items ≡ l.child-index)
