use Rattle.std.proofs.Common.{◌≡◌, ◌+◌, ◌*◌, length, Ok}
use Rattle.templates.specs.Resolution.{weight, LooksCome}
use Rattle.templates.proofs.resolution.+resolve.Given as goal

abbrev pub decreases-resolve_within : goal.decreases-resolve_within
decreases-resolve_within l = 3 * weight l.name.now + 2

abbrev pub decreases-build : goal.decreases-build
decreases-build l = 3 * weight l.name.now + 1

abbrev pub decreases-resolve_children : goal.decreases-resolve_children
decreases-resolve_children l = 3 * weight l.name.now

-- the looks for the children passed so far came to these entries
abbrev pub invariant-resolve_children-loop-child : goal.invariant-resolve_children-loop-child
invariant-resolve_children-loop-child l = LooksCome l.caller l.larval (Ok l.ids.items) l.fn.registry l.registry × (length l.ids.items ≡ l.child-index)
