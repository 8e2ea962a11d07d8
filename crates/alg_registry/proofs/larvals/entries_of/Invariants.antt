use Rattle.std.proofs.Common.{◌≡◌, take}
use Rattle.std.specs.List.{filter_map}
use Rattle.alg_registry.specs.Larvals.{joined_at}
use Rattle.alg_registry.proofs.larvals.entries_of.Given as goal

-- the entries of the larvals so far
abbrev pub invariant-loop-number : goal.invariant-loop-number
invariant-loop-number l = l.ids.items ≡ filter_map (joined_at l.text l.all) (take l.number-index l.seen)
