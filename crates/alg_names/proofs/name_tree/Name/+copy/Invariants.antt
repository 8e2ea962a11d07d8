use Rattle.std.proofs.Common.{◌≡◌, take}
use Rattle.alg_names.specs.Built.{nodes}
use Rattle.alg_names.proofs.name_tree.Name.+copy.Given as goal

abbrev pub decreases-copy : goal.decreases-copy
decreases-copy l = nodes l.self.now

abbrev pub invariant-loop-argument : goal.invariant-loop-argument
invariant-loop-argument l = l.arguments.items ≡ take l.argument-index l.argument-items
