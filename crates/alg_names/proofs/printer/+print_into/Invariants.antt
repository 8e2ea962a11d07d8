use Rattle.std.proofs.Common.{◌≡◌, ◌++◌, drop}
use Rattle.alg_names.specs.Name.{after_first}
use Rattle.alg_names.specs.Built.{args_from, nodes}
use Rattle.alg_names.proofs.printer.+print_into.Given as goal

abbrev pub decreases-print_into : goal.decreases-print_into
decreases-print_into l = nodes l.name.now

abbrev pub invariant-loop-other : goal.invariant-loop-other
invariant-loop-other l = l.out ++ after_first (args_from (drop l.other-index l.others)) ≡ l.initial.out ++ after_first (args_from l.others)
