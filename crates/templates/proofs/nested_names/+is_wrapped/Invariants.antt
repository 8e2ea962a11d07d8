use Rattle.std.proofs.Common.{◌≡◌, take, false}
use Rattle.alg_names.specs.Built.{nodes, args_from}
use Rattle.templates.specs.Nesting.{any_wrapper}
use Rattle.templates.proofs.nested_names.+is_wrapped.Given as goal

abbrev pub decreases-is_wrapped : goal.decreases-is_wrapped
decreases-is_wrapped l = nodes l.name.now

-- the arguments passed so far have none
abbrev pub invariant-loop-argument : goal.invariant-loop-argument
invariant-loop-argument l = any_wrapper (args_from (take l.argument-index l.argument-items)) ≡ false
