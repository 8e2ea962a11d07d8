use Rattle.std.proofs.Common.{◌≡◌, take}
use Rattle.std.specs.List.{filter_map}
use Rattle.alg_registry.specs.Rows.{registered}
use Rattle.alg_registry.specs.Made.{with_spec}
use Rattle.turn_lock.specs.Passes.{knows}
use Rattle.shared_registry.specs.Passes.{IsPassOn}
use Rattle.shared_registry.specs.Within.{Idles}
use Rattle.shared_registry.proofs.builds.origins.Given as goal

abbrev pub invariant-loop-id : goal.invariant-loop-id
invariant-loop-id g l = IsPassOn l.registry l.mine × Idles (knows l.fn.pass) (knows l.mine) × (l.below.items ≡ filter_map (with_spec (registered (knows l.mine).seen)) (take l.id-index l.ids))
