use Rattle.std.proofs.Common.{◌≡◌, take}
use Rattle.std.specs.List.{filter_map}
use Rattle.alg_registry.specs.Rows.{registered}
use Rattle.alg_registry.specs.Made.{with_spec}
use Rattle.templates.proofs.resolution.origins.Given as goal

abbrev pub invariant-loop-id : goal.invariant-loop-id
invariant-loop-id l = l.below.items ≡ filter_map (with_spec (registered l.registry)) (take l.id-index l.ids)
