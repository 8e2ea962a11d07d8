use Rattle.std.proofs.Common.{◌≡◌, take}
use Rattle.std.specs.List.{filter_map}
use Rattle.alg_registry.specs.Calls.{shown}
use Rattle.alg_registry.specs.Held.{made_at}
use Rattle.alg_registry.proofs.listing.shown_among.Given as goal

abbrev pub invariant-loop-id : goal.invariant-loop-id
invariant-loop-id l = l.found.items ≡ filter_map (made_at shown l.all) (take l.id-index l.listed)
