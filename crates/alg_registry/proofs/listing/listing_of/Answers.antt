use Rattle.std.proofs.Common.{◌∙◌}
use Rattle.std.specs.List.{filter_map}
use Rattle.alg_registry.specs.Calls.{shown}
use Rattle.alg_registry.specs.Held.{made_at}
use Rattle.alg_registry.proofs.Scanning.{shown-listed}
use Rattle.alg_registry.proofs.listing.listing_of.Goals as goal

pub returns : goal.returns
returns c = c.in_ok-found.ensures ∙ ((λ i. filter_map (made_at shown (c.all.ensures.all i)) (c.listed.ensures i)) ∙ shown-listed c.args.rows.now.list)
