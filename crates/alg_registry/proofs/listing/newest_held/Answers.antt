use Rattle.std.proofs.Common.{◌∙◌}
use Rattle.alg_registry.specs.Held.{refs_among}
use Rattle.alg_registry.proofs.Scanning.{refs-held}
use Rattle.alg_registry.proofs.listing.newest_held.Goals as goal

pub returns : goal.returns
returns c = c.newest_among.ensures ∙ ((λ i. refs_among c.args.driver.now (c.all.ensures.all i) (c.held.ensures i)) ∙ refs-held c.args.driver.now c.args.rows.now.list)
