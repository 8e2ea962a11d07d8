use Rattle.shared_registry.proofs.Keeping.{claim_entry}
use Rattle.alg_registry.specs.Calls.{claimed_number}
use Rattle.alg_registry.specs.Rows.{larvals_of}
use Rattle.shared_registry.proofs.faithful_registry.FaithfulRegistry.claim.Goals as goal

pub invariant_of-self : goal.invariant_of-self
invariant_of-self c =
    claim_entry c.self.inside.registry c.claim.new.self c.claim.ensures.legal c.self.invariant c.claim.result c.args.caller (claimed_number (larvals_of c.self.inside.registry) c.args.larval) c.claim.ensures.history c.claim.ensures.unchanged

pub returns-clause-faithful : goal.returns-clause-faithful
returns-clause-faithful c =
    claim_entry c.self.inside.registry c.claim.new.self c.claim.ensures.legal c.self.invariant c.claim.result c.args.caller (claimed_number (larvals_of c.self.inside.registry) c.args.larval) c.claim.ensures.history c.claim.ensures.unchanged
