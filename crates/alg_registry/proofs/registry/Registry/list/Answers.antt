use Rattle.alg_registry.proofs.Registering.{kept-list}
use Rattle.alg_registry.proofs.registry.Registry.list.Goals as goal

pub invariant_of-self-2 : goal.invariant_of-self-2
invariant_of-self-2 c = record {
  kept = kept-list _ _ _ _ c.args.caller c.self.invariant.kept c.requires (c.in_ok-record.ensures.ok);
  seen_are = c.self.invariant.seen_are;
}

pub returns-clause-legal : goal.returns-clause-legal
returns-clause-legal c = (invariant_of-self-2 c).kept.legal
