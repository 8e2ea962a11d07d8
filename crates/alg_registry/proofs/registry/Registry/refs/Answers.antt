use Rattle.alg_registry.proofs.Registering.{kept-refs}
use Rattle.alg_registry.proofs.registry.Registry.refs.Goals as goal

pub invariant_of-self-2 : goal.invariant_of-self-2
invariant_of-self-2 c = record {
  kept =
      kept-refs _ _ _ _ c.args.caller c.args.driver.now c.self.invariant.kept c.requires (cc (c.in_ok-record.ensures.ok, c.in_ok-text.ensures));
  seen_are = c.self.invariant.seen_are;
}

pub returns-clause-legal : goal.returns-clause-legal
returns-clause-legal c = (invariant_of-self-2 c).kept.legal
