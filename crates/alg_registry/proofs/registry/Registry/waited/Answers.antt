use Rattle.std.proofs.Common.{sym, ◌∙◌}
use Rattle.alg_registry.proofs.Registering.{kept-waited}
use Rattle.alg_registry.proofs.registry.Registry.waited.Goals as goal

pub invariant_of-self-in-Some : goal.invariant_of-self-in-Some
invariant_of-self-in-Some c = record {
  kept =
      kept-waited _ _ _ _ c.args.caller c.args.larval c.in-Some.ended c.self.invariant.kept (sym c.ended.ensures ∙ c.in-Some.is) (c.in_ok-record-in-Some.ensures.ok);
  seen_are = c.self.invariant.seen_are;
}

pub returns-in_ok-record-in-Some-clause-legal : goal.returns-in_ok-record-in-Some-clause-legal
returns-in_ok-record-in-Some-clause-legal c = (invariant_of-self-in-Some c).kept.legal
