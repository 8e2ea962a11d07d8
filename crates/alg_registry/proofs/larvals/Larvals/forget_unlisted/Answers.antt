use Rattle.std.proofs.Common.{length, ap, arith}
use Rattle.alg_registry.specs.Larvals.{is_seen, passes_at}
use Rattle.alg_registry.proofs.Seen.{length-filter}
use Rattle.alg_registry.proofs.larvals.Larvals.forget_unlisted.Goals as goal

pub invariant_of-self : goal.invariant_of-self
invariant_of-self c = record {
  unclaimed_are = c.self.invariant.unclaimed_are;
  fits = c.self.invariant.fits;
  unclaimed_fits = c.self.invariant.unclaimed_fits;
  seen_fits = omega (arith, c.self.invariant.seen_fits, ap length c.keep_seen.ensures.items, length-filter (passes_at (is_seen c.args.rows.now) c.deref.result.now) c.self.inside.seen.items, c.keep_seen.ensures.capacity);
}
