use Rattle.std.proofs.Common.{◌≡◌, ◌<◌, false, Some, not, eqb, length, ap, ◌∙◌, sym, arith}
use Rattle.alg_registry.specs.Calls.{is_unclaimed}
use Rattle.alg_registry.specs.Larvals.{LarvalTable, passes_at}
use Rattle.alg_registry.proofs.Seen.{length-set, length-filter, numbers-same, passes-there}
use Rattle.alg_registry.proofs.larvals.Larvals.end.Goals as goal

pub invariant_of-self : goal.invariant_of-self
invariant_of-self c = record {
  unclaimed_are =
      let larval = c.index_mut-larval.result.now in
      let within : c.args.number < length c.self.inside.all.items = omega (arith, c.requires.within, ap (λ (t : LarvalTable). length t.list) c.self.view_is) in
      let before : passes_at is_unclaimed c.self.inside.all.items c.args.number ≡ false = ap (λ (t : LarvalTable). passes_at is_unclaimed t.list c.args.number) c.self.view_is ∙ c.requires.claimed in
      c.self.invariant.unclaimed_are
      ∙ sym (numbers-same is_unclaimed 0 c.self.inside.all.items c.args.number (record larval { ended = Some c.args.ended }) larval
      (sym before ∙ passes-there is_unclaimed c.self.inside.all.items c.args.number larval within));
  fits = omega (arith, c.self.invariant.fits, length-set c.self.inside.all.items c.args.number (record c.index_mut-larval.result.now { ended = Some c.args.ended }));
  seen_fits = omega (arith, c.self.invariant.seen_fits, ap length c.forget.ensures.items, length-filter (λ m. not (eqb m c.args.number)) c.self.inside.seen.items, c.forget.ensures.capacity);
  unclaimed_fits = c.self.invariant.unclaimed_fits;
}

pub invariant_of-self-else-not-ends_with : goal.invariant_of-self-else-not-ends_with
invariant_of-self-else-not-ends_with c = record {
  unclaimed_are =
      let larval = c.index_mut-larval.result.now in
      let within : c.args.number < length c.self.inside.all.items = omega (arith, c.requires.within, ap (λ (t : LarvalTable). length t.list) c.self.view_is) in
      let before : passes_at is_unclaimed c.self.inside.all.items c.args.number ≡ false = ap (λ (t : LarvalTable). passes_at is_unclaimed t.list c.args.number) c.self.view_is ∙ c.requires.claimed in
      c.self.invariant.unclaimed_are
      ∙ sym (numbers-same is_unclaimed 0 c.self.inside.all.items c.args.number (record larval { ended = Some c.args.ended }) larval
      (sym before ∙ passes-there is_unclaimed c.self.inside.all.items c.args.number larval within));
  fits = omega (arith, c.self.invariant.fits, length-set c.self.inside.all.items c.args.number (record c.index_mut-larval.result.now { ended = Some c.args.ended }));
  seen_fits = c.self.invariant.seen_fits;
  unclaimed_fits = c.self.invariant.unclaimed_fits;
}
