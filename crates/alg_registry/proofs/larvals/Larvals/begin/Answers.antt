use Rattle.std.proofs.Common.{◌≡◌, None, length, List, ◌++◌, ◌∷◌, [], ap, sym, ◌∙◌, refl, arith}
use Rattle.alg_registry.specs.declared.row.Larval.{Larval}
use Rattle.alg_registry.specs.Calls.{is_unclaimed}
use Rattle.alg_registry.specs.Larvals.{LarvalTable, numbers_of}
use Rattle.alg_registry.proofs.Seen.{numbers-begun}
use Rattle.alg_registry.proofs.larvals.Larvals.begin.Goals as goal

pub invariant_of-self : goal.invariant_of-self
invariant_of-self c =
    let len : c.len-number.result ≡ length c.self.inside.all.items = omega (arith, c.len-number.ensures) in
    let spare : c.self.inside.spare ≡ c.args.self.now.spare = ap (λ (t : LarvalTable). t.spare) c.self.view_is in
    record {
      unclaimed_are =
          c.push_reserved-2.ensures.items
          ∙ ((λ i. c.self.invariant.unclaimed_are i ++ len i ∷ [])
          ∙ sym (ap (λ (ls : List Larval). numbers_of is_unclaimed 0 ls) c.push_reserved-3.ensures.items ∙ numbers-begun is_unclaimed 0 c.self.inside.all.items (record { text = c.args.text; claimed = None; ended = None }) (length c.self.inside.all.items) refl (omega arith)));
      fits = omega (arith, c.self.invariant.fits, c.requires, spare, c.push_reserved-3.ensures.len, c.push_reserved-3.ensures.capacity);
      seen_fits = omega (arith, c.self.invariant.seen_fits, c.requires, spare, c.push_reserved.ensures.len, c.push_reserved.ensures.capacity);
      unclaimed_fits = omega (arith, c.self.invariant.unclaimed_fits, c.requires, spare, c.push_reserved-2.ensures.len, c.push_reserved-2.ensures.capacity);
    }
