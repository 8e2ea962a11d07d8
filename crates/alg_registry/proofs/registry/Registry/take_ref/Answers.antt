use Rattle.std.proofs.Common.{◌^◌, List, [], false, sym, subst, arith}
use Rattle.std.specs.List.{All}
use Rattle.alg_registry.specs.declared.row.Row.{Row}
use Rattle.alg_registry.specs.declared.spec.Kind.TheVariants.{Cipher}
use Rattle.alg_registry.specs.declared.spec.Wrap.TheVariants.{Plain}
use Rattle.alg_registry.proofs.Fresh.{IsUnder, few-rows_of, is_listed-within}
use Rattle.alg_registry.proofs.Keeping.{kept-get, kept-no_get}
use Rattle.alg_registry.proofs.Restanding.{standing-rows_of}
use Rattle.alg_registry.proofs.Changing.{a_row}
use Rattle.alg_registry.proofs.Sight.{seen-taken}
use Rattle.alg_registry.proofs.registry.Registry.take_ref.Goals as goal

pub take-requires-clause-few : goal.take-requires-clause-few
take-requires-clause-few c = subst (λ (rows : List Row). All (IsUnder (2 ^ 61)) rows) (sym c.self.invariant.kept.rows_are) (few-rows_of (2 ^ 61) c.self.inside.log (omega (arith, c.in_ok-record.ensures.short)))

pub invariant_of-self-then-is_listed_at : goal.invariant_of-self-then-is_listed_at
invariant_of-self-then-is_listed_at c = record {
  kept =
      let none : Row = record { spec = record { name = []; driver = []; kind = Cipher; wrap = Plain; priority = 0; below = [] }; unlisted = false; taken = 0; listed = false; references = 0 } in
      kept-get _ _ _ _ _ c.args.caller c.args.id none c.self.invariant.kept c.requires (cc)
      (cc (c.in_ok-record.ensures.ok)) (c.take.ensures.list none);
  seen_are = seen-taken c.self.inside.rows.list _ c.self.inside.larvals.list c.self.inside.larvals.seen c.args.id a_row
      (standing-rows_of c.self.inside.log c.self.inside.rows.list c.self.invariant.kept.rows_are) (is_listed-within c.self.inside.rows.list c.args.id (cc)) (c.take.ensures.list a_row) c.self.invariant.seen_are;
}

pub invariant_of-self-else-is_listed_at : goal.invariant_of-self-else-is_listed_at
invariant_of-self-else-is_listed_at c = record {
  kept =
      kept-no_get _ _ _ _ c.args.caller c.args.id c.self.invariant.kept c.requires (cc)
      (cc (c.in_ok-record-2.ensures.ok));
  seen_are = c.self.invariant.seen_are;
}

pub returns-in_ok-record-clause-legal : goal.returns-in_ok-record-clause-legal
returns-in_ok-record-clause-legal c = (invariant_of-self-then-is_listed_at c).kept.legal

pub returns-in_ok-record-2-clause-legal : goal.returns-in_ok-record-2-clause-legal
returns-in_ok-record-2-clause-legal c = (invariant_of-self-else-is_listed_at c).kept.legal
