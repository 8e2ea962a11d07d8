use Rattle.std.proofs.Common.{◌^◌, List, [], false, sym, subst, arith, ap, ◌∙◌}
use Rattle.std.specs.List.{All}
use Rattle.alg_registry.specs.declared.row.Row.{Row}
use Rattle.alg_registry.specs.declared.spec.Kind.TheVariants.{Cipher}
use Rattle.alg_registry.specs.declared.spec.Wrap.TheVariants.{Plain}
use Rattle.alg_registry.proofs.Fresh.{IsUnder, few-rows_of}
use Rattle.alg_registry.proofs.Keeping.{kept-unlist, kept-no_unlist}
use Rattle.alg_registry.proofs.Registering.{driver_listed-at}
use Rattle.std.specs.List.{filter}
use Rattle.alg_registry.specs.declared.row.Larval.{Larval}
use Rattle.alg_registry.specs.Kept.{IsKept}
use Rattle.alg_registry.specs.Larvals.{is_seen, seen_from, passes_at}
use Rattle.alg_registry.proofs.Restanding.{standing-rows_of}
use Rattle.alg_registry.proofs.Changing.{a_row}
use Rattle.alg_registry.proofs.Sight.{seen-unlisted}
use Rattle.alg_registry.proofs.registry.Registry.unlist.Goals as goal

pub unlist-requires-clause-listed : goal.unlist-requires-clause-listed
unlist-requires-clause-listed c = driver_listed-at c.self.inside.rows.list c.args.driver.now c.in-Some.id (cc)

pub unlist-requires-clause-few : goal.unlist-requires-clause-few
unlist-requires-clause-few c = subst (λ (rows : List Row). All (IsUnder (2 ^ 61)) rows) (sym c.self.invariant.kept.rows_are) (few-rows_of (2 ^ 61) c.self.inside.log (omega (arith, c.in_ok-record-in-Some.ensures.short)))

pub invariant_of-self-in-Some : goal.invariant_of-self-in-Some
invariant_of-self-in-Some c = record {
  kept =
      let none : Row = record { spec = record { name = []; driver = []; kind = Cipher; wrap = Plain; priority = 0; below = [] }; unlisted = false; taken = 0; listed = false; references = 0 } in
      subst (λ (ls : List Larval). IsKept c.record.new.self c.unlist.new.self.list ls) (sym c.forget_unlisted.ensures.list)
      (kept-unlist _ _ _ _ _ c.args.caller c.in-Some.id c.args.driver.now none c.self.invariant.kept c.requires (cc)
      (cc (c.in_ok-record-in-Some.ensures.ok, c.in_ok-text.ensures)) (c.unlist.ensures.list none));
  seen_are = seen-unlisted c.self.inside.rows.list c.unlist.new.self.list c.self.inside.larvals.list c.self.inside.larvals.seen _ c.in-Some.id a_row
      (standing-rows_of c.self.inside.log c.self.inside.rows.list c.self.invariant.kept.rows_are) (driver_listed-at c.self.inside.rows.list c.args.driver.now c.in-Some.id (cc)) (c.unlist.ensures.list a_row) c.self.invariant.seen_are
      (c.forget_unlisted.ensures.seen ∙ ap (λ (rs : List Row). filter (passes_at (is_seen rs) c.self.inside.larvals.list) c.self.inside.larvals.seen) c.all.ensures.all)
      ∙ ap (λ (ls : List Larval). seen_from c.unlist.new.self.list 0 ls) (sym c.forget_unlisted.ensures.list);
}

pub invariant_of-self-in-None : goal.invariant_of-self-in-None
invariant_of-self-in-None c = record {
  kept =
      kept-no_unlist _ _ _ _ c.args.caller c.args.driver.now c.self.invariant.kept c.requires (cc)
      (cc (c.in_ok-record-in-None.ensures.ok, c.in_ok-text.ensures));
  seen_are = c.self.invariant.seen_are;
}

pub returns-in_ok-record-in-Some-clause-legal : goal.returns-in_ok-record-in-Some-clause-legal
returns-in_ok-record-in-Some-clause-legal c = (invariant_of-self-in-Some c).kept.legal

pub returns-in_ok-record-in-None-clause-legal : goal.returns-in_ok-record-in-None-clause-legal
returns-in_ok-record-in-None-clause-legal c = (invariant_of-self-in-None c).kept.legal
