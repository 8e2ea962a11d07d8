use Rattle.std.proofs.Common.{◌<◌, ◌^◌, length, List, [], false, sym, subst, arith}
use Rattle.std.specs.List.{All}
use Rattle.alg_registry.specs.declared.row.Row.{Row}
use Rattle.alg_registry.specs.declared.entry.RegEntry.{RegEntry}
use Rattle.alg_registry.specs.declared.spec.Kind.TheVariants.{Cipher}
use Rattle.alg_registry.specs.declared.spec.Wrap.TheVariants.{Plain}
use Rattle.alg_registry.specs.Legal.{HasReference}
use Rattle.alg_registry.proofs.Balance.{owed-put}
use Rattle.alg_registry.proofs.Fresh.{IsUnder, few-rows_of}
use Rattle.alg_registry.proofs.Keeping.{kept-put, put-within, put-taken}
use Rattle.alg_registry.proofs.Restanding.{standing-rows_of}
use Rattle.alg_registry.proofs.Changing.{a_row}
use Rattle.alg_registry.proofs.Sight.{seen-put}
use Rattle.alg_registry.proofs.registry.Registry.put_ref.Goals as goal

pub settle-requires-clause-owed : goal.settle-requires-clause-owed
settle-requires-clause-owed c =
    let has : HasReference c.self.inside.log c.args.caller c.args.id = subst (λ (h : List RegEntry). HasReference h c.args.caller c.args.id) (sym c.self.view_is) c.requires.has in
    owed-put c.self.inside.log c.args.caller c.args.id c.self.invariant.kept.legal has

pub put-requires-clause-within : goal.put-requires-clause-within
put-requires-clause-within c =
    let has : HasReference c.self.inside.log c.args.caller c.args.id = subst (λ (h : List RegEntry). HasReference h c.args.caller c.args.id) (sym c.self.view_is) c.requires.has in
    let lt : c.args.id < length c.self.inside.rows.list = put-within c.self.inside.log c.self.inside.rows.list c.args.caller c.args.id c.self.invariant.kept.legal c.self.invariant.kept.rows_are has in
    omega arith

pub put-requires-clause-few : goal.put-requires-clause-few
put-requires-clause-few c = subst (λ (rows : List Row). All (IsUnder (2 ^ 61)) rows) (sym c.self.invariant.kept.rows_are) (few-rows_of (2 ^ 61) c.self.inside.log (omega (arith, c.settle.ensures.short)))

pub put-requires-clause-taken : goal.put-requires-clause-taken
put-requires-clause-taken c =
    let has : HasReference c.self.inside.log c.args.caller c.args.id = subst (λ (h : List RegEntry). HasReference h c.args.caller c.args.id) (sym c.self.view_is) c.requires.has in
    λ d. put-taken c.self.inside.log c.self.inside.rows.list c.args.caller c.args.id d c.self.invariant.kept.legal c.self.invariant.kept.rows_are has

pub invariant_of-self : goal.invariant_of-self
invariant_of-self c = record {
  kept =
      let none : Row = record { spec = record { name = []; driver = []; kind = Cipher; wrap = Plain; priority = 0; below = [] }; unlisted = false; taken = 0; listed = false; references = 0 } in
      let has : HasReference c.self.inside.log c.args.caller c.args.id = subst (λ (h : List RegEntry). HasReference h c.args.caller c.args.id) (sym c.self.view_is) c.requires.has in
      kept-put c.self.inside.log _ c.self.inside.rows.list _ _ c.args.caller c.args.id none c.self.invariant.kept c.requires.outsider has
      c.settle.ensures.appended (c.put.ensures.list none);
  seen_are =
      let has : HasReference c.self.inside.log c.args.caller c.args.id = subst (λ (h : List RegEntry). HasReference h c.args.caller c.args.id) (sym c.self.view_is) c.requires.has in
      seen-put c.self.inside.rows.list _ c.self.inside.larvals.list c.self.inside.larvals.seen c.args.id a_row
      (standing-rows_of c.self.inside.log c.self.inside.rows.list c.self.invariant.kept.rows_are)
      (put-within c.self.inside.log c.self.inside.rows.list c.args.caller c.args.id c.self.invariant.kept.legal c.self.invariant.kept.rows_are has) (c.put.ensures.list a_row) c.self.invariant.seen_are;
}

pub returns-clause-legal : goal.returns-clause-legal
returns-clause-legal c = (invariant_of-self c).kept.legal
