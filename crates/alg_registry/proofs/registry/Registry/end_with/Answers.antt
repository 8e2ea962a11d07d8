use Rattle.std.proofs.Common.{◌≡◌, true, Some, [], List, None, sym, subst}
use Rattle.alg_registry.specs.declared.row.Larval.{Larval}
use Rattle.alg_registry.specs.declared.entry.RegEntry.{RegEntry}
use Rattle.alg_registry.specs.Legal.{MayEnd}
use Rattle.alg_registry.proofs.Registering.{kept-end, to_end}
use Rattle.alg_registry.specs.declared.entry.Ended.{Ended}
use Rattle.alg_registry.specs.Larvals.{ends_with_entry, is_seen_end}
use Rattle.alg_registry.proofs.Sight.{seen-end, may-listed}
use Rattle.alg_registry.proofs.registry.Registry.end_with.Goals as goal

pub settle-requires-clause-owed : goal.settle-requires-clause-owed
settle-requires-clause-owed c = (to_end _ _ _ _ c.args.caller c.args.larval c.self.invariant.kept c.self.view_is c.requires.claimed c.requires.unended).room

pub end-requires-clause-claimed : goal.end-requires-clause-claimed
end-requires-clause-claimed c = (to_end _ _ _ _ c.args.caller c.args.larval c.self.invariant.kept c.self.view_is c.requires.claimed c.requires.unended).taken

pub end-requires-clause-within : goal.end-requires-clause-within
end-requires-clause-within c = (to_end _ _ _ _ c.args.caller c.args.larval c.self.invariant.kept c.self.view_is c.requires.claimed c.requires.unended).within

pub invariant_of-self : goal.invariant_of-self
invariant_of-self c = record {
  kept =
      let none : Larval = record { text = []; claimed = None; ended = None } in
      let it = to_end _ _ _ _ c.args.caller c.args.larval c.self.invariant.kept c.self.view_is c.requires.claimed c.requires.unended in
      let may : MayEnd c.self.inside.log c.args.answer = subst (λ (h : List RegEntry). MayEnd h c.args.answer) (sym c.self.view_is) c.requires.may in
      let change = c.end.ensures.list none in
      kept-end c.self.inside.log _ _ _ _ c.args.caller c.args.larval c.args.answer none c.self.invariant.kept it.claimed it.unended may c.requires.none
      c.settle.ensures.appended (rw (sym c.requires.same) change);
  seen_are =
      let it = to_end _ _ _ _ c.args.caller c.args.larval c.self.invariant.kept c.self.view_is c.requires.claimed c.requires.unended in
      let may : MayEnd c.self.inside.log c.args.answer = subst (λ (h : List RegEntry). MayEnd h c.args.answer) (sym c.self.view_is) c.requires.may in
      let none : Larval = record { text = []; claimed = None; ended = None } in
      seen-end c.self.inside.rows.list c.self.inside.larvals.list _ c.self.inside.larvals.seen _ c.args.larval c.args.ended none it.within it.pending
      (subst (λ (e : Ended). ends_with_entry e ≡ true → is_seen_end c.self.inside.rows.list (Some e) ≡ true) (sym c.requires.same) (may-listed c.self.inside.log c.self.inside.rows.list c.args.caller c.args.larval c.args.answer c.self.invariant.kept.rows_are may c.requires.none))
      (c.end.ensures.list none) c.end.ensures.seen c.self.invariant.seen_are;
}

pub returns-clause-legal : goal.returns-clause-legal
returns-clause-legal c = (invariant_of-self c).kept.legal
