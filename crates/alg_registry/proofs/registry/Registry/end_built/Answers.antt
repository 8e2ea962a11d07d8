use Rattle.std.proofs.Common.{◌≡◌, ◌^◌, length, List, [], None, sym, ◌∙◌, subst, arith, ap, true}
use Rattle.std.specs.List.{All, list_all}
use Rattle.alg_registry.specs.declared.row.Row.{Row}
use Rattle.alg_registry.specs.declared.row.Larval.{Larval}
use Rattle.alg_registry.specs.declared.entry.RegEntry.{RegEntry}
use Rattle.alg_registry.specs.declared.entry.EndAnswer.TheVariants.{Built}
use Rattle.alg_registry.specs.Rows.{listed_at, rows_of}
use Rattle.alg_registry.specs.Answers.{built_answer}
use Rattle.alg_registry.proofs.Fresh.{IsUnder, few-rows_of}
use Rattle.alg_registry.proofs.Registering.{kept-built, to_end}
use Rattle.alg_registry.proofs.Restanding.{standing-rows_of}
use Rattle.alg_registry.proofs.Sight.{seen-built, built-listed}
use Rattle.alg_registry.proofs.registry.Registry.end_built.Goals as goal

pub settle-requires-clause-owed : goal.settle-requires-clause-owed
settle-requires-clause-owed c = (to_end _ _ _ _ c.args.caller c.args.larval c.self.invariant.kept c.self.view_is c.requires.claimed c.requires.unended).room

pub end-requires-clause-claimed : goal.end-requires-clause-claimed
end-requires-clause-claimed c = (to_end _ _ _ _ c.args.caller c.args.larval c.self.invariant.kept c.self.view_is c.requires.claimed c.requires.unended).taken

pub end-requires-clause-within : goal.end-requires-clause-within
end-requires-clause-within c = (to_end _ _ _ _ c.args.caller c.args.larval c.self.invariant.kept c.self.view_is c.requires.claimed c.requires.unended).within

pub add-requires-clause-few : goal.add-requires-clause-few
add-requires-clause-few c = subst (λ (rows : List Row). All (IsUnder (2 ^ 61)) rows) (sym c.self.invariant.kept.rows_are ∙ sym c.reserve.ensures.list) (few-rows_of (2 ^ 61) c.self.inside.log (omega (arith, c.settle.ensures.short)))

pub invariant_of-self-2 : goal.invariant_of-self-2
invariant_of-self-2 c = record {
  kept =
      let none : Larval = record { text = []; claimed = None; ended = None } in
      let it = to_end _ _ _ _ c.args.caller c.args.larval c.self.invariant.kept c.self.view_is c.requires.claimed c.requires.unended in
      let builds : built_answer (rows_of c.self.inside.log) c.args.spec ≡ Built (length (rows_of c.self.inside.log)) c.args.spec = subst (λ (h : List RegEntry). built_answer (rows_of h) c.args.spec ≡ Built (length (rows_of h)) c.args.spec) (sym c.self.view_is) c.requires.builds in
      let id : c.count-id.result ≡ length c.self.inside.rows.list = omega (arith, c.count-id.ensures) in
      kept-built c.self.inside.log _ c.self.inside.rows.list _ _ _ c.args.caller c.args.larval c.count-id.result c.args.spec none c.self.invariant.kept it.claimed it.unended builds id
      c.settle.ensures.appended (cc (c.add.ensures.list, c.reserve.ensures.list, c.in-Ok.ensures)) (c.end.ensures.list none);
  seen_are =
      let it = to_end _ _ _ _ c.args.caller c.args.larval c.self.invariant.kept c.self.view_is c.requires.claimed c.requires.unended in
      let none : Larval = record { text = []; claimed = None; ended = None } in
      let builds : built_answer (rows_of c.self.inside.log) c.args.spec ≡ Built (length (rows_of c.self.inside.log)) c.args.spec = subst (λ (h : List RegEntry). built_answer (rows_of h) c.args.spec ≡ Built (length (rows_of h)) c.args.spec) (sym c.self.view_is) c.requires.builds in
      let listed : list_all (listed_at c.self.inside.rows.list) c.args.spec.below ≡ true =
      ap (λ (rs : List Row). list_all (listed_at rs) c.args.spec.below) c.self.invariant.kept.rows_are ∙ built-listed (rows_of c.self.inside.log) c.args.spec (length (rows_of c.self.inside.log)) builds in
      seen-built c.self.inside.log c.self.inside.rows.list _ c.self.inside.larvals.list _ c.self.inside.larvals.seen _ c.args.larval c.count-id.result c.args.spec none c.self.invariant.kept
      (standing-rows_of c.self.inside.log c.self.inside.rows.list c.self.invariant.kept.rows_are) listed (cc (c.add.ensures.list, c.reserve.ensures.list, c.in-Ok.ensures)) c.count-id.ensures it.within it.pending
      (c.end.ensures.list none) c.end.ensures.seen c.self.invariant.seen_are;
}

pub returns-clause-legal : goal.returns-clause-legal
returns-clause-legal c = (invariant_of-self-2 c).kept.legal
