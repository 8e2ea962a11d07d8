use Rattle.std.proofs.Common.{rules, sym, ap, ◌∙◌, ◌∷◌, ◌++◌, [], Some}
use Rattle.atomic_table.specs.Table.{rest}
use Rattle.turn_lock.specs.Rule.{boxed}
use Rattle.turn_lock.proofs.Keeps.{holding, appends}
use Rattle.turn_lock.proofs.lock.Turn.note.Goals as goal

pub load-requires : goal.load-requires
load-requires g c = let x = c.exchange.ensures.3 in let h = ap (λ m. m.1) x in let a = c.requires in (
  search rules,
  search rules,
  appends (boxed g.T.Told.told) g.T.Told.by _ _ _ c.args.self.value a.0 (ap (λ m. m.0.stage) x ∙ holding c.args.self.seat.me.0.stage c.args.self.holding.0) (h ∙ ap (λ l. (0, Some c.args.self.value) ∷ l) (sym (ap rest h)))
      (a.1 ∙ sym (ap (λ m. m.0.number) x)) (a.2 ∙ ap (λ m. m.0.seen ++ a.0 ∷ []) (sym x)),
)
