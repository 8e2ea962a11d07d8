use Rattle.std.proofs.Common.{◌≡◌, ◌∙◌, ℕ, ◌-◌, ◌^◌, List, [], ◌∷◌, eqb, take, get_or, sym, ap, subst, arith}
use Rattle.std.specs.List.{All, list_any}
use Rattle.alg_registry.specs.declared.row.Row.{Row}
use Rattle.alg_registry.specs.MarkCounts.{referred}
use Rattle.alg_registry.proofs.Tallies.{HasFewer, referred-none, referred-again, referred-new, few-referred}
use Rattle.alg_registry.proofs.mark_counts.add_references.Goals as goal
use Rattle.alg_registry.proofs.mark_counts.add_references.Goals.{then-not-is_among, else-not-is_among}

pub loop-i-init : goal.loop-i-init
loop-i-init c = sym (referred-none 0 c.args.older.now)

pub add_reference-requires : goal.add_reference-requires
add_reference-requires c =
    subst (λ (rows : List Row). All (HasFewer (2 ^ 64 - 1)) rows) (sym c.loop-i.invariant) (few-referred (2 ^ 64 - 2) (2 ^ 64 - 1) (take c.loop-i.i c.args.below.now) c.args.older.now (omega arith) c.requires)

pub loop-i-preserved : goal.loop-i-preserved
loop-i-preserved c =
    let among : c.is_among.result ≡ list_any (λ other. eqb other (get_or c.args.below.now c.loop-i.i 0)) (take c.loop-i.i c.args.below.now) =
    c.is_among.ensures ∙ ap (λ (ids : List ℕ). list_any (λ other. eqb other (get_or c.args.below.now c.loop-i.i 0)) ids) c.split_at.ensures.front in
    elim c.if-not-is_among.branch [
      | then-not-is_among w ↦
          w.older-is
          ∙ (w.add_reference.ensures
          ∙ (ap (λ (rows : List Row). referred 0 (get_or c.args.below.now c.loop-i.i 0 ∷ []) rows) c.loop-i.invariant
          ∙ referred-new c.args.below.now c.loop-i.i 0 c.args.older.now (omega arith) (sym among ∙ w.if-not-is_among.true)))
      | else-not-is_among w ↦
          w.older-is
          ∙ (c.loop-i.invariant ∙ referred-again c.args.below.now c.loop-i.i 0 c.args.older.now (omega arith) (sym among ∙ w.if-not-is_among.false))
    ]
