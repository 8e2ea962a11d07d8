use Rattle.std.proofs.Common.{◌<◌, ◌^◌, ℕ, List, length, set, get_or, sym, ap, subst, ◌∙◌, arith}
use Rattle.std.proofs.lemmas.List.{length-set}
use Rattle.std.specs.List.{All}
use Rattle.alg_registry.specs.declared.row.Row.{Row}
use Rattle.alg_registry.specs.Calls.{unlisted_row}
use Rattle.alg_registry.specs.MarkCounts.{remarked_all, restood}
use Rattle.alg_registry.specs.Rows.{standing}
use Rattle.alg_registry.proofs.Fresh.{is_listed-within}
use Rattle.alg_registry.proofs.Restanding.{any_default}
use Rattle.alg_registry.proofs.Restood.{held-within}
use Rattle.alg_registry.proofs.Tallies.{HasFewer}
use Rattle.alg_registry.proofs.Changing.{unlist-lone, unlist-restands}
use Rattle.alg_registry.proofs.rows.unlist_row.Goals as goal

pub returns-then-does_unlist_alone : goal.returns-then-does_unlist_alone
returns-then-does_unlist_alone c =
    λ d. unlist-lone c.args.rows.now c.args.place c.index-rows-place.result c.index-rows-place-then-does_unlist_alone.result d c.requires.listed c.requires.stands
    (sym c.does_unlist_alone.ensures ∙ c.if-does_unlist_alone.true)

pub restand-requires-clause-within : goal.restand-requires-clause-within
restand-requires-clause-within c =
    let within : All (λ (id : ℕ). id < length c.args.rows.now) c.args.held.now = subst (λ (ids : List ℕ). All (λ (id : ℕ). id < length c.args.rows.now) ids) (sym c.requires.held) (held-within c.args.rows.now) in
    λ k d lt. omega (arith, within k d lt, length-set c.args.rows.now c.args.place (unlisted_row (get_or c.args.rows.now c.args.place c.index-rows-place-else-does_unlist_alone.result)))

pub restand-requires-clause-few : goal.restand-requires-clause-few
restand-requires-clause-few c =
    let rows : List Row = set c.args.rows.now c.args.place (unlisted_row (get_or c.args.rows.now c.args.place c.index-rows-place-else-does_unlist_alone.result)) in
    subst (λ (ids : List ℕ). All (HasFewer (2 ^ 61)) (remarked_all ids rows)) (sym c.requires.held)
    (unlist-restands c.args.rows.now (2 ^ 61) c.args.place c.index-rows-place-else-does_unlist_alone.result c.requires.listed c.requires.stands c.requires.few).few

pub returns-else-does_unlist_alone : goal.returns-else-does_unlist_alone
returns-else-does_unlist_alone c =
    let x : Row = c.index-rows-place-else-does_unlist_alone.result in
    let lt : c.args.place < length c.args.rows.now = is_listed-within c.args.rows.now c.args.place c.requires.listed in
    λ d. c.restand.ensures
    ∙ (ap (λ (ids : List ℕ). restood ids (set c.args.rows.now c.args.place (unlisted_row (get_or c.args.rows.now c.args.place x)))) c.requires.held
    ∙ ((unlist-restands c.args.rows.now (2 ^ 61) c.args.place x c.requires.listed c.requires.stands c.requires.few).is
    ∙ ap (λ (r : Row). standing (set c.args.rows.now c.args.place (unlisted_row r))) (any_default c.args.rows.now c.args.place x d lt)))
