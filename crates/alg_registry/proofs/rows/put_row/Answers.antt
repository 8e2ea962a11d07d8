use Rattle.std.proofs.Common.{◌≡◌, ◌<◌, ◌^◌, ℕ, Bool, true, false, refl, List, length, set, get_or, sym, ap, subst, ◌∙◌, arith}
use Rattle.std.proofs.lemmas.List.{length-set}
use Rattle.std.specs.Prelude.{not}
use Rattle.std.specs.List.{All}
use Rattle.alg_registry.specs.declared.row.Row.{Row}
use Rattle.alg_registry.specs.Calls.{put_row_of}
use Rattle.alg_registry.specs.MarkCounts.{remarked_all, restood}
use Rattle.alg_registry.specs.Rows.{standing}
use Rattle.alg_registry.proofs.Restanding.{any_default}
use Rattle.alg_registry.proofs.Restood.{held-within}
use Rattle.alg_registry.proofs.Tallies.{HasFewer}
use Rattle.alg_registry.proofs.Changing.{put-lone, put-same, put-restands}
use Rattle.alg_registry.proofs.rows.put_row.Goals as goal

pub returns-then-does_put_alone-clause-rows : goal.returns-then-does_put_alone-clause-rows
returns-then-does_put_alone-clause-rows c =
    λ d. put-lone c.args.rows.now c.args.place c.index-rows-place.result c.index-rows-place-then-does_put_alone.result d c.requires.within c.requires.stands
    (sym c.does_put_alone.ensures ∙ c.if-does_put_alone.true)

pub returns-then-does_put_alone-clause-same : goal.returns-then-does_put_alone-clause-same
returns-then-does_put_alone-clause-same c =
    λ e. put-same c.args.rows.now c.args.place c.index-rows-place-then-does_put_alone.result c.requires.within c.requires.stands (c.requires.taken c.index-rows-place-then-does_put_alone.result)
    (sym c.is_row_held.ensures ∙ held c.is_row_held.result e)
  where
    held : (b : Bool) → not b ≡ false → b ≡ true
    held true e = refl
    held false e = absurd cc

pub restand-requires-clause-within : goal.restand-requires-clause-within
restand-requires-clause-within c =
    let within : All (λ (id : ℕ). id < length c.args.rows.now) c.args.held.now = subst (λ (ids : List ℕ). All (λ (id : ℕ). id < length c.args.rows.now) ids) (sym c.requires.held) (held-within c.args.rows.now) in
    λ k d lt. omega (arith, within k d lt, length-set c.args.rows.now c.args.place (put_row_of (get_or c.args.rows.now c.args.place c.index-rows-place-else-does_put_alone.result)))

pub restand-requires-clause-few : goal.restand-requires-clause-few
restand-requires-clause-few c =
    let x : Row = c.index-rows-place-else-does_put_alone.result in
    let rows : List Row = set c.args.rows.now c.args.place (put_row_of (get_or c.args.rows.now c.args.place x)) in
    subst (λ (ids : List ℕ). All (HasFewer (2 ^ 61)) (remarked_all ids rows)) (sym c.requires.held)
    (put-restands c.args.rows.now (2 ^ 61) c.args.place x c.requires.within c.requires.stands (c.requires.taken x) c.requires.few).few

pub returns-else-does_put_alone-clause-rows : goal.returns-else-does_put_alone-clause-rows
returns-else-does_put_alone-clause-rows c =
    let x : Row = c.index-rows-place-else-does_put_alone.result in
    λ d. c.restand.ensures
    ∙ (ap (λ (ids : List ℕ). restood ids (set c.args.rows.now c.args.place (put_row_of (get_or c.args.rows.now c.args.place x)))) c.requires.held
    ∙ ((put-restands c.args.rows.now (2 ^ 61) c.args.place x c.requires.within c.requires.stands (c.requires.taken x) c.requires.few).is
    ∙ ap (λ (r : Row). standing (set c.args.rows.now c.args.place (put_row_of r))) (any_default c.args.rows.now c.args.place x d c.requires.within)))
