use Rattle.std.proofs.Common.{◌≡◌, ℕ, ◌+◌, ◌-◌, ◌^◌, ◌<◌, ◌≤◌, true, List, length, set, get_or, sym, ap, subst, ◌∙◌, arith}
use Rattle.std.proofs.lemmas.List.{length-set}
use Rattle.std.specs.List.{All}
use Rattle.alg_registry.specs.declared.row.Row.{Row}
use Rattle.alg_registry.specs.Rows.{listed_at, standing}
use Rattle.alg_registry.specs.Calls.{taken_row}
use Rattle.alg_registry.specs.Held.{RowTable, held_from, listed_from}
use Rattle.alg_registry.proofs.Fresh.{is_listed-within}
use Rattle.alg_registry.proofs.Restanding.{standing-twice}
use Rattle.alg_registry.proofs.Tallies.{HasFewer}
use Rattle.alg_registry.proofs.Changing.{a_row, take-lone, take-held, take-listed, few-standing}
use Rattle.alg_registry.proofs.rows.Rows.take.Goals as goal

pub overflow_add-row-2 : goal.overflow_add-row-2
overflow_add-row-2 c =
    let rows : List Row = c.self.inside.all.items in
    let list : rows ≡ c.args.self.now.list = ap (λ (t : RowTable). t.list) c.self.view_is in
    let listed : listed_at rows c.args.place ≡ true = ap (λ (rs : List Row). listed_at rs c.args.place) list ∙ c.requires.listed in
    let few : All (λ (r : Row). r.taken < 2 ^ 61) rows = subst (λ (rs : List Row). All (λ (r : Row). r.taken < 2 ^ 61) rs) (sym list) c.requires.few in
    let short : 2 ^ 61 + length rows ≤ 2 ^ 64 - 1 = omega arith in
    let all : All (HasFewer (2 ^ 64 - 1)) rows = few-standing (2 ^ 61) (2 ^ 64 - 1) rows c.self.invariant.stands short few in
    let one : (let r : Row = get_or rows c.args.place c.index_mut-row.result.now in r.references) < 2 ^ 64 - 1 = all c.args.place c.index_mut-row.result.now (is_listed-within rows c.args.place listed) in
    omega (arith, one, ap (λ (r : Row). r.references) c.index_mut-row.ensures.value)

same : (rows : List Row) (p : ℕ) (row d : Row) → row ≡ get_or rows p row → listed_at rows p ≡ true → standing rows ≡ rows
    → set rows p (record row { taken = row.taken + 1; references = row.references + 1 }) ≡ standing (set rows p (taken_row (get_or rows p d)))
same rows p row d e listed stands = (λ i. set rows p (let r : Row = e i in record r { taken = r.taken + 1; references = r.references + 1 })) ∙ take-lone rows p row d listed stands

pub invariant_of-self : goal.invariant_of-self
invariant_of-self c =
    let rows : List Row = c.self.inside.all.items in
    let row : Row = c.index_mut-row.result.now in
    let list : rows ≡ c.args.self.now.list = ap (λ (t : RowTable). t.list) c.self.view_is in
    let listed : listed_at rows c.args.place ≡ true = ap (λ (rs : List Row). listed_at rs c.args.place) list ∙ c.requires.listed in
    let e : row ≡ get_or rows c.args.place row = c.index_mut-row.ensures.value in
    let is = same rows c.args.place row a_row e listed c.self.invariant.stands in
    let held : held_from 0 (set rows c.args.place (record row { taken = row.taken + 1; references = row.references + 1 })) ≡ held_from 0 rows =
    (λ i. held_from 0 (set rows c.args.place (let r : Row = e i in record r { taken = r.taken + 1; references = r.references + 1 }))) ∙ take-held rows c.args.place row listed in
    let others : listed_from 0 (set rows c.args.place (record row { taken = row.taken + 1; references = row.references + 1 })) ≡ listed_from 0 rows =
    (λ i. listed_from 0 (set rows c.args.place (let r : Row = e i in record r { taken = r.taken + 1; references = r.references + 1 }))) ∙ take-listed rows c.args.place row in
    record {
      stands = ap standing is ∙ (standing-twice (set rows c.args.place (taken_row (get_or rows c.args.place a_row))) ∙ sym is);
      held_are = c.self.invariant.held_are ∙ sym held;
      listed_are = c.self.invariant.listed_are ∙ sym others;
      fits = omega (arith, c.self.invariant.fits, length-set rows c.args.place (record row { taken = row.taken + 1; references = row.references + 1 }));
      held_fits = c.self.invariant.held_fits;
      listed_fits = c.self.invariant.listed_fits;
    }

pub returns-clause-list : goal.returns-clause-list
returns-clause-list c =
    let rows : List Row = c.self.inside.all.items in
    let list : rows ≡ c.args.self.now.list = ap (λ (t : RowTable). t.list) c.self.view_is in
    let listed : listed_at rows c.args.place ≡ true = ap (λ (rs : List Row). listed_at rs c.args.place) list ∙ c.requires.listed in
    λ d. same rows c.args.place c.index_mut-row.result.now d c.index_mut-row.ensures.value listed c.self.invariant.stands
    ∙ ap (λ (rs : List Row). standing (set rs c.args.place (taken_row (get_or rs c.args.place d)))) list
