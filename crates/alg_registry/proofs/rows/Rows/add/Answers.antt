use Rattle.std.proofs.Common.{◌≡◌, ℕ, ◌+◌, ◌-◌, ◌^◌, ◌<◌, ◌≤◌, ◌++◌, ◌∷◌, [], true, List, length, take, drop, refl, sym, ap, subst, ◌∙◌, arith, length-append}
use Rattle.std.specs.List.{All, list_all}
use Rattle.alg_registry.specs.declared.row.Row.{Row}
use Rattle.alg_registry.specs.Rows.{listed_at, standing}
use Rattle.alg_registry.specs.Calls.{new_row, listed_row_of}
use Rattle.alg_registry.specs.MarkCounts.{referred}
use Rattle.alg_registry.specs.Held.{RowTable, held_from, listed_from}
use Rattle.alg_registry.proofs.Restanding.{standing-twice}
use Rattle.alg_registry.proofs.Tallies.{HasFewer}
use Rattle.alg_registry.proofs.Changing.{whole, few-standing}
use Rattle.alg_registry.proofs.Adding.{add-standing, held-added, listed-added, length-referred}
use Rattle.alg_registry.proofs.rows.Rows.add.Goals as goal

pub add_references-requires : goal.add_references-requires
add_references-requires c =
    let rows : List Row = c.self.inside.all.items in
    let list : rows ≡ c.args.self.now.list = ap (λ (t : RowTable). t.list) c.self.view_is in
    let few : All (λ (r : Row). r.taken < 2 ^ 61) rows = subst (λ (rs : List Row). All (λ (r : Row). r.taken < 2 ^ 61) rs) (sym list) c.requires.few in
    let short : 2 ^ 61 + length rows ≤ 2 ^ 64 - 2 = omega arith in
    subst (λ (rs : List Row). All (HasFewer (2 ^ 64 - 2)) rs) (sym c.deref_mut.ensures.value) (few-standing (2 ^ 61) (2 ^ 64 - 2) rows c.self.invariant.stands short few)

pub invariant_of-self : goal.invariant_of-self
invariant_of-self c =
    let rows : List Row = c.self.inside.all.items in
    let older : List Row = c.add_references.new.older in
    let below : List ℕ = c.args.spec.below in
    let last : Row = listed_row_of c.args.spec in
    let list : rows ≡ c.args.self.now.list = ap (λ (t : RowTable). t.list) c.self.view_is in
    let spare : c.self.inside.spare ≡ c.args.self.now.spare = ap (λ (t : RowTable). t.spare) c.self.view_is in
    let listed : list_all (listed_at rows) below ≡ true = ap (λ (rs : List Row). list_all (listed_at rs) below) list ∙ c.requires.listed in
    let all : take c.self.inside.all.len (older ++ drop (length older) rows) ≡ older = whole c.self.inside.all.len older rows (omega (arith, c.add_references.auto.older, c.deref_mut.ensures.len)) in
    let gave : older ≡ referred 0 below rows = c.add_references.ensures ∙ (λ i. referred 0 (c.as_slice.ensures i) (c.deref_mut.ensures.value i)) in
    let new : c.push_reserved-3.new.self.items ≡ referred 0 below rows ++ last ∷ [] = c.push_reserved-3.ensures.items ∙ ap (λ (rs : List Row). rs ++ last ∷ []) (all ∙ gave) in
    let is : c.push_reserved-3.new.self.items ≡ standing (rows ++ new_row c.args.spec ∷ []) = new ∙ add-standing rows c.args.spec c.self.invariant.stands listed in
    let id : c.len-id.result ≡ length rows = omega (arith, c.len-id.ensures, c.deref_mut.ensures.len, ap length c.deref_mut.ensures.value) in
    record {
      stands = ap standing is ∙ (standing-twice (rows ++ new_row c.args.spec ∷ []) ∙ sym is);
      held_are = c.push_reserved.ensures.items
          ∙ (ap (λ (ids : List ℕ). ids ++ c.len-id.result ∷ []) c.self.invariant.held_are
          ∙ (sym (held-added below rows last c.len-id.result listed refl id) ∙ ap (λ (rs : List Row). held_from 0 rs) (sym new)));
      listed_are = c.push_reserved-2.ensures.items
          ∙ (ap (λ (ids : List ℕ). ids ++ c.len-id.result ∷ []) c.self.invariant.listed_are
          ∙ (sym (listed-added below rows last c.len-id.result refl id) ∙ ap (λ (rs : List Row). listed_from 0 rs) (sym new)));
      fits = omega (arith, c.self.invariant.fits, c.requires.room, spare, ap length new, length-append (referred 0 below rows) (last ∷ []), length-referred 0 below rows, c.push_reserved-3.ensures.capacity);
      held_fits = omega (arith, c.self.invariant.held_fits, c.requires.room, spare, ap length c.push_reserved.ensures.items, length-append c.self.inside.held.items (c.len-id.result ∷ []), c.push_reserved.ensures.capacity);
      listed_fits = omega (arith, c.self.invariant.listed_fits, c.requires.room, spare, ap length c.push_reserved-2.ensures.items, length-append c.self.inside.listed.items (c.len-id.result ∷ []), c.push_reserved-2.ensures.capacity);
    }

pub returns-clause-list : goal.returns-clause-list
returns-clause-list c =
    let rows : List Row = c.self.inside.all.items in
    let older : List Row = c.add_references.new.older in
    let below : List ℕ = c.args.spec.below in
    let last : Row = listed_row_of c.args.spec in
    let list : rows ≡ c.args.self.now.list = ap (λ (t : RowTable). t.list) c.self.view_is in
    let listed : list_all (listed_at rows) below ≡ true = ap (λ (rs : List Row). list_all (listed_at rs) below) list ∙ c.requires.listed in
    let all : take c.self.inside.all.len (older ++ drop (length older) rows) ≡ older = whole c.self.inside.all.len older rows (omega (arith, c.add_references.auto.older, c.deref_mut.ensures.len)) in
    let gave : older ≡ referred 0 below rows = c.add_references.ensures ∙ (λ i. referred 0 (c.as_slice.ensures i) (c.deref_mut.ensures.value i)) in
    let new : c.push_reserved-3.new.self.items ≡ referred 0 below rows ++ last ∷ [] = c.push_reserved-3.ensures.items ∙ ap (λ (rs : List Row). rs ++ last ∷ []) (all ∙ gave) in
    new ∙ (add-standing rows c.args.spec c.self.invariant.stands listed ∙ ap (λ (rs : List Row). standing (rs ++ new_row c.args.spec ∷ [])) list)
