use Rattle.std.proofs.Common.{◌≡◌, ℕ, List, ◌&&◌, sym, ap, ◌∙◌}
use Rattle.std.specs.List.{find, filter_map, position_from}
use Rattle.std.specs.Str.{bytes_eq}
use Rattle.std.specs.Prelude.{Option}
use Rattle.alg_registry.specs.Answers.{may_find, best_from, is_pending, not_found, found_driver}
use Rattle.alg_registry.specs.Larvals.{joined_at, passes_at, seen_from}
use Rattle.alg_registry.specs.Held.{passes, is_plain_driver, best_among}
use Rattle.alg_registry.proofs.Scanning.{plain_driver-listed, best-listed}
use Rattle.alg_registry.proofs.Seen.{best-seen, pending-seen}
use Rattle.alg_registry.proofs.Looks.{look-best, look-none}
use Rattle.alg_registry.proofs.look_answers.look_up.Goals as goal

pub returns-in-Some-clause-ok : goal.returns-in-Some-clause-ok
returns-in-Some-clause-ok c =
    let first : c.find_plain_driver.result ≡ position_from (λ row. may_find c.args.plain row && bytes_eq row.spec.driver c.args.text.now) 0 c.args.rows.now.list =
    c.find_plain_driver.ensures ∙ ((λ i. find (passes (is_plain_driver c.args.text.now c.args.plain) (c.all.ensures.all i)) (c.listed.ensures i)) ∙ plain_driver-listed c.args.text.now c.args.plain c.args.rows.now.list) in
    ap (λ (o : Option ℕ). found_driver c.args.rows.now.list c.args.larvals.now.list c.args.text.now c.args.plain o) (sym c.in-Some.is ∙ first)

pub returns-in-Some-best_of-clause-ok : goal.returns-in-Some-best_of-clause-ok
returns-in-Some-best_of-clause-ok c =
    let first : c.find_plain_driver.result ≡ position_from (λ row. may_find c.args.plain row && bytes_eq row.spec.driver c.args.text.now) 0 c.args.rows.now.list =
    c.find_plain_driver.ensures ∙ ((λ i. find (passes (is_plain_driver c.args.text.now c.args.plain) (c.all.ensures.all i)) (c.listed.ensures i)) ∙ plain_driver-listed c.args.text.now c.args.plain c.args.rows.now.list) in
    let ids : c.deref.result.now ≡ filter_map (joined_at c.args.text.now c.args.larvals.now.list) (seen_from c.args.rows.now.list 0 c.args.larvals.now.list) =
    c.deref.ensures.value ∙ (c.in_ok-joined.ensures.ok ∙ ap (λ (ns : List ℕ). filter_map (joined_at c.args.text.now c.args.larvals.now.list) ns) c.requires) in
    let best : c.best_of.result ≡ best_from c.args.larvals.now.list c.args.text.now c.args.plain 0 c.args.rows.now.list =
    c.best_of.ensures
    ∙ ((λ i. best_among (ids i) c.args.text.now c.args.plain (c.all-2.ensures.all i) (c.listed-2.ensures i))
    ∙ (best-listed (filter_map (joined_at c.args.text.now c.args.larvals.now.list) (seen_from c.args.rows.now.list 0 c.args.larvals.now.list)) c.args.text.now c.args.plain c.args.rows.now.list
    ∙ best-seen c.args.rows.now.list c.args.larvals.now.list c.args.text.now c.args.plain)) in
    sym (look-best c.args.rows.now.list c.args.larvals.now.list c.args.text.now c.args.plain (c.in-Some-best_of.id, c.in-Some-best_of._priority) (sym first ∙ c.in_default.is) (sym best ∙ c.in-Some-best_of.is))

pub returns-clause-ok : goal.returns-clause-ok
returns-clause-ok c =
    let first : c.find_plain_driver.result ≡ position_from (λ row. may_find c.args.plain row && bytes_eq row.spec.driver c.args.text.now) 0 c.args.rows.now.list =
    c.find_plain_driver.ensures ∙ ((λ i. find (passes (is_plain_driver c.args.text.now c.args.plain) (c.all.ensures.all i)) (c.listed.ensures i)) ∙ plain_driver-listed c.args.text.now c.args.plain c.args.rows.now.list) in
    let ids : c.deref.result.now ≡ filter_map (joined_at c.args.text.now c.args.larvals.now.list) (seen_from c.args.rows.now.list 0 c.args.larvals.now.list) =
    c.deref.ensures.value ∙ (c.in_ok-joined.ensures.ok ∙ ap (λ (ns : List ℕ). filter_map (joined_at c.args.text.now c.args.larvals.now.list) ns) c.requires) in
    let best : c.best_of.result ≡ best_from c.args.larvals.now.list c.args.text.now c.args.plain 0 c.args.rows.now.list =
    c.best_of.ensures
    ∙ ((λ i. best_among (ids i) c.args.text.now c.args.plain (c.all-2.ensures.all i) (c.listed-2.ensures i))
    ∙ (best-listed (filter_map (joined_at c.args.text.now c.args.larvals.now.list) (seen_from c.args.rows.now.list 0 c.args.larvals.now.list)) c.args.text.now c.args.plain c.args.rows.now.list
    ∙ best-seen c.args.rows.now.list c.args.larvals.now.list c.args.text.now c.args.plain)) in
    let pending : find (passes_at (is_pending c.args.text.now) c.args.larvals.now.list) c.args.larvals.now.seen ≡ position_from (is_pending c.args.text.now) 0 c.args.larvals.now.list =
    ap (λ (ns : List ℕ). find (passes_at (is_pending c.args.text.now) c.args.larvals.now.list) ns) c.requires ∙ pending-seen c.args.rows.now.list c.args.text.now c.args.larvals.now.list in
    c.answer_unfound.ensures
    ∙ (ap (λ (o : Option ℕ). not_found c.args.larvals.now.list c.args.text.now o) pending
    ∙ sym (look-none c.args.rows.now.list c.args.larvals.now.list c.args.text.now c.args.plain (sym first ∙ c.in_default.is) (sym best ∙ c.in-None.is)))
