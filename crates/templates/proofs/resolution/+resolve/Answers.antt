use Rattle.std.proofs.lemmas.Result.{err_from_is_err_and}
use Rattle.std.proofs.Common.{◌≡◌, ℕ, ◌+◌, ◌*◌, ◌<◌, length, List, Ok, sym, ap, ◌∙◌, subst, arith, refl}
use Rattle.alg_names.specs.Name.{spelling}
use Rattle.templates.specs.Resolution.{weight, LooksCome}
use Rattle.templates.proofs.Shapes.{lighter, nested_child}
use Rattle.templates.proofs.ChildLooks.{no_children, child_failed, child_made, child_above, child_entry, stopped}
use Rattle.templates.proofs.Growth.{grows_on}
use Rattle.templates.proofs.Looks.{pending_not}
use Rattle.templates.proofs.Calls.{found_came, absent_came, claimable_at, opened_at, still_claimed, still_unended, resolved_at, grows_at, derives_so}
use Rattle.std.specs.List.{filter_map}
use Rattle.alg_registry.specs.Rows.{registered}
use Rattle.alg_registry.specs.Made.{with_spec}
use Rattle.std.proofs.Common.{get_or, length-append, ◌∷◌, []}
use Rattle.templates.proofs.resolution.+resolve.Goals as goal

pub resolve_within-returns-in-Found : goal.resolve_within-returns-in-Found
resolve_within-returns-in-Found t c =
    found_came c.args.caller c.in-Found.id c.args.registry.now c.look_for.new.registry (spelling c.args.name.now) c.args.plain c.in_ok-answer.answer c.requires.made c.requires.next c.in_ok-answer.ensures.history c.in-Found.is

pub resolve_within-returns-in-Absent : goal.resolve_within-returns-in-Absent
resolve_within-returns-in-Absent t c =
    absent_came c.args.caller c.args.registry.now c.look_for.new.registry (spelling c.args.name.now) c.args.plain c.in_ok-answer.answer c.requires.made c.requires.next c.in_ok-answer.ensures.history c.in-Absent.is

pub resolve_within-unreachable-requires : goal.resolve_within-unreachable-requires
resolve_within-unreachable-requires t c =
    pending_not c.args.registry.now c.args.name.now c.args.plain c.in-Pending.field-0 c.look_for.ensures.known c.requires.above (c.in_ok-answer.ensures.answer ∙ c.in-Pending.is)

pub build-returns : goal.build-returns
build-returns t c =
    derives_so c.args.caller c.args.larval c.args.name.now c.in_ok-asked.asked.items c.in_ok-ids.ids.items c.deref-3.result.now c.args.registry.now c.resolve_children.new.registry c.derive.result c.requires.begun c.requires.known c.in_ok-asked.ensures.ok
    c.in_ok-ids.ensures.ok.0 (c.in_ok-ids.ensures.ok.1 ∙ ap length c.deref.ensures.value)
    (c.deref-3.ensures.value ∙ (c.in_ok-below.ensures.ok ∙ ap (λ is. filter_map (with_spec (registered c.resolve_children.new.registry)) is) c.deref-2.ensures.value)) c.derive.ensures.ok c.derive.ensures.err

pub resolve_children-resolve_within-requires : goal.resolve_children-resolve_within-requires
resolve_children-resolve_within-requires t c =
    let o = c.requires.begun in
    let n : length c.loop-child.ids.items ≡ c.loop-child.child-index = c.loop-child.invariant.1 in
    let lt : length c.loop-child.ids.items < length c.args.asked.now = omega (arith, n, c.loop-child-test.true) in
    let is : c.child-item.result ≡ get_or c.args.asked.now (length c.loop-child.ids.items) c.child-item.result = subst (λ (i : ℕ). c.child-item.result ≡ get_or c.args.asked.now i c.child-item.result) (sym n) c.child-item.is in
    let f : 3 * weight c.child-item.result + 2 < t = omega (arith, c.decreases, lighter c.args.name.now c.args.asked.now (length c.loop-child.ids.items) c.child-item.result c.requires.asked lt is) in (
      f,
      (
        refl,
        (
          c.loop-child.invariant.0.within.grows.made,
          (
            child_made c.args.caller c.args.larval c.args.name.now c.child-item.result c.args.asked.now c.loop-child.ids.items c.args.registry.now c.loop-child.registry o c.requires.known c.learn_name.ensures c.requires.nested c.requires.asked c.loop-child.invariant.0 lt is,
            (
              child_above c.args.caller c.args.larval c.args.name.now c.child-item.result c.args.asked.now c.loop-child.ids.items c.args.registry.now c.loop-child.registry o c.requires.asked c.loop-child.invariant.0 lt is,
              nested_child c.args.name.now c.args.asked.now (length c.loop-child.ids.items) c.child-item.result c.requires.asked lt is c.requires.nested,
            ),
          ),
        ),
      ),
    )

pub resolve_children-loop-child-preserved : goal.resolve_children-loop-child-preserved
resolve_children-loop-child-preserved t c =
    let step = child_entry c.args.caller c.args.larval c.in_ok-id.id c.args.name.now (spelling c.child-item.result) c.loop-child.ids.items c.args.registry.now c.loop-child.registry c.resolve_within.new.registry c.requires.begun c.loop-child.invariant.0 c.in_ok-id.ensures in
    let n : length c.push.new.self.items ≡ c.loop-child.child-index + 1 = omega (arith, ap length c.in_ok-push.ensures.items, length-append c.loop-child.ids.items (c.in_ok-id.id ∷ []), c.loop-child.invariant.1) in
    (subst (λ (xs : List ℕ). LooksCome c.args.caller c.args.larval (Ok xs) c.args.registry.now c.resolve_within.new.registry) (sym c.in_ok-push.ensures.items) step, n)

pub resolve_within-claim_begun-requires : goal.resolve_within-claim_begun-requires
resolve_within-claim_begun-requires t c =
    claimable_at c.args.registry.now c.look_for.new.registry c.args.caller (spelling c.args.name.now) c.args.plain c.in-Began.larval c.in_ok-answer.answer c.in_ok-answer.ensures.legal c.in_ok-answer.ensures.answer c.in_ok-answer.ensures.history c.in-Began.is

pub resolve_within-build-built-requires : goal.resolve_within-build-built-requires
resolve_within-build-built-requires t c =
    let f : 3 * weight c.args.name.now + 1 < t = omega (arith, c.decreases) in
    (f, (c.look_for.ensures.known, (opened_at c.args.registry.now c.look_for.new.registry c.claim_begun.new.registry c.args.caller c.args.name.now c.args.plain c.in-Began.larval c.in_ok-answer.answer c.in_ok-answer.ensures.legal c.requires.made c.requires.next c.requires.above c.look_for.ensures.known c.in_ok-answer.ensures.answer c.in_ok-answer.ensures.history c.in-Began.is c.in_ok-claim_begun-in-Began.ensures.ok, c.requires.nested)))

pub resolve_within-finish-requires-clause-claimed : goal.resolve_within-finish-requires-clause-claimed
resolve_within-finish-requires-clause-claimed t c =
    still_claimed c.args.caller c.in-Began.larval c.args.name.now c.claim_begun.new.registry c.build-built.new.registry c.build-built.result
    (opened_at c.args.registry.now c.look_for.new.registry c.claim_begun.new.registry c.args.caller c.args.name.now c.args.plain c.in-Began.larval c.in_ok-answer.answer c.in_ok-answer.ensures.legal c.requires.made c.requires.next c.requires.above c.look_for.ensures.known c.in_ok-answer.ensures.answer c.in_ok-answer.ensures.history c.in-Began.is c.in_ok-claim_begun-in-Began.ensures.ok) c.build-built.ensures

pub resolve_within-finish-requires-clause-unended : goal.resolve_within-finish-requires-clause-unended
resolve_within-finish-requires-clause-unended t c =
    still_unended c.args.caller c.in-Began.larval c.args.name.now c.claim_begun.new.registry c.build-built.new.registry c.build-built.result
    (opened_at c.args.registry.now c.look_for.new.registry c.claim_begun.new.registry c.args.caller c.args.name.now c.args.plain c.in-Began.larval c.in_ok-answer.answer c.in_ok-answer.ensures.legal c.requires.made c.requires.next c.requires.above c.look_for.ensures.known c.in_ok-answer.ensures.answer c.in_ok-answer.ensures.history c.in-Began.is c.in_ok-claim_begun-in-Began.ensures.ok) c.build-built.ensures

pub resolve_within-returns-in_ok-claim_begun-in-Began : goal.resolve_within-returns-in_ok-claim_begun-in-Began
resolve_within-returns-in_ok-claim_begun-in-Began t c =
    resolved_at c.args.registry.now c.look_for.new.registry c.claim_begun.new.registry c.build-built.new.registry c.finish.new.registry c.args.caller (spelling c.args.name.now) c.args.plain c.in-Began.larval c.in_ok-answer.answer c.build-built.result c.finish.result c.in_ok-answer.ensures.legal c.requires.made c.requires.next c.in_ok-answer.ensures.answer c.in_ok-answer.ensures.history c.in-Began.is c.in_ok-claim_begun-in-Began.ensures.ok c.build-built.ensures c.finish.ensures

pub build-returns-in_err-asked : goal.build-returns-in_err-asked
build-returns-in_err-asked t c =
    let p = err_from_is_err_and c.from_residual.result c.from_residual.ensures.1 in
    rw (p.1, p.2) (no_children c.args.caller c.args.larval c.args.name.now c.args.registry.now c.in_err-asked.field-0.0 c.requires.begun c.requires.known c.in_err-asked.ensures.err)

pub build-returns-in_err-ids : goal.build-returns-in_err-ids
build-returns-in_err-ids t c =
    let p = err_from_is_err_and c.from_residual-in_err-ids.result c.from_residual-in_err-ids.ensures.1 in
    rw (p.1, p.2) (child_failed c.args.caller c.args.larval c.args.name.now c.in_ok-asked.asked.items c.args.registry.now c.resolve_children.new.registry c.in_err-ids.field-0.0 c.requires.begun c.requires.known c.in_ok-asked.ensures.ok c.in_err-ids.ensures.err)

pub resolve_children-returns-in_err-id-clause-err : goal.resolve_children-returns-in_err-id-clause-err
resolve_children-returns-in_err-id-clause-err t c =
    let p = err_from_is_err_and c.from_residual.result c.from_residual.ensures.1 in
    rw (p.1, p.2) (stopped c.args.caller c.args.larval (spelling c.child-item.result) c.loop-child.ids.items c.args.name.now c.args.registry.now c.loop-child.registry c.resolve_within.new.registry c.in_err-id.field-0.0 c.requires.begun c.loop-child.invariant.0 c.in_err-id.ensures)

pub resolve_children-returns-in_err-push-clause-err : goal.resolve_children-returns-in_err-push-clause-err
resolve_children-returns-in_err-push-clause-err t c =
    let p = err_from_is_err_and c.from_residual-in_err-push.result c.from_residual-in_err-push.ensures.1 in
    rw (p.1, p.2) (grows_on c.args.caller c.args.registry.now c.loop-child.registry c.resolve_within.new.registry c.loop-child.invariant.0.within.grows c.in_ok-id.ensures.grows)

pub resolve_within-returns-in_err-claim_begun-in-Began : goal.resolve_within-returns-in_err-claim_begun-in-Began
resolve_within-returns-in_err-claim_begun-in-Began t c =
    let p = err_from_is_err_and c.from_residual-in_err-claim_begun-in-Began.result c.from_residual-in_err-claim_begun-in-Began.ensures.1 in
    rw (p.1, p.2, c.in_err-claim_begun-in-Began.ensures.err.0)
    (grows_at c.args.registry.now c.look_for.new.registry c.claim_begun.new.registry c.args.caller (spelling c.args.name.now) c.args.plain c.in-Began.larval c.in_ok-answer.answer c.requires.made c.requires.next c.in_ok-answer.ensures.history c.in-Began.is c.in_err-claim_begun-in-Began.ensures.err.1)
