use Rattle.std.proofs.Common.{◌≡◌, ℕ, ◌+◌, ◌*◌, ◌<◌, [], ◌∷◌, List, length, length-append, Ok, Err, Some, ap, sym, ◌∙◌, subst, arith, get_or}
use Rattle.std.specs.Prelude.{IfOk, IfErr}
use Rattle.std.specs.List.{filter_map}
use Rattle.alg_registry.specs.Rows.{registered}
use Rattle.alg_registry.specs.Made.{with_spec}
use Rattle.shared_registry.proofs.Asking.{Exist}
use Rattle.alg_names.specs.Name.{spelling}
use Rattle.alg_registry.specs.Rows.{texts}
use Rattle.templates.specs.Resolution.{weight}
use Rattle.templates.proofs.ChildLooks.{get_within}
use Rattle.turn_lock.specs.Passes.{knows}
use Rattle.shared_registry.specs.Builds.{Looks, HasText}
use Rattle.shared_registry.specs.Within.{ChildrenCome}
use Rattle.shared_registry.proofs.Working.{works_still, works_none, works_on, within_works, resolves_so}
use Rattle.shared_registry.proofs.Waiting.{began_on}
use Rattle.shared_registry.proofs.Claiming.{begins, closed, claimed_it, claimed_none, claimed_not, text_on, end_comes, end_closes, end_wants}
use Rattle.shared_registry.proofs.Children.{Asks, asks_none, asks_more, next_child, within_child, child_failed, builds_none, builds_failed, builds_derived, children_exist, come_idle, within_idle, own_within, still_open}
use Rattle.shared_registry.proofs.builds.+resolve.Goals as goal

pub build-returns-in-Err-clause-within : goal.build-returns-in-Err-clause-within
build-returns-in-Err-clause-within g t c = within_works c.args.larval (knows c.args.pass) (knows c.args.pass) (works_still (knows c.args.pass))

pub build-returns-in-Err-clause-builds : goal.build-returns-in-Err-clause-builds
build-returns-in-Err-clause-builds g t c =
    builds_none c.args.larval c.args.name.now (knows c.args.pass) (knows c.args.pass) c.requires.begins c.in-Err.e c.requires.ready.known
    (within_works c.args.larval (knows c.args.pass) (knows c.args.pass) (works_still (knows c.args.pass))) c.in-Err.ensures.err

pub build-returns-in-Err-ids-clause-builds : goal.build-returns-in-Err-ids-clause-builds
build-returns-in-Err-ids-clause-builds g t c =
    let k = knows c.args.pass in let l = knows c.resolve_children-pass.result.0 in
    builds_failed c.args.larval c.args.name.now k l c.requires.begins c.in-Err-ids.e c.deref.result.now c.requires.ready.known
    (c.in-Ok.ensures.ok ∙ ap (λ names. Ok names) (sym c.deref.ensures.value)) c.resolve_children-pass.ensures.within
    (subst (λ r. IfErr r (λ e. ChildrenCome l c.args.larval (length c.deref.result.now) (Err e))) c.in-Err-ids.is c.resolve_children-pass.ensures.err)

pub build-origins-pass-requires-clause-exist : goal.build-origins-pass-requires-clause-exist
build-origins-pass-requires-clause-exist g t c =
    let k = knows c.args.pass in let l = knows c.resolve_children-pass.result.0 in
    let come : ChildrenCome l c.args.larval (length c.deref.result.now) (Ok c.in-Ok-ids.ids.items) =
    subst (λ r. IfOk r (λ ids. ChildrenCome l c.args.larval (length c.deref.result.now) (Ok ids.items))) c.in-Ok-ids.is c.resolve_children-pass.ensures.ok in
    subst (Exist l.seen) (sym c.deref-2.ensures.value) (children_exist c.args.larval c.args.name.now k l c.requires.begins c.requires.ready.known.laws c.in-Ok-ids.ids.items c.resolve_children-pass.ensures.ready.sound c.resolve_children-pass.ensures.within come.0)

pub build-returns-in-Ok-below-clause-within : goal.build-returns-in-Ok-below-clause-within
build-returns-in-Ok-below-clause-within g t c =
    within_idle c.args.larval (knows c.args.pass) (knows c.resolve_children-pass.result.0) (knows c.origins-pass.result.0) c.resolve_children-pass.ensures.within c.origins-pass.ensures.idles

pub build-returns-clause-within : goal.build-returns-clause-within
build-returns-clause-within g t c =
    within_idle c.args.larval (knows c.args.pass) (knows c.resolve_children-pass.result.0) (knows c.origins-pass.result.0) c.resolve_children-pass.ensures.within c.origins-pass.ensures.idles

pub build-returns-in-Ok-below-clause-builds : goal.build-returns-in-Ok-below-clause-builds
build-returns-in-Ok-below-clause-builds g t c =
    let k = knows c.args.pass in let l = knows c.resolve_children-pass.result.0 in let m = knows c.origins-pass.result.0 in
    let come : ChildrenCome l c.args.larval (length c.deref.result.now) (Ok c.in-Ok-ids.ids.items) =
    subst (λ r. IfOk r (λ ids. ChildrenCome l c.args.larval (length c.deref.result.now) (Ok ids.items))) c.in-Ok-ids.is c.resolve_children-pass.ensures.ok in
    let below : c.in-Ok-below.below.items ≡ filter_map (with_spec (registered m.seen)) c.deref-2.result.now =
    subst (λ r. IfOk r (λ below. below.items ≡ filter_map (with_spec (registered m.seen)) c.deref-2.result.now)) c.in-Ok-below.is c.origins-pass.ensures.ok in
    builds_derived c.args.larval c.args.name.now k m c.requires.begins c.in-Ok-ids.ids.items c.deref.result.now c.deref-in-Ok-below.result.now c.derive.result c.requires.ready.known
    (c.in-Ok.ensures.ok ∙ ap (λ names. Ok names) (sym c.deref.ensures.value))
    (within_idle c.args.larval k l m c.resolve_children-pass.ensures.within c.origins-pass.ensures.idles)
    (come_idle c.requires.ready.known.laws c.args.larval (length c.deref.result.now) l m c.in-Ok-ids.ids.items c.origins-pass.ensures.idles (own_within c.args.larval c.args.name.now k l c.requires.begins c.resolve_children-pass.ensures.within) come)
    (c.deref-in-Ok-below.ensures.value ∙ (below ∙ ap (λ ids. filter_map (with_spec (registered m.seen)) ids) c.deref-2.ensures.value)) c.derive.ensures.ok c.derive.ensures.err

pub build_claimed-finish-requires-clause-open : goal.build_claimed-finish-requires-clause-open
build_claimed-finish-requires-clause-open g t c =
    still_open c.args.larval c.args.name.now (knows c.args.pass) (knows c.build-pass.result.0) c.requires.begins c.build-pass.ensures.within

pub build_claimed-returns-clause-closes : goal.build_claimed-returns-clause-closes
build_claimed-returns-clause-closes g t c =
    end_closes (knows c.build-pass.result.0) (knows c.finish.result.0) c.args.larval c.finish.result.1 c.finish.ensures.ended (knows c.args.pass) c.build-pass.ensures.within

pub build_claimed-returns-clause-ends : goal.build_claimed-returns-clause-ends
build_claimed-returns-clause-ends g t c =
    end_comes (knows c.build-pass.result.0) (knows c.finish.result.0) c.args.larval c.finish.result.1 c.finish.ensures.ended c.requires.ready.known.laws
    (still_open c.args.larval c.args.name.now (knows c.args.pass) (knows c.build-pass.result.0) c.requires.begins c.build-pass.ensures.within)

pub build_claimed-returns-clause-wanting : goal.build_claimed-returns-clause-wanting
build_claimed-returns-clause-wanting g t c =
    end_wants (knows c.build-pass.result.0) (knows c.finish.result.0) c.args.larval c.finish.result.1 c.finish.ensures.ended c.requires.ready.known.laws
    (still_open c.args.larval c.args.name.now (knows c.args.pass) (knows c.build-pass.result.0) c.requires.begins c.build-pass.ensures.within)

pub resolve_children-loop-child-init : goal.resolve_children-loop-child-init
resolve_children-loop-child-init g t c = (
  c.requires.ready.lock,
  subst (λ ids. Asks c.args.larval c.args.name.now (knows c.args.pass) (knows c.args.pass) ids) (sym c.new-ids.ensures.items) (asks_none c.args.larval c.args.name.now (knows c.args.pass) (knows c.args.pass) c.requires.begins),
  ap length c.new-ids.ensures.items,
)

pub resolve_children-resolve_within-back-requires : goal.resolve_children-resolve_within-back-requires
resolve_children-resolve_within-back-requires g t c = λ κs b.
    let n : length c.loop-child.ids.items ≡ c.loop-child.child-index = c.loop-child.invariant.2 in
    let lt : length c.loop-child.ids.items < length c.args.asked.now = omega (arith, n, c.loop-child-test.true) in
    let is : c.child-item.result ≡ get_or c.args.asked.now (length c.loop-child.ids.items) c.child-item.result = subst (λ (i : ℕ). c.child-item.result ≡ get_or c.args.asked.now i c.child-item.result) (sym n) c.child-item.is in
    let f : 6 * weight c.child-item.result + 5 < t = omega (arith, c.decreases, c.requires.ready.known.less.lighter c.args.asked.now (length c.loop-child.ids.items) c.child-item.result c.requires.asked lt is) in (
      f,
      (
        b,
        (
          c.loop-child.invariant.0,
          (
            next_child c.args.larval c.args.name.now (knows c.args.pass) (knows c.loop-child.mine) c.requires.begins c.loop-child.ids.items c.args.asked.now c.child-item.result c.requires.ready.known c.requires.asked c.loop-child.invariant.1 lt is,
            c.requires.ready.known.less.nested c.args.asked.now (length c.loop-child.ids.items) c.child-item.result c.requires.asked lt is c.requires.ready.nested,
          ),
        ),
      ),
    )

pub resolve_children-returns-in-Err-clause-within : goal.resolve_children-returns-in-Err-clause-within
resolve_children-returns-in-Err-clause-within g t c =
    within_child c.args.larval c.args.name.now (knows c.args.pass) (knows c.loop-child.mine) c.requires.begins (knows c.resolve_within-back.result.0) c.loop-child.ids.items (spelling c.child-item.result) c.resolve_within-back.result.1 c.loop-child.invariant.1 c.resolve_within-back.ensures.resolves

pub resolve_children-returns-in-Err-push-clause-within : goal.resolve_children-returns-in-Err-push-clause-within
resolve_children-returns-in-Err-push-clause-within g t c =
    within_child c.args.larval c.args.name.now (knows c.args.pass) (knows c.loop-child.mine) c.requires.begins (knows c.resolve_within-back.result.0) c.loop-child.ids.items (spelling c.child-item.result) c.resolve_within-back.result.1 c.loop-child.invariant.1 c.resolve_within-back.ensures.resolves

pub resolve_children-returns-in-Err-clause-err : goal.resolve_children-returns-in-Err-clause-err
resolve_children-returns-in-Err-clause-err g t c =
    child_failed c.args.larval c.args.name.now (knows c.args.pass) (knows c.loop-child.mine) c.requires.begins c.requires.ready.known.laws (knows c.resolve_within-back.result.0) c.loop-child.ids.items (spelling c.child-item.result) (length c.args.asked.now) c.in-Err.e c.resolve_within-back.result.1 c.in-Err.is c.loop-child.invariant.1 c.resolve_within-back.ensures.resolves

pub resolve_children-loop-child-preserved : goal.resolve_children-loop-child-preserved
resolve_children-loop-child-preserved g t c =
    let step = asks_more c.args.larval c.args.name.now (knows c.args.pass) (knows c.loop-child.mine) c.requires.begins c.requires.ready.known.laws (knows c.resolve_within-back.result.0) c.loop-child.ids.items (spelling c.child-item.result) c.in-Ok.id c.resolve_within-back.result.1 c.in-Ok.is c.loop-child.invariant.1 c.resolve_within-back.ensures.resolves in
    let n : length c.push.new.self.items ≡ c.loop-child.child-index + 1 = omega (arith, ap length c.in-Ok-push.ensures.items, length-append c.loop-child.ids.items (c.in-Ok.id ∷ []), c.loop-child.invariant.2) in
    (c.resolve_within-back.ensures.lock, subst (λ (xs : List ℕ). Asks c.args.larval c.args.name.now (knows c.args.pass) (knows c.resolve_within-back.result.0) xs) (sym c.in-Ok-push.ensures.items) step, n)

pub resolve_within-returns-in-Ok-clause-resolves : goal.resolve_within-returns-in-Ok-clause-resolves
resolve_within-returns-in-Ok-clause-resolves g t c =
    let k = knows c.args.pass in let l = knows c.look_for-pass.result.0 in
    let did = subst (λ r. IfOk r (λ looked. Looks k l (spelling c.args.name.now) c.args.plain looked × HasText l.seen (spelling c.args.name.now) looked)) c.in-Ok.is c.look_for-pass.ensures.ok in
    resolves_so k l (knows c.settle_within.result.0) (spelling c.args.name.now) c.args.plain c.in-Ok.looked c.settle_within.result.1 did.0 c.settle_within.ensures.works c.settle_within.ensures.ready.sound c.settle_within.ensures.comes

pub settle_larval-build_claimed-requires : goal.settle_larval-build_claimed-requires
settle_larval-build_claimed-requires g t c = λ κs b.
    let k = knows c.args.pass in let l = knows c.claim-pass.result.0 in
    let f : 6 * weight c.args.name.now + 2 < t = omega (arith, c.decreases) in
    let claims = claimed_it k l c.args.larval c.claim-pass.result.1 c.in-Some.field-0 c.claim-pass.ensures.turn (c.in-Ok.is ∙ ap (λ x. Ok x) c.in-Some.is) in
    (f, (b, (record { lock = c.claim-pass.ensures.lock; known = c.requires.ready.known; nested = c.requires.ready.nested }, begins k l c.args.larval claims (spelling c.args.name.now) c.claim-pass.ensures.sound (text_on k l _ c.args.larval (spelling c.args.name.now) claims.goes c.requires.begun))))

pub settle_larval-wait_for-requires-clause-began : goal.settle_larval-wait_for-requires-clause-began
settle_larval-wait_for-requires-clause-began g t c =
    let k = knows c.args.pass in let l = knows c.claim-pass.result.0 in
    began_on k l [] c.args.larval (claimed_none k l (Some c.args.larval) c.claim-pass.result.1 c.claim-pass.ensures.turn (c.in-Ok.is ∙ ap (λ x. Ok x) c.in-None.is)) (get_within (texts k.seen) c.args.larval (spelling c.args.name.now) c.requires.begun)

pub settle_larval-returns-in-None-clause-works : goal.settle_larval-returns-in-None-clause-works
settle_larval-returns-in-None-clause-works g t c =
    let k = knows c.args.pass in let l = knows c.claim-pass.result.0 in
    works_on k l (knows c.wait_for.result.0) (works_none k l (claimed_none k l (Some c.args.larval) c.claim-pass.result.1 c.claim-pass.ensures.turn (c.in-Ok.is ∙ ap (λ x. Ok x) c.in-None.is))) c.wait_for.ensures.works

pub settle_larval-returns-clause-works : goal.settle_larval-returns-clause-works
settle_larval-returns-clause-works g t c =
    let k = knows c.args.pass in let l = knows c.claim-pass.result.0 in
    closed k l c.args.larval (claimed_it k l c.args.larval c.claim-pass.result.1 c.in-Some.field-0 c.claim-pass.ensures.turn (c.in-Ok.is ∙ ap (λ x. Ok x) c.in-Some.is)) (knows c.build_claimed.result.0) c.build_claimed.ensures.closes

pub settle_larval-returns-in-Err-clause-works : goal.settle_larval-returns-in-Err-clause-works
settle_larval-returns-in-Err-clause-works g t c =
    let k = knows c.args.pass in let l = knows c.claim-pass.result.0 in
    works_none k l (claimed_not k l (Some c.args.larval) c.claim-pass.result.1 c.claim-pass.ensures.turn c.in-Err.field-0 c.in-Err.is)
