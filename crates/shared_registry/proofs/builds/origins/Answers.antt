use Rattle.std.proofs.Common.{[], ◌∷◌, ◌++◌, ◌≡◌, subst, get_or}
use Rattle.std.specs.Prelude.{OnOk}
use Rattle.std.specs.List.{filter_map}
use Rattle.alg_registry.specs.Rows.{registered}
use Rattle.alg_registry.specs.Made.{with_spec}
use Rattle.turn_lock.specs.Passes.{knows}
use Rattle.shared_registry.proofs.Waiting.{idles_still, idles_on}
use Rattle.shared_registry.proofs.Origins.{one_more, exist_on, exist_get}
use Rattle.shared_registry.proofs.builds.origins.Goals as goal

pub loop-id-init : goal.loop-id-init
loop-id-init g c = (c.requires.ready.lock, idles_still (knows c.args.pass) c.requires.ready.sound, c.new-below.ensures.items)

pub add_origin-back-requires-clause-exists : goal.add_origin-back-requires-clause-exists
add_origin-back-requires-clause-exists g c =
    exist_get (knows c.loop-id.mine).seen c.args.ids.now c.loop-id.id-index 0 (exist_on (knows c.args.pass) (knows c.loop-id.mine) [] c.args.ids.now c.loop-id.invariant.1.goes c.requires.exist) c.loop-id-test.true

pub loop-id-preserved : goal.loop-id-preserved
loop-id-preserved g c =
    let added : c.add_origin-back.new.below.items ≡ c.loop-id.below.items ++ filter_map (with_spec (registered (knows c.add_origin-back.result.0).seen)) (get_or c.args.ids.now c.loop-id.id-index 0 ∷ []) =
    subst (λ r. OnOk r (c.add_origin-back.new.below.items ≡ c.loop-id.below.items ++ filter_map (with_spec (registered (knows c.add_origin-back.result.0).seen)) (get_or c.args.ids.now c.loop-id.id-index 0 ∷ []))) c.in-Ok.is c.add_origin-back.ensures.ok in (
      c.add_origin-back.ensures.lock,
      idles_on (knows c.args.pass) (knows c.loop-id.mine) (knows c.add_origin-back.result.0) c.loop-id.invariant.1 c.add_origin-back.ensures.idles,
      one_more (knows c.args.pass) (knows c.loop-id.mine) (knows c.add_origin-back.result.0) c.args.ids.now c.loop-id.id-index c.loop-id.below.items c.add_origin-back.new.below.items c.loop-id.invariant.1 c.add_origin-back.ensures.idles c.requires.exist c.loop-id-test.true c.loop-id.invariant.2 added,
    )
