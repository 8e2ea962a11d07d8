use Rattle.std.proofs.Common.{refl, ◌∙◌, subst, sym}
use Rattle.turn_lock.specs.Passes.{knows}
use Rattle.shared_registry.specs.Own.{MayLook}
use Rattle.shared_registry.specs.Builds.{Looks, HasText}
use Rattle.shared_registry.proofs.Answering.{may_look, has_looked, looked_not}
use Rattle.shared_registry.proofs.builds.look_for.Goals as goal

pub look-pass-requires-clause-may : goal.look-pass-requires-clause-may
look-pass-requires-clause-may g c =
    subst (λ text. MayLook (knows c.args.pass) text c.args.plain) (sym (c.as_slice.ensures ∙ c.in-Ok.ensures))
    (may_look (knows c.args.pass) c.args.name.now c.args.plain c.learn_name.ensures c.requires.nested c.requires.may)

pub returns-in-Ok-looked-clause-ok : goal.returns-in-Ok-looked-clause-ok
returns-in-Ok-looked-clause-ok g c =
    subst (λ text. Looks (knows c.args.pass) (knows c.look-pass.result.0) text c.args.plain c.in-Ok-looked.looked × HasText (knows c.look-pass.result.0).seen text c.in-Ok-looked.looked) (c.as_slice.ensures ∙ c.in-Ok.ensures)
    (has_looked (knows c.args.pass) (knows c.look-pass.result.0) c.as_slice.result.now c.args.plain c.look-pass.result.1 c.look-pass.ensures.turn c.learn_name.ensures.laws.named c.in-Ok-looked.looked c.look-pass.ensures.sound c.in-Ok-looked.is)

pub returns-in-Ok-clause-err : goal.returns-in-Ok-clause-err
returns-in-Ok-clause-err g c = (
  refl,
  looked_not (knows c.args.pass) (knows c.look-pass.result.0) c.as_slice.result.now c.args.plain c.look-pass.result.1 c.look-pass.ensures.turn c.in-Err-looked.field-0 c.in-Err-looked.is,
)
