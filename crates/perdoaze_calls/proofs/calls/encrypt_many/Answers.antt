use Rattle.std.proofs.Common.{◌≡◌, ◌∙◌, Option, Some, refl, ap, subst}
use Rattle.perdoaze_calls.specs.Many.{CameTo}
use Rattle.perdoaze_calls.specs.declared.status.Status.TheVariants.{Invalid}
use Rattle.perdoaze_calls.specs.declared.transform.Transform.{Transform}
use Rattle.perdoaze_calls.proofs.calls.encrypt_many.Goals as goal

pub returns-in_default-clause-came : goal.returns-in_default-clause-came
returns-in_default-clause-came c = λ i l m.
    let refused = c.refuse_each.ensures.refused i l in
    subst (λ (held : Option Transform). CameTo held c.args.asked.now c.refuse_each.new.asked c.args.buffers.now c.args.buffers.now i) c.in_default.ensures.taken
    (Invalid, refused.0, (refl, (refl, refused.1)))

pub returns-clause-came : goal.returns-clause-came
returns-clause-came c = λ i l m.
    let is : Some c.deref.result.now ≡ c.args.slot.now.handle.value = ap (λ (t : Transform). Some t) c.deref.ensures ∙ c.in-Some.ensures.taken in
    subst (λ (held : Option Transform). CameTo held c.args.asked.now c.encrypt_many.new.asked c.args.buffers.now c.encrypt_many.new.buffers i) is (c.encrypt_many.ensures.came i l m)
