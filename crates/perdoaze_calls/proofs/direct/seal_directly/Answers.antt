use Rattle.std.proofs.Common.{refl, sym, ◌∙◌}
use Rattle.transforms.specs.InPlace.{sealing}
use Rattle.transforms.specs.declared.request.Request.{Request}
use Rattle.perdoaze_calls.proofs.direct.seal_directly.Goals as goal

pub returns-clause-sealed : goal.returns-clause-sealed
returns-clause-sealed c = λ yes.
    let ok = c.goes_directly.ensures c.if-not-goes_directly.false in
    let q : Request = sealing c.args.iv.now c.args.aad.now c.args.text.now in
    (c.in-Some.ensures.taken c.args.tag_size q refl ok.0 ok.2, sym (c.in-Some.ensures.values c.args.tag_size q refl) ∙ c.seal_by.ensures.sealed)
