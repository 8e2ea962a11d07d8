use Rattle.alg_names.specs.Name.{spelling}
use Rattle.turn_lock.specs.Passes.{knows}
use Rattle.shared_registry.proofs.Outcomes.{answered, settled, exists_on}
use Rattle.shared_registry.proofs.builds.settle.Goals as goal

pub settle_within-requires-clause-text : goal.settle_within-requires-clause-text
settle_within-requires-clause-text g c = (answered c.learn_name.ensures.laws (knows c.args.pass) (spelling c.args.name.now) c.args.looked c.requires.sound c.requires.answered).0

pub returns-clause-settled : goal.returns-clause-settled
returns-clause-settled g c =
    let k = knows c.args.pass in let l = knows c.settle_within.result.0 in
    settled c.learn_name.ensures.laws l c.args.looked c.settle_within.result.1 c.settle_within.ensures.ready.sound.faithful.legal
    (exists_on k l c.settle_within.ensures.works.work c.args.looked c.settle_within.ensures.works.goes (answered c.learn_name.ensures.laws k (spelling c.args.name.now) c.args.looked c.requires.sound c.requires.answered).1) c.settle_within.ensures.comes
