use Rattle.script_session.proofs.Finding.{made-said}
use Rattle.script_session.proofs.scripts.Session.add_live.Goals as goal

pub returns : goal.returns
returns g c =
    made-said c.args.number c.args.wanted.now.label.now c.args.wanted.now.length c.args.chosen.id c.args.chosen.spec c.args.chosen.plan c.args.self.now c.make_live.new.self _ _ c.say.result c.in_ok-make_live.ensures c.say.ensures
