use Rattle.script_session.proofs.Probed.{look-made}
use Rattle.script_session.proofs.probe_command.look_for.Goals as goal

pub returns-in_ok-look-in-Ok : goal.returns-in_ok-look-in-Ok
returns-in_ok-look-in-Ok g c =
    look-made c.args.text.now c.in-Ok.name c.in_ok-look-in-Ok.field-0 c.in-Ok.ensures.ok c.in-Ok.ensures.spelled c.in_ok-look-in-Ok.ensures.looks.0 c.in_ok-look-in-Ok.ensures.looks.1 c.in_ok-look-in-Ok.ensures.sound
