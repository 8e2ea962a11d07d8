use Rattle.std.proofs.Common.{◌∙◌, sym, ap, refl, Err}
use Rattle.script_session.specs.Probe.{Searched}
use Rattle.script_session.proofs.Probed.{settles-refused}
use Rattle.script_session.proofs.probe_command.settle.Goals as goal

pub returns-in-Err : goal.returns-in-Err
returns-in-Err g c =
    settles-refused c.args.caller.now c.args.line c.args.search.now c.in-Err.errno (Err c.in-Err.errno) c.in_ok-name.name c.found_answer-in-Err.result
    (ap (λ (x : Searched). x.look) (sym c.search.view_is) ∙ c.in-Err.is) refl
    (c.in_ok-name.ensures ∙ (c.as_slice.ensures ∙ ap (λ (x : Searched). x.text) c.search.view_is)) c.found_answer-in-Err.ensures
