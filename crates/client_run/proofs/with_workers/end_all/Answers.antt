use Rattle.turn_lock.specs.Passes.{knows}
use Rattle.std.proofs.Common.{◌++◌, ◌∙◌, ap}
use Rattle.client_texts.specs.Outputs.{under_headings}
use Rattle.client_run.specs.WithWorkers.{printed_by, texts_in}
use Rattle.client_run.proofs.Gathered.{on-ok}
use Rattle.client_run.proofs.Joins.{err-of, ok-case, ends-behind, ok-map}
use Rattle.client_run.proofs.Rest.{shut-last}
use Rattle.client_run.proofs.with_workers.end_all.Goals as goal

pub returns-in-Err-clause-shut : goal.returns-in-Err-clause-shut
returns-in-Err-clause-shut g c = shut-last c.end_laws.ensures.shut (knows c.args.pass) (knows c.shut.result) c.requires.gone c.shut.ensures.turn

pub returns-in-Err-Memory-clause-shut : goal.returns-in-Err-Memory-clause-shut
returns-in-Err-Memory-clause-shut g c =
    let stopped = err-of _ _ c.end_first-pass.result.1 c.in-Err-Memory.field-0 c.in-Err-Memory.is c.end_first-pass.ensures.done in
    shut-last c.end_laws.ensures.shut (knows c.end_first-pass.result.0) (knows c.shut-in-Err-Memory.result) stopped.gone c.shut-in-Err-Memory.ensures.turn

pub returns-in-Ok-ended-clause-done : goal.returns-in-Ok-ended-clause-done
returns-in-Ok-ended-clause-done g c =
    let first = c.args.first.reply.text in
    let o = c.in-Ok.output in
    let k = knows c.args.pass in
    let l = knows c.end_first-pass.result.0 in
    let last = c.end_first-pass.new.reply.text in
    ok-map _ _ c.ended_with.result
    (λ now h. on-ok _ _ c.args.outs
    (λ outs puts. record {
      said = puts.said;
      all = puts.all;
      ends =
          ends-behind (first ++ under_headings 1 (texts_in puts.said)) c.args.shared.now k l (printed_by o) c.new-last.result.text last (printed_by now) (ap (λ w. w.text) c.new-last.ensures) puts.text_is h.0
          (ok-case _ _ c.end_first-pass.result.1 c.in-Ok-ended.field-0 c.in-Ok-ended.is c.end_first-pass.ensures.done);
      malformed = h.1 ∙ puts.malformed;
    })
    c.in-Ok.ensures.texts)
    c.ended_with.ensures
