use Rattle.std.proofs.Common.{inr, subst}
use Rattle.kc_base.specs.Streams.{AppendsFront}
use Rattle.std.specs.Io.KnownBytes.{Appends}
use Rattle.script_run.specs.Endings.{traced}
use Rattle.client_run.specs.WithWorkers.{in_one, printed_by}
use Rattle.client_run.proofs.Written.{on-err, ok-is, front-more, front-then}
use Rattle.client_run.proofs.run.write_output.Goals as goal

pub returns-in_err-write_texts-clause-front : goal.returns-in_err-write_texts-clause-front
returns-in_err-write_texts-clause-front g c =
    let held = g.K.Sink.held in
    let o = c.in_ok-output.output in
    on-err _ _
    (inr (ok-is c.args.output o _ c.in_ok-output.was
    (front-more (held c.args.out.now) (held c.write_texts.new.out) (printed_by o) (traced c.args.trace c.args.registry.now c.args.board.now)
    (subst (λ t. AppendsFront (held c.args.out.now) (held c.write_texts.new.out) (in_one t)) c.as_slice.ensures.value c.in_err-write_texts.ensures.bytes))))

pub returns-in_err-put_traced-clause-front : goal.returns-in_err-put_traced-clause-front
returns-in_err-put_traced-clause-front g c =
    let held = g.K.Sink.held in
    let o = c.in_ok-output.output in
    on-err _ _
    (inr (ok-is c.args.output o _ c.in_ok-output.was
    (front-then (held c.args.out.now) (held c.write_texts.new.out) (held c.put_traced.new.out) (printed_by o) (traced c.args.trace c.args.registry.now c.args.board.now)
    (subst (λ t. Appends (held c.args.out.now) (held c.write_texts.new.out) (in_one t)) c.as_slice.ensures.value c.in_ok-write_texts.ensures.bytes) c.in_err-put_traced.ensures.bytes)))
