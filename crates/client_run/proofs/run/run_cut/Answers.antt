use Rattle.std.proofs.Common.{◌≤◌, ◌^◌, ◌∷◌, length, sym, ap, subst, ◌∙◌}
use Rattle.client_run.proofs.Cut.{cut-first, cut-ran}
use Rattle.client_run.proofs.Written.{ran-parts, no-parts}
use Rattle.client_run.proofs.run.run_cut.Goals as goal

pub run_parts-output-requires-clause-short : goal.run_parts-output-requires-clause-short
run_parts-output-requires-clause-short g c = λ lifetimes bounds.
    let all = cut-first c.args.parts.now c.in-Some.rest.now c.in-Some.first.now c.in-Some.ensures.cases.0 c.requires.short in
    (subst (λ part. length part ≤ 2 ^ 28) (sym c.as_slice.ensures) all.0, all.1)

pub returns-in_default-clause-ran : goal.returns-in_default-clause-ran
returns-in_default-clause-ran g c =
    let none = c.refused_run.ensures in
    rw (none.0, none.1, none.2) (no-parts c.args.options.now.workers c.args.options.now.clients c.args.options.now.trace c.args.parts.now (g.K.Sink.held c.args.out.now))

pub returns-clause-ran : goal.returns-clause-ran
returns-clause-ran g c =
    let held = g.K.Sink.held in
    let o = c.args.options.now in
    let run = c.run_parts-output in
    let wrote = c.write_output-answer in
    ran-parts o.workers o.clients o.trace c.args.parts.now (held c.args.out.now) (held wrote.new.out) run.result.registry run.result.board run.result.output wrote.result
    (cut-ran o.workers o.clients c.args.parts.now c.in-Some.rest.now c.as_slice.result.now run.result.registry run.result.board run.result.output
    (c.in-Some.ensures.cases.0 ∙ ap (λ part. part ∷ c.in-Some.rest.now) (sym c.as_slice.ensures)) c.in-Some.ensures.cases.1 c.requires.count run.ensures.ran)
    wrote.ensures.whole wrote.ensures.nothing wrote.ensures.fits wrote.ensures.front wrote.ensures.causes
