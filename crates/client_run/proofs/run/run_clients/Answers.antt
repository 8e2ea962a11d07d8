use Rattle.std.proofs.Common.{◌≡◌, ◌+◌, ◌^◌, ◌≤◌, All, Err, length, sym, subst, refl, inr, inl}
use Rattle.script_run.specs.Statuses.{status_of}
use Rattle.script_run.specs.declared.errors.RunError.TheVariants.{NoMemory}
use Rattle.client_run.proofs.Cut.{cut-count, cut-most, cut-of}
use Rattle.client_run.proofs.Written.{ran-clients, nothing-ran, read-status}
use Rattle.client_run.specs.Clients.{RanParts}
use Rattle.client_run.proofs.run.run_clients.Goals as goal

pub run_cut-requires-clause-count : goal.run_cut-requires-clause-count
run_cut-requires-clause-count g c = λ lifetimes bounds.
    let left = g.S.Source.left in
    let n = c.args.options.now.clients in
    let cut = cut-of n (left c.args.src.now) (left c.read_whole.new.src) c.in-Ok.input c.as_slice.result.now c.in-Ok-cut_parts.parts.items c.in-Ok.ensures.whole c.as_slice.ensures c.in-Ok-cut_parts.ensures in
    subst (λ parts. length parts ≡ n + 1) (sym c.as_slice-2.ensures.value) (cut-count n (left c.args.src.now) (left c.read_whole.new.src) c.in-Ok-cut_parts.parts.items cut)

pub run_cut-requires-clause-short : goal.run_cut-requires-clause-short
run_cut-requires-clause-short g c = λ lifetimes bounds.
    let left = g.S.Source.left in
    let n = c.args.options.now.clients in
    let cut = cut-of n (left c.args.src.now) (left c.read_whole.new.src) c.in-Ok.input c.as_slice.result.now c.in-Ok-cut_parts.parts.items c.in-Ok.ensures.whole c.as_slice.ensures c.in-Ok-cut_parts.ensures in
    subst (λ parts. All (λ part. length part ≤ 2 ^ 28) parts) (sym c.as_slice-2.ensures.value) (cut-most n (left c.args.src.now) (left c.read_whole.new.src) c.in-Ok-cut_parts.parts.items cut)

pub returns-in-Err-clause-ran : goal.returns-in-Err-clause-ran
returns-in-Err-clause-ran g c =
    let left = g.S.Source.left in
    let held = g.K.Sink.held in
    let o = c.args.options.now in
    let none = c.refused_run.ensures in
    rw (none.0, none.1, none.2)
    (nothing-ran o.workers o.clients o.trace (status_of (Err c.in-Err.error)) (left c.args.src.now) (left c.read_whole.new.src) (held c.args.out.now) (read-status c.in-Err.error c.in-Err.ensures.causes))

pub returns-in_default-clause-ran : goal.returns-in_default-clause-ran
returns-in_default-clause-ran g c =
    let left = g.S.Source.left in
    let held = g.K.Sink.held in
    let o = c.args.options.now in
    let none = c.refused_run-in_default.ensures in
    rw (none.0, none.1, none.2) (nothing-ran o.workers o.clients o.trace (status_of (Err NoMemory)) (left c.args.src.now) (left c.read_whole.new.src) (held c.args.out.now) (inr (inl refl)))

pub returns-clause-ran : goal.returns-clause-ran
returns-clause-ran g c =
    let left = g.S.Source.left in
    let held = g.K.Sink.held in
    let o = c.args.options.now in
    let run = c.run_cut in
    let cut = cut-of o.clients (left c.args.src.now) (left c.read_whole.new.src) c.in-Ok.input c.as_slice.result.now c.in-Ok-cut_parts.parts.items c.in-Ok.ensures.whole c.as_slice.ensures c.in-Ok-cut_parts.ensures in
    ran-clients o.clients (left c.args.src.now) (left c.read_whole.new.src) c.in-Ok-cut_parts.parts.items cut
    o.workers o.trace (held c.args.out.now) (held run.new.out) run.result.registry run.result.board run.result.answer c.requires.few c.client_traces_can_be_read.ensures
    (subst (λ parts. RanParts o.workers o.clients o.trace parts (held c.args.out.now) (held run.new.out) run.result.registry run.result.board run.result.answer) c.as_slice-2.ensures.value run.ensures.ran)
