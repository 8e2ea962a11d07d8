use Rattle.std.proofs.Common.{Ok, Err, ap, subst, le_refl, le_trans}
use Rattle.std.proofs.lemmas.Result.{err_from_is_err_and}
use Rattle.script_text.specs.NextLine.{FindsNext}
use Rattle.script_run.proofs.Exits.{running-begins, running-more, runs-unread, runs-broken, runs-end_broken, runs-whole, tells-unread, tells-unwritten, tells-none}
use Rattle.script_run.proofs.lines.run_read.Goals as goal

pub loop-line-init : goal.loop-line-init
loop-line-init g c =
    let held = g.K.Sink.held in
    let left = g.S.Source.left in
    record {
      at = running-begins c.laws.ensures c.whole_lines_stay.ensures.stay c.whole_lines_stay.ensures.none c.args.session.now c.args.registry.now c.args.board.now c.args.reader.now (left c.args.src.now) (held c.args.out.now) c.requires.unread c.requires.ready c.requires.fresh;
      read_later = le_refl (g.S.Source.faults c.args.src.now);
      written_later = le_refl (g.K.Sink.faults c.args.out.now);
    }

pub returns-in_err-line-clause-run : goal.returns-in_err-line-clause-run
returns-in_err-line-clause-run g c =
    let held = g.K.Sink.held in
    let left = g.S.Source.left in
    let at = c.loop-line.invariant.at in
    let p = err_from_is_err_and c.from_residual.result c.from_residual.ensures.1 in
    rw (p.1, p.2)
    (runs-unread c.laws.ensures c.whole_lines_stay.ensures.stay c.whole_lines_stay.ensures.none c.args.session.now c.args.registry.now c.args.board.now
    c.loop-line.number c.loop-line.reader c.next.new.self (left c.args.src.now) (left c.loop-line.src) (left c.next.new.src) (held c.args.out.now) (held c.loop-line.out) c.loop-line.malformed c.loop-line.session at c.in_err-line.field-0.0 (c.in_err-line.ensures.line at.pending at.reading.stands))

pub returns-in_err-bad-clause-run : goal.returns-in_err-bad-clause-run
returns-in_err-bad-clause-run g c =
    let held = g.K.Sink.held in
    let left = g.S.Source.left in
    let at = c.loop-line.invariant.at in
    let found = subst (FindsNext at.pending c.loop-line.reader c.next.new.self (left c.loop-line.src) (left c.next.new.src)) (ap (λ o. Ok o) c.in-Some.is) (c.in_ok-line.ensures.line at.pending at.reading.stands) in
    let p = err_from_is_err_and c.from_residual-in_err-bad.result c.from_residual-in_err-bad.ensures.1 in
    rw (p.1, p.2)
    (runs-broken c.laws.ensures c.whole_lines_stay.ensures.stay c.whole_lines_stay.ensures.none c.args.session.now c.args.registry.now c.args.board.now
    c.loop-line.number c.loop-line.reader c.next.new.self (left c.args.src.now) (left c.loop-line.src) (left c.next.new.src) (held c.args.out.now) (held c.loop-line.out) c.loop-line.malformed c.loop-line.session at c.in-Some.line found (held c.run_line.new.out) c.run_line.new.session c.in_err-bad.field-0.0 c.in_err-bad.ensures.done (λ is. c.in_err-bad.ensures.cut (ap (λ x. Err x) is)) c.run_line.ensures.unshut)

pub loop-line-preserved : goal.loop-line-preserved
loop-line-preserved g c =
    let held = g.K.Sink.held in
    let left = g.S.Source.left in
    let at = c.loop-line.invariant.at in
    let found = subst (FindsNext at.pending c.loop-line.reader c.next.new.self (left c.loop-line.src) (left c.next.new.src)) (ap (λ o. Ok o) c.in-Some.is) (c.in_ok-line.ensures.line at.pending at.reading.stands) in
    record {
      at =
          running-more c.laws.ensures c.whole_lines_stay.ensures.stay c.whole_lines_stay.ensures.none c.args.session.now c.args.registry.now c.args.board.now
          c.loop-line.number c.loop-line.reader c.next.new.self (left c.args.src.now) (left c.loop-line.src) (left c.next.new.src) (held c.args.out.now) (held c.loop-line.out) c.loop-line.malformed c.loop-line.session at c.in-Some.line found (held c.run_line.new.out) c.run_line.new.session c.in_ok-bad.bad c.in_ok-bad.ensures.malformed c.in_ok-bad.ensures.done c.in_ok-bad.ensures.ready;
      read_later = le_trans c.loop-line.invariant.read_later c.next.ensures.later;
      written_later = le_trans c.loop-line.invariant.written_later c.run_line.ensures.later;
    }

pub returns-in_err-run_end-clause-run : goal.returns-in_err-run_end-clause-run
returns-in_err-run_end-clause-run g c =
    let held = g.K.Sink.held in
    let left = g.S.Source.left in
    let at = c.loop-line.invariant.at in
    let found = subst (FindsNext at.pending c.loop-line.reader c.next.new.self (left c.loop-line.src) (left c.next.new.src)) (ap (λ o. Ok o) c.in_default.is) (c.in_ok-line.ensures.line at.pending at.reading.stands) in
    let p = err_from_is_err_and c.from_residual-in_err-run_end.result c.from_residual-in_err-run_end.ensures.1 in
    rw (p.1, p.2)
    (runs-end_broken c.laws.ensures c.whole_lines_stay.ensures.stay c.whole_lines_stay.ensures.none c.args.session.now c.args.registry.now c.args.board.now
    c.loop-line.number c.loop-line.reader c.next.new.self (left c.args.src.now) (left c.loop-line.src) (left c.next.new.src) (held c.args.out.now) (held c.loop-line.out) c.loop-line.malformed c.loop-line.session at found (held c.run_end.new.out) c.run_end.new.session c.in_err-run_end.field-0.0 c.in_err-run_end.ensures.done (λ is. c.in_err-run_end.ensures.cut (ap (λ x. Err x) is)) c.run_end.ensures.unshut)

pub returns-clause-run : goal.returns-clause-run
returns-clause-run g c =
    let held = g.K.Sink.held in
    let left = g.S.Source.left in
    let at = c.loop-line.invariant.at in
    let found = subst (FindsNext at.pending c.loop-line.reader c.next.new.self (left c.loop-line.src) (left c.next.new.src)) (ap (λ o. Ok o) c.in_default.is) (c.in_ok-line.ensures.line at.pending at.reading.stands) in
    runs-whole c.laws.ensures c.whole_lines_stay.ensures.stay c.whole_lines_stay.ensures.none c.args.session.now c.args.registry.now c.args.board.now
    c.loop-line.number c.loop-line.reader c.next.new.self (left c.args.src.now) (left c.loop-line.src) (left c.next.new.src) (held c.args.out.now) (held c.loop-line.out) c.loop-line.malformed c.loop-line.session at found (held c.run_end.new.out) c.run_end.new.session c.in_ok-run_end.ensures.done c.in_ok-run_end.ensures.shut

-- ---- faults

pub returns-in_err-line-clause-faults : goal.returns-in_err-line-clause-faults
returns-in_err-line-clause-faults g c =
    let reads = g.S.Source.faults in
    let writes = g.K.Sink.faults in
    let at = c.loop-line.invariant in
    let p = err_from_is_err_and c.from_residual.result c.from_residual.ensures.1 in
    rw (p.1, p.2)
    (tells-unread c.in_err-line.field-0.0 (reads c.args.src.now) (reads c.loop-line.src) (reads c.next.new.src) (writes c.args.out.now) (writes c.loop-line.out)
    at.read_later (λ is. c.in_err-line.ensures.cause (ap (λ x. Err x) is)) at.written_later)

pub returns-in_err-bad-clause-faults : goal.returns-in_err-bad-clause-faults
returns-in_err-bad-clause-faults g c =
    let reads = g.S.Source.faults in
    let writes = g.K.Sink.faults in
    let p = err_from_is_err_and c.from_residual-in_err-bad.result c.from_residual-in_err-bad.ensures.1 in
    rw (p.1, p.2)
    (tells-unwritten c.in_err-bad.field-0.0 (reads c.args.src.now) (reads c.next.new.src) (writes c.args.out.now) (writes c.loop-line.out) (writes c.run_line.new.out)
    c.loop-line.invariant.written_later c.run_line.ensures.later (λ is. c.in_err-bad.ensures.cause (ap (λ x. Err x) is)))

pub returns-in_err-run_end-clause-faults : goal.returns-in_err-run_end-clause-faults
returns-in_err-run_end-clause-faults g c =
    let reads = g.S.Source.faults in
    let writes = g.K.Sink.faults in
    let p = err_from_is_err_and c.from_residual-in_err-run_end.result c.from_residual-in_err-run_end.ensures.1 in
    rw (p.1, p.2)
    (tells-unwritten c.in_err-run_end.field-0.0 (reads c.args.src.now) (reads c.next.new.src) (writes c.args.out.now) (writes c.loop-line.out) (writes c.run_end.new.out)
    c.loop-line.invariant.written_later c.run_end.ensures.later (λ is. c.in_err-run_end.ensures.cause (ap (λ x. Err x) is)))

pub returns-clause-faults : goal.returns-clause-faults
returns-clause-faults g c =
    let reads = g.S.Source.faults in
    let writes = g.K.Sink.faults in
    tells-none c.loop-line.malformed (reads c.args.src.now) (reads c.next.new.src) (writes c.args.out.now) (writes c.run_end.new.out)
    (le_trans c.loop-line.invariant.written_later c.run_end.ensures.later)
