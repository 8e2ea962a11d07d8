use Rattle.std.proofs.Common.{arith, sym, subst, ◌∙◌}
use Rattle.std.proofs.lemmas.Result.{err_from_is_err_and}
use Rattle.script_text.specs.LineCutter.{CutsNext}
use Rattle.script_text.proofs.Searching.{search_begins, search_finds, search_stops, search_ends, search_on, search_fails}
use Rattle.script_text.proofs.line_reader.LineReader.next.Goals as goal

pub loop-self-init : goal.loop-self-init
loop-self-init g c = record { searched = λ pending stands. search_begins pending c.args.self.now (g.S.Source.left c.args.src.now) stands; later = omega arith }

pub returns-in_err-line-clause-line : goal.returns-in_err-line-clause-line
returns-in_err-line-clause-line g c = λ pending stands.
    let p = err_from_is_err_and c.from_residual.result c.from_residual.ensures.1 in
    rw (p.1, p.2)
    (search_stops pending c.args.self.now c.loop-self.self (g.S.Source.left c.args.src.now) (g.S.Source.left c.loop-self.src) (c.loop-self.invariant.searched pending stands)
    c.cut_next.new.self c.in_err-line.field-0.0 c.in_err-line.ensures.memory c.in_err-line.ensures.ended)

pub returns-in-Some-clause-line : goal.returns-in-Some-clause-line
returns-in-Some-clause-line g c = λ pending stands.
    search_finds pending c.args.self.now c.loop-self.self (g.S.Source.left c.args.src.now) (g.S.Source.left c.loop-self.src) (c.loop-self.invariant.searched pending stands)
    c.cut_next.new.self c.in-Some.line (subst (CutsNext c.loop-self.self.kept c.cut_next.new.self.kept) c.in-Some.is c.in_ok-line.ensures.line) c.in_ok-line.ensures.room c.in_ok-line.ensures.ended
    (sym c.has_ended.ensures ∙ c.loop-self-test.true)

pub loop-self-preserved : goal.loop-self-preserved
loop-self-preserved g c = record {
  searched = λ pending stands.
      search_on pending c.args.self.now c.loop-self.self (g.S.Source.left c.args.src.now) (g.S.Source.left c.loop-self.src) (c.loop-self.invariant.searched pending stands)
      c.cut_next.new.self c.fill.new.self (g.S.Source.left c.fill.new.src) (subst (CutsNext c.loop-self.self.kept c.cut_next.new.self.kept) c.in_default.is c.in_ok-line.ensures.line) c.in_ok-line.ensures.room c.in_ok-line.ensures.ended
      (sym c.has_ended.ensures ∙ c.loop-self-test.true) c.in_ok-fill.ensures.piece;
  later = omega arith;
}

pub returns-in_err-fill-clause-line : goal.returns-in_err-fill-clause-line
returns-in_err-fill-clause-line g c = λ pending stands.
    let p = err_from_is_err_and c.from_residual-in_err-fill.result c.from_residual-in_err-fill.ensures.1 in
    rw (p.1, p.2)
    (search_fails pending c.args.self.now c.loop-self.self (g.S.Source.left c.args.src.now) (g.S.Source.left c.loop-self.src) (c.loop-self.invariant.searched pending stands)
    c.cut_next.new.self c.fill.new.self (g.S.Source.left c.fill.new.src) (subst (CutsNext c.loop-self.self.kept c.cut_next.new.self.kept) c.in_default.is c.in_ok-line.ensures.line) c.in_ok-line.ensures.room c.in_ok-line.ensures.ended
    (sym c.has_ended.ensures ∙ c.loop-self-test.true) c.in_err-fill.field-0.0 c.in_err-fill.ensures.piece)

pub returns-clause-line : goal.returns-clause-line
returns-clause-line g c = λ pending stands.
    search_ends pending c.args.self.now c.loop-self.self (g.S.Source.left c.args.src.now) (g.S.Source.left c.loop-self.src) (c.loop-self.invariant.searched pending stands)
    c.cut_last.new.self c.cut_last.result c.cut_last.ensures.line c.cut_last.ensures.memory c.cut_last.ensures.room c.cut_last.ensures.ended
    (sym c.has_ended.ensures ∙ c.loop-self-test.false)
