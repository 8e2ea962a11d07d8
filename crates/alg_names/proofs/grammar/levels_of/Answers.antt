use Rattle.std.proofs.Common.{◌≡◌, true, false, inl, inr, take, sym, ◌∙◌, subst, arith}
use Rattle.std.proofs.lemmas.List.{take_all, length-take-le}
use Rattle.alg_names.specs.Reader.{run, start}
use Rattle.alg_names.specs.Scan.{Shows}
use Rattle.alg_names.proofs.Scanned.{shown_room, shown_next, lost_place, shown_name, shown_none}
use Rattle.alg_names.proofs.grammar.levels_of.Goals as goal
use Rattle.alg_names.proofs.grammar.levels_of.Goals.{else-scan-eq0-via-then-scan-eq0+else-not-matches, in-Begins, in_default, else-scan-eq0-via-else-scan-eq0}

pub next-requires : goal.next-requires
next-requires c = omega (arith, shown_room (take c.loop-i.i c.args.text.now) c.loop-i.scan c.loop-i.invariant, length-take-le c.loop-i.i c.args.text.now)

pub returns-in-None-clause-place : goal.returns-in-None-clause-place
returns-in-None-clause-place c = lost_place c.args.text.now c.loop-i.i c.loop-i.scan c.loop-i-test.true c.loop-i.invariant (c.in-None.ensures (run start (take c.loop-i.i c.args.text.now)) c.loop-i.invariant)

pub loop-i-preserved : goal.loop-i-preserved
loop-i-preserved c = shown_next c.args.text.now c.loop-i.i c.in-Some.further c.loop-i-test.true (c.in-Some.ensures (run start (take c.loop-i.i c.args.text.now)) c.loop-i.invariant)

pub returns-then-not-matches-clause-name : goal.returns-then-not-matches-clause-name
returns-then-not-matches-clause-name c =
    let k : Shows (run start c.args.text.now) c.loop-i.scan = subst (λ a. Shows (run start a) c.loop-i.scan) (take_all c.loop-i.i c.args.text.now c.loop-i-test.false) c.loop-i.invariant in
    shown_name c.args.text.now c.loop-i.scan k c.if-scan-eq0.true (elim c.match-matches.branch [ in-Begins w ↦ (λ e. cc) | in_default w ↦ w.in_default.not-Begins ])

pub returns-else-scan-eq0-clause-place : goal.returns-else-scan-eq0-clause-place
returns-else-scan-eq0-clause-place c =
    let k : Shows (run start c.args.text.now) c.loop-i.scan = subst (λ a. Shows (run start a) c.loop-i.scan) (take_all c.loop-i.i c.args.text.now c.loop-i-test.false) c.loop-i.invariant in
    shown_none c.args.text.now c.loop-i.scan k (elim c.else-scan-eq0.branch [ else-scan-eq0-via-then-scan-eq0+else-not-matches w ↦ inr (elim w.match-matches.branch [ in-Begins v ↦ v.in-Begins.is | in_default v ↦ absurd (let e : false ≡ true = sym v.matches-is ∙ w.if-not-matches.false in cc) ]) | else-scan-eq0-via-else-scan-eq0 w ↦ inl w.if-scan-eq0.false ])
