use Rattle.std.proofs.Common.{arith, ◌-◌, ◌≡◌, ◌<◌, ◌∙◌, length, sym, ap, subst, deque_len, ne_eqb}
use Rattle.std.specs.Prelude.{◌==◌, MatchBool}
use Rattle.padata_core.specs.Pad.{running_of, kept_at, outcomes_from}
use Rattle.padata_core.proofs.Running.{done_cases, undone, empty_or, positive}
use Rattle.padata_core.proofs.Padata.is_done.Goals as goal

pub returns-then-self-eq0 : goal.returns-then-self-eq0
returns-then-self-eq0 g c =
    let none = c.is_empty.result in
    let n : deque_len c.self.inside.waiting ≡ length c.self.inside.waiting.items = omega (arith, c.self.inside.waiting.ok.0) in
    let e = empty_or (length c.self.inside.waiting.items) none (c.is_empty.ensures ∙ ap (λ n. n == 0) n) in
    done_cases c.args.self.now none (subst (λ p. running_of p.outcomes ≡ 0) c.self.view_is (sym c.self.invariant.2 ∙ c.if-self-eq0.true))
    (subst (λ p. MatchBool none (length p.waiting ≡ 0) (0 < length p.waiting)) c.self.view_is e)

pub returns-else-self-eq0 : goal.returns-else-self-eq0
returns-else-self-eq0 g c =
    let p = positive c.self.inside.running c.if-self-eq0.false in
    let q : 0 < running_of (outcomes_from (kept_at c.self.inside.rows.items c.self.inside.lists) c.self.inside.collected (c.self.inside.taken - c.self.inside.collected)) = omega (arith, p, c.self.invariant.2) in
    rw (ne_eqb c.self.inside.running 0 c.if-self-eq0.false) (undone c.args.self.now (subst (λ p. 0 < running_of p.outcomes) c.self.view_is q))
