use Rattle.std.proofs.Common.{arith, ◌≡◌, ◌+◌, ap, sym, ◌∙◌, subst, refl, false, cond}
use Rattle.board.specs.declared.entry.BoardEntry.TheVariants.{Shut}
use Rattle.board.specs.Legal.{is_shut}
use Rattle.board.specs.Places.{places}
use Rattle.board.specs.Kept.{owed_by}
use Rattle.board.proofs.KeptUsed.{used_same}
use Rattle.board.proofs.KeptCalls.{shut_step}
use Rattle.board.proofs.board_core.BoardCore.shut.Goals as goal

pub push_reserved-requires : goal.push_reserved-requires
push_reserved-requires g c =
    let o = subst (λ h. is_shut h ≡ false) (sym c.self.view_is) c.requires.once in
    let b = sym c.self.invariant.1 ∙ o in
    let n : c.self.inside.owed ≡ owed_by c.self.inside.pipes + 1 = c.self.invariant.3 ∙ ap (λ x. owed_by c.self.inside.pipes + cond x 0 1) b in
    omega (arith, c.self.invariant.2, n)

pub overflow_sub-self : goal.overflow_sub-self
overflow_sub-self g c =
    let o = subst (λ h. is_shut h ≡ false) (sym c.self.view_is) c.requires.once in
    let b = sym c.self.invariant.1 ∙ o in
    let n : c.self.inside.owed ≡ owed_by c.self.inside.pipes + 1 = c.self.invariant.3 ∙ ap (λ x. owed_by c.self.inside.pipes + cond x 0 1) b in
    omega (arith, n)

pub invariant_of-self : goal.invariant_of-self
invariant_of-self g c =
    let o = subst (λ h. is_shut h ≡ false) (sym c.self.view_is) c.requires.once in
    let b = sym c.self.invariant.1 ∙ o in
    let n : c.self.inside.owed ≡ owed_by c.self.inside.pipes + 1 = c.self.invariant.3 ∙ ap (λ x. owed_by c.self.inside.pipes + cond x 0 1) b in
    let s = shut_step g.W.Work.asked g.W.Work.meaning (places c.self.inside.pipes) c.self.inside.born c.self.inside.log.items c.args.caller c.self.invariant.0 c.requires.caller o in (
      rw c.push_reserved.ensures.items s.0,
      rw c.push_reserved.ensures.items s.1,
      omega (arith, n, c.self.invariant.2, c.push_reserved.ensures.len, c.push_reserved.ensures.capacity),
      omega (arith, n),
      rw c.push_reserved.ensures.items (used_same g.W.Work.weight c.self.inside.used c.self.inside.log.items (Shut c.args.caller) refl c.self.invariant.4),
      c.self.invariant.5,
      c.self.invariant.6,
    )

pub returns-clause-legal : goal.returns-clause-legal
returns-clause-legal g c = (invariant_of-self g c).0.legal
