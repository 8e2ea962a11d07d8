use Rattle.std.specs.Prelude.{IsSome}
use Rattle.std.proofs.Common.{refl, ◌≡◌, ◌<◌, length, sym, subst}
use Rattle.board.specs.Entries.{entries_of, submissions, front}
use Rattle.board.specs.Legal.{IsOpen}
use Rattle.board.specs.Places.{places}
use Rattle.board.proofs.KeptCalls.{kept_open, done_step, undone_step}
use Rattle.board.proofs.board_core.BoardCore.try_drain.Goals as goal

pub index-place-requires : goal.index-place-requires
index-place-requires g c =
    let open_ : IsOpen (entries_of c.args.pipe c.self.inside.log.items) = subst (λ h. IsOpen (entries_of c.args.pipe h)) (sym c.self.view_is) c.requires.pipe in
    let there = kept_open g.W.Work.asked g.W.Work.meaning (places c.self.inside.pipes) c.self.inside.born c.self.inside.log.items c.args.pipe c.self.invariant.0 open_ in
    subst (λ o. IsSome o) (sym there.1) refl

pub returns-then-not-is_done-clause-drained : goal.returns-then-not-is_done-clause-drained
returns-then-not-is_done-clause-drained g c =
    let open_ : IsOpen (entries_of c.args.pipe c.self.inside.log.items) = subst (λ h. IsOpen (entries_of c.args.pipe h)) (sym c.self.view_is) c.requires.pipe in
    subst (λ h. front (entries_of c.args.pipe h) < length (submissions (entries_of c.args.pipe h))) c.self.view_is
    (undone_step g.W.Work.asked g.W.Work.meaning c.self.inside.pipes c.self.inside.born c.self.inside.log.items c.args.pipe c.index-place.result.now c.self.invariant.0 c.index-place.ensures c.if-not-is_done.ensures)

pub returns-clause-drained : goal.returns-clause-drained
returns-clause-drained g c =
    let open_ : IsOpen (entries_of c.args.pipe c.self.inside.log.items) = subst (λ h. IsOpen (entries_of c.args.pipe h)) (sym c.self.view_is) c.requires.pipe in
    subst (λ h. front (entries_of c.args.pipe h) ≡ length (submissions (entries_of c.args.pipe h))) c.self.view_is
    (done_step g.W.Work.asked g.W.Work.meaning c.self.inside.pipes c.self.inside.born c.self.inside.log.items c.args.pipe c.index-place.result.now c.self.invariant.0 c.index-place.ensures c.if-not-is_done.ensures)
