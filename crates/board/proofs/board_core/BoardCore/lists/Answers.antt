use Rattle.std.specs.Prelude.{IsSome}
use Rattle.std.proofs.Common.{inl, refl, sym, ◌∙◌, ap, subst}
use Rattle.board.specs.Entries.{entries_of, lists_for}
use Rattle.board.specs.Legal.{IsOpenPad}
use Rattle.board.specs.Places.{places}
use Rattle.board.proofs.KeptCalls.{kept_open, pad_here}
use Rattle.board.proofs.KeptLists.{pad_no_queue}
use Rattle.board.proofs.board_core.BoardCore.lists.Goals as goal

pub index-place-requires : goal.index-place-requires
index-place-requires g c =
    let open_ : IsOpenPad (entries_of c.args.pipe c.self.inside.log.items) = subst (λ h. IsOpenPad (entries_of c.args.pipe h)) (sym c.self.view_is) c.requires in
    let there = kept_open g.W.Work.asked g.W.Work.meaning (places c.self.inside.pipes) c.self.inside.born c.self.inside.log.items c.args.pipe c.self.invariant.0 (inl open_) in
    subst (λ o. IsSome o) (sym there.1) refl

pub returns : goal.returns
returns g c =
    let open_ : IsOpenPad (entries_of c.args.pipe c.self.inside.log.items) = subst (λ h. IsOpenPad (entries_of c.args.pipe h)) (sym c.self.view_is) c.requires in
    let kept = c.self.invariant.0.each c.args.pipe c.index-place.result.now c.index-place.ensures in
    let pad = pad_here g.W.Work.asked g.W.Work.meaning c.self.inside.pipes c.self.inside.born c.self.inside.log.items c.args.pipe c.index-place.result.now c.self.invariant.0 c.index-place.ensures open_.0 in
    rw (← c.self.view_is) (c.lists.ensures ∙ (kept.lists (pad_no_queue c.index-place.result.now.stage pad) ∙ ap lists_for (sym kept.masking)))
