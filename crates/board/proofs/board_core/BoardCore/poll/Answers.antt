use Rattle.std.specs.Prelude.{IsSome}
use Rattle.std.proofs.Common.{arith, [], ◌∷◌, ◌++◌, ap, sym, ◌∙◌, subst, refl}
use Rattle.board.specs.declared.entry.BoardEntry.TheVariants.{Collect}
use Rattle.board.specs.Entries.{entries_of}
use Rattle.board.proofs.KeptUsed.{used_same}
use Rattle.board.specs.Places.{places}
use Rattle.board.proofs.Kept.{shut-same, loan_here, loan_some, set_here}
use Rattle.board.specs.Legal.{MayManage, IsOpen}
use Rattle.board.proofs.KeptCalls.{kept_open, same_item, poll_step, told_few, collected_serves, collected_passes}
use Rattle.board.proofs.KeptRunQueues.{passing_same}
use Rattle.board.proofs.RunQueuesHold.{collected_is_chain, collected_admits, queues_same}
use Rattle.board.proofs.board_core.BoardCore.poll.Goals as goal

pub index-place-requires : goal.index-place-requires
index-place-requires g c =
    let open_ : IsOpen (entries_of c.args.pipe c.self.inside.log.items) = subst (λ h. IsOpen (entries_of c.args.pipe h)) (sym c.self.view_is) c.requires.pipe in
    let there = kept_open g.W.Work.asked g.W.Work.meaning (places c.self.inside.pipes) c.self.inside.born c.self.inside.log.items c.args.pipe c.self.invariant.0 open_ in
    subst (λ o. IsSome o) (sym there.1) refl

pub unwrap-place-requires : goal.unwrap-place-requires
unwrap-place-requires g c =
    let open_ : IsOpen (entries_of c.args.pipe c.self.inside.log.items) = subst (λ h. IsOpen (entries_of c.args.pipe h)) (sym c.self.view_is) c.requires.pipe in
    let there = kept_open g.W.Work.asked g.W.Work.meaning (places c.self.inside.pipes) c.self.inside.born c.self.inside.log.items c.args.pipe c.self.invariant.0 open_ in
    loan_some c.get_mut.result (places c.self.inside.pipes c.args.pipe) there.0 c.get_mut.ensures.value there.1

pub collect-to-requires-clause-room : goal.collect-to-requires-clause-room
collect-to-requires-clause-room g c =
    let open_ : IsOpen (entries_of c.args.pipe c.self.inside.log.items) = subst (λ h. IsOpen (entries_of c.args.pipe h)) (sym c.self.view_is) c.requires.pipe in
    let here = loan_here (places c.self.inside.pipes c.args.pipe) c.get_mut.result c.unwrap-place.result c.get_mut.ensures.value c.unwrap-place.ensures in
    let same = same_item (places c.self.inside.pipes c.args.pipe) c.index-place.result.now c.unwrap-place.result.now c.index-place.ensures here in
    rw (← same) (omega (arith, c.uncollected.ensures, c.in_ok-reserve.ensures.room))

pub collect-to-requires-clause-few : goal.collect-to-requires-clause-few
collect-to-requires-clause-few g c =
    let open_ : IsOpen (entries_of c.args.pipe c.self.inside.log.items) = subst (λ h. IsOpen (entries_of c.args.pipe h)) (sym c.self.view_is) c.requires.pipe in
    let here = loan_here (places c.self.inside.pipes c.args.pipe) c.get_mut.result c.unwrap-place.result c.get_mut.ensures.value c.unwrap-place.ensures in
    let f = told_few g.W.Work.asked g.W.Work.meaning c.self.inside.pipes c.self.inside.born c.self.inside.log.items c.args.pipe c.unwrap-place.result.now c.self.invariant.0 here in
    omega (arith, f, c.self.inside.log.ok.0, c.self.inside.log.ok.1, c.self.inside.log.small)

pub invariant_of-self-2 : goal.invariant_of-self-2
invariant_of-self-2 g c =
    let open_ : IsOpen (entries_of c.args.pipe c.self.inside.log.items) = subst (λ h. IsOpen (entries_of c.args.pipe h)) (sym c.self.view_is) c.requires.pipe in
    let here = loan_here (places c.self.inside.pipes c.args.pipe) c.get_mut.result c.unwrap-place.result c.get_mut.ensures.value c.unwrap-place.ensures in
    let next = c.get_mut.follows.lender c.collect-to.new.self in
    let set = set_here c.self.inside.pipes next c.args.pipe c.unwrap-place.result.now c.collect-to.new.self here (c.get_mut.follows.holds c.collect-to.new.self) in
    let may : MayManage (entries_of c.args.pipe c.self.inside.log.items) c.args.caller = subst (λ h. MayManage (entries_of c.args.pipe h) c.args.caller) (sym c.self.view_is) c.requires.caller in
    let s = poll_step g.W.Work.asked g.W.Work.meaning c.self.inside.pipes c.self.inside.born c.self.inside.log.items c.args.pipe c.unwrap-place.result.now c.self.invariant.0 here next c.args.caller c.collect-to.result c.collect-to.new.self set may open_ c.collect-to.ensures.told c.collect-to.ensures.emptied in (
      rw (c.push_reserved.ensures.items, c.in_ok-reserve_entries.ensures.items) s.0,
      rw (c.push_reserved.ensures.items, c.in_ok-reserve_entries.ensures.items) (shut-same c.self.inside.log.items (Collect c.args.caller c.args.pipe c.collect-to.result) refl ∙ c.self.invariant.1),
      omega (arith, c.push_reserved.ensures.len, c.push_reserved.ensures.capacity, c.in_ok-reserve_entries.ensures.ok),
      omega (arith, s.1, c.self.invariant.3),
      rw (c.push_reserved.ensures.items, c.in_ok-reserve_entries.ensures.items) (used_same g.W.Work.weight c.self.inside.used c.self.inside.log.items (Collect c.args.caller c.args.pipe c.collect-to.result) refl c.self.invariant.4),
      queues_same c.self.inside.pipes next c.self.inside.ready c.args.pipe c.unwrap-place.result.now c.collect-to.new.self c.self.invariant.5 set (collected_serves c.unwrap-place.result.now c.collect-to.new.self c.collect-to.result c.collect-to.ensures.emptied) (collected_admits c.unwrap-place.result.now c.collect-to.new.self c.collect-to.result c.collect-to.ensures.emptied),
      passing_same c.self.inside.pipes next c.self.inside.passing c.args.pipe c.unwrap-place.result.now c.collect-to.new.self c.self.invariant.6 set (collected_is_chain c.unwrap-place.result.now c.collect-to.new.self c.collect-to.result c.collect-to.ensures.emptied) (collected_passes c.unwrap-place.result.now c.collect-to.new.self c.collect-to.result c.collect-to.ensures.emptied),
    )

pub returns : goal.returns
returns g c =
    let open_ : IsOpen (entries_of c.args.pipe c.self.inside.log.items) = subst (λ h. IsOpen (entries_of c.args.pipe h)) (sym c.self.view_is) c.requires.pipe in
    let here = loan_here (places c.self.inside.pipes c.args.pipe) c.get_mut.result c.unwrap-place.result c.get_mut.ensures.value c.unwrap-place.ensures in
    let next = c.get_mut.follows.lender c.collect-to.new.self in
    let set = set_here c.self.inside.pipes next c.args.pipe c.unwrap-place.result.now c.collect-to.new.self here (c.get_mut.follows.holds c.collect-to.new.self) in
    let may : MayManage (entries_of c.args.pipe c.self.inside.log.items) c.args.caller = subst (λ h. MayManage (entries_of c.args.pipe h) c.args.caller) (sym c.self.view_is) c.requires.caller in
    let s = poll_step g.W.Work.asked g.W.Work.meaning c.self.inside.pipes c.self.inside.born c.self.inside.log.items c.args.pipe c.unwrap-place.result.now c.self.invariant.0 here next c.args.caller c.collect-to.result c.collect-to.new.self set may open_ c.collect-to.ensures.told c.collect-to.ensures.emptied in
    record {
      board = rw (c.push_reserved.ensures.items, c.in_ok-reserve_entries.ensures.items, ← c.self.view_is) (ap (λ n. c.self.inside.log.items ++ Collect c.args.caller c.args.pipe n ∷ []) s.2);
      handed = rw (c.collect-to.ensures.handed, c.in_ok-reserve.ensures.list, ← c.self.view_is) (ap (λ xs. c.args.into.now.list ++ xs) (sym s.3));
      refused = tt;
      legal = (invariant_of-self-2 g c).0.legal;
    }
