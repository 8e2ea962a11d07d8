use Rattle.std.specs.Prelude.{IsSome, IfErr, Result, Ok, Err, OnOk}
use Rattle.std.proofs.Common.{arith, inl, ◌≡◌, ◌<◌, sym, subst, refl}
use Rattle.board.specs.Entries.{entries_of, mask}
use Rattle.board.specs.Legal.{IsOpenPad}
use Rattle.board.specs.Places.{places}
use Rattle.board.proofs.KeptCalls.{kept_open}
use Rattle.board.proofs.KeptRequests.{mask_here}
use Rattle.board.proofs.board_core.BoardCore.admit_to_pad.Goals as goal

err_map : {T E : Type 0} {P Q : E → Type 0} (r : Result T E) → ((e : E) → P e → Q e) → IfErr r P → IfErr r Q
err_map (Ok x) f h = tt
err_map (Err e) f h = f e h

on_any : {T E P : Type 0} (r : Result T E) → P → OnOk r P
on_any (Ok x) h = h
on_any (Err e) h = tt

pub index-place-requires : goal.index-place-requires
index-place-requires g c =
    let open_ : IsOpenPad (entries_of c.args.pipe c.self.inside.log.items) = subst (λ h. IsOpenPad (entries_of c.args.pipe h)) (sym c.self.view_is) c.requires in
    let there = kept_open g.W.Work.asked g.W.Work.meaning (places c.self.inside.pipes) c.self.inside.born c.self.inside.log.items c.args.pipe c.self.invariant.0 (inl open_) in
    subst (λ o. IsSome o) (sym there.1) refl

pub returns-then-place-eq0-clause-unmasked : goal.returns-then-place-eq0-clause-unmasked
returns-then-place-eq0-clause-unmasked g c =
    let m : mask (entries_of c.args.pipe c.args.self.now) ≡ c.index-place.result.now.mask = subst (λ h. mask (entries_of c.args.pipe h) ≡ c.index-place.result.now.mask) c.self.view_is (mask_here g.W.Work.asked g.W.Work.meaning c.self.inside.pipes c.self.inside.born c.self.inside.log.items c.args.pipe c.index-place.result.now c.self.invariant.0 c.index-place.ensures) in
    let z = c.if-place-eq0.true in
    (λ q. omega arith, λ q. refl)

pub returns-then-place-eq0-clause-refused : goal.returns-then-place-eq0-clause-refused
returns-then-place-eq0-clause-refused g c =
    let m : mask (entries_of c.args.pipe c.args.self.now) ≡ c.index-place.result.now.mask = subst (λ h. mask (entries_of c.args.pipe h) ≡ c.index-place.result.now.mask) c.self.view_is (mask_here g.W.Work.asked g.W.Work.meaning c.self.inside.pipes c.self.inside.born c.self.inside.log.items c.args.pipe c.index-place.result.now c.self.invariant.0 c.index-place.ensures) in
    let z = c.if-place-eq0.true in
    (λ q. cc, λ q. absurd (let l = q.0 in omega arith))

pub returns-clause-masked : goal.returns-clause-masked
returns-clause-masked g c =
    let m : mask (entries_of c.args.pipe c.args.self.now) ≡ c.index-place.result.now.mask = subst (λ h. mask (entries_of c.args.pipe h) ≡ c.index-place.result.now.mask) c.self.view_is (mask_here g.W.Work.asked g.W.Work.meaning c.self.inside.pipes c.self.inside.born c.self.inside.log.items c.args.pipe c.index-place.result.now c.self.invariant.0 c.index-place.ensures) in
    let z = c.if-place-eq0.false in
    let some : 0 < mask (entries_of c.args.pipe c.args.self.now) = omega arith in
    on_any c.admit.result some

pub returns-clause-unmasked : goal.returns-clause-unmasked
returns-clause-unmasked g c =
    let m : mask (entries_of c.args.pipe c.args.self.now) ≡ c.index-place.result.now.mask = subst (λ h. mask (entries_of c.args.pipe h) ≡ c.index-place.result.now.mask) c.self.view_is (mask_here g.W.Work.asked g.W.Work.meaning c.self.inside.pipes c.self.inside.born c.self.inside.log.items c.args.pipe c.index-place.result.now c.self.invariant.0 c.index-place.ensures) in
    let z = c.if-place-eq0.false in
    let some : 0 < mask (entries_of c.args.pipe c.args.self.now) = omega arith in
    err_map c.admit.result (λ e n. (λ q. absurd (n q), λ q. absurd (omega arith))) c.admit.ensures.other

pub returns-clause-refused : goal.returns-clause-refused
returns-clause-refused g c =
    let m : mask (entries_of c.args.pipe c.args.self.now) ≡ c.index-place.result.now.mask = subst (λ h. mask (entries_of c.args.pipe h) ≡ c.index-place.result.now.mask) c.self.view_is (mask_here g.W.Work.asked g.W.Work.meaning c.self.inside.pipes c.self.inside.born c.self.inside.log.items c.args.pipe c.index-place.result.now c.self.invariant.0 c.index-place.ensures) in
    let z = c.if-place-eq0.false in
    let some : 0 < mask (entries_of c.args.pipe c.args.self.now) = omega arith in
    err_map c.admit.result (λ e r. (λ q. (some, r.0 q), λ q. r.1 q.1)) c.admit.ensures.refused
