use Rattle.std.specs.Prelude.{slice_get, nat_eq, position}
use Rattle.std.proofs.Common.{◌≡◌, ℕ, true, List, Option, Some, None, is_some, sym, ◌∙◌, subst}
use Rattle.board.specs.RunQueue.{IsMember, KeepsPipe}
use Rattle.board.proofs.Queued.{inserted_member, inserted_place, found_place}
use Rattle.board.proofs.run_queue.RunQueue.join.Goals as goal

found : (xs : List ℕ) (q : ℕ) (o : Option ℕ) → o ≡ position (nat_eq q) xs → is_some o ≡ true → (i : ℕ) × (slice_get xs i ≡ Some q)
found xs q None e s = cc
found xs q (Some i) e s = (i, found_place xs q i (sym e))

pub returns-then-is_some-clause-joined : goal.returns-then-is_some-clause-joined
returns-then-is_some-clause-joined c =
    subst (λ queue. IsMember queue c.args.pipe) c.self.view_is (found c.self.inside.members.keys c.args.pipe c.place_of.result c.place_of.ensures.index (sym c.is_some.ensures ∙ c.if-is_some.true))

pub returns-clause-kept : goal.returns-clause-kept
returns-clause-kept c p =
    subst (λ queue. KeepsPipe queue (record { members = c.insert.new.self.keys; ready = c.self.inside.ready }) p) c.self.view_is
    (rw c.in_ok-insert.ensures.keys (let q = c.args.pipe in let xs = c.self.inside.members.keys in
    (λ m. (m.0, inserted_place xs q m.0 p m.1), λ s. (s.0, s.1, inserted_place xs q s.0 p s.2))))

pub returns-clause-joined : goal.returns-clause-joined
returns-clause-joined c = rw c.in_ok-insert.ensures.keys (inserted_member c.self.inside.members.keys c.args.pipe)
