use Rattle.std.proofs.Common.{◌≡◌, true, ◌⊎◌, ap, ◌∙◌}
use Rattle.board.specs.Entries.{has, IsMasked}
use Rattle.board.specs.RunQueue.{IsFor}
use Rattle.board.proofs.RunQueuesMade.{own_on, own_less, who_may}
use Rattle.board.proofs.run_queues.RunQueues.tell_own.Goals as goal

pub returns : goal.returns
returns g c =
    let place = c.args.place.now in
    let each = own_less c.args.pipe c.args.has_job (λ n. has n place.submitters.items ≡ true) (λ n. has n c.deref.result.now ≡ true) c.tell_one.new.self c.tell_each.new.self (λ n h. ap (has n) c.deref.ensures.value ∙ h) c.tell_each.ensures in
    own_on c.args.pipe c.args.has_job (λ n. IsFor n place) (λ n. (n ≡ place.maker) ⊎ (has n place.submitters.items ≡ true)) (λ n. IsMasked place.mask n) c.args.self.now c.tell_each.new.self c.tell_workers.new.self (λ n s. who_may place n s)
    (own_on c.args.pipe c.args.has_job (λ n. (n ≡ place.maker) ⊎ (has n place.submitters.items ≡ true)) (λ n. n ≡ place.maker) (λ n. has n place.submitters.items ≡ true) c.args.self.now c.tell_one.new.self c.tell_each.new.self (λ n h. h) c.tell_one.ensures each) c.tell_workers.ensures
