use Rattle.std.proofs.Common.{◌≡◌, ◌+◌, ◌++◌, ◌∷◌, [], true, take, get_or, sym, subst}
use Rattle.std.proofs.lemmas.List.{take_all, take_more}
use Rattle.board.specs.Entries.{has}
use Rattle.board.proofs.RunQueuesMade.{own_same, own_less, own_on, one_more}
use Rattle.board.proofs.run_queues.RunQueues.tell_each.Goals as goal

pub loop-caller-init : goal.loop-caller-init
loop-caller-init c = own_same c.args.pipe c.args.has_job _ c.args.self.now (λ n h. cc)

pub loop-caller-preserved : goal.loop-caller-preserved
loop-caller-preserved c =
    let xs = c.args.callers.now in
    let i = c.loop-caller.caller-index in
    let x = get_or xs i 0 in
    let more : take (i + 1) xs ≡ take i xs ++ x ∷ [] = take_more xs i 0 c.loop-caller-test.true in
    own_on c.args.pipe c.args.has_job (λ n. has n (take (i + 1) xs) ≡ true) (λ n. has n (take i xs) ≡ true) (λ n. n ≡ x) c.args.self.now c.loop-caller.self c.tell_one.new.self
    (λ n h. one_more (take i xs) x n (subst (λ ys. has n ys ≡ true) more h)) c.loop-caller.invariant c.tell_one.ensures

pub returns : goal.returns
returns c =
    let xs = c.args.callers.now in
    let i = c.loop-caller.caller-index in
    own_less c.args.pipe c.args.has_job (λ n. has n xs ≡ true) (λ n. has n (take i xs) ≡ true) c.args.self.now c.loop-caller.self (λ n h. subst (λ ys. has n ys ≡ true) (sym (take_all i xs c.loop-caller-test.false)) h) c.loop-caller.invariant
