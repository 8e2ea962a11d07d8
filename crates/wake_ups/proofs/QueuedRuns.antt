-- Each step of a board with queues keeps what makes its laws true.
use Rattle.std.proofs.Common.{◌≡◌, ℕ, zero, suc, ◌+◌, ◌-◌, ◌<◌, ◌≤◌, ◌⊎◌, inl, inr, List, [], ◌∷◌, length, refl, sym, ap, ◌∙◌, subst, arith}
use Rattle.wake_ups.specs.Wakeups.{Wakeups, Step, May, At, without, after, start}
use Rattle.wake_ups.specs.Wakeups.Step.{Put, Count, Call, Leave, Notify, Find_no_waiter, Find_waiter, Move_epoch, Wake, Wake_none, Wake_by_chance, Help, Help_on, Notice_helped, Stop_helping, End_and_take, End_and_find_none, End_and_look, Notice_taken, Run_on, Forget, Keep, Notice_between, Notice_none, Look_anyway, Spin, Notice_while_awake, Rouse, Read_unnoticed, Give_up, Look_and_take, Look_and_find_none, Announce, Read_epoch, Last_take, Last_find_none, Forget_last, Keep_last, Last_take_rung, Last_find_none_rung, Forget_last_rung, Keep_last_rung, Sleep, Look_again, Rise, Drop_key}
use Rattle.wake_ups.proofs.Bounds.{shorter, both_long}
use Rattle.wake_ups.specs.Laws.{lookers, NobodyIsBetween, SleepsOn, looks_and_notifies}
use Rattle.wake_ups.specs.Queued.{Queued, QueuedStep, takes, MayQueued, then, RunQueued, start_queued, AllRunQueued, SomeLookComes}
use Rattle.wake_ups.specs.Queued.QueuedStep.{Of, Ready, Leave_next, Notify_next}

-- those who compare and have read that some are unnoticed
abbrev pub positives : List ℕ → ℕ
positives [] = 0
positives (zero ∷ vs) = positives vs
positives (suc v ∷ vs) = suc (positives vs)

-- the looks and notifications to come
abbrev pub sure : Wakeups → ℕ
sure b = b.awake + lookers b + b.putting + b.notifying + b.moving + positives b.comparing

pub record Goes (n : ℕ) (b : Wakeups) (next : ℕ) : Type 0 where
  pub awake : b.awake ≡ b.spinning + b.roused
  pub waiters : b.waiters ≡ b.announced + b.last_looking + b.last_looking_rung + length b.drowsy + length b.drowsy_rung + b.sleepy + b.sleepy_rung + b.asleep + b.asleep_rung + b.kept
  pub all : n ≡ b.running + length b.taking + length b.emptied + b.between + b.idle + b.spinning + b.roused + b.looking + b.tired + b.announced + b.last_looking + b.last_looking_rung + length b.drowsy + length b.drowsy_rung + b.sleepy + b.sleepy_rung + b.asleep + b.asleep_rung
  pub sleeps : 0 < b.asleep + length b.drowsy + b.sleepy → 0 < b.jobs → 0 < sure b + next
  pub unrung : b.waking < b.asleep_rung → 0 < b.jobs → 0 < sure b + b.waking + next

positive : (v : ℕ) (vs : List ℕ) → positives vs ≤ positives (v ∷ vs)
positive zero vs = omega arith
positive (suc v) vs = omega arith

-- one that read no more than are awake leaves
left : (a k : ℕ) (vs : List ℕ) → At (λ v. v ≤ a) k vs → positives vs ≤ positives (without k vs) + a
left a k [] m = omega arith
left a zero (zero ∷ vs) m = omega arith
left a zero (suc v ∷ vs) m = omega arith
left a (suc k) (zero ∷ vs) m = left a k vs m
left a (suc k) (suc v ∷ vs) m = let e = left a k vs m in omega arith

more : (u : ℕ) (vs : List ℕ) → positives ((u + 1) ∷ vs) ≡ suc (positives vs)
more u vs = subst (λ v. positives (v ∷ vs) ≡ suc (positives vs)) same refl
  where
    same : suc u ≡ u + 1
    same = omega arith

-- a wake-up that wakes nobody, or one that sleeps on
wakes_none : (b : Wakeups) (next : ℕ) → (b.asleep_rung ≡ 0) ⊎ (0 < b.asleep) → b.waking - 1 < b.asleep_rung → (0 < b.asleep + length b.drowsy + b.sleepy → 0 < b.jobs → 0 < sure b + next) → 0 < b.jobs → 0 < sure b + (b.waking - 1) + (next + 0)
wakes_none b next (inl none) h v j = absurd (omega arith)
wakes_none b next (inr some) h v j = let w = v (omega arith) j in omega arith

goes : (n : ℕ) (b : Wakeups) (next : ℕ) (s : Step) → May b s → Goes n b next → Goes n (after b s) (next + takes s)
goes n b next Put m i =
    record {
      awake = i.awake;
      waiters = i.waiters;
      all = i.all;
      sleeps = λ h. λ j. omega arith;
      unrung = λ h. λ j. omega arith;
    }
goes n b next Count m i =
    record {
      awake = i.awake;
      waiters = i.waiters;
      all = i.all;
      sleeps = λ h. let p = more b.word.unnoticed b.comparing in λ j. omega arith;
      unrung = λ h. let p = more b.word.unnoticed b.comparing in λ j. omega arith;
    }
goes n b next Call m i =
    record {
      awake = i.awake;
      waiters = i.waiters;
      all = i.all;
      sleeps = λ h. let p = more b.word.unnoticed b.comparing in λ j. omega arith;
      unrung = λ h. let p = more b.word.unnoticed b.comparing in λ j. omega arith;
    }
goes n b next (Leave k) m i =
    record {
      awake = i.awake;
      waiters = i.waiters;
      all = i.all;
      sleeps = λ h. let p = left b.awake k b.comparing m in let v = i.sleeps (omega arith) in λ j. let w = v (omega arith) in omega arith;
      unrung = λ h. let p = left b.awake k b.comparing m in let v = i.unrung (omega arith) in λ j. let w = v (omega arith) in omega arith;
    }
goes n b next (Notify k) m i =
    record {
      awake = i.awake;
      waiters = i.waiters;
      all = i.all;
      sleeps = λ h. λ j. omega arith;
      unrung = λ h. λ j. omega arith;
    }
goes n b next Find_no_waiter m i =
    record {
      awake = i.awake;
      waiters = i.waiters;
      all = i.all;
      sleeps = λ h. absurd (let f = i.waiters in omega arith);
      unrung = λ h. absurd (let f = i.waiters in omega arith);
    }
goes n b next Find_waiter m i =
    record {
      awake = i.awake;
      waiters = i.waiters;
      all = i.all;
      sleeps = λ h. let v = i.sleeps (omega arith) in λ j. let w = v (omega arith) in omega arith;
      unrung = λ h. let v = i.unrung (omega arith) in λ j. let w = v (omega arith) in omega arith;
    }
goes n b next Move_epoch m i =
    let long = both_long b.drowsy b.drowsy_rung in
    record {
      awake = i.awake;
      waiters = let f = i.waiters in omega arith;
      all = let f = i.all in omega arith;
      sleeps = λ h. absurd (omega arith);
      unrung = λ h. λ j. omega arith;
    }
goes n b next Wake m i =
    record {
      awake = i.awake;
      waiters = let f = i.waiters in omega arith;
      all = let f = i.all in omega arith;
      sleeps = λ h. λ j. omega arith;
      unrung = λ h. λ j. omega arith;
    }
goes n b next Wake_none m i =
    record {
      awake = i.awake;
      waiters = i.waiters;
      all = i.all;
      sleeps = λ h. let v = i.sleeps (omega arith) in λ j. let w = v (omega arith) in omega arith;
      unrung = λ h. wakes_none b next m.1 h i.sleeps;
    }
goes n b next Wake_by_chance m i =
    record {
      awake = i.awake;
      waiters = let f = i.waiters in omega arith;
      all = let f = i.all in omega arith;
      sleeps = λ h. let v = i.sleeps (omega arith) in λ j. let w = v (omega arith) in omega arith;
      unrung = λ h. let v = i.unrung (omega arith) in λ j. let w = v (omega arith) in omega arith;
    }
goes n b next Help m i =
    record {
      awake = i.awake;
      waiters = i.waiters;
      all = i.all;
      sleeps = λ h. λ j. omega arith;
      unrung = λ h. λ j. omega arith;
    }
goes n b next (Help_on read) m i =
    record {
      awake = i.awake;
      waiters = i.waiters;
      all = i.all;
      sleeps = λ h. λ j. omega arith;
      unrung = λ h. λ j. omega arith;
    }
goes n b next (Notice_helped k) m i =
    let short = shorter (λ read. (read ≡ b.word) × (0 < read.unnoticed)) k b.helping m in
    record {
      awake = i.awake;
      waiters = i.waiters;
      all = i.all;
      sleeps = λ h. let v = i.sleeps (omega arith) in λ j. let w = v (omega arith) in omega arith;
      unrung = λ h. let v = i.unrung (omega arith) in λ j. let w = v (omega arith) in omega arith;
    }
goes n b next (Stop_helping k) m i =
    let short = shorter (λ read. Unit {0}) k b.helping m in
    record {
      awake = i.awake;
      waiters = i.waiters;
      all = i.all;
      sleeps = λ h. let v = i.sleeps (omega arith) in λ j. let w = v (omega arith) in omega arith;
      unrung = λ h. let v = i.unrung (omega arith) in λ j. let w = v (omega arith) in omega arith;
    }
goes n b next (End_and_take read) m i =
    record {
      awake = i.awake;
      waiters = i.waiters;
      all = let f = i.all in omega arith;
      sleeps = λ h. λ j. omega arith;
      unrung = λ h. λ j. omega arith;
    }
goes n b next (End_and_find_none read) m i =
    record {
      awake = i.awake;
      waiters = i.waiters;
      all = let f = i.all in omega arith;
      sleeps = λ h. λ j. let none = m.1 in absurd (omega arith);
      unrung = λ h. λ j. let none = m.1 in absurd (omega arith);
    }
goes n b next End_and_look m i =
    record {
      awake = i.awake;
      waiters = i.waiters;
      all = let f = i.all in omega arith;
      sleeps = λ h. let v = i.sleeps (omega arith) in λ j. let w = v (omega arith) in omega arith;
      unrung = λ h. let v = i.unrung (omega arith) in λ j. let w = v (omega arith) in omega arith;
    }
goes n b next (Notice_taken k) m i =
    let short = shorter (λ read. (read ≡ b.word) × (0 < read.unnoticed)) k b.taking m in
    record {
      awake = i.awake;
      waiters = i.waiters;
      all = let f = i.all in omega arith;
      sleeps = λ h. let v = i.sleeps (omega arith) in λ j. let w = v (omega arith) in omega arith;
      unrung = λ h. let v = i.unrung (omega arith) in λ j. let w = v (omega arith) in omega arith;
    }
goes n b next (Run_on k) m i =
    let short = shorter (λ read. Unit {0}) k b.taking m in
    record {
      awake = i.awake;
      waiters = i.waiters;
      all = let f = i.all in omega arith;
      sleeps = λ h. let v = i.sleeps (omega arith) in λ j. let w = v (omega arith) in omega arith;
      unrung = λ h. let v = i.unrung (omega arith) in λ j. let w = v (omega arith) in omega arith;
    }
goes n b next (Forget k) m i =
    let short = shorter (λ read. (read ≡ b.word) × (0 < read.unnoticed)) k b.emptied m in
    record {
      awake = i.awake;
      waiters = i.waiters;
      all = let f = i.all in omega arith;
      sleeps = λ h. let v = i.sleeps (omega arith) in λ j. let w = v (omega arith) in omega arith;
      unrung = λ h. let v = i.unrung (omega arith) in λ j. let w = v (omega arith) in omega arith;
    }
goes n b next (Keep k) m i =
    let short = shorter (λ read. Unit {0}) k b.emptied m in
    record {
      awake = i.awake;
      waiters = i.waiters;
      all = let f = i.all in omega arith;
      sleeps = λ h. let v = i.sleeps (omega arith) in λ j. let w = v (omega arith) in omega arith;
      unrung = λ h. let v = i.unrung (omega arith) in λ j. let w = v (omega arith) in omega arith;
    }
goes n b next Notice_between m i =
    record {
      awake = i.awake;
      waiters = i.waiters;
      all = let f = i.all in omega arith;
      sleeps = λ h. let v = i.sleeps (omega arith) in λ j. let w = v (omega arith) in omega arith;
      unrung = λ h. let v = i.unrung (omega arith) in λ j. let w = v (omega arith) in omega arith;
    }
goes n b next Notice_none m i =
    record {
      awake = i.awake;
      waiters = i.waiters;
      all = let f = i.all in omega arith;
      sleeps = λ h. let v = i.sleeps (omega arith) in λ j. let w = v (omega arith) in omega arith;
      unrung = λ h. let v = i.unrung (omega arith) in λ j. let w = v (omega arith) in omega arith;
    }
goes n b next Look_anyway m i =
    record {
      awake = i.awake;
      waiters = i.waiters;
      all = let f = i.all in omega arith;
      sleeps = λ h. let v = i.sleeps (omega arith) in λ j. let w = v (omega arith) in omega arith;
      unrung = λ h. let v = i.unrung (omega arith) in λ j. let w = v (omega arith) in omega arith;
    }
goes n b next Spin m i =
    record {
      awake = let f = i.awake in omega arith;
      waiters = i.waiters;
      all = let f = i.all in omega arith;
      sleeps = λ h. let v = i.sleeps (omega arith) in λ j. let w = v (omega arith) in omega arith;
      unrung = λ h. let v = i.unrung (omega arith) in λ j. let w = v (omega arith) in omega arith;
    }
goes n b next Notice_while_awake m i =
    record {
      awake = let f = i.awake in omega arith;
      waiters = i.waiters;
      all = let f = i.all in omega arith;
      sleeps = λ h. let v = i.sleeps (omega arith) in λ j. let w = v (omega arith) in omega arith;
      unrung = λ h. let v = i.unrung (omega arith) in λ j. let w = v (omega arith) in omega arith;
    }
goes n b next Rouse m i =
    record {
      awake = let f = i.awake in omega arith;
      waiters = i.waiters;
      all = let f = i.all in omega arith;
      sleeps = λ h. λ j. omega arith;
      unrung = λ h. λ j. omega arith;
    }
goes n b next Read_unnoticed m i =
    record {
      awake = i.awake;
      waiters = i.waiters;
      all = i.all;
      sleeps = λ h. let p = positive b.word.unnoticed b.comparing in let v = i.sleeps (omega arith) in λ j. let w = v (omega arith) in omega arith;
      unrung = λ h. let p = positive b.word.unnoticed b.comparing in let v = i.unrung (omega arith) in λ j. let w = v (omega arith) in omega arith;
    }
goes n b next Give_up m i =
    record {
      awake = let f = i.awake in omega arith;
      waiters = i.waiters;
      all = let f = i.all in omega arith;
      sleeps = λ h. λ j. omega arith;
      unrung = λ h. λ j. omega arith;
    }
goes n b next Look_and_take m i =
    record {
      awake = i.awake;
      waiters = i.waiters;
      all = let f = i.all in omega arith;
      sleeps = λ h. λ j. omega arith;
      unrung = λ h. λ j. omega arith;
    }
goes n b next (Look_and_find_none read) m i =
    record {
      awake = i.awake;
      waiters = i.waiters;
      all = let f = i.all in omega arith;
      sleeps = λ h. λ j. let none = m.1 in absurd (omega arith);
      unrung = λ h. λ j. let none = m.1 in absurd (omega arith);
    }
goes n b next Announce m i =
    record {
      awake = i.awake;
      waiters = let f = i.waiters in omega arith;
      all = let f = i.all in omega arith;
      sleeps = λ h. let v = i.sleeps (omega arith) in λ j. let w = v (omega arith) in omega arith;
      unrung = λ h. let v = i.unrung (omega arith) in λ j. let w = v (omega arith) in omega arith;
    }
goes n b next Read_epoch m i =
    record {
      awake = i.awake;
      waiters = let f = i.waiters in omega arith;
      all = let f = i.all in omega arith;
      sleeps = λ h. let v = i.sleeps (omega arith) in λ j. let w = v (omega arith) in omega arith;
      unrung = λ h. let v = i.unrung (omega arith) in λ j. let w = v (omega arith) in omega arith;
    }
goes n b next Last_take m i =
    record {
      awake = i.awake;
      waiters = let f = i.waiters in omega arith;
      all = let f = i.all in omega arith;
      sleeps = λ h. λ j. omega arith;
      unrung = λ h. λ j. omega arith;
    }
goes n b next (Last_find_none read) m i =
    record {
      awake = i.awake;
      waiters = let f = i.waiters in omega arith;
      all = let f = i.all in omega arith;
      sleeps = λ h. λ j. let none = m.1 in absurd (omega arith);
      unrung = λ h. λ j. let none = m.1 in absurd (omega arith);
    }
goes n b next (Forget_last k) m i =
    let short = shorter (λ read. (read ≡ b.word) × (0 < read.unnoticed)) k b.drowsy m in
    record {
      awake = i.awake;
      waiters = let f = i.waiters in omega arith;
      all = let f = i.all in omega arith;
      sleeps = λ h. let v = i.sleeps (omega arith) in λ j. let w = v (omega arith) in omega arith;
      unrung = λ h. let v = i.unrung (omega arith) in λ j. let w = v (omega arith) in omega arith;
    }
goes n b next (Keep_last k) m i =
    let short = shorter (λ read. Unit {0}) k b.drowsy m in
    record {
      awake = i.awake;
      waiters = let f = i.waiters in omega arith;
      all = let f = i.all in omega arith;
      sleeps = λ h. let v = i.sleeps (omega arith) in λ j. let w = v (omega arith) in omega arith;
      unrung = λ h. let v = i.unrung (omega arith) in λ j. let w = v (omega arith) in omega arith;
    }
goes n b next Last_take_rung m i =
    record {
      awake = i.awake;
      waiters = let f = i.waiters in omega arith;
      all = let f = i.all in omega arith;
      sleeps = λ h. λ j. omega arith;
      unrung = λ h. λ j. omega arith;
    }
goes n b next (Last_find_none_rung read) m i =
    record {
      awake = i.awake;
      waiters = let f = i.waiters in omega arith;
      all = let f = i.all in omega arith;
      sleeps = λ h. λ j. let none = m.1 in absurd (omega arith);
      unrung = λ h. λ j. let none = m.1 in absurd (omega arith);
    }
goes n b next (Forget_last_rung k) m i =
    let short = shorter (λ read. (read ≡ b.word) × (0 < read.unnoticed)) k b.drowsy_rung m in
    record {
      awake = i.awake;
      waiters = let f = i.waiters in omega arith;
      all = let f = i.all in omega arith;
      sleeps = λ h. let v = i.sleeps (omega arith) in λ j. let w = v (omega arith) in omega arith;
      unrung = λ h. let v = i.unrung (omega arith) in λ j. let w = v (omega arith) in omega arith;
    }
goes n b next (Keep_last_rung k) m i =
    let short = shorter (λ read. Unit {0}) k b.drowsy_rung m in
    record {
      awake = i.awake;
      waiters = let f = i.waiters in omega arith;
      all = let f = i.all in omega arith;
      sleeps = λ h. let v = i.sleeps (omega arith) in λ j. let w = v (omega arith) in omega arith;
      unrung = λ h. let v = i.unrung (omega arith) in λ j. let w = v (omega arith) in omega arith;
    }
goes n b next Sleep m i =
    record {
      awake = i.awake;
      waiters = let f = i.waiters in omega arith;
      all = let f = i.all in omega arith;
      sleeps = λ h. let v = i.sleeps (omega arith) in λ j. let w = v (omega arith) in omega arith;
      unrung = λ h. let v = i.unrung (omega arith) in λ j. let w = v (omega arith) in omega arith;
    }
goes n b next Look_again m i =
    record {
      awake = i.awake;
      waiters = let f = i.waiters in omega arith;
      all = let f = i.all in omega arith;
      sleeps = λ h. let v = i.sleeps (omega arith) in λ j. let w = v (omega arith) in omega arith;
      unrung = λ h. let v = i.unrung (omega arith) in λ j. let w = v (omega arith) in omega arith;
    }
goes n b next Rise m i =
    record {
      awake = i.awake;
      waiters = let f = i.waiters in omega arith;
      all = let f = i.all in omega arith;
      sleeps = λ h. let v = i.sleeps (omega arith) in λ j. let w = v (omega arith) in omega arith;
      unrung = λ h. let v = i.unrung (omega arith) in λ j. let w = v (omega arith) in omega arith;
    }
goes n b next Drop_key m i =
    record {
      awake = i.awake;
      waiters = let f = i.waiters in omega arith;
      all = i.all;
      sleeps = λ h. let v = i.sleeps (omega arith) in λ j. let w = v (omega arith) in omega arith;
      unrung = λ h. let v = i.unrung (omega arith) in λ j. let w = v (omega arith) in omega arith;
    }

goes_queued : (n : ℕ) (q : Queued) (s : QueuedStep) → MayQueued q s → Goes n q.wakeups q.next → Goes n (then q s).wakeups (then q s).next
goes_queued n q (Of s) m i = goes n q.wakeups q.next s m i
goes_queued n q Ready m i =
    record {
      awake = i.awake;
      waiters = i.waiters;
      all = i.all;
      sleeps = λ h. λ j. omega arith;
      unrung = λ h. λ j. omega arith;
    }
goes_queued n q Leave_next m i =
    record {
      awake = i.awake;
      waiters = i.waiters;
      all = i.all;
      sleeps = λ h. let a = m.1 in λ j. omega arith;
      unrung = λ h. let a = m.1 in λ j. omega arith;
    }
goes_queued n q Notify_next m i =
    record {
      awake = i.awake;
      waiters = i.waiters;
      all = i.all;
      sleeps = λ h. λ j. omega arith;
      unrung = λ h. λ j. omega arith;
    }

starts : (n : ℕ) → Goes n (start n) 0
starts n =
    record {
      awake = omega arith;
      waiters = omega arith;
      all = omega arith;
      sleeps = λ h. absurd (omega arith);
      unrung = λ h. absurd (omega arith);
    }

reached : (n : ℕ) (q : Queued) (ss : List QueuedStep) (r : Queued) → Goes n q.wakeups q.next → RunQueued q ss r → Goes n r.wakeups r.next
reached n q [] r k e = subst (λ (x : Queued). Goes n x.wakeups x.next) (sym e) k
reached n q (s ∷ ss) r k run = reached n (then q s) ss r (goes_queued n q s run.0 k) run.1

no_more : (vs : List ℕ) → positives vs ≤ length vs
no_more [] = omega arith
no_more (zero ∷ vs) = let e = no_more vs in omega arith
no_more (suc v ∷ vs) = let e = no_more vs in omega arith

has_look : (n : ℕ) (b : Wakeups) (next : ℕ) → Goes n b next → SleepsOn b → 0 < b.jobs → 0 < looks_and_notifies b + next
has_look n b next k (inl h) j = let c = k.sleeps h j in let p = no_more b.comparing in omega arith
has_look n b next k (inr h) j = let c = k.unrung h j in let p = no_more b.comparing in omega arith

pub some_look_comes : (n : ℕ) (ss : List QueuedStep) (q : Queued) → SomeLookComes n ss q
some_look_comes n ss q r = has_look n q.wakeups q.next (reached n (start_queued n) ss q (starts n) r)

none_asleep : (n : ℕ) (b : Wakeups) (asleep : ℕ) → b.asleep + b.asleep_rung ≡ asleep → Goes n b 0 → NobodyIsBetween b → 0 < b.jobs → b.asleep + b.asleep_rung ≡ 0
none_asleep n b zero e k q j = e
none_asleep n b (suc a) e k q j =
    let w = q.waking in
    let s : SleepsOn b = some_sleep b.asleep refl in
    let l = has_look n b 0 k s j in
    let none : length b.comparing ≡ 0 = ap length q.comparing in
    let aw = k.awake in let p = q.putting in let r = q.rousing in let g = q.notifying in let m = q.moving in let x = q.awake in let t = q.tired in let d = none_drowsy in let y = q.sleepy in
    absurd (omega arith)
  where
    none_drowsy : length b.drowsy + length b.drowsy_rung ≡ 0
    none_drowsy = sym (both_long b.drowsy b.drowsy_rung) ∙ ap length q.drowsy

    some_sleep : (x : ℕ) → b.asleep ≡ x → SleepsOn b
    some_sleep zero f = let w = q.waking in inr (omega arith)
    some_sleep (suc x) f = inl (omega arith)

pub all_run_queued : (n : ℕ) (ss : List QueuedStep) (q : Queued) → AllRunQueued n ss q
all_run_queued n ss q r b nobody j =
    let k = subst (λ x. Goes n q.wakeups x) nobody (reached n (start_queued n) ss q (starts n) r) in
    let none = none_asleep n q.wakeups (q.wakeups.asleep + q.wakeups.asleep_rung) refl k b j in
    let all = k.all in let t : length q.wakeups.taking ≡ 0 = ap length b.taking in let e : length q.wakeups.emptied ≡ 0 = ap length b.emptied in let x = b.awake in let u = b.tired in let y = b.sleepy in
    let d : length q.wakeups.drowsy + length q.wakeups.drowsy_rung ≡ 0 = sym (both_long q.wakeups.drowsy q.wakeups.drowsy_rung) ∙ ap length b.drowsy in
    omega arith
