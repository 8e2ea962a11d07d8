-- The laws of whole runs.
use Rattle.std.proofs.Common.{◌≡◌, ℕ, zero, suc, ◌+◌, ◌<◌, ◌≤◌, inl, inr, List, [], ◌∷◌, length, refl, sym, ap, ◌∙◌, subst, arith}
use Rattle.wake_ups.specs.Wakeups.{Wakeups, Step, after, Run, start}
use Rattle.wake_ups.specs.Laws.{NobodyIsBetween, SleepsOn, looks_and_notifies, AllRun, EachJobHasItsLook}
use Rattle.wake_ups.proofs.Bounds.{Keeps, both_long, base, covers_all}
use Rattle.wake_ups.proofs.Keeps.{keeps}

starts : (n : ℕ) → Keeps n (start n)
starts n =
    record {
      awake = omega arith;
      waiters = omega arith;
      all = omega arith;
      counted = omega arith;
      emptied = tt;
      drowsy = tt;
      drowsy_rung = tt;
      taking = tt;
      helping = tt;
      sleeps = λ h. absurd (omega arith);
      unrung = λ h. absurd (omega arith);
    }

reached : (n : ℕ) (b : Wakeups) (ss : List Step) (c : Wakeups) → Keeps n b → Run b ss c → Keeps n c
reached n b [] c k e = subst (Keeps n) (sym e) k
reached n b (s ∷ ss) c k r = reached n (after b s) ss c (keeps n b s r.0 k) r.1

has_look : (n : ℕ) (b : Wakeups) → Keeps n b → SleepsOn b → b.jobs ≤ looks_and_notifies b
has_look n b k (inl h) = let c = covers_all b.jobs b.awake (base b) b.comparing (k.sleeps h) in omega arith
has_look n b k (inr h) = let c = covers_all b.jobs b.awake (base b + b.waking) b.comparing (k.unrung h) in omega arith

pub each_job_has_its_look : (n : ℕ) (ss : List Step) (b : Wakeups) → EachJobHasItsLook n ss b
each_job_has_its_look n ss b r = has_look n b (reached n (start n) ss b (starts n) r)

-- how many sleep, where nobody is between two steps and a job waits
none_asleep : (n : ℕ) (b : Wakeups) (asleep : ℕ) → b.asleep + b.asleep_rung ≡ asleep → Keeps n b → NobodyIsBetween b → 0 < b.jobs → b.asleep + b.asleep_rung ≡ 0
none_asleep n b zero e k q j = e
none_asleep n b (suc a) e k q j =
    let w = q.waking in
    let s : SleepsOn b = some_sleep b.asleep refl in
    let l = has_look n b k s in
    let none : length b.comparing ≡ 0 = ap length q.comparing in
    let aw = k.awake in let p = q.putting in let r = q.rousing in let g = q.notifying in let m = q.moving in let x = q.awake in let t = q.tired in let d = none_drowsy in let y = q.sleepy in
    absurd (omega arith)
  where
    none_drowsy : length b.drowsy + length b.drowsy_rung ≡ 0
    none_drowsy = sym (both_long b.drowsy b.drowsy_rung) ∙ ap length q.drowsy

    some_sleep : (x : ℕ) → b.asleep ≡ x → SleepsOn b
    some_sleep zero f = let w = q.waking in inr (omega arith)
    some_sleep (suc x) f = inl (omega arith)

pub all_run : (n : ℕ) (ss : List Step) (b : Wakeups) → AllRun n ss b
all_run n ss b r q j =
    let k = reached n (start n) ss b (starts n) r in
    let none = none_asleep n b (b.asleep + b.asleep_rung) refl k q j in
    let all = k.all in let t : length b.taking ≡ 0 = ap length q.taking in let e : length b.emptied ≡ 0 = ap length q.emptied in let x = q.awake in let u = q.tired in let y = q.sleepy in
    let d : length b.drowsy + length b.drowsy_rung ≡ 0 = sym (both_long b.drowsy b.drowsy_rung) ∙ ap length q.drowsy in
    omega arith
