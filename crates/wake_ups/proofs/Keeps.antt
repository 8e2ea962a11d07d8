-- Each step keeps what makes the laws true.
use Rattle.std.proofs.Common.{◌≡◌, ℕ, ◌+◌, ◌<◌, inl, inr, refl, arith}
use Rattle.wake_ups.specs.Wakeups.{Wakeups, came_one, noticed_one, forgotten, Step, May, without, after}
use Rattle.wake_ups.specs.Wakeups.Step.{Put, Count, Call, Leave, Notify, Find_no_waiter, Find_waiter, Move_epoch, Wake, Wake_none, Wake_by_chance, Help, Help_on, Notice_helped, Stop_helping, End_and_take, End_and_find_none, End_and_look, Notice_taken, Run_on, Forget, Keep, Notice_between, Notice_none, Look_anyway, Spin, Notice_while_awake, Rouse, Read_unnoticed, Give_up, Look_and_take, Look_and_find_none, Announce, Read_epoch, Last_take, Last_find_none, Forget_last, Keep_last, Last_take_rung, Last_find_none_rung, Forget_last_rung, Keep_last_rung, Sleep, Look_again, Rise, Drop_key}
use Rattle.wake_ups.proofs.Bounds.{Keeps, base, MayForget, MayNotice, each_map, each_left, each_both, shorter, both_long, Beyond, forgets_later, notices_later, may_forget, may_notice, leaves, goes, covers_none, reads, notifies, wakes_none, moves}

pub keeps : (n : ℕ) (b : Wakeups) (s : Step) → May b s → Keeps n b → Keeps n (after b s)
keeps n b Put m i =
    record {
      awake = i.awake;
      waiters = i.waiters;
      all = i.all;
      counted = let f = i.counted in omega arith;
      emptied = each_map (λ u g. (g.0, λ e. let x = g.1 e in omega arith)) b.emptied (i.emptied);
      drowsy = each_map (λ u g. (g.0, λ e. let x = g.1 e in omega arith)) b.drowsy (i.drowsy);
      drowsy_rung = each_map (λ u g. (g.0, λ e. let x = g.1 e in omega arith)) b.drowsy_rung (i.drowsy_rung);
      taking = each_map (λ u g. (g.0, λ e k. let x = g.1 e k in omega arith)) b.taking (i.taking);
      helping = each_map (λ u g. (g.0, λ e k. let x = g.1 e k in omega arith)) b.helping (i.helping);
      sleeps = λ h. goes b (after b Put) (base b) (base (after b Put)) (i.sleeps (omega arith)) (omega arith);
      unrung = λ h. goes b (after b Put) (base b + b.waking) (base (after b Put) + (after b Put).waking) (i.unrung (omega arith)) (omega arith);
    }
keeps n b Count m i =
    let on : Beyond b.word (came_one b.word) = inl (omega arith) in
    record {
      awake = i.awake;
      waiters = i.waiters;
      all = i.all;
      counted = let f = i.counted in omega arith;
      emptied = each_map (forgets_later b (after b Count) on) b.emptied (i.emptied);
      drowsy = each_map (forgets_later b (after b Count) on) b.drowsy (i.drowsy);
      drowsy_rung = each_map (forgets_later b (after b Count) on) b.drowsy_rung (i.drowsy_rung);
      taking = each_map (notices_later b (after b Count) on) b.taking (i.taking);
      helping = each_map (notices_later b (after b Count) on) b.helping (i.helping);
      sleeps = λ h. let f = i.counted in reads b (after b Count) (b.word.unnoticed + 1) (base b) (base (after b Count)) (i.sleeps h) (omega arith);
      unrung = λ h. let f = i.counted in reads b (after b Count) (b.word.unnoticed + 1) (base b + b.waking) (base (after b Count) + (after b Count).waking) (i.unrung h) (omega arith);
    }
keeps n b Call m i =
    let on : Beyond b.word (came_one b.word) = inl (omega arith) in
    record {
      awake = i.awake;
      waiters = i.waiters;
      all = i.all;
      counted = let f = i.counted in omega arith;
      emptied = each_map (forgets_later b (after b Call) on) b.emptied (i.emptied);
      drowsy = each_map (forgets_later b (after b Call) on) b.drowsy (i.drowsy);
      drowsy_rung = each_map (forgets_later b (after b Call) on) b.drowsy_rung (i.drowsy_rung);
      taking = each_map (notices_later b (after b Call) on) b.taking (i.taking);
      helping = each_map (notices_later b (after b Call) on) b.helping (i.helping);
      sleeps = λ h. let f = i.counted in reads b (after b Call) (b.word.unnoticed + 1) (base b) (base (after b Call)) (i.sleeps h) (omega arith);
      unrung = λ h. let f = i.counted in reads b (after b Call) (b.word.unnoticed + 1) (base b + b.waking) (base (after b Call) + (after b Call).waking) (i.unrung h) (omega arith);
    }
keeps n b (Leave k) m i =
    record {
      awake = i.awake;
      waiters = i.waiters;
      all = i.all;
      counted = i.counted;
      emptied = i.emptied;
      drowsy = i.drowsy;
      drowsy_rung = i.drowsy_rung;
      taking = i.taking;
      helping = i.helping;
      sleeps = λ h. leaves b.jobs b.awake k (base b) b.comparing m (i.sleeps h);
      unrung = λ h. leaves b.jobs b.awake k (base b + b.waking) b.comparing m (i.unrung h);
    }
keeps n b (Notify k) m i =
    record {
      awake = i.awake;
      waiters = i.waiters;
      all = i.all;
      counted = i.counted;
      emptied = i.emptied;
      drowsy = i.drowsy;
      drowsy_rung = i.drowsy_rung;
      taking = i.taking;
      helping = i.helping;
      sleeps = λ h. notifies b (after b (Notify k)) k (base b) (base (after b (Notify k))) (i.sleeps h) (omega arith);
      unrung = λ h. notifies b (after b (Notify k)) k (base b + b.waking) (base (after b (Notify k)) + (after b (Notify k)).waking) (i.unrung h) (omega arith);
    }
keeps n b Find_no_waiter m i =
    record {
      awake = i.awake;
      waiters = i.waiters;
      all = i.all;
      counted = i.counted;
      emptied = i.emptied;
      drowsy = i.drowsy;
      drowsy_rung = i.drowsy_rung;
      taking = i.taking;
      helping = i.helping;
      sleeps = λ h. absurd (let f = i.waiters in omega arith);
      unrung = λ h. absurd (let f = i.waiters in omega arith);
    }
keeps n b Find_waiter m i =
    record {
      awake = i.awake;
      waiters = i.waiters;
      all = i.all;
      counted = i.counted;
      emptied = i.emptied;
      drowsy = i.drowsy;
      drowsy_rung = i.drowsy_rung;
      taking = i.taking;
      helping = i.helping;
      sleeps = λ h. goes b (after b Find_waiter) (base b) (base (after b Find_waiter)) (i.sleeps (omega arith)) (omega arith);
      unrung = λ h. goes b (after b Find_waiter) (base b + b.waking) (base (after b Find_waiter) + (after b Find_waiter).waking) (i.unrung (omega arith)) (omega arith);
    }
keeps n b Move_epoch m i =
    let long = both_long b.drowsy b.drowsy_rung in
    record {
      awake = i.awake;
      waiters = let f = i.waiters in omega arith;
      all = let f = i.all in omega arith;
      counted = let f = i.counted in omega arith;
      emptied = i.emptied;
      drowsy = tt;
      drowsy_rung = each_both (MayForget (after b Move_epoch)) b.drowsy b.drowsy_rung (each_map (λ u g. (g.0, λ e. let x = g.1 e in omega arith)) b.drowsy i.drowsy) (each_map (λ u g. (g.0, λ e. let x = g.1 e in omega arith)) b.drowsy_rung i.drowsy_rung);
      taking = each_map (λ u g. (g.0, λ e k. let x = g.1 e k in omega arith)) b.taking (i.taking);
      helping = each_map (λ u g. (g.0, λ e k. let x = g.1 e k in omega arith)) b.helping (i.helping);
      sleeps = λ h. absurd (omega arith);
      unrung = λ h. moves b b.asleep refl m h i.sleeps i.unrung;
    }
keeps n b Wake m i =
    record {
      awake = i.awake;
      waiters = let f = i.waiters in omega arith;
      all = let f = i.all in omega arith;
      counted = let f = i.counted in omega arith;
      emptied = i.emptied;
      drowsy = i.drowsy;
      drowsy_rung = i.drowsy_rung;
      taking = each_map (λ u g. (g.0, λ e k. let x = g.1 e k in omega arith)) b.taking (i.taking);
      helping = each_map (λ u g. (g.0, λ e k. let x = g.1 e k in omega arith)) b.helping (i.helping);
      sleeps = λ h. goes b (after b Wake) (base b) (base (after b Wake)) (i.sleeps (omega arith)) (omega arith);
      unrung = λ h. goes b (after b Wake) (base b + b.waking) (base (after b Wake) + (after b Wake).waking) (i.unrung (omega arith)) (omega arith);
    }
keeps n b Wake_none m i =
    record {
      awake = i.awake;
      waiters = i.waiters;
      all = i.all;
      counted = i.counted;
      emptied = i.emptied;
      drowsy = i.drowsy;
      drowsy_rung = i.drowsy_rung;
      taking = i.taking;
      helping = i.helping;
      sleeps = i.sleeps;
      unrung = λ h. wakes_none b m.1 h i.sleeps;
    }
keeps n b Wake_by_chance m i =
    record {
      awake = i.awake;
      waiters = let f = i.waiters in omega arith;
      all = let f = i.all in omega arith;
      counted = let f = i.counted in omega arith;
      emptied = i.emptied;
      drowsy = i.drowsy;
      drowsy_rung = i.drowsy_rung;
      taking = each_map (λ u g. (g.0, λ e k. let x = g.1 e k in omega arith)) b.taking (i.taking);
      helping = each_map (λ u g. (g.0, λ e k. let x = g.1 e k in omega arith)) b.helping (i.helping);
      sleeps = λ h. goes b (after b Wake_by_chance) (base b) (base (after b Wake_by_chance)) (i.sleeps (omega arith)) (omega arith);
      unrung = λ h. goes b (after b Wake_by_chance) (base b + b.waking) (base (after b Wake_by_chance) + (after b Wake_by_chance).waking) (i.unrung (omega arith)) (omega arith);
    }
keeps n b Help m i =
    record {
      awake = i.awake;
      waiters = i.waiters;
      all = i.all;
      counted = let f = i.counted in omega arith;
      emptied = each_map (λ u g. (g.0, λ e. let x = g.1 e in omega arith)) b.emptied (i.emptied);
      drowsy = each_map (λ u g. (g.0, λ e. let x = g.1 e in omega arith)) b.drowsy (i.drowsy);
      drowsy_rung = each_map (λ u g. (g.0, λ e. let x = g.1 e in omega arith)) b.drowsy_rung (i.drowsy_rung);
      taking = each_map (λ u g. (g.0, λ e k. let x = g.1 e k in omega arith)) b.taking (i.taking);
      helping = each_map (λ u g. (g.0, λ e k. let x = g.1 e k in omega arith)) b.helping (i.helping);
      sleeps = λ h. goes b (after b Help) (base b) (base (after b Help)) (i.sleeps (omega arith)) (omega arith);
      unrung = λ h. goes b (after b Help) (base b + b.waking) (base (after b Help) + (after b Help).waking) (i.unrung (omega arith)) (omega arith);
    }
keeps n b (Help_on read) m i =
    record {
      awake = i.awake;
      waiters = i.waiters;
      all = i.all;
      counted = let f = i.counted in omega arith;
      emptied = each_map (λ u g. (g.0, λ e. let x = g.1 e in omega arith)) b.emptied (i.emptied);
      drowsy = each_map (λ u g. (g.0, λ e. let x = g.1 e in omega arith)) b.drowsy (i.drowsy);
      drowsy_rung = each_map (λ u g. (g.0, λ e. let x = g.1 e in omega arith)) b.drowsy_rung (i.drowsy_rung);
      taking = each_map (λ u g. (g.0, λ e k. let x = g.1 e k in omega arith)) b.taking (i.taking);
      helping = ((m.1, λ e k. let x = i.counted in omega arith), each_map (λ u g. (g.0, λ e k. let x = g.1 e k in omega arith)) b.helping (i.helping));
      sleeps = λ h. goes b (after b (Help_on read)) (base b) (base (after b (Help_on read))) (i.sleeps (omega arith)) (omega arith);
      unrung = λ h. goes b (after b (Help_on read)) (base b + b.waking) (base (after b (Help_on read)) + (after b (Help_on read)).waking) (i.unrung (omega arith)) (omega arith);
    }
keeps n b (Notice_helped k) m i =
    let short = shorter (λ read. (read ≡ b.word) × (0 < read.unnoticed)) k b.helping m in
    let gain = may_notice b k b.helping m i.helping in let some = gain.0 in let few = gain.1 in
    let on : Beyond b.word (noticed_one b.word) = inr (omega arith) in
    record {
      awake = i.awake;
      waiters = i.waiters;
      all = i.all;
      counted = omega arith;
      emptied = each_map (forgets_later b (after b (Notice_helped k)) on) b.emptied (i.emptied);
      drowsy = each_map (forgets_later b (after b (Notice_helped k)) on) b.drowsy (i.drowsy);
      drowsy_rung = each_map (forgets_later b (after b (Notice_helped k)) on) b.drowsy_rung (i.drowsy_rung);
      taking = each_map (notices_later b (after b (Notice_helped k)) on) b.taking (i.taking);
      helping = each_map (notices_later b (after b (Notice_helped k)) on) (without k b.helping) (each_left (MayNotice b) k b.helping i.helping);
      sleeps = i.sleeps;
      unrung = i.unrung;
    }
keeps n b (Stop_helping k) m i =
    let short = shorter (λ read. Unit {0}) k b.helping m in
    record {
      awake = i.awake;
      waiters = i.waiters;
      all = i.all;
      counted = i.counted;
      emptied = i.emptied;
      drowsy = i.drowsy;
      drowsy_rung = i.drowsy_rung;
      taking = i.taking;
      helping = each_left (MayNotice b) k b.helping i.helping;
      sleeps = i.sleeps;
      unrung = i.unrung;
    }
keeps n b (End_and_take read) m i =
    record {
      awake = i.awake;
      waiters = i.waiters;
      all = let f = i.all in omega arith;
      counted = let f = i.counted in omega arith;
      emptied = each_map (λ u g. (g.0, λ e. let x = g.1 e in omega arith)) b.emptied (i.emptied);
      drowsy = each_map (λ u g. (g.0, λ e. let x = g.1 e in omega arith)) b.drowsy (i.drowsy);
      drowsy_rung = each_map (λ u g. (g.0, λ e. let x = g.1 e in omega arith)) b.drowsy_rung (i.drowsy_rung);
      taking = ((m.2, λ e k. let x = i.counted in omega arith), each_map (λ u g. (g.0, λ e k. let x = g.1 e k in omega arith)) b.taking (i.taking));
      helping = each_map (λ u g. (g.0, λ e k. let x = g.1 e k in omega arith)) b.helping (i.helping);
      sleeps = λ h. goes b (after b (End_and_take read)) (base b) (base (after b (End_and_take read))) (i.sleeps (omega arith)) (omega arith);
      unrung = λ h. goes b (after b (End_and_take read)) (base b + b.waking) (base (after b (End_and_take read)) + (after b (End_and_take read)).waking) (i.unrung (omega arith)) (omega arith);
    }
keeps n b (End_and_find_none read) m i =
    record {
      awake = i.awake;
      waiters = i.waiters;
      all = let f = i.all in omega arith;
      counted = omega arith;
      emptied = ((m.2, λ e. let z = m.1 in omega arith), i.emptied);
      drowsy = i.drowsy;
      drowsy_rung = i.drowsy_rung;
      taking = i.taking;
      helping = i.helping;
      sleeps = i.sleeps;
      unrung = i.unrung;
    }
keeps n b End_and_look m i =
    record {
      awake = i.awake;
      waiters = i.waiters;
      all = let f = i.all in omega arith;
      counted = let f = i.counted in omega arith;
      emptied = i.emptied;
      drowsy = i.drowsy;
      drowsy_rung = i.drowsy_rung;
      taking = each_map (λ u g. (g.0, λ e k. let x = g.1 e k in omega arith)) b.taking (i.taking);
      helping = each_map (λ u g. (g.0, λ e k. let x = g.1 e k in omega arith)) b.helping (i.helping);
      sleeps = λ h. goes b (after b End_and_look) (base b) (base (after b End_and_look)) (i.sleeps (omega arith)) (omega arith);
      unrung = λ h. goes b (after b End_and_look) (base b + b.waking) (base (after b End_and_look) + (after b End_and_look).waking) (i.unrung (omega arith)) (omega arith);
    }
keeps n b (Notice_taken k) m i =
    let short = shorter (λ read. (read ≡ b.word) × (0 < read.unnoticed)) k b.taking m in
    let gain = may_notice b k b.taking m i.taking in let some = gain.0 in let few = gain.1 in
    let on : Beyond b.word (noticed_one b.word) = inr (omega arith) in
    record {
      awake = i.awake;
      waiters = i.waiters;
      all = let f = i.all in omega arith;
      counted = omega arith;
      emptied = each_map (forgets_later b (after b (Notice_taken k)) on) b.emptied (i.emptied);
      drowsy = each_map (forgets_later b (after b (Notice_taken k)) on) b.drowsy (i.drowsy);
      drowsy_rung = each_map (forgets_later b (after b (Notice_taken k)) on) b.drowsy_rung (i.drowsy_rung);
      taking = each_map (notices_later b (after b (Notice_taken k)) on) (without k b.taking) (each_left (MayNotice b) k b.taking i.taking);
      helping = each_map (notices_later b (after b (Notice_taken k)) on) b.helping (i.helping);
      sleeps = i.sleeps;
      unrung = i.unrung;
    }
keeps n b (Run_on k) m i =
    let short = shorter (λ read. Unit {0}) k b.taking m in
    record {
      awake = i.awake;
      waiters = i.waiters;
      all = let f = i.all in omega arith;
      counted = i.counted;
      emptied = i.emptied;
      drowsy = i.drowsy;
      drowsy_rung = i.drowsy_rung;
      taking = each_left (MayNotice b) k b.taking i.taking;
      helping = i.helping;
      sleeps = i.sleeps;
      unrung = i.unrung;
    }
keeps n b (Forget k) m i =
    let short = shorter (λ read. (read ≡ b.word) × (0 < read.unnoticed)) k b.emptied m in
    let gain = may_forget b k b.emptied m i.emptied in let some = gain.0 in let few = gain.1 in
    let on : Beyond b.word (forgotten b.word) = inr (omega arith) in
    record {
      awake = i.awake;
      waiters = i.waiters;
      all = let f = i.all in omega arith;
      counted = omega arith;
      emptied = each_map (forgets_later b (after b (Forget k)) on) (without k b.emptied) (each_left (MayForget b) k b.emptied i.emptied);
      drowsy = each_map (forgets_later b (after b (Forget k)) on) b.drowsy (i.drowsy);
      drowsy_rung = each_map (forgets_later b (after b (Forget k)) on) b.drowsy_rung (i.drowsy_rung);
      taking = each_map (notices_later b (after b (Forget k)) on) b.taking (i.taking);
      helping = each_map (notices_later b (after b (Forget k)) on) b.helping (i.helping);
      sleeps = i.sleeps;
      unrung = i.unrung;
    }
keeps n b (Keep k) m i =
    let short = shorter (λ read. Unit {0}) k b.emptied m in
    record {
      awake = i.awake;
      waiters = i.waiters;
      all = let f = i.all in omega arith;
      counted = i.counted;
      emptied = each_left (MayForget b) k b.emptied i.emptied;
      drowsy = i.drowsy;
      drowsy_rung = i.drowsy_rung;
      taking = i.taking;
      helping = i.helping;
      sleeps = i.sleeps;
      unrung = i.unrung;
    }
keeps n b Notice_between m i =
    let on : Beyond b.word (noticed_one b.word) = inr (omega arith) in
    record {
      awake = i.awake;
      waiters = i.waiters;
      all = let f = i.all in omega arith;
      counted = let f = i.counted in omega arith;
      emptied = each_map (forgets_later b (after b Notice_between) on) b.emptied (i.emptied);
      drowsy = each_map (forgets_later b (after b Notice_between) on) b.drowsy (i.drowsy);
      drowsy_rung = each_map (forgets_later b (after b Notice_between) on) b.drowsy_rung (i.drowsy_rung);
      taking = each_map (notices_later b (after b Notice_between) on) b.taking (i.taking);
      helping = each_map (notices_later b (after b Notice_between) on) b.helping (i.helping);
      sleeps = λ h. goes b (after b Notice_between) (base b) (base (after b Notice_between)) (i.sleeps (omega arith)) (omega arith);
      unrung = λ h. goes b (after b Notice_between) (base b + b.waking) (base (after b Notice_between) + (after b Notice_between).waking) (i.unrung (omega arith)) (omega arith);
    }
keeps n b Notice_none m i =
    record {
      awake = i.awake;
      waiters = i.waiters;
      all = let f = i.all in omega arith;
      counted = i.counted;
      emptied = i.emptied;
      drowsy = i.drowsy;
      drowsy_rung = i.drowsy_rung;
      taking = i.taking;
      helping = i.helping;
      sleeps = i.sleeps;
      unrung = i.unrung;
    }
keeps n b Look_anyway m i =
    record {
      awake = i.awake;
      waiters = i.waiters;
      all = let f = i.all in omega arith;
      counted = let f = i.counted in omega arith;
      emptied = i.emptied;
      drowsy = i.drowsy;
      drowsy_rung = i.drowsy_rung;
      taking = each_map (λ u g. (g.0, λ e k. let x = g.1 e k in omega arith)) b.taking (i.taking);
      helping = each_map (λ u g. (g.0, λ e k. let x = g.1 e k in omega arith)) b.helping (i.helping);
      sleeps = λ h. goes b (after b Look_anyway) (base b) (base (after b Look_anyway)) (i.sleeps (omega arith)) (omega arith);
      unrung = λ h. goes b (after b Look_anyway) (base b + b.waking) (base (after b Look_anyway) + (after b Look_anyway).waking) (i.unrung (omega arith)) (omega arith);
    }
keeps n b Spin m i =
    record {
      awake = let f = i.awake in omega arith;
      waiters = i.waiters;
      all = let f = i.all in omega arith;
      counted = i.counted;
      emptied = i.emptied;
      drowsy = i.drowsy;
      drowsy_rung = i.drowsy_rung;
      taking = i.taking;
      helping = i.helping;
      sleeps = λ h. goes b (after b Spin) (base b) (base (after b Spin)) (i.sleeps (omega arith)) (omega arith);
      unrung = λ h. goes b (after b Spin) (base b + b.waking) (base (after b Spin) + (after b Spin).waking) (i.unrung (omega arith)) (omega arith);
    }
keeps n b Notice_while_awake m i =
    let on : Beyond b.word (noticed_one b.word) = inr (omega arith) in
    record {
      awake = let f = i.awake in omega arith;
      waiters = i.waiters;
      all = let f = i.all in omega arith;
      counted = let f = i.counted in omega arith;
      emptied = each_map (forgets_later b (after b Notice_while_awake) on) b.emptied (i.emptied);
      drowsy = each_map (forgets_later b (after b Notice_while_awake) on) b.drowsy (i.drowsy);
      drowsy_rung = each_map (forgets_later b (after b Notice_while_awake) on) b.drowsy_rung (i.drowsy_rung);
      taking = each_map (notices_later b (after b Notice_while_awake) on) b.taking (i.taking);
      helping = each_map (notices_later b (after b Notice_while_awake) on) b.helping (i.helping);
      sleeps = λ h. goes b (after b Notice_while_awake) (base b) (base (after b Notice_while_awake)) (i.sleeps (omega arith)) (omega arith);
      unrung = λ h. goes b (after b Notice_while_awake) (base b + b.waking) (base (after b Notice_while_awake) + (after b Notice_while_awake).waking) (i.unrung (omega arith)) (omega arith);
    }
keeps n b Rouse m i =
    record {
      awake = let f = i.awake in omega arith;
      waiters = i.waiters;
      all = let f = i.all in omega arith;
      counted = let f = i.counted in omega arith;
      emptied = i.emptied;
      drowsy = i.drowsy;
      drowsy_rung = i.drowsy_rung;
      taking = each_map (λ u g. (g.0, λ e k. let x = g.1 e k in omega arith)) b.taking (i.taking);
      helping = each_map (λ u g. (g.0, λ e k. let x = g.1 e k in omega arith)) b.helping (i.helping);
      sleeps = λ h. let f = i.awake in goes b (after b Rouse) (base b) (base (after b Rouse)) (i.sleeps h) (omega arith);
      unrung = λ h. let f = i.awake in goes b (after b Rouse) (base b + b.waking) (base (after b Rouse) + (after b Rouse).waking) (i.unrung h) (omega arith);
    }
keeps n b Read_unnoticed m i =
    record {
      awake = i.awake;
      waiters = i.waiters;
      all = i.all;
      counted = i.counted;
      emptied = i.emptied;
      drowsy = i.drowsy;
      drowsy_rung = i.drowsy_rung;
      taking = i.taking;
      helping = i.helping;
      sleeps = λ h. let f = i.counted in reads b (after b Read_unnoticed) b.word.unnoticed (base b) (base (after b Read_unnoticed)) (i.sleeps h) (omega arith);
      unrung = λ h. let f = i.counted in reads b (after b Read_unnoticed) b.word.unnoticed (base b + b.waking) (base (after b Read_unnoticed) + (after b Read_unnoticed).waking) (i.unrung h) (omega arith);
    }
keeps n b Give_up m i =
    record {
      awake = let f = i.awake in omega arith;
      waiters = i.waiters;
      all = let f = i.all in omega arith;
      counted = let f = i.counted in omega arith;
      emptied = i.emptied;
      drowsy = i.drowsy;
      drowsy_rung = i.drowsy_rung;
      taking = each_map (λ u g. (g.0, λ e k. let x = g.1 e k in omega arith)) b.taking (i.taking);
      helping = each_map (λ u g. (g.0, λ e k. let x = g.1 e k in omega arith)) b.helping (i.helping);
      sleeps = λ h. let f = i.awake in goes b (after b Give_up) (base b) (base (after b Give_up)) (i.sleeps h) (omega arith);
      unrung = λ h. let f = i.awake in goes b (after b Give_up) (base b + b.waking) (base (after b Give_up) + (after b Give_up).waking) (i.unrung h) (omega arith);
    }
keeps n b Look_and_take m i =
    record {
      awake = i.awake;
      waiters = i.waiters;
      all = let f = i.all in omega arith;
      counted = let f = i.counted in omega arith;
      emptied = each_map (λ u g. (g.0, λ e. let x = g.1 e in omega arith)) b.emptied (i.emptied);
      drowsy = each_map (λ u g. (g.0, λ e. let x = g.1 e in omega arith)) b.drowsy (i.drowsy);
      drowsy_rung = each_map (λ u g. (g.0, λ e. let x = g.1 e in omega arith)) b.drowsy_rung (i.drowsy_rung);
      taking = each_map (λ u g. (g.0, λ e k. let x = g.1 e k in omega arith)) b.taking (i.taking);
      helping = each_map (λ u g. (g.0, λ e k. let x = g.1 e k in omega arith)) b.helping (i.helping);
      sleeps = λ h. goes b (after b Look_and_take) (base b) (base (after b Look_and_take)) (i.sleeps (omega arith)) (omega arith);
      unrung = λ h. goes b (after b Look_and_take) (base b + b.waking) (base (after b Look_and_take) + (after b Look_and_take).waking) (i.unrung (omega arith)) (omega arith);
    }
keeps n b (Look_and_find_none read) m i =
    record {
      awake = i.awake;
      waiters = i.waiters;
      all = let f = i.all in omega arith;
      counted = omega arith;
      emptied = ((m.2, λ e. let z = m.1 in omega arith), i.emptied);
      drowsy = i.drowsy;
      drowsy_rung = i.drowsy_rung;
      taking = each_map (λ u g. (g.0, λ e k. omega arith)) b.taking (i.taking);
      helping = each_map (λ u g. (g.0, λ e k. omega arith)) b.helping (i.helping);
      sleeps = λ h. covers_none b (after b (Look_and_find_none read)) _ refl m.1;
      unrung = λ h. covers_none b (after b (Look_and_find_none read)) _ refl m.1;
    }
keeps n b Announce m i =
    record {
      awake = i.awake;
      waiters = let f = i.waiters in omega arith;
      all = let f = i.all in omega arith;
      counted = let f = i.counted in omega arith;
      emptied = i.emptied;
      drowsy = i.drowsy;
      drowsy_rung = i.drowsy_rung;
      taking = each_map (λ u g. (g.0, λ e k. let x = g.1 e k in omega arith)) b.taking (i.taking);
      helping = each_map (λ u g. (g.0, λ e k. let x = g.1 e k in omega arith)) b.helping (i.helping);
      sleeps = λ h. goes b (after b Announce) (base b) (base (after b Announce)) (i.sleeps (omega arith)) (omega arith);
      unrung = λ h. goes b (after b Announce) (base b + b.waking) (base (after b Announce) + (after b Announce).waking) (i.unrung (omega arith)) (omega arith);
    }
keeps n b Read_epoch m i =
    record {
      awake = i.awake;
      waiters = let f = i.waiters in omega arith;
      all = let f = i.all in omega arith;
      counted = let f = i.counted in omega arith;
      emptied = i.emptied;
      drowsy = i.drowsy;
      drowsy_rung = i.drowsy_rung;
      taking = each_map (λ u g. (g.0, λ e k. let x = g.1 e k in omega arith)) b.taking (i.taking);
      helping = each_map (λ u g. (g.0, λ e k. let x = g.1 e k in omega arith)) b.helping (i.helping);
      sleeps = λ h. goes b (after b Read_epoch) (base b) (base (after b Read_epoch)) (i.sleeps (omega arith)) (omega arith);
      unrung = λ h. goes b (after b Read_epoch) (base b + b.waking) (base (after b Read_epoch) + (after b Read_epoch).waking) (i.unrung (omega arith)) (omega arith);
    }
keeps n b Last_take m i =
    record {
      awake = i.awake;
      waiters = let f = i.waiters in omega arith;
      all = let f = i.all in omega arith;
      counted = let f = i.counted in omega arith;
      emptied = each_map (λ u g. (g.0, λ e. let x = g.1 e in omega arith)) b.emptied (i.emptied);
      drowsy = each_map (λ u g. (g.0, λ e. let x = g.1 e in omega arith)) b.drowsy (i.drowsy);
      drowsy_rung = each_map (λ u g. (g.0, λ e. let x = g.1 e in omega arith)) b.drowsy_rung (i.drowsy_rung);
      taking = each_map (λ u g. (g.0, λ e k. let x = g.1 e k in omega arith)) b.taking (i.taking);
      helping = each_map (λ u g. (g.0, λ e k. let x = g.1 e k in omega arith)) b.helping (i.helping);
      sleeps = λ h. goes b (after b Last_take) (base b) (base (after b Last_take)) (i.sleeps (omega arith)) (omega arith);
      unrung = λ h. goes b (after b Last_take) (base b + b.waking) (base (after b Last_take) + (after b Last_take).waking) (i.unrung (omega arith)) (omega arith);
    }
keeps n b (Last_find_none read) m i =
    record {
      awake = i.awake;
      waiters = let f = i.waiters in omega arith;
      all = let f = i.all in omega arith;
      counted = omega arith;
      emptied = i.emptied;
      drowsy = ((m.2, λ e. let z = m.1 in omega arith), i.drowsy);
      drowsy_rung = i.drowsy_rung;
      taking = each_map (λ u g. (g.0, λ e k. omega arith)) b.taking (i.taking);
      helping = each_map (λ u g. (g.0, λ e k. omega arith)) b.helping (i.helping);
      sleeps = λ h. covers_none b (after b (Last_find_none read)) _ refl m.1;
      unrung = λ h. covers_none b (after b (Last_find_none read)) _ refl m.1;
    }
keeps n b (Forget_last k) m i =
    let short = shorter (λ read. (read ≡ b.word) × (0 < read.unnoticed)) k b.drowsy m in
    let gain = may_forget b k b.drowsy m i.drowsy in let some = gain.0 in let few = gain.1 in
    let on : Beyond b.word (forgotten b.word) = inr (omega arith) in
    record {
      awake = i.awake;
      waiters = let f = i.waiters in omega arith;
      all = let f = i.all in omega arith;
      counted = omega arith;
      emptied = each_map (forgets_later b (after b (Forget_last k)) on) b.emptied (i.emptied);
      drowsy = each_map (forgets_later b (after b (Forget_last k)) on) (without k b.drowsy) (each_left (MayForget b) k b.drowsy i.drowsy);
      drowsy_rung = each_map (forgets_later b (after b (Forget_last k)) on) b.drowsy_rung (i.drowsy_rung);
      taking = each_map (notices_later b (after b (Forget_last k)) on) b.taking (i.taking);
      helping = each_map (notices_later b (after b (Forget_last k)) on) b.helping (i.helping);
      sleeps = λ h. goes b (after b (Forget_last k)) (base b) (base (after b (Forget_last k))) (i.sleeps (omega arith)) (omega arith);
      unrung = λ h. goes b (after b (Forget_last k)) (base b + b.waking) (base (after b (Forget_last k)) + (after b (Forget_last k)).waking) (i.unrung (omega arith)) (omega arith);
    }
keeps n b (Keep_last k) m i =
    let short = shorter (λ read. Unit {0}) k b.drowsy m in
    record {
      awake = i.awake;
      waiters = let f = i.waiters in omega arith;
      all = let f = i.all in omega arith;
      counted = i.counted;
      emptied = i.emptied;
      drowsy = each_left (MayForget b) k b.drowsy i.drowsy;
      drowsy_rung = i.drowsy_rung;
      taking = i.taking;
      helping = i.helping;
      sleeps = λ h. goes b (after b (Keep_last k)) (base b) (base (after b (Keep_last k))) (i.sleeps (omega arith)) (omega arith);
      unrung = λ h. goes b (after b (Keep_last k)) (base b + b.waking) (base (after b (Keep_last k)) + (after b (Keep_last k)).waking) (i.unrung (omega arith)) (omega arith);
    }
keeps n b Last_take_rung m i =
    record {
      awake = i.awake;
      waiters = let f = i.waiters in omega arith;
      all = let f = i.all in omega arith;
      counted = let f = i.counted in omega arith;
      emptied = each_map (λ u g. (g.0, λ e. let x = g.1 e in omega arith)) b.emptied (i.emptied);
      drowsy = each_map (λ u g. (g.0, λ e. let x = g.1 e in omega arith)) b.drowsy (i.drowsy);
      drowsy_rung = each_map (λ u g. (g.0, λ e. let x = g.1 e in omega arith)) b.drowsy_rung (i.drowsy_rung);
      taking = each_map (λ u g. (g.0, λ e k. let x = g.1 e k in omega arith)) b.taking (i.taking);
      helping = each_map (λ u g. (g.0, λ e k. let x = g.1 e k in omega arith)) b.helping (i.helping);
      sleeps = λ h. goes b (after b Last_take_rung) (base b) (base (after b Last_take_rung)) (i.sleeps (omega arith)) (omega arith);
      unrung = λ h. goes b (after b Last_take_rung) (base b + b.waking) (base (after b Last_take_rung) + (after b Last_take_rung).waking) (i.unrung (omega arith)) (omega arith);
    }
keeps n b (Last_find_none_rung read) m i =
    record {
      awake = i.awake;
      waiters = let f = i.waiters in omega arith;
      all = let f = i.all in omega arith;
      counted = omega arith;
      emptied = i.emptied;
      drowsy = i.drowsy;
      drowsy_rung = ((m.2, λ e. let z = m.1 in omega arith), i.drowsy_rung);
      taking = each_map (λ u g. (g.0, λ e k. omega arith)) b.taking (i.taking);
      helping = each_map (λ u g. (g.0, λ e k. omega arith)) b.helping (i.helping);
      sleeps = λ h. covers_none b (after b (Last_find_none_rung read)) _ refl m.1;
      unrung = λ h. covers_none b (after b (Last_find_none_rung read)) _ refl m.1;
    }
keeps n b (Forget_last_rung k) m i =
    let short = shorter (λ read. (read ≡ b.word) × (0 < read.unnoticed)) k b.drowsy_rung m in
    let gain = may_forget b k b.drowsy_rung m i.drowsy_rung in let some = gain.0 in let few = gain.1 in
    let on : Beyond b.word (forgotten b.word) = inr (omega arith) in
    record {
      awake = i.awake;
      waiters = let f = i.waiters in omega arith;
      all = let f = i.all in omega arith;
      counted = omega arith;
      emptied = each_map (forgets_later b (after b (Forget_last_rung k)) on) b.emptied (i.emptied);
      drowsy = each_map (forgets_later b (after b (Forget_last_rung k)) on) b.drowsy (i.drowsy);
      drowsy_rung = each_map (forgets_later b (after b (Forget_last_rung k)) on) (without k b.drowsy_rung) (each_left (MayForget b) k b.drowsy_rung i.drowsy_rung);
      taking = each_map (notices_later b (after b (Forget_last_rung k)) on) b.taking (i.taking);
      helping = each_map (notices_later b (after b (Forget_last_rung k)) on) b.helping (i.helping);
      sleeps = λ h. goes b (after b (Forget_last_rung k)) (base b) (base (after b (Forget_last_rung k))) (i.sleeps (omega arith)) (omega arith);
      unrung = λ h. goes b (after b (Forget_last_rung k)) (base b + b.waking) (base (after b (Forget_last_rung k)) + (after b (Forget_last_rung k)).waking) (i.unrung (omega arith)) (omega arith);
    }
keeps n b (Keep_last_rung k) m i =
    let short = shorter (λ read. Unit {0}) k b.drowsy_rung m in
    record {
      awake = i.awake;
      waiters = let f = i.waiters in omega arith;
      all = let f = i.all in omega arith;
      counted = let f = i.counted in omega arith;
      emptied = i.emptied;
      drowsy = i.drowsy;
      drowsy_rung = each_left (MayForget b) k b.drowsy_rung i.drowsy_rung;
      taking = each_map (λ u g. (g.0, λ e k. let x = g.1 e k in omega arith)) b.taking (i.taking);
      helping = each_map (λ u g. (g.0, λ e k. let x = g.1 e k in omega arith)) b.helping (i.helping);
      sleeps = λ h. goes b (after b (Keep_last_rung k)) (base b) (base (after b (Keep_last_rung k))) (i.sleeps (omega arith)) (omega arith);
      unrung = λ h. goes b (after b (Keep_last_rung k)) (base b + b.waking) (base (after b (Keep_last_rung k)) + (after b (Keep_last_rung k)).waking) (i.unrung (omega arith)) (omega arith);
    }
keeps n b Sleep m i =
    record {
      awake = i.awake;
      waiters = let f = i.waiters in omega arith;
      all = let f = i.all in omega arith;
      counted = i.counted;
      emptied = i.emptied;
      drowsy = i.drowsy;
      drowsy_rung = i.drowsy_rung;
      taking = i.taking;
      helping = i.helping;
      sleeps = λ h. goes b (after b Sleep) (base b) (base (after b Sleep)) (i.sleeps (omega arith)) (omega arith);
      unrung = λ h. goes b (after b Sleep) (base b + b.waking) (base (after b Sleep) + (after b Sleep).waking) (i.unrung (omega arith)) (omega arith);
    }
keeps n b Look_again m i =
    record {
      awake = i.awake;
      waiters = let f = i.waiters in omega arith;
      all = let f = i.all in omega arith;
      counted = let f = i.counted in omega arith;
      emptied = i.emptied;
      drowsy = i.drowsy;
      drowsy_rung = i.drowsy_rung;
      taking = each_map (λ u g. (g.0, λ e k. let x = g.1 e k in omega arith)) b.taking (i.taking);
      helping = each_map (λ u g. (g.0, λ e k. let x = g.1 e k in omega arith)) b.helping (i.helping);
      sleeps = λ h. goes b (after b Look_again) (base b) (base (after b Look_again)) (i.sleeps (omega arith)) (omega arith);
      unrung = λ h. goes b (after b Look_again) (base b + b.waking) (base (after b Look_again) + (after b Look_again).waking) (i.unrung (omega arith)) (omega arith);
    }
keeps n b Rise m i =
    record {
      awake = i.awake;
      waiters = let f = i.waiters in omega arith;
      all = let f = i.all in omega arith;
      counted = let f = i.counted in omega arith;
      emptied = i.emptied;
      drowsy = i.drowsy;
      drowsy_rung = i.drowsy_rung;
      taking = each_map (λ u g. (g.0, λ e k. let x = g.1 e k in omega arith)) b.taking (i.taking);
      helping = each_map (λ u g. (g.0, λ e k. let x = g.1 e k in omega arith)) b.helping (i.helping);
      sleeps = λ h. goes b (after b Rise) (base b) (base (after b Rise)) (i.sleeps (omega arith)) (omega arith);
      unrung = λ h. goes b (after b Rise) (base b + b.waking) (base (after b Rise) + (after b Rise).waking) (i.unrung (omega arith)) (omega arith);
    }
keeps n b Drop_key m i =
    record {
      awake = i.awake;
      waiters = let f = i.waiters in omega arith;
      all = i.all;
      counted = i.counted;
      emptied = i.emptied;
      drowsy = i.drowsy;
      drowsy_rung = i.drowsy_rung;
      taking = i.taking;
      helping = i.helping;
      sleeps = i.sleeps;
      unrung = i.unrung;
    }
