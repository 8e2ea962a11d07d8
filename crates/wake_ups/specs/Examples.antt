-- A run in which a worker sleeps and is woken, and one that loses a wake-up where an exchange compares the number of
-- the unnoticed alone.
use Rattle.std.specs.Prelude.{◌≡◌, List, [], ◌∷◌}
use Rattle.wake_ups.specs.Wakeups.{Wakeups, Word, Step}
use Rattle.wake_ups.specs.Wakeups.Step.{Announce, Count, End_and_find_none, Find_no_waiter, Find_waiter, Forget, Give_up, Keep, Keep_last, Last_find_none, Leave, Spin, Look_and_find_none, Look_and_take, Move_epoch, Notice_none, Notice_while_awake, Put, Read_epoch, Read_unnoticed, Notify, Rouse, Sleep, Wake, Wake_none}

-- how the exchanges compared before: the number alone
abbrev pub SameNumber : Word → Word → Type 0
SameNumber read now = read.unnoticed ≡ now.unnoticed

abbrev pub losing_steps : List Step
losing_steps = Put ∷ Count ∷ Notify 0 ∷ Find_no_waiter ∷ Look_and_take ∷ Look_and_find_none (record { came = 1; unnoticed = 1 }) ∷ End_and_find_none (record { came = 1; unnoticed = 1 }) ∷ Forget 0 ∷ Notice_none ∷ Spin ∷ Give_up ∷ Announce ∷ Read_epoch ∷ Last_find_none (record { came = 1; unnoticed = 0 }) ∷ Keep_last 0 ∷ Put ∷ Count ∷ Forget 0 ∷ Notice_none ∷ Spin ∷ Leave 0 ∷ Put ∷ Count ∷ Leave 0 ∷ Notice_while_awake ∷ Rouse ∷ Read_unnoticed ∷ Leave 0 ∷ Look_and_take ∷ Sleep ∷ []

-- two workers, of which one runs a job and one sleeps, while a job waits
abbrev pub lost : Wakeups
lost = record { jobs = 1; word = record { came = 3; unnoticed = 0 }; awake = 0; waiters = 1; putting = 0; comparing = []; rousing = 0; notifying = 0; moving = 0; waking = 0; helping = []; running = 1; taking = []; emptied = []; between = 0; idle = 0; spinning = 0; roused = 0; looking = 0; tired = 0; announced = 0; last_looking = 0; last_looking_rung = 0; drowsy = []; drowsy_rung = []; sleepy = 0; sleepy_rung = 0; asleep = 1; asleep_rung = 0; kept = 0 }

abbrev pub waking_steps : List Step
waking_steps = Look_and_find_none (record { came = 0; unnoticed = 0 }) ∷ Keep 0 ∷ Notice_none ∷ Spin ∷ Give_up ∷ Announce ∷ Read_epoch ∷ Last_find_none (record { came = 0; unnoticed = 0 }) ∷ Keep_last 0 ∷ Sleep ∷ Put ∷ Count ∷ Notify 0 ∷ Find_waiter ∷ Move_epoch ∷ Wake ∷ Look_and_take ∷ Put ∷ Count ∷ Notify 0 ∷ Find_waiter ∷ Move_epoch ∷ Wake_none ∷ []

-- one worker, that runs a job, while a second job waits
abbrev pub woken : Wakeups
woken = record { jobs = 1; word = record { came = 2; unnoticed = 2 }; awake = 0; waiters = 1; putting = 0; comparing = []; rousing = 0; notifying = 0; moving = 0; waking = 0; helping = []; running = 1; taking = []; emptied = []; between = 0; idle = 0; spinning = 0; roused = 0; looking = 0; tired = 0; announced = 0; last_looking = 0; last_looking_rung = 0; drowsy = []; drowsy_rung = []; sleepy = 0; sleepy_rung = 0; asleep = 0; asleep_rung = 0; kept = 1 }
