-- What holds of every run.
use Rattle.std.specs.Prelude.{◌≡◌, ◌⊎◌, ℕ, ◌+◌, ◌<◌, ◌≤◌, List, [], ◌++◌, length}
use Rattle.wake_ups.specs.Wakeups.{Wakeups, Step, Run, start}

-- each caller has done all of its call, and each worker runs a job or sleeps
pub record NobodyIsBetween (b : Wakeups) : Type 0 where
  pub putting : b.putting ≡ 0
  pub comparing : b.comparing ≡ []
  pub rousing : b.rousing ≡ 0
  pub notifying : b.notifying ≡ 0
  pub moving : b.moving ≡ 0
  pub waking : b.waking ≡ 0
  pub taking : b.taking ≡ []
  pub emptied : b.emptied ≡ []
  pub awake : b.between + b.idle + b.spinning + b.roused + b.looking ≡ 0
  pub tired : b.tired + b.announced + b.last_looking + b.last_looking_rung ≡ 0
  pub drowsy : b.drowsy ++ b.drowsy_rung ≡ []
  pub sleepy : b.sleepy + b.sleepy_rung ≡ 0

-- the workers that will look at the board before they sleep, whatever the others do, beside those that stay awake
abbrev pub lookers : Wakeups → ℕ
lookers b = b.roused + b.looking + b.tired + b.announced + b.last_looking + b.last_looking_rung + length b.drowsy_rung + b.sleepy_rung

-- some worker sleeps, or is about to, for whom no wake-up is on its way
abbrev pub SleepsOn : Wakeups → Type 0
SleepsOn b = (0 < b.asleep + length b.drowsy + b.sleepy) ⊎ (b.waking < b.asleep_rung)

-- the looks and the notifications to come
abbrev pub looks_and_notifies : Wakeups → ℕ
looks_and_notifies b = b.awake + lookers b + b.putting + b.rousing + length b.comparing + b.notifying + b.moving + b.waking

-- where a job waits and nobody is between two steps, each of the workers runs one
abbrev pub AllRun : ℕ → List Step → Wakeups → Type 0
AllRun n steps b = Run (start n) steps b → NobodyIsBetween b → 0 < b.jobs → b.running ≡ n

-- while a worker sleeps on, there are as many looks and notifications to come as jobs wait
abbrev pub EachJobHasItsLook : ℕ → List Step → Wakeups → Type 0
EachJobHasItsLook n steps b = Run (start n) steps b → SleepsOn b → b.jobs ≤ looks_and_notifies b
