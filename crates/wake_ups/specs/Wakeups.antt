-- The wake-ups of a board: their words, and where all who use them stand. A step is one access of a word, or a turn at
-- the board.
use Rattle.std.specs.Prelude.{◌≡◌, ◌⊎◌, ℕ, ◌+◌, ◌-◌, ◌<◌, ◌≤◌, List, [], ◌∷◌, ◌++◌, zero, suc}

-- The word that a caller adds to as it counts a job: how many came at all, and how many of these are unnoticed.
pub record Word : Type 0 where
  pub came : ℕ
  pub unnoticed : ℕ

abbrev pub came_one : Word → Word
came_one w = record { came = w.came + 1; unnoticed = w.unnoticed + 1 }

abbrev pub noticed_one : Word → Word
noticed_one w = record { came = w.came; unnoticed = w.unnoticed - 1 }

abbrev pub forgotten : Word → Word
forgotten w = record { came = w.came; unnoticed = 0 }

-- What was read earlier: fewer had come, or as many and no fewer were unnoticed. Each change of the word leads on in
-- this order.
abbrev pub NotBefore : Word → Word → Type 0
NotBefore read now = (read.came < now.came) ⊎ ((read.came ≡ now.came) × (now.unnoticed ≤ read.unnoticed))

pub record Wakeups : Type 0 where
  pub jobs : ℕ  -- jobs that wait
  pub word : Word  -- the word: how many came, and how many of these no worker has noticed
  pub awake : ℕ  -- the word: workers that stay awake
  pub waiters : ℕ  -- the word: waits that are announced
  pub putting : ℕ  -- callers that have put a job, and not counted it
  pub comparing : List ℕ  -- those who have read how many are unnoticed, the last first, and will compare it with the awake
  pub rousing : ℕ  -- those who were roused while they stayed awake, and will read how many are unnoticed
  pub notifying : ℕ  -- those who will read how many wait
  pub moving : ℕ  -- who will move the epoch
  pub waking : ℕ  -- who will wake one
  pub helping : List Word  -- callers that are no workers, took a job as they finished one, and may notice it: the word that each read before its turn
  pub running : ℕ  -- workers that run a job
  pub taking : List Word  -- took one as they finished one, and may notice it: the word that each read before
  pub emptied : List Word  -- found none, and may forget: likewise
  pub between : ℕ  -- may notice another job
  pub idle : ℕ  -- will stay awake
  pub spinning : ℕ  -- stay awake
  pub roused : ℕ  -- noticed one while they stayed awake, in which they are still counted
  pub looking : ℕ  -- will look at the board
  pub tired : ℕ  -- stay awake no longer, and will announce a wait
  pub announced : ℕ  -- have announced it, and will read the epoch
  pub last_looking : ℕ  -- have read it, and will look once more
  pub last_looking_rung : ℕ  -- likewise, and the epoch has moved since
  pub drowsy : List Word  -- found none at the last look, and may forget: the word that each read before
  pub drowsy_rung : List Word
  pub sleepy : ℕ  -- will sleep unless the epoch has moved
  pub sleepy_rung : ℕ
  pub asleep : ℕ
  pub asleep_rung : ℕ
  pub kept : ℕ  -- waits that are over and still announced

-- each worker looks at the board, and nothing has happened
abbrev pub start : ℕ → Wakeups
start n = record { jobs = 0; word = record { came = 0; unnoticed = 0 }; awake = 0; waiters = 0; putting = 0; comparing = []; rousing = 0; notifying = 0; moving = 0; waking = 0; helping = []; running = 0; taking = []; emptied = []; between = 0; idle = 0; spinning = 0; roused = 0; looking = n; tired = 0; announced = 0; last_looking = 0; last_looking_rung = 0; drowsy = []; drowsy_rung = []; sleepy = 0; sleepy_rung = 0; asleep = 0; asleep_rung = 0; kept = 0 }

pub data Step : Type 0 where
  Put : Step
  Count : Step
  Call : Step  -- counts where there may be no job
  Leave : ℕ → Step
  Notify : ℕ → Step
  Find_no_waiter : Step
  Find_waiter : Step
  Move_epoch : Step
  Wake : Step  -- wakes one that slept before the epoch moved
  Wake_none : Step  -- there is none, or it wakes one that read the epoch later, and that sleeps on
  Wake_by_chance : Step  -- the system wakes one for no reason
  Help : Step
  Help_on : Word → Step
  Notice_helped : ℕ → Step
  Stop_helping : ℕ → Step
  End_and_take : Word → Step
  End_and_find_none : Word → Step
  End_and_look : Step  -- it did so many jobs in a row that it looks for something else between
  Notice_taken : ℕ → Step
  Run_on : ℕ → Step
  Forget : ℕ → Step
  Keep : ℕ → Step
  Notice_between : Step
  Notice_none : Step
  Look_anyway : Step  -- it built something, or its wait is over
  Spin : Step
  Notice_while_awake : Step
  Rouse : Step
  Read_unnoticed : Step
  Give_up : Step
  Look_and_take : Step
  Look_and_find_none : Word → Step
  Announce : Step
  Read_epoch : Step
  Last_take : Step
  Last_find_none : Word → Step
  Forget_last : ℕ → Step
  Keep_last : ℕ → Step
  Last_take_rung : Step
  Last_find_none_rung : Word → Step
  Forget_last_rung : ℕ → Step
  Keep_last_rung : ℕ → Step
  Sleep : Step
  Look_again : Step
  Rise : Step  -- it built something after the last look
  Drop_key : Step

-- the element at this place is such
abbrev pub At : {A : Type 0} → (A → Type 0) → ℕ → List A → Type 0
At P k [] = ⊥
At P zero (x ∷ xs) = P x
At P (suc k) (x ∷ xs) = At P k xs

-- the list without it
abbrev pub without : {A : Type 0} → ℕ → List A → List A
without k [] = []
without zero (x ∷ xs) = xs
without (suc k) (x ∷ xs) = x ∷ without k xs

-- where the step may be taken: what was read before a turn is any that the word may have been; `Same` is how an
-- exchange compares what was read with the word
abbrev pub MayBy : (Word → Word → Type 0) → Wakeups → Step → Type 0
MayBy Same b Put = Unit {0}
MayBy Same b Count = 0 < b.putting
MayBy Same b Call = Unit {0}
MayBy Same b (Leave k) = At (λ seen. seen ≤ b.awake) k b.comparing
MayBy Same b (Notify k) = At (λ seen. b.awake < seen) k b.comparing
MayBy Same b Find_no_waiter = (0 < b.notifying) × (b.waiters ≡ 0)
MayBy Same b Find_waiter = (0 < b.notifying) × (0 < b.waiters)
MayBy Same b Move_epoch = 0 < b.moving
MayBy Same b Wake = (0 < b.waking) × (0 < b.asleep_rung)
MayBy Same b Wake_none = (0 < b.waking) × ((b.asleep_rung ≡ 0) ⊎ (0 < b.asleep))
MayBy Same b Wake_by_chance = 0 < b.asleep_rung
MayBy Same b Help = 0 < b.jobs
MayBy Same b (Help_on read) = (0 < b.jobs) × NotBefore read b.word
MayBy Same b (Notice_helped k) = At (λ read. Same read b.word × (0 < read.unnoticed)) k b.helping
MayBy Same b (Stop_helping k) = At (λ read. Unit {0}) k b.helping
MayBy Same b (End_and_take read) = (0 < b.running) × (0 < b.jobs) × NotBefore read b.word
MayBy Same b (End_and_find_none read) = (0 < b.running) × (b.jobs ≡ 0) × NotBefore read b.word
MayBy Same b End_and_look = 0 < b.running
MayBy Same b (Notice_taken k) = At (λ read. Same read b.word × (0 < read.unnoticed)) k b.taking
MayBy Same b (Run_on k) = At (λ read. Unit {0}) k b.taking
MayBy Same b (Forget k) = At (λ read. Same read b.word × (0 < read.unnoticed)) k b.emptied
MayBy Same b (Keep k) = At (λ read. Unit {0}) k b.emptied
MayBy Same b Notice_between = (0 < b.between) × (0 < b.word.unnoticed)
MayBy Same b Notice_none = 0 < b.between
MayBy Same b Look_anyway = 0 < b.between
MayBy Same b Spin = 0 < b.idle
MayBy Same b Notice_while_awake = (0 < b.spinning) × (0 < b.word.unnoticed)
MayBy Same b Rouse = 0 < b.roused
MayBy Same b Read_unnoticed = 0 < b.rousing
MayBy Same b Give_up = 0 < b.spinning
MayBy Same b Look_and_take = (0 < b.looking) × (0 < b.jobs)
MayBy Same b (Look_and_find_none read) = (0 < b.looking) × (b.jobs ≡ 0) × NotBefore read b.word
MayBy Same b Announce = 0 < b.tired
MayBy Same b Read_epoch = 0 < b.announced
MayBy Same b Last_take = (0 < b.last_looking) × (0 < b.jobs)
MayBy Same b (Last_find_none read) = (0 < b.last_looking) × (b.jobs ≡ 0) × NotBefore read b.word
MayBy Same b (Forget_last k) = At (λ read. Same read b.word × (0 < read.unnoticed)) k b.drowsy
MayBy Same b (Keep_last k) = At (λ read. Unit {0}) k b.drowsy
MayBy Same b Last_take_rung = (0 < b.last_looking_rung) × (0 < b.jobs)
MayBy Same b (Last_find_none_rung read) = (0 < b.last_looking_rung) × (b.jobs ≡ 0) × NotBefore read b.word
MayBy Same b (Forget_last_rung k) = At (λ read. Same read b.word × (0 < read.unnoticed)) k b.drowsy_rung
MayBy Same b (Keep_last_rung k) = At (λ read. Unit {0}) k b.drowsy_rung
MayBy Same b Sleep = 0 < b.sleepy
MayBy Same b Look_again = 0 < b.sleepy_rung
MayBy Same b Rise = 0 < b.sleepy
MayBy Same b Drop_key = 0 < b.kept

-- what it does
abbrev pub after : Wakeups → Step → Wakeups
after b Put = record b { jobs = b.jobs + 1; putting = b.putting + 1 }
after b Count = record b { putting = b.putting - 1; word = came_one b.word; comparing = (b.word.unnoticed + 1) ∷ b.comparing }
after b Call = record b { word = came_one b.word; comparing = (b.word.unnoticed + 1) ∷ b.comparing }
after b (Leave k) = record b { comparing = without k b.comparing }
after b (Notify k) = record b { comparing = without k b.comparing; notifying = b.notifying + 1 }
after b Find_no_waiter = record b { notifying = b.notifying - 1 }
after b Find_waiter = record b { notifying = b.notifying - 1; moving = b.moving + 1 }
after b Move_epoch = record b { moving = b.moving - 1; waking = b.waking + 1; last_looking = 0; last_looking_rung = b.last_looking + b.last_looking_rung; drowsy = []; drowsy_rung = b.drowsy ++ b.drowsy_rung; sleepy = 0; sleepy_rung = b.sleepy + b.sleepy_rung; asleep = 0; asleep_rung = b.asleep + b.asleep_rung }
after b Wake = record b { waking = b.waking - 1; asleep_rung = b.asleep_rung - 1; looking = b.looking + 1; kept = b.kept + 1 }
after b Wake_none = record b { waking = b.waking - 1 }
after b Wake_by_chance = record b { asleep_rung = b.asleep_rung - 1; looking = b.looking + 1; kept = b.kept + 1 }
after b Help = record b { jobs = b.jobs - 1 }
after b (Help_on read) = record b { jobs = b.jobs - 1; helping = read ∷ b.helping }
after b (Notice_helped k) = record b { helping = without k b.helping; word = noticed_one b.word }
after b (Stop_helping k) = record b { helping = without k b.helping }
after b (End_and_take read) = record b { running = b.running - 1; jobs = b.jobs - 1; taking = read ∷ b.taking }
after b (End_and_find_none read) = record b { running = b.running - 1; emptied = read ∷ b.emptied }
after b End_and_look = record b { running = b.running - 1; looking = b.looking + 1 }
after b (Notice_taken k) = record b { taking = without k b.taking; running = b.running + 1; word = noticed_one b.word }
after b (Run_on k) = record b { taking = without k b.taking; running = b.running + 1 }
after b (Forget k) = record b { emptied = without k b.emptied; between = b.between + 1; word = forgotten b.word }
after b (Keep k) = record b { emptied = without k b.emptied; between = b.between + 1 }
after b Notice_between = record b { between = b.between - 1; looking = b.looking + 1; word = noticed_one b.word }
after b Notice_none = record b { between = b.between - 1; idle = b.idle + 1 }
after b Look_anyway = record b { between = b.between - 1; looking = b.looking + 1 }
after b Spin = record b { idle = b.idle - 1; spinning = b.spinning + 1; awake = b.awake + 1 }
after b Notice_while_awake = record b { spinning = b.spinning - 1; roused = b.roused + 1; word = noticed_one b.word }
after b Rouse = record b { roused = b.roused - 1; awake = b.awake - 1; looking = b.looking + 1; rousing = b.rousing + 1 }
after b Read_unnoticed = record b { rousing = b.rousing - 1; comparing = b.word.unnoticed ∷ b.comparing }
after b Give_up = record b { spinning = b.spinning - 1; awake = b.awake - 1; tired = b.tired + 1 }
after b Look_and_take = record b { looking = b.looking - 1; jobs = b.jobs - 1; running = b.running + 1 }
after b (Look_and_find_none read) = record b { looking = b.looking - 1; emptied = read ∷ b.emptied }
after b Announce = record b { tired = b.tired - 1; waiters = b.waiters + 1; announced = b.announced + 1 }
after b Read_epoch = record b { announced = b.announced - 1; last_looking = b.last_looking + 1 }
after b Last_take = record b { last_looking = b.last_looking - 1; jobs = b.jobs - 1; running = b.running + 1; kept = b.kept + 1 }
after b (Last_find_none read) = record b { last_looking = b.last_looking - 1; drowsy = read ∷ b.drowsy }
after b (Forget_last k) = record b { drowsy = without k b.drowsy; sleepy = b.sleepy + 1; word = forgotten b.word }
after b (Keep_last k) = record b { drowsy = without k b.drowsy; sleepy = b.sleepy + 1 }
after b Last_take_rung = record b { last_looking_rung = b.last_looking_rung - 1; jobs = b.jobs - 1; running = b.running + 1; kept = b.kept + 1 }
after b (Last_find_none_rung read) = record b { last_looking_rung = b.last_looking_rung - 1; drowsy_rung = read ∷ b.drowsy_rung }
after b (Forget_last_rung k) = record b { drowsy_rung = without k b.drowsy_rung; sleepy_rung = b.sleepy_rung + 1; word = forgotten b.word }
after b (Keep_last_rung k) = record b { drowsy_rung = without k b.drowsy_rung; sleepy_rung = b.sleepy_rung + 1 }
after b Sleep = record b { sleepy = b.sleepy - 1; asleep = b.asleep + 1 }
after b Look_again = record b { sleepy_rung = b.sleepy_rung - 1; looking = b.looking + 1; kept = b.kept + 1 }
after b Rise = record b { sleepy = b.sleepy - 1; looking = b.looking + 1; kept = b.kept + 1 }
after b Drop_key = record b { kept = b.kept - 1; waiters = b.waiters - 1 }

-- an exchange compares the whole word
abbrev pub May : Wakeups → Step → Type 0
May = MayBy (λ read now. read ≡ now)

-- these steps, one after another, each where it may be taken, lead from one state to the other
abbrev pub RunBy : (Word → Word → Type 0) → Wakeups → List Step → Wakeups → Type 0
RunBy Same b [] c = c ≡ b
RunBy Same b (s ∷ ss) c = MayBy Same b s × RunBy Same (after b s) ss c

abbrev pub Run : Wakeups → List Step → Wakeups → Type 0
Run = RunBy (λ read now. read ≡ now)
