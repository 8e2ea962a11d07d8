-- What a collect hands out comes to little beside what the board accepted.
use Rattle.std.specs.Prelude.{ℕ, ◌+◌, ◌*◌, ◌≤◌, List, length, sum_by}
use Rattle.kc_base.specs.declared.callback_list.Callback.{Callback}
use Rattle.kc_base.specs.declared.callback_list.Callback.TheVariants as callback
use Rattle.transforms.specs.AskValue.{ask_size}
use Rattle.transforms.specs.Finish.{finished_length}
use Rattle.transforms.specs.declared.ask.Ask.{Ask}
use Rattle.transforms.specs.declared.request.Finished.{Finished}

-- how many bytes a callback has
abbrev pub callback_length : Callback Finished → ℕ
callback_length (callback.Started number) = 0
callback_length (callback.Done number finished) = finished_length finished

-- Of so many requests there is at most a start and a completion each, with at most 64 bytes more for each than these
-- asks have.
pub record AreWithin (requests : ℕ) (asks : List Ask) (callbacks : List (Callback Finished)) : Type 0 where
  pub few : length callbacks ≤ 2 * requests
  pub short : sum_by callback_length callbacks ≤ sum_by ask_size asks + 64 * requests
