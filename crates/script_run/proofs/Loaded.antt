-- What a load's part leaves beside workers.
use Rattle.std.proofs.Common.{◌≡◌, ℕ, ◌≤◌, List, ap, subst, ◌∙◌}
use Rattle.std.specs.Prelude.{OnOk, IfOk, Result, Ok, Err}
use Rattle.std.specs.Result.{IsOk}
use Rattle.alg_registry.specs.declared.entry.RegEntry.{RegEntry}
use Rattle.alg_registry.specs.Rows.{caller_of as reg_caller}
use Rattle.board.specs.declared.entry.BoardEntry.{BoardEntry}
use Rattle.crew.specs.declared.passes.Passes.{Passes}
use Rattle.load_mode.specs.Requests.{digest_of, line_of, load_line, load_requests}
use Rattle.load_mode.specs.Turns.{IsLoadTranscript, AreLoaded, LoadsComeTo}
use Rattle.script_session.specs.EndOfInput.{EndsShut}
use Rattle.script_session.specs.States.{State}
use Rattle.recorded_calls.specs.Passes.{known, BoardPass}
use Rattle.transforms.specs.declared.ask.Ask.{Ask}
use Rattle.turn_lock.specs.PassLaws.{IsOwn}
use Rattle.script_run.specs.Endings.{EndsShut as ShutLast}
use Rattle.script_run.specs.Laws.{CrewLaws}
use Rattle.script_run.specs.Loads.{Loads, LoadEnds, IsLoadTurnAfter}
use Rattle.script_run.specs.WithWorkers.{LoadRan}
use Rattle.script_run.specs.Runs.{IsUnshutOrEnds}
use Rattle.script_run.proofs.Finishing.{IsSessionOf, IsRunOf, same-workers, at_registry, part-of, others-registry, others-board, was-shut_in, follow-registry, follow-board, few-enough, shut-ends, closed-once, histories-of}

-- ---- its own part

module _ (workers seed count : ℕ) (p q : Passes Ask) (qb : BoardPass) (s s' : State) (of_ : IsSessionOf workers p q qb s s') where
  load-ends : (digest : List ℕ) → IsLoadTurnAfter s.workers seed count (known s'.registry) (known s'.board) digest → IsOwn reg_caller (known s'.registry) → EndsShut (known s'.board) → LoadEnds workers seed count q digest
  load-ends digest turn own ends = record {
    turn = λ r b from_r from_b.
        subst (λ w. IsLoadTranscript w seed count r b digest) (same-workers workers p q qb s s' of_)
        (turn r b (others-registry workers p q qb s s' of_ r from_r) (others-board workers p q qb s s' of_ ends b from_b));
    own = subst (λ x. IsOwn reg_caller x) (at_registry workers p q qb s s' of_) own;
    shut = was-shut_in workers p q qb s s' of_ ends;
  }

  ends-ok : {F : Type 0} (r : Result (List ℕ) F) → IfOk r (IsLoadTurnAfter s.workers seed count (known s'.registry) (known s'.board)) → OnOk r (IsOwn reg_caller (known s'.registry)) → OnOk r (EndsShut (known s'.board)) → IfOk r (LoadEnds workers seed count q)
  ends-ok (Ok digest) turn own ends = load-ends digest turn own ends
  ends-ok (Err e) turn own ends = tt

  pub loads : {F : Type 0} (r : Result (List ℕ) F) → IfOk r (IsLoadTurnAfter s.workers seed count (known s'.registry) (known s'.board)) → OnOk r (IsOwn reg_caller (known s'.registry)) → OnOk r (EndsShut (known s'.board)) → IsUnshutOrEnds (known s'.board)
      → Loads workers seed count p q r
  loads r turn own ends unshut = record { part = part-of workers p q qb s s' of_ unshut; ended = ends-ok r turn own ends }

-- ---- beside workers

module _ (crew : CrewLaws) {F : Type 0} (workers seed count : ℕ) (first p q l : Passes Ask) (result : Result (List ℕ) F) (r : List RegEntry) (b : List (BoardEntry Ask))
    (run : IsRunOf workers first p q l r b) (loads : Loads workers seed count p q result) (law : LoadsComeTo) (few : workers ≤ 16) (short : count ≤ 100000) where
  loaded-turn : (digest : List ℕ) → LoadEnds workers seed count q digest → IsLoadTranscript workers seed count r b digest
  loaded-turn digest ends =
      ends.turn r b (follow-registry crew workers first p q l r b run loads.part ends.own) (follow-board crew workers first p q l r b run loads.part)

  comes : (digest : List ℕ) → LoadEnds workers seed count q digest → (digest ≡ digest_of (load_requests seed count)) × AreLoaded seed count b
  comes digest ends =
      let callers = few-enough crew workers first p q l r b run loads.part few in
      law workers seed count r b digest short run.legal run.made callers.0 run.legal_board callers.1 (loaded-turn digest ends)

  abbrev Leaves : Result (List ℕ) F → Type 0
  Leaves o = IfOk o (λ digest. digest ≡ digest_of (load_requests seed count)) × OnOk o (AreLoaded seed count b) × OnOk o (ShutLast b)

  leaves : (o : Result (List ℕ) F) → IfOk o (LoadEnds workers seed count q) → Leaves o
  leaves (Ok digest) ends = let c = comes digest ends in (c.0, c.1, shut-ends crew workers first p q l r b run loads.part ends.shut)
  leaves (Err e) ends = (tt, tt, tt)

  pub load-ran : LoadRan workers seed count r b result
  load-ran = let left = leaves result loads.ended in record { digest = left.0; loaded = left.1; shut = left.2; closed = closed-once crew workers first p q l r b run loads.part; histories = histories-of crew workers first p q l r b run loads.part }

-- ---- its line

-- what holds where a load reached its end holds where its line is written
pub reached-on : {T E F : Type 0} (r : Result T E) (digest : Result (List ℕ) F) (A : Type 0) → OnOk r (IsOk digest) → OnOk digest A → OnOk r A
reached-on (Ok x) (Ok d) A reached on = on
reached-on (Ok x) (Err e) A reached on = absurd cc
reached-on (Err e) digest A reached on = tt

pub line-text : {F : Type 0} (seed count : ℕ) (digest : Result (List ℕ) F) (text : List ℕ) → IfOk digest (λ d. d ≡ digest_of (load_requests seed count)) → (d : List ℕ) × (digest ≡ Ok d) × (text ≡ line_of count d) → text ≡ load_line seed count
unfolding load_line
line-text seed count digest text right made = made.2 ∙ ap (line_of count) (subst (λ r. IfOk r (λ d. d ≡ digest_of (load_requests seed count))) made.1 right)
