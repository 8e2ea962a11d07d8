-- Where some work of a pipeline is right, the pipeline has work.
use Rattle.std.proofs.Common.{◌≡◌, ℕ, suc, ◌+◌, ◌<◌, ◌≤◌, Bool, true, false, cond, List, [], ◌∷◌, length, refl, ap, subst, arith, inl, inr, ◌⊎◌}
use Rattle.std.specs.Prelude.{filter, not}
use Rattle.std.proofs.lemmas.Bool.{cases_lt, both_ways}
use Rattle.board.specs.declared.entry.BoardEntry.{BoardEntry}
use Rattle.board.specs.declared.entry.BoardEntry.TheVariants.{Born, Submit, Take, Finish, Enq, Deq, Done, Hold, Go, Collect, Close, Share, Mask, Shut}
use Rattle.board.specs.Shapes.{has_queue_born}
use Rattle.board.specs.Entries.{entries_of, birth, submissions, dequeued, passed_on, waiting, finished, has, front, is_held}
use Rattle.board.specs.Legal.{IsRightOn, IsRightFor}
use Rattle.board.specs.Order.{AreRightForAfter}
use Rattle.board.specs.PipelineHistory.{is_work}
use Rattle.board.proofs.Transfer.{each_right}
use Rattle.board.proofs.Fronts.{front_is_finished}
use Rattle.board.proofs.Keeping.{AreNumbered, orderly, passed-le, took_passed, runs_next, lists_no_queue, has_queue_of_queue}
use Rattle.board.proofs.Starting.{front_passed}
use Rattle.board.proofs.Ends.{AreTaken, taken_run}
use Rattle.progress_laws.specs.Progress.{HasWork, WorkIsWanted, works, calls, BoardIsShort}
use Rattle.progress_laws.proofs.Sums.{board_works_few}

module _ {A : Type 0} where
  not_below : (es : List (BoardEntry A)) (n : ℕ) → (has n (finished es) ≡ true → ⊥) → (n < front es) ⊎ (front es ≤ n) → front es ≤ n
  not_below es n open_ (inl low) = absurd (open_ (front_is_finished es n low))
  not_below es n open_ (inr high) = high

  -- a request that is past the queue, and isn't finished
  passed_works : (es : List (BoardEntry A)) (n : ℕ) → AreNumbered es → (has n (finished es) ≡ true → ⊥) → n < passed_on es → HasWork es
  passed_works es n o open_ low =
      let f = not_below es n open_ (cases_lt n (front es)) in
      let l = passed-le es o.queued in
      (omega arith, inr (omega arith))

  unfinished : (es : List (BoardEntry A)) (n : ℕ) → has n (finished es) ≡ false → has n (finished es) ≡ true → ⊥
  unfinished es n f t = both_ways (has n (finished es)) f t

  -- a queue's next request
  next_works : (es : List (BoardEntry A)) → AreNumbered es → has_queue_born (birth es) ≡ true → is_held es ≡ false → 0 < waiting es → HasWork es
  next_works es o q held w =
      let f = front_passed es o in
      let p : passed_on es ≡ dequeued es = ap (λ c. cond c (dequeued es) (length (submissions es))) q in
      (omega arith, inl held)

  right_works : (es : List (BoardEntry A)) (e : BoardEntry A) → AreRightForAfter [] es → is_work e ≡ true → IsRightFor es e → HasWork es
  right_works es (Take caller p n) r w x =
      let taken : AreTaken es = taken_run [] es (λ m h. cc) r in
      passed_works es n (orderly es r).numbered (λ h. taken n h x.2) x.1
  right_works es (Finish caller p n) r w x =
      let o = (orderly es r).numbered in
      passed_works es n o (unfinished es n x.2) (took_passed es n caller o (lists_no_queue (birth es) x.0) x.1)
  right_works es (Deq caller p n started) r w x = next_works es (orderly es r).numbered x.0.0 x.1 x.3
  right_works es (Done caller p n) r w x =
      let o = (orderly es r).numbered in
      let low = (runs_next es n caller o x.0 x.1 x.2).1 in
      let p : passed_on es ≡ dequeued es = ap (λ c. cond c (dequeued es) (length (submissions es))) (has_queue_of_queue (birth es) x.0) in
      passed_works es n o (unfinished es n x.2) (omega arith)
  right_works es (Born caller p shape) r w x = cc
  right_works es (Submit caller p n ask) r w x = cc
  right_works es (Enq caller p ask backlog answer) r w x = cc
  right_works es (Hold caller p) r w x = cc
  right_works es (Go caller p) r w x = cc
  right_works es (Collect caller p to) r w x = cc
  right_works es (Close caller p) r w x = cc
  right_works es (Share caller p) r w x = cc
  right_works es (Mask caller p mask) r w x = cc
  right_works es (Shut caller) r w x = cc

  pub work_is_wanted : (h : List (BoardEntry A)) (e : BoardEntry A) (p : ℕ) → WorkIsWanted h e p
  work_is_wanted h e p legal w of_p r =
      right_works (entries_of p h) e (each_right [] h p legal) w (subst (λ o. IsRightOn o h e) of_p r).1

  -- an entry is work or another call
  counted : (h : List (BoardEntry A)) → length h ≡ calls h + works h
  counted [] = refl
  counted (e ∷ h) = by_work (is_work e) (counted h)
    where
      by_work : (b : Bool) → length h ≡ calls h + works h
          → suc (length h) ≡ length (cond (not b) (e ∷ filter (λ x. not (is_work x)) h) (filter (λ x. not (is_work x)) h)) + length (cond b (e ∷ filter is_work h) (filter is_work h))
      by_work true ih = omega arith
      by_work false ih = omega arith

  pub board_is_short : (h : List (BoardEntry A)) → BoardIsShort h
  board_is_short h legal = (let c = counted h in let w = board_works_few h legal in omega arith)
