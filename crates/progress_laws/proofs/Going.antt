-- Where a pipeline has work, some of it is right.
use Rattle.std.proofs.Common.{◌≡◌, ◌≢◌, ℕ, ◌<◌, ◌≤◌, Bool, true, false, cond, ◌||◌, List, [], ◌∷◌, ◌++◌, length, map, Option, Some, None, is_some, refl, sym, ◌∙◌, ap, subst, arith, append-nil, append_assoc, inl, inr, ◌⊎◌}
use Rattle.std.specs.Prelude.{◌==◌}
use Rattle.std.specs.List.{filter_map, filter}
use Rattle.std.proofs.lemmas.Bool.{eqb-true, cases_lt, both_ways}
use Rattle.board.specs.declared.entry.Shape.{Shape}
use Rattle.board.specs.declared.entry.Shape.TheVariants as shape
use Rattle.board.specs.declared.entry.BoardEntry.{BoardEntry}
use Rattle.board.specs.declared.entry.BoardEntry.TheVariants.{Born, Submit, Take, Finish, Enq, Deq, Done, Hold, Go, Collect, Close, Share, Mask, Shut}
use Rattle.board.specs.Shapes.{has_lists, queue_born, has_queue_born, lists_born}
use Rattle.board.specs.Entries.{entries_of, birth_in, first, birth, submissions, dequeues, dequeued, passed_on, takings, takers, taken_in, finished, has, unbroken, front, is_held, is_closed, maker_is, MayTake, take_entry, finish_entry, pass_entry, starts}
use Rattle.board.specs.Legal.{IsRight, IsRightFor}
use Rattle.board.specs.Order.{AreRightForAfter, handed_in}
use Rattle.board.proofs.Lists.{has_below, filter_map-none}
use Rattle.board.proofs.Transfer.{each_right}
use Rattle.board.proofs.Fronts.{front_is_greatest, unbroken_numbers, unbroken-le}
use Rattle.board.proofs.Keeping.{AreNumbered, IsOrderly, orderly, orderly_start, orderly_step, born_some, lists_no_queue, has_queue_of_queue}
use Rattle.board.proofs.KeptPad.{takers-same}
use Rattle.board.proofs.KeptTaking.{takers-taken}
use Rattle.board.proofs.KeptWork.{queue_untaken}
use Rattle.board.proofs.Staying.{taking_is_work, finishing_is_work, passing_is_work, takers-passed, takers-served}
use Rattle.board.proofs.Closed.{closed_end}
use Rattle.board.proofs.Starting.{front_passed}
use Rattle.progress_laws.specs.Progress.{NoWorkLeft, IsDone, WorkStopsDone, HasWork, IsOut, CanServe, MayServe, WorkGoesOn, SomeServes}

abbrev pub IsOne : List ℕ → Type 0
IsOne ns = (ns ≡ []) ⊎ ((c : ℕ) × (ns ≡ c ∷ []))

-- one more who took a number that nobody took
one_more : (ns : List ℕ) (number by n : ℕ) (b : Bool) → (b ≡ true → ns ≡ []) → IsOne ns → IsOne (ns ++ map (λ (t : ℕ × ℕ). t.1) (cond b ((number, by) ∷ []) []))
one_more ns number by n true none one = inr (by, ap (λ xs. xs ++ by ∷ []) (none refl))
one_more ns number by n false none one = subst IsOne (sym (append-nil ns)) one

took : (ts : List (ℕ × ℕ)) (n : ℕ) → has n (map (λ (t : ℕ × ℕ). t.0) ts) ≡ true → map (λ (t : ℕ × ℕ). t.1) (filter (λ (t : ℕ × ℕ). t.0 == n) ts) ≢ []
took [] n h = cc
took (t ∷ ts) n h = by_first (t.0 == n) h (took ts n)
  where
    by_first : (b : Bool) → (b || has n (map (λ (t : ℕ × ℕ). t.0) ts)) ≡ true
        → (has n (map (λ (t : ℕ × ℕ). t.0) ts) ≡ true → map (λ (t : ℕ × ℕ). t.1) (filter (λ (t : ℕ × ℕ). t.0 == n) ts) ≢ [])
        → map (λ (t : ℕ × ℕ). t.1) (cond b (t ∷ filter (λ (t : ℕ × ℕ). t.0 == n) ts) (filter (λ (t : ℕ × ℕ). t.0 == n) ts)) ≢ []
    by_first true h later none = cc
    by_first false h later none = later h none

module _ {A : Type 0} where
  birth_left : (es : List (BoardEntry A)) (e : BoardEntry A) → birth_in e ≡ None → birth (es ++ e ∷ []) ≡ birth es
  birth_left es e b = ap first (filter_map-none birth_in es e b)

  abbrev pub AreOnce : List (BoardEntry A) → Type 0
  AreOnce es = (n : ℕ) → IsOne (takers n es)

  taken_once : (es : List (BoardEntry A)) (caller p n : ℕ) → AreOnce es → lists_born (birth es) ≡ true → takers n es ≡ [] → AreOnce (es ++ Take caller p n ∷ [])
  taken_once es caller p n once l none m =
      subst IsOne (sym (takers-taken es p n caller m (born_some has_lists (birth es) l) (lists_no_queue (birth es) l)))
      (one_more (takers m es) n caller m (n == m) (λ h. subst (λ k. takers k es ≡ []) (eqb-true n m h) none) (once m))

  deq_once : (es : List (BoardEntry A)) (caller p n : ℕ) (o : Option ℕ) (b : Bool) → queue_born (birth es) ≡ b → AreNumbered es → AreOnce es → n ≡ dequeued es → AreOnce (es ++ Deq caller p n o ∷ [])
  deq_once es caller p n o true q num once at m =
      subst IsOne (sym (takers-served es caller p n m o q))
      (one_more (takers m es) n caller m (n == m) (λ h. (let e = eqb-true n m h in queue_untaken es m num q (omega arith))) (once m))
  deq_once es caller p n o false q num once at m = subst IsOne (sym (takers-passed es caller p n m o q)) (once m)

  once_step : (es : List (BoardEntry A)) (e : BoardEntry A) → AreNumbered es → AreOnce es → IsRightFor es e → AreOnce (es ++ e ∷ [])
  once_step es (Born caller pipe form) o once r = subst (λ xs. AreOnce (xs ++ Born caller pipe form ∷ [])) (sym r.1) (λ n. by_shape form n)
    where
      by_shape : (s : Shape) (n : ℕ) → IsOne (takers {A = A} n (Born caller pipe s ∷ []))
      by_shape (shape.Pad lists) n = inl refl
      by_shape (shape.Queue max) n = inl refl
      by_shape (shape.Chain max lists) n = inl refl
  once_step es (Submit caller pipe number ask) o once r = λ n. subst IsOne (sym (takers-same es (Submit caller pipe number ask) (birth_left es (Submit caller pipe number ask) refl) refl refl n)) (once n)
  once_step es (Take caller pipe number) o once r = taken_once es caller pipe number once r.0.0 r.2
  once_step es (Finish caller pipe number) o once r = λ n. subst IsOne (sym (takers-same es (Finish caller pipe number) (birth_left es (Finish caller pipe number) refl) refl refl n)) (once n)
  once_step es (Enq caller pipe ask backlog answer) o once r = λ n. subst IsOne (sym (takers-same es (Enq caller pipe ask backlog answer) (birth_left es (Enq caller pipe ask backlog answer) refl) refl refl n)) (once n)
  once_step es (Deq caller pipe number started) o once r = deq_once es caller pipe number started (queue_born (birth es)) refl o once r.4
  once_step es (Done caller pipe number) o once r = λ n. subst IsOne (sym (takers-same es (Done caller pipe number) (birth_left es (Done caller pipe number) refl) refl refl n)) (once n)
  once_step es (Hold caller pipe) o once r = λ n. subst IsOne (sym (takers-same es (Hold caller pipe) (birth_left es (Hold caller pipe) refl) refl refl n)) (once n)
  once_step es (Go caller pipe) o once r = λ n. subst IsOne (sym (takers-same es (Go caller pipe) (birth_left es (Go caller pipe) refl) refl refl n)) (once n)
  once_step es (Collect caller pipe to) o once r = λ n. subst IsOne (sym (takers-same es (Collect caller pipe to) (birth_left es (Collect caller pipe to) refl) refl refl n)) (once n)
  once_step es (Close caller pipe) o once r = λ n. subst IsOne (sym (takers-same es (Close caller pipe) (birth_left es (Close caller pipe) refl) refl refl n)) (once n)
  once_step es (Share caller pipe) o once r = λ n. subst IsOne (sym (takers-same es (Share caller pipe) (birth_left es (Share caller pipe) refl) refl refl n)) (once n)
  once_step es (Mask caller pipe bits) o once r = λ n. subst IsOne (sym (takers-same es (Mask caller pipe bits) (birth_left es (Mask caller pipe bits) refl) refl refl n)) (once n)
  once_step es (Shut caller) o once r = absurd r

  once_run : (before es : List (BoardEntry A)) (given : List _) → IsOrderly before given → AreOnce before → AreRightForAfter before es → AreOnce (before ++ es)
  once_run before [] given o s r = subst AreOnce (sym (append-nil before)) s
  once_run before (e ∷ es) given o s r =
      subst AreOnce (append_assoc before (e ∷ []) es) (once_run (before ++ e ∷ []) es (given ++ handed_in before e) (orderly_step before e given o r.0) (once_step before e o.numbered s r.0) r.1)

  pub all_once : (es : List (BoardEntry A)) → AreRightForAfter [] es → AreOnce es
  all_once es r = once_run [] es [] orderly_start (λ n. inl refl) r

  open_one : (es : List (BoardEntry A)) → AreRightForAfter [] es → front es < length (submissions es) → is_closed es ≡ false
  open_one es r l = by_closed (is_closed es) refl
    where
      by_closed : (b : Bool) → is_closed es ≡ b → is_closed es ≡ false
      by_closed true shut = (let e = closed_end es r shut in absurd (omega arith))
      by_closed false open_ = open_

  right_finish : (h : List (BoardEntry A)) (p n who : ℕ) (b : Bool) → queue_born (birth (entries_of p h)) ≡ b → (b ≡ false → lists_born (birth (entries_of p h)) ≡ true) → takers n (entries_of p h) ≡ who ∷ [] → has n (finished (entries_of p h)) ≡ false
      → IsRight h (cond b (Done who p n) (Finish who p n))
  right_finish h p n who true q l t f = (tt, (q, t, f))
  right_finish h p n who false q l t f = (tt, (l refl, t, f))

  abbrev Goes : List (BoardEntry A) → ℕ → Type 0
  Goes h p = IsOut h p ⊎ ((caller : ℕ) → MayServe (entries_of p h) caller → CanServe h p caller)

  -- the front request is out where somebody took it
  is_out : (h : List (BoardEntry A)) (p who : ℕ) → AreRightForAfter [] (entries_of p h) → (queue_born (birth (entries_of p h)) ≡ false → lists_born (birth (entries_of p h)) ≡ true) → front (entries_of p h) < length (submissions (entries_of p h))
      → takers (front (entries_of p h)) (entries_of p h) ≡ who ∷ [] → IsOut h p
  is_out h p who r l low t = (
    who,
    subst (λ b. IsRight h (cond b (Done who p (front (entries_of p h))) (Finish who p (front (entries_of p h))))) refl
        (right_finish h p (front (entries_of p h)) who (queue_born (birth (entries_of p h))) refl l t (front_is_greatest (entries_of p h) low)),
  )

  right_take : (h : List (BoardEntry A)) (p n caller : ℕ) (b : Bool) → queue_born (birth (entries_of p h)) ≡ b → b ≡ false → lists_born (birth (entries_of p h)) ≡ true → is_closed (entries_of p h) ≡ false → n < passed_on (entries_of p h)
      → takers n (entries_of p h) ≡ [] → MayTake (entries_of p h) caller → IsRight h (cond b (Deq caller p n (starts (entries_of p h) n)) (Take caller p n))
  right_take h p n caller true q z l c low t may = cc
  right_take h p n caller false q z l c low t may = (tt, ((l, c), low, t, may))

  -- a request of a pad or chain that is past the queue
  passed_goes : (h : List (BoardEntry A)) (p : ℕ) → AreRightForAfter [] (entries_of p h) → front (entries_of p h) < length (submissions (entries_of p h)) → lists_born (birth (entries_of p h)) ≡ true → front (entries_of p h) < passed_on (entries_of p h)
      → IsOne (takers (front (entries_of p h)) (entries_of p h)) → Goes h p
  passed_goes h p r low l pass (inr one) = inl (is_out h p one.0 r (λ q. l) low one.1)
  passed_goes h p r low l pass (inl none) =
      inr (λ caller may. inl (right_take h p (front (entries_of p h)) caller (queue_born (birth (entries_of p h))) refl (lists_no_queue (birth (entries_of p h)) l) l (open_one (entries_of p h) r low) pass none (may l)))

  -- one that waits in a queue in front of a pad, or of a queue whose jobs are all finished
  waits_goes : (h : List (BoardEntry A)) (p : ℕ) → AreRightForAfter [] (entries_of p h) → front (entries_of p h) < length (submissions (entries_of p h)) → has_queue_born (birth (entries_of p h)) ≡ true → is_held (entries_of p h) ≡ false
      → (queue_born (birth (entries_of p h)) ≡ true → length (finished (entries_of p h)) ≡ dequeued (entries_of p h)) → dequeued (entries_of p h) ≤ front (entries_of p h) → Goes h p
  waits_goes h p r low q held rests pass =
      inr (λ caller may. inr (tt, ((q, open_one (entries_of p h) r low), held, rests, omega arith, refl, refl)))

  started : (es : List (BoardEntry A)) (n : ℕ) → AreNumbered es → queue_born (birth es) ≡ true → n < dequeued es → takers n es ≢ []
  started es n o q low none =
      let same : takings es ≡ dequeues es = ap (λ b. cond b (dequeues es) (filter_map taken_in es)) q in
      let is : has n (map (λ (t : ℕ × ℕ). t.0) (dequeues es)) ≡ true = subst (λ ns. has n ns ≡ true) (sym o.numbers) (has_below (dequeued es) n low) in
      took (dequeues es) n is (subst (λ ts. map (λ (t : ℕ × ℕ). t.1) (filter (λ (t : ℕ × ℕ). t.0 == n) ts) ≡ []) same none)

  -- a queue's front is how many of its jobs are finished
  serial_front : (es : List (BoardEntry A)) → AreNumbered es → queue_born (birth es) ≡ true → front es ≡ length (finished es)
  serial_front es o q =
      let b = o.behind q in
      let l = o.queued in
      ap (λ ns. unbroken ns 0 (length (submissions es))) (o.serial q) ∙ unbroken_numbers (length (finished es)) (length (submissions es)) (omega arith)

  serial_goes : (h : List (BoardEntry A)) (p : ℕ) → AreRightForAfter [] (entries_of p h) → HasWork (entries_of p h) → queue_born (birth (entries_of p h)) ≡ true
      → (front (entries_of p h) < dequeued (entries_of p h)) ⊎ (dequeued (entries_of p h) ≤ front (entries_of p h)) → IsOne (takers (front (entries_of p h)) (entries_of p h)) → Goes h p
  serial_goes h p r work q (inl low) (inl none) = absurd (started (entries_of p h) (front (entries_of p h)) (orderly (entries_of p h) r).numbered q low none)
  serial_goes h p r work q (inl low) (inr one) = inl (is_out h p one.0 r (λ z. absurd (both_ways (queue_born (birth (entries_of p h))) z q)) work.0 one.1)
  serial_goes h p r work q (inr high) one =
      let o = (orderly (entries_of p h) r).numbered in
      let f = serial_front (entries_of p h) o q in
      let b = o.behind q in
      waits_goes h p r work.0 (has_queue_of_queue (birth (entries_of p h)) q) (not_held work.1) (λ x. omega arith) high
    where
      pass : passed_on (entries_of p h) ≡ dequeued (entries_of p h)
      pass = ap (λ c. cond c (dequeued (entries_of p h)) (length (submissions (entries_of p h)))) (has_queue_of_queue (birth (entries_of p h)) q)

      not_held : (is_held (entries_of p h) ≡ false) ⊎ (front (entries_of p h) < passed_on (entries_of p h)) → is_held (entries_of p h) ≡ false
      not_held (inl held) = held
      not_held (inr low) = absurd (omega (arith, pass))

  passed_is : (es : List (BoardEntry A)) (b : Bool) → has_queue_born (birth es) ≡ b → passed_on es ≡ cond b (dequeued es) (length (submissions es))
  passed_is es b q = ap (λ c. cond c (dequeued es) (length (submissions es))) q

  chain_goes : (h : List (BoardEntry A)) (p : ℕ) → AreRightForAfter [] (entries_of p h) → HasWork (entries_of p h) → has_queue_born (birth (entries_of p h)) ≡ true → lists_born (birth (entries_of p h)) ≡ true
      → (front (entries_of p h) < dequeued (entries_of p h)) ⊎ (dequeued (entries_of p h) ≤ front (entries_of p h)) → (is_held (entries_of p h) ≡ false) ⊎ (front (entries_of p h) < passed_on (entries_of p h)) → Goes h p
  chain_goes h p r work q l (inl low) held =
      let e = passed_is (entries_of p h) true q in
      passed_goes h p r work.0 l (subst (λ n. front (entries_of p h) < n) (sym e) low) (all_once (entries_of p h) r (front (entries_of p h)))
  chain_goes h p r work q l (inr high) (inl held) =
      waits_goes h p r work.0 q held (λ s. absurd (both_ways (queue_born (birth (entries_of p h))) (lists_no_queue (birth (entries_of p h)) l) s)) high
  chain_goes h p r work q l (inr high) (inr low) =
      (let e : passed_on (entries_of p h) ≡ dequeued (entries_of p h) = passed_is (entries_of p h) true q in absurd (omega (arith, low, e)))

  birth_goes : (h : List (BoardEntry A)) (p : ℕ) → AreRightForAfter [] (entries_of p h) → HasWork (entries_of p h) → (b : Option (ℕ × Shape)) → birth (entries_of p h) ≡ b → is_some b ≡ true → Goes h p
  birth_goes h p r work None e some = cc
  birth_goes h p r work (Some (maker, shape.Pad lists)) e some =
      let m : passed_on (entries_of p h) ≡ length (submissions (entries_of p h)) = passed_is (entries_of p h) false (ap has_queue_born e) in
      passed_goes h p r work.0 (ap lists_born e) (subst (λ n. front (entries_of p h) < n) (sym m) work.0) (all_once (entries_of p h) r (front (entries_of p h)))
  birth_goes h p r work (Some (maker, shape.Queue max)) e some =
      serial_goes h p r work (ap queue_born e) (cases_lt (front (entries_of p h)) (dequeued (entries_of p h))) (all_once (entries_of p h) r (front (entries_of p h)))
  birth_goes h p r work (Some (maker, shape.Chain max lists)) e some =
      chain_goes h p r work (ap has_queue_born e) (ap lists_born e) (cases_lt (front (entries_of p h)) (dequeued (entries_of p h))) work.1

  -- a pipeline that has work was made
  was_made : (es : List (BoardEntry A)) → AreRightForAfter [] es → front es < length (submissions es) → is_some (birth es) ≡ true
  was_made [] r low = absurd (omega arith)
  was_made (x ∷ es) r low = by_begun (orderly (x ∷ es) r).begun
    where
      by_begun : {P : Type 0} → ((x ∷ es ≡ []) × P) ⊎ (is_some (birth (x ∷ es)) ≡ true) → is_some (birth (x ∷ es)) ≡ true
      by_begun (inl e) = (let bad : x ∷ es ≡ [] = e.0 in cc)
      by_begun (inr b) = b

  pub goes_on : (h : List (BoardEntry A)) (p : ℕ) → WorkGoesOn h p
  goes_on h p legal work =
      let r = each_right [] h p legal in
      birth_goes h p r work (birth (entries_of p h)) refl (was_made (entries_of p h) r work.0)

  serves : (es : List (BoardEntry A)) (b : Option (ℕ × Shape)) → birth es ≡ b → is_some b ≡ true → (caller : ℕ) × MayServe es caller
  serves es None e some = cc
  serves es (Some (maker, form)) e some = (maker, λ l. inl (subst (λ b. maker_is b maker) (sym e) refl))

  pub some_serves : (h : List (BoardEntry A)) (p : ℕ) → SomeServes h p
  some_serves h p legal work = serves (entries_of p h) (birth (entries_of p h)) refl (was_made (entries_of p h) (each_right [] h p legal) work.0)

  none_goes : (h : List (BoardEntry A)) (p : ℕ) → NoWorkLeft h → (caller : ℕ) × MayServe (entries_of p h) caller → Goes h p → ⊥
  none_goes h p none who (inl out) = none (finish_entry h out.0 p (front (entries_of p h))) (finishing_is_work h out.0 p (front (entries_of p h))).0 out.1
  none_goes h p none who (inr can) = by_can (can who.0 who.1)
    where
      by_can : CanServe h p who.0 → ⊥
      by_can (inl takes) = none (take_entry h who.0 p (front (entries_of p h))) (taking_is_work h who.0 p (front (entries_of p h))).0 takes
      by_can (inr passes) = none (pass_entry h who.0 p) (passing_is_work h who.0 p).0 passes

  pub stops_done : (h : List (BoardEntry A)) (p : ℕ) → WorkStopsDone h p
  stops_done h p legal none = by_front (cases_lt (front (entries_of p h)) (length (submissions (entries_of p h))))
    where
      no_work : HasWork (entries_of p h) → ⊥
      no_work work = none_goes h p none (some_serves h p legal work) (goes_on h p legal work)

      by_hold : front (entries_of p h) < length (submissions (entries_of p h)) → (b : Bool) → is_held (entries_of p h) ≡ b → (front (entries_of p h) < passed_on (entries_of p h)) ⊎ (passed_on (entries_of p h) ≤ front (entries_of p h)) → IsDone (entries_of p h)
      by_hold low false held pass = absurd (no_work (low, inl held))
      by_hold low true held (inl pass) = absurd (no_work (low, inr pass))
      by_hold low true held (inr high) =
          (let f = front_passed (entries_of p h) (orderly (entries_of p h) (each_right [] h p legal)).numbered in inr (held, omega (arith, high, f)))

      by_front : (front (entries_of p h) < length (submissions (entries_of p h))) ⊎ (length (submissions (entries_of p h)) ≤ front (entries_of p h)) → IsDone (entries_of p h)
      by_front (inl low) = by_hold low (is_held (entries_of p h)) refl (cases_lt (front (entries_of p h)) (passed_on (entries_of p h)))
      by_front (inr high) = (let m = unbroken-le (finished (entries_of p h)) 0 (length (submissions (entries_of p h))) in inl (omega (arith, high, m)))
