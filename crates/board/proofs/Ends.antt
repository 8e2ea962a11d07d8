-- Where each request is finished, no work is left.
use Rattle.std.proofs.Common.{◌≡◌, ◌≢◌, ℕ, ◌<◌, Bool, true, false, cond, ◌||◌, List, [], ◌∷◌, ◌++◌, length, map, Some, None, is_some, refl, sym, ◌∙◌, ap, subst, arith, append-nil, append_assoc, ◌⊎◌, inl, inr, ⊎_elim}
use Rattle.std.specs.Prelude.{◌==◌}
use Rattle.std.specs.List.{list_all, filter, filter_map}
use Rattle.std.proofs.lemmas.Bool.{eqb-true, or_cases, and_parts, both_ways}
use Rattle.std.proofs.lemmas.List.{map-append}
use Rattle.std.proofs.lemmas.List.Elements.{filter-append, filter_map-append}
use Rattle.board.specs.declared.entry.BoardEntry.{BoardEntry}
use Rattle.board.specs.declared.entry.BoardEntry.TheVariants.{Born, Submit, Take, Finish, Enq, Deq, Done, Hold, Go, Collect, Close, Share, Mask, Shut}
use Rattle.board.specs.Shapes.{is_pad, has_queue, has_lists, is_serial, queue_born, has_queue_born}
use Rattle.board.specs.Entries.{entries_of, birth, submissions, dequeued_in, dequeues, dequeued, passed_on, waiting, taken_in, takers, finished_in, finished, has, front}
use Rattle.board.specs.Legal.{IsRightFor, AreRightAfter, LegalBoard}
use Rattle.board.specs.Order.{AreRightForAfter}
use Rattle.board.specs.PipelineHistory.{is_work}
use Rattle.board.specs.Ends.{IsAllFinished, NoWorkIsRight, ShutIsLast}
use Rattle.board.proofs.Lists.{filter_map-none, filter_map-some, has-more}
use Rattle.board.proofs.Transfer.{entries-same, each_right}
use Rattle.board.proofs.Fronts.{front_is_finished}
use Rattle.board.proofs.Keeping.{birth_stays, born_some, maker_some, AreNumbered, passed-le, took_passed, runs_next, orderly}
use Rattle.board.proofs.Starting.{front_passed}

more_left : {X : Type 0} (xs ys : List X) → xs ≢ [] → xs ++ ys ≢ []
more_left [] ys h e = h refl
more_left (x ∷ xs) ys h e = cc

abbrev who : ℕ → List (ℕ × ℕ) → List ℕ
who n ts = map (λ (t : ℕ × ℕ). t.1) (filter (λ (t : ℕ × ℕ). t.0 == n) ts)

who_more : (n : ℕ) (ts us : List (ℕ × ℕ)) → who n ts ≢ [] → who n (ts ++ us) ≢ []
who_more n ts us h e =
    more_left (who n ts) (who n us) h
    (sym (ap (map (λ (t : ℕ × ℕ). t.1)) (filter-append (λ (t : ℕ × ℕ). t.0 == n) ts us) ∙ map-append (λ (t : ℕ × ℕ). t.1) (filter (λ (t : ℕ × ℕ). t.0 == n) ts) (filter (λ (t : ℕ × ℕ). t.0 == n) us)) ∙ e)

who_cases : (b : Bool) (n : ℕ) (ds dm ts tm : List (ℕ × ℕ)) → who n (cond b ds ts) ≢ [] → who n (cond b (ds ++ dm) (ts ++ tm)) ≢ []
who_cases true n ds dm ts tm h = who_more n ds dm h
who_cases false n ds dm ts tm h = who_more n ts tm h

module _ {A : Type 0} where
  -- who took a number stays
  takers_grow : (es : List (BoardEntry A)) (e : BoardEntry A) (n : ℕ) → is_some (birth es) ≡ true → takers n es ≢ [] → takers n (es ++ e ∷ []) ≢ []
  takers_grow es e n b h =
      rw (birth_stays es e b, filter_map-append dequeued_in es (e ∷ []), filter_map-append taken_in es (e ∷ []))
      (who_cases (queue_born (birth es)) n (dequeues es) (filter_map dequeued_in (e ∷ [])) (filter_map taken_in es) (filter_map taken_in (e ∷ [])) h)

  -- of a pipeline's numbers those that are finished were taken
  abbrev pub AreTaken : List (BoardEntry A) → Type 0
  AreTaken es = (n : ℕ) → has n (finished es) ≡ true → takers n es ≢ []

  quiet : (es : List (BoardEntry A)) (e : BoardEntry A) → AreTaken es → is_some (birth es) ≡ true → finished_in e ≡ None → AreTaken (es ++ e ∷ [])
  quiet es e taken b f n h = takers_grow es e n b (taken n (subst (λ ns. has n ns ≡ true) (filter_map-none finished_in es e f) h))

  finishes_cases : (es : List (BoardEntry A)) (n caller m : ℕ) → AreTaken es → takers n es ≡ caller ∷ [] → (has m (finished es) ≡ true) ⊎ ((n == m || false) ≡ true) → takers m es ≢ []
  finishes_cases es n caller m taken by (inl h) none = taken m h none
  finishes_cases es n caller m taken by (inr h) none =
      let q : n ≡ m = eqb-true n m (⊎_elim (λ x. x) (λ x. cc) (or_cases (n == m) false h)) in
      let e : caller ∷ [] ≡ [] = sym by ∙ (ap (λ k. takers k es) q ∙ none) in cc

  finishes : (es : List (BoardEntry A)) (e : BoardEntry A) (n caller : ℕ) → AreTaken es → is_some (birth es) ≡ true → finished_in e ≡ Some n → takers n es ≡ caller ∷ [] → AreTaken (es ++ e ∷ [])
  finishes es e n caller taken b f by m h =
      takers_grow es e m b
      (finishes_cases es n caller m taken by (or_cases (has m (finished es)) (n == m || false) (sym (has-more (finished es) n m) ∙ subst (λ ns. has m ns ≡ true) (filter_map-some finished_in es e n f) h)))

  pub taken_step : (es : List (BoardEntry A)) (e : BoardEntry A) → AreTaken es → IsRightFor es e → AreTaken (es ++ e ∷ [])
  taken_step es (Born caller pipe shape) taken r = rw r.1 (λ n h. cc)
  taken_step es (Submit caller pipe number ask) taken r = quiet es (Submit caller pipe number ask) taken (born_some is_pad (birth es) r.1.0) refl
  taken_step es (Take caller pipe number) taken r = quiet es (Take caller pipe number) taken (born_some has_lists (birth es) r.0.0) refl
  taken_step es (Finish caller pipe number) taken r = finishes es (Finish caller pipe number) number caller taken (born_some has_lists (birth es) r.0) refl r.1
  taken_step es (Enq caller pipe ask backlog answer) taken r = quiet es (Enq caller pipe ask backlog answer) taken (born_some has_queue (birth es) r.1.0) refl
  taken_step es (Deq caller pipe number started) taken r = quiet es (Deq caller pipe number started) taken (born_some has_queue (birth es) r.0.0) refl
  taken_step es (Done caller pipe number) taken r = finishes es (Done caller pipe number) number caller taken (born_some is_serial (birth es) r.0) refl r.1
  taken_step es (Hold caller pipe) taken r = quiet es (Hold caller pipe) taken (maker_some (birth es) caller r.0.1) refl
  taken_step es (Go caller pipe) taken r = quiet es (Go caller pipe) taken (maker_some (birth es) caller r.0.1) refl
  taken_step es (Collect caller pipe to) taken r = quiet es (Collect caller pipe to) taken (maker_some (birth es) caller r.0.1) refl
  taken_step es (Close caller pipe) taken r = quiet es (Close caller pipe) taken (maker_some (birth es) caller r.0.1) refl
  taken_step es (Share caller pipe) taken r = quiet es (Share caller pipe) taken (maker_some (birth es) caller r.0.1) refl
  taken_step es (Mask caller pipe mask) taken r = quiet es (Mask caller pipe mask) taken (maker_some (birth es) caller r.0.1) refl
  taken_step es (Shut caller) taken r = absurd r

  pub taken_run : (before es : List (BoardEntry A)) → AreTaken before → AreRightForAfter before es → AreTaken (before ++ es)
  taken_run before [] taken r = rw (append-nil before) taken
  taken_run before (e ∷ es) taken r = subst (λ xs. AreTaken xs) (append_assoc before (e ∷ []) es) (taken_run (before ++ e ∷ []) es (taken_step before e taken r.0) r.1)

  all_taken : (h : List (BoardEntry A)) (p : ℕ) → LegalBoard h → AreTaken (entries_of p h)
  all_taken h p legal = taken_run [] (entries_of p h) (λ n h. cc) (each_right [] h p legal)

  -- a number that somebody runs was accepted
  taken_low : (es : List (BoardEntry A)) (n caller : ℕ) (b : Bool) → queue_born (birth es) ≡ b → AreNumbered es → takers n es ≡ caller ∷ [] → has n (finished es) ≡ false → n < length (submissions es)
  taken_low es n caller true q o t f = (let r = (runs_next es n caller o q t f).1 in let l = o.queued in omega arith)
  taken_low es n caller false q o t f = (let r = took_passed es n caller o q t in let l = passed-le es o.queued in omega arith)

  pub ends_all : (es : List (BoardEntry A)) (n caller : ℕ) → AreNumbered es → front es ≡ length (submissions es) → takers n es ≡ caller ∷ [] → has n (finished es) ≡ false → ⊥
  ends_all es n caller o all by open_ =
      let low = taken_low es n caller (queue_born (birth es)) refl o by open_ in
      both_ways (has n (finished es)) open_ (front_is_finished es n (omega arith))

  pub takes_all : (es : List (BoardEntry A)) (n : ℕ) → AreTaken es → AreNumbered es → front es ≡ length (submissions es) → n < passed_on es → takers n es ≡ [] → ⊥
  takes_all es n taken o all low none = (let l = passed-le es o.queued in taken n (front_is_finished es n (omega arith)) none)

  pub passes_all : (es : List (BoardEntry A)) → AreNumbered es → front es ≡ length (submissions es) → has_queue_born (birth es) ≡ true → 0 < waiting es → ⊥
  passes_all es o all server w =
      let f = front_passed es o in
      let p : passed_on es ≡ dequeued es = ap (λ c. cond c (dequeued es) (length (submissions es))) server in
      omega arith

  numbered : (h : List (BoardEntry A)) (p : ℕ) → LegalBoard h → AreNumbered (entries_of p h)
  numbered h p legal = (orderly (entries_of p h) (each_right [] h p legal)).numbered

  pub no_work_is_right : (h : List (BoardEntry A)) (e : BoardEntry A) → NoWorkIsRight h e
  no_work_is_right h (Take caller p n) legal all w r = takes_all (entries_of p h) n (all_taken h p legal) (numbered h p legal) (all p) r.1.1 r.1.2
  no_work_is_right h (Finish caller p n) legal all w r = ends_all (entries_of p h) n caller (numbered h p legal) (all p) r.1.1 r.1.2
  no_work_is_right h (Deq caller p n started) legal all w r = passes_all (entries_of p h) (numbered h p legal) (all p) r.1.0.0 r.1.3
  no_work_is_right h (Done caller p n) legal all w r = ends_all (entries_of p h) n caller (numbered h p legal) (all p) r.1.1 r.1.2
  no_work_is_right h (Born caller p shape) legal all w r = cc
  no_work_is_right h (Submit caller p n ask) legal all w r = cc
  no_work_is_right h (Enq caller p ask backlog answer) legal all w r = cc
  no_work_is_right h (Hold caller p) legal all w r = cc
  no_work_is_right h (Go caller p) legal all w r = cc
  no_work_is_right h (Collect caller p to) legal all w r = cc
  no_work_is_right h (Close caller p) legal all w r = cc
  no_work_is_right h (Share caller p) legal all w r = cc
  no_work_is_right h (Mask caller p mask) legal all w r = cc
  no_work_is_right h (Shut caller) legal all w r = cc

  -- what stands before a part of a legal history is legal
  legal_before : (before h es : List (BoardEntry A)) → AreRightAfter before (h ++ es) → AreRightAfter before h × AreRightAfter (before ++ h) es
  legal_before before [] es r = (tt, subst (λ hs. AreRightAfter hs es) (sym (append-nil before)) r)
  legal_before before (x ∷ h) es r =
      let s = legal_before (before ++ x ∷ []) h es r.1 in
      ((r.0, s.0), subst (λ hs. AreRightAfter hs es) (append_assoc before (x ∷ []) h) s.1)

  all_after : (h : List (BoardEntry A)) (caller : ℕ) → IsAllFinished h → IsAllFinished (h ++ Shut caller ∷ [])
  all_after h caller all p = subst (λ es. front es ≡ length (submissions es)) (sym (entries-same h p (Shut caller) refl)) (all p)

  pub shut_is_last : (h : List (BoardEntry A)) (caller : ℕ) (es : List (BoardEntry A)) → ShutIsLast h caller es
  shut_is_last h caller [] legal all work = refl
  shut_is_last h caller (e ∷ es) legal all work =
      let s = legal_before [] (h ++ Shut caller ∷ []) (e ∷ es) (subst LegalBoard (sym (append_assoc h (Shut caller ∷ []) (e ∷ es))) legal) in
      absurd (no_work_is_right (h ++ Shut caller ∷ []) e s.0 (all_after h caller all) (and_parts (is_work e) (list_all is_work es) work).0 s.1.0)
