-- A board's entries are those of its pipelines.
use Rattle.std.proofs.Common.{◌≡◌, ℕ, zero, suc, ◌+◌, ◌*◌, ◌<◌, ◌≤◌, Bool, true, false, cond, List, [], ◌∷◌, ◌++◌, length, Option, Some, None, refl, ◌∙◌, ap, arith, length-append, inl, inr, ◌⊎◌}
use Rattle.std.specs.Prelude.{◌==◌, nat_lt}
use Rattle.std.specs.List.{filter_map, filter, cons_option, list_all}
use Rattle.std.proofs.lemmas.Bool.{and_parts, ltb-true, lt-ltb, eqb-true, eq-eqb, cases_lt, cases_eq, false_from_ne_true}
use Rattle.std.proofs.lemmas.List.Elements.{filter-append, filter_map-append}
use Rattle.board.specs.declared.entry.BoardEntry.{BoardEntry}
use Rattle.board.specs.declared.entry.BoardEntry.TheVariants.{Born, Submit, Take, Finish, Enq, Deq, Done, Hold, Go, Collect, Close, Share, Mask, Shut}
use Rattle.board.specs.Entries.{pipe_of, is_pipe, is_of, entries_of, accepted_in}
use Rattle.board.specs.Legal.{LegalBoard}
use Rattle.board.specs.PipelineHistory.{is_work}
use Rattle.progress_laws.specs.Progress.{works, accepted, BoardWorksFew, WorkAloneEnds}
use Rattle.progress_laws.proofs.Spent.{bit, works_few}

abbrev low : ℕ → Option ℕ → Bool
low m (Some p) = nat_lt p m
low m None = false

-- the pipelines below a number, and that one
low_more : (m : ℕ) (o : Option ℕ) → bit (low (suc m) o) ≡ bit (low m o) + bit (is_pipe m o)
low_more m None = refl
low_more m (Some p) = by_place (cases_lt p m) (cases_eq p m)
  where
    by_place : (p < m) ⊎ (m ≤ p) → (p ≡ m) ⊎ (p ≡ m → ⊥) → bit (nat_lt p (suc m)) ≡ bit (nat_lt p m) + bit (p == m)
    by_place (inl l) (inl e) = absurd (omega arith)
    by_place (inl l) (inr n) = rw (lt-ltb p (suc m) (omega arith), lt-ltb p m l, false_from_ne_true (p == m) (λ h. n (eqb-true p m h))) refl
    by_place (inr g) (inl e) = rw (lt-ltb p (suc m) (omega arith), false_from_ne_true (nat_lt p m) (λ h. (let l = ltb-true p m h in absurd (omega arith))), eq-eqb p m e) refl
    by_place (inr g) (inr n) =
        rw (false_from_ne_true (nat_lt p (suc m)) (λ h. (let l = ltb-true p (suc m) h in n (omega arith))), false_from_ne_true (nat_lt p m) (λ h. (let l = ltb-true p m h in absurd (omega arith))), false_from_ne_true (p == m) (λ h. n (eqb-true p m h))) refl

shares : (a b c : Bool) (v : ℕ) → bit a ≡ bit b + bit c → cond a v zero ≡ cond b v zero + cond c v zero
shares true true true v e = cc
shares true true false v e = omega arith
shares true false true v e = omega arith
shares true false false v e = cc
shares false true true v e = cc
shares false true false v e = cc
shares false false true v e = cc
shares false false false v e = omega arith

abbrev top_of : Option ℕ → ℕ
top_of None = 0
top_of (Some p) = suc p

module _ {A : Type 0} where
  abbrev below : ℕ → List (BoardEntry A) → List (BoardEntry A)
  below m h = filter (λ e. low m (pipe_of e)) h

  work_head : (b : Bool) (e : BoardEntry A) (h : List (BoardEntry A)) → works (cond b (e ∷ h) h) ≡ cond b (works (e ∷ [])) zero + works h
  work_head true e h = (let a = ap length (filter-append is_work (e ∷ []) h) in let l = length-append (filter is_work (e ∷ [])) (filter is_work h) in omega arith)
  work_head false e h = omega arith

  accept_head : (b : Bool) (e : BoardEntry A) (h : List (BoardEntry A)) → accepted (cond b (e ∷ h) h) ≡ cond b (accepted (e ∷ [])) zero + accepted h
  accept_head true e h = (let a = ap length (filter_map-append accepted_in (e ∷ []) h) in let l = length-append (filter_map accepted_in (e ∷ [])) (filter_map accepted_in h) in omega arith)
  accept_head false e h = omega arith

  works_more : (m : ℕ) (h : List (BoardEntry A)) → works (below (suc m) h) ≡ works (below m h) + works (entries_of m h)
  works_more m [] = refl
  works_more m (e ∷ h) =
      let a = work_head (low (suc m) (pipe_of e)) e (below (suc m) h) in
      let b = work_head (low m (pipe_of e)) e (below m h) in
      let c = work_head (is_of m e) e (entries_of m h) in
      let s = shares (low (suc m) (pipe_of e)) (low m (pipe_of e)) (is_of m e) (works (e ∷ [])) (low_more m (pipe_of e)) in
      let ih = works_more m h in
      omega arith

  accepted_more : (m : ℕ) (h : List (BoardEntry A)) → accepted (below (suc m) h) ≡ accepted (below m h) + accepted (entries_of m h)
  accepted_more m [] = refl
  accepted_more m (e ∷ h) =
      let a = accept_head (low (suc m) (pipe_of e)) e (below (suc m) h) in
      let b = accept_head (low m (pipe_of e)) e (below m h) in
      let c = accept_head (is_of m e) e (entries_of m h) in
      let s = shares (low (suc m) (pipe_of e)) (low m (pipe_of e)) (is_of m e) (accepted (e ∷ [])) (low_more m (pipe_of e)) in
      let ih = accepted_more m h in
      omega arith

  none_below : (h : List (BoardEntry A)) → below 0 h ≡ []
  none_below [] = refl
  none_below (e ∷ h) = by_low (low 0 (pipe_of e)) (zero_low (pipe_of e)) (none_below h)
    where
      zero_low : (o : Option ℕ) → low 0 o ≡ false
      zero_low None = refl
      zero_low (Some p) = false_from_ne_true (nat_lt p 0) (λ h. (let l = ltb-true p 0 h in absurd (omega arith)))

      by_low : (b : Bool) → b ≡ false → below 0 h ≡ [] → cond b (e ∷ below 0 h) (below 0 h) ≡ []
      by_low true bad n = cc
      by_low false b n = n

  few_below : (h : List (BoardEntry A)) (m : ℕ) → LegalBoard h → works (below m h) ≤ 3 * accepted (below m h)
  few_below h zero legal = (let n = ap works (none_below h) in omega (arith, n))
  few_below h (suc m) legal =
      let a = works_more m h in
      let b = accepted_more m h in
      let f = works_few h m legal in
      let ih = few_below h m legal in
      omega arith

  accepted_below : (m : ℕ) (h : List (BoardEntry A)) → accepted (below m h) ≤ accepted h
  accepted_below m [] = omega arith
  accepted_below m (e ∷ h) = by_low (low m (pipe_of e)) (accepted_below m h)
    where
      by_low : (b : Bool) → accepted (below m h) ≤ accepted h → accepted (cond b (e ∷ below m h) (below m h)) ≤ accepted (e ∷ h)
      by_low b ih = (let a = accept_head b e (below m h) in let c = accept_head true e h in let d = at_most b (accepted (e ∷ [])) in omega arith)
        where
          at_most : (b : Bool) (v : ℕ) → cond b v zero ≤ v
          at_most true v = omega arith
          at_most false v = omega arith

  no_pipe : (e : BoardEntry A) → pipe_of e ≡ None → works (e ∷ []) ≡ 0
  no_pipe (Shut caller) n = refl
  no_pipe (Born caller pipe form) n = refl
  no_pipe (Submit caller pipe number ask) n = refl
  no_pipe (Take caller pipe number) n = cc
  no_pipe (Finish caller pipe number) n = cc
  no_pipe (Enq caller pipe ask backlog answer) n = refl
  no_pipe (Deq caller pipe number started) n = cc
  no_pipe (Done caller pipe number) n = cc
  no_pipe (Hold caller pipe) n = refl
  no_pipe (Go caller pipe) n = refl
  no_pipe (Collect caller pipe to) n = refl
  no_pipe (Close caller pipe) n = refl
  no_pipe (Share caller pipe) n = refl
  no_pipe (Mask caller pipe bits) n = refl

  abbrev top : List (BoardEntry A) → ℕ
  top [] = 0
  top (e ∷ h) = top_of (pipe_of e) + top h

  all_below : (h : List (BoardEntry A)) (k : ℕ) → top h ≤ k → works (below k h) ≡ works h
  all_below [] k l = refl
  all_below (e ∷ h) k l = by_pipe (pipe_of e) refl (all_below h k (omega arith))
    where
      by_pipe : (o : Option ℕ) → pipe_of e ≡ o → works (below k h) ≡ works h → works (below k (e ∷ h)) ≡ works (e ∷ h)
      by_pipe None n ih = (let a = work_head (low k (pipe_of e)) e (below k h) in let c = work_head true e h in let z = no_pipe e n in let f : low k (pipe_of e) ≡ false = ap (low k) n in let g : cond (low k (pipe_of e)) (works (e ∷ [])) zero ≡ zero = ap (λ b. cond b (works (e ∷ [])) zero) f in omega arith)
      by_pipe (Some p) n ih =
          let q : top_of (pipe_of e) ≡ suc p = ap top_of n in
          let f : low k (pipe_of e) ≡ true = ap (low k) n ∙ lt-ltb p k (omega (arith, q, l)) in
          let a = work_head (low k (pipe_of e)) e (below k h) in
          let c = work_head true e h in
          let g : cond (low k (pipe_of e)) (works (e ∷ [])) zero ≡ works (e ∷ []) = ap (λ b. cond b (works (e ∷ [])) zero) f in
          omega arith

  pub board_works_few : (h : List (BoardEntry A)) → BoardWorksFew h
  board_works_few h legal =
      let f = few_below h (top h) legal in
      let a = accepted_below (top h) h in
      let w = all_below h (top h) (omega arith) in
      omega arith

  accepts_none : (e : BoardEntry A) → is_work e ≡ true → accepted_in e ≡ None
  accepts_none (Take caller pipe number) w = refl
  accepts_none (Finish caller pipe number) w = refl
  accepts_none (Deq caller pipe number started) w = refl
  accepts_none (Done caller pipe number) w = refl
  accepts_none (Born caller pipe form) w = absurd cc
  accepts_none (Submit caller pipe number ask) w = absurd cc
  accepts_none (Enq caller pipe ask backlog answer) w = absurd cc
  accepts_none (Hold caller pipe) w = absurd cc
  accepts_none (Go caller pipe) w = absurd cc
  accepts_none (Collect caller pipe to) w = absurd cc
  accepts_none (Close caller pipe) w = absurd cc
  accepts_none (Share caller pipe) w = absurd cc
  accepts_none (Mask caller pipe bits) w = absurd cc
  accepts_none (Shut caller) w = absurd cc

  all_work : (es : List (BoardEntry A)) → list_all is_work es ≡ true → (works es ≡ length es) × (accepted es ≡ 0)
  all_work [] all = (refl, refl)
  all_work (e ∷ es) all =
      let parts = and_parts (is_work e) (list_all is_work es) all in
      let ih = all_work es parts.1 in
      let w : works (e ∷ es) ≡ suc (works es) = ap (λ b. length (cond b (e ∷ filter is_work es) (filter is_work es))) parts.0 in
      let a : accepted (e ∷ es) ≡ accepted es = ap (λ o. length (cons_option o (filter_map accepted_in es))) (accepts_none e parts.0) in
      (w ∙ ap suc ih.0, a ∙ ih.1)

  pub work_alone_ends : (h es : List (BoardEntry A)) → WorkAloneEnds h es
  work_alone_ends h es legal all =
      let f = board_works_few (h ++ es) legal in
      let k = all_work es all in
      let w : works (h ++ es) ≡ works h + works es = ap length (filter-append is_work h es) ∙ length-append (filter is_work h) (filter is_work es) in
      let a : accepted (h ++ es) ≡ accepted h + accepted es = ap length (filter_map-append accepted_in h es) ∙ length-append (filter_map accepted_in h) (filter_map accepted_in es) in
      let x = k.0 in
      let y = k.1 in
      omega (arith, f, w, a, x, y)
