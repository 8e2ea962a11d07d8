-- What a caller's calls say of one pad: what it has accepted, and whether all of that was handed out.
use Rattle.std.proofs.Common.{◌≡◌, ℕ, zero, suc, ◌≤◌, inl, inr, Bool, true, false, List, [], ◌∷◌, ◌++◌, length, map, take, refl, ap, sym, ◌∙◌, subst, arith, Option, Some, None, append-nil, append_assoc}
use Rattle.std.specs.Prelude.{◌==◌, if◌then◌else◌, All}
use Rattle.std.specs.List.{filter_map, cons_option}
use Rattle.std.specs.Arc.{arc_value}
use Rattle.std.proofs.lemmas.Bool.{eqb-true}
use Rattle.std.proofs.lemmas.List.Elements.{filter-append, filter_map-append, All-head, All-tail}
use Rattle.board.specs.declared.entry.Shape.{Shape}
use Rattle.board.specs.declared.entry.Shape.TheVariants.{Pad, Queue, Chain}
use Rattle.board.specs.declared.entry.Entered.{Entered}
use Rattle.board.specs.declared.entry.Entered.TheVariants.{InProgress, Busy, NoSpace}
use Rattle.board.specs.declared.entry.BoardEntry.{BoardEntry}
use Rattle.board.specs.declared.entry.BoardEntry.TheVariants as event
use Rattle.board.specs.Shapes.{is_pad as is_pad_shape, pad_born}
use Rattle.board.specs.Entries.{is_of, entries_of, birth_in, birth, first, accepted_in, submissions, finished_in, unbroken, collected_in, collected, last_or, front, told, completes_from, Completes, caller_of}
use Rattle.board.specs.NextEntry.{GoesOn}
use Rattle.board.specs.HandedOut.{is_collect, HandsNothing}
use Rattle.board.specs.Legal.{Is, IsNoWorker, IsRight, AreRightAfter, LegalBoard}
use Rattle.board.specs.Order.{handed_out, HandsOutTold, PadTellsFront}
use Rattle.transforms.specs.declared.ask.Ask.{Ask}
use Rattle.dialogues.specs.BoardCalls.{Asked, asked_by, BoardCall, Creates, Submits, Enqueues, Holds, Goes, Collects, Closes, Shares, Masks, Shuts, board_call_of, board_calls_from, board_calls}
use Rattle.dialogues.specs.RegistryCalls.{if_own, prepend}

-- the laws of a board on which this rests
pub record BoardLaws : Type 0 where
  pub more : (h : List (BoardEntry Ask)) (e : BoardEntry Ask) → GoesOn h e
  pub handed : (h : List (BoardEntry Ask)) (p : ℕ) → HandsOutTold h p
  pub nothing : (h : List (BoardEntry Ask)) (e : BoardEntry Ask) (p : ℕ) → HandsNothing h e p
  pub pads : (h : List (BoardEntry Ask)) (p : ℕ) → PadTellsFront h p

-- it is a pad; its requests; and whether the last collect came when all of them were finished
pub record Summary : Type 0 where
  pub is_pad : Bool
  pub asks : List Asked
  pub all : Bool

abbrev pub none_yet : Summary
none_yet = record { is_pad = false; asks = []; all = true }

abbrev pub shaped : Shape → Summary
shaped (Pad lists) = record { is_pad = true; asks = []; all = true }
shaped (Queue max) = record { is_pad = false; asks = []; all = false }
shaped (Chain max lists) = record { is_pad = false; asks = []; all = false }

abbrev pub asked_more : Asked → Summary → Summary
asked_more asked s = record s { asks = s.asks ++ asked ∷ []; all = false }

abbrev pub entered : Asked → Entered → Summary → Summary
entered asked NoSpace s = s
entered asked (InProgress number) s = asked_more asked s
entered asked (Busy number) s = asked_more asked s

abbrev pub summed : ℕ → Summary → BoardCall → Summary
summed p s (Creates pipe shape) = if pipe == p then shaped shape else s
summed p s (Submits pipe number asked) = if pipe == p then asked_more asked s else s
summed p s (Enqueues pipe asked backlog answer) = if pipe == p then entered asked answer s else s
summed p s (Holds pipe) = s
summed p s (Goes pipe) = s
summed p s (Collects pipe c) = if pipe == p then record s { all = c.all_done } else s
summed p s (Closes pipe) = s
summed p s (Shares pipe) = s
summed p s (Masks pipe mask) = s
summed p s Shuts = s

abbrev pub summary : ℕ → Summary → List BoardCall → Summary
summary p s [] = s
summary p s (call ∷ calls) = summary p (summed p s call) calls

-- the entries of the pad are so
pub record Sums (es : List (BoardEntry Ask)) (s : Summary) : Type 0 where
  pub pad : s.is_pad ≡ true → pad_born (birth es) ≡ true
  pub asks : map asked_by (submissions es) ≡ s.asks
  pub all : s.is_pad ≡ true → s.all ≡ true → handed_out es ≡ completes_from 0 (length (submissions es))

-- ---- one entry more

module _ {X Y : Type 0} (f : X → Option Y) (xs : List X) (x : X) where
  grows-not : f x ≡ None → filter_map f (xs ++ x ∷ []) ≡ filter_map f xs
  grows-not e = filter_map-append f xs (x ∷ []) ∙ (ap (λ o. filter_map f xs ++ cons_option o []) e ∙ append-nil (filter_map f xs))

  grows : (y : Y) → f x ≡ Some y → filter_map f (xs ++ x ∷ []) ≡ filter_map f xs ++ y ∷ []
  grows y e = filter_map-append f xs (x ∷ []) ∙ ap (λ o. filter_map f xs ++ cons_option o []) e

last-grown : (d x : ℕ) (xs : List ℕ) → last_or d (xs ++ x ∷ []) ≡ x
last-grown d x [] = refl
last-grown d x (y ∷ ys) = last-grown y x ys

pad-stays : (es more : List (BoardEntry Ask)) → pad_born (birth es) ≡ true → pad_born (birth (es ++ more)) ≡ true
pad-stays es more is = ap (λ l. pad_born (first l)) (filter_map-append birth_in es more) ∙ by (filter_map birth_in es) (filter_map birth_in more) is
  where
    by : (xs ys : List (ℕ × Shape)) → pad_born (first xs) ≡ true → pad_born (first (xs ++ ys)) ≡ true
    by [] ys e = absurd cc
    by (x ∷ xs) ys e = e

map-grown : (asks : List Ask) (ask : Ask) → map asked_by (asks ++ ask ∷ []) ≡ map asked_by asks ++ asked_by ask ∷ []
map-grown [] ask = refl
map-grown (x ∷ asks) ask = ap (λ l. asked_by x ∷ l) (map-grown asks ask)

length-completes : (n many : ℕ) → length (completes_from n many) ≡ many
length-completes n zero = refl
length-completes n (suc many) = ap suc (length-completes (suc n) many)

take-completes : (n many : ℕ) → take many (completes_from n many) ≡ completes_from n many
take-completes n zero = refl
take-completes n (suc many) = ap (λ ns. Completes n ∷ ns) (take-completes (suc n) many)

-- an entry that neither asks nor collects leaves the sum
quiet : (es : List (BoardEntry Ask)) (e : BoardEntry Ask) (s : Summary) → accepted_in e ≡ None → handed_out (es ++ e ∷ []) ≡ handed_out es → Sums es s → Sums (es ++ e ∷ []) s
quiet es e s asks_not hands_not sums = record {
  pad = λ is. pad-stays es (e ∷ []) (sums.pad is);
  asks = ap (map asked_by) (grows-not accepted_in es e asks_not) ∙ sums.asks;
  all = λ is done. hands_not ∙ (sums.all is done ∙ ap (λ asks. completes_from 0 (length asks)) (sym (grows-not accepted_in es e asks_not)));
}

-- one that asks
asks-more : (es : List (BoardEntry Ask)) (e : BoardEntry Ask) (s : Summary) (ask : Ask) → accepted_in e ≡ Some ask → Sums es s → Sums (es ++ e ∷ []) (asked_more (asked_by ask) s)
asks-more es e s ask is_ask sums = record {
  pad = λ is. pad-stays es (e ∷ []) (sums.pad is);
  asks = ap (map asked_by) (grows accepted_in es e ask is_ask) ∙ (map-grown (submissions es) ask ∙ ap (λ l. l ++ asked_by ask ∷ []) sums.asks);
  all = λ is done. absurd cc;
}

-- and one that collects: what is handed out then is all that was told before it
collects : (es : List (BoardEntry Ask)) (by pipe to : ℕ) (s : Summary) → to ≡ length (told es) → (Is is_pad_shape es → told es ≡ completes_from 0 (front es))
    → (Is is_pad_shape (es ++ event.Collect by pipe to ∷ []) → told (es ++ event.Collect by pipe to ∷ []) ≡ completes_from 0 (front (es ++ event.Collect by pipe to ∷ [])))
    → handed_out (es ++ event.Collect by pipe to ∷ []) ≡ take (collected (es ++ event.Collect by pipe to ∷ [])) (told (es ++ event.Collect by pipe to ∷ []))
    → Sums es s → Sums (es ++ event.Collect by pipe to ∷ []) (record s { all = front es == length (submissions es) })
collects es by pipe to s place tells tells_after handed sums =
    let e : BoardEntry Ask = event.Collect by pipe to in
    let asks_same = grows-not accepted_in es e refl in
    let front_same : front (es ++ e ∷ []) ≡ front es = λ i. unbroken (grows-not finished_in es e refl i) 0 (length (asks_same i)) in
    record {
      pad = λ is. pad-stays es (e ∷ []) (sums.pad is);
      asks = ap (map asked_by) asks_same ∙ sums.asks;
      all = λ is done.
          let to_front : to ≡ front es = place ∙ (ap length (tells (sums.pad is)) ∙ length-completes 0 (front es)) in
          let all_to : collected (es ++ e ∷ []) ≡ front es = ap (last_or 0) (grows collected_in es e to refl) ∙ (last-grown 0 to (filter_map collected_in es) ∙ to_front) in
          let told_same = tells_after (pad-stays es (e ∷ []) (sums.pad is)) ∙ ap (completes_from 0) front_same in
          handed
          ∙ ((λ i. take (all_to i) (told_same i))
          ∙ (take-completes 0 (front es)
          ∙ ap (completes_from 0) (eqb-true (front es) (length (submissions es)) done ∙ sym (ap length asks_same))));
    }

-- a pipeline that is born
born : (by pipe : ℕ) (shape : Shape) → Sums (event.Born by pipe shape ∷ []) (shaped shape)
born by pipe (Pad lists) = record { pad = λ is. refl; asks = refl; all = λ is done. refl }
born by pipe (Queue max) = record { pad = λ is. absurd cc; asks = refl; all = λ is done. absurd cc }
born by pipe (Chain max lists) = record { pad = λ is. absurd cc; asks = refl; all = λ is done. absurd cc }

-- ---- whose entry it is

-- who is no worker and at most 16 is caller 0
the-load : (by : ℕ) → IsNoWorker by → by ≤ 16 → by ≡ 0
the-load by (inl below) le = omega arith
the-load by (inr above) le = omega arith

-- of the pipeline, or of another
module _ (laws : BoardLaws) (p : ℕ) (before : List (BoardEntry Ask)) (e : BoardEntry Ask) where
  of-it : is_of p e ≡ true → entries_of p (before ++ e ∷ []) ≡ entries_of p before ++ e ∷ []
  of-it is = filter-append (is_of p) before (e ∷ []) ∙ ap (λ t. entries_of p before ++ (if t then e ∷ [] else [])) is

  of-other : is_of p e ≡ false → entries_of p (before ++ e ∷ []) ≡ entries_of p before
  of-other is = filter-append (is_of p) before (e ∷ []) ∙ (ap (λ t. entries_of p before ++ (if t then e ∷ [] else [])) is ∙ append-nil (entries_of p before))

  -- by whether it is of it
  at-it : (t : Bool) (s s' : Summary) → is_of p e ≡ t → Sums (entries_of p before) s → (is_of p e ≡ true → Sums (entries_of p before ++ e ∷ []) s') → Sums (entries_of p (before ++ e ∷ [])) (if t then s' else s)
  at-it true s s' is sums now = subst (λ es. Sums es s') (sym (of-it is)) (now is)
  at-it false s s' is sums now = subst (λ es. Sums es s) (sym (of-other is)) sums

  hands-not : is_of p e ≡ true → is_collect e ≡ false → handed_out (entries_of p before ++ e ∷ []) ≡ handed_out (entries_of p before)
  hands-not is collects_not = ap handed_out (sym (of-it is)) ∙ laws.nothing before e p collects_not

  -- what leaves the sum of every pipeline
  leaves : (t : Bool) (s : Summary) → is_of p e ≡ t → accepted_in e ≡ None → is_collect e ≡ false → Sums (entries_of p before) s → Sums (entries_of p (before ++ e ∷ [])) s
  leaves true s is asks_not collects_not sums = subst (λ es. Sums es s) (sym (of-it is)) (quiet (entries_of p before) e s asks_not (hands-not is collects_not) sums)
  leaves false s is asks_not collects_not sums = subst (λ es. Sums es s) (sym (of-other is)) sums

-- what the entries of the call's own pipeline are those of the one asked for
same-entries : (p pipe : ℕ) (before : List (BoardEntry Ask)) → (pipe == p) ≡ true → entries_of pipe before ≡ entries_of p before
same-entries p pipe before is = ap (λ n. entries_of n before) (eqb-true pipe p is)

abbrev after-call : ℕ → Summary → Option BoardCall → Summary
after-call p s (Some call) = summed p s call
after-call p s None = s

-- who made an entry that is a call
own-call : (by : ℕ) (call : BoardCall) → by ≡ 0 → if_own 0 by call ≡ Some call
own-call by call zero_is = ap (λ n. if_own 0 n call) zero_is

called : (p : ℕ) (before : List (BoardEntry Ask)) (e : BoardEntry Ask) (call : BoardCall) (by : ℕ) (s : Summary) → board_call_of 0 before e ≡ if_own 0 by call → by ≡ 0 → Sums (entries_of p (before ++ e ∷ [])) (summed p s call)
    → Sums (entries_of p (before ++ e ∷ [])) (after-call p s (board_call_of 0 before e))
called p before e call by s is zero_is sums = subst (λ o. Sums (entries_of p (before ++ e ∷ [])) (after-call p s o)) (sym (is ∙ own-call by call zero_is)) sums

-- one entry more, of any kind
one-more : (laws : BoardLaws) (p : ℕ) (before : List (BoardEntry Ask)) (e : BoardEntry Ask) (s : Summary) → LegalBoard before → IsRight before e → caller_of e ≤ 16 → Sums (entries_of p before) s → Sums (entries_of p (before ++ e ∷ [])) (after-call p s (board_call_of 0 before e))
one-more laws p before (event.Born by pipe shape) s legal right le sums =
    called p before (event.Born by pipe shape) (Creates pipe shape) by s refl (the-load by right.1.0 le)
    (at-it laws p before (event.Born by pipe shape) (pipe == p) s (shaped shape) refl sums
    (λ is. subst (λ es. Sums (es ++ event.Born by pipe shape ∷ []) (shaped shape)) (sym right.1.1 ∙ same-entries p pipe before is) (born by pipe shape)))
one-more laws p before (event.Submit by pipe number ask) s legal right le sums =
    called p before (event.Submit by pipe number ask) (Submits pipe number (asked_by (arc_value ask))) by s refl (the-load by right.1.0.0 le)
    (at-it laws p before (event.Submit by pipe number ask) (pipe == p) s (asked_more (asked_by (arc_value ask)) s) refl sums
    (λ is. asks-more (entries_of p before) (event.Submit by pipe number ask) s (arc_value ask) refl sums))
one-more laws p before (event.Take by pipe number) s legal right le sums = leaves laws p before (event.Take by pipe number) (pipe == p) s refl refl refl sums
one-more laws p before (event.Finish by pipe number) s legal right le sums = leaves laws p before (event.Finish by pipe number) (pipe == p) s refl refl refl sums
one-more laws p before (event.Enq by pipe ask backlog answer) s legal right le sums =
    called p before (event.Enq by pipe ask backlog answer) (Enqueues pipe (asked_by (arc_value ask)) backlog answer) by s refl (the-load by right.1.0.0 le)
    (at-it laws p before (event.Enq by pipe ask backlog answer) (pipe == p) s (entered (asked_by (arc_value ask)) answer s) refl sums (λ is. by_answer is answer))
  where
    by_answer : (pipe == p) ≡ true → (a : Entered) → Sums (entries_of p before ++ event.Enq by pipe ask backlog a ∷ []) (entered (asked_by (arc_value ask)) a s)
    by_answer is NoSpace = quiet (entries_of p before) (event.Enq by pipe ask backlog NoSpace) s refl (hands-not laws p before (event.Enq by pipe ask backlog NoSpace) is refl) sums
    by_answer is (InProgress n) = asks-more (entries_of p before) (event.Enq by pipe ask backlog (InProgress n)) s (arc_value ask) refl sums
    by_answer is (Busy n) = asks-more (entries_of p before) (event.Enq by pipe ask backlog (Busy n)) s (arc_value ask) refl sums
one-more laws p before (event.Deq by pipe number started) s legal right le sums = leaves laws p before (event.Deq by pipe number started) (pipe == p) s refl refl refl sums
one-more laws p before (event.Done by pipe number) s legal right le sums = leaves laws p before (event.Done by pipe number) (pipe == p) s refl refl refl sums
one-more laws p before (event.Hold by pipe) s legal right le sums =
    called p before (event.Hold by pipe) (Holds pipe) by s refl (the-load by right.1.0.0 le) (leaves laws p before (event.Hold by pipe) (pipe == p) s refl refl refl sums)
one-more laws p before (event.Go by pipe) s legal right le sums =
    called p before (event.Go by pipe) (Goes pipe) by s refl (the-load by right.1.0.0 le) (leaves laws p before (event.Go by pipe) (pipe == p) s refl refl refl sums)
one-more laws p before (event.Collect by pipe to) s legal right le sums =
    let e : BoardEntry Ask = event.Collect by pipe to in
    let es = entries_of pipe before in
    called p before e (Collects pipe _) by s refl (the-load by right.1.0.0 le)
    (at-it laws p before e (pipe == p) s (record s { all = front es == length (submissions es) }) refl sums
    (λ is.
    let same = same-entries p pipe before is in
    let here = of-it laws p before e is in
    let later = laws.more before e legal right in
    subst (λ xs. Sums (entries_of p before ++ e ∷ []) (record s { all = front xs == length (submissions xs) })) (sym same)
    (collects (entries_of p before) by pipe to s (right.1.2 ∙ ap (λ xs. length (told xs)) same) (laws.pads before p legal)
    (subst (λ xs. Is is_pad_shape xs → told xs ≡ completes_from 0 (front xs)) here (laws.pads (before ++ e ∷ []) p later))
    (subst (λ xs. handed_out xs ≡ take (collected xs) (told xs)) here (laws.handed (before ++ e ∷ []) p later)) sums)))
one-more laws p before (event.Close by pipe) s legal right le sums =
    called p before (event.Close by pipe) (Closes pipe) by s refl (the-load by right.1.0.0 le) (leaves laws p before (event.Close by pipe) (pipe == p) s refl refl refl sums)
one-more laws p before (event.Share by pipe) s legal right le sums =
    called p before (event.Share by pipe) (Shares pipe) by s refl (the-load by right.1.0.0 le) (leaves laws p before (event.Share by pipe) (pipe == p) s refl refl refl sums)
one-more laws p before (event.Mask by pipe mask) s legal right le sums =
    called p before (event.Mask by pipe mask) (Masks pipe mask) by s refl (the-load by right.1.0.0 le) (leaves laws p before (event.Mask by pipe mask) (pipe == p) s refl refl refl sums)
one-more laws p before (event.Shut by) s legal right le sums =
    called p before (event.Shut by) Shuts by s refl right.0 (leaves laws p before (event.Shut by) false s refl refl refl sums)

-- ---- a whole history

sums-on : (laws : BoardLaws) (p : ℕ) (before es : List (BoardEntry Ask)) (s : Summary) → LegalBoard before → AreRightAfter before es → All (λ e. caller_of e ≤ 16) es → Sums (entries_of p before) s → Sums (entries_of p (before ++ es)) (summary p s (board_calls_from 0 before es))
sums-on laws p before [] s legal right few sums = subst (λ h. Sums (entries_of p h) s) (sym (append-nil before)) sums
sums-on laws p before (e ∷ es) s legal right few sums =
    let now = one-more laws p before e s legal right.0 (All-head (λ e. caller_of e ≤ 16) e es few) sums in
    let later = sums-on laws p (before ++ e ∷ []) es (after-call p s (board_call_of 0 before e)) (laws.more before e legal right.0) right.1 (All-tail (λ e. caller_of e ≤ 16) e es few) now in
    subst (λ h. Sums (entries_of p h) (summary p s (board_calls_from 0 before (e ∷ es)))) (append_assoc before (e ∷ []) es)
    (subst (λ x. Sums (entries_of p ((before ++ e ∷ []) ++ es)) x) (by (board_call_of 0 before e)) later)
  where
    by : (o : Option BoardCall) → summary p (after-call p s o) (board_calls_from 0 (before ++ e ∷ []) es) ≡ summary p s (prepend o (board_calls_from 0 (before ++ e ∷ []) es))
    by (Some call) = refl
    by None = refl

pub board-sums : (laws : BoardLaws) (p : ℕ) (b : List (BoardEntry Ask)) → LegalBoard b → All (λ e. caller_of e ≤ 16) b → Sums (entries_of p b) (summary p none_yet (board_calls 0 b))
unfolding board_calls
board-sums laws p b legal few = sums-on laws p [] b none_yet tt legal few (record { pad = λ is. absurd cc; asks = refl; all = λ is done. absurd cc })
