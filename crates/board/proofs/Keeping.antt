-- Each right entry keeps a pipeline in order.
use Rattle.std.proofs.Common.{◌≡◌, ℕ, suc, ◌+◌, ◌-◌, ◌<◌, ◌≤◌, Bool, true, false, cond, List, [], ◌∷◌, ◌++◌, length, map, take, drop, Option, Some, None, is_some, refl, sym, ◌∙◌, ap, subst, subst₂, arith, append-nil, append_assoc, zero-add, length-append, inl, inr, ◌⊎◌}
use Rattle.std.specs.List.{filter_map}
use Rattle.std.proofs.lemmas.Bool.{cases_lt, false_from_ne_true}
use Rattle.std.proofs.lemmas.List.{take-append-drop, take-append-le, map-append}
use Rattle.std.proofs.Math.Seq.{take-length}
use Rattle.std.proofs.lemmas.List.Elements.{filter_map-append}
use Rattle.std.specs.declared.sync.Arc.{Arc}
use Rattle.std.specs.declared.alloc.Global.{Global}
use Rattle.std.specs.Arc.{arc_value}
use Rattle.board.specs.declared.entry.Shape.{Shape}
use Rattle.board.specs.declared.entry.Shape.TheVariants as shape
use Rattle.board.specs.declared.entry.Entered.{Entered}
use Rattle.board.specs.declared.entry.Entered.TheVariants.{InProgress, Busy, NoSpace}
use Rattle.board.specs.declared.entry.BoardEntry.{BoardEntry}
use Rattle.board.specs.declared.entry.BoardEntry.TheVariants.{Born, Submit, Take, Finish, Enq, Deq, Done, Hold, Go, Collect, Close, Share, Mask, Shut}
use Rattle.board.specs.Shapes.{is_born, is_serial, has_queue, has_lists, is_pad, queue_born, has_queue_born, lists_born}
use Rattle.board.specs.Entries.{Notice, birth_in, birth, first, accepted_in, submissions, dequeued_in, dequeues, dequeued, passed_on, waiting, taken_in, takings, takers, finished_in, finished, has, unbroken, front, tells, told_after, told, collected_in, collected, last_or, maker_is}
use Rattle.board.specs.Legal.{IsRightFor}
use Rattle.board.specs.Order.{handed_in, handed_after, handed_out, AreRightForAfter, completed_in, completed, numbers_below}
use Rattle.board.proofs.Lists.{filter_map-none, filter_map-some, filter_map_grows, last_or-append, first-append, has_only_below, low_number, all_below_more, taker_among}
use Rattle.board.proofs.Fronts.{front_grows, unbroken_next, unbroken_numbers, completed_on}

-- ---- a pipeline's birth

pub birth_stays : {A : Type 0} (es : List (BoardEntry A)) (e : BoardEntry A) → is_some (birth es) ≡ true → birth (es ++ e ∷ []) ≡ birth es
birth_stays es e h = ap first (filter_map-append birth_in es (e ∷ [])) ∙ first-append (filter_map birth_in es) (filter_map birth_in (e ∷ [])) h

pub born_some : (such : Shape → Bool) (b : Option (ℕ × Shape)) → is_born such b ≡ true → is_some b ≡ true
born_some such None h = cc
born_some such (Some x) h = refl

pub maker_some : (b : Option (ℕ × Shape)) (caller : ℕ) → maker_is b caller → is_some b ≡ true
maker_some None caller h = absurd h
maker_some (Some x) caller h = refl

-- what has lists is no queue
pub lists_no_queue : (b : Option (ℕ × Shape)) → lists_born b ≡ true → queue_born b ≡ false
lists_no_queue None h = cc
lists_no_queue (Some (maker, shape.Pad lists)) h = refl
lists_no_queue (Some (maker, shape.Queue max)) h = cc
lists_no_queue (Some (maker, shape.Chain max lists)) h = refl

-- a queue has a queue
pub has_queue_of_queue : (b : Option (ℕ × Shape)) → queue_born b ≡ true → has_queue_born b ≡ true
has_queue_of_queue None h = cc
has_queue_of_queue (Some (maker, shape.Pad lists)) h = cc
has_queue_of_queue (Some (maker, shape.Queue max)) h = refl
has_queue_of_queue (Some (maker, shape.Chain max lists)) h = cc

pub not_both : (b : Bool) → b ≡ true → b ≡ false → ⊥
not_both true h g = cc
not_both false h g = cc

-- ---- the numbers of a pipeline's requests

passed_cases : (b : Bool) (d s d2 s2 : ℕ) → d ≤ d2 → s ≤ s2 → cond b d s ≤ cond b d2 s2
passed_cases true d s d2 s2 h g = h
passed_cases false d s d2 s2 h g = g

pub passed_grows : {A : Type 0} (es : List (BoardEntry A)) (e : BoardEntry A) → is_some (birth es) ≡ true → passed_on es ≤ passed_on (es ++ e ∷ [])
passed_grows es e b = rw (birth_stays es e b) (passed_cases (has_queue_born (birth es)) (dequeued es) (length (submissions es)) (dequeued (es ++ e ∷ [])) (length (submissions (es ++ e ∷ []))) (filter_map_grows dequeued_in es e) (filter_map_grows accepted_in es e))

-- what was let out, taken and finished
pub record AreNumbered {A : Type 0} (es : List (BoardEntry A)) : Type 0 where
  pub numbers : map (λ (t : ℕ × ℕ). t.0) (dequeues es) ≡ numbers_below (dequeued es)
  pub queued : dequeued es ≤ length (submissions es)
  pub taken : (n : ℕ) → has n (map (λ (t : ℕ × ℕ). t.0) (filter_map taken_in es)) ≡ true → n < passed_on es
  pub done : (n : ℕ) → has n (finished es) ≡ true → n < passed_on es
  pub serial : queue_born (birth es) ≡ true → finished es ≡ numbers_below (length (finished es))
  pub behind : queue_born (birth es) ≡ true → length (finished es) ≤ dequeued es
  pub ahead : queue_born (birth es) ≡ true → dequeued es ≤ length (finished es) + 1

passed_le_cases : (b : Bool) (d s : ℕ) → d ≤ s → cond b d s ≤ s
passed_le_cases true d s h = h
passed_le_cases false d s h = omega arith

pub passed-le : {A : Type 0} (es : List (BoardEntry A)) → dequeued es ≤ length (submissions es) → passed_on es ≤ length (submissions es)
passed-le es h = passed_le_cases (has_queue_born (birth es)) (dequeued es) (length (submissions es)) h

-- an entry that neither lets out, takes nor finishes
numbered_quiet : {A : Type 0} (es : List (BoardEntry A)) (e : BoardEntry A) → AreNumbered es → is_some (birth es) ≡ true → dequeued_in e ≡ None → taken_in e ≡ None → finished_in e ≡ None → AreNumbered (es ++ e ∷ [])
numbered_quiet es e o b d t f =
    let be = birth_stays es e b in
    let p = passed_grows es e b in
    let de : dequeues (es ++ e ∷ []) ≡ dequeues es = filter_map-none dequeued_in es e d in
    let te : filter_map taken_in (es ++ e ∷ []) ≡ filter_map taken_in es = filter_map-none taken_in es e t in
    let fe : finished (es ++ e ∷ []) ≡ finished es = filter_map-none finished_in es e f in
    let back = λ (h : queue_born (birth (es ++ e ∷ [])) ≡ true). sym (ap queue_born be) ∙ h in
    record {
      numbers = rw de o.numbers;
      queued = (let l = o.queued in let g = filter_map_grows accepted_in es e in rw de (omega arith));
      taken = λ n h. (let l = o.taken n (subst (λ ts. has n (map (λ (t : ℕ × ℕ). t.0) ts) ≡ true) te h) in omega arith);
      done = λ n h. (let l = o.done n (subst (λ ns. has n ns ≡ true) fe h) in omega arith);
      serial = λ h. rw fe (o.serial (back h));
      behind = λ h. rw (fe, de) (o.behind (back h));
      ahead = λ h. rw (fe, de) (o.ahead (back h));
    }

numbered_take : {A : Type 0} (es : List (BoardEntry A)) (caller pipe number : ℕ) → AreNumbered es → is_some (birth es) ≡ true → number < passed_on es → AreNumbered (es ++ Take caller pipe number ∷ [])
numbered_take {A} es caller pipe number o b low =
    let e : BoardEntry A = Take caller pipe number in
    let be = birth_stays es e b in
    let p = passed_grows es e b in
    let de : dequeues (es ++ e ∷ []) ≡ dequeues es = filter_map-none dequeued_in es e refl in
    let te : filter_map taken_in (es ++ e ∷ []) ≡ filter_map taken_in es ++ (number, caller) ∷ [] = filter_map-some taken_in es e (number, caller) refl in
    let me : map (λ (t : ℕ × ℕ). t.0) (filter_map taken_in (es ++ e ∷ [])) ≡ map (λ (t : ℕ × ℕ). t.0) (filter_map taken_in es) ++ number ∷ [] = ap (map (λ (t : ℕ × ℕ). t.0)) te ∙ map-append (λ (t : ℕ × ℕ). t.0) (filter_map taken_in es) ((number, caller) ∷ []) in
    let fe : finished (es ++ e ∷ []) ≡ finished es = filter_map-none finished_in es e refl in
    let back = λ (h : queue_born (birth (es ++ e ∷ [])) ≡ true). sym (ap queue_born be) ∙ h in
    record {
      numbers = rw de o.numbers;
      queued = (let l = o.queued in let g = filter_map_grows accepted_in es e in rw de (omega arith));
      taken = λ n h. (let l = all_below_more (map (λ (t : ℕ × ℕ). t.0) (filter_map taken_in es)) number (passed_on es) o.taken low n (subst (λ ns. has n ns ≡ true) me h) in omega arith);
      done = λ n h. (let l = o.done n (subst (λ ns. has n ns ≡ true) fe h) in omega arith);
      serial = λ h. rw fe (o.serial (back h));
      behind = λ h. rw (fe, de) (o.behind (back h));
      ahead = λ h. rw (fe, de) (o.ahead (back h));
    }

-- who took a number off a pad took one past the queue
pub took_passed : {A : Type 0} (es : List (BoardEntry A)) (number caller : ℕ) → AreNumbered es → queue_born (birth es) ≡ false → takers number es ≡ caller ∷ [] → number < passed_on es
took_passed es number caller o q t =
    let s : takings es ≡ filter_map taken_in es = ap (λ b. cond b (dequeues es) (filter_map taken_in es)) q in
    o.taken number (subst (λ ts. has number (map (λ (t : ℕ × ℕ). t.0) ts) ≡ true) s (taker_among (takings es) number caller t))

numbered_finish : {A : Type 0} (es : List (BoardEntry A)) (caller pipe number : ℕ) → AreNumbered es → lists_born (birth es) ≡ true → takers number es ≡ caller ∷ [] → AreNumbered (es ++ Finish caller pipe number ∷ [])
numbered_finish {A} es caller pipe number o lists t =
    let e : BoardEntry A = Finish caller pipe number in
    let b = born_some has_lists (birth es) lists in
    let be = birth_stays es e b in
    let p = passed_grows es e b in
    let low = took_passed es number caller o (lists_no_queue (birth es) lists) t in
    let de : dequeues (es ++ e ∷ []) ≡ dequeues es = filter_map-none dequeued_in es e refl in
    let te : filter_map taken_in (es ++ e ∷ []) ≡ filter_map taken_in es = filter_map-none taken_in es e refl in
    let fe : finished (es ++ e ∷ []) ≡ finished es ++ number ∷ [] = filter_map-some finished_in es e number refl in
    let no = λ (h : queue_born (birth (es ++ e ∷ [])) ≡ true). not_both (queue_born (birth es)) (sym (ap queue_born be) ∙ h) (lists_no_queue (birth es) lists) in
    record {
      numbers = rw de o.numbers;
      queued = (let l = o.queued in let g = filter_map_grows accepted_in es e in rw de (omega arith));
      taken = λ n h. (let l = o.taken n (subst (λ ts. has n (map (λ (t : ℕ × ℕ). t.0) ts) ≡ true) te h) in omega arith);
      done = λ n h. (let l = all_below_more (finished es) number (passed_on es) o.done low n (subst (λ ns. has n ns ≡ true) fe h) in omega arith);
      serial = λ h. absurd (no h);
      behind = λ h. absurd (no h);
      ahead = λ h. absurd (no h);
    }

numbered_deq : {A : Type 0} (es : List (BoardEntry A)) (caller pipe number : ℕ) (starting : Option ℕ) → AreNumbered es → is_some (birth es) ≡ true → (queue_born (birth es) ≡ true → length (finished es) ≡ dequeued es) → 0 < waiting es → number ≡ dequeued es → AreNumbered (es ++ Deq caller pipe number starting ∷ [])
numbered_deq {A} es caller pipe number starting o b rests w at =
    let e : BoardEntry A = Deq caller pipe number starting in
    let be = birth_stays es e b in
    let p = passed_grows es e b in
    let de : dequeues (es ++ e ∷ []) ≡ dequeues es ++ (number, caller) ∷ [] = filter_map-some dequeued_in es e (number, caller) refl in
    let dl : length (dequeues es ++ (number, caller) ∷ []) ≡ suc (dequeued es) = (let l = length-append (dequeues es) ((number, caller) ∷ []) in omega arith) in
    let me : map (λ (t : ℕ × ℕ). t.0) (dequeues es ++ (number, caller) ∷ []) ≡ map (λ (t : ℕ × ℕ). t.0) (dequeues es) ++ number ∷ [] = map-append (λ (t : ℕ × ℕ). t.0) (dequeues es) ((number, caller) ∷ []) in
    let se : submissions (es ++ e ∷ []) ≡ submissions es = filter_map-none accepted_in es e refl in
    let te : filter_map taken_in (es ++ e ∷ []) ≡ filter_map taken_in es = filter_map-none taken_in es e refl in
    let fe : finished (es ++ e ∷ []) ≡ finished es = filter_map-none finished_in es e refl in
    let back = λ (h : queue_born (birth (es ++ e ∷ [])) ≡ true). sym (ap queue_born be) ∙ h in
    record {
      numbers = rw (de, dl, me, at) (ap (λ ns. ns ++ dequeued es ∷ []) o.numbers);
      queued = rw (de, dl, se) (omega arith);
      taken = λ n h. (let l = o.taken n (subst (λ ts. has n (map (λ (t : ℕ × ℕ). t.0) ts) ≡ true) te h) in omega arith);
      done = λ n h. (let l = o.done n (subst (λ ns. has n ns ≡ true) fe h) in omega arith);
      serial = λ h. rw fe (o.serial (back h));
      behind = λ h. (let r = rests (back h) in rw (fe, de, dl) (omega arith));
      ahead = λ h. (let r = rests (back h) in rw (fe, de, dl) (omega arith));
    }

-- on a queue the number that runs is the first that isn't finished
pub runs_next : {A : Type 0} (es : List (BoardEntry A)) (number caller : ℕ) → AreNumbered es → queue_born (birth es) ≡ true → takers number es ≡ caller ∷ [] → has number (finished es) ≡ false → (number ≡ length (finished es)) × (number < dequeued es)
runs_next es number caller o q t f =
    let s : takings es ≡ dequeues es = ap (λ b. cond b (dequeues es) (filter_map taken_in es)) q in
    let among : has number (map (λ (t : ℕ × ℕ). t.0) (dequeues es)) ≡ true = subst (λ ts. has number (map (λ (t : ℕ × ℕ). t.0) ts) ≡ true) s (taker_among (takings es) number caller t) in
    let high : number < dequeued es = has_only_below (dequeued es) number (subst (λ ns. has number ns ≡ true) o.numbers among) in
    let a = o.ahead q in
    let low : length (finished es) ≤ number = low_number (length (finished es)) number (subst (λ ns. has number ns ≡ false) (o.serial q) f) (cases_lt number (length (finished es))) in
    (omega arith, high)

numbered_done : {A : Type 0} (es : List (BoardEntry A)) (caller pipe number : ℕ) → AreNumbered es → queue_born (birth es) ≡ true → takers number es ≡ caller ∷ [] → has number (finished es) ≡ false → AreNumbered (es ++ Done caller pipe number ∷ [])
numbered_done {A} es caller pipe number o q t f =
    let e : BoardEntry A = Done caller pipe number in
    let b = born_some is_serial (birth es) q in
    let be = birth_stays es e b in
    let p = passed_grows es e b in
    let next = runs_next es number caller o q t f in
    let n = next.0 in
    let high = next.1 in
    let pass : passed_on es ≡ dequeued es = ap (λ c. cond c (dequeued es) (length (submissions es))) (has_queue_of_queue (birth es) q) in
    let de : dequeues (es ++ e ∷ []) ≡ dequeues es = filter_map-none dequeued_in es e refl in
    let te : filter_map taken_in (es ++ e ∷ []) ≡ filter_map taken_in es = filter_map-none taken_in es e refl in
    let fe : finished (es ++ e ∷ []) ≡ finished es ++ number ∷ [] = filter_map-some finished_in es e number refl in
    let fl : length (finished es ++ number ∷ []) ≡ suc (length (finished es)) = (let l = length-append (finished es) (number ∷ []) in omega arith) in
    let a = o.ahead q in
    record {
      numbers = rw de o.numbers;
      queued = (let l = o.queued in let g = filter_map_grows accepted_in es e in rw de (omega arith));
      taken = λ m h. (let l = o.taken m (subst (λ ts. has m (map (λ (t : ℕ × ℕ). t.0) ts) ≡ true) te h) in omega arith);
      done = λ m h. (let l = all_below_more (finished es) number (passed_on es) o.done (omega arith) m (subst (λ ns. has m ns ≡ true) fe h) in omega arith);
      serial = λ h. rw (fe, fl) (ap (λ ns. ns ++ number ∷ []) (o.serial q) ∙ ap (λ k. numbers_below (length (finished es)) ++ k ∷ []) n);
      behind = λ h. rw (fe, fl, de) (omega arith);
      ahead = λ h. rw (fe, fl, de) (omega arith);
    }

-- ---- what a pipeline told and handed out

told_last : {A : Type 0} (before es : List (BoardEntry A)) (e : BoardEntry A) → told_after before (es ++ e ∷ []) ≡ told_after before es ++ tells (before ++ es) e
told_last before [] e = append-nil (tells before e) ∙ ap (λ b. tells b e) (sym (append-nil before))
told_last before (x ∷ es) e =
    ap (λ ns. tells before x ++ ns) (told_last (before ++ x ∷ []) es e ∙ ap (λ b. told_after (before ++ x ∷ []) es ++ tells b e) (append_assoc before (x ∷ []) es))
    ∙ sym (append_assoc (tells before x) (told_after (before ++ x ∷ []) es) (tells (before ++ x ∷ es) e))

pub told-more : {A : Type 0} (es : List (BoardEntry A)) (e : BoardEntry A) → told (es ++ e ∷ []) ≡ told es ++ tells es e
told-more es e = told_last [] es e

pub record IsTold {A : Type 0} (es : List (BoardEntry A)) (given : List Notice) : Type 0 where
  pub said : completed (told es) ≡ numbers_below (front es)
  pub front_of : given ≡ take (collected es) (told es)
  pub within : collected es ≤ length (told es)

-- an entry that hands nothing out
told_step : {A : Type 0} (es : List (BoardEntry A)) (e : BoardEntry A) (given : List Notice) → IsTold es given → handed_in es e ≡ [] → collected_in e ≡ None → numbers_below (front es) ++ completed (tells es e) ≡ numbers_below (front (es ++ e ∷ [])) → IsTold (es ++ e ∷ []) (given ++ handed_in es e)
told_step es e given o i c s =
    let te = told-more es e in
    let ce : collected (es ++ e ∷ []) ≡ collected es = ap (last_or 0) (filter_map-none collected_in es e c) in
    record {
      said = rw te (filter_map-append completed_in (told es) (tells es e) ∙ (ap (λ ns. ns ++ completed (tells es e)) o.said ∙ s));
      front_of = rw (i, append-nil given, ce, te, take-append-le (collected es) (told es) (tells es e) o.within) o.front_of;
      within = (let w = o.within in let l = length-append (told es) (tells es e) in rw (ce, te) (omega arith));
    }

-- one that tells nothing of what is finished, and leaves the front
told_quiet : {A : Type 0} (es : List (BoardEntry A)) (e : BoardEntry A) (given : List Notice) → IsTold es given → handed_in es e ≡ [] → collected_in e ≡ None → completed (tells es e) ≡ [] → front (es ++ e ∷ []) ≡ front es → IsTold (es ++ e ∷ []) (given ++ handed_in es e)
told_quiet es e given o i c t f = told_step es e given o i c (ap (λ ns. numbers_below (front es) ++ ns) t ∙ (append-nil (numbers_below (front es)) ∙ ap numbers_below (sym f)))

pub front-same : {A : Type 0} (es : List (BoardEntry A)) (e : BoardEntry A) → accepted_in e ≡ None → finished_in e ≡ None → front (es ++ e ∷ []) ≡ front es
front-same es e a f =
    let se : submissions (es ++ e ∷ []) ≡ submissions es = filter_map-none accepted_in es e a in
    let fe : finished (es ++ e ∷ []) ≡ finished es = filter_map-none finished_in es e f in
    rw (se, fe) refl

-- a request that is accepted isn't finished
pub front-accepted : {A : Type 0} (es : List (BoardEntry A)) (e : BoardEntry A) (a : A) → AreNumbered es → accepted_in e ≡ Some a → finished_in e ≡ None → front (es ++ e ∷ []) ≡ front es
front-accepted es e a o ac f =
    let se : submissions (es ++ e ∷ []) ≡ submissions es ++ a ∷ [] = filter_map-some accepted_in es e a ac in
    let sl : length (submissions es ++ a ∷ []) ≡ suc (length (submissions es)) = (let l = length-append (submissions es) (a ∷ []) in omega arith) in
    let fe : finished (es ++ e ∷ []) ≡ finished es = filter_map-none finished_in es e f in
    let p = passed-le es o.queued in
    let no : has (length (submissions es)) (finished es) ≡ false = false_from_ne_true (has (length (submissions es)) (finished es)) (λ h. (let l = o.done (length (submissions es)) h in absurd (omega arith))) in
    ap (λ ns. unbroken ns 0 (length (submissions (es ++ e ∷ [])))) fe
    ∙ (ap (λ n. unbroken (finished es) 0 n) (ap length se ∙ sl)
    ∙ unbroken_next (finished es) 0 (length (submissions es)) (subst (λ m. has m (finished es) ≡ false) (sym (zero-add (length (submissions es)))) no))

told_finish : {A : Type 0} (es : List (BoardEntry A)) (caller pipe number : ℕ) (given : List Notice) → IsTold es given → IsTold (es ++ Finish caller pipe number ∷ []) (given ++ [])
told_finish {A} es caller pipe number given o =
    let e : BoardEntry A = Finish caller pipe number in
    let g = front_grows es e in
    let q : front es + (front (es ++ e ∷ []) - front es) ≡ front (es ++ e ∷ []) = omega arith in
    told_step es e given o refl refl (completed_on (front es) (front (es ++ e ∷ []) - front es) ∙ ap numbers_below q)

-- on a queue the front is the number of finished requests, and a Done moves it on by one
pub front_done : {A : Type 0} (es : List (BoardEntry A)) (caller pipe number : ℕ) → AreNumbered es → queue_born (birth es) ≡ true → number ≡ length (finished es) → number < dequeued es → (front es ≡ length (finished es)) × (front (es ++ Done caller pipe number ∷ []) ≡ front es + 1)
front_done {A} es caller pipe number v q n high =
    let e : BoardEntry A = Done caller pipe number in
    let l = v.queued in
    let k : ℕ = length (finished es) in
    let fe : finished (es ++ e ∷ []) ≡ numbers_below (suc k) = filter_map-some finished_in es e number refl ∙ (ap (λ ns. ns ++ number ∷ []) (v.serial q) ∙ ap (λ m. numbers_below k ++ m ∷ []) n) in
    let se : submissions (es ++ e ∷ []) ≡ submissions es = filter_map-none accepted_in es e refl in
    let now : front es ≡ k = ap (λ ns. unbroken ns 0 (length (submissions es))) (v.serial q) ∙ unbroken_numbers k (length (submissions es)) (omega arith) in
    let then : front (es ++ e ∷ []) ≡ suc k = rw (fe, se) (unbroken_numbers (suc k) (length (submissions es)) (omega arith)) in
    (now, omega arith)

told_done : {A : Type 0} (es : List (BoardEntry A)) (caller pipe number : ℕ) (given : List Notice) → IsTold es given → AreNumbered es → queue_born (birth es) ≡ true → takers number es ≡ caller ∷ [] → has number (finished es) ≡ false → IsTold (es ++ Done caller pipe number ∷ []) (given ++ [])
told_done {A} es caller pipe number given o v q t f =
    let e : BoardEntry A = Done caller pipe number in
    let next = runs_next es number caller v q t f in
    let fronts = front_done es caller pipe number v q next.0 next.1 in
    let at : number ≡ front es = next.0 ∙ sym fronts.0 in
    let on : front (es ++ e ∷ []) ≡ suc (front es) = (let g = fronts.1 in omega arith) in
    told_step es e given o refl refl (ap (λ m. numbers_below (front es) ++ m ∷ []) at ∙ ap numbers_below (sym on))

told_collect : {A : Type 0} (es : List (BoardEntry A)) (caller pipe to : ℕ) (given : List Notice) → IsTold es given → to ≡ length (told es) → IsTold (es ++ Collect caller pipe to ∷ []) (given ++ drop (collected es) (take to (told es)))
told_collect {A} es caller pipe to given o all =
    let e : BoardEntry A = Collect caller pipe to in
    let te : told (es ++ e ∷ []) ≡ told es = told-more es e ∙ append-nil (told es) in
    let ce : collected (es ++ e ∷ []) ≡ to = ap (last_or 0) (filter_map-some collected_in es e to refl) ∙ last_or-append 0 (filter_map collected_in es) to in
    record {
      said = rw te (o.said ∙ ap numbers_below (sym (front-same es e refl refl)));
      front_of = rw (ce, te, all, take-length (told es), o.front_of) (take-append-drop (collected es) (told es));
      within = rw (ce, te) (omega arith);
    }

-- ---- each entry

pub record IsOrderly {A : Type 0} (es : List (BoardEntry A)) (given : List Notice) : Type 0 where
  pub begun : ((es ≡ []) × (given ≡ [])) ⊎ (is_some (birth es) ≡ true)
  pub numbered : AreNumbered es
  pub telling : IsTold es given

pub orderly_start : {A : Type 0} → IsOrderly {A = A} [] []
orderly_start = record {
  begun = inl (refl, refl);
  numbered = record { numbers = refl; queued = omega arith; taken = λ n h. cc; done = λ n h. cc; serial = λ h. refl; behind = λ h. omega arith; ahead = λ h. omega arith };
  telling = record { said = refl; front_of = refl; within = omega arith };
}

born_alone : {A : Type 0} (caller pipe : ℕ) (shape : Shape) → IsOrderly {A = A} (Born caller pipe shape ∷ []) []
born_alone caller pipe shape = record {
  begun = inr refl;
  numbered = record { numbers = refl; queued = omega arith; taken = λ n h. cc; done = λ n h. cc; serial = λ h. refl; behind = λ h. omega arith; ahead = λ h. omega arith };
  telling = record { said = refl; front_of = refl; within = omega arith };
}

born_cases : {A : Type 0} (es : List (BoardEntry A)) (caller pipe : ℕ) (shape : Shape) (given : List Notice) → es ≡ [] → ((es ≡ []) × (given ≡ [])) ⊎ (is_some (birth es) ≡ true) → IsOrderly (es ++ Born caller pipe shape ∷ []) (given ++ [])
born_cases {A} [] caller pipe shape given n (inl g) = subst (λ ns. IsOrderly {A = A} (Born caller pipe shape ∷ []) (ns ++ [])) (sym g.1) (born_alone caller pipe shape)
born_cases [] caller pipe shape given n (inr b) = cc
born_cases (x ∷ es) caller pipe shape given n s = cc

quiet : {A : Type 0} (es : List (BoardEntry A)) (e : BoardEntry A) (given : List Notice) → IsOrderly es given → is_some (birth es) ≡ true → dequeued_in e ≡ None → taken_in e ≡ None → finished_in e ≡ None → collected_in e ≡ None → handed_in es e ≡ [] → completed (tells es e) ≡ [] → front (es ++ e ∷ []) ≡ front es → IsOrderly (es ++ e ∷ []) (given ++ handed_in es e)
quiet es e given o b d t f c i n s = record {
  begun = inr (ap is_some (birth_stays es e b) ∙ b);
  numbered = numbered_quiet es e o.numbered b d t f;
  telling = told_quiet es e given o.telling i c n s;
}

enq_step : {A : Type 0} (es : List (BoardEntry A)) (answer : Entered) (caller pipe : ℕ) (ask : Arc A Global) (backlog : Bool) (given : List Notice) → IsOrderly es given → is_some (birth es) ≡ true → IsOrderly (es ++ Enq caller pipe ask backlog answer ∷ []) (given ++ [])
enq_step es (InProgress m) caller pipe ask backlog given o b =
    quiet es (Enq caller pipe ask backlog (InProgress m)) given o b refl refl refl refl refl refl (front-accepted es (Enq caller pipe ask backlog (InProgress m)) (arc_value ask) o.numbered refl refl)
enq_step es (Busy m) caller pipe ask backlog given o b =
    quiet es (Enq caller pipe ask backlog (Busy m)) given o b refl refl refl refl refl refl (front-accepted es (Enq caller pipe ask backlog (Busy m)) (arc_value ask) o.numbered refl refl)
enq_step es NoSpace caller pipe ask backlog given o b =
    quiet es (Enq caller pipe ask backlog NoSpace) given o b refl refl refl refl refl refl (front-same es (Enq caller pipe ask backlog NoSpace) refl refl)

none_completed : {A : Type 0} (es : List (BoardEntry A)) (caller pipe number : ℕ) (starting : Option ℕ) → completed (tells es (Deq caller pipe number starting)) ≡ []
none_completed es caller pipe number None = refl
none_completed es caller pipe number (Some s) = refl

-- each right entry keeps the order
pub orderly_step : {A : Type 0} (es : List (BoardEntry A)) (e : BoardEntry A) (given : List Notice) → IsOrderly es given → IsRightFor es e → IsOrderly (es ++ e ∷ []) (given ++ handed_in es e)
orderly_step es (Born caller pipe shape) given o r = born_cases es caller pipe shape given r.1 o.begun
orderly_step es (Submit caller pipe number ask) given o r =
    quiet es (Submit caller pipe number ask) given o (born_some is_pad (birth es) r.1.0) refl refl refl refl refl refl (front-accepted es (Submit caller pipe number ask) (arc_value ask) o.numbered refl refl)
orderly_step es (Take caller pipe number) given o r =
    let b = born_some has_lists (birth es) r.0.0 in
    record {
      begun = inr (ap is_some (birth_stays es (Take caller pipe number) b) ∙ b);
      numbered = numbered_take es caller pipe number o.numbered b r.1;
      telling = told_quiet es (Take caller pipe number) given o.telling refl refl refl (front-same es (Take caller pipe number) refl refl);
    }
orderly_step es (Finish caller pipe number) given o r =
    let b = born_some has_lists (birth es) r.0 in
    record {
      begun = inr (ap is_some (birth_stays es (Finish caller pipe number) b) ∙ b);
      numbered = numbered_finish es caller pipe number o.numbered r.0 r.1;
      telling = told_finish es caller pipe number given o.telling;
    }
orderly_step es (Enq caller pipe ask backlog answer) given o r = enq_step es answer caller pipe ask backlog given o (born_some has_queue (birth es) r.1.0)
orderly_step es (Deq caller pipe number starting) given o r =
    let b = born_some has_queue (birth es) r.0.0 in
    record {
      begun = inr (ap is_some (birth_stays es (Deq caller pipe number starting) b) ∙ b);
      numbered = numbered_deq es caller pipe number starting o.numbered b r.2 r.3 r.4;
      telling = told_quiet es (Deq caller pipe number starting) given o.telling refl refl (none_completed es caller pipe number starting) (front-same es (Deq caller pipe number starting) refl refl);
    }
orderly_step es (Done caller pipe number) given o r =
    let b = born_some is_serial (birth es) r.0 in
    record {
      begun = inr (ap is_some (birth_stays es (Done caller pipe number) b) ∙ b);
      numbered = numbered_done es caller pipe number o.numbered r.0 r.1 r.2;
      telling = told_done es caller pipe number given o.telling o.numbered r.0 r.1 r.2;
    }
orderly_step es (Hold caller pipe) given o r = quiet es (Hold caller pipe) given o (maker_some (birth es) caller r.0.1) refl refl refl refl refl refl (front-same es (Hold caller pipe) refl refl)
orderly_step es (Go caller pipe) given o r = quiet es (Go caller pipe) given o (maker_some (birth es) caller r.0.1) refl refl refl refl refl refl (front-same es (Go caller pipe) refl refl)
orderly_step es (Collect caller pipe to) given o r =
    let b = maker_some (birth es) caller r.0.1 in
    record {
      begun = inr (ap is_some (birth_stays es (Collect caller pipe to) b) ∙ b);
      numbered = numbered_quiet es (Collect caller pipe to) o.numbered b refl refl refl;
      telling = told_collect es caller pipe to given o.telling r.2;
    }
orderly_step es (Close caller pipe) given o r = quiet es (Close caller pipe) given o (maker_some (birth es) caller r.0.1) refl refl refl refl refl refl (front-same es (Close caller pipe) refl refl)
orderly_step es (Share caller pipe) given o r = quiet es (Share caller pipe) given o (maker_some (birth es) caller r.0.1) refl refl refl refl refl refl (front-same es (Share caller pipe) refl refl)
orderly_step es (Mask caller pipe mask) given o r = quiet es (Mask caller pipe mask) given o (maker_some (birth es) caller r.0.1) refl refl refl refl refl refl (front-same es (Mask caller pipe mask) refl refl)
orderly_step es (Shut caller) given o r = absurd r

pub orderly_run : {A : Type 0} (before es : List (BoardEntry A)) (given : List Notice) → IsOrderly before given → AreRightForAfter before es → IsOrderly (before ++ es) (given ++ handed_after before es)
orderly_run before [] given o r = rw (append-nil before, append-nil given) o
orderly_run before (e ∷ es) given o r =
    let s = orderly_run (before ++ e ∷ []) es (given ++ handed_in before e) (orderly_step before e given o r.0) r.1 in
    subst₂ IsOrderly (append_assoc before (e ∷ []) es) (append_assoc given (handed_in before e) (handed_after (before ++ e ∷ []) es)) s

-- a pipeline whose own entries are right is in order
pub orderly : {A : Type 0} (es : List (BoardEntry A)) → AreRightForAfter [] es → IsOrderly es (handed_out es)
orderly es r = orderly_run [] es [] orderly_start r
