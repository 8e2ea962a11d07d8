-- What stays of a pipeline while a history goes on.
use Rattle.std.proofs.Common.{◌≡◌, ◌≢◌, ℕ, zero, suc, ◌<◌, Bool, true, false, cond, ◌||◌, List, [], ◌∷◌, ◌++◌, length, map, Option, Some, None, refl, sym, ◌∙◌, ap, subst, arith, append-nil, append_assoc, ◌⊎◌, inl, inr}
use Rattle.std.specs.Prelude.{◌==◌, slice_get}
use Rattle.std.specs.List.{filter_map, filter}
use Rattle.std.proofs.lemmas.Bool.{eqb-true, eq-eqb, false_from_ne_true, or_left, or_from}
use Rattle.std.proofs.lemmas.List.{map-append}
use Rattle.std.proofs.lemmas.List.Folds.{list_any-append}
use Rattle.std.proofs.lemmas.List.Elements.{filter_map-append, filter-append}
use Rattle.board.specs.declared.entry.Shape.{Shape}
use Rattle.board.specs.declared.entry.BoardEntry.{BoardEntry}
use Rattle.board.specs.declared.entry.BoardEntry.TheVariants.{Born, Submit, Take, Finish, Enq, Deq, Done, Hold, Go, Collect, Close, Share, Mask, Shut}
use Rattle.board.specs.Shapes.{is_born, has_lists, queue_born}
use Rattle.board.specs.Entries.{is_of, entries_of, birth_in, birth, first, starts, dequeued, dequeued_in, dequeues, held_in, is_held, accepted_in, submissions, taken_in, takings, takers, finished_in, finished, has, is_share, is_shared, masked_in, mask, meaning_at, caller_of, collected_in, collected, last_or, told, maker_is, IsMaker}
use Rattle.board.specs.Legal.{IsRight, IsRightFor, AreRightAfter, MayFinish}
use Rattle.board.specs.Order.{AreRightForAfter, numbers_below}
use Rattle.board.specs.PipelineHistory.{Opens, StaysOpen, StaysManaged, StaysSubmitting, BornServed, Holds, StaysHeld, BornMasked, Masks, StaysMasked, SlipStays, CollectDrains, is_work, WorkLeaves, IsWorkOf, TakingIsWork, FinishingIsWork, PassingIsWork}
use Rattle.board.proofs.Transfer.{before_last, right_for, entries-more, entries-same, each_right}
use Rattle.board.proofs.Lists.{filter_map-none, filter_map-some, last_or-append, has-more, taker_among, has_only_below}
use Rattle.board.proofs.Keeping.{birth_stays, lists_no_queue, born_some, maker_some, orderly, told-more, front-same}
use Rattle.board.proofs.Kept.{closed-same, held-same, shared-same, collected-same}
use Rattle.board.proofs.KeptMarks.{mask-new}
use Rattle.board.proofs.KeptPad.{takers-same}
use Rattle.board.proofs.KeptTaking.{takers-taken}

-- the last entry of a legal history is right, and what stands before it is legal
pub last_right : {A : Type 0} (before h : List (BoardEntry A)) (e : BoardEntry A) → AreRightAfter before (h ++ e ∷ []) → IsRight (before ++ h) e
last_right before [] e r = subst (λ es. IsRight es e) (sym (append-nil before)) r.0
last_right before (x ∷ h) e r = subst (λ es. IsRight es e) (append_assoc before (x ∷ []) h) (last_right (before ++ x ∷ []) h e r.1)

pub opens : {A : Type 0} (such : Shape → Bool) (h : List (BoardEntry A)) (caller p : ℕ) (shape : Shape) → Opens such h caller p shape
opens {A} such h caller p shape legal is =
    let e : BoardEntry A = Born caller p shape in
    let r = last_right [] h e legal in
    let es : entries_of p (h ++ e ∷ []) ≡ e ∷ [] = entries-more h p e (eq-eqb p p refl) ∙ ap (λ xs. xs ++ e ∷ []) r.1.1 in
    rw es ((is, refl), (r.1.0, refl))

open_cases : {A : Type 0} (such : Shape → Bool) (h : List (BoardEntry A)) (e : BoardEntry A) (p : ℕ) (b : Bool) → is_of p e ≡ b → StaysOpen such h e p
open_cases such h e p true s o c =
    rw (entries-more h p e s) (ap (is_born such) (birth_stays (entries_of p h) e (born_some such _ o.0)) ∙ o.0, closed-same (entries_of p h) e c ∙ o.1)
open_cases such h e p false s o c = rw (entries-same h p e s) o

pub stays_open : {A : Type 0} (such : Shape → Bool) (h : List (BoardEntry A)) (e : BoardEntry A) (p : ℕ) → StaysOpen such h e p
stays_open such h e p = open_cases such h e p (is_of p e) refl

maker_more : {A : Type 0} (es : List (BoardEntry A)) (e : BoardEntry A) (caller : ℕ) → IsMaker es caller → IsMaker (es ++ e ∷ []) caller
maker_more es e caller m = subst (λ b. maker_is b caller) (sym (birth_stays es e (maker_some (birth es) caller m))) m

managed_cases : {A : Type 0} (h : List (BoardEntry A)) (e : BoardEntry A) (p caller : ℕ) (b : Bool) → is_of p e ≡ b → StaysManaged h e p caller
managed_cases h e p caller true s m = rw (entries-more h p e s) (m.0, maker_more (entries_of p h) e caller m.1)
managed_cases h e p caller false s m = rw (entries-same h p e s) m

pub stays_managed : {A : Type 0} (h : List (BoardEntry A)) (e : BoardEntry A) (p caller : ℕ) → StaysManaged h e p caller
stays_managed h e p caller = managed_cases h e p caller (is_of p e) refl

shared_more : {A : Type 0} (es : List (BoardEntry A)) (e : BoardEntry A) (caller : ℕ) → IsMaker es caller ⊎ (is_shared es ≡ true) → IsMaker (es ++ e ∷ []) caller ⊎ (is_shared (es ++ e ∷ []) ≡ true)
shared_more es e caller (inl m) = inl (maker_more es e caller m)
shared_more es e caller (inr s) = inr (list_any-append is_share es (e ∷ []) ∙ or_left (is_shared es) _ s)

submitting_cases : {A : Type 0} (h : List (BoardEntry A)) (e : BoardEntry A) (p caller : ℕ) (b : Bool) → is_of p e ≡ b → StaysSubmitting h e p caller
submitting_cases h e p caller true s m = rw (entries-more h p e s) (m.0, shared_more (entries_of p h) e caller m.1)
submitting_cases h e p caller false s m = rw (entries-same h p e s) m

pub stays_submitting : {A : Type 0} (h : List (BoardEntry A)) (e : BoardEntry A) (p caller : ℕ) → StaysSubmitting h e p caller
stays_submitting h e p caller = submitting_cases h e p caller (is_of p e) refl

-- whether a queue is held
stays_held_cases : {A : Type 0} (h : List (BoardEntry A)) (e : BoardEntry A) (q : ℕ) (b : Bool) → is_of q e ≡ b → StaysHeld h e q
stays_held_cases h e q true s n = ap is_held (entries-more h q e s) ∙ held-same (entries_of q h) e n
stays_held_cases h e q false s n = ap is_held (entries-same h q e s)

pub stays_held : {A : Type 0} (h : List (BoardEntry A)) (e : BoardEntry A) (q : ℕ) → StaysHeld h e q
stays_held h e q = stays_held_cases h e q (is_of q e) refl

held_by : {A : Type 0} (h : List (BoardEntry A)) (e : BoardEntry A) (q : ℕ) (b : Bool) → is_of q e ≡ true → held_in e ≡ Some b → is_held (entries_of q (h ++ e ∷ [])) ≡ b
held_by h e q b s y =
    ap is_held (entries-more h q e s) ∙ (ap (last_or false) (filter_map-some held_in (entries_of q h) e b y) ∙ last_or-append false (filter_map held_in (entries_of q h)) b)

pub holds : {A : Type 0} (h : List (BoardEntry A)) (caller q : ℕ) → Holds h caller q
holds h caller q = (held_by h (Hold caller q) q true (eq-eqb q q refl) refl, held_by h (Go caller q) q false (eq-eqb q q refl) refl)

pub born_served : {A : Type 0} (h : List (BoardEntry A)) (caller p : ℕ) (shape : Shape) → BornServed h caller p shape
born_served {A} h caller p shape legal =
    let e : BoardEntry A = Born caller p shape in
    let r = last_right [] h e legal in
    stays_held h e p refl ∙ ap is_held r.1.1

-- whose jobs the mask leaves to whom
pub born_masked : {A : Type 0} (h : List (BoardEntry A)) (caller p : ℕ) (shape : Shape) → BornMasked h caller p shape
born_masked {A} h caller p shape legal =
    let e : BoardEntry A = Born caller p shape in
    let r = last_right [] h e legal in
    let es : entries_of p (h ++ e ∷ []) ≡ e ∷ [] = entries-more h p e (eq-eqb p p refl) ∙ ap (λ xs. xs ++ e ∷ []) r.1.1 in
    ap mask es

pub masks : {A : Type 0} (h : List (BoardEntry A)) (caller p bits : ℕ) → Masks h caller p bits
masks {A} h caller p bits =
    let e : BoardEntry A = Mask caller p bits in
    ap mask (entries-more h p e (eq-eqb p p refl)) ∙ mask-new (entries_of p h) e bits refl

pub mask_left : {A : Type 0} (es : List (BoardEntry A)) (e : BoardEntry A) → birth_in e ≡ None → masked_in e ≡ None → mask (es ++ e ∷ []) ≡ mask es
mask_left es e b m =
    let be : birth (es ++ e ∷ []) ≡ birth es = ap first (filter_map-none birth_in es e b) in
    rw (be, filter_map-none masked_in es e m) refl

masked_cases : {A : Type 0} (h : List (BoardEntry A)) (e : BoardEntry A) (p : ℕ) (b : Bool) → is_of p e ≡ b → StaysMasked h e p
masked_cases h e p true s b m = ap mask (entries-more h p e s) ∙ mask_left (entries_of p h) e b m
masked_cases h e p false s b m = ap mask (entries-same h p e s)

pub stays_masked : {A : Type 0} (h : List (BoardEntry A)) (e : BoardEntry A) (p : ℕ) → StaysMasked h e p
stays_masked h e p = masked_cases h e p (is_of p e) refl

slice_get-keeps : {X : Type 0} (xs ys : List X) (n : ℕ) (x : X) → slice_get xs n ≡ Some x → slice_get (xs ++ ys) n ≡ Some x
slice_get-keeps [] ys n x h = cc
slice_get-keeps (y ∷ xs) ys zero x h = h
slice_get-keeps (y ∷ xs) ys (suc n) x h = slice_get-keeps xs ys n x h

meaning-keeps : {A O : Type 0} (meaning : A → O) (es : List (BoardEntry A)) (e : BoardEntry A) (n : ℕ) (out : O) → meaning_at meaning (submissions es) n ≡ Some out → meaning_at meaning (submissions (es ++ e ∷ [])) n ≡ Some out
meaning-keeps meaning es e n out h =
    ap (λ asks. meaning_at meaning asks n) (filter_map-append accepted_in es (e ∷ []))
    ∙ (ap (λ outs. slice_get outs n) (map-append meaning (submissions es) (filter_map accepted_in (e ∷ [])))
    ∙ slice_get-keeps (map meaning (submissions es)) (map meaning (filter_map accepted_in (e ∷ []))) n out h)

birth_left : {A : Type 0} (es : List (BoardEntry A)) (e : BoardEntry A) → birth_in e ≡ None → birth (es ++ e ∷ []) ≡ birth es
birth_left es e b = ap first (filter_map-none birth_in es e b)

slip_quiet : {A O : Type 0} (meaning : A → O) (es : List (BoardEntry A)) (e : BoardEntry A) (caller n : ℕ) (out : O) → birth_in e ≡ None → dequeued_in e ≡ None → taken_in e ≡ None → finished_in e ≡ None → MayFinish meaning es caller n out → MayFinish meaning (es ++ e ∷ []) caller n out
slip_quiet meaning es e caller n out b d t f m =
    let fe : finished (es ++ e ∷ []) ≡ finished es = filter_map-none finished_in es e f in
    (takers-same es e (birth_left es e b) d t n ∙ m.0, rw fe m.1, meaning-keeps meaning es e n out m.2)

-- an entry that hands another number out leaves who took a number
pub apart : (ns : List ℕ) (number by n : ℕ) → number ≢ n → ns ++ map (λ (t : ℕ × ℕ). t.1) (cond (number == n) ((number, by) ∷ []) []) ≡ ns
apart ns number by n other =
    let b : (number == n) ≡ false = false_from_ne_true (number == n) (λ h. other (eqb-true number n h)) in
    ap (λ c. ns ++ map (λ (t : ℕ × ℕ). t.1) (cond c ((number, by) ∷ []) [])) b ∙ append-nil ns

pub takers-served : {A : Type 0} (es : List (BoardEntry A)) (by p number n : ℕ) (started : Option ℕ) → queue_born (birth es) ≡ true → takers n (es ++ Deq by p number started ∷ []) ≡ takers n es ++ map (λ (t : ℕ × ℕ). t.1) (cond (number == n) ((number, by) ∷ []) [])
takers-served {A} es by p number n started q =
    let e : BoardEntry A = Deq by p number started in
    let be = birth_left es e refl in
    let old : takings es ≡ dequeues es = ap (λ c. cond c (dequeues es) (filter_map taken_in es)) q in
    let new : takings (es ++ e ∷ []) ≡ takings es ++ (number, by) ∷ [] = ap (λ c. cond c (dequeues (es ++ e ∷ [])) (filter_map taken_in (es ++ e ∷ []))) (ap queue_born be ∙ q) ∙ (filter_map-some dequeued_in es e (number, by) refl ∙ ap (λ ts. ts ++ (number, by) ∷ []) (sym old)) in
    ap (λ ts. map (λ (t : ℕ × ℕ). t.1) (filter (λ (t : ℕ × ℕ). t.0 == n) ts)) new
    ∙ (ap (map (λ (t : ℕ × ℕ). t.1)) (filter-append (λ (t : ℕ × ℕ). t.0 == n) (takings es) ((number, by) ∷ []))
    ∙ map-append (λ (t : ℕ × ℕ). t.1) (filter (λ (t : ℕ × ℕ). t.0 == n) (takings es)) (cond (number == n) ((number, by) ∷ []) []))

pub takers-passed : {A : Type 0} (es : List (BoardEntry A)) (by p number n : ℕ) (started : Option ℕ) → queue_born (birth es) ≡ false → takers n (es ++ Deq by p number started ∷ []) ≡ takers n es
takers-passed {A} es by p number n started q =
    let e : BoardEntry A = Deq by p number started in
    let be = birth_left es e refl in
    let te : filter_map taken_in (es ++ e ∷ []) ≡ filter_map taken_in es = filter_map-none taken_in es e refl in
    rw (be, q, te) refl

-- who took one number is who took it
same_taker : (ns : List ℕ) (a b : ℕ) → ns ≡ a ∷ [] → ns ≡ b ∷ [] → a ≡ b
same_taker ns a b p q = (let e : a ∷ [] ≡ b ∷ [] = sym p ∙ q in cc)

slip_finished : {A O : Type 0} (meaning : A → O) (es : List (BoardEntry A)) (e : BoardEntry A) (number by caller n : ℕ) (out : O) → finished (es ++ e ∷ []) ≡ finished es ++ number ∷ [] → birth_in e ≡ None → dequeued_in e ≡ None → taken_in e ≡ None → takers number es ≡ by ∷ [] → by ≢ caller → MayFinish meaning es caller n out → MayFinish meaning (es ++ e ∷ []) caller n out
slip_finished meaning es e number by caller n out fe b d t who other m =
    let distinct : number ≢ n = λ h. other (same_taker (takers number es) by caller who (subst (λ k. takers k es ≡ caller ∷ []) (sym h) m.0)) in
    let c : (number == n) ≡ false = false_from_ne_true (number == n) (λ h. distinct (eqb-true number n h)) in (
      takers-same es e (birth_left es e b) d t n ∙ m.0,
      rw fe (has-more (finished es) number n ∙ or_from (has n (finished es)) (number == n || false) m.1 (ap (λ x. x || false) c)),
      meaning-keeps meaning es e n out m.2,
    )

not_taken : {A : Type 0} (es : List (BoardEntry A)) (number caller n : ℕ) → takers number es ≡ [] → takers n es ≡ caller ∷ [] → number ≢ n
not_taken es number caller n none some h = (let q : takers n es ≡ [] = subst (λ k. takers k es ≡ []) h none in cc)

-- on a queue the next number is above each that was taken
next_is_new : {A : Type 0} (es : List (BoardEntry A)) (number caller n : ℕ) → map (λ (t : ℕ × ℕ). t.0) (dequeues es) ≡ numbers_below (dequeued es) → queue_born (birth es) ≡ true → number ≡ dequeued es → takers n es ≡ caller ∷ [] → number ≢ n
next_is_new es number caller n numbers q next some h =
    let old : takings es ≡ dequeues es = ap (λ c. cond c (dequeues es) (filter_map taken_in es)) q in
    let among : has n (map (λ (t : ℕ × ℕ). t.0) (dequeues es)) ≡ true = subst (λ ts. has n (map (λ (t : ℕ × ℕ). t.0) ts) ≡ true) old (taker_among (takings es) n caller some) in
    let l : n < dequeued es = has_only_below (dequeued es) n (subst (λ ns. has n ns ≡ true) numbers among) in
    let same : number ≡ n = h in
    absurd (omega arith)

deq_cases : {A : Type 0} (es : List (BoardEntry A)) (by p number caller n : ℕ) (started : Option ℕ) (b : Bool) → queue_born (birth es) ≡ b → AreRightForAfter [] es → number ≡ dequeued es → takers n es ≡ caller ∷ [] → takers n (es ++ Deq by p number started ∷ []) ≡ takers n es
deq_cases es by p number caller n started true q rs next some = takers-served es by p number n started q ∙ apart (takers n es) number by n (next_is_new es number caller n (orderly es rs).numbered.numbers q next some)
deq_cases es by p number caller n started false q rs next some = takers-passed es by p number n started q

slip_step : {A O : Type 0} (meaning : A → O) (es : List (BoardEntry A)) (e : BoardEntry A) (caller n : ℕ) (out : O) → AreRightForAfter [] es → IsRightFor es e → caller_of e ≢ caller → MayFinish meaning es caller n out → MayFinish meaning (es ++ e ∷ []) caller n out
slip_step meaning es (Born by pipe shape) caller n out rs r other m = absurd (let e : caller ∷ [] ≡ [] = sym m.0 ∙ ap (takers n) r.1 in cc)
slip_step meaning es (Submit by pipe number ask) caller n out rs r other m = slip_quiet meaning es (Submit by pipe number ask) caller n out refl refl refl refl m
slip_step {A} meaning es (Take by pipe number) caller n out rs r other m =
    let e : BoardEntry A = Take by pipe number in
    let fe : finished (es ++ e ∷ []) ≡ finished es = filter_map-none finished_in es e refl in
    let b = born_some has_lists (birth es) r.0.0 in
    (takers-taken es pipe number by n b (lists_no_queue (birth es) r.0.0) ∙ (apart (takers n es) number by n (not_taken es number caller n r.2 m.0) ∙ m.0), rw fe m.1, meaning-keeps meaning es e n out m.2)
slip_step meaning es (Finish by pipe number) caller n out rs r other m = slip_finished meaning es (Finish by pipe number) number by caller n out (filter_map-append finished_in es (Finish by pipe number ∷ [])) refl refl refl r.1 other m
slip_step meaning es (Enq by pipe ask backlog answer) caller n out rs r other m = slip_quiet meaning es (Enq by pipe ask backlog answer) caller n out refl refl refl refl m
slip_step {A} meaning es (Deq by pipe number started) caller n out rs r other m =
    let e : BoardEntry A = Deq by pipe number started in
    let fe : finished (es ++ e ∷ []) ≡ finished es = filter_map-none finished_in es e refl in
    (deq_cases es by pipe number caller n started (queue_born (birth es)) refl rs r.4 m.0 ∙ m.0, rw fe m.1, meaning-keeps meaning es e n out m.2)
slip_step meaning es (Done by pipe number) caller n out rs r other m = slip_finished meaning es (Done by pipe number) number by caller n out (filter_map-append finished_in es (Done by pipe number ∷ [])) refl refl refl r.1 other m
slip_step meaning es (Hold by pipe) caller n out rs r other m = slip_quiet meaning es (Hold by pipe) caller n out refl refl refl refl m
slip_step meaning es (Go by pipe) caller n out rs r other m = slip_quiet meaning es (Go by pipe) caller n out refl refl refl refl m
slip_step meaning es (Collect by pipe to) caller n out rs r other m = slip_quiet meaning es (Collect by pipe to) caller n out refl refl refl refl m
slip_step meaning es (Close by pipe) caller n out rs r other m = slip_quiet meaning es (Close by pipe) caller n out refl refl refl refl m
slip_step meaning es (Share by pipe) caller n out rs r other m = slip_quiet meaning es (Share by pipe) caller n out refl refl refl refl m
slip_step meaning es (Mask by pipe bits) caller n out rs r other m = slip_quiet meaning es (Mask by pipe bits) caller n out refl refl refl refl m
slip_step meaning es (Shut by) caller n out rs r other m = absurd r

slip_cases : {A O : Type 0} (meaning : A → O) (h : List (BoardEntry A)) (e : BoardEntry A) (p caller n : ℕ) (out : O) (b : Bool) → is_of p e ≡ b → SlipStays meaning h e p caller n out
slip_cases meaning h e p caller n out true s legal other m =
    rw (entries-more h p e s) (slip_step meaning (entries_of p h) e caller n out (each_right [] h p (before_last [] h e legal)) (right_for h p e s (last_right [] h e legal)) other m)
slip_cases meaning h e p caller n out false s legal other m = rw (entries-same h p e s) m

pub slip_stays : {A O : Type 0} (meaning : A → O) (h : List (BoardEntry A)) (e : BoardEntry A) (p caller n : ℕ) (out : O) → SlipStays meaning h e p caller n out
slip_stays meaning h e p caller n out = slip_cases meaning h e p caller n out (is_of p e) refl

pub collect_drains : {A : Type 0} (h : List (BoardEntry A)) (caller p to : ℕ) → CollectDrains h caller p to
collect_drains {A} h caller p to legal all =
    let e : BoardEntry A = Collect caller p to in
    let es : List (BoardEntry A) = entries_of p h in
    let more : entries_of p (h ++ e ∷ []) ≡ es ++ e ∷ [] = entries-more h p e (eq-eqb p p refl) in
    let right = right_for h p e (eq-eqb p p refl) (last_right [] h e legal) in
    let subs : submissions (es ++ e ∷ []) ≡ submissions es = filter_map-none accepted_in es e refl in
    let t : told (es ++ e ∷ []) ≡ told es = told-more es e ∙ append-nil (told es) in
    let c : collected (es ++ e ∷ []) ≡ to = ap (last_or 0) (filter_map-some collected_in es e to refl) ∙ last_or-append 0 (filter_map collected_in es) to in
    rw more (front-same es e refl refl ∙ (all ∙ ap length (sym subs)), c ∙ (right.2 ∙ ap length (sym t)))

work_if : {A : Type 0} (b : Bool) (x y : BoardEntry A) (caller : ℕ) → IsWorkOf x caller → IsWorkOf y caller → IsWorkOf (cond b x y) caller
work_if true x y caller w v = w
work_if false x y caller w v = v

pub taking_is_work : {A : Type 0} (h : List (BoardEntry A)) (caller p n : ℕ) → TakingIsWork h caller p n
taking_is_work h caller p n = work_if (queue_born (birth (entries_of p h))) (Deq caller p n (starts (entries_of p h) n)) (Take caller p n) caller (refl, refl, refl) (refl, refl, refl)

pub finishing_is_work : {A : Type 0} (h : List (BoardEntry A)) (caller p n : ℕ) → FinishingIsWork h caller p n
finishing_is_work h caller p n = work_if (queue_born (birth (entries_of p h))) (Done caller p n) (Finish caller p n) caller (refl, refl, refl) (refl, refl, refl)

pub passing_is_work : {A : Type 0} (h : List (BoardEntry A)) (caller p : ℕ) → PassingIsWork h caller p
passing_is_work h caller p = (refl, refl, refl)

accepts_none : {A : Type 0} (e : BoardEntry A) → is_work e ≡ true → (accepted_in e ≡ None) × (collected_in e ≡ None) × (is_share e ≡ false) × (birth_in e ≡ None) × (masked_in e ≡ None)
accepts_none (Born caller pipe shape) w = cc
accepts_none (Submit caller pipe number ask) w = cc
accepts_none (Take caller pipe number) w = (refl, refl, refl, refl, refl)
accepts_none (Finish caller pipe number) w = (refl, refl, refl, refl, refl)
accepts_none (Enq caller pipe ask backlog answer) w = cc
accepts_none (Deq caller pipe number started) w = (refl, refl, refl, refl, refl)
accepts_none (Done caller pipe number) w = (refl, refl, refl, refl, refl)
accepts_none (Hold caller pipe) w = cc
accepts_none (Go caller pipe) w = cc
accepts_none (Collect caller pipe to) w = cc
accepts_none (Close caller pipe) w = cc
accepts_none (Share caller pipe) w = cc
accepts_none (Mask caller pipe bits) w = cc
accepts_none (Shut caller) w = cc

work_cases : {A : Type 0} (h : List (BoardEntry A)) (e : BoardEntry A) (p : ℕ) (b : Bool) → is_of p e ≡ b → WorkLeaves h e p
work_cases h e p true s w =
    let a = accepts_none e w in
    rw (entries-more h p e s) (filter_map-none accepted_in (entries_of p h) e a.0, collected-same (entries_of p h) e a.1, shared-same (entries_of p h) e a.2, mask_left (entries_of p h) e a.3 a.4)
work_cases h e p false s w = rw (entries-same h p e s) (refl, refl, refl, refl)

pub work_leaves : {A : Type 0} (h : List (BoardEntry A)) (e : BoardEntry A) (p : ℕ) → WorkLeaves h e p
work_leaves h e p = work_cases h e p (is_of p e) refl
