-- A pad is what the entries of its pipeline say, of a pad alone and of a chain.
use Rattle.std.proofs.Common.{◌≡◌, ℕ, zero, suc, ◌+◌, ◌-◌, ◌<◌, ◌≤◌, Bool, true, false, cond, ◌||◌, List, [], ◌∷◌, ◌++◌, length, map, Option, Some, None, is_some, refl, sym, ◌∙◌, ap, subst, arith, inl, inr, ◌⊎◌, get_or, add-zero, zero-add}
use Rattle.std.specs.Prelude.{◌==◌, slice_get, slice_set}
use Rattle.std.specs.List.{filter_map, cons_option}
use Rattle.std.proofs.Math.Bool.{or-false}
use Rattle.std.proofs.lemmas.Bool.{cases_lt, cases_eq, eqb-true, eq-eqb, false_from_ne_true, both_ways, or_left, or_from}
use Rattle.std.proofs.lemmas.Option.{slice_get-get_or}
use Rattle.std.proofs.lemmas.List.{length-map, length-drop, length-set, get_or-drop, get_or-set_same, get_or-set_other}
use Rattle.kc_base.specs.declared.callback_list.Callback.TheVariants as callback
use Rattle.padata_core.specs.Pad.{Pad, taken_of, ready, done_from, emptied}
use Rattle.board.specs.declared.entry.BoardEntry.{BoardEntry}
use Rattle.board.specs.declared.entry.BoardEntry.TheVariants.{Finish}
use Rattle.board.specs.Stages.{with_outcome}
use Rattle.board.specs.Entries.{Completes, birth, accepted_in, submissions, dequeued_in, dequeues, passed_on, taken_in, takers, finished_in, finished, has, unbroken, front, completes_from, tells, callback_of, completion, meaning_at}
use Rattle.board.specs.Kept.{IsKeptPad, outcome_at}
use Rattle.board.proofs.Lists.{filter_map-none, filter_map-some, has-more}
use Rattle.board.proofs.Keeping.{birth_stays}

-- where an unbroken run of numbers ends
pub unbroken_is : (ns : List ℕ) (n many k : ℕ) → k ≤ many → ((i : ℕ) → i < k → has (n + i) ns ≡ true) → has (n + k) ns ≡ false → unbroken ns n many ≡ k
unbroken_is ns n zero k l below at = omega arith
unbroken_is ns n (suc many) zero l below at =
    let h : has n ns ≡ false = subst (λ m. has m ns ≡ false) (add-zero n) at in
    ap (λ b. cond b (suc (unbroken ns (suc n) many)) 0) h
unbroken_is ns n (suc many) (suc k) l below at =
    let h : has n ns ≡ true = subst (λ m. has m ns ≡ true) (add-zero n) (below 0 (omega arith)) in
    let ih = unbroken_is ns (suc n) many k (omega arith) (λ i il. (let q : n + suc i ≡ suc n + i = omega arith in subst (λ m. has m ns ≡ true) q (below (suc i) (omega arith)))) (let q : n + suc k ≡ suc n + k = omega arith in subst (λ m. has m ns ≡ false) q at) in
    ap (λ b. cond b (suc (unbroken ns (suc n) many)) 0) h ∙ ap suc ih

pub ready_short : {O : Type 0} (outs : List (Option O)) → length (ready outs) ≤ length outs
ready_short [] = omega arith
ready_short (None ∷ outs) = omega arith
ready_short (Some x ∷ outs) = (let h = ready_short outs in omega arith)

ready_some : {O : Type 0} (outs : List (Option O)) (i : ℕ) (d : Option O) → i < length (ready outs) → is_some (get_or outs i d) ≡ true
ready_some [] i d l = absurd (omega arith)
ready_some (None ∷ outs) i d l = absurd (omega arith)
ready_some (Some x ∷ outs) zero d l = refl
ready_some (Some x ∷ outs) (suc i) d l = ready_some outs i d (omega arith)

ready_stop : {O : Type 0} (outs : List (Option O)) (d : Option O) → length (ready outs) < length outs → get_or outs (length (ready outs)) d ≡ None
ready_stop [] d l = absurd (omega arith)
ready_stop (None ∷ outs) d l = refl
ready_stop (Some x ∷ outs) d l = ready_stop outs d (omega arith)

slice_get_some : {X : Type 0} (xs : List X) (n : ℕ) → n < length xs → is_some (slice_get xs n) ≡ true
slice_get_some [] n l = absurd (omega arith)
slice_get_some (x ∷ xs) zero l = refl
slice_get_some (x ∷ xs) (suc n) l = slice_get_some xs n (omega arith)

chosen : {O : Type 0} (b : Bool) (x : Option O) → is_some (cond b x None) ≡ true → b ≡ true
chosen true x h = refl
chosen false x h = cc

some_none : {O : Type 0} (x : Option O) → is_some x ≡ true → x ≡ None → ⊥
some_none None s h = cc
some_none (Some y) s h = cc

not_chosen : {O : Type 0} (b : Bool) (x : Option O) → is_some x ≡ true → cond b x None ≡ None → b ≡ false
not_chosen false x s h = refl
not_chosen true x s h = absurd (some_none x s h)

done_below : {J O A : Type 0} (asked : J → A) (meaning : A → O) (pad : Pad J O) (es : List (BoardEntry A)) → IsKeptPad asked meaning pad es → (i : ℕ) → i < pad.collected + length (ready pad.outcomes) → (i < pad.collected) ⊎ (pad.collected ≤ i) → has i (finished es) ≡ true
done_below asked meaning pad es k i l (inl below) = k.passed i below
done_below asked meaning pad es k i l (inr above) =
    let q : pad.collected + (i - pad.collected) ≡ i = omega arith in
    let r = ready_short pad.outcomes in
    let o = k.outcomes (i - pad.collected) None (omega arith) in
    let s = ready_some pad.outcomes (i - pad.collected) None (omega arith) in
    let t : is_some (outcome_at meaning es (pad.collected + (i - pad.collected))) ≡ true = ap is_some (sym o) ∙ s in
    let u : is_some (outcome_at meaning es i) ≡ true = subst (λ m. is_some (outcome_at meaning es m) ≡ true) q t in
    chosen (has i (finished es)) (meaning_at meaning (submissions es) i) u

open_at : {J O A : Type 0} (asked : J → A) (meaning : A → O) (pad : Pad J O) (es : List (BoardEntry A)) → IsKeptPad asked meaning pad es → passed_on es ≤ length (submissions es) → (length (ready pad.outcomes) < length pad.outcomes) ⊎ (length pad.outcomes ≤ length (ready pad.outcomes)) → has (pad.collected + length (ready pad.outcomes)) (finished es) ≡ false
open_at asked meaning pad es k p (inl short) =
    let o = k.outcomes (length (ready pad.outcomes)) None short in
    let s = ready_stop pad.outcomes None short in
    let sub = k.submitted in
    let l : pad.collected + length (ready pad.outcomes) < length (map meaning (submissions es)) = (let h = length-map (submissions es) meaning in omega arith) in
    not_chosen (has (pad.collected + length (ready pad.outcomes)) (finished es)) (meaning_at meaning (submissions es) (pad.collected + length (ready pad.outcomes))) (slice_get_some (map meaning (submissions es)) _ l) (sym o ∙ s)
open_at asked meaning pad es k p (inr full) = k.running (pad.collected + length (ready pad.outcomes)) (omega arith)

-- the pad's front is that of the history
pub front_is : {J O A : Type 0} (asked : J → A) (meaning : A → O) (pad : Pad J O) (es : List (BoardEntry A)) → IsKeptPad asked meaning pad es → passed_on es ≤ length (submissions es) → front es ≡ pad.collected + length (ready pad.outcomes)
front_is asked meaning pad es k p =
    let f = pad.collected + length (ready pad.outcomes) in
    let s = k.submitted in
    let r = ready_short pad.outcomes in
    unbroken_is (finished es) 0 (length (submissions es)) f (omega arith)
    (λ i l. subst (λ m. has m (finished es) ≡ true) (sym (zero-add i)) (done_below asked meaning pad es k i l (cases_lt i pad.collected)))
    (subst (λ m. has m (finished es) ≡ false) (sym (zero-add f)) (open_at asked meaning pad es k p (cases_lt (length (ready pad.outcomes)) (length pad.outcomes))))

said : {A O : Type 0} (meaning : A → O) (asks : List A) (n : ℕ) (x : O) (b : Bool) → Some x ≡ cond b (meaning_at meaning asks n) None → callback_of meaning asks (Completes n) ≡ Some (callback.Done n x)
said meaning asks n x true h = ap (completion n) (sym h)
said meaning asks n x false h = cc

pub deliver_is : {A O : Type 0} (meaning : A → O) (es : List (BoardEntry A)) (outs : List (Option O)) (n : ℕ) → ((i : ℕ) (d : Option O) → i < length outs → get_or outs i d ≡ outcome_at meaning es (n + i)) → filter_map (callback_of meaning (submissions es)) (completes_from n (length (ready outs))) ≡ done_from n (ready outs)
deliver_is meaning es [] n f = refl
deliver_is meaning es (None ∷ outs) n f = refl
deliver_is meaning es (Some x ∷ outs) n f =
    let h : Some x ≡ outcome_at meaning es n = subst (λ m. Some x ≡ outcome_at meaning es m) (add-zero n) (f 0 None (omega arith)) in
    let c = said meaning (submissions es) n x (has n (finished es)) h in
    let ih = deliver_is meaning es outs (suc n) (λ i d l. (let q : n + suc i ≡ suc n + i = omega arith in subst (λ m. get_or outs i d ≡ outcome_at meaning es m) q (f (suc i) d (omega arith)))) in
    ap (λ o. cons_option o (filter_map (callback_of meaning (submissions es)) (completes_from (suc n) (length (ready outs))))) c ∙ ap (λ xs. callback.Done n x ∷ xs) (ih ∙ ap (λ m. done_from m (ready outs)) (let q : suc n ≡ n + 1 = omega arith in q))

low_cases : {n m : ℕ} → (n < m) ⊎ (m ≤ n) → (n < m → ⊥) → m ≤ n
low_cases (inl l) h = absurd (h l)
low_cases (inr g) h = g

high_cases : {n m : ℕ} → (n < m) ⊎ (m ≤ n) → (m ≤ n → ⊥) → n < m
high_cases (inl l) h = l
high_cases (inr g) h = absurd (h g)

-- who is known to have taken a number took one that is taken and not yet handed out
pub finish_low : {J O A : Type 0} (asked : J → A) (meaning : A → O) (pad : Pad J O) (es : List (BoardEntry A)) (n : ℕ) → IsKeptPad asked meaning pad es → has n (finished es) ≡ false → pad.collected ≤ n
finish_low asked meaning pad es n k f = low_cases (cases_lt n pad.collected) (λ h. both_ways (has n (finished es)) f (k.passed n h))

pub finish_high : {J O A : Type 0} (asked : J → A) (meaning : A → O) (pad : Pad J O) (es : List (BoardEntry A)) (n caller : ℕ) → IsKeptPad asked meaning pad es → takers n es ≡ caller ∷ [] → n < taken_of pad
finish_high asked meaning pad es n caller k t = high_cases (cases_lt n (taken_of pad)) (λ h. (let e = k.untaken n h in cc))

outcome_none : {O : Type 0} (b : Bool) (x : Option O) → b ≡ false → cond b x None ≡ None
outcome_none b x h = ap (λ c. cond c x None) h

outcome_some : {O : Type 0} (b : Bool) (x : Option O) → b ≡ true → cond b x None ≡ x
outcome_some b x h = ap (λ c. cond c x None) h

pub finish_runs : {J O A : Type 0} (asked : J → A) (meaning : A → O) (pad : Pad J O) (es : List (BoardEntry A)) (n caller : ℕ) → IsKeptPad asked meaning pad es → takers n es ≡ caller ∷ [] → has n (finished es) ≡ false → slice_get pad.outcomes (n - pad.collected) ≡ Some None
finish_runs asked meaning pad es n caller k t f =
    let low = finish_low asked meaning pad es n k f in
    let high = finish_high asked meaning pad es n caller k t in
    let i : n - pad.collected < length pad.outcomes = omega arith in
    let m : pad.collected + (n - pad.collected) ≡ n = omega arith in
    let g = slice_get-get_or pad.outcomes (n - pad.collected) None i in
    let o = k.outcomes (n - pad.collected) None i in
    let z : outcome_at meaning es (pad.collected + (n - pad.collected)) ≡ None = rw m (outcome_none (has n (finished es)) (meaning_at meaning (submissions es) n) f) in
    g ∙ ap Some (o ∙ z)

finish_outcomes : {J O A : Type 0} (asked : J → A) (meaning : A → O) (pad : Pad J O) (es : List (BoardEntry A)) (n caller : ℕ) (out : O) → IsKeptPad asked meaning pad es → takers n es ≡ caller ∷ [] → has n (finished es) ≡ false → meaning_at meaning (submissions es) n ≡ Some out
    → (m : ℕ) (d : Option O) → m < length pad.outcomes → (m ≡ n - pad.collected) ⊎ (m ≡ n - pad.collected → ⊥)
    → get_or (slice_set pad.outcomes (n - pad.collected) (Some out)) m d ≡ cond (has (pad.collected + m) (finished es ++ n ∷ [])) (meaning_at meaning (submissions es) (pad.collected + m)) None
finish_outcomes asked meaning pad es n caller out k t f o m d l (inl same) =
    let low = finish_low asked meaning pad es n k f in
    let high = finish_high asked meaning pad es n caller k t in
    let i : n - pad.collected < length pad.outcomes = omega arith in
    let q : pad.collected + (n - pad.collected) ≡ n = omega arith in
    let h : has n (finished es ++ n ∷ []) ≡ true = has-more (finished es) n n ∙ ap (λ b. has n (finished es) || (b || false)) (eq-eqb n n refl) ∙ ap (λ b. b || true) f in
    rw (same, q) (get_or-set_same pad.outcomes (n - pad.collected) (Some out) d i ∙ sym (outcome_some (has n (finished es ++ n ∷ [])) (meaning_at meaning (submissions es) n) h ∙ o))
finish_outcomes asked meaning pad es n caller out k t f o m d l (inr other) =
    let low = finish_low asked meaning pad es n k f in
    let e : (n == pad.collected + m) ≡ false = false_from_ne_true (n == pad.collected + m) (λ h. other (let q = eqb-true n (pad.collected + m) h in omega arith)) in
    let h : has (pad.collected + m) (finished es ++ n ∷ []) ≡ has (pad.collected + m) (finished es) =
    has-more (finished es) n (pad.collected + m) ∙ (ap (λ b. has (pad.collected + m) (finished es) || (b || false)) e ∙ or-false (has (pad.collected + m) (finished es))) in
    get_or-set_other pad.outcomes (n - pad.collected) m (Some out) d other ∙ (k.outcomes m d l ∙ ap (λ b. cond b (meaning_at meaning (submissions es) (pad.collected + m)) None) (sym h))

-- an entry that lets out and takes nothing leaves who took a number
pub takers-same : {A : Type 0} (es : List (BoardEntry A)) (e : BoardEntry A) → birth (es ++ e ∷ []) ≡ birth es → dequeued_in e ≡ None → taken_in e ≡ None → (n : ℕ) → takers n (es ++ e ∷ []) ≡ takers n es
takers-same es e be d t n =
    let de : dequeues (es ++ e ∷ []) ≡ dequeues es = filter_map-none dequeued_in es e d in
    let te : filter_map taken_in (es ++ e ∷ []) ≡ filter_map taken_in es = filter_map-none taken_in es e t in
    rw (be, de, te) refl

pub finish_kept : {J O A : Type 0} (asked : J → A) (meaning : A → O) (pad : Pad J O) (es : List (BoardEntry A)) (p n caller : ℕ) (out : O) → IsKeptPad asked meaning pad es → is_some (birth es) ≡ true → takers n es ≡ caller ∷ [] → has n (finished es) ≡ false → meaning_at meaning (submissions es) n ≡ Some out
    → IsKeptPad asked meaning (with_outcome pad n out) (es ++ Finish caller p n ∷ [])
finish_kept {J} {O} {A} asked meaning pad es p n caller out k b t f o =
    let e : BoardEntry A = Finish caller p n in
    let be = birth_stays es e b in
    let len = length-set pad.outcomes (n - pad.collected) (Some out) in
    let subs : submissions (es ++ e ∷ []) ≡ submissions es = filter_map-none accepted_in es e refl in
    let deqs : dequeues (es ++ e ∷ []) ≡ dequeues es = filter_map-none dequeued_in es e refl in
    let pass : passed_on (es ++ e ∷ []) ≡ passed_on es = rw (be, deqs, subs) refl in
    let tk = takers-same es e be refl refl in
    let fins : finished (es ++ e ∷ []) ≡ finished es ++ n ∷ [] = filter_map-some finished_in es e n refl in
    record {
      submitted = rw (pass, len) k.submitted;
      waiting = rw (pass, subs, len) k.waiting;
      taken = λ m l. rw (tk m) (k.taken m (rw len at l));
      untaken = λ m l. tk m ∙ k.untaken m (rw len at l);
      outcomes = λ m d l. rw (subs, fins) (finish_outcomes asked meaning pad es n caller out k t f o m d (rw len at l) (cases_eq m (n - pad.collected)));
      passed = λ m l. rw fins (has-more (finished es) n m ∙ or_left (has m (finished es)) (n == m || false) (k.passed m l));
      running = λ m l.
          (let l2 = rw len at l in
          let high = finish_high asked meaning pad es n caller k t in
          let ne : (n == m) ≡ false = false_from_ne_true (n == m) (λ h. (let q = eqb-true n m h in absurd (omega arith))) in
          rw fins (has-more (finished es) n m ∙ or_from (has m (finished es)) (n == m || false) (k.running m l2) (ap (λ b. b || false) ne)));
    }

-- what is ready leaves the pad, and the rest is kept
pub emptied_kept : {J O A : Type 0} (asked : J → A) (meaning : A → O) (pad : Pad J O) (es : List (BoardEntry A)) → IsKeptPad asked meaning pad es → passed_on es ≤ length (submissions es) → IsKeptPad asked meaning (emptied pad) es
emptied_kept asked meaning pad es k p =
    let r = ready_short pad.outcomes in
    let len = length-drop (length (ready pad.outcomes)) pad.outcomes in
    let same : taken_of (emptied pad) ≡ taken_of pad = omega arith in
    record {
      submitted = (let s = k.submitted in omega arith);
      waiting = rw same k.waiting;
      taken = λ n l. k.taken n (omega arith);
      untaken = λ n l. k.untaken n (omega arith);
      outcomes = λ n d l.
          (let q : pad.collected + (length (ready pad.outcomes) + n) ≡ pad.collected + length (ready pad.outcomes) + n = omega arith in
          get_or-drop (length (ready pad.outcomes)) pad.outcomes n d ∙ (k.outcomes (length (ready pad.outcomes) + n) d (omega arith) ∙ ap (outcome_at meaning es) q));
      passed = λ n l. done_below asked meaning pad es k n l (cases_lt n pad.collected);
      running = λ n l. k.running n (omega arith);
    }

-- what a finish on a chain tells is what is then ready on its pad
pub finish_tells : {J O A : Type 0} (asked : J → A) (meaning : A → O) (pad : Pad J O) (es : List (BoardEntry A)) (p n caller : ℕ) (out : O) → IsKeptPad asked meaning pad es → is_some (birth es) ≡ true → passed_on es ≤ length (submissions es) → ready pad.outcomes ≡ [] → takers n es ≡ caller ∷ [] → has n (finished es) ≡ false → meaning_at meaning (submissions es) n ≡ Some out
    → filter_map (callback_of meaning (submissions es)) (tells es (Finish caller p n)) ≡ done_from pad.collected (ready (with_outcome pad n out).outcomes)
finish_tells {J} {O} {A} asked meaning pad es p n caller out k b l none t f o =
    let e : BoardEntry A = Finish caller p n in
    let after : List (BoardEntry A) = es ++ e ∷ [] in
    let be = birth_stays es e b in
    let subs : submissions after ≡ submissions es = filter_map-none accepted_in es e refl in
    let deqs : dequeues after ≡ dequeues es = filter_map-none dequeued_in es e refl in
    let pass : passed_on after ≡ passed_on es = rw (be, deqs, subs) refl in
    let k2 = finish_kept asked meaning pad es p n caller out k b t f o in
    let l2 : passed_on after ≤ length (submissions after) = rw (pass, subs) l in
    let now : front es ≡ pad.collected = front_is asked meaning pad es k l ∙ (let z : length (ready pad.outcomes) ≡ 0 = ap length none in omega arith) in
    let then = front_is asked meaning (with_outcome pad n out) after k2 l2 in
    let many : front after - front es ≡ length (ready (with_outcome pad n out).outcomes) = omega arith in
    let told_ : filter_map (callback_of meaning (submissions after)) (completes_from pad.collected (length (ready (with_outcome pad n out).outcomes))) ≡ done_from pad.collected (ready (with_outcome pad n out).outcomes) = deliver_is meaning after (with_outcome pad n out).outcomes pad.collected k2.outcomes in
    ap (λ (f2 : ℕ). filter_map (callback_of meaning (submissions es)) (completes_from f2 (front after - front es))) now
    ∙ (ap (λ (m : ℕ). filter_map (callback_of meaning (submissions es)) (completes_from pad.collected m)) many
    ∙ (ap (λ asks. filter_map (callback_of meaning asks) (completes_from pad.collected (length (ready (with_outcome pad n out).outcomes)))) (sym subs) ∙ told_))
