-- How building goes on: one look, the work for one larval, and both put together.
use Rattle.std.proofs.Common.{◌≡◌, ◌≢◌, ℕ, zero, suc, ◌+◌, ◌<◌, ◌≤◌, Bool, true, false, not, eqb, ◌&&◌, ◌⊎◌, inl, inr, if◌then◌else◌, List, [], ◌∷◌, ◌++◌, length, refl, ap, sym, ◌∙◌, subst, arith, Option, Some, None, Result, IsSome, append_assoc, length-append}
use Rattle.std.specs.Prelude.{filter}
use Rattle.std.specs.List.{cons_option, list_all}
use Rattle.std.specs.Option.{option_or}
use Rattle.std.proofs.lemmas.List.{append-nil}
use Rattle.std.proofs.lemmas.List.Folds.{list_all-append}
use Rattle.std.proofs.lemmas.List.Elements.{filter_map-append}
use Rattle.std.proofs.lemmas.Bool.{and_from}
use Rattle.kc_base.specs.declared.error_numbers.Errno.{Errno}
use Rattle.alg_registry.specs.declared.entry.Ended.{Ended}
use Rattle.alg_registry.specs.declared.entry.Looked.{Looked}
use Rattle.alg_registry.specs.declared.entry.Looked.TheVariants.{Began}
use Rattle.alg_registry.specs.declared.entry.EndAnswer.{EndAnswer}
use Rattle.alg_registry.specs.declared.entry.RegEntry.{RegEntry}
use Rattle.alg_registry.specs.declared.entry.RegEntry.TheVariants.{Look, Claim, End}
use Rattle.alg_registry.specs.Rows.{texts, begun_by, ends, claims, end_of}
use Rattle.alg_registry.specs.Legal.{ended_as, claimer, LegalReg}
use Rattle.alg_registry.specs.Made.{Made, IsMade, building, looks_for, outcome, outcome_of}
use Rattle.alg_registry.proofs.Making.{Made-push}
use Rattle.alg_registry.proofs.Steps.{or_none}
use Rattle.templates.specs.Table.{table}
use Rattle.templates.specs.Resolution.{Grows, CameTo, Within, AllEnded, is_by, is_work}
use Rattle.alg_registry.proofs.Stack.{ended-stays, claimed-stays, claimed-there, length-texts, building-push, looks-push, ended-push, claimed-push, ended-new, claimed-new, stack_below, Below, filter-snoc, unequal, same}

pub texts_grow : (caller : ℕ) (h h' : List RegEntry) → Grows caller h h' → length (texts h) ≤ length (texts h')
texts_grow caller h h' g = omega (arith, ap (λ x. length (texts x)) g.history, ap length (filter_map-append begun_by h g.more), length-append (texts h) (texts g.more))

all_append : (p : RegEntry → Bool) (xs ys : List RegEntry) → list_all p xs ≡ true → list_all p ys ≡ true → list_all p (xs ++ ys) ≡ true
all_append p xs ys a b = list_all-append p xs ys ∙ and_from (list_all p xs) (list_all p ys) a b

pub grows_none : (caller : ℕ) (h : List RegEntry) → Made table h → Grows caller h h
grows_none caller h made = record { more = []; history = sym (append-nil h); own = refl; made = made; stack = refl; ends_stay = λ n e q. q; own_kept = λ n q. (q, refl) }

pub grows_on : (caller : ℕ) (h h' h'' : List RegEntry) → Grows caller h h' → Grows caller h' h'' → Grows caller h h''
grows_on caller h h' h'' a b = record {
  more = a.more ++ b.more;
  history = b.history ∙ (ap (λ x. x ++ b.more) a.history ∙ append_assoc h a.more b.more);
  own = all_append (is_by caller) a.more b.more a.own b.own;
  made = b.made;
  stack = b.stack ∙ a.stack;
  ends_stay = λ n e q. b.ends_stay n e (a.ends_stay n e q);
  own_kept = λ n q. let p = a.own_kept n q in let r = b.own_kept n p.0 in (r.0, r.1 ∙ p.1);
}

pub within_none : (caller larval : ℕ) (h : List RegEntry) → Made table h → Within caller larval h h
within_none caller larval h made = record { grows = grows_none caller h made; work = []; went = sym (append-nil h); all_work = refl; all_ended = λ n le lt. absurd (omega (arith, le, lt)); others = λ n lt ne. refl }

pub split : (n k : ℕ) → (n < k) ⊎ (k ≤ n)
split n zero = inr (omega arith)
split zero (suc k) = inl (omega arith)
split (suc n) (suc k) = up (split n k)
  where
    up : (n < k) ⊎ (k ≤ n) → (suc n < suc k) ⊎ (suc k ≤ suc n)
    up (inl lt) = inl (omega (arith, lt))
    up (inr le) = inr (omega (arith, le))

pub all_ended_on : (caller : ℕ) (h h' h'' : List RegEntry) → Grows caller h' h'' → AllEnded h h' → AllEnded h' h'' → AllEnded h h''
all_ended_on caller h h' h'' g a b n le lt = by_side (split n (length (texts h')))
  where
    ended_on : (o : Option Ended) → ended_as h' n ≡ o → IsSome o → IsSome (ended_as h'' n)
    ended_on None q s = absurd cc
    ended_on (Some e) q s = subst (λ (o : Option Ended). IsSome o) (sym (g.ends_stay n e q)) refl

    by_side : (n < length (texts h')) ⊎ (length (texts h') ≤ n) → IsSome (ended_as h'' n)
    by_side (inl early) = ended_on (ended_as h' n) refl (a n le early)
    by_side (inr late) = b n late lt

pub within_on : (caller larval : ℕ) (h h' h'' : List RegEntry) → Within caller larval h h' → Within caller larval h' h'' → Within caller larval h h''
within_on caller larval h h' h'' a b = record {
  grows = grows_on caller h h' h'' a.grows b.grows;
  work = a.work ++ b.work;
  went = b.went ∙ (ap (λ x. x ++ b.work) a.went ∙ append_assoc h a.work b.work);
  all_work = all_append (is_work caller) a.work b.work a.all_work b.all_work;
  all_ended = all_ended_on caller h h' h'' b.grows a.all_ended b.all_ended;
  others = λ n lt ne. b.others n (omega (arith, lt, texts_grow caller h h' a.grows)) ne ∙ a.others n lt ne;
}

pub none_after : {B : Type 0} (o p q : Option B) → o ≡ option_or p q → q ≡ None → o ≡ p
none_after o p q e f = e ∙ (ap (λ x. option_or p x) f ∙ or_none p)

pub first_true : (a b : Bool) → (a && b) ≡ true → a ≡ true
first_true true b h = refl
first_true false b h = h

pub second_true : (a b : Bool) → (a && b) ≡ true → b ≡ true
second_true true b h = h
second_true false b h = absurd cc

some_or : {B : Type 0} (o p : Option B) → IsSome o → IsSome (option_or o p)
some_or None p s = absurd cc
some_or (Some b) p s = s

each : (caller : ℕ) (h3 : List RegEntry) (k n : ℕ) (e : RegEntry) (ended : Ended) (h2 : List RegEntry) (w : Within caller k h2 h3)
    → ended_as (h3 ++ e ∷ []) k ≡ Some ended → n < length (texts h3) → (n < length (texts h2)) ⊎ (length (texts h2) ≤ n) → k ≤ n → length (texts h2) ≡ k + 1 → IsSome (ended_as (h3 ++ e ∷ []) n)
each caller h3 k n e ended h2 w is lt (inl early) le t =
    let q : k ≡ n = omega (arith, early, le, t) in
    subst (λ m. IsSome (ended_as (h3 ++ e ∷ []) m)) q (subst (λ (o : Option Ended). IsSome o) (sym is) refl)
each caller h3 k n e ended h2 w is lt (inr late) le t =
    subst (λ (o : Option Ended). IsSome o) (sym (ended-push h3 e n lt)) (some_or (ended_as h3 n) (ends n e) (w.all_ended n late lt))

-- a look whose answer is final
pub came_now : (caller : ℕ) (h : List RegEntry) (text : List ℕ) (plain : Bool) (answer : Looked) (r : Result ℕ Errno)
    → Made table h → IsMade table h (Look caller text plain answer) → begun_by (Look caller text plain answer) ≡ None
    → outcome (h ++ Look caller text plain answer ∷ []) answer ≡ Some r
    → CameTo caller text plain r h (h ++ Look caller text plain answer ∷ [])
came_now caller h text plain answer r made next none comes =
    let e : RegEntry = Look caller text plain answer in
    record {
      grows = record {
        more = e ∷ [];
        history = refl;
        own = and_from (eqb caller caller) true (same caller) refl;
        made = Made-push table h e made next;
        stack = building-push h e caller;
        ends_stay = λ n x q. ended-stays h e n x q;
        own_kept = λ n q. (claimed-stays h e n caller q, none_after _ _ _ (ended-push h e n (claimed-there h n caller q)) refl);
      };
      answer = answer;
      work = [];
      history = refl;
      all_work = refl;
      comes = comes;
      all_ended = λ n le lt. absurd (let q : length (texts (h ++ e ∷ [])) ≡ length (texts h) + 0 = length-texts h e ∙ ap (λ (o : Option (List ℕ)). length (texts h) + length (cons_option o [])) none in omega (arith, le, lt, q));
      looks = λ n lt. looks-push n h e;
    }

-- a look that began a larval, the caller's claim of it, what it did then and the larval's end
pub grows_begun : (caller : ℕ) (h h3 : List RegEntry) (text : List ℕ) (plain : Bool) (k : ℕ) (answer : EndAnswer)
    → LegalReg h → k ≡ length (texts h)
    → Grows caller ((h ++ Look caller text plain (Began k) ∷ []) ++ Claim caller k ∷ []) h3
    → IsMade table h3 (End caller k answer)
    → Grows caller h (h3 ++ End caller k answer ∷ [])
grows_begun caller h h3 text plain k answer legal new g last =
    let l : RegEntry = Look caller text plain (Began k) in
    let c : RegEntry = Claim caller k in
    let e : RegEntry = End caller k answer in
    let h1 : List RegEntry = h ++ l ∷ [] in
    let h2 : List RegEntry = h1 ++ c ∷ [] in
    let h4 : List RegEntry = h3 ++ e ∷ [] in
    let t1 : length (texts h1) ≡ length (texts h) + 1 = length-texts h l in
    let t2 : length (texts h2) ≡ length (texts h1) + 0 = length-texts h1 c in
    let t3 : length (texts h2) ≤ length (texts h3) = texts_grow caller h2 h3 g in
    let history : h4 ≡ h ++ l ∷ (c ∷ g.more ++ e ∷ []) =
    ap (λ x. x ++ e ∷ []) g.history
    ∙ (append_assoc h2 g.more (e ∷ []) ∙ (append_assoc h1 (c ∷ []) (g.more ++ e ∷ []) ∙ append_assoc h (l ∷ []) (c ∷ (g.more ++ e ∷ [])))) in
    let mine : list_all (is_by caller) (l ∷ c ∷ g.more ++ e ∷ []) ≡ true =
    and_from (eqb caller caller) (list_all (is_by caller) (c ∷ g.more ++ e ∷ [])) (same caller)
    (and_from (eqb caller caller) (list_all (is_by caller) (g.more ++ e ∷ [])) (same caller)
    (all_append (is_by caller) g.more (e ∷ []) g.own (and_from (eqb caller caller) true (same caller) refl))) in
    let stack2 : building h2 caller ≡ building h caller ++ k ∷ [] =
    building-push h1 c caller ∙ (ap (λ b. if b then building h1 caller ++ k ∷ [] else building h1 caller) (same caller) ∙ ap (λ ns. ns ++ k ∷ []) (building-push h l caller)) in
    let stack4 : building h4 caller ≡ building h caller =
    building-push h3 e caller
    ∙ (ap (λ b. if b then filter (λ m. not (eqb m k)) (building h3 caller) else building h3 caller) (same caller)
    ∙ (ap (λ ns. filter (λ m. not (eqb m k)) ns) (g.stack ∙ stack2)
    ∙ filter-snoc (building h caller) k (subst (λ m. Below m (building h caller)) (sym new) (stack_below h legal caller)))) in
    let other_end : (n : ℕ) → n ≢ k → ends n e ≡ None = λ n ne. ap (λ b. if b then Some (end_of answer) else None) (unequal k n (λ q. ne (sym q))) in
    let other_claim : (n : ℕ) → n ≢ k → claims n c ≡ None = λ n ne. ap (λ b. if b then Some caller else None) (unequal k n (λ q. ne (sym q))) in
    let older : (n : ℕ) → n < length (texts h) → n ≢ k = λ n lt q. absurd (omega (arith, lt, q, new)) in
    record {
      more = l ∷ (c ∷ g.more ++ e ∷ []);
      history = history;
      own = mine;
      made = Made-push table h3 e g.made last;
      stack = stack4;
      ends_stay = λ n x q. ended-stays h3 e n x (g.ends_stay n x (ended-stays h1 c n x (ended-stays h l n x q)));
      own_kept = λ n q.
          let lt : n < length (texts h) = claimed-there h n caller q in
          let p = g.own_kept n (claimed-stays h1 c n caller (claimed-stays h l n caller q)) in (
            claimed-stays h3 e n caller p.0,
            none_after _ _ _ (ended-push h3 e n (omega (arith, lt, t1, t2, t3))) (other_end n (older n lt))
                ∙ (p.1
                ∙ (none_after _ _ _ (ended-push h1 c n (omega (arith, lt, t1))) refl ∙ none_after _ _ _ (ended-push h l n lt) refl)),
          );
    }

-- and so with the work for its children alone
pub came_begun : (caller : ℕ) (h h3 : List RegEntry) (text : List ℕ) (plain : Bool) (k : ℕ) (answer : EndAnswer) (r : Result ℕ Errno)
    → LegalReg h → Made table h → IsMade table h (Look caller text plain (Began k)) → k ≡ length (texts h)
    → Within caller k ((h ++ Look caller text plain (Began k) ∷ []) ++ Claim caller k ∷ []) h3
    → IsMade table h3 (End caller k answer)
    → outcome_of (Some (end_of answer)) ≡ Some r
    → CameTo caller text plain r h (h3 ++ End caller k answer ∷ [])
came_begun caller h h3 text plain k answer r legal made next new w last ends_as =
    let l : RegEntry = Look caller text plain (Began k) in
    let c : RegEntry = Claim caller k in
    let e : RegEntry = End caller k answer in
    let h1 : List RegEntry = h ++ l ∷ [] in
    let h2 : List RegEntry = h1 ++ c ∷ [] in
    let h4 : List RegEntry = h3 ++ e ∷ [] in
    let t1 : length (texts h1) ≡ length (texts h) + 1 = length-texts h l in
    let t2 : length (texts h2) ≡ length (texts h1) + 0 = length-texts h1 c in
    let t3 : length (texts h2) ≤ length (texts h3) = texts_grow caller h2 h3 w.grows in
    let t4 : length (texts h4) ≡ length (texts h3) + 0 = length-texts h3 e in
    let history : h4 ≡ h ++ l ∷ (c ∷ w.work ++ e ∷ []) =
    ap (λ x. x ++ e ∷ []) w.went
    ∙ (append_assoc h2 w.work (e ∷ []) ∙ (append_assoc h1 (c ∷ []) (w.work ++ e ∷ []) ∙ append_assoc h (l ∷ []) (c ∷ (w.work ++ e ∷ [])))) in
    let work : list_all (is_work caller) (c ∷ w.work ++ e ∷ []) ≡ true =
    and_from (eqb caller caller) (list_all (is_work caller) (w.work ++ e ∷ [])) (same caller)
    (all_append (is_work caller) w.work (e ∷ []) w.all_work (and_from (eqb caller caller) true (same caller) refl)) in
    let claimed2 : claimer h2 k ≡ Some caller =
    claimed-push h1 c k (omega (arith, new, t1))
    ∙ (ap (λ o. option_or o (claims k c)) (claimed-new h l k legal (omega (arith, new)) (omega (arith, new, t1)) refl) ∙ ap (λ b. if b then Some caller else None) (same k)) in
    let unended : ended_as h3 k ≡ None =
    (w.grows.own_kept k claimed2).1
    ∙ (none_after _ _ _ (ended-push h1 c k (omega (arith, new, t1))) refl ∙ ended-new h l k legal (omega (arith, new)) (omega (arith, new, t1)) refl) in
    let ended : ended_as h4 k ≡ Some (end_of answer) =
    ended-push h3 e k (omega (arith, new, t1, t2, t3))
    ∙ (ap (λ o. option_or o (ends k e)) unended ∙ ap (λ b. if b then Some (end_of answer) else None) (same k)) in
    let older : (n : ℕ) → n < length (texts h) → n ≢ k = λ n lt q. absurd (omega (arith, lt, q, new)) in
    record {
      grows = grows_begun caller h h3 text plain k answer legal new w.grows last;
      answer = Began k;
      work = c ∷ w.work ++ e ∷ [];
      history = history;
      all_work = work;
      comes = ap outcome_of ended ∙ ends_as;
      all_ended = λ n le lt. each caller h3 k n e (end_of answer) h2 w ended (omega (arith, lt, t4)) (split n (length (texts h2))) (omega (arith, le, new)) (omega (arith, new, t1, t2));
      looks = λ n lt.
          looks-push n h3 e ∙ (append-nil (looks_for n [] h3)
          ∙ (w.others n (omega (arith, lt, t1, t2)) (older n lt)
          ∙ (looks-push n h1 c ∙ (append-nil (looks_for n [] h1) ∙ looks-push n h l))));
    }
