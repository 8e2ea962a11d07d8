-- What one more entry makes of a pipeline's requests.
use Rattle.std.proofs.Common.{◌≡◌, ◌≢◌, ℕ, suc, ◌+◌, Bool, true, false, cond, ◌||◌, List, [], ◌∷◌, ◌++◌, length, map, Some, None, refl, sym, ◌∙◌, ap, subst, arith, inl, inr, ◌⊎◌, append-nil}
use Rattle.std.specs.Prelude.{◌==◌, slice_get, slice_set}
use Rattle.std.specs.List.{filter, filter_map}
use Rattle.std.proofs.Math.Bool.{or-false}
use Rattle.std.proofs.lemmas.Bool.{eq-eqb, ne_eqb, eqb-true, cases_eq, lt-leb}
use Rattle.std.proofs.lemmas.List.{length-set, length_push, map-append}
use Rattle.std.proofs.lemmas.List.Elements.{filter-append}
use Rattle.std.specs.declared.cmp.Ordering.{Ordering}
use Rattle.std.specs.declared.cmp.Ordering.TheVariants.{Less, Equal, Greater}
use Rattle.std.specs.Prelude.{nat_lt}
use Rattle.std.specs.Ordering.{nat_cmp, is_eq, match_ordering}
use Rattle.std.specs.BTreeMap.{is_at}
use Rattle.std.specs.BTreeSet.{insert_key}
use Rattle.board.specs.declared.entry.Shape.{Shape}
use Rattle.board.specs.declared.entry.BoardEntry.{BoardEntry}
use Rattle.board.specs.Shapes.{is_serial}
use Rattle.board.specs.Entries.{birth, accepted_in, submissions, submitter_in, submitters, takers, finished_in, finished, has, unbroken, front}
use Rattle.board.proofs.Lists.{filter_map-none, filter_map-some, has-more}
use Rattle.trace_check.specs.declared.pipe.Progress.{Progress}
use Rattle.trace_check.specs.declared.pipe.Progress.TheVariants.{Waits, Runs, Ended}
use Rattle.trace_check.specs.Pipes.{has_submitted, has_ended, ended_run}
use Rattle.trace_check.proofs.Places.{get-set_same, get-set_other, get-push_same, get-push_other}
use Rattle.trace_check.proofs.Standing.{IsAt, AreRequests, AreSubmitters, taking, takers_by, takers_are, takers-same, born_still, at_like}

pub takers-more : {A : Type 0} (es : List (BoardEntry A)) (e : BoardEntry A) (maker : ℕ) (shape : Shape) (n caller m : ℕ) → birth es ≡ Some (maker, shape) → taking (is_serial shape) e ≡ Some (n, caller) → takers m (es ++ e ∷ []) ≡ takers m es ++ cond (n == m) (caller ∷ []) []
takers-more es e maker shape n caller m b t =
    takers_are (es ++ e ∷ []) maker shape m (born_still es e maker shape b)
    ∙ (ap (λ ts. map (λ (u : ℕ × ℕ). u.1) (filter (λ (u : ℕ × ℕ). u.0 == m) ts)) (filter_map-some (taking (is_serial shape)) es e (n, caller) t)
    ∙ (ap (map (λ (u : ℕ × ℕ). u.1)) (filter-append (λ (u : ℕ × ℕ). u.0 == m) (filter_map (taking (is_serial shape)) es) ((n, caller) ∷ []))
    ∙ (map-append (λ (u : ℕ × ℕ). u.1) (filter (λ (u : ℕ × ℕ). u.0 == m) (filter_map (taking (is_serial shape)) es)) _
    ∙ (ap (λ ts. takers_by (is_serial shape) m es ++ ts) (map_one (n == m) n caller)
    ∙ ap (λ ts. ts ++ cond (n == m) (caller ∷ []) []) (sym (takers_are es maker shape m b))))))
  where
    map_one : (b : Bool) (n caller : ℕ) → map (λ (t : ℕ × ℕ). t.1) (cond b ((n, caller) ∷ []) []) ≡ cond b (caller ∷ []) []
    map_one true n caller = refl
    map_one false n caller = refl

-- Who submits is noted.
never_equal : (b : Bool) → is_eq (cond b Less Greater) ≡ false
never_equal true = refl
never_equal false = refl

key_at : (q k : ℕ) → (q ≡ k) ⊎ (q ≡ k → ⊥) → is_eq (nat_cmp q k) ≡ (k == q)
key_at q k (inl e) =
    let same : is_eq (nat_cmp k k) ≡ true = ap (λ b. is_eq (cond b Less (cond (k == k) Equal Greater))) (lt-leb (suc k) k (omega arith)) ∙ ap (λ b. is_eq (cond b Equal Greater)) (eq-eqb k k refl) in
    rw e (same ∙ sym (eq-eqb k k refl))
key_at q k (inr n) = ap (λ b. is_eq (cond (nat_lt q k) Less (cond b Equal Greater))) (ne_eqb q k n) ∙ (never_equal (nat_lt q k) ∙ sym (ne_eqb k q (λ e. n (sym e))))

same_key : (q k : ℕ) → is_eq (nat_cmp q k) ≡ (k == q)
same_key q k = key_at q k (cases_eq q k)

or_twice : (a b : Bool) → (a || b) ≡ (a || (a || b))
or_twice true b = refl
or_twice false b = refl

or_swap : (a b c : Bool) → (a || (b || c)) ≡ (b || (a || c))
or_swap true true c = refl
or_swap true false c = refl
or_swap false true c = refl
or_swap false false c = refl

or_last : (a b : Bool) → (a || (b || false)) ≡ (b || a)
or_last true true = refl
or_last true false = refl
or_last false true = refl
or_last false false = refl

member_at : (o : Ordering) (x k q : ℕ) (xs rest : List ℕ) → nat_cmp k x ≡ o → has_submitted rest q ≡ (k == q || has_submitted xs q) → has_submitted (match_ordering o (k ∷ x ∷ xs) (x ∷ xs) (x ∷ rest)) q ≡ (k == q || has_submitted (x ∷ xs) q)
member_at Less x k q xs rest e ih = ap (λ b. b || has_submitted (x ∷ xs) q) (same_key q k)
member_at Equal x k q xs rest e ih =
    let same : x ≡ k = eqb-true x k (sym (same_key k x) ∙ ap is_eq e) in
    let here : is_at (nat_cmp q) x ≡ (k == q) = same_key q x ∙ ap (λ n. n == q) same in
    ap (λ b. b || has_submitted xs q) here ∙ (or_twice (k == q) (has_submitted xs q) ∙ ap (λ b. k == q || (b || has_submitted xs q)) (sym here))
member_at Greater x k q xs rest e ih = ap (λ b. is_at (nat_cmp q) x || b) ih ∙ or_swap (is_at (nat_cmp q) x) (k == q) (has_submitted xs q)

member_more : (noted : List ℕ) (k q : ℕ) → has_submitted (insert_key nat_cmp noted k) q ≡ (k == q || has_submitted noted q)
member_more [] k q = ap (λ b. b || false) (same_key q k)
member_more (x ∷ xs) k q = member_at (nat_cmp k x) x k q xs (insert_key nat_cmp xs k) refl (member_more xs k q)

pub submitters_more : {A : Type 0} (es : List (BoardEntry A)) (e : BoardEntry A) (noted : List ℕ) (caller : ℕ) → submitter_in e ≡ Some caller → AreSubmitters es noted → AreSubmitters (es ++ e ∷ []) (insert_key nat_cmp noted caller)
submitters_more es e noted caller s k = λ c.
    ap (has c) (filter_map-some submitter_in es e caller s)
    ∙ (has-more (submitters es) caller c
    ∙ (ap (λ b. b || (caller == c || false)) (k c)
    ∙ (or_last (has_submitted noted c) (caller == c) ∙ sym (member_more noted caller c))))

-- a request is accepted
waits_next : {A : Type 0} (es : List (BoardEntry A)) (m : ℕ) (rs : List Progress) → (m ≡ length rs) ⊎ (m ≡ length rs → ⊥) → ((n : ℕ) → IsAt es n (slice_get rs n)) → IsAt es m (slice_get (rs ++ Waits ∷ []) m)
waits_next es m rs (inl e) k =
    rw (e, get-push_same rs Waits) (past es (length rs) rs (k (length rs)))
  where
    none_past : (rs : List Progress) → slice_get rs (length rs) ≡ None
    none_past [] = refl
    none_past (r ∷ rs) = none_past rs

    past : {A : Type 0} (es : List (BoardEntry A)) (n : ℕ) (rs : List Progress) → IsAt es (length rs) (slice_get rs (length rs)) → IsAt es (length rs) (Some Waits)
    past es n rs k = subst (λ p. IsAt es (length rs) p) (none_past rs) k
waits_next es m rs (inr n) k = rw (get-push_other rs Waits m n) (k m)

pub requests_accepted : {A : Type 0} (es : List (BoardEntry A)) (e : BoardEntry A) (maker : ℕ) (shape : Shape) (a : A) (rs : List Progress) → birth es ≡ Some (maker, shape) → accepted_in e ≡ Some a → taking (is_serial shape) e ≡ None → finished_in e ≡ None → AreRequests es rs → AreRequests (es ++ e ∷ []) (rs ++ Waits ∷ [])
requests_accepted es e maker shape a rs b s t f k = record {
  count = ap length (filter_map-some accepted_in es e a s) ∙ (length_push (submissions es) a ∙ (ap (λ l. l + 1) k.count ∙ sym (length_push rs Waits)));
  each = λ m. at_like es (es ++ e ∷ []) m (slice_get (rs ++ Waits ∷ []) m) (takers-same es e maker shape m b t) (ap (has m) (filter_map-none finished_in es e f)) (waits_next es m rs (cases_eq m (length rs)) k.each);
}

-- a request is taken
taken_each : {A : Type 0} (es : List (BoardEntry A)) (e : BoardEntry A) (maker : ℕ) (shape : Shape) (n caller m : ℕ) (rs : List Progress) → birth es ≡ Some (maker, shape) → taking (is_serial shape) e ≡ Some (n, caller) → finished_in e ≡ None → slice_get rs n ≡ Some Waits → (m ≡ n) ⊎ (m ≡ n → ⊥) → ((l : ℕ) → IsAt es l (slice_get rs l)) → IsAt (es ++ e ∷ []) m (slice_get (slice_set rs n (Runs caller)) m)
taken_each es e maker shape n caller m rs b t f w (inl same) k =
    let here : IsAt es n (Some Waits) = subst (λ p. IsAt es n p) w (k n) in
    rw (same, get-set_same rs n (Runs caller) Waits w) (
      takers-more es e maker shape n caller n b t ∙ (ap (λ b. takers n es ++ cond b (caller ∷ []) []) (eq-eqb n n refl) ∙ ap (λ ts. ts ++ caller ∷ []) here.0),
      ap (has n) (filter_map-none finished_in es e f) ∙ here.1,
    )
taken_each es e maker shape n caller m rs b t f w (inr other) k =
    rw (get-set_other rs n m (Runs caller) other)
    (at_like es (es ++ e ∷ []) m (slice_get rs m)
    (takers-more es e maker shape n caller m b t ∙ (ap (λ b. takers m es ++ cond b (caller ∷ []) []) (ne_eqb n m (λ h. other (sym h))) ∙ append-nil (takers m es)))
    (ap (has m) (filter_map-none finished_in es e f)) (k m))

pub requests_taken : {A : Type 0} (es : List (BoardEntry A)) (e : BoardEntry A) (maker : ℕ) (shape : Shape) (n caller : ℕ) (rs : List Progress) → birth es ≡ Some (maker, shape) → accepted_in e ≡ None → taking (is_serial shape) e ≡ Some (n, caller) → finished_in e ≡ None → slice_get rs n ≡ Some Waits → AreRequests es rs → AreRequests (es ++ e ∷ []) (slice_set rs n (Runs caller))
requests_taken es e maker shape n caller rs b s t f w k = record {
  count = ap length (filter_map-none accepted_in es e s) ∙ (k.count ∙ sym (length-set rs n (Runs caller)));
  each = λ m. taken_each es e maker shape n caller m rs b t f w (cases_eq m n) k.each;
}

-- a request is finished
has_now : {A : Type 0} (es : List (BoardEntry A)) (e : BoardEntry A) (n m : ℕ) → finished_in e ≡ Some n → has m (finished (es ++ e ∷ [])) ≡ (has m (finished es) || (n == m || false))
has_now es e n m f = ap (has m) (filter_map-some finished_in es e n f) ∙ has-more (finished es) n m

pub some_taker : {A : Type 0} (es : List (BoardEntry A)) (n caller : ℕ) → takers n es ≡ caller ∷ [] → takers n es ≢ []
some_taker es n caller h none = cc

ended_each : {A : Type 0} (es : List (BoardEntry A)) (e : BoardEntry A) (maker : ℕ) (shape : Shape) (n caller m : ℕ) (rs : List Progress) → birth es ≡ Some (maker, shape) → taking (is_serial shape) e ≡ None → finished_in e ≡ Some n → slice_get rs n ≡ Some (Runs caller) → (m ≡ n) ⊎ (m ≡ n → ⊥) → ((l : ℕ) → IsAt es l (slice_get rs l)) → IsAt (es ++ e ∷ []) m (slice_get (slice_set rs n Ended) m)
ended_each es e maker shape n caller m rs b t f r (inl same) k =
    let here : IsAt es n (Some (Runs caller)) = subst (λ p. IsAt es n p) r (k n) in
    rw (same, get-set_same rs n Ended (Runs caller) r) (
      λ h. some_taker es n caller here.0 (sym (takers-same es e maker shape n b t) ∙ h),
      has_now es e n n f ∙ (ap (λ b. has n (finished es) || (b || false)) (eq-eqb n n refl) ∙ ap (λ b. b || true) here.1),
    )
ended_each es e maker shape n caller m rs b t f r (inr other) k =
    rw (get-set_other rs n m Ended other)
    (at_like es (es ++ e ∷ []) m (slice_get rs m) (takers-same es e maker shape m b t)
    (has_now es e n m f ∙ (ap (λ b. has m (finished es) || (b || false)) (ne_eqb n m (λ h. other (sym h))) ∙ or-false (has m (finished es)))) (k m))

pub requests_ended : {A : Type 0} (es : List (BoardEntry A)) (e : BoardEntry A) (maker : ℕ) (shape : Shape) (n caller : ℕ) (rs : List Progress) → birth es ≡ Some (maker, shape) → accepted_in e ≡ None → taking (is_serial shape) e ≡ None → finished_in e ≡ Some n → slice_get rs n ≡ Some (Runs caller) → AreRequests es rs → AreRequests (es ++ e ∷ []) (slice_set rs n Ended)
requests_ended es e maker shape n caller rs b s t f r k = record {
  count = ap length (filter_map-none accepted_in es e s) ∙ (k.count ∙ sym (length-set rs n Ended));
  each = λ m. ended_each es e maker shape n caller m rs b t f r (cases_eq m n) k.each;
}

-- The front of the entries is that of the requests.
each_ended : {A : Type 0} (es : List (BoardEntry A)) (n : ℕ) (p : Progress) → IsAt es n (Some p) → has n (finished es) ≡ has_ended p
each_ended es n Waits k = k.1
each_ended es n (Runs caller) k = k.1
each_ended es n Ended k = k.1

unbroken_is : {A : Type 0} (es : List (BoardEntry A)) (first : ℕ) (rs : List Progress) → ((n : ℕ) → IsAt es (first + n) (slice_get rs n)) → unbroken (finished es) first (length rs) ≡ ended_run rs
unbroken_is es first [] k = refl
unbroken_is es first (r ∷ rs) k =
    let here : has first (finished es) ≡ has_ended r = (let z : first + 0 ≡ first = omega arith in each_ended es first r (subst (λ m. IsAt es m (Some r)) z (k 0))) in
    let rest : unbroken (finished es) (suc first) (length rs) ≡ ended_run rs = unbroken_is es (suc first) rs (λ n. subst (λ m. IsAt es m (slice_get rs n)) (omega arith) (k (suc n))) in
    ap (λ b. cond b (suc (unbroken (finished es) (suc first) (length rs))) 0) here ∙ ap (λ n. cond (has_ended r) (suc n) 0) rest

pub front_is : {A : Type 0} (es : List (BoardEntry A)) (rs : List Progress) → AreRequests es rs → front es ≡ ended_run rs
front_is es rs k =
    ap (unbroken (finished es) 0) k.count ∙ unbroken_is es 0 rs (λ n. subst (λ m. IsAt es m (slice_get rs n)) (omega arith) (k.each n))
