-- Laws of the words of a turn, each by their definitions alone: what a call that takes the lock, calls one method of
-- the value and gives the lock back has done, and what a pass went through in several turns. They hold for every
-- `Kept`, over which no clause of a function can speak.
use Rattle.std.proofs.Common.{◌≡◌, ℕ, List, [], ◌∷◌, ◌++◌, refl, sym, ap, ◌∙◌, subst, Bool, true, false, eq-eqb, Ok, Err, Some, None, append-nil, append_assoc, inl, inr, ◌⊎◌}
use Rattle.std.specs.Prelude.{IfOk, IfErr, IfSome, MatchResult, MatchOption, MatchBool, Result, Option, ◌==◌, if◌then◌else◌}
use Rattle.std.specs.Result.{is_ok, result_unwrap_or}
use Rattle.std.specs.Option.{is_some}
use Rattle.std.proofs.lemmas.List.Elements.{filter-append}
use Rattle.turn_lock.specs.Turns.{Known, StartsWith, of, Shows, sees, adds}
use Rattle.turn_lock.specs.Passes.{Added}
use Rattle.turn_lock.specs.PassLaws.{Meets, AtTurn, GoesOn, Enters, Leaves, IsOwn}

module _ {A : Type 0} where
  abbrev tail : List A → List A
  tail [] = []
  tail (x ∷ xs) = xs

  same_last : (xs : List A) (a b : A) → xs ++ a ∷ [] ≡ xs ++ b ∷ [] → a ≡ b
  same_last [] a b e = cc
  same_last (x ∷ xs) a b e = same_last xs a b (ap tail e)

  no_rest : (xs ys : List A) → xs ++ ys ≡ xs → ys ≡ []
  no_rest [] ys e = e
  no_rest (x ∷ xs) ys e = no_rest xs ys (ap tail e)

  pub starts_through : (zs ys xs : List A) → StartsWith zs ys → StartsWith ys xs → StartsWith zs xs
  starts_through zs ys xs a b = (b.0 ++ a.0, a.1 ∙ (ap (λ l. l ++ a.0) b.1 ∙ append_assoc xs b.0 a.0))

module _ {E : Type 0} (by : E → ℕ) where
  -- an own entry at the end
  of_own : (n : ℕ) (xs : List E) (e : E) → by e ≡ n → of by n (xs ++ e ∷ []) ≡ of by n xs ++ e ∷ []
  of_own n xs e own = filter-append (λ x. by x == n) xs (e ∷ []) ∙ ap (λ b. of by n xs ++ (if b then e ∷ [] else [])) (eq-eqb (by e) n own)

  -- what is added to a front without further such entries has none
  pub none_after : (n : ℕ) (xs front made more : List E) → xs ≡ front ++ more → of by n xs ≡ made → of by n front ≡ made → of by n more ≡ []
  none_after n xs front made more cut all part =
      no_rest (of by n front) (of by n more) (sym (filter-append (λ e. by e == n) front more) ∙ (ap (of by n) (sym cut) ∙ (all ∙ sym part)))

module _ {E : Type 0} (by : E → ℕ) (Kept : List E → Type 0) where
  abbrev K : Type 0
  K = Known E

  -- what a pass meets beyond what it had seen are entries of others
  pub meets : (k : K) (h : List E) → Shows by k h → Kept h → Meets by Kept k h
  meets k h shows kept = record {
    others = shows.seen.0;
    goes_on = shows.seen.1;
    apart = none_after by k.number h k.seen k.made shows.seen.0 shows.seen.1 shows.made shows.own;
    kept = kept;
    shows = shows;
  }

  module _ {T : Type 0} (told : T → List E) (k m l : K) (h : List E) (y : T) (same : m ≡ sees k h) where
    -- a turn in which the value got one entry
    pub enters : (e : E) (added : Bool) → added ≡ true → told y ≡ h ++ e ∷ [] → Kept (told y) → Added told by m y added l → Enters Kept k h e l
    enters e added is_true new kept gave =
        let a = subst (λ b. Added told by m y b l) is_true gave in
        let seen : m.seen ≡ h = ap (λ n. n.seen) same in
        let is : a.0 ≡ e = same_last h a.0 e (ap (λ xs. xs ++ a.0 ∷ []) (sym seen) ∙ (sym a.2 ∙ new)) in
        (a.3 ∙ (λ i. adds (same i) (is i)), subst Kept new kept)

    -- and one in which it got none
    pub leaves : (added : Bool) → added ≡ false → Added told by m y added l → Leaves k h l
    leaves added is_false gave = (subst (λ b. Added told by m y b l) is_false gave).1 ∙ same

  -- A call of the pass k, whose number is n, at its turn on h, which the value's method found as `old` and left as y.
  module _ {T : Type 0} (told : T → List E) (k m l : K) (h old : List E) (y : T) (n : ℕ) (own : n ≡ k.number) (from : old ≡ h) (same : m ≡ sees k h) (met : Meets by Kept k h) (kept : Kept (told y)) where
    -- it made this entry
    pub one : (f : ℕ → List E → E) (added : Bool) → added ≡ true → told y ≡ old ++ f n old ∷ [] → Added told by m y added l → Enters Kept k h (f k.number h) l
    one f added flag new gave = enters told k m l h y same (f k.number h) added flag (new ∙ (λ i. from i ++ f (own i) (from i) ∷ [])) kept gave

    pub sure_turn : (f : ℕ → List E → E) → told y ≡ old ++ f n old ∷ [] → Added told by m y true l → AtTurn by Kept k (λ x. Enters Kept k x (f k.number x) l)
    sure_turn f new gave = (h, met, one f true refl new gave)

    -- it made an entry where it answers Ok
    pub done_turn : {X F : Type 0} (r : Result X F) (f : ℕ → List E → E) (Q : F → Type 0) (added : Bool) → added ≡ is_ok r
        → MatchResult r (λ _. told y ≡ old ++ f n old ∷ []) (λ _. told y ≡ old) → IfErr r Q → Added told by m y added l
        → AtTurn by Kept k (λ x. MatchResult r (λ _. Enters Kept k x (f k.number x) l) (λ e. Q e × Leaves k x l))
    done_turn (Ok v) f Q added flag did refused gave = (h, met, one f added flag did gave)
    done_turn (Err e) f Q added flag did refused gave = (h, met, (refused, leaves told k m l h y same added flag gave))

    -- the same, with an answer that the history before the entry gives
    pub made_turn : {X F : Type 0} (r : Result X F) (f : X → ℕ → List E → E) (P : List E → X → Type 0) (Q : F → Type 0) (added : Bool) → added ≡ is_ok r
        → MatchResult r (λ v. P old v × (told y ≡ old ++ f v n old ∷ [])) (λ _. told y ≡ old) → IfErr r Q → Added told by m y added l
        → AtTurn by Kept k (λ x. MatchResult r (λ v. P x v × Enters Kept k x (f v k.number x) l) (λ e. Q e × Leaves k x l))
    made_turn (Ok v) f P Q added flag did refused gave = (h, met, (subst (λ xs. P xs v) from did.0, one (f v) added flag did.1 gave))
    made_turn (Err e) f P Q added flag did refused gave = (h, met, (refused, leaves told k m l h y same added flag gave))

    -- a call that hands something out where it answers Ok
    pub handed_turn : {X F : Type 0} (r : Result X F) (f : ℕ → List E → E) (P : List E → Type 0) (N : Type 0) (Q : F → Type 0) (added : Bool) → added ≡ is_ok r
        → MatchResult r (λ _. told y ≡ old ++ f n old ∷ []) (λ _. told y ≡ old) → MatchResult r (λ _. P old) (λ _. N) → IfErr r Q → Added told by m y added l
        → AtTurn by Kept k (λ x. MatchResult r (λ _. P x × Enters Kept k x (f k.number x) l) (λ e. Q e × N × Leaves k x l))
    handed_turn (Ok v) f P N Q added flag did gives refused gave = (h, met, (subst P from gives, one f added flag did gave))
    handed_turn (Err e) f P N Q added flag did gives refused gave = (h, met, (refused, gives, leaves told k m l h y same added flag gave))

    -- and where it answers true
    pub drained_turn : {F : Type 0} (r : Result Bool F) (f : ℕ → List E → E) (D U P : List E → Type 0) (N : Type 0) (Q : F → Type 0) (added : Bool) → added ≡ result_unwrap_or r false
        → IfOk r (λ all. MatchBool all (D old) (U old)) → MatchResult r (λ all. MatchBool all (told y ≡ old ++ f n old ∷ []) (told y ≡ old)) (λ _. told y ≡ old) → MatchResult r (λ all. MatchBool all (P old) N) (λ _. N) → IfErr r Q → Added told by m y added l
        → AtTurn by Kept k (λ x. MatchResult r (λ all. MatchBool all (D x × P x × Enters Kept k x (f k.number x) l) (U x × N × Leaves k x l)) (λ e. Q e × N × Leaves k x l))
    drained_turn (Ok true) f D U P N Q added flag all did gives refused gave = (h, met, (subst D from all, subst P from gives, one f added flag did gave))
    drained_turn (Ok false) f D U P N Q added flag all did gives refused gave = (h, met, (subst U from all, gives, leaves told k m l h y same added flag gave))
    drained_turn (Err e) f D U P N Q added flag all did gives refused gave = (h, met, (refused, gives, leaves told k m l h y same added flag gave))

    -- a call that makes an entry where it finds something
    pub found_turn : {X : Type 0} (r : Option X) (f : X → ℕ → List E → E) (N : List E → Type 0) (P : List E → X → Type 0) (R : List E → ℕ → X → Type 0) (added : Bool) → added ≡ is_some r
        → MatchOption r ((told y ≡ old) × N old) (λ v. (told y ≡ old ++ f v n old ∷ []) × P old v) → IfSome r (R (told y) n) → Added told by m y added l
        → AtTurn by Kept k (λ x. MatchOption r (N x × Leaves k x l) (λ v. P x v × Enters Kept k x (f v k.number x) l × R l.seen k.number v))
    found_turn None f N P R added flag did ready gave = (h, met, (subst N from did.1, leaves told k m l h y same added flag gave))
    found_turn (Some v) f N P R added flag did ready gave =
        let e = one (f v) added flag did.0 gave in
        let all : told y ≡ l.seen = did.0 ∙ ((λ i. from i ++ f v (own i) (from i) ∷ []) ∙ sym (ap (λ (z : K). z.seen) e.0)) in
        (h, met, (subst (λ xs. P xs v) from did.1, e, subst (λ xs. R xs k.number v) all (subst (λ j. R (told y) j v) own ready)))

  -- The second call of a turn, of the pass m that its first call left: it makes an entry where it finds something.
  pub found_next : {T X : Type 0} (told : T → List E) (m l : K) (old : List E) (y : T) (n : ℕ) → n ≡ m.number → old ≡ m.seen → Kept (told y)
      → (r : Option X) (f : X → ℕ → List E → E) (N : List E → Type 0) (P : List E → X → Type 0) (R : List E → ℕ → X → Type 0) (added : Bool) → added ≡ is_some r
      → MatchOption r ((told y ≡ old) × N old) (λ v. (told y ≡ old ++ f v n old ∷ []) × P old v) → IfSome r (R (told y) n) → Added told by m y added l
      → MatchOption r (N m.seen × (l ≡ m)) (λ v. P m.seen v × Enters Kept m m.seen (f v m.number m.seen) l × R l.seen m.number v)
  found_next told m l old y n own from kept None f N P R added flag did ready gave = (subst N from did.1, leaves told m m l m.seen y refl added flag gave)
  found_next told m l old y n own from kept (Some v) f N P R added flag did ready gave =
      let e = enters told m m l m.seen y refl (f v m.number m.seen) added flag (did.0 ∙ (λ i. from i ++ f v (own i) (from i) ∷ [])) kept gave in
      let all : told y ≡ l.seen = did.0 ∙ ((λ i. from i ++ f v (own i) (from i) ∷ []) ∙ sym (ap (λ (z : K). z.seen) e.0)) in
      (subst (λ xs. P xs v) from did.1, e, subst (λ xs. R xs m.number v) all (subst (λ j. R (told y) j v) own ready))

  -- ---- what a turn said of an answer that is known

  pub at_some : {X : Type 0} (k : K) (r : Option X) (v : X) (N : List E → Type 0) (P : List E → X → Type 0) → r ≡ Some v → AtTurn by Kept k (λ h. MatchOption r (N h) (P h)) → AtTurn by Kept k (λ h. P h v)
  at_some k r v N P is t = (t.0, t.1, subst (λ o. MatchOption o (N t.0) (P t.0)) is t.2)

  pub at_none : {X : Type 0} (k : K) (r : Option X) (N : List E → Type 0) (P : List E → X → Type 0) → r ≡ None → AtTurn by Kept k (λ h. MatchOption r (N h) (P h)) → AtTurn by Kept k N
  at_none k r N P is t = (t.0, t.1, subst (λ o. MatchOption o (N t.0) (P t.0)) is t.2)

  pub at_ok : {X F : Type 0} (k : K) (r : Result X F) (v : X) (P : List E → X → Type 0) (Q : List E → F → Type 0) → r ≡ Ok v → AtTurn by Kept k (λ h. MatchResult r (P h) (Q h)) → AtTurn by Kept k (λ h. P h v)
  at_ok k r v P Q is t = (t.0, t.1, subst (λ o. MatchResult o (P t.0) (Q t.0)) is t.2)

  pub at_err : {X F : Type 0} (k : K) (r : Result X F) (e : F) (P : List E → X → Type 0) (Q : List E → F → Type 0) → r ≡ Err e → AtTurn by Kept k (λ h. MatchResult r (P h) (Q h)) → AtTurn by Kept k (λ h. Q h e)
  at_err k r e P Q is t = (t.0, t.1, subst (λ o. MatchResult o (P t.0) (Q t.0)) is t.2)

  -- ---- how a pass goes on

  pub stays : (k : K) → GoesOn by Kept k k []
  stays k = record {
    number = refl;
    next = refl;
    ended = refl;
    between = [];
    seen = sym (append-nil k.seen);
    mine = refl;
    made = sym (append-nil k.made);
    kept = inl refl;
  }

  pub goes_left : (k l : K) → AtTurn by Kept k (λ h. Leaves k h l) → GoesOn by Kept k l []
  goes_left k l t = let m = t.1 in let same = t.2 in record {
    number = ap (λ n. n.number) same;
    next = ap (λ n. n.next) same;
    ended = ap (λ n. n.ended) same;
    between = m.others;
    seen = ap (λ n. n.seen) same ∙ m.goes_on;
    mine = m.apart;
    made = ap (λ n. n.made) same ∙ sym (append-nil k.made);
    kept = inr (subst Kept (sym (ap (λ n. n.seen) same)) m.kept);
  }

  -- the entry that the turn made
  pub goes_entered : (k l : K) (f : List E → E) → (t : AtTurn by Kept k (λ h. Enters Kept k h (f h) l)) → by (f t.0) ≡ k.number → GoesOn by Kept k l (f t.0 ∷ [])
  goes_entered k l f t own = let m = t.1 in let e = f t.0 in let same = t.2.0 in record {
    number = ap (λ n. n.number) same;
    next = ap (λ n. n.next) same;
    ended = ap (λ n. n.ended) same;
    between = m.others ++ e ∷ [];
    seen = ap (λ n. n.seen) same ∙ (ap (λ xs. xs ++ e ∷ []) m.goes_on ∙ append_assoc k.seen m.others (e ∷ []));
    mine = of_own by k.number m.others e own ∙ ap (λ xs. xs ++ e ∷ []) m.apart;
    made = ap (λ n. n.made) same;
    kept = inr (subst Kept (sym (ap (λ n. n.seen) same)) t.2.1);
  }

  -- and a second one at the same turn
  pub goes_added : (m l : K) (e : E) → Enters Kept m m.seen e l → by e ≡ m.number → GoesOn by Kept m l (e ∷ [])
  goes_added m l e entered own = let same = entered.0 in record {
    number = ap (λ n. n.number) same;
    next = ap (λ n. n.next) same;
    ended = ap (λ n. n.ended) same;
    between = e ∷ [];
    seen = ap (λ n. n.seen) same;
    mine = of_own by m.number [] e own;
    made = ap (λ n. n.made) same;
    kept = inr (subst Kept (sym (ap (λ n. n.seen) same)) entered.1);
  }

  kept_later : (xs ys zs : List E) → (ys ≡ xs) ⊎ Kept ys → (zs ≡ ys) ⊎ Kept zs → (zs ≡ xs) ⊎ Kept zs
  kept_later xs ys zs a (inr kept) = inr kept
  kept_later xs ys zs (inl same) (inl still) = inl (still ∙ same)
  kept_later xs ys zs (inr kept) (inl still) = inr (subst Kept (sym still) kept)

  pub goes_then : (k l m : K) (xs ys : List E) → GoesOn by Kept k l xs → GoesOn by Kept l m ys → GoesOn by Kept k m (xs ++ ys)
  goes_then k l m xs ys a b = record {
    number = b.number ∙ a.number;
    next = b.next ∙ a.next;
    ended = b.ended ∙ a.ended;
    between = a.between ++ b.between;
    seen = b.seen ∙ (ap (λ s. s ++ b.between) a.seen ∙ append_assoc k.seen a.between b.between);
    mine = filter-append (λ e. by e == k.number) a.between b.between ∙ (λ i. a.mine i ++ (ap (λ n. of by n b.between) (sym a.number) ∙ b.mine) i);
    made = b.made ∙ (ap (λ s. s ++ ys) a.made ∙ append_assoc k.made xs ys);
    kept = kept_later k.seen l.seen m.seen a.kept b.kept;
  }

  -- what a pass has seen that it knows to be kept stays so
  pub still_kept : (k l : K) (xs : List E) → GoesOn by Kept k l xs → Kept k.seen → Kept l.seen
  still_kept k l xs a kept = cases a.kept
    where
      cases : (l.seen ≡ k.seen) ⊎ Kept l.seen → Kept l.seen
      cases (inl same) = subst Kept (sym same) kept
      cases (inr later) = later

  -- ---- a pass that has seen each entry that it made

  pub own_left : (k l : K) → AtTurn by Kept k (λ h. Leaves k h l) → IsOwn by l
  own_left k l t = (λ i. of by ((ap (λ n. n.number) t.2) i) ((ap (λ n. n.seen) t.2) i)) ∙ (t.1.shows.made ∙ sym (ap (λ n. n.made) t.2))

  pub own_goes : (k l : K) (xs : List E) → IsOwn by k → GoesOn by Kept k l xs → IsOwn by l
  own_goes k l xs own a =
      (λ i. of by (a.number i) (a.seen i)) ∙ (filter-append (λ e. by e == k.number) k.seen a.between ∙ ((λ i. own i ++ a.mine i) ∙ sym a.made))

  pub own_entered : (k l : K) (f : List E → E) → (t : AtTurn by Kept k (λ h. Enters Kept k h (f h) l)) → by (f t.0) ≡ k.number → IsOwn by l
  own_entered k l f t own = own_goes k l (f t.0 ∷ []) t.1.shows.own (goes_entered k l f t own)
