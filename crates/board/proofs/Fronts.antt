-- The front of a pipeline, and the completions up to it.
use Rattle.std.proofs.Common.{◌≡◌, ℕ, zero, suc, ◌+◌, ◌<◌, ◌≤◌, Bool, true, false, cond, ◌||◌, List, [], ◌∷◌, ◌++◌, length, refl, sym, ◌∙◌, ap, subst, arith, append-nil, append_assoc, add-zero, zero-add, length-append, inl, inr, ◌⊎◌}
use Rattle.std.specs.List.{filter_map}
use Rattle.std.proofs.lemmas.Bool.{cases_lt, both_ways}
use Rattle.std.proofs.lemmas.List.Folds.{list_any-append}
use Rattle.std.proofs.lemmas.List.Elements.{filter_map-append}
use Rattle.board.specs.declared.entry.BoardEntry.{BoardEntry}
use Rattle.board.specs.Entries.{Completes, accepted_in, submissions, finished_in, finished, has, unbroken, front, completes_from}
use Rattle.board.specs.Order.{completed, numbers_below, started, FrontIsFinished, FrontIsGreatest}
use Rattle.board.proofs.Lists.{has_below, has_only_below}

grow_step : (b c : Bool) (x y : ℕ) → x ≤ y → cond b (suc x) 0 ≤ cond (b || c) (suc y) 0
grow_step true c x y h = omega arith
grow_step false c x y h = omega arith

-- the front only moves on
pub unbroken_grows : (ns ms : List ℕ) (n many much : ℕ) → many ≤ much → unbroken ns n many ≤ unbroken (ns ++ ms) n much
unbroken_grows ns ms n zero much h = omega arith
unbroken_grows ns ms n (suc many) zero h = absurd (omega arith)
unbroken_grows ns ms n (suc many) (suc much) h =
    let ih = unbroken_grows ns ms (suc n) many much (omega arith) in
    let s = grow_step (has n ns) (has n ms) _ _ ih in
    let e : has n (ns ++ ms) ≡ (has n ns || has n ms) = list_any-append _ ns ms in
    subst (λ b. cond (has n ns) (suc (unbroken ns (suc n) many)) 0 ≤ cond b (suc (unbroken (ns ++ ms) (suc n) much)) 0) (sym e) s

pub front_grows : {A : Type 0} (es : List (BoardEntry A)) (e : BoardEntry A) → front es ≤ front (es ++ e ∷ [])
front_grows es e =
    let f = filter_map-append finished_in es (e ∷ []) in
    let s = filter_map-append accepted_in es (e ∷ []) in
    let l : length (submissions es) ≤ length (submissions (es ++ e ∷ [])) = rw s (omega (arith, length-append (submissions es) (filter_map accepted_in (e ∷ [])))) in
    subst (λ ns. front es ≤ unbroken ns 0 (length (submissions (es ++ e ∷ [])))) (sym f) (unbroken_grows (finished es) (filter_map finished_in (e ∷ [])) 0 _ _ l)

le_step : (b : Bool) (x y : ℕ) → x ≤ y → cond b (suc x) 0 ≤ suc y
le_step true x y h = omega arith
le_step false x y h = omega arith

pub unbroken-le : (ns : List ℕ) (n many : ℕ) → unbroken ns n many ≤ many
unbroken-le ns n zero = omega arith
unbroken-le ns n (suc many) = le_step (has n ns) (unbroken ns (suc n) many) many (unbroken-le ns (suc n) many)

have_step : (ns : List ℕ) (n x i : ℕ) (b : Bool) → has n ns ≡ b → i < cond b (suc x) 0 → ((j : ℕ) → j < x → has (suc n + j) ns ≡ true) → has (n + i) ns ≡ true
have_step ns n x zero true h l ih = rw (add-zero n) h
have_step ns n x (suc i) true h l ih = (let q : suc n + i ≡ n + suc i = omega arith in subst (λ m. has m ns ≡ true) q (ih i (omega arith)))
have_step ns n x i false h l ih = absurd (omega arith)

-- each number before the first that is missing is there
pub unbroken_have : (ns : List ℕ) (n many i : ℕ) → i < unbroken ns n many → has (n + i) ns ≡ true
unbroken_have ns n zero i l = absurd (omega arith)
unbroken_have ns n (suc many) i l = have_step ns n (unbroken ns (suc n) many) i (has n ns) refl l (λ j m. unbroken_have ns (suc n) many j m)

stop_step : (ns : List ℕ) (n x many : ℕ) (b : Bool) → has n ns ≡ b → cond b (suc x) 0 < suc many → (x < many → has (suc n + x) ns ≡ false) → has (n + cond b (suc x) 0) ns ≡ false
stop_step ns n x many true h l ih = (let q : suc n + x ≡ n + suc x = omega arith in subst (λ m. has m ns ≡ false) q (ih (omega arith)))
stop_step ns n x many false h l ih = rw (add-zero n) h

-- and that one isn't
pub unbroken_stop : (ns : List ℕ) (n many : ℕ) → unbroken ns n many < many → has (n + unbroken ns n many) ns ≡ false
unbroken_stop ns n zero l = absurd (omega arith)
unbroken_stop ns n (suc many) l = stop_step ns n (unbroken ns (suc n) many) many (has n ns) refl l (unbroken_stop ns (suc n) many)

pub front_is_finished : {A : Type 0} (es : List (BoardEntry A)) (n : ℕ) → FrontIsFinished es n
front_is_finished es n l = subst (λ m. has m (finished es) ≡ true) (zero-add n) (unbroken_have (finished es) 0 (length (submissions es)) n l)

pub front_is_greatest : {A : Type 0} (es : List (BoardEntry A)) → FrontIsGreatest es
front_is_greatest es l = subst (λ m. has m (finished es) ≡ false) (zero-add (front es)) (unbroken_stop (finished es) 0 (length (submissions es)) l)

next_step : (ns : List ℕ) (n x y : ℕ) (b : Bool) → x ≡ y → cond b (suc x) 0 ≡ cond b (suc y) 0
next_step ns n x y b e = ap (λ z. cond b (suc z) 0) e

alone_step : (ns : List ℕ) (n : ℕ) (b : Bool) → b ≡ false → cond b (suc (unbroken ns (suc n) 0)) 0 ≡ 0
alone_step ns n true h = cc
alone_step ns n false h = refl

-- one more number to be looked for changes nothing where it isn't there
pub unbroken_next : (ns : List ℕ) (n many : ℕ) → has (n + many) ns ≡ false → unbroken ns n (suc many) ≡ unbroken ns n many
unbroken_next ns n zero h = alone_step ns n (has n ns) (subst (λ m. has m ns ≡ false) (add-zero n) h)
unbroken_next ns n (suc many) h =
    let q : n + suc many ≡ suc n + many = omega arith in
    next_step ns n (unbroken ns (suc n) (suc many)) (unbroken ns (suc n) many) (has n ns) (unbroken_next ns (suc n) many (subst (λ m. has m ns ≡ false) q h))

exact : (f m k : ℕ) → f ≤ m → k ≤ m → ((i : ℕ) → i < k → has (0 + i) (numbers_below f) ≡ true) → (k < m → has (0 + k) (numbers_below f) ≡ false) → (k < f) ⊎ (f ≤ k) → (f < k) ⊎ (k ≤ f) → k ≡ f
exact f m k l le have stop (inl a) b = absurd (both_ways (has k (numbers_below f)) (subst (λ z. has z (numbers_below f) ≡ false) (zero-add k) (stop (omega arith))) (has_below f k a))
exact f m k l le have stop (inr a) (inl b) = (let q = has_only_below f f (subst (λ z. has z (numbers_below f) ≡ true) (zero-add f) (have f b)) in absurd (omega arith))
exact f m k l le have stop (inr a) (inr b) = omega arith

-- where the numbers below f are there, the first that is missing is f
pub unbroken_numbers : (f m : ℕ) → f ≤ m → unbroken (numbers_below f) 0 m ≡ f
unbroken_numbers f m l =
    exact f m (unbroken (numbers_below f) 0 m) l (unbroken-le (numbers_below f) 0 m) (λ i h. unbroken_have (numbers_below f) 0 m i h) (unbroken_stop (numbers_below f) 0 m) (cases_lt (unbroken (numbers_below f) 0 m) f) (cases_lt f (unbroken (numbers_below f) 0 m))

-- where all of so many numbers are there, so many come before the first that is not
pub unbroken-all : (ns : List ℕ) (n many : ℕ) → ((i : ℕ) → i < many → has (n + i) ns ≡ true) → unbroken ns n many ≡ many
unbroken-all ns n zero all = refl
unbroken-all ns n (suc many) all =
    let h : has n ns ≡ true = subst (λ m. has m ns ≡ true) (add-zero n) (all 0 (omega arith)) in
    let ih = unbroken-all ns (suc n) many (λ i l. (let q : n + suc i ≡ suc n + i = omega arith in subst (λ m. has m ns ≡ true) q (all (suc i) (omega arith)))) in
    ap (λ b. cond b (suc (unbroken ns (suc n) many)) 0) h ∙ ap suc ih

-- the completions from n on follow on those below n
pub completed_on : (n many : ℕ) → numbers_below n ++ completed (completes_from n many) ≡ numbers_below (n + many)
completed_on n zero = append-nil (numbers_below n) ∙ ap numbers_below (sym (add-zero n))
completed_on n (suc many) =
    let q : suc n + many ≡ n + suc many = omega arith in
    sym (append_assoc (numbers_below n) (n ∷ []) (completed (completes_from (suc n) many))) ∙ (completed_on (suc n) many ∙ ap numbers_below q)

pub completes_on : (a n many : ℕ) → completes_from a n ++ completes_from (a + n) many ≡ completes_from a (n + many)
completes_on a zero many = ap (λ m. completes_from m many) (add-zero a) ∙ ap (λ m. completes_from a m) (sym (zero-add many))
completes_on a (suc n) many =
    let q : a + suc n ≡ suc a + n = omega arith in
    let s : suc (n + many) ≡ suc n + many = omega arith in
    ap (λ ns. Completes a ∷ ns) (ap (λ m. completes_from (suc a) n ++ completes_from m many) q ∙ completes_on (suc a) n many) ∙ ap (λ m. completes_from a m) s

pub none_started : (n many : ℕ) → started (completes_from n many) ≡ []
none_started n zero = refl
none_started n (suc many) = none_started (suc n) many
