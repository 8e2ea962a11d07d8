-- What one more entry does to larvals, to what is being built and to the looks for it.
use Rattle.std.proofs.Common.{◌≡◌, ◌≢◌, ℕ, zero, suc, ◌+◌, ◌<◌, ◌≤◌, Bool, true, false, not, cond, eqb, if◌then◌else◌, List, [], ◌∷◌, ◌++◌, length, refl, ap, sym, ◌∙◌, subst, arith, Option, Some, None, append_assoc, length-append}
use Rattle.std.specs.Prelude.{slice_get, filter}
use Rattle.std.specs.List.{cons_option, AllByRecursion}
use Rattle.std.specs.Option.{option_or, option_and_then, option_map, option_map_or}
use Rattle.std.proofs.lemmas.List.{append-nil}
use Rattle.std.proofs.lemmas.List.Sums.{fold_push}
use Rattle.std.proofs.lemmas.List.Elements.{filter_map-append}
use Rattle.std.proofs.lemmas.Bool.Decides.{nat_tests}
use Rattle.alg_registry.specs.declared.row.Larval.{Larval}
use Rattle.alg_registry.specs.declared.entry.Ended.{Ended}
use Rattle.alg_registry.specs.declared.entry.Looked.{Looked}
use Rattle.alg_registry.specs.declared.entry.RegEntry.{RegEntry}
use Rattle.alg_registry.specs.declared.entry.RegEntry.TheVariants.{Enlist, Look, Claim, End, Waited, Unlist, Get, Put, Refs}
use Rattle.alg_registry.specs.declared.entry.RegEntry.TheVariants as entry
use Rattle.alg_registry.specs.Rows.{begun_by, texts, first_of, ends, claims, larval_at, larvals_from, larvals_of}
use Rattle.alg_registry.specs.Legal.{ended_as, claimer, LegalReg, MayFollow, IsRight}
use Rattle.alg_registry.specs.Made.{building, building_after, last_of, looks_for, look_for, if_of}
use Rattle.alg_registry.proofs.Steps.{first_of-push}
use Rattle.alg_registry.proofs.Fresh.{fresh-from_legal, length-larvals_of}

pub texts-push : (h : List RegEntry) (e : RegEntry) → texts (h ++ e ∷ []) ≡ texts h ++ cons_option (begun_by e) []
texts-push h e = filter_map-append begun_by h (e ∷ [])

pub length-texts : (h : List RegEntry) (e : RegEntry) → length (texts (h ++ e ∷ [])) ≡ length (texts h) + length (cons_option (begun_by e) [])
length-texts h e = ap length (texts-push h e) ∙ length-append (texts h) (cons_option (begun_by e) [])

pub building-push : (h : List RegEntry) (e : RegEntry) (caller : ℕ) → building (h ++ e ∷ []) caller ≡ building_after caller (building h caller) e
building-push h e caller = fold_push (building_after caller) [] h e

looks_push : (n : ℕ) (before h : List RegEntry) (e : RegEntry) → looks_for n before (h ++ e ∷ []) ≡ looks_for n before h ++ cons_option (if_of n (look_for (before ++ h) e)) []
looks_push n before [] e = ap (λ b. cons_option (if_of n (look_for b e)) []) (sym (append-nil before))
looks_push n before (x ∷ h) e = put (if_of n (look_for before x)) (looks_for n (before ++ x ∷ []) (h ++ e ∷ [])) (looks_for n (before ++ x ∷ []) h) (cons_option (if_of n (look_for (before ++ x ∷ h) e)) []) (looks_push n (before ++ x ∷ []) h e ∙ ap (λ b. looks_for n (before ++ x ∷ []) h ++ cons_option (if_of n (look_for b e)) []) (append_assoc before (x ∷ []) h))
  where
    put : (o : Option Looked) → (a b c : List Looked) → a ≡ b ++ c → cons_option o a ≡ cons_option o b ++ c
    put None a b c e = e
    put (Some l) a b c e = ap (λ ls. l ∷ ls) e

pub looks-push : (n : ℕ) (h : List RegEntry) (e : RegEntry) → looks_for n [] (h ++ e ∷ []) ≡ looks_for n [] h ++ cons_option (if_of n (look_for h e)) []
looks-push n h e = looks_push n [] h e

pub larval_get : (h : List RegEntry) (first n m : ℕ) (ts : List (List ℕ)) → first + n ≡ m → slice_get (larvals_from h first ts) n ≡ option_map (λ text. larval_at h m text) (slice_get ts n)
larval_get h first n m [] e = refl
larval_get h first zero m (t ∷ ts) e = let f : first ≡ m = omega (arith, e) in ap (λ k. Some (larval_at h k t)) f
larval_get h first (suc n) m (t ∷ ts) e = larval_get h (first + 1) n m ts (omega (arith, e))

pub ended-by : (h : List RegEntry) (n : ℕ) → ended_as h n ≡ option_and_then (λ _. first_of (ends n) h) (slice_get (texts h) n)
ended-by h n = ap (λ o. option_and_then (λ (larval : Larval). larval.ended) o) (larval_get h 0 n n (texts h) (omega arith)) ∙ there (slice_get (texts h) n)
  where
    there : (o : Option (List ℕ)) → option_and_then (λ (larval : Larval). larval.ended) (option_map (λ text. larval_at h n text) o) ≡ option_and_then (λ _. first_of (ends n) h) o
    there None = refl
    there (Some text) = refl

pub claimed-by : (h : List RegEntry) (n : ℕ) → claimer h n ≡ option_and_then (λ _. first_of (claims n) h) (slice_get (texts h) n)
claimed-by h n = ap (λ o. option_and_then (λ (larval : Larval). larval.claimed) o) (larval_get h 0 n n (texts h) (omega arith)) ∙ there (slice_get (texts h) n)
  where
    there : (o : Option (List ℕ)) → option_and_then (λ (larval : Larval). larval.claimed) (option_map (λ text. larval_at h n text) o) ≡ option_and_then (λ _. first_of (claims n) h) o
    there None = refl
    there (Some text) = refl

at_within : {B : Type 0} (b : Option B) (ts : List (List ℕ)) (n : ℕ) → n < length ts → option_and_then (λ _. b) (slice_get ts n) ≡ b
at_within b [] n lt = absurd (omega (arith, lt))
at_within b (t ∷ ts) zero lt = refl
at_within b (t ∷ ts) (suc n) lt = at_within b ts n (omega (arith, lt))

pub ended-within : (h : List RegEntry) (n : ℕ) → n < length (texts h) → ended_as h n ≡ first_of (ends n) h
ended-within h n lt = ended-by h n ∙ at_within (first_of (ends n) h) (texts h) n lt

pub claimed-within : (h : List RegEntry) (n : ℕ) → n < length (texts h) → claimer h n ≡ first_of (claims n) h
claimed-within h n lt = claimed-by h n ∙ at_within (first_of (claims n) h) (texts h) n lt

more_texts : (h : List RegEntry) (e : RegEntry) (n : ℕ) → n < length (texts h) → n < length (texts (h ++ e ∷ []))
more_texts h e n lt = omega (arith, length-texts h e)

pub ended-push : (h : List RegEntry) (e : RegEntry) (n : ℕ) → n < length (texts h) → ended_as (h ++ e ∷ []) n ≡ option_or (ended_as h n) (ends n e)
ended-push h e n lt =
    ended-within (h ++ e ∷ []) n (more_texts h e n lt) ∙ (first_of-push (ends n) h e ∙ ap (λ o. option_or o (ends n e)) (sym (ended-within h n lt)))

pub claimed-push : (h : List RegEntry) (e : RegEntry) (n : ℕ) → n < length (texts h) → claimer (h ++ e ∷ []) n ≡ option_or (claimer h n) (claims n e)
claimed-push h e n lt =
    claimed-within (h ++ e ∷ []) n (more_texts h e n lt) ∙ (first_of-push (claims n) h e ∙ ap (λ o. option_or o (claims n e)) (sym (claimed-within h n lt)))

-- a larval that has just begun
pub ended-new : (h : List RegEntry) (e : RegEntry) (n : ℕ) → LegalReg h → length (texts h) ≤ n → n < length (texts (h ++ e ∷ [])) → ends n e ≡ None → ended_as (h ++ e ∷ []) n ≡ None
ended-new h e n legal le lt none =
    ended-within (h ++ e ∷ []) n lt ∙ (first_of-push (ends n) h e ∙ (ap (λ o. option_or o (ends n e)) ((fresh-from_legal h legal).ends_none n le) ∙ none))

pub claimed-new : (h : List RegEntry) (e : RegEntry) (n : ℕ) → LegalReg h → length (texts h) ≤ n → n < length (texts (h ++ e ∷ [])) → claims n e ≡ None → claimer (h ++ e ∷ []) n ≡ None
claimed-new h e n legal le lt none =
    claimed-within (h ++ e ∷ []) n lt ∙ (first_of-push (claims n) h e ∙ (ap (λ o. option_or o (claims n e)) ((fresh-from_legal h legal).claims_none n le) ∙ none))

-- induction over a legal history, by its last entry
pub legal_along : (P : List RegEntry → Type 0) → ((h : List RegEntry) (e : RegEntry) → P h → IsRight h e → P (h ++ e ∷ [])) → (before h : List RegEntry) → P before → MayFollow before h → P (before ++ h)
legal_along P step before [] p legal = subst P (sym (append-nil before)) p
legal_along P step before (e ∷ h) p legal = subst P (append_assoc before (e ∷ []) h) (legal_along P step (before ++ e ∷ []) h (step before e p legal.0) legal.1)

abbrev pub Below : ℕ → List ℕ → Type 0
Below k ns = AllByRecursion (λ n. n < k) ns

below_more : (k l : ℕ) (ns : List ℕ) → k ≤ l → Below k ns → Below l ns
below_more k l [] le all = tt
below_more k l (n ∷ ns) le all = (omega (arith, all.0), below_more k l ns le all.1)

below_snoc : (k m : ℕ) (ns : List ℕ) → Below k ns → m < k → Below k (ns ++ m ∷ [])
below_snoc k m [] all lt = (lt, tt)
below_snoc k m (n ∷ ns) all lt = (all.0, below_snoc k m ns all.1 lt)

below_if : (b : Bool) (k : ℕ) (xs ys : List ℕ) → Below k xs → Below k ys → Below k (if b then xs else ys)
below_if true k xs ys p q = p
below_if false k xs ys p q = q

below_filter : (k : ℕ) (p : ℕ → Bool) (ns : List ℕ) → Below k ns → Below k (filter p ns)
below_filter k p [] all = tt
below_filter k p (n ∷ ns) all = below_if (p n) k (n ∷ filter p ns) (filter p ns) (all.0, below_filter k p ns all.1) (below_filter k p ns all.1)

pending_there : (xs : List Larval) (n : ℕ) (p : Larval → Bool) → option_map_or p (slice_get xs n) false ≡ true → n < length xs
pending_there [] n p h = absurd cc
pending_there (x ∷ xs) zero p h = omega arith
pending_there (x ∷ xs) (suc n) p h = let r : n < length xs = pending_there xs n p h in omega arith

abbrev StackBelow : List RegEntry → Type 0
StackBelow h = (caller : ℕ) → Below (length (texts h)) (building h caller)

stack_step : (h : List RegEntry) (e : RegEntry) → StackBelow h → IsRight h e → StackBelow (h ++ e ∷ [])
stack_step h e all right caller =
    let le : length (texts h) ≤ length (texts (h ++ e ∷ [])) = omega (arith, length-texts h e) in
    subst (λ ns. Below (length (texts (h ++ e ∷ []))) ns) (sym (building-push h e caller))
    (below_more (length (texts h)) (length (texts (h ++ e ∷ []))) (building_after caller (building h caller) e) le (by_entry e right))
  where
    by_entry : (x : RegEntry) → IsRight h x → Below (length (texts h)) (building_after caller (building h caller) x)
    by_entry (Claim by larval) r =
        let lt : larval < length (larvals_of h) = pending_there (larvals_of h) larval _ r.0 in
        below_if (eqb by caller) (length (texts h)) (building h caller ++ larval ∷ []) (building h caller) (below_snoc (length (texts h)) larval (building h caller) (all caller) (omega (arith, lt, length-larvals_of h))) (all caller)
    by_entry (End by larval answer) r = below_if (eqb by caller) (length (texts h)) (filter (λ m. not (eqb m larval)) (building h caller)) (building h caller) (below_filter (length (texts h)) (λ m. not (eqb m larval)) (building h caller) (all caller)) (all caller)
    by_entry (Enlist by spec answer) r = all caller
    by_entry (Look by text plain answer) r = all caller
    by_entry (Waited by larval) r = all caller
    by_entry (Unlist by driver answer) r = all caller
    by_entry (Get by id ok) r = all caller
    by_entry (Put by id) r = all caller
    by_entry (Refs by driver) r = all caller
    by_entry (entry.List by) r = all caller

-- what is being built has begun
pub stack_below : (h : List RegEntry) → LegalReg h → (caller : ℕ) → Below (length (texts h)) (building h caller)
stack_below h legal = legal_along StackBelow stack_step [] h (λ caller. tt) legal

pub last_below : (k m : ℕ) (ns : List ℕ) → Below k ns → last_of ns ≡ Some m → m < k
last_below k m [] all e = absurd cc
last_below k m (n ∷ []) all e = let f : n ≡ m = cc in omega (arith, all.0)
last_below k m (n ∷ o ∷ ns) all e = last_below k m (o ∷ ns) all.1 e

pub last-snoc : (ns : List ℕ) (m : ℕ) → last_of (ns ++ m ∷ []) ≡ Some m
last-snoc [] m = refl
last-snoc (n ∷ []) m = refl
last-snoc (n ∷ o ∷ ns) m = last-snoc (o ∷ ns) m

pub unequal : (a b : ℕ) → a ≢ b → eqb a b ≡ false
unequal a b ne = grind (arith, nat_tests)

pub same : (a : ℕ) → eqb a a ≡ true
same a = grind (arith, nat_tests)

pub filter-snoc : (ns : List ℕ) (m : ℕ) → Below m ns → filter (λ n. not (eqb n m)) (ns ++ m ∷ []) ≡ ns
filter-snoc [] m all = ap (λ b. cond (not b) (m ∷ []) []) (same m)
filter-snoc (n ∷ ns) m all =
    ap (λ b. cond (not b) (n ∷ filter (λ x. not (eqb x m)) (ns ++ m ∷ [])) (filter (λ x. not (eqb x m)) (ns ++ m ∷ []))) (unequal n m (λ e. absurd (omega (arith, all.0, e))))
    ∙ ap (λ xs. n ∷ xs) (filter-snoc ns m all.1)

-- a look belongs to no larval that hasn't begun
abbrev StackAndLooks : List RegEntry → Type 0
StackAndLooks h = StackBelow h × ((n : ℕ) → length (texts h) ≤ n → looks_for n [] h ≡ [])

pub belongs_not : (n : ℕ) (o : Option ℕ) (answer : Looked) → ((m : ℕ) → o ≡ Some m → m < n) → if_of n (option_and_then (λ larval. Some (larval, answer)) o) ≡ None
belongs_not n None answer lt = refl
belongs_not n (Some m) answer lt = ap (λ b. if b then Some answer else None) (unequal m n (λ e. absurd (omega (arith, lt m refl, e))))

looks_step : (h : List RegEntry) (e : RegEntry) → StackAndLooks h → IsRight h e → StackAndLooks (h ++ e ∷ [])
looks_step h e p right = (
  stack_step h e p.0 right,
  λ n le.
      let le' : length (texts h) ≤ n = omega (arith, length-texts h e) in
      looks-push n h e ∙ (ap (λ ls. ls ++ cons_option (if_of n (look_for h e)) []) (p.1 n le') ∙ ap (λ o. cons_option o []) (by_entry n le' e)),
)
  where
    by_entry : (n : ℕ) → length (texts h) ≤ n → (x : RegEntry) → if_of n (look_for h x) ≡ None
    by_entry n le (Look by text true answer) = belongs_not n (last_of (building h by)) answer (λ m e. let lt : m < length (texts h) = last_below (length (texts h)) m (building h by) (p.0 by) e in omega (arith, lt, le))
    by_entry n le (Look by text false answer) = refl
    by_entry n le (Claim by larval) = refl
    by_entry n le (End by larval answer) = refl
    by_entry n le (Enlist by spec answer) = refl
    by_entry n le (Waited by larval) = refl
    by_entry n le (Unlist by driver answer) = refl
    by_entry n le (Get by id ok) = refl
    by_entry n le (Put by id) = refl
    by_entry n le (Refs by driver) = refl
    by_entry n le (entry.List by) = refl

pub looks-fresh : (h : List RegEntry) (n : ℕ) → LegalReg h → length (texts h) ≤ n → looks_for n [] h ≡ []
looks-fresh h n legal le = (legal_along StackAndLooks looks_step [] h ((λ caller. tt), (λ m l. refl)) legal).1 n le

some_there : {B : Type 0} (o : Option (List ℕ)) (b : Option B) (x : B) → option_and_then (λ _. b) o ≡ Some x → (t : List ℕ) × (o ≡ Some t)
some_there None b x e = absurd cc
some_there (Some t) b x e = (t, refl)

there_within : (ts : List (List ℕ)) (n : ℕ) (t : List ℕ) → slice_get ts n ≡ Some t → n < length ts
there_within [] n t e = absurd cc
there_within (u ∷ ts) zero t e = omega arith
there_within (u ∷ ts) (suc n) t e = let r : n < length ts = there_within ts n t e in omega (arith, r)

pub ended-there : (h : List RegEntry) (n : ℕ) (e : Ended) → ended_as h n ≡ Some e → n < length (texts h)
ended-there h n e q = let r = some_there (slice_get (texts h) n) (first_of (ends n) h) e (sym (ended-by h n) ∙ q) in there_within (texts h) n r.0 r.1

pub claimed-there : (h : List RegEntry) (n caller : ℕ) → claimer h n ≡ Some caller → n < length (texts h)
claimed-there h n caller q = let r = some_there (slice_get (texts h) n) (first_of (claims n) h) caller (sym (claimed-by h n) ∙ q) in there_within (texts h) n r.0 r.1

pub ended-stays : (h : List RegEntry) (x : RegEntry) (n : ℕ) (e : Ended) → ended_as h n ≡ Some e → ended_as (h ++ x ∷ []) n ≡ Some e
ended-stays h x n e q = ended-push h x n (ended-there h n e q) ∙ ap (λ o. option_or o (ends n x)) q

pub claimed-stays : (h : List RegEntry) (x : RegEntry) (n caller : ℕ) → claimer h n ≡ Some caller → claimer (h ++ x ∷ []) n ≡ Some caller
claimed-stays h x n caller q = claimed-push h x n (claimed-there h n caller q) ∙ ap (λ o. option_or o (claims n x)) q
