-- What a caller is building hasn't ended.
use Rattle.std.proofs.Common.{◌≡◌, ◌≢◌, ℕ, zero, suc, ◌<◌, Bool, true, false, not, cond, eqb, List, [], ◌∷◌, ◌++◌, length, refl, ap, sym, ◌∙◌, subst, arith, Option, Some, None}
use Rattle.std.specs.Prelude.{slice_get, filter, is_none}
use Rattle.std.specs.List.{AllByRecursion}
use Rattle.std.specs.Option.{option_or, option_and_then, option_map_or}
use Rattle.std.proofs.lemmas.Bool.Decides.{nat_tests}
use Rattle.alg_registry.specs.declared.row.Larval.{Larval}
use Rattle.alg_registry.specs.declared.entry.RegEntry.{RegEntry}
use Rattle.alg_registry.specs.declared.entry.RegEntry.TheVariants.{Enlist, Look, Claim, End, Waited, Unlist, Get, Put, Refs}
use Rattle.alg_registry.specs.declared.entry.RegEntry.TheVariants as entry
use Rattle.alg_registry.specs.Rows.{texts, ends, claims, end_of, larvals_of}
use Rattle.alg_registry.specs.Legal.{ended_as, claimer, LegalReg, IsRight, IsPending}
use Rattle.alg_registry.specs.Made.{building, building_after, last_of}
use Rattle.alg_registry.proofs.Fresh.{length-larvals_of}
use Rattle.alg_registry.proofs.Stack.{legal_along, building-push, ended-push, claimed-push, claimed-stays, claimed-there, same, unequal}

-- the caller claimed it, and hasn't ended it
pub record IsBuilt (h : List RegEntry) (caller m : ℕ) : Type 0 where
  pub claimed : claimer h m ≡ Some caller
  pub unended : ended_as h m ≡ None

abbrev AreBuilt : List RegEntry → Type 0
AreBuilt h = (caller : ℕ) → AllByRecursion (λ m. IsBuilt h caller m) (building h caller)

stays : (h : List RegEntry) (e : RegEntry) (caller m : ℕ) → IsBuilt h caller m → ends m e ≡ None → IsBuilt (h ++ e ∷ []) caller m
stays h e caller m b none = record {
  claimed = claimed-stays h e m caller b.claimed;
  unended = ended-push h e m (claimed-there h m caller b.claimed) ∙ (ap (λ o. option_or o (ends m e)) b.unended ∙ none);
}

all_map : (P Q : ℕ → Type 0) → ((m : ℕ) → P m → Q m) → (ns : List ℕ) → AllByRecursion P ns → AllByRecursion Q ns
all_map P Q f [] all = tt
all_map P Q f (n ∷ ns) all = (f n all.0, all_map P Q f ns all.1)

all_snoc : (P : ℕ → Type 0) (ns : List ℕ) (m : ℕ) → AllByRecursion P ns → P m → AllByRecursion P (ns ++ m ∷ [])
all_snoc P [] m all p = (p, tt)
all_snoc P (n ∷ ns) m all p = (all.0, all_snoc P ns m all.1 p)

all_filter : (P Q : ℕ → Type 0) (p : ℕ → Bool) → ((m : ℕ) → P m → p m ≡ true → Q m) → (ns : List ℕ) → AllByRecursion P ns → AllByRecursion Q (filter p ns)
all_filter P Q p f [] all = tt
all_filter P Q p f (n ∷ ns) all = here (p n) refl (all_filter P Q p f ns all.1)
  where
    here : (b : Bool) → p n ≡ b → AllByRecursion Q (filter p ns) → AllByRecursion Q (cond b (n ∷ filter p ns) (filter p ns))
    here true e rest = (f n all.0 e, rest)
    here false e rest = rest

all_cond : (P : ℕ → Type 0) (b : Bool) (xs ys : List ℕ) → (b ≡ true → AllByRecursion P xs) → (b ≡ false → AllByRecursion P ys) → AllByRecursion P (cond b xs ys)
all_cond P true xs ys f g = f refl
all_cond P false xs ys f g = g refl

pub pending_open : (h : List RegEntry) (n : ℕ) → IsPending h n → (n < length (texts h)) × (ended_as h n ≡ None)
pending_open h n p = (omega (arith, within (larvals_of h) n p, length-larvals_of h), open_at (slice_get (larvals_of h) n) p)
  where
    within : (xs : List Larval) (k : ℕ) → option_map_or (λ (larval : Larval). is_none larval.ended) (slice_get xs k) false ≡ true → k < length xs
    within [] k e = absurd cc
    within (x ∷ xs) zero e = omega arith
    within (x ∷ xs) (suc k) e = let r : k < length xs = within xs k e in omega (arith, r)

    none_of : {A : Type 0} (o : Option A) → is_none o ≡ true → o ≡ None
    none_of None e = refl
    none_of (Some a) e = absurd cc

    open_at : (o : Option Larval) → option_map_or (λ (larval : Larval). is_none larval.ended) o false ≡ true → option_and_then (λ (larval : Larval). larval.ended) o ≡ None
    open_at None e = absurd cc
    open_at (Some larval) e = none_of larval.ended e

built_step : (h : List RegEntry) (e : RegEntry) → AreBuilt h → IsRight h e → AreBuilt (h ++ e ∷ [])
built_step h e all right caller = subst (λ ns. AllByRecursion (λ m. IsBuilt (h ++ e ∷ []) caller m) ns) (sym (building-push h e caller)) (by_entry e right)
  where
    Now : RegEntry → ℕ → Type 0
    Now x m = IsBuilt (h ++ x ∷ []) caller m

    left : (x : RegEntry) → ((m : ℕ) → ends m x ≡ None) → AllByRecursion (λ m. IsBuilt (h ++ x ∷ []) caller m) (building h caller)
    left x none = all_map (λ m. IsBuilt h caller m) (λ m. IsBuilt (h ++ x ∷ []) caller m) (λ m b. stays h x caller m b (none m)) (building h caller) (all caller)

    by_number : (a b : ℕ) → eqb a b ≡ true → a ≡ b
    by_number a b f = grind (arith, nat_tests)

    differ : (a b : ℕ) → eqb a b ≡ false → a ≢ b
    differ a b f g = absurd (let k : eqb a b ≡ true = ap (λ c. eqb a c) (sym g) ∙ same a in cc)

    by_entry : (x : RegEntry) → IsRight h x → AllByRecursion (λ m. IsBuilt (h ++ x ∷ []) caller m) (building_after caller (building h caller) x)
    by_entry (Claim by larval) r =
        let x : RegEntry = Claim by larval in
        let p = pending_open h larval r.0 in
        all_cond (λ m. IsBuilt (h ++ x ∷ []) caller m) (eqb by caller) (building h caller ++ larval ∷ []) (building h caller)
        (λ f. all_snoc (λ m. IsBuilt (h ++ x ∷ []) caller m) (building h caller) larval (left x (λ m. refl)) (record {
          claimed = claimed-push h x larval p.0 ∙ (ap (λ o. option_or o (claims larval x)) r.1 ∙ (ap (λ b. cond b (Some by) None) (same larval) ∙ ap (λ (c : ℕ). Some c) (by_number by caller f)));
          unended = ended-push h x larval p.0 ∙ ap (λ o. option_or o None) p.1;
        }))
        (λ f. left x (λ m. refl))
    by_entry (End by larval answer) r =
        let x : RegEntry = End by larval answer in
        all_cond (λ m. IsBuilt (h ++ x ∷ []) caller m) (eqb by caller) (filter (λ m. not (eqb m larval)) (building h caller)) (building h caller)
        (λ f. all_filter (λ m. IsBuilt h caller m) (λ m. IsBuilt (h ++ x ∷ []) caller m) (λ m. not (eqb m larval))
        (λ m b g. stays h x caller m b (ap (λ b'. cond b' (Some (end_of answer)) None) (unequal larval m (λ q. absurd (let k : eqb m larval ≡ true = ap (λ c. eqb m c) q ∙ same m in cc))))) (building h caller) (all caller))
        (λ f. all_map (λ m. IsBuilt h caller m) (λ m. IsBuilt (h ++ x ∷ []) caller m)
        (λ m b. stays h x caller m b (ap (λ b'. cond b' (Some (end_of answer)) None) (unequal larval m (λ q.
        absurd (let k : Some by ≡ Some caller = sym r.0 ∙ (ap (λ n. claimer h n) q ∙ b.claimed) in let l : by ≡ caller = cc in differ by caller f l))))) (building h caller) (all caller))
    by_entry (Enlist by spec answer) r = left (Enlist by spec answer) (λ m. refl)
    by_entry (Look by text plain answer) r = left (Look by text plain answer) (λ m. refl)
    by_entry (Waited by larval) r = left (Waited by larval) (λ m. refl)
    by_entry (Unlist by driver answer) r = left (Unlist by driver answer) (λ m. refl)
    by_entry (Get by id ok) r = left (Get by id ok) (λ m. refl)
    by_entry (Put by id) r = left (Put by id) (λ m. refl)
    by_entry (Refs by driver) r = left (Refs by driver) (λ m. refl)
    by_entry (entry.List by) r = left (entry.List by) (λ m. refl)

are_built : (h : List RegEntry) → LegalReg h → AreBuilt h
are_built h legal = legal_along AreBuilt built_step [] h (λ caller. tt) legal

last_all : (P : ℕ → Type 0) (ns : List ℕ) (m : ℕ) → AllByRecursion P ns → last_of ns ≡ Some m → P m
last_all P [] m all e = absurd cc
last_all P (n ∷ []) m all e = let f : n ≡ m = cc in subst P f all.0
last_all P (n ∷ o ∷ ns) m all e = last_all P (o ∷ ns) m all.1 e

-- the larval that a caller claimed last of those that it hasn't ended
pub last_built : (h : List RegEntry) (caller m : ℕ) → LegalReg h → last_of (building h caller) ≡ Some m → IsBuilt h caller m
last_built h caller m legal e = last_all (λ n. IsBuilt h caller n) (building h caller) m (are_built h legal caller) e
