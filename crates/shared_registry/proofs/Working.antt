-- How a builder goes on.
use Rattle.std.proofs.Common.{◌≡◌, ℕ, ◌⊎◌, inl, inr, Bool, true, false, not, ◌||◌, eqb, eq-eqb, ne_eqb, if◌then◌else◌, List, [], ◌∷◌, ◌++◌, refl, ap, sym, ◌∙◌, subst, Option, Some, None, Result, IsSome}
use Rattle.std.specs.Prelude.{filter}
use Rattle.std.specs.List.{fold, list_any, list_all, cons_option}
use Rattle.std.specs.Option.{option_or, option_and_then}
use Rattle.std.proofs.lemmas.List.{append-nil}
use Rattle.std.proofs.lemmas.List.Folds.{list_all-append}
use Rattle.std.proofs.lemmas.Bool.{and_from}
use Rattle.alg_registry.specs.declared.entry.Looked.{Looked}
use Rattle.alg_registry.specs.declared.entry.RegEntry.{RegEntry}
use Rattle.alg_registry.specs.declared.entry.RegEntry.TheVariants.{Enlist, Look, Claim, End, Waited, Unlist, Get, Put, Refs}
use Rattle.alg_registry.specs.declared.entry.RegEntry.TheVariants as entry
use Rattle.alg_registry.specs.Rows.{first_of, claims}
use Rattle.alg_registry.specs.Made.{building, building_after, last_of, looks_for, look_for, if_of}
use Rattle.alg_registry.proofs.Stack.{building-push, looks-push}
use Rattle.turn_lock.specs.Turns.{Known}
use Rattle.shared_registry.specs.Passes.{IsSound}
use Rattle.shared_registry.proofs.Going.{Goes, goes_on, goes_still}
use Rattle.shared_registry.specs.Own.{open_of, own_looks, IsOwn}
use Rattle.templates.specs.declared.build_errors.BuildErr.{BuildErr}
use Rattle.shared_registry.specs.Builds.{is_building, Works, Looks, Comes, Resolves}
use Rattle.shared_registry.specs.Within.{Within}

pub all_both : (xs ys : List RegEntry) → list_all is_building xs ≡ true → list_all is_building ys ≡ true → list_all is_building (xs ++ ys) ≡ true
all_both xs ys a b = list_all-append is_building xs ys ∙ and_from (list_all is_building xs) (list_all is_building ys) a b

some_or : {B : Type 0} (o p : Option B) → IsSome o → IsSome (option_or o p)
some_or None p s = absurd cc
some_or (Some b) p s = s

some_later : {B : Type 0} (o p : Option B) → IsSome p → IsSome (option_or o p)
some_later None p s = s
some_later (Some b) p s = refl

first_more : {B : Type 0} (f : RegEntry → Option B) (xs ys : List RegEntry) → IsSome (first_of f xs) → IsSome (first_of f (xs ++ ys))
first_more f [] ys s = absurd cc
first_more f (x ∷ xs) ys s = here (f x) s (first_more f xs ys)
  where
    here : (o : Option _) → IsSome (option_or o (first_of f xs)) → (IsSome (first_of f xs) → IsSome (first_of f (xs ++ ys))) → IsSome (option_or o (first_of f (xs ++ ys)))
    here None z rest = rest z
    here (Some b) z rest = refl

pub first_last : {B : Type 0} (f : RegEntry → Option B) (xs : List RegEntry) (y : RegEntry) → IsSome (f y) → IsSome (first_of f (xs ++ y ∷ []))
first_last f [] y s = some_or (f y) None s
first_last f (x ∷ xs) y s = some_later (f x) (first_of f (xs ++ y ∷ [])) (first_last f xs y s)

pub own_on : (k l : Known RegEntry) (a : List RegEntry) (n : ℕ) → Goes k l a → IsOwn k n → IsOwn l n
own_on k l a n g own = subst (λ es. IsSome (first_of (claims n) es)) (sym g.made) (first_more (claims n) k.made a own)

-- one more entry of the pass
pub open_push : (k l : Known RegEntry) (e : RegEntry) → Goes k l (e ∷ []) → open_of l ≡ building_after k.number (open_of k) e
open_push k l e g = ap (λ es. building es l.number) g.made ∙ (ap (λ c. building (k.made ++ e ∷ []) c) g.number ∙ building-push k.made e k.number)

pub looks_push : (k l : Known RegEntry) (e : RegEntry) (n : ℕ) → Goes k l (e ∷ []) → own_looks l n ≡ own_looks k n ++ cons_option (if_of n (look_for k.made e)) []
looks_push k l e n g = ap (λ es. looks_for n [] es) g.made ∙ looks-push n k.made e

open_none : (k l : Known RegEntry) → Goes k l [] → open_of l ≡ open_of k
open_none k l g = ap (λ es. building es l.number) (g.made ∙ append-nil k.made) ∙ ap (λ c. building k.made c) g.number

looks_none : (k l : Known RegEntry) (n : ℕ) → Goes k l [] → own_looks l n ≡ own_looks k n
looks_none k l n g = ap (λ es. looks_for n [] es) (g.made ∙ append-nil k.made)

pub works_none : (k l : Known RegEntry) → Goes k l [] → Works k l
works_none k l g = record { work = []; goes = g; all_work = refl; builds = open_none k l g; looks = λ n own. looks_none k l n g }

pub works_still : (k : Known RegEntry) → Works k k
works_still k = works_none k k (goes_still k)

pub works_waited : (k l : Known RegEntry) (caller larval : ℕ) → Goes k l (Waited caller larval ∷ []) → Works k l
works_waited k l caller larval g = record {
  work = Waited caller larval ∷ [];
  goes = g;
  all_work = refl;
  builds = open_push k l (Waited caller larval) g;
  looks = λ n own. looks_push k l (Waited caller larval) n g ∙ append-nil (own_looks k n);
}

pub works_on : (k l m : Known RegEntry) → Works k l → Works l m → Works k m
works_on k l m a b = record {
  work = a.work ++ b.work;
  goes = goes_on k l m a.work b.work a.goes b.goes;
  all_work = all_both a.work b.work a.all_work b.all_work;
  builds = b.builds ∙ a.builds;
  looks = λ n own. b.looks n (own_on k l a.work n a.goes own) ∙ a.looks n own;
}

pub within_works : (larval : ℕ) (k l : Known RegEntry) → Works k l → Within larval k l
within_works larval k l w = record { work = w.work; goes = w.goes; all_work = w.all_work; builds = w.builds; others = λ n own ne. w.looks n own }

pub within_on : (larval : ℕ) (k l m : Known RegEntry) → Within larval k l → Within larval l m → Within larval k m
within_on larval k l m a b = record {
  work = a.work ++ b.work;
  goes = goes_on k l m a.work b.work a.goes b.goes;
  all_work = all_both a.work b.work a.all_work b.all_work;
  builds = b.builds ∙ a.builds;
  others = λ n own ne. b.others n (own_on k l a.work n a.goes own) ne ∙ a.others n own ne;
}

-- a look for the larval that was claimed last
pub within_look : (larval : ℕ) (k l : Known RegEntry) (text : List ℕ) (answer : Looked) → last_of (open_of k) ≡ Some larval → Looks k l text true answer → Within larval k l
within_look larval k l text answer last w = record {
  work = Look k.number text true answer ∷ w.work;
  goes = w.goes;
  all_work = w.all_work;
  builds = w.builds;
  others = λ n own ne.
      w.looks n own
      ∙ (ap (λ o. own_looks k n ++ cons_option (if_of n (option_and_then (λ m. Some (m, answer)) o)) []) last
      ∙ (ap (λ b. own_looks k n ++ cons_option (if b then Some answer else None) []) (ne_eqb larval n (λ q. ne (sym q))) ∙ append-nil (own_looks k n)));
}

pub own_look : (larval : ℕ) (k l : Known RegEntry) (text : List ℕ) (answer : Looked) → last_of (open_of k) ≡ Some larval → IsOwn k larval → Looks k l text true answer → own_looks l larval ≡ own_looks k larval ++ answer ∷ []
own_look larval k l text answer last own w =
    w.looks larval own
    ∙ (ap (λ o. own_looks k larval ++ cons_option (if_of larval (option_and_then (λ m. Some (m, answer)) o)) []) last
    ∙ ap (λ b. own_looks k larval ++ cons_option (if b then Some answer else None) []) (eq-eqb larval larval refl))

-- a look, before anything is built for it
pub looks_now : (k l : Known RegEntry) (text : List ℕ) (plain : Bool) (answer : Looked) → Goes k l (Look k.number text plain answer ∷ []) → IsSound l → Looks k l text plain answer
looks_now k l text plain answer g sound = record {
  work = [];
  goes = g;
  all_work = refl;
  builds = open_push k l (Look k.number text plain answer) g;
  looks = λ n own. looks_push k l (Look k.number text plain answer) n g;
  sound = sound;
}

pub looks_on : (k l m : Known RegEntry) (text : List ℕ) (plain : Bool) (answer : Looked) → Looks k l text plain answer → Works l m → IsSound m → Looks k m text plain answer
looks_on k l m text plain answer a b sound = record {
  work = a.work ++ b.work;
  goes = goes_on k l m (Look k.number text plain answer ∷ a.work) b.work a.goes b.goes;
  all_work = all_both a.work b.work a.all_work b.all_work;
  builds = b.builds ∙ a.builds;
  looks = λ n own. b.looks n (own_on k l (Look k.number text plain answer ∷ a.work) n a.goes own) ∙ a.looks n own;
  sound = sound;
}

-- what is being built was claimed
pub claimed_or : (c m : ℕ) (ns : List ℕ) (h : List RegEntry) → list_any (λ x. eqb x m) (fold (building_after c) ns h) ≡ true → (list_any (λ x. eqb x m) ns ≡ true) ⊎ IsSome (first_of (claims m) h)
claimed_or c m ns [] is = inl is
claimed_or c m ns (e ∷ h) is = by_rest (claimed_or c m (building_after c ns e) h is)
  where
    any_snoc : (xs : List ℕ) (x : ℕ) → list_any (λ y. eqb y m) (xs ++ x ∷ []) ≡ true → (list_any (λ y. eqb y m) xs ≡ true) ⊎ (eqb x m ≡ true)
    any_snoc [] x z = inr (or_none (eqb x m) z)
      where
        or_none : (b : Bool) → (b || false) ≡ true → b ≡ true
        or_none true z = refl
        or_none false z = z
    any_snoc (y ∷ xs) x z = by_test (eqb y m) z (any_snoc xs x)
      where
        by_test : (b : Bool) → (b || list_any (λ y. eqb y m) (xs ++ x ∷ [])) ≡ true → (list_any (λ y. eqb y m) (xs ++ x ∷ []) ≡ true → (list_any (λ y. eqb y m) xs ≡ true) ⊎ (eqb x m ≡ true)) → ((b || list_any (λ y. eqb y m) xs) ≡ true) ⊎ (eqb x m ≡ true)
        by_test true z rest = inl refl
        by_test false z rest = rest z

    any_filter : (p : ℕ → Bool) (xs : List ℕ) → list_any (λ y. eqb y m) (filter p xs) ≡ true → list_any (λ y. eqb y m) xs ≡ true
    any_filter p [] z = z
    any_filter p (x ∷ xs) z = by_test (p x) (eqb x m) refl z (any_filter p xs)
      where
        by_test : (b d : Bool) → eqb x m ≡ d → list_any (λ y. eqb y m) (if b then x ∷ filter p xs else filter p xs) ≡ true → (list_any (λ y. eqb y m) (filter p xs) ≡ true → list_any (λ y. eqb y m) xs ≡ true) → (d || list_any (λ y. eqb y m) xs) ≡ true
        by_test b true q z rest = refl
        by_test true false q z rest = rest (ap (λ d. d || list_any (λ y. eqb y m) (filter p xs)) (sym q) ∙ z)
        by_test false false q z rest = rest z

    by_entry : (x : RegEntry) → list_any (λ y. eqb y m) (building_after c ns x) ≡ true → (list_any (λ y. eqb y m) ns ≡ true) ⊎ IsSome (claims m x)
    by_entry (Claim by larval) z = by_caller (eqb by c) z
      where
        claimed : (list_any (λ y. eqb y m) ns ≡ true) ⊎ (eqb larval m ≡ true) → (list_any (λ y. eqb y m) ns ≡ true) ⊎ IsSome (if eqb larval m then Some by else None)
        claimed (inl old) = inl old
        claimed (inr new) = inr (subst (λ b. IsSome (if b then Some by else None)) (sym new) refl)

        by_caller : (b : Bool) → list_any (λ y. eqb y m) (if b then ns ++ larval ∷ [] else ns) ≡ true → (list_any (λ y. eqb y m) ns ≡ true) ⊎ IsSome (if eqb larval m then Some by else None)
        by_caller true z = claimed (any_snoc ns larval z)
        by_caller false z = inl z
    by_entry (End by larval answer) z = by_caller (eqb by c) z
      where
        by_caller : (b : Bool) → list_any (λ y. eqb y m) (if b then filter (λ x. not (eqb x larval)) ns else ns) ≡ true → (list_any (λ y. eqb y m) ns ≡ true) ⊎ IsSome (claims m (End by larval answer))
        by_caller true z = inl (any_filter (λ x. not (eqb x larval)) ns z)
        by_caller false z = inl z
    by_entry (Enlist by spec answer) z = inl z
    by_entry (Look by text plain answer) z = inl z
    by_entry (Waited by larval) z = inl z
    by_entry (Unlist by driver answer) z = inl z
    by_entry (Get by id ok) z = inl z
    by_entry (Put by id) z = inl z
    by_entry (Refs by driver) z = inl z
    by_entry (entry.List by) z = inl z

    by_rest : (list_any (λ x. eqb x m) (building_after c ns e) ≡ true) ⊎ IsSome (first_of (claims m) h) → (list_any (λ x. eqb x m) ns ≡ true) ⊎ IsSome (first_of (claims m) (e ∷ h))
    by_rest (inr later) = inr (some_later (claims m e) (first_of (claims m) h) later)
    by_rest (inl now) = up (by_entry e now)
      where
        up : (list_any (λ y. eqb y m) ns ≡ true) ⊎ IsSome (claims m e) → (list_any (λ x. eqb x m) ns ≡ true) ⊎ IsSome (first_of (claims m) (e ∷ h))
        up (inl old) = inl old
        up (inr new) = inr (some_or (claims m e) (first_of (claims m) h) new)

-- a look, and what was done for it
pub resolves_so : (k l m : Known RegEntry) (text : List ℕ) (plain : Bool) (answer : Looked) (r : Result ℕ BuildErr) → Looks k l text plain answer → Works l m → IsSound m → Comes m answer r → Resolves k m text plain r
resolves_so k l m text plain answer r looks works sound comes = inr (answer, looks_on k l m text plain answer looks works sound, comes)
