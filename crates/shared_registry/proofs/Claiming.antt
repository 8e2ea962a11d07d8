-- Claiming a larval, and ending it.
use Rattle.std.proofs.Common.{◌≡◌, ◌≢◌, ℕ, zero, suc, ◌<◌, ◌⊎◌, inl, inr, Bool, true, false, not, ◌||◌, eqb, eq-eqb, if◌then◌else◌, List, [], ◌∷◌, ◌++◌, length, refl, ap, sym, ◌∙◌, subst, arith, Option, Some, None, Result, Ok, Err, IsSome, append_assoc}
use Rattle.std.specs.Prelude.{slice_get, filter, is_none, IfOk, IfErr}
use Rattle.std.specs.List.{list_any, cons_option}
use Rattle.std.specs.Option.{option_or, option_and_then, option_map, option_map_or}
use Rattle.std.proofs.lemmas.Bool.{eqb-true}
use Rattle.std.proofs.lemmas.List.{append-nil}
use Rattle.alg_registry.specs.declared.row.Larval.{Larval}
use Rattle.alg_registry.specs.declared.spec.Spec.{Spec}
use Rattle.alg_registry.specs.declared.entry.Claimed.{Claimed}
use Rattle.alg_registry.specs.declared.entry.Ended.{Ended}
use Rattle.alg_registry.specs.declared.entry.Ended.TheVariants as ended
use Rattle.alg_registry.specs.declared.entry.EndAnswer.{EndAnswer}
use Rattle.alg_registry.specs.declared.entry.EndAnswer.TheVariants as answer
use Rattle.alg_registry.specs.declared.entry.RegErr.{RegErr}
use Rattle.alg_registry.specs.declared.entry.RegErr.TheVariants as error
use Rattle.alg_registry.specs.declared.entry.RegEntry.{RegEntry}
use Rattle.alg_registry.specs.declared.entry.RegEntry.TheVariants.{Enlist, Look, Claim, End, Waited, Unlist, Get, Put, Refs}
use Rattle.alg_registry.specs.declared.entry.RegEntry.TheVariants as entry
use Rattle.alg_registry.specs.Rows.{caller_of, texts, larvals_of, rows_of, first_of, claims, ends, end_of}
use Rattle.alg_registry.specs.Calls.{claimed_number, claimed_answer, text_at, UnlessNoMemory, OnNoMemory, MayLack, unless_memory, end_given, unclaimed_at, is_unclaimed}
use Rattle.alg_registry.specs.Legal.{LegalReg, IsRight, ended_as}
use Rattle.alg_registry.specs.Made.{building, last_of, looks_for, look_for, if_of, outcome_of}
use Rattle.alg_registry.proofs.Histories.{text_more}
use Rattle.alg_registry.proofs.LifetimeLaws.{right_at}
use Rattle.alg_registry.proofs.Fresh.{length-larvals_of}
use Rattle.alg_registry.proofs.Stack.{claimed-within, claimed-there, ended-push, last-snoc}
use Rattle.alg_registry.proofs.OwnCalls.{last_any}
use Rattle.templates.specs.declared.build_errors.BuildErr.{BuildErr}
use Rattle.templates.specs.declared.build_errors.BuildErr.TheVariants.{Fault, Memory}
use Rattle.templates.specs.Resolution.{result_of}
use Rattle.turn_lock.specs.Turns.{Known, of}
use Rattle.shared_registry.specs.Passes.{IsSound, EntersIf}
use Rattle.shared_registry.proofs.Going.{Meets, Goes}
use Rattle.turn_lock.specs.PassLaws.{Enters, Leaves}
use Rattle.turn_lock.specs.PassLaws.{Meets as Met}
use Rattle.shared_registry.specs.Faithful.{IsFaithful}
use Rattle.shared_registry.specs.Own.{open_of, IsOpen, own_looks, IsOwn, MayHand}
use Rattle.shared_registry.specs.Builds.{Works, Ends}
use Rattle.shared_registry.specs.Within.{Within, Closes, BeginsText, Builds, EndsAs, ended_result, given_result}
use Rattle.shared_registry.specs.Learned.{RegistryLaws}
use Rattle.shared_registry.proofs.Asking.{open_at}
use Rattle.shared_registry.proofs.Working.{own_on, open_push, looks_push, all_both, claimed_or, first_last}
use Rattle.shared_registry.proofs.Going.{goes_on, goes_after, goes_nothing}

first_front : {B : Type 0} (f : RegEntry → Option B) (xs ys : List RegEntry) → first_of f (xs ++ ys) ≡ None → first_of f xs ≡ None
first_front f [] ys e = refl
first_front f (x ∷ xs) ys e = here (f x) e (first_front f xs ys)
  where
    here : (o : Option _) → option_or o (first_of f (xs ++ ys)) ≡ None → (first_of f (xs ++ ys) ≡ None → first_of f xs ≡ None) → option_or o (first_of f xs) ≡ None
    here None z rest = rest z
    here (Some b) z rest = absurd cc

first_own : {B : Type 0} (f : RegEntry → Option B) (c : ℕ) (h : List RegEntry) → first_of f h ≡ None → first_of f (of caller_of c h) ≡ None
first_own f c [] e = refl
first_own f c (x ∷ h) e = here (f x) refl e (eqb (caller_of x) c) (first_own f c h)
  where
    here : (o : Option _) → f x ≡ o → option_or o (first_of f h) ≡ None → (b : Bool) → (first_of f h ≡ None → first_of f (of caller_of c h) ≡ None) → first_of f (if b then x ∷ of caller_of c h else of caller_of c h) ≡ None
    here None q z true rest = ap (λ o. option_or o (first_of f (of caller_of c h))) q ∙ rest z
    here None q z false rest = rest z
    here (Some b) q z t rest = absurd cc

-- no look belongs to a larval that nobody claimed
look_unclaimed : (m : ℕ) (before : List RegEntry) (e : RegEntry) → first_of (claims m) before ≡ None → if_of m (look_for before e) ≡ None
look_unclaimed m before (Look by text true answer) none = by_last (last_of (building before by)) refl
  where
    contradiction : (list_any (λ x. eqb x m) [] ≡ true) ⊎ IsSome (first_of (claims m) before) → ⊥
    contradiction (inl z) = absurd cc
    contradiction (inr s) = let t : IsSome {T = ℕ} None = subst (λ (o : Option ℕ). IsSome o) none s in cc

    by_last : (o : Option ℕ) → last_of (building before by) ≡ o → if_of m (option_and_then (λ larval. Some (larval, answer)) o) ≡ None
    by_last None q = refl
    by_last (Some n) q = by_test (eqb n m) refl
      where
        by_test : (b : Bool) → eqb n m ≡ b → (if b then Some answer else None) ≡ None
        by_test false z = refl
        by_test true z = absurd (contradiction (claimed_or by m [] before (last_any (building before by) m (q ∙ ap (λ k. Some k) (eqb-true n m z)))))
look_unclaimed m before (Look by text false answer) none = refl
look_unclaimed m before (Claim by larval) none = refl
look_unclaimed m before (End by larval answer) none = refl
look_unclaimed m before (Enlist by spec answer) none = refl
look_unclaimed m before (Waited by larval) none = refl
look_unclaimed m before (Unlist by driver answer) none = refl
look_unclaimed m before (Get by id ok) none = refl
look_unclaimed m before (Put by id) none = refl
look_unclaimed m before (Refs by driver) none = refl
look_unclaimed m before (entry.List by) none = refl

looks_unclaimed : (m : ℕ) (before later : List RegEntry) → first_of (claims m) (before ++ later) ≡ None → looks_for m before later ≡ []
looks_unclaimed m before [] none = refl
looks_unclaimed m before (e ∷ later) none =
    ap (λ o. cons_option o (looks_for m (before ++ e ∷ []) later)) (look_unclaimed m before e (first_front (claims m) before (e ∷ later) none))
    ∙ looks_unclaimed m (before ++ e ∷ []) later (ap (λ x. first_of (claims m) x) (append_assoc before (e ∷ []) later) ∙ none)

filter_out : (ns : List ℕ) (m : ℕ) → (list_any (λ x. eqb x m) ns ≡ true → ⊥) → filter (λ x. not (eqb x m)) (ns ++ m ∷ []) ≡ ns
filter_out [] m out = ap (λ b. if not b then m ∷ [] else []) (eq-eqb m m refl)
filter_out (n ∷ ns) m out = here (eqb n m) refl out (filter_out ns m)
  where
    here : (b : Bool) → eqb n m ≡ b → ((b || list_any (λ x. eqb x m) ns) ≡ true → ⊥) → ((list_any (λ x. eqb x m) ns ≡ true → ⊥) → filter (λ x. not (eqb x m)) (ns ++ m ∷ []) ≡ ns) → (if not b then n ∷ filter (λ x. not (eqb x m)) (ns ++ m ∷ []) else filter (λ x. not (eqb x m)) (ns ++ m ∷ [])) ≡ n ∷ ns
    here true q inside rest = absurd (inside refl)
    here false q inside rest = ap (λ xs. n ∷ xs) (rest inside)

-- the pass claimed a larval that nobody had
pub record Claims (k l : Known RegEntry) (m : ℕ) : Type 0 where
  pub goes : Goes k l (Claim k.number m ∷ [])
  pub new : first_of (claims m) k.made ≡ None

abbrev pub HasClaimed : Known RegEntry → Known RegEntry → Option ℕ → Result (Option Claimed) RegErr → Type 0
HasClaimed k l named r =
    Meets k (λ h. IfOk r (λ c. (c ≡ claimed_answer (larvals_of h) named) × EntersIf k h (option_map (λ n. Claim k.number n) (claimed_number (larvals_of h) named)) l) × IfErr r (λ e. (e ≡ error.Memory) × Leaves k h l))

pending_there : (xs : List Larval) (n : ℕ) → option_map_or (λ larval. is_none larval.ended) (slice_get xs n) false ≡ true → n < length xs
pending_there [] n h = absurd cc
pending_there (x ∷ xs) zero h = omega arith
pending_there (x ∷ xs) (suc n) h = let r : n < length xs = pending_there xs n h in omega arith

claims_new : (k l : Known RegEntry) (h : List RegEntry) (m : ℕ) → Met caller_of IsFaithful k h → Enters IsFaithful k h (Claim k.number m) l → Claims k l m
claims_new k l h m met entered =
    let right : IsRight h (Claim k.number m) = right_at [] h (Claim k.number m) [] entered.1.legal in
    let lt : m < length (larvals_of h) = pending_there (larvals_of h) m right.0 in
    record {
      goes = goes_after k l h (Claim k.number m) refl met entered;
      new = ap (λ es. first_of (claims m) es) (sym met.shows.made) ∙ first_own (claims m) k.number h (sym (claimed-within h m (omega (arith, lt, length-larvals_of h))) ∙ right.1);
    }

module _ (k l : Known RegEntry) (m : ℕ) (claimed : Claims k l m) where
  opened : open_of l ≡ open_of k ++ m ∷ []
  opened = open_push k l (Claim k.number m) claimed.goes ∙ ap (λ b. if b then open_of k ++ m ∷ [] else open_of k) (eq-eqb k.number k.number refl)

  not_open : list_any (λ x. eqb x m) (open_of k) ≡ true → ⊥
  not_open is = by_case (claimed_or k.number m [] k.made is)
    where
      by_case : (list_any (λ x. eqb x m) [] ≡ true) ⊎ IsSome (first_of (claims m) k.made) → ⊥
      by_case (inl z) = absurd cc
      by_case (inr s) = let t : IsSome {T = ℕ} None = subst (λ (o : Option ℕ). IsSome o) claimed.new s in cc

  not_own : (n : ℕ) → IsOwn k n → n ≢ m
  not_own n own same = let s : IsSome (first_of (claims m) k.made) = subst (λ j. IsSome (first_of (claims j) k.made)) same own in let t : IsSome {T = ℕ} None = subst (λ (o : Option ℕ). IsSome o) claimed.new s in cc

  pub begins : (text : List ℕ) → IsSound l → slice_get (texts l.seen) m ≡ Some text → BeginsText m text l
  begins text sound at = record {
    sound = sound;
    begun = at;
    last = ap last_of opened ∙ last-snoc (open_of k) m;
    own = subst (λ es. IsSome (first_of (claims m) es)) (sym claimed.goes.made) (first_last (claims m) k.made (Claim k.number m) (subst (λ b. IsSome (if b then Some k.number else None)) (sym (eq-eqb m m refl)) refl));
    no_looks = looks_push k l (Claim k.number m) m claimed.goes ∙ (append-nil (own_looks k m) ∙ looks_unclaimed m [] k.made claimed.new);
  }

  -- a claim, and building and ending
  pub closed : (p : Known RegEntry) → Closes m l p → Works k p
  closed p c = record {
    work = Claim k.number m ∷ c.work;
    goes = goes_on k l p (Claim k.number m ∷ []) c.work claimed.goes c.goes;
    all_work = c.all_work;
    builds = c.builds ∙ (ap (λ ns. filter (λ x. not (eqb x m)) ns) opened ∙ filter_out (open_of k) m not_open);
    looks = λ n own. c.others n (own_on k l (Claim k.number m ∷ []) n claimed.goes own) (not_own n own) ∙ (looks_push k l (Claim k.number m) n claimed.goes ∙ append-nil (own_looks k n));
  }

pub hands : (k : Known RegEntry) (m : ℕ) (built : Result Spec BuildErr) → Builds k m built → MayHand k m (given_result built)
hands k m (Ok spec) b = b
hands k m (Err (Fault errno)) b = b
hands k m (Err Memory) b = tt

result_end : (a : EndAnswer) → ended_result (end_of a) ≡ result_of a
result_end (answer.Built id spec) = refl
result_end (answer.Joined id below) = refl
result_end (answer.Failed errno) = refl
result_end answer.NoMemory = refl

result_unless : (r : Ended) (a : EndAnswer) → UnlessNoMemory r (r ≡ end_of a) → ended_result r ≡ result_of (unless_memory r a)
result_unless (ended.Built id) a e = ap ended_result e ∙ result_end a
result_unless (ended.Joined id) a e = ap ended_result e ∙ result_end a
result_unless (ended.Failed errno) a e = ap ended_result e ∙ result_end a
result_unless ended.NoMemory a e = refl

abbrev pub HasEnded : Known RegEntry → Known RegEntry → ℕ → Result Spec Ended → Ended → Type 0
HasEnded k l m given r = Meets k (λ h. UnlessNoMemory r (r ≡ end_of (end_given (rows_of h) given)) × OnNoMemory r (MayLack (end_given (rows_of h) given)) × Enters IsFaithful k h (End k.number m (unless_memory r (end_given (rows_of h) given))) l)

pub has_finished : (k l : Known RegEntry) (m : ℕ) (given : Result Spec Ended) (r : Ended) (came : Result ℕ BuildErr) → came ≡ ended_result r → HasEnded k l m given r → EndsAs k l m came
has_finished k l m given r came is did = (did.0, did.1, (unless_memory r (end_given (rows_of did.0) given), did.2.2, is ∙ result_unless r (end_given (rows_of did.0) given) did.2.0))

ends_answer : (l : Known RegEntry) (m : ℕ) (a : EndAnswer) → ended_as l.seen m ≡ Some (end_of a) → Ends l m (result_of a)
ends_answer l m (answer.Built id spec) q = ap outcome_of q
ends_answer l m (answer.Joined id below) q = ap outcome_of q
ends_answer l m (answer.Failed errno) q = ap outcome_of q
ends_answer l m answer.NoMemory q = tt

no_memory : (a : EndAnswer) → result_of a ≡ Err Memory → end_of a ≡ ended.NoMemory
no_memory (answer.Built id spec) q = absurd (let f : Ok id ≡ Err Memory = q in cc)
no_memory (answer.Joined id below) q = absurd (let f : Ok id ≡ Err Memory = q in cc)
no_memory (answer.Failed errno) q = absurd (let f : Err (Fault errno) ≡ Err Memory = q in cc)
no_memory answer.NoMemory q = refl

-- an end of a larval that the pass was building
module _ (k l : Known RegEntry) (m : ℕ) (r : Result ℕ BuildErr) (did : EndsAs k l m r) where
  pub end_goes : Goes k l (End k.number m did.2.0 ∷ [])
  end_goes = goes_after k l did.0 (End k.number m did.2.0) refl did.1 did.2.1

  ended_now : RegistryLaws → IsOpen k m → ended_as l.seen m ≡ Some (end_of did.2.0)
  ended_now laws is =
      let e : RegEntry = End k.number m did.2.0 in
      let grown : l.seen ≡ did.0 ++ e ∷ [] = ap (λ n. n.seen) did.2.1.0 in
      let legal : LegalReg did.0 = did.1.kept.legal in
      let open_there = open_at laws k did.0 did.1.shows legal m is in
      ap (λ x. ended_as x m) grown ∙ (ended-push did.0 e m (claimed-there did.0 m k.number open_there.0)
      ∙ (ap (λ o. option_or o (ends m e)) open_there.1 ∙ ap (λ b. if b then Some (end_of did.2.0) else None) (eq-eqb m m refl)))

  pub end_comes : RegistryLaws → IsOpen k m → Ends l m r
  end_comes laws is = subst (Ends l m) (sym did.2.2) (ends_answer l m did.2.0 (ended_now laws is))

  -- memory was wanting: it is ended with that
  pub end_wants : RegistryLaws → IsOpen k m → r ≡ Err Memory → ended_as l.seen m ≡ Some ended.NoMemory
  end_wants laws is none = ended_now laws is ∙ ap (λ e. Some e) (no_memory did.2.0 (sym did.2.2 ∙ none))

  pub end_closes : (k0 : Known RegEntry) → Within m k0 k → Closes m k0 l
  end_closes k0 w =
      let e : RegEntry = End k.number m did.2.0 in
      record {
        work = w.work ++ e ∷ [];
        goes = goes_on k0 k l w.work (e ∷ []) w.goes end_goes;
        all_work = all_both w.work (e ∷ []) w.all_work refl;
        builds = open_push k l e end_goes
            ∙ (ap (λ b. if b then filter (λ x. not (eqb x m)) (open_of k) else open_of k) (eq-eqb k.number k.number refl) ∙ ap (λ ns. filter (λ x. not (eqb x m)) ns) w.builds);
        others = λ n own ne. looks_push k l e n end_goes ∙ (append-nil (own_looks k n) ∙ w.others n own ne);
      }

some_number : (o : Option ℕ) (x : Claimed) (larvals : List Larval) → Some x ≡ option_map (λ number. record { larval = number; text = text_at larvals number }) o → (m : ℕ) × (o ≡ Some m) × (x.larval ≡ m) × (x.text ≡ text_at larvals m)
some_number None x larvals e = absurd cc
some_number (Some m) x larvals e = (m, refl, ap (λ (c : Option Claimed). option_map_or (λ y. y.larval) c 0) e, ap (λ (c : Option Claimed). option_map_or (λ y. y.text) c []) e)

none_number : (o : Option ℕ) (larvals : List Larval) → ◌≡◌ {A = Option Claimed} None (option_map (λ number. record { larval = number; text = text_at larvals number }) o) → o ≡ None
none_number None larvals e = refl
none_number (Some m) larvals e = absurd cc

module _ (k l : Known RegEntry) (named : Option ℕ) (r : Result (Option Claimed) RegErr) (did : HasClaimed k l named r) where
  -- it claimed a larval
  pub claimed_some : (x : Claimed) → r ≡ Ok (Some x) → Claims k l x.larval
  claimed_some x is =
      let d = subst (λ y. HasClaimed k l named y) is did in
      let n = some_number (claimed_number (larvals_of d.0) named) x (larvals_of d.0) d.2.0.0 in
      subst (Claims k l) (sym n.2) (claims_new k l d.0 n.0 d.1 (subst (λ o. EntersIf k d.0 (option_map (λ j. Claim k.number j) o) l) n.1 d.2.0.1))

  -- or none
  pub claimed_none : r ≡ Ok None → Goes k l []
  claimed_none is =
      let d = subst (λ y. HasClaimed k l named y) is did in
      let n = none_number (claimed_number (larvals_of d.0) named) (larvals_of d.0) d.2.0.0 in
      goes_nothing k l d.0 d.1 (subst (λ o. EntersIf k d.0 (option_map (λ j. Claim k.number j) o) l) n d.2.0.1)

  pub claimed_not : (e : RegErr) → r ≡ Err e → Goes k l []
  claimed_not e is = let d = subst (λ y. HasClaimed k l named y) is did in goes_nothing k l d.0 d.1 d.2.1.1

unclaimed_same : (larvals : List Larval) (n m : ℕ) → unclaimed_at larvals n ≡ Some m → n ≡ m
unclaimed_same larvals n m e = by_test (option_map_or is_unclaimed (slice_get larvals n) false) e
  where
    by_test : (b : Bool) → (if b then Some n else None) ≡ Some m → n ≡ m
    by_test true z = cc
    by_test false z = absurd cc

-- the larval that it named
pub claimed_it : (k l : Known RegEntry) (larval : ℕ) (r : Result (Option Claimed) RegErr) (x : Claimed) → HasClaimed k l (Some larval) r → r ≡ Ok (Some x) → Claims k l larval
claimed_it k l larval r x did is =
    let d = subst (λ y. HasClaimed k l (Some larval) y) is did in
    let n = some_number (claimed_number (larvals_of d.0) (Some larval)) x (larvals_of d.0) d.2.0.0 in
    let same : larval ≡ n.0 = unclaimed_same (larvals_of d.0) larval n.0 n.1 in
    subst (Claims k l) (n.2 ∙ sym same) (claimed_some k l (Some larval) r did x is)

pub text_on : (k l : Known RegEntry) (a : List RegEntry) (n : ℕ) (text : List ℕ) → Goes k l a → slice_get (texts k.seen) n ≡ Some text → slice_get (texts l.seen) n ≡ Some text
text_on k l a n text g at = ap (λ x. slice_get (texts x) n) g.seen ∙ text_more k.seen g.between n text at

-- which larval it was, its text, and what the turn met
pub record TookOldest (k l : Known RegEntry) (x : Claimed) : Type 0 where
  pub h : List RegEntry
  pub met : Met caller_of IsFaithful k h
  pub oldest : claimed_number (larvals_of h) None ≡ Some x.larval
  pub seen : l.seen ≡ h ++ Claim k.number x.larval ∷ []
  pub text : x.text ≡ text_at (larvals_of h) x.larval

pub took_oldest : (k l : Known RegEntry) (r : Result (Option Claimed) RegErr) (x : Claimed) → HasClaimed k l None r → r ≡ Ok (Some x) → TookOldest k l x
took_oldest k l r x did is =
    let d = subst (λ y. HasClaimed k l None y) is did in
    let n = some_number (claimed_number (larvals_of d.0) None) x (larvals_of d.0) d.2.0.0 in
    record {
      h = d.0;
      met = d.1;
      oldest = n.1 ∙ ap (λ m. Some m) (sym n.2);
      seen = ap (λ p. p.seen) (subst (λ o. EntersIf k d.0 (option_map (λ j. Claim k.number j) o) l) (n.1 ∙ ap (λ m. Some m) (sym n.2)) d.2.0.1).0;
      text = n.3 ∙ ap (λ m. text_at (larvals_of d.0) m) (sym n.2);
    }

pub took_not : (k l : Known RegEntry) (r : Result (Option Claimed) RegErr) (e : RegErr) → HasClaimed k l None r → r ≡ Err e → Meets k (λ h. Leaves k h l)
took_not k l r e did is = let d = subst (λ y. HasClaimed k l None y) is did in (d.0, d.1, d.2.1.1)

pub took_none : (k l : Known RegEntry) (r : Result (Option Claimed) RegErr) → HasClaimed k l None r → r ≡ Ok None → Meets k (λ h. (claimed_number (larvals_of h) None ≡ None) × Leaves k h l)
took_none k l r did is =
    let d = subst (λ y. HasClaimed k l None y) is did in
    let n = none_number (claimed_number (larvals_of d.0) None) (larvals_of d.0) d.2.0.0 in
    (d.0, d.1, (n, subst (λ o. EntersIf k d.0 (option_map (λ j. Claim k.number j) o) l) n d.2.0.1))
