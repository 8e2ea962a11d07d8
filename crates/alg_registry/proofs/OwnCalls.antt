-- What a caller builds, and its looks for that, hang on its own entries alone.
use Rattle.std.proofs.Common.{◌≡◌, ◌≢◌, ℕ, zero, suc, ◌<◌, ◌⊎◌, inl, inr, Bool, true, false, not, ◌||◌, ◌&&◌, eqb, eq-eqb, ne_eqb, if◌then◌else◌, List, [], ◌∷◌, ◌++◌, length, refl, ap, sym, ◌∙◌, subst, arith, Option, Some, None, append_assoc}
use Rattle.std.specs.Prelude.{slice_get, filter, is_none, count_by}
use Rattle.std.proofs.lemmas.Bool.{eqb-true, and_right, and_left}
use Rattle.std.proofs.lemmas.List.Sums.{length-filter}
use Rattle.std.specs.List.{fold, list_any, cons_option}
use Rattle.std.specs.Option.{option_or, option_and_then, option_map_or}
use Rattle.std.proofs.lemmas.List.{append-nil}
use Rattle.std.proofs.lemmas.List.Elements.{filter-append}
use Rattle.alg_registry.specs.declared.row.Larval.{Larval}
use Rattle.alg_registry.specs.declared.entry.Ended.{Ended}
use Rattle.alg_registry.specs.declared.entry.RegEntry.{RegEntry}
use Rattle.alg_registry.specs.declared.entry.RegEntry.TheVariants.{Enlist, Look, Claim, End, Waited, Unlist, Get, Put, Refs}
use Rattle.alg_registry.specs.declared.entry.RegEntry.TheVariants as entry
use Rattle.alg_registry.specs.Rows.{caller_of, larvals_of, texts, ends, claims}
use Rattle.alg_registry.specs.Legal.{LegalReg, IsRight, IsPending, ended_as, claimer, HasReference, gets_as, puts_as}
use Rattle.alg_registry.specs.Made.{building, building_after, last_of, looks_for, look_for, if_of}
use Rattle.alg_registry.proofs.Stack.{legal_along, building-push, ended-push, claimed-push, claimed-stays, claimed-there}
use Rattle.alg_registry.proofs.Fresh.{length-larvals_of}
use Rattle.alg_registry.specs.OwnCalls.{calls_of}
use Rattle.alg_registry.proofs.Histories.{claimed_more, legal_front}

calls_own : (c : ℕ) (h : List RegEntry) (e : RegEntry) → caller_of e ≡ c → calls_of c (h ++ e ∷ []) ≡ calls_of c h ++ e ∷ []
calls_own c h e own = filter-append (λ x. eqb (caller_of x) c) h (e ∷ []) ∙ ap (λ b. calls_of c h ++ (if b then e ∷ [] else [])) (eq-eqb (caller_of e) c own)

calls_other : (c : ℕ) (h : List RegEntry) (e : RegEntry) → eqb (caller_of e) c ≡ false → calls_of c (h ++ e ∷ []) ≡ calls_of c h
calls_other c h e other = filter-append (λ x. eqb (caller_of x) c) h (e ∷ []) ∙ (ap (λ b. calls_of c h ++ (if b then e ∷ [] else [])) other ∙ append-nil (calls_of c h))

-- another caller's entry changes nothing of what the caller builds
pub building_other : (c : ℕ) (ns : List ℕ) (e : RegEntry) → eqb (caller_of e) c ≡ false → building_after c ns e ≡ ns
building_other c ns (Claim by larval) other = ap (λ b. if b then ns ++ larval ∷ [] else ns) other
building_other c ns (End by larval answer) other = ap (λ b. if b then filter (λ m. not (eqb m larval)) ns else ns) other
building_other c ns (Enlist by spec answer) other = refl
building_other c ns (Look by text plain answer) other = refl
building_other c ns (Waited by larval) other = refl
building_other c ns (Unlist by driver answer) other = refl
building_other c ns (Get by id ok) other = refl
building_other c ns (Put by id) other = refl
building_other c ns (Refs by driver) other = refl
building_other c ns (entry.List by) other = refl

fold_own : (c : ℕ) (ns : List ℕ) (h : List RegEntry) → fold (building_after c) ns h ≡ fold (building_after c) ns (calls_of c h)
fold_own c ns [] = refl
fold_own c ns (e ∷ h) = by_caller (eqb (caller_of e) c) refl (fold_own c (building_after c ns e) h) (fold_own c ns h)
  where
    by_caller : (b : Bool) → eqb (caller_of e) c ≡ b → fold (building_after c) (building_after c ns e) h ≡ fold (building_after c) (building_after c ns e) (calls_of c h) → fold (building_after c) ns h ≡ fold (building_after c) ns (calls_of c h)
        → fold (building_after c) (building_after c ns e) h ≡ fold (building_after c) ns (if b then e ∷ calls_of c h else calls_of c h)
    by_caller true q with_it without = with_it
    by_caller false q with_it without = ap (λ ms. fold (building_after c) ms h) (building_other c ns e q) ∙ without

pub building_own : (c : ℕ) (h : List RegEntry) → building h c ≡ building (calls_of c h) c
building_own c h = fold_own c [] h

filter_own : (p : RegEntry → Bool) (c : ℕ) → ((e : RegEntry) → eqb (caller_of e) c ≡ false → p e ≡ false) → (h : List RegEntry) → filter p h ≡ filter p (calls_of c h)
filter_own p c none [] = refl
filter_own p c none (e ∷ h) = by_caller (eqb (caller_of e) c) refl (p e) refl (filter_own p c none h)
  where
    by_caller : (b : Bool) → eqb (caller_of e) c ≡ b → (t : Bool) → p e ≡ t → filter p h ≡ filter p (calls_of c h) → (if t then e ∷ filter p h else filter p h) ≡ filter p (if b then e ∷ calls_of c h else calls_of c h)
    by_caller true q true s rest = ap (λ es. e ∷ es) rest ∙ ap (λ t. if t then e ∷ filter p (calls_of c h) else filter p (calls_of c h)) (sym s)
    by_caller true q false s rest = rest ∙ ap (λ t. if t then e ∷ filter p (calls_of c h) else filter p (calls_of c h)) (sym s)
    by_caller false q true s rest = absurd (let z : true ≡ false = sym s ∙ none e q in cc)
    by_caller false q false s rest = rest

count_own : (p : RegEntry → Bool) (c : ℕ) → ((e : RegEntry) → eqb (caller_of e) c ≡ false → p e ≡ false) → (h : List RegEntry) → count_by p h ≡ count_by p (calls_of c h)
count_own p c none h = sym (length-filter p h) ∙ (ap length (filter_own p c none h) ∙ length-filter p (calls_of c h))

gets_other : (c id : ℕ) (e : RegEntry) → eqb (caller_of e) c ≡ false → gets_as c id e ≡ false
gets_other c id (Get by taken ok) other = and_left (ok && eqb by c) (eqb taken id) (and_right ok (eqb by c) other)
gets_other c id (Claim by larval) other = refl
gets_other c id (End by larval answer) other = refl
gets_other c id (Enlist by spec answer) other = refl
gets_other c id (Look by text plain answer) other = refl
gets_other c id (Waited by larval) other = refl
gets_other c id (Unlist by driver answer) other = refl
gets_other c id (Put by given) other = refl
gets_other c id (Refs by driver) other = refl
gets_other c id (entry.List by) other = refl

puts_other : (c id : ℕ) (e : RegEntry) → eqb (caller_of e) c ≡ false → puts_as c id e ≡ false
puts_other c id (Put by given) other = and_left (eqb by c) (eqb given id) other
puts_other c id (Get by taken ok) other = refl
puts_other c id (Claim by larval) other = refl
puts_other c id (End by larval answer) other = refl
puts_other c id (Enlist by spec answer) other = refl
puts_other c id (Look by text plain answer) other = refl
puts_other c id (Waited by larval) other = refl
puts_other c id (Unlist by driver answer) other = refl
puts_other c id (Refs by driver) other = refl
puts_other c id (entry.List by) other = refl

-- a caller knows its references by its own entries
pub reference_own : (c id : ℕ) (h : List RegEntry) → HasReference (calls_of c h) c id → HasReference h c id
reference_own c id h has = omega (arith, has, count_own (puts_as c id) c (puts_other c id) h, count_own (gets_as c id) c (gets_other c id) h)

-- what is being built was claimed by its builder, and hasn't ended
abbrev OpenIsOwn : List RegEntry → Type 0
OpenIsOwn h = (c n : ℕ) → list_any (λ m. eqb m n) (building h c) ≡ true → (claimer h n ≡ Some c) × (ended_as h n ≡ None)

any_snoc : (ns : List ℕ) (m n : ℕ) → list_any (λ x. eqb x n) (ns ++ m ∷ []) ≡ true → (list_any (λ x. eqb x n) ns ≡ true) ⊎ (m ≡ n)
any_snoc [] m n e = by_test (eqb m n) refl e
  where
    by_test : (b : Bool) → eqb m n ≡ b → (b || false) ≡ true → (false ≡ true) ⊎ (m ≡ n)
    by_test true q z = inr (eqb-true m n q)
    by_test false q z = absurd cc
any_snoc (x ∷ ns) m n e = by_test (eqb x n) e (any_snoc ns m n)
  where
    by_test : (b : Bool) → (b || list_any (λ y. eqb y n) (ns ++ m ∷ [])) ≡ true → (list_any (λ y. eqb y n) (ns ++ m ∷ []) ≡ true → (list_any (λ y. eqb y n) ns ≡ true) ⊎ (m ≡ n)) → ((b || list_any (λ y. eqb y n) ns) ≡ true) ⊎ (m ≡ n)
    by_test true z rest = inl refl
    by_test false z rest = rest z

any_left : (ns : List ℕ) (m n : ℕ) → list_any (λ x. eqb x n) (filter (λ x. not (eqb x m)) ns) ≡ true → (list_any (λ x. eqb x n) ns ≡ true) × (m ≢ n)
any_left [] m n e = absurd cc
any_left (x ∷ ns) m n e = by_test (eqb x m) refl (eqb x n) refl e (any_left ns m n)
  where
    by_test : (b : Bool) → eqb x m ≡ b → (d : Bool) → eqb x n ≡ d → list_any (λ y. eqb y n) (if not b then x ∷ filter (λ y. not (eqb y m)) ns else filter (λ y. not (eqb y m)) ns) ≡ true
        → (list_any (λ y. eqb y n) (filter (λ y. not (eqb y m)) ns) ≡ true → (list_any (λ y. eqb y n) ns ≡ true) × (m ≢ n)) → ((d || list_any (λ y. eqb y n) ns) ≡ true) × (m ≢ n)
    by_test true q true s z rest = (refl, (rest z).1)
    by_test true q false s z rest = rest z
    by_test false q true s z rest = (refl, λ k. absurd (let a : x ≡ n = eqb-true x n s in let w : eqb x m ≡ true = eq-eqb x m (a ∙ sym k) in let v : true ≡ false = sym w ∙ q in cc))
    by_test false q false s z rest = rest (ap (λ d. d || list_any (λ y. eqb y n) (filter (λ y. not (eqb y m)) ns)) (sym s) ∙ z)

pending_there : (xs : List Larval) (n : ℕ) → option_map_or (λ larval. is_none larval.ended) (slice_get xs n) false ≡ true → n < length xs
pending_there [] n h = absurd cc
pending_there (x ∷ xs) zero h = omega arith
pending_there (x ∷ xs) (suc n) h = let r : n < length xs = pending_there xs n h in omega arith

ends_other : (n m : ℕ) (e : Ended) → m ≢ n → (if eqb m n then Some e else None) ≡ None
ends_other n m e ne = ap (λ b. if b then Some e else None) (ne_eqb m n ne)

not_ended : (o : Option Ended) → is_none o ≡ true → o ≡ None
not_ended None e = refl
not_ended (Some x) e = absurd cc

pending_none : (xs : List Larval) (n : ℕ) → option_map_or (λ larval. is_none larval.ended) (slice_get xs n) false ≡ true → option_and_then (λ larval. larval.ended) (slice_get xs n) ≡ None
pending_none [] n e = refl
pending_none (x ∷ xs) zero e = not_ended x.ended e
pending_none (x ∷ xs) (suc n) e = pending_none xs n e

or_both : {B : Type 0} (o p : Option B) → o ≡ None → p ≡ None → option_or o p ≡ None
or_both None p e f = f
or_both (Some b) p e f = absurd cc

claim_new : (c m : ℕ) (o : Option ℕ) → o ≡ None → option_or o (if eqb m m then Some c else None) ≡ Some c
claim_new c m None e = ap (λ b. if b then Some c else None) (eq-eqb m m refl)
claim_new c m (Some x) e = absurd cc

open_step : (h : List RegEntry) (e : RegEntry) → OpenIsOwn h → IsRight h e → OpenIsOwn (h ++ e ∷ [])
open_step h e open_own right c n is = by_entry e refl right (ap (λ ns. list_any (λ m. eqb m n) ns) (sym (building-push h e c)) ∙ is)
  where
    -- an entry that ends nothing of it
    still : (x : RegEntry) → e ≡ x → ends n x ≡ None → list_any (λ m. eqb m n) (building h c) ≡ true → (claimer (h ++ e ∷ []) n ≡ Some c) × (ended_as (h ++ e ∷ []) n ≡ None)
    still x q none was =
        let p = open_own c n was in
        (claimed-stays h e n c p.0, ended-push h e n (claimed-there h n c p.0) ∙ or_both (ended_as h n) (ends n e) p.1 (ap (λ y. ends n y) q ∙ none))

    -- the caller claims it now
    claimed_now : (by larval : ℕ) → e ≡ Claim by larval → IsPending h larval × (claimer h larval ≡ None) → larval ≡ n → by ≡ c → (claimer (h ++ e ∷ []) n ≡ Some c) × (ended_as (h ++ e ∷ []) n ≡ None)
    claimed_now by larval q r same own =
        let lt : larval < length (larvals_of h) = pending_there (larvals_of h) larval r.0 in
        let lt' : n < length (texts h) = omega (arith, lt, length-larvals_of h, same) in
        let none : claimer h n ≡ None = ap (λ m. claimer h m) (sym same) ∙ r.1 in
        let going : ended_as h n ≡ None = ap (λ m. ended_as h m) (sym same) ∙ pending_none (larvals_of h) larval r.0 in (
          claimed-push h e n lt' ∙ (ap (λ y. option_or (claimer h n) (claims n y)) q ∙ ((λ i. option_or (claimer h n) (if eqb (same i) n then Some (own i) else None)) ∙ claim_new c n (claimer h n) none)),
          ended-push h e n lt' ∙ or_both (ended_as h n) (ends n e) going (ap (λ y. ends n y) q),
        )

    by_entry : (x : RegEntry) → e ≡ x → IsRight h x → list_any (λ m. eqb m n) (building_after c (building h c) e) ≡ true → (claimer (h ++ e ∷ []) n ≡ Some c) × (ended_as (h ++ e ∷ []) n ≡ None)
    by_entry (Claim by larval) q r was = by_caller (eqb by c) refl (ap (λ y. list_any (λ m. eqb m n) (building_after c (building h c) y)) (sym q) ∙ was)
      where
        by_caller : (b : Bool) → eqb by c ≡ b → list_any (λ m. eqb m n) (if b then building h c ++ larval ∷ [] else building h c) ≡ true → (claimer (h ++ e ∷ []) n ≡ Some c) × (ended_as (h ++ e ∷ []) n ≡ None)
        by_caller true own z = by_place (any_snoc (building h c) larval n z)
          where
            by_place : (list_any (λ m. eqb m n) (building h c) ≡ true) ⊎ (larval ≡ n) → (claimer (h ++ e ∷ []) n ≡ Some c) × (ended_as (h ++ e ∷ []) n ≡ None)
            by_place (inl old) = still (Claim by larval) q refl old
            by_place (inr new) = claimed_now by larval q r new (eqb-true by c own)
        by_caller false other z = still (Claim by larval) q refl z
    by_entry (End by larval answer) q r was = by_caller (eqb by c) refl (ap (λ y. list_any (λ m. eqb m n) (building_after c (building h c) y)) (sym q) ∙ was)
      where
        by_caller : (b : Bool) → eqb by c ≡ b → list_any (λ m. eqb m n) (if b then filter (λ m. not (eqb m larval)) (building h c) else building h c) ≡ true → (claimer (h ++ e ∷ []) n ≡ Some c) × (ended_as (h ++ e ∷ []) n ≡ None)
        by_caller true own z = let p = any_left (building h c) larval n z in still (End by larval answer) q (ends_other n larval _ p.1) p.0
        by_caller false other z = still (End by larval answer) q (ends_other n larval _ apart) z
          where
            apart : larval ≢ n
            apart same =
                let p = open_own c n z in
                let s : Some by ≡ Some c = sym r.0 ∙ (ap (λ m. claimer h m) same ∙ p.0) in
                let t : by ≡ c = cc in
                absurd (let w : true ≡ false = sym (eq-eqb by c t) ∙ other in cc)
    by_entry (Enlist by spec answer) q r was = still (Enlist by spec answer) q refl (ap (λ y. list_any (λ m. eqb m n) (building_after c (building h c) y)) (sym q) ∙ was)
    by_entry (Look by text plain answer) q r was = still (Look by text plain answer) q refl (ap (λ y. list_any (λ m. eqb m n) (building_after c (building h c) y)) (sym q) ∙ was)
    by_entry (Waited by larval) q r was = still (Waited by larval) q refl (ap (λ y. list_any (λ m. eqb m n) (building_after c (building h c) y)) (sym q) ∙ was)
    by_entry (Unlist by driver answer) q r was = still (Unlist by driver answer) q refl (ap (λ y. list_any (λ m. eqb m n) (building_after c (building h c) y)) (sym q) ∙ was)
    by_entry (Get by id ok) q r was = still (Get by id ok) q refl (ap (λ y. list_any (λ m. eqb m n) (building_after c (building h c) y)) (sym q) ∙ was)
    by_entry (Put by id) q r was = still (Put by id) q refl (ap (λ y. list_any (λ m. eqb m n) (building_after c (building h c) y)) (sym q) ∙ was)
    by_entry (Refs by driver) q r was = still (Refs by driver) q refl (ap (λ y. list_any (λ m. eqb m n) (building_after c (building h c) y)) (sym q) ∙ was)
    by_entry (entry.List by) q r was = still (entry.List by) q refl (ap (λ y. list_any (λ m. eqb m n) (building_after c (building h c) y)) (sym q) ∙ was)

pub open_own : (h : List RegEntry) → LegalReg h → (c n : ℕ) → list_any (λ m. eqb m n) (building h c) ≡ true → (claimer h n ≡ Some c) × (ended_as h n ≡ None)
open_own h legal = legal_along OpenIsOwn open_step [] h (λ c n is. absurd cc) legal

pub last_any : (ns : List ℕ) (m : ℕ) → last_of ns ≡ Some m → list_any (λ x. eqb x m) ns ≡ true
last_any [] m e = absurd cc
last_any (x ∷ []) m e = let s : x ≡ m = cc in ap (λ b. b || false) (eq-eqb x m s)
last_any (x ∷ y ∷ ns) m e = here (eqb x m) (last_any (y ∷ ns) m e)
  where
    here : (b : Bool) → list_any (λ z. eqb z m) (y ∷ ns) ≡ true → (b || list_any (λ z. eqb z m) (y ∷ ns)) ≡ true
    here true q = refl
    here false q = q

-- nobody else's look belongs to a larval that the caller claimed
look_other : (m c : ℕ) (before : List RegEntry) (e : RegEntry) (whole : List RegEntry) → LegalReg before → ((d : ℕ) → claimer before m ≡ Some d → claimer whole m ≡ Some d) → claimer whole m ≡ Some c → eqb (caller_of e) c ≡ false → if_of m (look_for before e) ≡ None
look_other m c before (Look by text true answer) whole legal stays own other = by_last (last_of (building before by)) refl
  where
    by_last : (o : Option ℕ) → last_of (building before by) ≡ o → if_of m (option_and_then (λ larval. Some (larval, answer)) o) ≡ None
    by_last None q = refl
    by_last (Some n) q = by_test (eqb n m) refl
      where
        by_test : (b : Bool) → eqb n m ≡ b → (if b then Some answer else None) ≡ None
        by_test false z = refl
        by_test true z =
            let same : n ≡ m = eqb-true n m z in
            let its : claimer before m ≡ Some by = ap (λ k. claimer before k) (sym same) ∙ (open_own before legal by n (last_any (building before by) n q)).0 in
            let s : Some by ≡ Some c = sym (stays by its) ∙ own in
            let t : by ≡ c = cc in
            absurd (let w : true ≡ false = sym (eq-eqb by c t) ∙ other in cc)
look_other m c before (Look by text false answer) whole legal stays own other = refl
look_other m c before (Claim by larval) whole legal stays own other = refl
look_other m c before (End by larval answer) whole legal stays own other = refl
look_other m c before (Enlist by spec answer) whole legal stays own other = refl
look_other m c before (Waited by larval) whole legal stays own other = refl
look_other m c before (Unlist by driver answer) whole legal stays own other = refl
look_other m c before (Get by id ok) whole legal stays own other = refl
look_other m c before (Put by id) whole legal stays own other = refl
look_other m c before (Refs by driver) whole legal stays own other = refl
look_other m c before (entry.List by) whole legal stays own other = refl

-- and its own belong to it by its own entries
look_own : (c : ℕ) (before : List RegEntry) (e : RegEntry) → eqb (caller_of e) c ≡ true → look_for before e ≡ look_for (calls_of c before) e
look_own c before (Look by text true answer) own =
    let s : by ≡ c = eqb-true by c own in
    ap (λ ns. option_and_then (λ larval. Some (larval, answer)) (last_of ns)) (ap (λ d. building before d) s ∙ (building_own c before ∙ ap (λ d. building (calls_of c before) d) (sym s)))
look_own c before (Look by text false answer) own = refl
look_own c before (Claim by larval) own = refl
look_own c before (End by larval answer) own = refl
look_own c before (Enlist by spec answer) own = refl
look_own c before (Waited by larval) own = refl
look_own c before (Unlist by driver answer) own = refl
look_own c before (Get by id ok) own = refl
look_own c before (Put by id) own = refl
look_own c before (Refs by driver) own = refl
look_own c before (entry.List by) own = refl

looks_own_after : (m c : ℕ) (before later whole : List RegEntry) → whole ≡ before ++ later → LegalReg whole → claimer whole m ≡ Some c → looks_for m before later ≡ looks_for m (calls_of c before) (calls_of c later)
looks_own_after m c before [] whole is legal own = refl
looks_own_after m c before (e ∷ later) whole is legal own = by_caller (eqb (caller_of e) c) refl (looks_own_after m c (before ++ e ∷ []) later whole (is ∙ sym (append_assoc before (e ∷ []) later)) legal own)
  where
    front : LegalReg before
    front = legal_front [] before (e ∷ later) (subst LegalReg is legal)

    stays : (d : ℕ) → claimer before m ≡ Some d → claimer whole m ≡ Some d
    stays d q = ap (λ x. claimer x m) is ∙ claimed_more before (e ∷ later) m d q

    by_caller : (b : Bool) → eqb (caller_of e) c ≡ b → looks_for m (before ++ e ∷ []) later ≡ looks_for m (calls_of c (before ++ e ∷ [])) (calls_of c later)
        → cons_option (if_of m (look_for before e)) (looks_for m (before ++ e ∷ []) later) ≡ looks_for m (calls_of c before) (if b then e ∷ calls_of c later else calls_of c later)
    by_caller true q rest =
        ap (λ ls. cons_option (if_of m (look_for before e)) ls) (rest ∙ ap (λ x. looks_for m x (calls_of c later)) (calls_own c before e (eqb-true (caller_of e) c q)))
        ∙ ap (λ o. cons_option (if_of m o) (looks_for m (calls_of c before ++ e ∷ []) (calls_of c later))) (look_own c before e q)
    by_caller false q rest =
        ap (λ o. cons_option o (looks_for m (before ++ e ∷ []) later)) (look_other m c before e whole front stays own q)
        ∙ (rest ∙ ap (λ x. looks_for m x (calls_of c later)) (calls_other c before e q))

pub looks_own : (m c : ℕ) (h : List RegEntry) → LegalReg h → claimer h m ≡ Some c → looks_for m [] h ≡ looks_for m [] (calls_of c h)
looks_own m c h legal own = looks_own_after m c [] h h refl legal own
