-- Which entries are held, from the newest to the oldest.
use Rattle.std.proofs.Common.{◌≡◌, ℕ, zero, suc, ◌+◌, ◌<◌, ◌≤◌, Bool, true, false, cond, ◌&&◌, ◌||◌, List, [], ◌∷◌, length, map, drop, get_or, refl, sym, ◌∙◌, ap, arith}
use Rattle.std.specs.Prelude.{◌==◌, nat_lt, count_by}
use Rattle.std.specs.List.{list_any}
use Rattle.std.proofs.lemmas.Bool.{lt-ltb}
use Rattle.std.proofs.lemmas.List.{drop_more}
use Rattle.std.proofs.lemmas.List.Recursion.{is_count_by}
use Rattle.std.proofs.Math.Bool.{or_comm}
use Rattle.alg_registry.specs.declared.row.Row.{Row}
use Rattle.alg_registry.specs.Rows.{counted, is_held, holders, stands_on}
use Rattle.alg_registry.specs.Answers.{held_count}
use Rattle.trace_check.specs.declared.register.Entry.{Entry}
use Rattle.trace_check.specs.Held.{AreMarked, holds}
use Rattle.trace_check.specs.Registers.{row_of}

-- Counting by cases on the list.
abbrev counts : {X : Type 0} → (X → Bool) → List X → ℕ
counts p [] = 0
counts p (x ∷ xs) = cond (p x) (1 + counts p xs) (counts p xs)

counts_is : {X : Type 0} (p : X → Bool) (xs : List X) → counts p xs ≡ count_by p xs
counts_is p xs = is_count_by (counts p) p refl (λ x ys. refl) xs

pub count_first : {X : Type 0} (p : X → Bool) (x : X) (xs : List X) → count_by p (x ∷ xs) ≡ cond (p x) (1 + count_by p xs) (count_by p xs)
count_first p x xs = sym (counts_is p (x ∷ xs)) ∙ ap (λ n. cond (p x) (1 + n) n) (counts_is p xs)

some_first : (b c : Bool) (n : ℕ) → nat_lt 0 n ≡ c → nat_lt 0 (cond b (1 + n) n) ≡ (b || c)
some_first true c n h = lt-ltb 0 (1 + n) (omega arith)
some_first false c n h = h

some_counted : {X : Type 0} (p : X → Bool) (xs : List X) → nat_lt 0 (counts p xs) ≡ list_any p xs
some_counted p [] = refl
some_counted p (x ∷ xs) = some_first (p x) (list_any p xs) (counts p xs) (some_counted p xs)

pub any_counted : {X : Type 0} (p : X → Bool) (xs : List X) → nat_lt 0 (count_by p xs) ≡ list_any p xs
any_counted p xs = ap (nat_lt 0) (sym (counts_is p xs)) ∙ some_counted p xs

-- What the newer entries make of the older.
abbrev pub newer : List Entry → ℕ → List Row
newer entries place = counted place (map row_of (drop place entries))

abbrev pub uses : ℕ → Row → Bool
uses id row = is_held row && stands_on id row

pub record HoldsFrom (entries : List Entry) (used : List Bool) (count place : ℕ) : Type 0 where
  pub within : place ≤ length entries
  pub len : length used ≡ length entries
  pub few : count + place ≤ length entries
  pub counts : count ≡ held_count (newer entries place)
  pub marks : (id : ℕ) (d : Bool) → id < length used → get_or used id d ≡ list_any (uses id) (newer entries place)

-- an entry with its references
abbrev with_references : Entry → ℕ → Row
with_references e n = record (row_of e) { references = n }

newer_more : (entries : List Entry) (place : ℕ) (e : Entry) → place < length entries → e ≡ get_or entries place e
    → newer entries place ≡ with_references e (e.taken + holders place (newer entries (place + 1))) ∷ newer entries (place + 1)
newer_more entries place e within here =
    ap (λ es. counted place (map row_of es)) (drop_more entries place e within ∙ ap (λ x. x ∷ drop (place + 1) entries) (sym here))

held_by : (listed b : Bool) (taken n : ℕ) → nat_lt 0 n ≡ b → (listed || (nat_lt 0 taken || b)) ≡ (listed || nat_lt 0 (taken + n))
held_by true b taken n h = refl
held_by false b zero n h = sym h ∙ ap (nat_lt 0) (omega arith)
held_by false b (suc taken) n h = ap (λ x. x || b) (lt-ltb 0 (suc taken) (omega arith)) ∙ sym (lt-ltb 0 (suc taken + n) (omega arith))

held_here : (entries : List Entry) (used : List Bool) (count place : ℕ) (e : Entry) (b : Bool) → place < length entries → b ≡ get_or used place b → HoldsFrom entries used count (place + 1)
    → holds e b ≡ is_held (with_references e (e.taken + holders place (newer entries (place + 1))))
held_here entries used count place e b within is s =
    held_by e.listed b e.taken (holders place (newer entries (place + 1)))
    (any_counted (uses place) (newer entries (place + 1)) ∙ (sym (s.marks place b (let l = s.len in omega arith)) ∙ sym is))

count_step : (held : Bool) (x : Row) (xs : List Row) → is_held x ≡ held → held_count (x ∷ xs) ≡ cond held (1 + held_count xs) (held_count xs)
count_step held x xs h = count_first is_held x xs ∙ ap (λ b. cond b (1 + held_count xs) (held_count xs)) h

uses_step : (held : Bool) (id : ℕ) (x : Row) (xs : List Row) → is_held x ≡ held → list_any (uses id) (x ∷ xs) ≡ ((held && stands_on id x) || list_any (uses id) xs)
uses_step held id x xs h = ap (λ b. (b && stands_on id x) || list_any (uses id) xs) h

pub goes_on_held : (entries : List Entry) (used used' : List Bool) (count place : ℕ) (e : Entry) (b : Bool) → place < length entries → e ≡ get_or entries place e → b ≡ get_or used place b → holds e b ≡ true
    → AreMarked used used' e.spec.below → HoldsFrom entries used count (place + 1) → HoldsFrom entries used' (count + 1) place
goes_on_held entries used used' count place e b within here is held m s =
    let x = with_references e (e.taken + holders place (newer entries (place + 1))) in
    let h : is_held x ≡ true = sym (held_here entries used count place e b within is s) ∙ held in
    let n = newer_more entries place e within here in
    record {
      within = omega arith;
      len = m.len ∙ s.len;
      few = (let f = s.few in omega arith);
      counts =
          (let c = s.counts in let t = count_step true x (newer entries (place + 1)) h in
          let z : count + 1 ≡ 1 + held_count (newer entries (place + 1)) = omega arith in
          z ∙ (sym t ∙ ap held_count (sym n)));
      marks = λ id d in'.
          m.each id d (let l = m.len in omega arith)
          ∙ (or_comm (get_or used id d) (list_any (λ child. child == id) e.spec.below)
          ∙ (ap (λ u. list_any (λ child. child == id) e.spec.below || u) (s.marks id d (let l = m.len in omega arith))
          ∙ (sym (uses_step true id x (newer entries (place + 1)) h) ∙ ap (list_any (uses id)) (sym n))));
    }

pub goes_on_free : (entries : List Entry) (used : List Bool) (count place : ℕ) (e : Entry) (b : Bool) → place < length entries → e ≡ get_or entries place e → b ≡ get_or used place b → holds e b ≡ false
    → HoldsFrom entries used count (place + 1) → HoldsFrom entries used count place
goes_on_free entries used count place e b within here is free s =
    let x = with_references e (e.taken + holders place (newer entries (place + 1))) in
    let h : is_held x ≡ false = sym (held_here entries used count place e b within is s) ∙ free in
    let n = newer_more entries place e within here in
    record {
      within = omega arith;
      len = s.len;
      few = (let f = s.few in omega arith);
      counts = s.counts ∙ (sym (count_step false x (newer entries (place + 1)) h) ∙ ap held_count (sym n));
      marks = λ id d in'. s.marks id d in' ∙ (sym (uses_step false id x (newer entries (place + 1)) h) ∙ ap (list_any (uses id)) (sym n));
    }
