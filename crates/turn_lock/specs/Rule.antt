-- The rule of the lock's table, and what each step tells.
-- Word 0 is the next ticket, word 1 the ticket that is served. The slot holds the value.
use Rattle.std.specs.Prelude.{◌≡◌, ◌≢◌, ℕ, ◌+◌, ◌-◌, ◌%◌, ◌^◌, ◌<◌, ◌≤◌, List, [], ◌∷◌, ◌++◌, Option, Some, None, Bool, true, false, zero, suc}
use mathlib.Core.Option.{some, none}
use lib.ListN.{get_elem?}
use Rattle.std.specs.Global.{Box}
use Rattle.atomic_table.specs.Table.{State, Me, Step, rest}
use Rattle.turn_lock.specs.Turns.{StartsWith, of, Each, Known, Shows, skipped, longer_of}
use Rattle.turn_lock.specs.declared.view.View.{View}
use Rattle.turn_lock.specs.declared.view.Stage.{Stage}
use Rattle.turn_lock.specs.declared.view.Stage.TheVariants.{Spent, Idle, Waiting, Holding}

-- how many tickets a pass holds
abbrev pub waits : Stage → ℕ
waits Spent = 0
waits Idle = 0
waits Waiting = 1
waits Holding = 1

abbrev pub is_holding : Stage → Bool
is_holding Spent = false
is_holding Idle = false
is_holding Waiting = false
is_holding Holding = true

-- the slot is out, and is empty
abbrev pub is_out : {T : Type 0} → List (ℕ × Option T) → Bool
is_out [] = false
is_out ((zero, None) ∷ []) = true
is_out ((zero, None) ∷ y ∷ ys) = false
is_out ((zero, Some x) ∷ xs) = false
is_out ((suc k, x) ∷ xs) = false

-- a pass that is spent has no part in the rule
abbrev pub IfLive : Stage → Type 0 → Type 0
IfLive Spent A = Unit {0}
IfLive Idle A = A
IfLive Waiting A = A
IfLive Holding A = A

-- how many numbers a pass has, its own and those that it may give
abbrev pub numbers : Stage → ℕ → ℕ
numbers Spent next = 0
numbers Idle next = 2 ^ 32 - next
numbers Waiting next = 2 ^ 32 - next
numbers Holding next = 2 ^ 32 - next

abbrev pub total : {V : Type 0} → (V → ℕ) → List V → ℕ
total f [] = 0
total f (v ∷ vs) = f v + total f vs

-- where a pass stands in the queue
abbrev pub InQueue : ℕ → ℕ → Stage → ℕ → Type 0
InQueue drawn serving Spent t = Unit {0}
InQueue drawn serving Idle t = Unit {0}
InQueue drawn serving Waiting t = (serving ≤ t) × (t < drawn)
InQueue drawn serving Holding t = (serving ≡ t) × (t < drawn)

-- what a value in a piece of memory of its own stands for
abbrev pub boxed : {T E : Type 0} → (T → List E) → Box T → List E
boxed told b = told b.value

module _ {E : Type 0} where
  abbrev pub known : View E → Known E
  known v = record { number = v.number; next = v.next; seen = v.seen; made = v.made; ended = v.ended }

  abbrev pub first_view : View E
  first_view = record { stage = Idle; ticket = 0; number = 0; next = 1; seen = []; told = []; made = []; ended = [] }

  -- the view of a badge that has one
  abbrev pub viewed : List (View E) → View E
  viewed [] = first_view
  viewed (v ∷ vs) = v

  abbrev pub waiting : View E → ℕ
  waiting v = waits v.stage

  abbrev pub room : View E → ℕ
  room v = numbers v.stage v.next

  -- the pass whose turn it is has seen the whole history, and has the slot
  abbrev pub HasTurn : {S : Type 0} → List (mathlib.Core.Option.Option S) → List E → Stage → List E → Type 0
  HasTurn homes log Spent seen = Unit {0}
  HasTurn homes log Idle seen = Unit {0}
  HasTurn homes log Waiting seen = Unit {0}
  HasTurn homes log Holding seen = (homes ≡ none ∷ []) × (seen ≡ log)

  -- what a pass knows of the history, and its numbers
  pub record Fits (by : E → ℕ) (log : List E) (v : View E) : Type 0 where
    pub seen : StartsWith log v.seen
    pub told : StartsWith log v.told
    pub made : of by v.number log ≡ v.made
    pub own : of by v.number v.seen ≡ v.made
    pub ended : Each (λ x. (of by x.0 log ≡ x.1) × (v.number ≢ x.0) × (v.number ≡ 0 → x.0 < v.next)) v.ended
    pub below : v.number < v.next
    pub small : v.next < 2 ^ 32
    pub gives : v.number ≡ 0 → Each (λ e. by e < v.next) log
    pub last : v.number ≢ 0 → v.next + 1 ≡ 2 ^ 32

  -- what two passes have to do with one another
  pub record Apart (v w : View E) : Type 0 where
    pub tickets : waits v.stage ≡ 1 → waits w.stage ≡ 1 → v.ticket ≢ w.ticket
    pub numbers : v.number ≢ w.number
    pub above : w.number ≡ 0 → v.number < w.next
    pub ended : Each (λ x. (w.number ≢ x.0) × (w.number ≡ 0 → x.0 < w.next)) v.ended

  module _ {T : Type 0} (told : T → List E) (by : E → ℕ) where
    pub record Turned (s : State (Option T) (View E)) : Type 0 where
      pub log : List E
      pub drawn : ℕ
      pub serving : ℕ
      pub words : s.words ≡ drawn % 2 ^ 64 ∷ serving % 2 ^ 64 ∷ []
      pub queue : drawn ≡ serving + total waiting s.views
      pub roomy : total room s.views ≤ 2 ^ 32
      pub home : (x : Option T) → s.homes ≡ some x ∷ [] → (y : T) × (x ≡ Some y) × (told y ≡ log)
      pub away : s.homes ≡ none ∷ [] → (j : ℕ) × (v : View E) × (get_elem? s.views j ≡ some v) × (v.stage ≡ Holding)
      pub places : (j : ℕ) (v : View E) → get_elem? s.views j ≡ some v → InQueue drawn serving v.stage v.ticket × HasTurn s.homes log v.stage v.seen
      pub fits : (j : ℕ) (v : View E) → get_elem? s.views j ≡ some v → IfLive v.stage (Fits by log v)
      pub apart : (i j : ℕ) (v w : View E) → i ≢ j → get_elem? s.views i ≡ some v → get_elem? s.views j ≡ some w → IfLive v.stage (IfLive w.stage (Apart v w))

  -- the same pass, in a queue
  abbrev pub staged : View E → Stage → ℕ → View E
  staged v st t = record { stage = st; ticket = t; number = v.number; next = v.next; seen = v.seen; told = v.told; made = v.made; ended = v.ended }

  abbrev pub drew : {S : Type 0} → Step S → Me S (View E) → ℕ → Me S (View E) → Type 0
  drew st m n m' = (m'.1 ≡ m.1) × (m'.0 ≡ staged m.0 Waiting m'.0.ticket) × (n ≡ m'.0.ticket % 2 ^ 64)

  abbrev pub turned : View E → List E → View E
  turned v log = record { stage = Holding; ticket = v.ticket; number = v.number; next = v.next; seen = log; told = log; made = v.made; ended = v.ended }

  abbrev pub found : {T : Type 0} → (T → List E) → (E → ℕ) → Step (Option T) → Me (Option T) (View E) → ℕ → Me (Option T) (View E) → Type 0
  found {T} told by st m n m' =
      (n ≡ m.0.ticket % 2 ^ 64 → (y : T) × (m'.1 ≡ (0, Some y) ∷ m.1) × (m'.0 ≡ turned m.0 (told y)) × Shows by (known m.0) (told y))
      × (n ≢ m.0.ticket % 2 ^ 64 → m' ≡ m)

  abbrev pub longer : View E → E → View E
  longer v e = record { stage = v.stage; ticket = v.ticket; number = v.number; next = v.next; seen = v.seen ++ e ∷ []; told = v.seen ++ e ∷ []; made = v.made ++ e ∷ []; ended = v.ended }

  abbrev pub appended : {T : Type 0} → (T → List E) → (E → ℕ) → Step (Option T) → Me (Option T) (View E) → ℕ → Me (Option T) (View E) → Type 0
  appended {T} told by st m n m' = (m'.1 ≡ m.1) × ((y : T) × (e : E) × (m.1 ≡ (0, Some y) ∷ rest m.1) × (by e ≡ m.0.number) × (told y ≡ m.0.seen ++ e ∷ []) × (m'.0 ≡ longer m.0 e))

  abbrev pub served : {S : Type 0} → Step S → Me S (View E) → ℕ → Me S (View E) → Type 0
  served st m n m' = (m'.1 ≡ rest m.1) × (m'.0 ≡ staged m.0 Idle 0)

  -- the pass that gives the number n
  abbrev pub giver : ℕ → View E → View E
  giver n v = record { stage = v.stage; ticket = v.ticket; number = v.number; next = n + 1; seen = v.seen; told = v.told; made = v.made; ended = v.ended ++ skipped v.next (n - v.next) }

  -- the pass that gets it
  abbrev pub receiver : ℕ → View E → View E
  receiver n v = record { stage = Idle; ticket = 0; number = n; next = 2 ^ 32 - 1; seen = v.seen; told = v.seen; made = []; ended = v.ended }

  abbrev pub joiner : View E → View E → View E
  joiner v w = record { stage = v.stage; ticket = v.ticket; number = v.number; next = v.next; seen = v.seen; told = w.seen; made = v.made; ended = v.ended ++ w.ended ++ (w.number, w.made) ∷ [] }

  abbrev pub spent : View E
  spent = record { stage = Spent; ticket = 0; number = 0; next = 0; seen = []; told = []; made = []; ended = [] }

  -- what two passes have seen, put together
  abbrev pub together : View E → View E
  together v = record { stage = v.stage; ticket = v.ticket; number = v.number; next = v.next; seen = longer_of v.seen v.told; told = longer_of v.seen v.told; made = v.made; ended = v.ended }

  abbrev pub compared : {S : Type 0} → Step S → Me S (View E) → ℕ → Me S (View E) → Type 0
  compared st m n m' = (m'.1 ≡ m.1) × (m'.0 ≡ together m.0) × StartsWith m'.0.seen m.0.seen × StartsWith m'.0.seen m.0.told
