-- What a pass meets at its turn, and what it knows afterwards. `by` tells the number under which an entry was made;
-- `Kept` is what holds of every history of the lock.
use Rattle.std.specs.Prelude.{◌≡◌, ◌⊎◌, ℕ, List, [], ◌∷◌, ◌++◌}
use Rattle.turn_lock.specs.Turns.{Known, Shows, of, sees, adds}

module _ {E : Type 0} (by : E → ℕ) (Kept : List E → Type 0) where
  -- The history at a pass's turn: what the pass had seen, then entries of others.
  pub record Meets (k : Known E) (h : List E) : Type 0 where
    pub others : List E
    pub goes_on : h ≡ k.seen ++ others
    pub apart : of by k.number others ≡ []
    pub kept : Kept h
    pub shows : Shows by k h

  -- the pass has its turn on a history of which this holds
  abbrev pub AtTurn : Known E → (List E → Type 0) → Type 0
  AtTurn k P = (h : List E) × Meets k h × P h

  -- The pass went on from k to l: it has seen `between` more, of which these are its own, and it made no other entry.
  pub record GoesOn (k l : Known E) (own : List E) : Type 0 where
    pub number : l.number ≡ k.number
    pub next : l.next ≡ k.next
    pub ended : l.ended ≡ k.ended
    pub between : List E
    pub seen : l.seen ≡ k.seen ++ between
    pub mine : of by k.number between ≡ own
    pub made : l.made ≡ k.made ++ own
    pub kept : (l.seen ≡ k.seen) ⊎ Kept l.seen

module _ {E : Type 0} where
  -- the pass has added this entry to this history, and has seen all of it
  abbrev pub Enters : (List E → Type 0) → Known E → List E → E → Known E → Type 0
  Enters Kept k h e l = (l ≡ adds (sees k h) e) × Kept (h ++ e ∷ [])

  -- the pass has added nothing to this history, and has seen all of it
  abbrev pub Leaves : Known E → List E → Known E → Type 0
  Leaves k h l = l ≡ sees k h

  -- the pass has seen each entry that it made
  abbrev pub IsOwn : (E → ℕ) → Known E → Type 0
  IsOwn by k = of by k.number k.seen ≡ k.made
