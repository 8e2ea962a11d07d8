-- What a crew leaves of a pass.
use Rattle.std.specs.Prelude.{◌≡◌, ◌⊎◌, ℕ, ◌+◌, ◌<◌, ◌≤◌, Bool, true, List, [], ◌++◌}
use Rattle.std.specs.List.{list_all}
use Rattle.turn_lock.specs.Turns.{Known, StartsWith, Each, Has, Shows, of}
use Rattle.turn_lock.specs.PassLaws.{IsOwn}
use Rattle.board.specs.declared.entry.BoardEntry.{BoardEntry}
use Rattle.board.specs.Legal.{is_shut}

module _ {E : Type 0} where
  -- the same pass, with this next number
  abbrev pub with_next : ℕ → Known E → Known E
  with_next n k = record { number = k.number; next = n; seen = k.seen; made = k.made; ended = k.ended }

  -- The pass l is k, with so many workers joined into it, whose numbers begin at `from`. Under their numbers there is
  -- work, and nothing else.
  pub record Crewed (is_work : E → Bool) (from count : ℕ) (k l : Known E) : Type 0 where
    pub number : l.number ≡ k.number
    pub next : l.next ≡ k.next
    pub made : l.made ≡ k.made
    pub seen : StartsWith l.seen k.seen
    pub more : List (ℕ × List E)
    pub ended : l.ended ≡ k.ended ++ more
    pub works : Each (λ x. list_all is_work x.1 ≡ true) more
    pub all : (i : ℕ) → from ≤ i → i < from + count → Has (λ x. x.0 ≡ i) more

  -- Beside a crew with the numbers 1 to `workers`, whose first caller has the number 0, each entry of the history is
  -- the first caller's own, or work of one of the crew.
  abbrev pub CrewWorks : (E → ℕ) → (E → Bool) → ℕ → Known E → Known E → List E → Type 0
  CrewWorks by is_work workers k l log =
      k.number ≡ 0 → k.next ≡ workers + 1 → Crewed is_work 1 workers k l → Shows by l log
      → Each (λ e. (by e ≤ workers) × ((by e ≡ 0) ⊎ (is_work e ≡ true))) log

  -- what the history has beyond what the caller's own pass had seen, before workers were joined into it, are entries of
  -- others
  abbrev pub CrewsEnd : (E → ℕ) → (E → Bool) → ℕ → ℕ → Known E → Known E → List E → Type 0
  CrewsEnd by is_work from count k l log =
      IsOwn by k → Crewed is_work from count k l → Shows by l log
      → (rest : List E) × (log ≡ k.seen ++ rest) × (of by k.number rest ≡ [])

-- with any worker the pass has seen that the board is shut
abbrev pub SawEnd : {A : Type 0} → ℕ → Known (BoardEntry A) → Type 0
SawEnd workers l = 1 ≤ workers → is_shut l.seen ≡ true
