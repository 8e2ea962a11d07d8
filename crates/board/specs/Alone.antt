-- A first caller beside which workers alone are left, since all others were joined into its pass.
use Rattle.std.specs.Prelude.{◌≡◌, ℕ, ◌<◌, ◌≤◌, true, List, ◌++◌, length}
use Rattle.std.specs.List.{list_all}
use Rattle.turn_lock.specs.Turns.{Known, Has, Shows, of, sees, adds}
use Rattle.turn_lock.specs.PassLaws.{Meets}
use Rattle.board.specs.declared.entry.BoardEntry.{BoardEntry}
use Rattle.board.specs.Entries.{entries_of, submissions, front, caller_of}
use Rattle.board.specs.Legal.{LegalBoard}
use Rattle.board.specs.PipelineHistory.{is_work}

module _ {A : Type 0} where
  -- the number has ended in this pass, with these entries
  abbrev pub HasEntries : ℕ → List (BoardEntry A) → Known (BoardEntry A) → Type 0
  HasEntries n made k = Has (λ x. x ≡ (n, made)) k.ended

  -- and the pass has seen them all
  abbrev pub IsGone : ℕ → Known (BoardEntry A) → Type 0
  IsGone n k = (made : List (BoardEntry A)) × HasEntries n made k × (of caller_of n k.seen ≡ made)

  -- The pass has the number 0, and each number above the workers' that it gave has ended in it.
  pub record PeersGone (k : Known (BoardEntry A)) : Type 0 where
    pub first : k.number ≡ 0
    pub gone : (n : ℕ) → 17 ≤ n → n < k.next → IsGone n k

  -- at its next turn a pass into which they were joined has seen what they made
  abbrev pub PeersAreGone : Known (BoardEntry A) → List (BoardEntry A) → Type 0
  PeersAreGone k h =
      Meets caller_of (λ xs. LegalBoard xs) k h → k.number ≡ 0 → ((n : ℕ) → 17 ≤ n → n < k.next → (made : List (BoardEntry A)) × HasEntries n made k)
      → PeersGone (sees k h)

  -- and so it is at each later turn
  abbrev pub PeersStayGone : Known (BoardEntry A) → List (BoardEntry A) → BoardEntry A → Type 0
  PeersStayGone k h e = Meets caller_of (λ xs. LegalBoard xs) k h → PeersGone k → PeersGone (sees k h) × (caller_of e ≡ 0 → PeersGone (adds (sees k h) e))

  -- what others add is work alone
  abbrev pub WorkersAreLeft : Known (BoardEntry A) → List (BoardEntry A) → Type 0
  WorkersAreLeft k h = PeersGone k → (met : Meets caller_of (λ xs. LegalBoard xs) k h) → list_all is_work met.others ≡ true

  -- Where the pass itself went on by work, and this is the history at its turn, all that was added is work.
  abbrev pub WorkAlone : Known (BoardEntry A) → Known (BoardEntry A) → List (BoardEntry A) → List (BoardEntry A) → Type 0
  WorkAlone k m h es =
      PeersGone k → h ≡ k.seen ++ es → LegalBoard h → m.number ≡ k.number → m.next ≡ k.next → m.ended ≡ k.ended → Shows caller_of m h
      → list_all is_work (of caller_of 0 es) ≡ true → list_all is_work es ≡ true

  -- work accepts nothing, on whatever pipeline
  abbrev pub WorkAccepts : List (BoardEntry A) → List (BoardEntry A) → ℕ → Type 0
  WorkAccepts h es p = list_all is_work es ≡ true → submissions (entries_of p (h ++ es)) ≡ submissions (entries_of p h)

  -- and leaves what is finished
  abbrev pub WorkFinishes : List (BoardEntry A) → List (BoardEntry A) → ℕ → Type 0
  WorkFinishes h es p =
      list_all is_work es ≡ true → front (entries_of p h) ≡ length (submissions (entries_of p h))
      → front (entries_of p (h ++ es)) ≡ length (submissions (entries_of p (h ++ es)))
