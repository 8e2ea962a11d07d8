-- Callers that run beside a first one, each with passes of its own, and what they leave of the first one's.
use Rattle.std.specs.Prelude.{◌≡◌, ◌⊎◌, ℕ, suc, ◌+◌, ◌<◌, ◌≤◌, List, [], ◌∷◌, ◌++◌, length, map, reverse}
use Rattle.turn_lock.specs.Turns.{Known, StartsWith, Each, Has, Shows, of, gives_number, joined}
use Rattle.turn_lock.specs.PassLaws.{IsOwn}
use Rattle.turn_lock.specs.Passes.{knows}
use Rattle.crew.specs.declared.passes.Passes.{Passes}

module _ {E : Type 0} where
  -- the pass w was joined into l, at once or by others
  pub record HasEnded (w l : Known E) : Type 0 where
    pub kept : Has (λ x. x ≡ (w.number, w.made)) l.ended
    pub seen : StartsWith l.seen w.seen

  -- The pass k is l now. From it passes were split off one after the other, with the numbers from `from` on, and joined
  -- into it again in the other order; these they were then.
  abbrev pub Peered : ℕ → List (Known E) → Known E → Known E → Type 0
  Peered from [] k l = l ≡ k
  Peered from (w ∷ ws) k l =
      (m : Known E) × Peered (suc from) ws (gives_number from k) m × (w.number ≡ from) × (l ≡ joined m w)
      × StartsWith l.seen m.seen × StartsWith l.seen w.seen

  -- the history is what the pass has seen, and after it entries of others alone
  abbrev pub OthersFollow : (E → ℕ) → Known E → List E → Type 0
  OthersFollow by k h = (rest : List E) × (h ≡ k.seen ++ rest) × (of by k.number rest ≡ [])

  -- ---- laws

  -- the first pass keeps its number and its entries, has seen more, and keeps more ended numbers
  abbrev pub PeersLeave : ℕ → List (Known E) → Known E → Known E → Type 0
  PeersLeave from ws k l = Peered from ws k l → (l.number ≡ k.number) × (l.made ≡ k.made) × StartsWith l.seen k.seen × StartsWith l.ended k.ended

  -- it gives numbers above theirs from then on, and those that it passed over have no entry
  abbrev pub PeersTakeNumbers : ℕ → Known E → List (Known E) → Known E → Known E → Type 0
  PeersTakeNumbers from w ws k l =
      Peered from (w ∷ ws) k l
      → (l.next ≡ from + length (w ∷ ws)) × ((j : ℕ) → k.next ≤ j → j < from → Has (λ x. x ≡ (j, [])) l.ended)

  -- each of them has ended in it
  abbrev pub PeersHaveEnded : ℕ → List (Known E) → Known E → Known E → Type 0
  PeersHaveEnded from ws k l = Peered from ws k l → Each (λ w. HasEnded w l) ws

  -- what has ended stays so while the pass goes on
  abbrev pub EndedStays : Known E → Known E → Known E → Type 0
  EndedStays w l m = HasEnded w l → StartsWith m.seen l.seen → StartsWith m.ended l.ended → HasEnded w m

  -- at the end others alone follow on what a pass had seen that has ended
  abbrev pub EndedAreAlone : (E → ℕ) → Known E → Known E → List E → Type 0
  EndedAreAlone by w l log = IsOwn by w → HasEnded w l → Shows by l log → OthersFollow by w log

  -- and on what the first pass had seen, at any time at which it had made as much
  abbrev pub FirstIsAlone : (E → ℕ) → Known E → Known E → List E → Type 0
  FirstIsAlone by k l log =
      IsOwn by k → l.number ≡ k.number → l.made ≡ k.made → StartsWith l.seen k.seen → Shows by l log → OthersFollow by k log

  -- each entry is the first caller's, a worker's, or one of so many peers'
  abbrev pub CallersAre : (E → ℕ) → ℕ → ℕ → Known E → List E → Type 0
  CallersAre by workers count l log =
      l.number ≡ 0 → l.next ≡ 17 + count → ((j : ℕ) → workers + 1 ≤ j → j < 17 → Has (λ x. x ≡ (j, [])) l.ended) → Shows by l log
      → Each (λ e. (by e ≤ workers) ⊎ ((17 ≤ by e) × (by e ≤ 16 + count))) log

-- ---- what runs

module _ {P E : Type 0} (view : P → Known E) where
  -- a pass that was split off the pass k with this number: it has seen as much, and made nothing
  pub record IsFreshFrom (n : ℕ) (k : Known E) (p : P) : Type 0 where
    pub number : (view p).number ≡ n
    pub seen : (view p).seen ≡ k.seen
    pub made : (view p).made ≡ []

-- ---- on both locks

module _ {A : Type 0} where
  -- the passes keep their numbers
  pub record KeepNumbers (p q : Passes A) : Type 0 where
    pub board : (knows q.board).number ≡ (knows p.board).number
    pub registry : (knows q.registry).number ≡ (knows p.registry).number

  -- passes that were split off with this number: they have seen as much, and made nothing
  pub record AreFreshFrom (n : ℕ) (k p : Passes A) : Type 0 where
    pub board : IsFreshFrom (λ (x : Passes A). knows x.board) n (knows k.board) p
    pub registry : IsFreshFrom (λ (x : Passes A). knows x.registry) n (knows k.registry) p

  module _ {X : Type 0} where
    -- One after the other has run from such passes: these are their passes at the end, and what they gave.
    abbrev pub RunsOnBoth : (ℕ → Passes A → Passes A → X → Type 0) → ℕ → Passes A → List (Passes A × X) → Type 0
    RunsOnBoth gives from k [] = Unit {0}
    RunsOnBoth gives from k (r ∷ rs) = ((p : Passes A) × AreFreshFrom from k p × gives from p r.0 r.1) × RunsOnBoth gives (suc from) k rs

    -- what so many of them gave, the last first
    abbrev pub AreOuts : List X → List (Passes A × X) → Type 0
    AreOuts outs rs = outs ≡ reverse (map (λ r. r.1) rs)

    -- So many have run from such passes, with the numbers from `from` on; and theirs were joined into the passes p,
    -- which are q now.
    abbrev pub RanBeside : (ℕ → Passes A → Passes A → X → Type 0) → ℕ → ℕ → Passes A → List (Passes A × X) → Passes A → Type 0
    RanBeside gives from count p rs q =
        (length rs ≡ count) × RunsOnBoth gives from p rs
        × Peered from (map (λ r. knows r.0.board) rs) (knows p.board) (knows q.board)
        × Peered from (map (λ r. knows r.0.registry) rs) (knows p.registry) (knows q.registry)
