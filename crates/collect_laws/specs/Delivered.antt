-- What the collects of a pipeline deliver, over a whole history.
use Rattle.std.specs.Prelude.{◌≡◌, ℕ, List, [], ◌∷◌, ◌++◌, filter, length, map, take}
use Rattle.std.specs.List.{filter_map}
use Rattle.kc_base.specs.declared.callback_list.Callback.{Callback}
use Rattle.padata_core.specs.Pad.{done_from}
use Rattle.board.specs.declared.entry.BoardEntry.{BoardEntry}
use Rattle.board.specs.declared.entry.BoardEntry.TheVariants.{Collect}
use Rattle.board.specs.Entries.{entries_of, submissions, front, told, collected, callback_of, delivered}
use Rattle.board.specs.HandedOut.{is_completion}
use Rattle.board.specs.Legal.{LegalBoard}

-- what an entry delivers: a collect the callbacks of what was told and no collect before it delivered
abbrev pub delivered_by : {A O : Type 0} → (A → O) → List (BoardEntry A) → BoardEntry A → List (Callback O)
delivered_by meaning es (Collect caller pipe to) = delivered meaning es to
delivered_by meaning es _ = []

abbrev pub delivered_after : {A O : Type 0} → (A → O) → List (BoardEntry A) → List (BoardEntry A) → List (Callback O)
delivered_after meaning before [] = []
delivered_after meaning before (e ∷ es) = delivered_by meaning before e ++ delivered_after meaning (before ++ e ∷ []) es

-- all that the collects of a pipeline deliver, one after another
abbrev pub all_delivered : {A O : Type 0} → (A → O) → List (BoardEntry A) → List (Callback O)
all_delivered meaning es = delivered_after meaning [] es

-- the completions among it
abbrev pub all_completed : {A O : Type 0} → (A → O) → List (BoardEntry A) → List (Callback O)
all_completed meaning es = filter is_completion (all_delivered meaning es)

-- the completions of all that a pipeline accepted, each with its number and what its own ask means
abbrev pub all_due : {A O : Type 0} → (A → O) → List (BoardEntry A) → List (Callback O)
all_due meaning es = done_from 0 (map meaning (submissions es))

-- It is what the pipeline told up to the last collect.
abbrev pub DeliversTold : {A O : Type 0} → (A → O) → List (BoardEntry A) → ℕ → Type 0
DeliversTold meaning h p =
    LegalBoard h
    → all_delivered meaning (entries_of p h) ≡ filter_map (callback_of meaning (submissions (entries_of p h))) (take (collected (entries_of p h)) (told (entries_of p h)))

-- Its completions are those of the first k requests, in order, each once, with what its own ask means.
abbrev pub DeliversTheFirst : {A O : Type 0} → (A → O) → List (BoardEntry A) → ℕ → Type 0
DeliversTheFirst meaning h p =
    LegalBoard h → (k : ℕ) × (all_completed meaning (entries_of p h) ≡ take k (all_due meaning (entries_of p h)))

-- After a collect k is the first that is not finished.
abbrev pub DeliversAllFinished : {A O : Type 0} → (A → O) → List (BoardEntry A) → ℕ → ℕ → ℕ → Type 0
DeliversAllFinished meaning h caller p to =
    LegalBoard (h ++ Collect caller p to ∷ [])
    → all_completed meaning (entries_of p (h ++ Collect caller p to ∷ [])) ≡ take (front (entries_of p h)) (all_due meaning (entries_of p h))

-- Where all were finished before, it is all of them.
abbrev pub DeliversAll : {A O : Type 0} → (A → O) → List (BoardEntry A) → ℕ → ℕ → ℕ → Type 0
DeliversAll meaning h caller p to =
    LegalBoard (h ++ Collect caller p to ∷ []) → front (entries_of p h) ≡ length (submissions (entries_of p h))
    → all_completed meaning (entries_of p (h ++ Collect caller p to ∷ [])) ≡ all_due meaning (entries_of p h)
