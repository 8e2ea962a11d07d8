-- What one more entry hands out, and when all is handed out.
use Rattle.std.specs.Prelude.{◌≡◌, ◌≤◌, ℕ, ◌+◌, Bool, true, false, List, [], ◌∷◌, ◌++◌, length, filter}
use Rattle.kc_base.specs.declared.callback_list.Callback.{Callback}
use Rattle.kc_base.specs.declared.callback_list.Callback.TheVariants.{Started, Done}
use Rattle.board.specs.declared.entry.BoardEntry.{BoardEntry}
use Rattle.board.specs.declared.entry.BoardEntry.TheVariants.{Collect}
use Rattle.board.specs.Entries.{entries_of, submissions, delivered}
use Rattle.board.specs.Legal.{LegalBoard}
use Rattle.board.specs.Order.{handed_out, completed}
use Rattle.board.specs.PipelineHistory.{IsDrained}

abbrev pub is_collect : {A : Type 0} → BoardEntry A → Bool
is_collect (Collect caller pipe to) = true
is_collect _ = false

-- only a collect hands anything out
abbrev pub HandsNothing : {A : Type 0} → List (BoardEntry A) → BoardEntry A → ℕ → Type 0
HandsNothing h e p = is_collect e ≡ false → handed_out (entries_of p (h ++ e ∷ [])) ≡ handed_out (entries_of p h)

abbrev pub is_completion : {O : Type 0} → Callback O → Bool
is_completion (Done number out) = true
is_completion (Started number) = false

-- how many of these callbacks are completions
abbrev pub completions : {O : Type 0} → List (Callback O) → ℕ
completions callbacks = length (filter is_completion callbacks)

-- a collect hands out as many completions more as there are in what it delivers
abbrev pub CollectHandsOut : {A O : Type 0} → (A → O) → List (BoardEntry A) → ℕ → ℕ → ℕ → Type 0
CollectHandsOut meaning h caller p to =
    LegalBoard (h ++ Collect caller p to ∷ [])
    → length (completed (handed_out (entries_of p (h ++ Collect caller p to ∷ []))))
    ≡ length (completed (handed_out (entries_of p h))) + completions (delivered meaning (entries_of p h) to)

-- a pipeline hands out no more completions than it accepted requests
abbrev pub HandsOutAtMost : {A : Type 0} → List (BoardEntry A) → ℕ → Type 0
HandsOutAtMost h p = LegalBoard h → length (completed (handed_out (entries_of p h))) ≤ length (submissions (entries_of p h))

-- one that handed out as many is drained
abbrev pub AllHandedOutIsDrained : {A : Type 0} → List (BoardEntry A) → ℕ → Type 0
AllHandedOutIsDrained h p =
    LegalBoard h → length (completed (handed_out (entries_of p h))) ≡ length (submissions (entries_of p h)) → IsDrained (entries_of p h)
