-- What work behind the lock leaves of a pass.
use Rattle.std.specs.Prelude.{◌≡◌, ◌⊎◌, ℕ, true, List, ◌++◌, length}
use Rattle.std.specs.List.{list_all}
use Rattle.kc_base.specs.declared.callback_list.Callback.{Callback}
use Rattle.turn_lock.specs.Turns.{Known}
use Rattle.turn_lock.specs.PassLaws.{AtTurn, Enters, Leaves, GoesOn}
use Rattle.board.specs.declared.entry.BoardEntry.{BoardEntry}
use Rattle.board.specs.declared.entry.BoardEntry.TheVariants.{Collect}
use Rattle.board.specs.Shapes.{is_chain}
use Rattle.board.specs.Entries.{entries_of, submissions, front, told, delivered, caller_of, take_entry, finish_entry, pass_entry, NoneFor, NonePasses}
use Rattle.board.specs.Legal.{Is, MayFinish, LegalBoard}
use Rattle.board.specs.PipelineHistory.{is_work}

-- the pass went on from k to l, and its own entries between are work
pub record Worked {A : Type 0} (k l : Known (BoardEntry A)) : Type 0 where
  pub own : List (BoardEntry A)
  pub goes : GoesOn caller_of (λ xs. LegalBoard xs) k l own
  pub work : list_all is_work own ≡ true

-- the pass took this job of the pipeline, and hasn't finished it
abbrev pub HasTaken : {A O : Type 0} → (A → O) → Known (BoardEntry A) → ℕ → ℕ → A → Type 0
HasTaken meaning k pipe number ask = MayFinish meaning (entries_of pipe k.seen) k.number number (meaning ask)

-- at its turn the pass finishes a job, and then it works
abbrev pub FinishesFirst : {A : Type 0} → Known (BoardEntry A) → ℕ → ℕ → Known (BoardEntry A) → Type 0
FinishesFirst {A} k pipe number l =
    (m : Known (BoardEntry A))
    × AtTurn caller_of (λ xs. LegalBoard xs) k (λ h. Enters (λ xs. LegalBoard xs) k h (finish_entry h k.number pipe number) m)
    × Worked m l

-- the pass takes a job at one turn, finishes it at another, and then it works
abbrev pub RunsFirst : {A : Type 0} → Known (BoardEntry A) → Known (BoardEntry A) → Type 0
RunsFirst {A} k l =
    (m : Known (BoardEntry A)) × (pipe number : ℕ)
    × AtTurn caller_of (λ xs. LegalBoard xs) k (λ h. Enters (λ xs. LegalBoard xs) k h (take_entry h k.number pipe number) m)
    × FinishesFirst m pipe number l

-- at its turn there was no job for the pass
abbrev pub FindsNoJob : {A : Type 0} → Known (BoardEntry A) → Known (BoardEntry A) → Type 0
FindsNoJob k l = AtTurn caller_of (λ xs. LegalBoard xs) k (λ h. NoneFor h k.number × Leaves k h l)

-- then it passes a request of a chain on
abbrev pub PassesOne : {A : Type 0} → Known (BoardEntry A) → Known (BoardEntry A) → Type 0
PassesOne {A} k l =
    (m : Known (BoardEntry A)) × FindsNoJob k m
    × AtTurn caller_of (λ xs. LegalBoard xs) m (λ h. (pipe : ℕ) × Is is_chain (entries_of pipe h) × Enters (λ xs. LegalBoard xs) m h (pass_entry h m.number pipe) l)

abbrev pub WorksSome : {A : Type 0} → Known (BoardEntry A) → Known (BoardEntry A) → Type 0
WorksSome k l = RunsFirst k l ⊎ PassesOne k l

-- or there was no such request either
abbrev pub FindsNone : {A : Type 0} → Known (BoardEntry A) → Known (BoardEntry A) → Type 0
FindsNone {A} k l =
    (m : Known (BoardEntry A)) × FindsNoJob k m
    × AtTurn caller_of (λ xs. LegalBoard xs) m (λ h. NonePasses h × Leaves m h l)

-- after some work each request of the pipeline is finished, and what no call handed out before is handed out
abbrev pub Drained : {A O : Type 0} → (A → O) → ℕ → Known (BoardEntry A) → Known (BoardEntry A) → List (Callback O) → List (Callback O) → Type 0
Drained {A} meaning pipe k l given more =
    (m : Known (BoardEntry A)) × Worked k m
    × AtTurn caller_of (λ xs. LegalBoard xs) m (λ h. let es = entries_of pipe h in
    (front es ≡ length (submissions es)) × (more ≡ given ++ delivered meaning es (length (told es)))
    × Enters (λ xs. LegalBoard xs) m h (Collect m.number pipe (length (told es))) l)
