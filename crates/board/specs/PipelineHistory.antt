-- What stays of a pipeline while a history goes on.
use Rattle.std.specs.Prelude.{◌≡◌, ◌≢◌, ℕ, ◌-◌, ◌^◌, Bool, true, false, List, [], ◌∷◌, ◌++◌, length, None}
use Rattle.board.specs.declared.entry.Shape.{Shape}
use Rattle.board.specs.declared.entry.BoardEntry.{BoardEntry}
use Rattle.board.specs.declared.entry.BoardEntry.TheVariants.{Born, Take, Finish, Deq, Done, Hold, Go, Collect, Mask}
use Rattle.board.specs.Shapes.{lists_of}
use Rattle.board.specs.Entries.{is_of, entries_of, birth_in, submissions, front, told, collected, is_close, held_in, is_held, masked_in, mask, is_shared, caller_of, take_entry, finish_entry, pass_entry}
use Rattle.board.specs.Legal.{IsOpenAs, MaySubmit, MayManage, MayFinish, LegalBoard}

-- an entry of the pipeline comes after those before it
abbrev pub Joins : {A : Type 0} → List (BoardEntry A) → BoardEntry A → ℕ → Type 0
Joins h e p = is_of p e ≡ true → entries_of p (h ++ e ∷ []) ≡ entries_of p h ++ e ∷ []

-- and leaves the entries of the others
abbrev pub LeavesOthers : {A : Type 0} → List (BoardEntry A) → BoardEntry A → ℕ → Type 0
LeavesOthers h e p = is_of p e ≡ false → entries_of p (h ++ e ∷ []) ≡ entries_of p h

-- a pipeline has no entry before its birth
abbrev pub BeginsAlone : {A : Type 0} → List (BoardEntry A) → ℕ → ℕ → Shape → Type 0
BeginsAlone h caller p shape = LegalBoard (h ++ Born caller p shape ∷ []) → entries_of p h ≡ []

-- the pipeline is open, of such a shape, and this caller manages it
abbrev pub IsOpenFor : {A : Type 0} → (Shape → Bool) → List (BoardEntry A) → ℕ → ℕ → Type 0
IsOpenFor such h p caller = IsOpenAs such (entries_of p h) × MayManage (entries_of p h) caller

-- a pipeline that was just made is open, and its maker manages it
abbrev pub Opens : {A : Type 0} → (Shape → Bool) → List (BoardEntry A) → ℕ → ℕ → Shape → Type 0
Opens such h caller p shape =
    LegalBoard (h ++ Born caller p shape ∷ []) → such shape ≡ true → IsOpenFor such (h ++ Born caller p shape ∷ []) p caller

-- an open pipeline stays open until it is closed
abbrev pub StaysOpen : {A : Type 0} → (Shape → Bool) → List (BoardEntry A) → BoardEntry A → ℕ → Type 0
StaysOpen such h e p = IsOpenAs such (entries_of p h) → is_close e ≡ false → IsOpenAs such (entries_of p (h ++ e ∷ []))

-- who manages a pipeline, or may submit to it, may do so later
abbrev pub StaysManaged : {A : Type 0} → List (BoardEntry A) → BoardEntry A → ℕ → ℕ → Type 0
StaysManaged h e p caller = MayManage (entries_of p h) caller → MayManage (entries_of p (h ++ e ∷ [])) caller

abbrev pub StaysSubmitting : {A : Type 0} → List (BoardEntry A) → BoardEntry A → ℕ → ℕ → Type 0
StaysSubmitting h e p caller = MaySubmit (entries_of p h) caller → MaySubmit (entries_of p (h ++ e ∷ [])) caller

-- a pipeline that was just made is not held
abbrev pub BornServed : {A : Type 0} → List (BoardEntry A) → ℕ → ℕ → Shape → Type 0
BornServed h caller p shape =
    LegalBoard (h ++ Born caller p shape ∷ []) → is_held (entries_of p (h ++ Born caller p shape ∷ [])) ≡ false

-- it is held after a Hold, not after a Go, and otherwise as before
abbrev pub Holds : {A : Type 0} → List (BoardEntry A) → ℕ → ℕ → Type 0
Holds h caller p =
    (is_held (entries_of p (h ++ Hold caller p ∷ [])) ≡ true) × (is_held (entries_of p (h ++ Go caller p ∷ [])) ≡ false)

abbrev pub StaysHeld : {A : Type 0} → List (BoardEntry A) → BoardEntry A → ℕ → Type 0
StaysHeld h e p = held_in e ≡ None → is_held (entries_of p (h ++ e ∷ [])) ≡ is_held (entries_of p h)

-- the mask of a pipeline that was just made is full
abbrev pub BornMasked : {A : Type 0} → List (BoardEntry A) → ℕ → ℕ → Shape → Type 0
BornMasked h caller p shape =
    LegalBoard (h ++ Born caller p shape ∷ []) → mask (entries_of p (h ++ Born caller p shape ∷ [])) ≡ 2 ^ lists_of shape - 1

-- it is that of a Mask after it, and otherwise as before
abbrev pub Masks : {A : Type 0} → List (BoardEntry A) → ℕ → ℕ → ℕ → Type 0
Masks h caller p bits = mask (entries_of p (h ++ Mask caller p bits ∷ [])) ≡ bits

abbrev pub StaysMasked : {A : Type 0} → List (BoardEntry A) → BoardEntry A → ℕ → Type 0
StaysMasked h e p =
    birth_in e ≡ None → masked_in e ≡ None → mask (entries_of p (h ++ e ∷ [])) ≡ mask (entries_of p h)

-- what another caller does leaves a job to who took it, with the same ask
abbrev pub SlipStays : {A O : Type 0} → (A → O) → List (BoardEntry A) → BoardEntry A → ℕ → ℕ → ℕ → O → Type 0
SlipStays meaning h e p caller n out =
    LegalBoard (h ++ e ∷ []) → caller_of e ≢ caller → MayFinish meaning (entries_of p h) caller n out
    → MayFinish meaning (entries_of p (h ++ e ∷ [])) caller n out

-- each request of the pipeline is finished and handed out: it may be closed
abbrev pub IsDrained : {A : Type 0} → List (BoardEntry A) → Type 0
IsDrained es = (front es ≡ length (submissions es)) × (collected es ≡ length (told es))

-- a pipeline of which each request is finished is drained by a collect
abbrev pub CollectDrains : {A : Type 0} → List (BoardEntry A) → ℕ → ℕ → ℕ → Type 0
CollectDrains h caller p to =
    LegalBoard (h ++ Collect caller p to ∷ []) → front (entries_of p h) ≡ length (submissions (entries_of p h))
    → IsDrained (entries_of p (h ++ Collect caller p to ∷ []))

-- what workers do
abbrev pub is_work : {A : Type 0} → BoardEntry A → Bool
is_work (Take caller pipe number) = true
is_work (Finish caller pipe number) = true
is_work (Deq caller pipe number started) = true
is_work (Done caller pipe number) = true
is_work _ = false

-- it accepts nothing, hands nothing out, shares nothing and masks nothing
abbrev pub WorkLeaves : {A : Type 0} → List (BoardEntry A) → BoardEntry A → ℕ → Type 0
WorkLeaves h e p =
    is_work e ≡ true
    → (submissions (entries_of p (h ++ e ∷ [])) ≡ submissions (entries_of p h))
    × (collected (entries_of p (h ++ e ∷ [])) ≡ collected (entries_of p h))
    × (is_shared (entries_of p (h ++ e ∷ [])) ≡ is_shared (entries_of p h))
    × (mask (entries_of p (h ++ e ∷ [])) ≡ mask (entries_of p h))

-- the entry is work of this caller's
abbrev pub IsWorkOf : {A : Type 0} → BoardEntry A → ℕ → Type 0
IsWorkOf e caller = (is_work e ≡ true) × (caller_of e ≡ caller) × (is_close e ≡ false)

-- to take a number, to finish it and to pass a request on is work
abbrev pub TakingIsWork : {A : Type 0} → List (BoardEntry A) → ℕ → ℕ → ℕ → Type 0
TakingIsWork h caller p n = IsWorkOf (take_entry h caller p n) caller

abbrev pub FinishingIsWork : {A : Type 0} → List (BoardEntry A) → ℕ → ℕ → ℕ → Type 0
FinishingIsWork h caller p n = IsWorkOf (finish_entry h caller p n) caller

abbrev pub PassingIsWork : {A : Type 0} → List (BoardEntry A) → ℕ → ℕ → Type 0
PassingIsWork h caller p = IsWorkOf (pass_entry h caller p) caller
