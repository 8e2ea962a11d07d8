use Rattle.std.specs.Prelude.{true, false, List, [], ◌∷◌, ◌++◌, Some, None}
use Rattle.std.specs.declared.sync.Arc.{Arc}
use Rattle.std.specs.declared.alloc.Global.{Global}
use Rattle.board.specs.declared.entry.Shape.TheVariants.{Pad, Queue, Chain}
use Rattle.board.specs.declared.entry.Entered.TheVariants.{InProgress, Busy, NoSpace}
use Rattle.board.specs.declared.entry.BoardEntry.{BoardEntry}
use Rattle.board.specs.declared.entry.BoardEntry.TheVariants.{Born, Submit, Take, Finish, Enq, Deq, Done, Hold, Go, Collect, Mask, Shut}

-- a chain of one that waits, and two lists, gets three requests while it is held
abbrev pub held_chain : {A : Type 0} → (a b c : Arc A Global) → List (BoardEntry A)
held_chain a b c =
    Born 0 0 (Chain 1 2) ∷ Hold 0 0 ∷ Enq 0 0 a false (InProgress 0) ∷ Enq 0 0 b true (Busy 1) ∷ Enq 0 0 c true (Busy 2) ∷ []

-- it is let go, two go on, and the second of these is finished first
abbrev pub crossed_chain : {A : Type 0} → (a b c : Arc A Global) → List (BoardEntry A)
crossed_chain a b c =
    held_chain a b c ++ Go 0 0 ∷ Deq 2 0 0 (Some 1) ∷ Deq 1 0 1 (Some 2) ∷ Take 1 0 0 ∷ Take 2 0 1 ∷ Finish 2 0 1 ∷ []

-- a chain of two that wait, and three lists, gets three requests while it is held
abbrev pub three_held : {A : Type 0} → (a b c : Arc A Global) → List (BoardEntry A)
three_held a b c =
    Born 0 0 (Chain 2 3) ∷ Hold 0 0 ∷ Enq 0 0 a false (InProgress 0) ∷ Enq 0 0 b false (InProgress 1) ∷ Enq 0 0 c true (Busy 2) ∷ []

-- it is let go, all three go on, and three workers finish them backwards
abbrev pub backward_chain : {A : Type 0} → (a b c : Arc A Global) → List (BoardEntry A)
backward_chain a b c =
    three_held a b c
    ++ Go 0 0 ∷ Deq 1 0 0 (Some 2) ∷ Deq 2 0 1 None ∷ Deq 3 0 2 None ∷ Take 1 0 0 ∷ Take 2 0 1 ∷ Take 3 0 2 ∷ Finish 3 0 2 ∷ Finish 2 0 1 ∷ Finish 1 0 0 ∷ []

-- a pad of two lists whose mask is emptied after a request, and then has the second worker alone
abbrev pub masked_pad : {A : Type 0} → (a b : Arc A Global) → List (BoardEntry A)
masked_pad a b = Born 0 0 (Pad 2) ∷ Submit 0 0 0 a ∷ Mask 0 0 0 ∷ []

abbrev pub second_alone : {A : Type 0} → (a b : Arc A Global) → List (BoardEntry A)
second_alone a b = masked_pad a b ++ Mask 0 0 2 ∷ Submit 0 0 1 b ∷ []

-- a queue of two that is held while four requests come
abbrev pub held_requests : {A : Type 0} → (a b c d : Arc A Global) → List (BoardEntry A)
held_requests a b c d =
    Born 0 0 (Queue 2) ∷ Hold 0 0 ∷ Enq 0 0 a false (InProgress 0) ∷ Enq 0 0 b false (InProgress 1) ∷ Enq 0 0 c true (Busy 2) ∷ Enq 0 0 d false NoSpace ∷ []

-- it is let go, drained by its own caller, and collected again at the end
abbrev pub held_queue : {A : Type 0} → (a b c d : Arc A Global) → List (BoardEntry A)
held_queue a b c d =
    held_requests a b c d
    ++ Go 0 0 ∷ Deq 0 0 0 (Some 2) ∷ Done 0 0 0 ∷ Deq 0 0 1 None ∷ Done 0 0 1 ∷ Deq 0 0 2 None ∷ Done 0 0 2 ∷ Collect 0 0 4 ∷ Collect 0 0 4 ∷ Shut 0 ∷ []

-- a pad whose second job was finished first
abbrev pub second_first : {A : Type 0} → (a b : Arc A Global) → List (BoardEntry A)
second_first a b = Born 0 0 (Pad 2) ∷ Submit 0 0 0 a ∷ Submit 0 0 1 b ∷ Take 2 0 1 ∷ Take 1 0 0 ∷ Finish 2 0 1 ∷ []

-- a pad whose first job is finished, and the second runs
abbrev pub first_alone : {A : Type 0} → (a b : Arc A Global) → List (BoardEntry A)
first_alone a b = Born 0 0 (Pad 2) ∷ Submit 0 0 0 a ∷ Submit 0 0 1 b ∷ Take 1 0 0 ∷ Take 2 0 1 ∷ Finish 1 0 0 ∷ []
