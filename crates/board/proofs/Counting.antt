-- How many requests, and how many callbacks, there are beside the entries.
use Rattle.std.proofs.Common.{◌≡◌, ◌+◌, ◌-◌, ◌*◌, ◌≤◌, Bool, true, false, cond, List, [], ◌∷◌, ◌++◌, length, Option, Some, None, refl, ◌∙◌, ap, arith, length-append}
use Rattle.std.specs.List.{filter_map, filter, cons_option}
use Rattle.std.proofs.lemmas.List.Elements.{filter_map-append}
use Rattle.board.specs.declared.entry.BoardEntry.{BoardEntry}
use Rattle.board.specs.declared.entry.BoardEntry.TheVariants.{Born, Submit, Take, Finish, Enq, Deq, Done, Hold, Go, Collect, Close, Share, Mask, Shut}
use Rattle.board.specs.Entries.{Notice, Starts, Completes, accepted_in, submissions, finished, front, tells, told_after, told}
use Rattle.board.specs.Order.{AreRightForAfter, completed, started_in, started}
use Rattle.board.proofs.Lists.{length-numbers}
use Rattle.board.proofs.Fronts.{unbroken-le, none_started}
use Rattle.board.proofs.Keeping.{orderly}

at_most_step : {X Y : Type 0} (o : Option Y) (ys : List Y) (xs : List X) → length ys ≤ length xs → length (cons_option o ys) ≤ length xs + 1
at_most_step None ys xs h = omega arith
at_most_step (Some y) ys xs h = omega arith

filter_step : {X : Type 0} (b : Bool) (x : X) (ys xs : List X) → length ys ≤ length xs → length (cond b (x ∷ ys) ys) ≤ length xs + 1
filter_step true x ys xs h = omega arith
filter_step false x ys xs h = omega arith

pub filter_map-at_most : {X Y : Type 0} (f : X → Option Y) (xs : List X) → length (filter_map f xs) ≤ length xs
filter_map-at_most f [] = omega arith
filter_map-at_most f (x ∷ xs) = (let h = at_most_step (f x) (filter_map f xs) xs (filter_map-at_most f xs) in omega arith)

pub filter-at_most : {X : Type 0} (f : X → Bool) (xs : List X) → length (filter f xs) ≤ length xs
filter-at_most f [] = omega arith
filter-at_most f (x ∷ xs) = (let h = filter_step (f x) x (filter f xs) xs (filter-at_most f xs) in omega arith)

-- each notice starts or completes a request
both_kinds : (ns : List Notice) → length ns ≡ length (completed ns) + length (started ns)
both_kinds [] = refl
both_kinds (Starts n ∷ ns) = (let h = both_kinds ns in omega arith)
both_kinds (Completes n ∷ ns) = (let h = both_kinds ns in omega arith)

-- an entry starts one at most
starts_one : {A : Type 0} (es : List (BoardEntry A)) (e : BoardEntry A) → length (started (tells es e)) ≤ 1
starts_one es (Born caller pipe shape) = omega arith
starts_one es (Submit caller pipe number ask) = omega arith
starts_one es (Take caller pipe number) = omega arith
starts_one es (Finish caller pipe number) = (let h = ap length (none_started (front es) (front (es ++ Finish caller pipe number ∷ []) - front es)) in omega arith)
starts_one es (Enq caller pipe ask backlog answer) = omega arith
starts_one es (Deq caller pipe number None) = omega arith
starts_one es (Deq caller pipe number (Some s)) = omega arith
starts_one es (Done caller pipe number) = omega arith
starts_one es (Hold caller pipe) = omega arith
starts_one es (Go caller pipe) = omega arith
starts_one es (Collect caller pipe to) = omega arith
starts_one es (Close caller pipe) = omega arith
starts_one es (Share caller pipe) = omega arith
starts_one es (Mask caller pipe mask) = omega arith
starts_one es (Shut caller) = omega arith

starts_few : {A : Type 0} (before es : List (BoardEntry A)) → length (started (told_after before es)) ≤ length es
starts_few before [] = omega arith
starts_few before (e ∷ es) =
    let s = starts_one before e in
    let ih = starts_few (before ++ e ∷ []) es in
    let a = ap length (filter_map-append started_in (tells before e) (told_after (before ++ e ∷ []) es)) in
    let l = length-append (started (tells before e)) (started (told_after (before ++ e ∷ []) es)) in
    omega arith

-- what a pipeline told is no more than two callbacks an entry
pub told_twice : {A : Type 0} (es : List (BoardEntry A)) → AreRightForAfter [] es → length (told es) ≤ 2 * length es
told_twice es r =
    let b = both_kinds (told es) in
    let c : length (completed (told es)) ≡ front es = ap length (orderly es r).telling.said ∙ length-numbers (front es) in
    let f = unbroken-le (finished es) 0 (length (submissions es)) in
    let m = filter_map-at_most accepted_in es in
    let s = starts_few [] es in
    omega arith
