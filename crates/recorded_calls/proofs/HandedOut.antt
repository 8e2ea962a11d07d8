-- What a collect hands out of a pipeline of a caller's own, beside what was accepted from the caller.
use Rattle.std.proofs.Common.{◌≡◌, ◌⊎◌, inl, inr, ℕ, zero, suc, ◌+◌, ◌-◌, ◌*◌, ◌≤◌, Bool, true, false, ◌||◌, List, [], ◌∷◌, ◌++◌, length, map, take, drop, Option, Some, None, refl, sym, ap, subst, ◌∙◌, append-nil, append_assoc, length-append, length-take, length-drop, zero-add, arith}
use Rattle.std.specs.Prelude.{if◌then◌else◌, ⊤, slice_get, sum_by}
use Rattle.std.specs.List.{filter_map, cons_option}
use Rattle.std.proofs.lemmas.Bool.{eq-eqb, eqb-true}
use Rattle.std.proofs.lemmas.List.Elements.{filter_map-append}
use Rattle.std.proofs.lemmas.List.Folds.{list_any-append}
use Rattle.std.proofs.lemmas.List.Sums.{sum_by-append, sum_by-cons, sum_by-take-le, sum_by-take-drop}
use Rattle.kc_base.specs.declared.callback_list.Callback.{Callback}
use Rattle.kc_base.specs.declared.callback_list.Callback.TheVariants as callback
use Rattle.board.specs.declared.entry.BoardEntry.{BoardEntry}
use Rattle.board.specs.declared.entry.BoardEntry.TheVariants as event
use Rattle.board.specs.declared.entry.Entered.TheVariants.{InProgress, Busy, NoSpace}
use Rattle.board.specs.declared.entry.Shape.{Shape}
use Rattle.board.specs.Allowance.{accepted_from, accepted_by}
use Rattle.board.specs.Entries.{pipe_of, is_pipe, is_of, entries_of, birth_in, first, birth, accepted_in, submissions, dequeued_in, dequeues, finished, front, Notice, Starts, Completes, tells, told_after, told, collected, is_share, is_shared, maker_is, IsMaker, caller_of, completion, meaning_at, callback_of, delivered}
use Rattle.board.specs.Legal.{IsRightFor, IsRightOn, LegalBoard}
use Rattle.board.specs.Order.{completed, numbers_below, started_in, started}
use Rattle.board.proofs.Lists.{length-numbers}
use Rattle.board.proofs.Counting.{filter_map-at_most}
use Rattle.board.proofs.Fronts.{none_started, unbroken-le}
use Rattle.transforms.specs.AskValue.{ask_size}
use Rattle.transforms.specs.Finish.{finished_length}
use Rattle.transforms.specs.declared.ask.Ask.{Ask}
use Rattle.transforms.specs.declared.request.Finished.{Finished}
use Rattle.dialogues.specs.BoardCalls.{outcome}
use Rattle.recorded_calls.specs.Bounds.{callback_length, AreWithin}
use Rattle.recorded_calls.specs.Pipelines.{Steps, Laws}

-- ---- what the pipeline accepted was accepted from its maker

-- of all lists by their ends
from_end : {X : Type 0} (P : List X → Type 0) → ((h : List X) (e : X) → P h → P (h ++ e ∷ [])) → (before after : List X) → P before → P (before ++ after)
from_end P step before [] p = subst P (sym (append-nil before)) p
from_end P step before (e ∷ es) p = subst P (append_assoc before (e ∷ []) es) (from_end P step (before ++ e ∷ []) es (step before e p))

-- this caller is the maker, where there is one
abbrev MadeBy : Option (ℕ × Shape) → ℕ → Type 0
MadeBy (Some (maker, shape)) caller = maker ≡ caller
MadeBy None caller = ⊤

made-by : (b : Option (ℕ × Shape)) (caller : ℕ) → maker_is b caller → MadeBy b caller
made-by (Some (maker, shape)) caller is = is
made-by None caller is = tt

one-maker : (b : Option (ℕ × Shape)) (x y : ℕ) → maker_is b x → MadeBy b y → x ≡ y
one-maker (Some (maker, shape)) x y is made = sym is ∙ made
one-maker None x y is made = absurd is

first-made : (bs more : List (ℕ × Shape)) (caller : ℕ) → MadeBy (first (bs ++ more)) caller → MadeBy (first bs) caller
first-made [] more caller made = tt
first-made (b ∷ bs) more caller made = made

made-before : (es : List (BoardEntry Ask)) (e : BoardEntry Ask) (caller : ℕ) → MadeBy (birth (es ++ e ∷ [])) caller → MadeBy (birth es) caller
made-before es e caller made =
    first-made (filter_map birth_in es) (filter_map birth_in (e ∷ [])) caller (subst (λ bs. MadeBy (first bs) caller) (filter_map-append birth_in es (e ∷ [])) made)

or-false : (a b : Bool) → (a || b) ≡ false → a ≡ false
or-false true b e = absurd cc
or-false false b e = refl

unshared-before : (es : List (BoardEntry Ask)) (e : BoardEntry Ask) → is_shared (es ++ e ∷ []) ≡ false → is_shared es ≡ false
unshared-before es e unshared = or-false (is_shared es) (is_shared (e ∷ [])) (sym (list_any-append is_share es (e ∷ [])) ∙ unshared)

-- who submits to a pipeline that isn't shared made it
submitter : (es : List (BoardEntry Ask)) (by caller : ℕ) → IsMaker es by ⊎ (is_shared es ≡ true) → is_shared es ≡ false → MadeBy (birth es) caller → by ≡ caller
submitter es by caller (inl maker) unshared made = one-maker (birth es) by caller maker made
submitter es by caller (inr shared) unshared made = absurd (let both : true ≡ false = sym shared ∙ unshared in cc)

accepts-own : (es : List (BoardEntry Ask)) (e : BoardEntry Ask) (caller : ℕ) → IsRightFor es e → is_shared es ≡ false → MadeBy (birth es) caller → (accepted_in e ≡ None) ⊎ (caller_of e ≡ caller)
accepts-own es (event.Submit by pipe number ask) caller right unshared made = inr (submitter es by caller right.0.1 unshared made)
accepts-own es (event.Enq by pipe ask backlog (InProgress number)) caller right unshared made = inr (submitter es by caller right.0.1 unshared made)
accepts-own es (event.Enq by pipe ask backlog (Busy number)) caller right unshared made = inr (submitter es by caller right.0.1 unshared made)
accepts-own es (event.Enq by pipe ask backlog NoSpace) caller right unshared made = inl refl
accepts-own es (event.Born by pipe shape) caller right unshared made = inl refl
accepts-own es (event.Take by pipe number) caller right unshared made = inl refl
accepts-own es (event.Finish by pipe number) caller right unshared made = inl refl
accepts-own es (event.Deq by pipe number started) caller right unshared made = inl refl
accepts-own es (event.Done by pipe number) caller right unshared made = inl refl
accepts-own es (event.Hold by pipe) caller right unshared made = inl refl
accepts-own es (event.Go by pipe) caller right unshared made = inl refl
accepts-own es (event.Collect by pipe to) caller right unshared made = inl refl
accepts-own es (event.Close by pipe) caller right unshared made = inl refl
accepts-own es (event.Share by pipe) caller right unshared made = inl refl
accepts-own es (event.Mask by pipe mask) caller right unshared made = inl refl
accepts-own es (event.Shut by) caller right unshared made = inl refl

right-on : (o : Option ℕ) (h : List (BoardEntry Ask)) (e : BoardEntry Ask) (p : ℕ) → is_pipe p o ≡ true → IsRightOn o h e → IsRightFor (entries_of p h) e
right-on (Some q) h e p is right = subst (λ n. IsRightFor (entries_of n h) e) (eqb-true q p is) right.1
right-on None h e p is right = absurd cc

-- such an entry adds no more to the pipeline than to what was accepted from the caller
adds-less : (f : Ask → ℕ) (caller : ℕ) (e : BoardEntry Ask) → (accepted_in e ≡ None) ⊎ (caller_of e ≡ caller) → sum_by f (cons_option (accepted_in e) []) ≤ sum_by f (cons_option (accepted_from caller e) [])
adds-less f caller e (inl none) =
    let nothing : sum_by f (cons_option (accepted_in e) []) ≡ 0 = ap (λ o. sum_by f (cons_option o [])) none in
    omega (arith, nothing)
adds-less f caller e (inr own) =
    let same : sum_by f (cons_option (accepted_from caller e) []) ≡ sum_by f (cons_option (accepted_in e) []) =
    ap (λ t. sum_by f (cons_option (if t then accepted_in e else None) [])) (eq-eqb (caller_of e) caller own) in
    omega (arith, same)

-- what one more entry adds
adds : {X : Type 0} (f : Ask → ℕ) (g : X → Option Ask) (xs : List X) (x : X) → sum_by f (filter_map g (xs ++ x ∷ [])) ≡ sum_by f (filter_map g xs) + sum_by f (cons_option (g x) [])
adds f g xs x = ap (sum_by f) (filter_map-append g xs (x ∷ [])) ∙ sum_by-append f (filter_map g xs) (cons_option (g x) [])

-- What the pipeline accepted weighs no more than what was accepted from its maker, while it isn't shared.
abbrev Weighs : (Ask → ℕ) → ℕ → ℕ → List (BoardEntry Ask) → Type 0
Weighs f p caller h =
    LegalBoard h → is_shared (entries_of p h) ≡ false → MadeBy (birth (entries_of p h)) caller
    → sum_by f (submissions (entries_of p h)) ≤ sum_by f (accepted_by caller h)

weighs-more : Steps → (f : Ask → ℕ) (p caller : ℕ) (h : List (BoardEntry Ask)) (e : BoardEntry Ask) (t : Bool) → is_of p e ≡ t → Weighs f p caller h → Weighs f p caller (h ++ e ∷ [])
weighs-more laws f p caller h e true is before legal unshared made =
    let es = entries_of p h in
    let was = laws.last h e legal in
    let joins = laws.joins h e p is in
    let unshared' = unshared-before es e (sym (ap is_shared joins) ∙ unshared) in
    let made' = made-before es e caller (subst (λ x. MadeBy (birth x) caller) joins made) in
    let fewer = before was.0 unshared' made' in
    let less = adds-less f caller e (accepts-own es e caller (right-on (pipe_of e) h e p is was.1) unshared' made') in
    let here : sum_by f (submissions (entries_of p (h ++ e ∷ []))) ≡ sum_by f (submissions es) + sum_by f (cons_option (accepted_in e) []) =
    ap (λ x. sum_by f (submissions x)) joins ∙ adds f accepted_in es e in
    let all : sum_by f (accepted_by caller (h ++ e ∷ [])) ≡ sum_by f (accepted_by caller h) + sum_by f (cons_option (accepted_from caller e) []) = adds f (accepted_from caller) h e in
    omega (arith, fewer, less, here, all)
weighs-more laws f p caller h e false is before legal unshared made =
    let was = laws.last h e legal in
    let leaves = laws.leaves h e p is in
    let fewer = before was.0 (sym (ap is_shared leaves) ∙ unshared) (subst (λ x. MadeBy (birth x) caller) leaves made) in
    let here : sum_by f (submissions (entries_of p (h ++ e ∷ []))) ≡ sum_by f (submissions (entries_of p h)) = ap (λ x. sum_by f (submissions x)) leaves in
    let all : sum_by f (accepted_by caller (h ++ e ∷ [])) ≡ sum_by f (accepted_by caller h) + sum_by f (cons_option (accepted_from caller e) []) = adds f (accepted_from caller) h e in
    omega (arith, fewer, here, all)

weighs-none : (f : Ask → ℕ) (p caller : ℕ) → Weighs f p caller []
weighs-none f p caller legal unshared made = omega arith

pub weighs : Steps → (f : Ask → ℕ) (p caller : ℕ) (h : List (BoardEntry Ask)) → Weighs f p caller h
weighs laws f p caller h = from_end (Weighs f p caller) (λ h e before. weighs-more laws f p caller h e (is_of p e) refl before) [] h (weighs-none f p caller)

-- ---- a pipeline tells of each request twice at most

both_kinds : (ns : List Notice) → length ns ≡ length (completed ns) + length (started ns)
both_kinds [] = refl
both_kinds (Starts n ∷ ns) = (let rest = both_kinds ns in omega arith)
both_kinds (Completes n ∷ ns) = (let rest = both_kinds ns in omega arith)

-- only what leaves the line starts another
starts_one : (es : List (BoardEntry Ask)) (e : BoardEntry Ask) → length (started (tells es e)) ≤ length (dequeues (e ∷ []))
starts_one es (event.Born by pipe shape) = omega arith
starts_one es (event.Submit by pipe number ask) = omega arith
starts_one es (event.Take by pipe number) = omega arith
starts_one es (event.Finish by pipe number) = (let none = ap length (none_started (front es) (front (es ++ event.Finish by pipe number ∷ []) - front es)) in omega arith)
starts_one es (event.Enq by pipe ask backlog answer) = omega arith
starts_one es (event.Deq by pipe number None) = omega arith
starts_one es (event.Deq by pipe number (Some s)) = omega arith
starts_one es (event.Done by pipe number) = omega arith
starts_one es (event.Hold by pipe) = omega arith
starts_one es (event.Go by pipe) = omega arith
starts_one es (event.Collect by pipe to) = omega arith
starts_one es (event.Close by pipe) = omega arith
starts_one es (event.Share by pipe) = omega arith
starts_one es (event.Mask by pipe mask) = omega arith
starts_one es (event.Shut by) = omega arith

starts_few : (before es : List (BoardEntry Ask)) → length (started (told_after before es)) ≤ length (dequeues es)
starts_few before [] = omega arith
starts_few before (e ∷ es) =
    let later = told_after (before ++ e ∷ []) es in
    let one = starts_one before e in
    let rest = starts_few (before ++ e ∷ []) es in
    let parts = ap length (filter_map-append started_in (tells before e) later) in
    let sums = length-append (started (tells before e)) (started later) in
    let left : length (dequeues (e ∷ es)) ≡ length (dequeues (e ∷ []) ++ dequeues es) = ap length (filter_map-append dequeued_in (e ∷ []) es) in
    let all = length-append (dequeues (e ∷ [])) (dequeues es) in
    omega arith

told_few : Steps → (h : List (BoardEntry Ask)) (p : ℕ) → LegalBoard h → length (told (entries_of p h)) ≤ 2 * length (submissions (entries_of p h))
told_few laws h p legal =
    let es = entries_of p h in
    let kinds = both_kinds (told es) in
    let done : length (completed (told es)) ≡ front es = ap length (laws.order h p legal) ∙ length-numbers (front es) in
    let below : front es ≤ length (submissions es) = unbroken-le (finished es) 0 (length (submissions es)) in
    let starts : length (started (told es)) ≤ length (dequeues es) = starts_few [] es in
    let left : length (dequeues es) ≤ length (submissions es) = (laws.leave h p legal).1 in
    omega (arith, kinds, done, below, starts, left)

-- ---- and hands out the value of each once

abbrev option_length : Option Finished → ℕ
option_length (Some finished) = finished_length finished
option_length None = 0

-- how many bytes the completion of a number has
abbrev length_at : List Ask → ℕ → ℕ
length_at asks n = option_length (meaning_at outcome asks n)

abbrev notice_length : List Ask → Notice → ℕ
notice_length asks (Starts n) = 0
notice_length asks (Completes n) = length_at asks n

completion-length : (n : ℕ) (o : Option Finished) (rest : List (Callback Finished)) → sum_by callback_length (cons_option (completion n o) rest) ≡ option_length o + sum_by callback_length rest
completion-length n (Some finished) rest = sum_by-cons callback_length (callback.Done n finished) rest
completion-length n None rest = sym (zero-add (sum_by callback_length rest))

handed-length : (asks : List Ask) (ns : List Notice) → sum_by callback_length (filter_map (callback_of outcome asks) ns) ≡ sum_by (notice_length asks) ns
handed-length asks [] = refl
handed-length asks (Starts n ∷ ns) =
    sum_by-cons callback_length (callback.Started n) (filter_map (callback_of outcome asks) ns)
    ∙ (ap (λ x. 0 + x) (handed-length asks ns) ∙ sym (sum_by-cons (notice_length asks) (Starts n) ns))
handed-length asks (Completes n ∷ ns) =
    completion-length n (meaning_at outcome asks n) (filter_map (callback_of outcome asks) ns)
    ∙ (ap (λ x. length_at asks n + x) (handed-length asks ns) ∙ sym (sum_by-cons (notice_length asks) (Completes n) ns))

completed-length : (asks : List Ask) (ns : List Notice) → sum_by (notice_length asks) ns ≡ sum_by (length_at asks) (completed ns)
completed-length asks [] = refl
completed-length asks (Starts n ∷ ns) = sum_by-cons (notice_length asks) (Starts n) ns ∙ (zero-add (sum_by (notice_length asks) ns) ∙ completed-length asks ns)
completed-length asks (Completes n ∷ ns) =
    sum_by-cons (notice_length asks) (Completes n) ns ∙ (ap (λ x. length_at asks n + x) (completed-length asks ns) ∙ sym (sum_by-cons (length_at asks) n (completed ns)))

take-grows : (xs : List Finished) (n : ℕ) → sum_by finished_length (take n xs) + option_length (slice_get xs n) ≤ sum_by finished_length (take (suc n) xs)
take-grows [] zero = omega arith
take-grows [] (suc n) = omega arith
take-grows (x ∷ xs) zero = omega (arith, sum_by-cons finished_length x [])
take-grows (x ∷ xs) (suc n) = omega (arith, sum_by-cons finished_length x (take n xs), sum_by-cons finished_length x (take (suc n) xs), take-grows xs n)

numbers-length : (asks : List Ask) (n : ℕ) → sum_by (length_at asks) (numbers_below n) ≤ sum_by finished_length (take n (map outcome asks))
numbers-length asks zero = omega arith
numbers-length asks (suc n) =
    omega (arith, sum_by-append (length_at asks) (numbers_below n) (n ∷ []), sum_by-cons (length_at asks) n [], numbers-length asks n, take-grows (map outcome asks) n)

asks-length : ((ask : Ask) → finished_length (outcome ask) ≤ ask_size ask + 64) → (asks : List Ask) → sum_by finished_length (map outcome asks) ≤ sum_by ask_size asks + 64 * length asks
asks-length short [] = omega arith
asks-length short (ask ∷ asks) =
    omega (arith, sum_by-cons finished_length (outcome ask) (map outcome asks), sum_by-cons ask_size ask asks, short ask, asks-length short asks)

-- a part of a list weighs no more
part-weighs : {X : Type 0} (f : X → ℕ) (xs : List X) (from to : ℕ) → sum_by f (drop from (take to xs)) ≤ sum_by f xs
part-weighs f xs from to = omega (arith, sum_by-take-drop f (take to xs) from, sum_by-take-le f xs to)

part-length : {X : Type 0} (xs : List X) (from to : ℕ) → length (drop from (take to xs)) ≤ length xs
part-length xs from to = omega (arith, length-drop from (take to xs), length-take to xs)

told_short : Laws → (h : List (BoardEntry Ask)) (p : ℕ) → LegalBoard h
    → sum_by (notice_length (submissions (entries_of p h))) (told (entries_of p h)) ≤ sum_by ask_size (submissions (entries_of p h)) + 64 * length (submissions (entries_of p h))
told_short laws h p legal =
    let es = entries_of p h in
    let asks = submissions es in
    let done : sum_by (notice_length asks) (told es) ≡ sum_by (length_at asks) (numbers_below (front es)) =
    completed-length asks (told es) ∙ ap (sum_by (length_at asks)) (laws.steps.order h p legal) in
    omega (arith, done, numbers-length asks (front es), sum_by-take-le finished_length (map outcome asks) (front es), asks-length laws.short asks)

pub hands-within : Laws → (caller : ℕ) (h : List (BoardEntry Ask)) (p to : ℕ) → LegalBoard h → IsMaker (entries_of p h) caller → is_shared (entries_of p h) ≡ false
    → AreWithin (length (submissions (entries_of p h))) (accepted_by caller h) (delivered outcome (entries_of p h) to)
hands-within laws caller h p to legal maker unshared =
    let es = entries_of p h in
    let asks = submissions es in
    let part = drop (collected es) (take to (told es)) in
    let lighter = weighs laws.steps ask_size p caller h legal unshared (made-by (birth es) caller maker) in
    record {
      few = omega (arith, filter_map-at_most (callback_of outcome asks) part, part-length (told es) (collected es) to, told_few laws.steps h p legal);
      short = omega (arith, handed-length asks part, part-weighs (notice_length asks) (told es) (collected es) to, told_short laws h p legal, lighter);
    }
