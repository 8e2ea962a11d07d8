-- What is read of growing submissions by the numbers that a pipeline handed out.
use Rattle.std.proofs.Common.{◌≡◌, ℕ, zero, suc, ◌<◌, Bool, true, false, Option, List, [], ◌∷◌, ◌++◌, length, take, drop, slice_get, refl, sym, ◌∙◌, ap, subst, append-nil, append_assoc}
use Rattle.std.specs.Prelude.{◌==◌}
use Rattle.std.specs.List.{filter_map, cons_option}
use Rattle.std.proofs.lemmas.Bool.{eq-eqb, or_left, or_right, both_ways}
use Rattle.std.proofs.lemmas.List.Elements.{filter_map-append}
use Rattle.std.proofs.Math.Seq.{take-length}
use Rattle.board.specs.declared.entry.BoardEntry.{BoardEntry}
use Rattle.board.specs.declared.entry.BoardEntry.TheVariants.{Born, Submit, Take, Finish, Enq, Deq, Done, Hold, Go, Collect, Close, Share, Mask, Shut}
use Rattle.board.specs.Entries.{Notice, Starts, Completes, birth, accepted_in, submissions, has, front, told, collected, collected_in, last_or}
use Rattle.board.specs.Legal.{IsRightFor}
use Rattle.board.specs.Shapes.{has_queue_born}
use Rattle.board.specs.Order.{handed_in, handed_after, AreRightForAfter, completed, started, numbers_below}
use Rattle.board.proofs.Lists.{filter_map-some, last_or-append}
use Rattle.board.proofs.Transfer.{right_last}
use Rattle.board.proofs.Keeping.{orderly, told-more}
use Rattle.board.proofs.KeptEntering.{completed_low}
use Rattle.board.proofs.Starting.{IsStarting, starting}

-- the number that a notice speaks of
abbrev pub number_in : Notice → ℕ
number_in (Starts n) = n
number_in (Completes n) = n

-- what is read of the first asks stays as more come
abbrev pub Stays : {A Y : Type 0} → (List A → Notice → Option Y) → Type 0
Stays {A} read = (asks more : List A) (x : Notice) → number_in x < length asks → read (asks ++ more) x ≡ read asks x

abbrev pub read_in : {A Y : Type 0} → (List A → Notice → Option Y) → List (BoardEntry A) → BoardEntry A → List Y
read_in read before e = filter_map (read (submissions before)) (handed_in before e)

-- the notices that each entry hands out, read of the submissions before it
abbrev pub read_after : {A Y : Type 0} → (List A → Notice → Option Y) → List (BoardEntry A) → List (BoardEntry A) → List Y
read_after read before [] = []
read_after read before (e ∷ es) = read_in read before e ++ read_after read (before ++ e ∷ []) es

-- ---- the numbers are of submissions before

abbrev AreLow : ℕ → List Notice → Type 0
AreLow m [] = Unit {0}
AreLow m (x ∷ ns) = (number_in x < m) × AreLow m ns

low_drop : (m c : ℕ) (ns : List Notice) → AreLow m ns → AreLow m (drop c ns)
low_drop m zero [] l = tt
low_drop m zero (x ∷ ns) l = l
low_drop m (suc c) [] l = tt
low_drop m (suc c) (x ∷ ns) l = low_drop m c ns l.1

low_take : (m c : ℕ) (ns : List Notice) → AreLow m ns → AreLow m (take c ns)
low_take m zero [] l = tt
low_take m zero (x ∷ ns) l = tt
low_take m (suc c) [] l = tt
low_take m (suc c) (x ∷ ns) l = (l.0, low_take m c ns l.1)

are_low : (m : ℕ) (ns : List Notice) → ((n : ℕ) → has n (completed ns) ≡ true → n < m) → ((n : ℕ) → has n (started ns) ≡ true → n < m) → AreLow m ns
are_low m [] c s = tt
are_low m (Starts x ∷ ns) c s = (s x (or_left (x == x) (has x (started ns)) (eq-eqb x x refl)), are_low m ns c (λ n h. s n (or_right (x == n) (has n (started ns)) h)))
are_low m (Completes x ∷ ns) c s = (c x (or_left (x == x) (has x (completed ns)) (eq-eqb x x refl)), are_low m ns (λ n h. c n (or_right (x == n) (has n (completed ns)) h)) s)

started_by : {A : Type 0} (es : List (BoardEntry A)) (n : ℕ) (b : Bool) → IsStarting es → has_queue_born (birth es) ≡ b → has n (started (told es)) ≡ true → n < length (submissions es)
started_by es n true o q h = (let t = o.server q in t.low n (t.alone n h).0)
started_by es n false o q h = absurd (both_ways (has n []) refl (subst (λ ns. has n ns ≡ true) (o.none q).0 h))

told_low : {A : Type 0} (es : List (BoardEntry A)) → AreRightForAfter [] es → AreLow (length (submissions es)) (told es)
told_low es r =
    are_low (length (submissions es)) (told es) (completed_low es _ (orderly es r)) (λ n. started_by es n (has_queue_born (birth es)) (starting es r) refl)

low_in : {A : Type 0} (es : List (BoardEntry A)) (e : BoardEntry A) → AreRightForAfter [] es → AreLow (length (submissions es)) (handed_in es e)
low_in es (Collect caller pipe to) r = low_drop (length (submissions es)) (collected es) (take to (told es)) (low_take (length (submissions es)) to (told es) (told_low es r))
low_in es (Born caller pipe shape) r = tt
low_in es (Submit caller pipe number ask) r = tt
low_in es (Take caller pipe number) r = tt
low_in es (Finish caller pipe number) r = tt
low_in es (Enq caller pipe ask backlog answer) r = tt
low_in es (Deq caller pipe number started) r = tt
low_in es (Done caller pipe number) r = tt
low_in es (Hold caller pipe) r = tt
low_in es (Go caller pipe) r = tt
low_in es (Close caller pipe) r = tt
low_in es (Share caller pipe) r = tt
low_in es (Mask caller pipe bits) r = tt
low_in es (Shut caller) r = tt

-- so they are read of all submissions as of those before

same_reads : {A Y : Type 0} (read : List A → Notice → Option Y) → Stays read → (asks more : List A) (ns : List Notice) → AreLow (length asks) ns → filter_map (read asks) ns ≡ filter_map (read (asks ++ more)) ns
same_reads read stays asks more [] low = refl
same_reads read stays asks more (x ∷ ns) low =
    ap (λ o. cons_option o (filter_map (read asks) ns)) (sym (stays asks more x low.0))
    ∙ ap (cons_option (read (asks ++ more) x)) (same_reads read stays asks more ns low.1)

right_more : {A : Type 0} (a es : List (BoardEntry A)) (e : BoardEntry A) → AreRightForAfter a es → IsRightFor (a ++ es) e → AreRightForAfter a (es ++ e ∷ [])
right_more a [] e r x = (subst (λ b. IsRightFor b e) (append-nil a) x, tt)
right_more a (y ∷ es) e r x = (r.0, right_more (a ++ y ∷ []) es e r.1 (subst (λ b. IsRightFor b e) (sym (append_assoc a (y ∷ []) es)) x))

reads_after : {A Y : Type 0} (read : List A → Notice → Option Y) → Stays read → (before es : List (BoardEntry A)) → AreRightForAfter [] before → AreRightForAfter before es → read_after read before es ≡ filter_map (read (submissions (before ++ es))) (handed_after before es)
reads_after read stays before [] r s = refl
reads_after read stays before (e ∷ es) r s =
    let asks = submissions (before ++ e ∷ es) in
    let rest = handed_after (before ++ e ∷ []) es in
    let here : read_in read before e ≡ filter_map (read asks) (handed_in before e) =
    same_reads read stays (submissions before) (submissions (e ∷ es)) (handed_in before e) (low_in before e r)
    ∙ ap (λ xs. filter_map (read xs) (handed_in before e)) (sym (filter_map-append accepted_in before (e ∷ es))) in
    let later : read_after read (before ++ e ∷ []) es ≡ filter_map (read asks) rest =
    reads_after read stays (before ++ e ∷ []) es (right_more [] before e r s.0) s.1
    ∙ ap (λ xs. filter_map (read (submissions xs)) rest) (append_assoc before (e ∷ []) es) in
    ap (λ ys. ys ++ read_after read (before ++ e ∷ []) es) here
    ∙ (ap (λ ys. filter_map (read asks) (handed_in before e) ++ ys) later
    ∙ sym (filter_map-append (read asks) (handed_in before e) rest))

-- what the collects read is what was told up to the last of them, read of all submissions
pub reads_all : {A Y : Type 0} (read : List A → Notice → Option Y) → Stays read → (es : List (BoardEntry A)) → AreRightForAfter [] es → read_after read [] es ≡ filter_map (read (submissions es)) (take (collected es) (told es))
reads_all read stays es s = reads_after read stays [] es tt s ∙ ap (filter_map (read (submissions es))) (orderly es s).telling.front_of

-- ---- after a collect all that was told is handed out

pub collect_tells : {A : Type 0} (es : List (BoardEntry A)) (caller p to : ℕ) → AreRightForAfter [] (es ++ Collect caller p to ∷ []) → AreRightForAfter [] es → completed (take (collected (es ++ Collect caller p to ∷ [])) (told (es ++ Collect caller p to ∷ []))) ≡ numbers_below (front es)
collect_tells {A} es caller p to r before =
    let e : BoardEntry A = Collect caller p to in
    let many : collected (es ++ e ∷ []) ≡ length (told es) =
    ap (last_or 0) (filter_map-some collected_in es e to refl) ∙ (last_or-append 0 (filter_map collected_in es) to ∙ (right_last [] es e r).2) in
    let same : told (es ++ e ∷ []) ≡ told es = told-more es e ∙ append-nil (told es) in
    ap completed (ap (λ c. take c (told (es ++ e ∷ []))) many ∙ (ap (take (length (told es))) same ∙ take-length (told es)))
    ∙ (orderly es before).telling.said

-- ---- the first of a list, by their numbers

take_next : {X : Type 0} (k : ℕ) (xs : List X) → take (suc k) xs ≡ take k xs ++ cons_option (slice_get xs k) []
take_next zero [] = refl
take_next zero (x ∷ xs) = refl
take_next (suc k) [] = refl
take_next (suc k) (x ∷ xs) = ap (λ ys. x ∷ ys) (take_next k xs)

pub first_of : {X : Type 0} (xs : List X) (k : ℕ) → filter_map (slice_get xs) (numbers_below k) ≡ take k xs
first_of [] zero = refl
first_of (x ∷ xs) zero = refl
first_of xs (suc k) =
    filter_map-append (slice_get xs) (numbers_below k) (k ∷ [])
    ∙ (ap (λ ys. ys ++ cons_option (slice_get xs k) []) (first_of xs k) ∙ sym (take_next k xs))
