-- What is told of the backlog.
use Rattle.std.proofs.Common.{◌≡◌, ℕ, zero, suc, ◌+◌, ◌-◌, ◌<◌, ◌≤◌, Bool, true, false, cond, ◌||◌, List, [], ◌∷◌, ◌++◌, length, take, Option, Some, None, is_some, refl, sym, ◌∙◌, ap, subst, subst₂, arith, append-nil, append_assoc, add-zero, length-append, inl, inr, ◌⊎◌}
use Rattle.std.specs.Prelude.{◌==◌, nat_lt, slice_get}
use Rattle.std.specs.List.{filter}
use Rattle.std.specs.Arc.{arc_value}
use Rattle.std.specs.declared.sync.Arc.{Arc}
use Rattle.std.specs.declared.alloc.Global.{Global}
use Rattle.std.proofs.lemmas.Bool.{eqb-true, eq-eqb, or_left, or_right, cases_lt, false_from_ne_true}
use Rattle.std.proofs.lemmas.List.{take-append-le}
use Rattle.std.proofs.Math.Seq.{take-length}
use Rattle.std.proofs.lemmas.List.Elements.{filter-append, filter_map-append}
use Rattle.board.specs.declared.entry.Shape.{Shape}
use Rattle.board.specs.declared.entry.Shape.TheVariants as shape
use Rattle.board.specs.declared.entry.Entered.{Entered}
use Rattle.board.specs.declared.entry.Entered.TheVariants.{InProgress, Busy, NoSpace}
use Rattle.board.specs.declared.entry.BoardEntry.{BoardEntry}
use Rattle.board.specs.declared.entry.BoardEntry.TheVariants.{Born, Submit, Take, Finish, Enq, Deq, Done, Hold, Go, Collect, Close, Share, Mask, Shut}
use Rattle.board.specs.Shapes.{is_pad, has_queue, has_lists, pad_born, has_queue_born, max_born}
use Rattle.board.specs.Entries.{Notice, Starts, Completes, birth, accepted_in, submissions, dequeued_in, dequeues, dequeued, passed_on, finished_in, has, front, completes_from, tells, told}
use Rattle.board.specs.Legal.{IsRightFor}
use Rattle.board.specs.Order.{handed_in, AreRightForAfter, completed_in, completed, backlogged_in, backlogged, started_in, started, times}
use Rattle.board.proofs.Lists.{filter_map-none, filter_map-some, has-more, more_cases}
use Rattle.board.proofs.Fronts.{front_is_finished, front_grows, none_started}
use Rattle.board.proofs.Keeping.{birth_stays, born_some, maker_some, has_queue_of_queue, not_both, AreNumbered, IsOrderly, orderly_start, orderly_step, front-same, front-accepted, told-more, runs_next, front_done}

-- What a queue has told, by numbers: it accepted s requests, of which t were taken and f finished, and those in bs came
-- into the backlog. Each number of the backlog that is among the first max that wait, or was taken, was told just once
-- to have started, and before its completion.
pub record IsTelling (max s t f : ℕ) (bs : List ℕ) (ns : List Notice) : Type 0 where
  pub few : f ≤ t
  pub queued : t ≤ s
  pub low : (n : ℕ) → has n bs ≡ true → n < s
  pub beyond : (n : ℕ) → t + max ≤ n → n < s → has n bs ≡ true
  pub alone : (n : ℕ) → has n (started ns) ≡ true → (has n bs ≡ true) × (n < t + max)
  pub all : (n : ℕ) → has n bs ≡ true → n < t + max → has n (started ns) ≡ true
  pub once : (n : ℕ) → times n (started ns) ≤ 1
  pub done : (n : ℕ) → has n (completed ns) ≡ true → n < f
  pub before : (n k : ℕ) → has n bs ≡ true → slice_get ns k ≡ Some (Completes n) → times n (started (take k ns)) ≡ 1

has_left : (bs : List ℕ) (s n : ℕ) → has n bs ≡ true → has n (bs ++ s ∷ []) ≡ true
has_left bs s n h = has-more bs s n ∙ or_left (has n bs) (s == n || false) h

has_last : (bs : List ℕ) (s n : ℕ) → s ≡ n → has n (bs ++ s ∷ []) ≡ true
has_last bs s n e = has-more bs s n ∙ or_right (has n bs) (s == n || false) (or_left (s == n) false (eq-eqb s n e))

times_more : (n m : ℕ) (ns : List ℕ) (b : Bool) → (m == n) ≡ b → times n (ns ++ m ∷ []) ≡ times n ns + cond b 1 0
times_more n m ns true e = ap length (filter-append (λ k. k == n) ns (m ∷ []) ∙ ap (λ c. filter (λ k. k == n) ns ++ cond c (m ∷ []) []) e) ∙ length-append (filter (λ k. k == n) ns) (m ∷ [])
times_more n m ns false e = ap length (filter-append (λ k. k == n) ns (m ∷ []) ∙ ap (λ c. filter (λ k. k == n) ns ++ cond c (m ∷ []) []) e) ∙ length-append (filter (λ k. k == n) ns) []

none_step : (b c : Bool) (n : ℕ) (ns : List ℕ) (m : ℕ) → (b || c) ≡ false → (c ≡ false → length ns ≡ 0) → length (cond b (m ∷ ns) ns) ≡ 0
none_step true c n ns m h ih = cc
none_step false c n ns m h ih = ih h

times_none : (n : ℕ) (ns : List ℕ) → has n ns ≡ false → times n ns ≡ 0
times_none n [] h = refl
times_none n (m ∷ ns) h = none_step (m == n) (has n ns) n (filter (λ k. k == n) ns) m h (times_none n ns)

some_step : (b c : Bool) (ns : List ℕ) (m : ℕ) → (b || c) ≡ true → (c ≡ true → 1 ≤ length ns) → 1 ≤ length (cond b (m ∷ ns) ns)
some_step true c ns m h ih = omega arith
some_step false c ns m h ih = ih h

times_some : (n : ℕ) (ns : List ℕ) → has n ns ≡ true → 1 ≤ times n ns
times_some n [] h = cc
times_some n (m ∷ ns) h = some_step (m == n) (has n ns) (filter (λ k. k == n) ns) m h (times_some n ns)

shift : {X : Type 0} {k l : ℕ} {y z : X} {P : Type 0} → ((k < l) × P) ⊎ ((k ≡ l) × (y ≡ z)) → ((suc k < suc l) × P) ⊎ ((suc k ≡ suc l) × (y ≡ z))
shift (inl h) = (let l = h.0 in inl (omega arith, h.1))
shift (inr h) = inr (ap suc h.0, h.1)

slice_last : {X : Type 0} (xs : List X) (y z : X) (k : ℕ) → slice_get (xs ++ y ∷ []) k ≡ Some z → ((k < length xs) × (slice_get xs k ≡ Some z)) ⊎ ((k ≡ length xs) × (y ≡ z))
slice_last [] y z zero h = inr (refl, (let e : y ≡ z = cc in e))
slice_last [] y z (suc k) h = cc
slice_last (x ∷ xs) y z zero h = inl (omega arith, h)
slice_last (x ∷ xs) y z (suc k) h = shift (slice_last xs y z k h)

-- a completion at some place is among the completions
completes_at : (ns : List Notice) (k n : ℕ) → slice_get ns k ≡ Some (Completes n) → has n (completed ns) ≡ true
completes_at [] k n h = cc
completes_at (Starts m ∷ ns) zero n h = cc
completes_at (Completes m ∷ ns) zero n h = or_left (m == n) (has n (completed ns)) (eq-eqb m n (let e : m ≡ n = cc in e))
completes_at (Starts m ∷ ns) (suc k) n h = completes_at ns k n h
completes_at (Completes m ∷ ns) (suc k) n h = or_right (m == n) (has n (completed ns)) (completes_at ns k n h)

telling_start : (max : ℕ) → IsTelling max 0 0 0 [] []
telling_start max = record {
  few = omega arith;
  queued = omega arith;
  low = λ n h. cc;
  beyond = λ n a b. absurd (omega arith);
  alone = λ n h. cc;
  all = λ n h l. cc;
  once = λ n. omega arith;
  done = λ n h. cc;
  before = λ n k h g. cc;
}

-- a request comes into the backlog
low_busy : (bs : List ℕ) (s n : ℕ) → ((m : ℕ) → has m bs ≡ true → m < s) → (has n bs ≡ true) ⊎ (s ≡ n) → n < s + 1
low_busy bs s n low (inl h) = (let l = low n h in omega arith)
low_busy bs s n low (inr e) = omega arith

beyond_busy : (bs : List ℕ) (s n : ℕ) → n < s + 1 → (n < s → has n bs ≡ true) → (n < s) ⊎ (s ≤ n) → has n (bs ++ s ∷ []) ≡ true
beyond_busy bs s n l below (inl h) = has_left bs s n (below h)
beyond_busy bs s n l below (inr g) = has_last bs s n (omega arith)

all_busy : (bs : List ℕ) (ns : List Notice) (max s t n : ℕ) → t + max ≤ s → n < t + max → (has n bs ≡ true → has n (started ns) ≡ true) → (has n bs ≡ true) ⊎ (s ≡ n) → has n (started ns) ≡ true
all_busy bs ns max s t n g l old (inl h) = old h
all_busy bs ns max s t n g l old (inr e) = absurd (omega arith)

before_busy : (bs : List ℕ) (ns : List Notice) (max s t f n k : ℕ) → IsTelling max s t f bs ns → slice_get ns k ≡ Some (Completes n) → (has n bs ≡ true) ⊎ (s ≡ n) → times n (started (take k ns)) ≡ 1
before_busy bs ns max s t f n k o g (inl h) = o.before n k h g
before_busy bs ns max s t f n k o g (inr e) = (let l = o.done n (completes_at ns k n g) in let a = o.few in let b = o.queued in absurd (omega arith))

telling_busy : (max s t f : ℕ) (bs : List ℕ) (ns : List Notice) → IsTelling max s t f bs ns → t + max ≤ s → IsTelling max (s + 1) t f (bs ++ s ∷ []) ns
telling_busy max s t f bs ns o g = record {
  few = o.few;
  queued = (let l = o.queued in omega arith);
  low = λ n h. low_busy bs s n o.low (more_cases bs s n h);
  beyond = λ n a b. beyond_busy bs s n b (λ l. o.beyond n a l) (cases_lt n s);
  alone = λ n h. (has_left bs s n (o.alone n h).0, (o.alone n h).1);
  all = λ n h l. all_busy bs ns max s t n g l (λ q. o.all n q l) (more_cases bs s n h);
  once = o.once;
  done = o.done;
  before = λ n k h q. before_busy bs ns max s t f n k o q (more_cases bs s n h);
}

-- a request comes within the bound
telling_progress : (max s t f : ℕ) (bs : List ℕ) (ns : List Notice) → IsTelling max s t f bs ns → s < t + max → IsTelling max (s + 1) t f bs ns
telling_progress max s t f bs ns o g = record {
  few = o.few;
  queued = (let l = o.queued in omega arith);
  low = λ n h. (let l = o.low n h in omega arith);
  beyond = λ n a b. absurd (omega arith);
  alone = o.alone;
  all = o.all;
  once = o.once;
  done = o.done;
  before = o.before;
}

-- the first is taken, and nobody stands past the bound
telling_deq : (max s t f : ℕ) (bs : List ℕ) (ns : List Notice) → IsTelling max s t f bs ns → t < s → s ≤ t + max → IsTelling max s (t + 1) f bs ns
telling_deq max s t f bs ns o l g = record {
  few = (let a = o.few in omega arith);
  queued = omega arith;
  low = o.low;
  beyond = λ n a b. absurd (omega arith);
  alone = λ n h. ((o.alone n h).0, (let q = (o.alone n h).1 in omega arith));
  all = λ n h q. o.all n h (let w = o.low n h in omega arith);
  once = o.once;
  done = o.done;
  before = o.before;
}

alone_starts : (bs : List ℕ) (ns : List Notice) (max s t f n : ℕ) → IsTelling max s t f bs ns → t + max < s → (has n (started ns) ≡ true) ⊎ (t + max ≡ n) → (has n bs ≡ true) × (n < t + 1 + max)
alone_starts bs ns max s t f n o g (inl h) = ((o.alone n h).0, (let q = (o.alone n h).1 in omega arith))
alone_starts bs ns max s t f n o g (inr e) = (o.beyond n (omega arith) (omega arith), omega arith)

all_starts : (bs : List ℕ) (ns : List Notice) (max s t f n : ℕ) → IsTelling max s t f bs ns → has n bs ≡ true → n < t + 1 + max → (n < t + max) ⊎ (t + max ≤ n) → has n (started ns ++ (t + max) ∷ []) ≡ true
all_starts bs ns max s t f n o h l (inl q) = has_left (started ns) (t + max) n (o.all n h q)
all_starts bs ns max s t f n o h l (inr q) = has_last (started ns) (t + max) n (omega arith)

not_yet : (bs : List ℕ) (ns : List Notice) (max s t f : ℕ) → IsTelling max s t f bs ns → has (t + max) (started ns) ≡ false
not_yet bs ns max s t f o = false_from_ne_true (has (t + max) (started ns)) (λ h. (let l = (o.alone (t + max) h).1 in absurd (omega arith)))

once_starts : (bs : List ℕ) (ns : List Notice) (max s t f n : ℕ) (b : Bool) → IsTelling max s t f bs ns → (t + max == n) ≡ b → times n (started ns ++ (t + max) ∷ []) ≤ 1
once_starts bs ns max s t f n true o e =
    let m = times_more n (t + max) (started ns) true e in
    let q : t + max ≡ n = eqb-true (t + max) n e in
    let z : times n (started ns) ≡ 0 = subst (λ k. times k (started ns) ≡ 0) q (times_none (t + max) (started ns) (not_yet bs ns max s t f o)) in
    omega arith
once_starts bs ns max s t f n false o e = (let m = times_more n (t + max) (started ns) false e in let q = o.once n in omega arith)

before_starts : (bs : List ℕ) (ns : List Notice) (max s t f n k m : ℕ) → IsTelling max s t f bs ns → has n bs ≡ true → ((k < length ns) × (slice_get ns k ≡ Some (Completes n))) ⊎ ((k ≡ length ns) × (Starts m ≡ Completes n)) → times n (started (take k (ns ++ Starts m ∷ []))) ≡ 1
before_starts bs ns max s t f n k m o h (inl q) = (let l = q.0 in rw (take-append-le k ns (Starts m ∷ []) (omega arith)) (o.before n k h q.1))
before_starts bs ns max s t f n k m o h (inr q) = (let e = q.1 in cc)

-- the first is taken, and the one past the bound starts
telling_starts : (max s t f : ℕ) (bs : List ℕ) (ns : List Notice) → IsTelling max s t f bs ns → t + max < s → IsTelling max s (t + 1) f bs (ns ++ Starts (t + max) ∷ [])
telling_starts max s t f bs ns o g =
    let st : started (ns ++ Starts (t + max) ∷ []) ≡ started ns ++ (t + max) ∷ [] = filter_map-some started_in ns (Starts (t + max)) (t + max) refl in
    let co : completed (ns ++ Starts (t + max) ∷ []) ≡ completed ns = filter_map-none completed_in ns (Starts (t + max)) refl in
    record {
      few = (let a = o.few in omega arith);
      queued = omega arith;
      low = o.low;
      beyond = λ n a b. o.beyond n (omega arith) b;
      alone = λ n h. alone_starts bs ns max s t f n o g (more_cases (started ns) (t + max) n (subst (λ xs. has n xs ≡ true) st h));
      all = λ n h q. rw st (all_starts bs ns max s t f n o h q (cases_lt n (t + max)));
      once = λ n. rw st (once_starts bs ns max s t f n (t + max == n) o refl);
      done = λ n h. o.done n (subst (λ xs. has n xs ≡ true) co h);
      before = λ n k h q. before_starts bs ns max s t f n k (t + max) o h (slice_last ns (Starts (t + max)) (Completes n) k q);
    }

done_more : (ns : List Notice) (f n : ℕ) → ((m : ℕ) → has m (completed ns) ≡ true → m < f) → (has n (completed ns) ≡ true) ⊎ (f ≡ n) → n < f + 1
done_more ns f n old (inl h) = (let l = old n h in omega arith)
done_more ns f n old (inr e) = omega arith

started_once : (bs : List ℕ) (ns : List Notice) (max s t f n : ℕ) → IsTelling max s t f bs ns → has n bs ≡ true → n < t + max → times n (started ns) ≡ 1
started_once bs ns max s t f n o h l = (let a = times_some n (started ns) (o.all n h l) in let b = o.once n in omega arith)

before_done : (bs : List ℕ) (ns : List Notice) (max s t f n k : ℕ) → IsTelling max s t f bs ns → f < t → has n bs ≡ true → ((k < length ns) × (slice_get ns k ≡ Some (Completes n))) ⊎ ((k ≡ length ns) × (Completes f ≡ Completes n)) → times n (started (take k (ns ++ Completes f ∷ []))) ≡ 1
before_done bs ns max s t f n k o g h (inl q) = (let l = q.0 in rw (take-append-le k ns (Completes f ∷ []) (omega arith)) (o.before n k h q.1))
before_done bs ns max s t f n k o g h (inr q) =
    let e = q.1 in
    let same : f ≡ n = (let r : f ≡ n = cc in r) in
    let le : length ns ≤ length ns = omega arith in
    rw (q.0, take-append-le (length ns) ns (Completes f ∷ []) le, take-length ns) (started_once bs ns max s t f n o h (omega arith))

-- the one that runs is finished
telling_done : (max s t f : ℕ) (bs : List ℕ) (ns : List Notice) → IsTelling max s t f bs ns → f < t → IsTelling max s t (f + 1) bs (ns ++ Completes f ∷ [])
telling_done max s t f bs ns o g =
    let st : started (ns ++ Completes f ∷ []) ≡ started ns = filter_map-none started_in ns (Completes f) refl in
    let co : completed (ns ++ Completes f ∷ []) ≡ completed ns ++ f ∷ [] = filter_map-some completed_in ns (Completes f) f refl in
    record {
      few = omega arith;
      queued = o.queued;
      low = o.low;
      beyond = o.beyond;
      alone = λ n h. o.alone n (subst (λ xs. has n xs ≡ true) st h);
      all = λ n h q. rw st (o.all n h q);
      once = λ n. rw st (o.once n);
      done = λ n h. done_more ns f n o.done (more_cases (completed ns) f n (subst (λ xs. has n xs ≡ true) co h));
      before = λ n k h q. before_done bs ns max s t f n k o g h (slice_last ns (Completes f) (Completes n) k q);
    }

-- several are finished, one after another
telling_many : (max s t f many : ℕ) (bs : List ℕ) (ns : List Notice) → IsTelling max s t f bs ns → f + many ≤ t → IsTelling max s t (f + many) bs (ns ++ completes_from f many)
telling_many max s t f zero bs ns o l = rw (add-zero f, append-nil ns) o
telling_many max s t f (suc many) bs ns o l =
    let one = telling_done max s t f bs ns o (omega arith) in
    let q : f + 1 ≡ suc f = omega arith in
    let rest = telling_many max s t (suc f) many bs (ns ++ Completes f ∷ []) (subst (λ k. IsTelling max s t k bs (ns ++ Completes f ∷ [])) q one) (omega arith) in
    let p : suc f + many ≡ f + suc many = omega arith in
    subst₂ (λ k xs. IsTelling max s t k bs xs) p (append_assoc ns (Completes f ∷ []) (completes_from (suc f) many)) rest

front_passed_cases : (f p : ℕ) → (p < f) ⊎ (f ≤ p) → (p < f → p < p) → f ≤ p
front_passed_cases f p (inl l) h = (let q = h l in absurd (omega arith))
front_passed_cases f p (inr g) h = g

-- the front is not past the queue
pub front_passed : {A : Type 0} (es : List (BoardEntry A)) → AreNumbered es → front es ≤ passed_on es
front_passed es o = front_passed_cases (front es) (passed_on es) (cases_lt (passed_on es) (front es)) (λ l. o.done (passed_on es) (front_is_finished es (passed_on es) l))

same_telling : (max max2 s s2 t t2 f : ℕ) (bs bs2 : List ℕ) (ns ns2 : List Notice) → max2 ≡ max → s2 ≡ s → t2 ≡ t → bs2 ≡ bs → ns2 ≡ ns → IsTelling max s t f bs ns → IsTelling max2 s2 t2 f bs2 ns2
same_telling max max2 s s2 t t2 f bs bs2 ns ns2 a b c d e o = rw (a, b, c, d, e) o

-- what a pipeline told of those that it accepted into its backlog; without a queue, nothing
pub record IsStarting {A : Type 0} (es : List (BoardEntry A)) : Type 0 where
  pub server : has_queue_born (birth es) ≡ true → IsTelling (max_born (birth es)) (length (submissions es)) (dequeued es) (front es) (backlogged es) (told es)
  pub none : has_queue_born (birth es) ≡ false → (started (told es) ≡ []) × (backlogged es ≡ [])

starting_quiet : {A : Type 0} (es : List (BoardEntry A)) (e : BoardEntry A) → IsStarting es → is_some (birth es) ≡ true → accepted_in e ≡ None → dequeued_in e ≡ None → finished_in e ≡ None → tells es e ≡ [] → backlogged_in e ≡ None → IsStarting (es ++ e ∷ [])
starting_quiet es e o b a d f n c =
    let be = birth_stays es e b in
    let se : submissions (es ++ e ∷ []) ≡ submissions es = filter_map-none accepted_in es e a in
    let de : dequeues (es ++ e ∷ []) ≡ dequeues es = filter_map-none dequeued_in es e d in
    let fe : front (es ++ e ∷ []) ≡ front es = front-same es e a f in
    let ne : told (es ++ e ∷ []) ≡ told es = told-more es e ∙ (ap (λ ns. told es ++ ns) n ∙ append-nil (told es)) in
    let ce : backlogged (es ++ e ∷ []) ≡ backlogged es = filter_map-none backlogged_in es e c in
    record {
      server = λ h. rw (be, fe, se, de, ne, ce) (o.server (sym (ap has_queue_born be) ∙ h));
      none = λ h. rw (ne, ce) (o.none (sym (ap has_queue_born be) ∙ h));
    }

pub pad_no_queue : (b : Option (ℕ × Shape)) → pad_born b ≡ true → has_queue_born b ≡ false
pad_no_queue None h = cc
pad_no_queue (Some (maker, shape.Pad lists)) h = refl
pad_no_queue (Some (maker, shape.Queue max)) h = cc
pad_no_queue (Some (maker, shape.Chain max lists)) h = cc

starting_submit : {A : Type 0} (es : List (BoardEntry A)) (caller pipe number : ℕ) (ask : Arc A Global) → IsStarting es → pad_born (birth es) ≡ true → IsStarting (es ++ Submit caller pipe number ask ∷ [])
starting_submit {A} es caller pipe number ask o pad =
    let e : BoardEntry A = Submit caller pipe number ask in
    let be = birth_stays es e (born_some is_pad (birth es) pad) in
    let ne : told (es ++ e ∷ []) ≡ told es = told-more es e ∙ append-nil (told es) in
    let ce : backlogged (es ++ e ∷ []) ≡ backlogged es = filter_map-none backlogged_in es e refl in
    record {
      server = λ h. absurd (not_both (has_queue_born (birth es)) (sym (ap has_queue_born be) ∙ h) (pad_no_queue (birth es) pad));
      none = λ h. rw (ne, ce) (o.none (sym (ap has_queue_born be) ∙ h));
    }

starting_finish : {A : Type 0} (es : List (BoardEntry A)) (caller pipe number : ℕ) → IsStarting es → is_some (birth es) ≡ true → AreNumbered (es ++ Finish caller pipe number ∷ []) → IsStarting (es ++ Finish caller pipe number ∷ [])
starting_finish {A} es caller pipe number o b v =
    let e : BoardEntry A = Finish caller pipe number in
    let be = birth_stays es e b in
    let se : submissions (es ++ e ∷ []) ≡ submissions es = filter_map-none accepted_in es e refl in
    let de : dequeues (es ++ e ∷ []) ≡ dequeues es = filter_map-none dequeued_in es e refl in
    let ne = told-more es e in
    let ce : backlogged (es ++ e ∷ []) ≡ backlogged es = filter_map-none backlogged_in es e refl in
    let g = front_grows es e in
    let k : ℕ = front (es ++ e ∷ []) - front es in
    let q : front es + k ≡ front (es ++ e ∷ []) = omega arith in
    let past = front_passed (es ++ e ∷ []) v in
    record {
      server = λ h.
          (let p : passed_on (es ++ e ∷ []) ≡ dequeued (es ++ e ∷ []) = ap (λ c. cond c (dequeued (es ++ e ∷ [])) (length (submissions (es ++ e ∷ [])))) h in
          let d : dequeued (es ++ e ∷ []) ≡ dequeued es = ap length de in
          let many = telling_many (max_born (birth es)) (length (submissions es)) (dequeued es) (front es) k (backlogged es) (told es) (o.server (sym (ap has_queue_born be) ∙ h)) (omega arith) in
          let now = subst (λ f. IsTelling (max_born (birth es)) (length (submissions es)) (dequeued es) f (backlogged es) (told es ++ completes_from (front es) k)) q many in
          same_telling (max_born (birth es)) (max_born (birth (es ++ e ∷ []))) (length (submissions es)) (length (submissions (es ++ e ∷ []))) (dequeued es) (dequeued (es ++ e ∷ [])) (front (es ++ e ∷ [])) (backlogged es) (backlogged (es ++ e ∷ [])) (told es ++ tells es e) (told (es ++ e ∷ [])) (ap max_born be) (ap length se) d ce ne now);
      none = λ h. (let old = o.none (sym (ap has_queue_born be) ∙ h) in rw (ne, ce) (filter_map-append started_in (told es) (tells es e) ∙ (ap (λ ns. ns ++ started (tells es e)) old.0 ∙ none_started (front es) k), old.1));
    }

starting_born : {A : Type 0} (es : List (BoardEntry A)) (caller pipe : ℕ) (shape : Shape) → es ≡ [] → IsStarting (es ++ Born caller pipe shape ∷ [])
starting_born [] caller pipe shape n = record { server = λ h. telling_start (max_born (Some (caller, shape))); none = λ h. (refl, refl) }
starting_born (x ∷ es) caller pipe shape n = cc

progress_below : (b backlog : Bool) (n m : ℕ) → InProgress m ≡ cond b (InProgress n) (cond backlog (Busy n) NoSpace) → b ≡ true
progress_below true backlog n m h = refl
progress_below false true n m h = cc
progress_below false false n m h = cc

busy_beyond : (b backlog : Bool) (n m : ℕ) → Busy m ≡ cond b (InProgress n) (cond backlog (Busy n) NoSpace) → (b ≡ false) × (m ≡ n)
busy_beyond true backlog n m h = cc
busy_beyond false true n m h = (refl, (let e : m ≡ n = cc in e))
busy_beyond false false n m h = cc

starting_progress : {A : Type 0} (es : List (BoardEntry A)) (e : BoardEntry A) (a : A) → IsStarting es → AreNumbered es → has_queue_born (birth es) ≡ true → accepted_in e ≡ Some a → dequeued_in e ≡ None → finished_in e ≡ None → tells es e ≡ [] → backlogged_in e ≡ None → nat_lt (length (submissions es) - dequeued es) (max_born (birth es)) ≡ true → IsStarting (es ++ e ∷ [])
starting_progress es e a o v q ac d f n c below =
    let be = birth_stays es e (born_some has_queue (birth es) q) in
    let se : submissions (es ++ e ∷ []) ≡ submissions es ++ a ∷ [] = filter_map-some accepted_in es e a ac in
    let sl : length (submissions es ++ a ∷ []) ≡ length (submissions es) + 1 = length-append (submissions es) (a ∷ []) in
    let de : dequeues (es ++ e ∷ []) ≡ dequeues es = filter_map-none dequeued_in es e d in
    let fe : front (es ++ e ∷ []) ≡ front es = front-accepted es e a v ac f in
    let ne : told (es ++ e ∷ []) ≡ told es = told-more es e ∙ (ap (λ ns. told es ++ ns) n ∙ append-nil (told es)) in
    let ce : backlogged (es ++ e ∷ []) ≡ backlogged es = filter_map-none backlogged_in es e c in
    let l : length (submissions es) - dequeued es < max_born (birth es) = grind arith in
    record {
      server = λ h. rw (be, fe, se, sl, de, ne, ce) (telling_progress (max_born (birth es)) (length (submissions es)) (dequeued es) (front es) (backlogged es) (told es) (o.server q) (omega arith));
      none = λ h. absurd (not_both (has_queue_born (birth es)) q (sym (ap has_queue_born be) ∙ h));
    }

starting_busy : {A : Type 0} (es : List (BoardEntry A)) (e : BoardEntry A) (a : A) (m : ℕ) → IsStarting es → AreNumbered es → has_queue_born (birth es) ≡ true → accepted_in e ≡ Some a → dequeued_in e ≡ None → finished_in e ≡ None → tells es e ≡ [] → backlogged_in e ≡ Some m → nat_lt (length (submissions es) - dequeued es) (max_born (birth es)) ≡ false → m ≡ length (submissions es) → IsStarting (es ++ e ∷ [])
starting_busy es e a m o v q ac d f n c beyond at =
    let be = birth_stays es e (born_some has_queue (birth es) q) in
    let se : submissions (es ++ e ∷ []) ≡ submissions es ++ a ∷ [] = filter_map-some accepted_in es e a ac in
    let sl : length (submissions es ++ a ∷ []) ≡ length (submissions es) + 1 = length-append (submissions es) (a ∷ []) in
    let de : dequeues (es ++ e ∷ []) ≡ dequeues es = filter_map-none dequeued_in es e d in
    let fe : front (es ++ e ∷ []) ≡ front es = front-accepted es e a v ac f in
    let ne : told (es ++ e ∷ []) ≡ told es = told-more es e ∙ (ap (λ ns. told es ++ ns) n ∙ append-nil (told es)) in
    let ce : backlogged (es ++ e ∷ []) ≡ backlogged es ++ m ∷ [] = filter_map-some backlogged_in es e m c in
    let l : max_born (birth es) ≤ length (submissions es) - dequeued es = grind arith in
    let i = (o.server q).queued in
    record {
      server = λ h. rw (be, fe, se, sl, de, ne, ce, at) (telling_busy (max_born (birth es)) (length (submissions es)) (dequeued es) (front es) (backlogged es) (told es) (o.server q) (omega arith));
      none = λ h. absurd (not_both (has_queue_born (birth es)) q (sym (ap has_queue_born be) ∙ h));
    }

starting_enq : {A : Type 0} (es : List (BoardEntry A)) (answer : Entered) (caller pipe : ℕ) (ask : Arc A Global) (backlog : Bool) → IsStarting es → AreNumbered es → IsRightFor es (Enq caller pipe ask backlog answer) → IsStarting (es ++ Enq caller pipe ask backlog answer ∷ [])
starting_enq es (InProgress m) caller pipe ask backlog o v r =
    starting_progress es (Enq caller pipe ask backlog (InProgress m)) (arc_value ask) o v r.1.0 refl refl refl refl refl (progress_below (nat_lt (length (submissions es) - dequeued es) (max_born (birth es))) backlog (length (submissions es)) m r.2)
starting_enq es (Busy m) caller pipe ask backlog o v r =
    let b = busy_beyond (nat_lt (length (submissions es) - dequeued es) (max_born (birth es))) backlog (length (submissions es)) m r.2 in
    starting_busy es (Enq caller pipe ask backlog (Busy m)) (arc_value ask) m o v r.1.0 refl refl refl refl refl b.0 b.1
starting_enq es NoSpace caller pipe ask backlog o v r = starting_quiet es (Enq caller pipe ask backlog NoSpace) o (born_some has_queue (birth es) r.1.0) refl refl refl refl refl

no_start : (b : Bool) (n : ℕ) → None ≡ cond b (Some n) None → b ≡ false
no_start true n h = cc
no_start false n h = refl

a_start : (b : Bool) (n m : ℕ) → Some m ≡ cond b (Some n) None → (b ≡ true) × (m ≡ n)
a_start true n m h = (refl, (let e : m ≡ n = cc in e))
a_start false n m h = cc

starting_deq : {A : Type 0} (es : List (BoardEntry A)) (starting : Option ℕ) (caller pipe number : ℕ) → IsStarting es → IsRightFor es (Deq caller pipe number starting) → IsStarting (es ++ Deq caller pipe number starting ∷ [])
starting_deq {A} es None caller pipe number o r =
    let e : BoardEntry A = Deq caller pipe number None in
    let q = r.0.0 in
    let be = birth_stays es e (born_some has_queue (birth es) q) in
    let fe : front (es ++ e ∷ []) ≡ front es = front-same es e refl refl in
    let se : submissions (es ++ e ∷ []) ≡ submissions es = filter_map-none accepted_in es e refl in
    let de : dequeues (es ++ e ∷ []) ≡ dequeues es ++ (number, caller) ∷ [] = filter_map-some dequeued_in es e (number, caller) refl in
    let dl : length (dequeues es ++ (number, caller) ∷ []) ≡ dequeued es + 1 = length-append (dequeues es) ((number, caller) ∷ []) in
    let ne : told (es ++ e ∷ []) ≡ told es = told-more es e ∙ append-nil (told es) in
    let ce : backlogged (es ++ e ∷ []) ≡ backlogged es = filter_map-none backlogged_in es e refl in
    let at : number ≡ dequeued es = r.4 in
    let w : 0 < length (submissions es) - dequeued es = r.3 in
    let b = no_start (nat_lt (number + max_born (birth es)) (length (submissions es))) (number + max_born (birth es)) r.5 in
    let l : length (submissions es) ≤ number + max_born (birth es) = grind arith in
    record {
      server = λ h. rw (be, fe, se, de, dl, ne, ce) (telling_deq (max_born (birth es)) (length (submissions es)) (dequeued es) (front es) (backlogged es) (told es) (o.server q) (omega arith) (omega arith));
      none = λ h. absurd (not_both (has_queue_born (birth es)) q (sym (ap has_queue_born be) ∙ h));
    }
starting_deq {A} es (Some m) caller pipe number o r =
    let e : BoardEntry A = Deq caller pipe number (Some m) in
    let q = r.0.0 in
    let be = birth_stays es e (born_some has_queue (birth es) q) in
    let fe : front (es ++ e ∷ []) ≡ front es = front-same es e refl refl in
    let se : submissions (es ++ e ∷ []) ≡ submissions es = filter_map-none accepted_in es e refl in
    let de : dequeues (es ++ e ∷ []) ≡ dequeues es ++ (number, caller) ∷ [] = filter_map-some dequeued_in es e (number, caller) refl in
    let dl : length (dequeues es ++ (number, caller) ∷ []) ≡ dequeued es + 1 = length-append (dequeues es) ((number, caller) ∷ []) in
    let ne : told (es ++ e ∷ []) ≡ told es ++ Starts m ∷ [] = told-more es e in
    let ce : backlogged (es ++ e ∷ []) ≡ backlogged es = filter_map-none backlogged_in es e refl in
    let at : number ≡ dequeued es = r.4 in
    let b = a_start (nat_lt (number + max_born (birth es)) (length (submissions es))) (number + max_born (birth es)) m r.5 in
    let c = b.0 in
    let l : number + max_born (birth es) < length (submissions es) = grind arith in
    let ma : m ≡ dequeued es + max_born (birth es) = b.1 ∙ ap (λ n. n + max_born (birth es)) at in
    record {
      server = λ h. rw (be, fe, se, de, dl, ne, ce, ma) (telling_starts (max_born (birth es)) (length (submissions es)) (dequeued es) (front es) (backlogged es) (told es) (o.server q) (omega arith));
      none = λ h. absurd (not_both (has_queue_born (birth es)) q (sym (ap has_queue_born be) ∙ h));
    }

starting_done : {A : Type 0} (es : List (BoardEntry A)) (caller pipe number : ℕ) → IsStarting es → AreNumbered es → IsRightFor es (Done caller pipe number) → IsStarting (es ++ Done caller pipe number ∷ [])
starting_done {A} es caller pipe number o v r =
    let e : BoardEntry A = Done caller pipe number in
    let q = has_queue_of_queue (birth es) r.0 in
    let be = birth_stays es e (born_some has_queue (birth es) q) in
    let next = runs_next es number caller v r.0 r.1 r.2 in
    let fronts = front_done es caller pipe number v r.0 next.0 next.1 in
    let high = next.1 in
    let fe : front (es ++ e ∷ []) ≡ front es + 1 = fronts.1 in
    let se : submissions (es ++ e ∷ []) ≡ submissions es = filter_map-none accepted_in es e refl in
    let de : dequeues (es ++ e ∷ []) ≡ dequeues es = filter_map-none dequeued_in es e refl in
    let at : number ≡ front es = next.0 ∙ sym fronts.0 in
    let ne : told (es ++ e ∷ []) ≡ told es ++ Completes (front es) ∷ [] = told-more es e ∙ ap (λ n. told es ++ Completes n ∷ []) at in
    let ce : backlogged (es ++ e ∷ []) ≡ backlogged es = filter_map-none backlogged_in es e refl in
    record {
      server = λ h. rw (be, fe, se, de, ne, ce) (telling_done (max_born (birth es)) (length (submissions es)) (dequeued es) (front es) (backlogged es) (told es) (o.server q) (omega arith));
      none = λ h. absurd (not_both (has_queue_born (birth es)) q (sym (ap has_queue_born be) ∙ h));
    }

starting_step : {A : Type 0} (es : List (BoardEntry A)) (e : BoardEntry A) (given : List Notice) → IsOrderly es given → IsStarting es → IsRightFor es e → IsStarting (es ++ e ∷ [])
starting_step es (Born caller pipe shape) given v o r = starting_born es caller pipe shape r.1
starting_step es (Submit caller pipe number ask) given v o r = starting_submit es caller pipe number ask o r.1.0
starting_step es (Take caller pipe number) given v o r = starting_quiet es (Take caller pipe number) o (born_some has_lists (birth es) r.0.0) refl refl refl refl refl
starting_step es (Finish caller pipe number) given v o r = starting_finish es caller pipe number o (born_some has_lists (birth es) r.0) (orderly_step es (Finish caller pipe number) given v r).numbered
starting_step es (Enq caller pipe ask backlog answer) given v o r = starting_enq es answer caller pipe ask backlog o v.numbered r
starting_step es (Deq caller pipe number starting) given v o r = starting_deq es starting caller pipe number o r
starting_step es (Done caller pipe number) given v o r = starting_done es caller pipe number o v.numbered r
starting_step es (Hold caller pipe) given v o r = starting_quiet es (Hold caller pipe) o (maker_some (birth es) caller r.0.1) refl refl refl refl refl
starting_step es (Go caller pipe) given v o r = starting_quiet es (Go caller pipe) o (maker_some (birth es) caller r.0.1) refl refl refl refl refl
starting_step es (Collect caller pipe to) given v o r = starting_quiet es (Collect caller pipe to) o (maker_some (birth es) caller r.0.1) refl refl refl refl refl
starting_step es (Close caller pipe) given v o r = starting_quiet es (Close caller pipe) o (maker_some (birth es) caller r.0.1) refl refl refl refl refl
starting_step es (Share caller pipe) given v o r = starting_quiet es (Share caller pipe) o (maker_some (birth es) caller r.0.1) refl refl refl refl refl
starting_step es (Mask caller pipe mask) given v o r = starting_quiet es (Mask caller pipe mask) o (maker_some (birth es) caller r.0.1) refl refl refl refl refl
starting_step es (Shut caller) given v o r = absurd r

starting_run : {A : Type 0} (before es : List (BoardEntry A)) (given : List Notice) → IsOrderly before given → IsStarting before → AreRightForAfter before es → IsStarting (before ++ es)
starting_run before [] given v o r = subst (λ xs. IsStarting xs) (sym (append-nil before)) o
starting_run before (e ∷ es) given v o r =
    subst (λ xs. IsStarting xs) (append_assoc before (e ∷ []) es) (starting_run (before ++ e ∷ []) es (given ++ handed_in before e) (orderly_step before e given v r.0) (starting_step before e given v o r.0) r.1)

-- what a pipeline told whose own entries are right
pub starting : {A : Type 0} (es : List (BoardEntry A)) → AreRightForAfter [] es → IsStarting es
starting es r = starting_run [] es [] orderly_start (record { server = λ h. cc; none = λ h. (refl, refl) }) r

-- ---- the laws

either : (b : Bool) → (b ≡ true) ⊎ (b ≡ false)
either true = inl refl
either false = inr refl

alone_by : {A : Type 0} (es : List (BoardEntry A)) (n : ℕ) → IsStarting es → (has_queue_born (birth es) ≡ true) ⊎ (has_queue_born (birth es) ≡ false) → has n (started (told es)) ≡ true → has n (backlogged es) ≡ true
alone_by es n o (inl l) h = ((o.server l).alone n h).0
alone_by es n o (inr l) h = (let g : has n [] ≡ true = subst (λ ns. has n ns ≡ true) (o.none l).0 h in cc)

pub alone : {A : Type 0} (es : List (BoardEntry A)) (n : ℕ) → AreRightForAfter [] es → has n (started (told es)) ≡ true → has n (backlogged es) ≡ true
alone es n r h = alone_by es n (starting es r) (either (has_queue_born (birth es))) h

once_by : {A : Type 0} (es : List (BoardEntry A)) (n : ℕ) → IsStarting es → (has_queue_born (birth es) ≡ true) ⊎ (has_queue_born (birth es) ≡ false) → times n (started (told es)) ≤ 1
once_by es n o (inl l) = (o.server l).once n
once_by es n o (inr l) = rw (o.none l).0 (omega arith)

pub once : {A : Type 0} (es : List (BoardEntry A)) (n : ℕ) → AreRightForAfter [] es → times n (started (told es)) ≤ 1
once es n r = once_by es n (starting es r) (either (has_queue_born (birth es)))

before_by : {A : Type 0} (es : List (BoardEntry A)) (n k : ℕ) → IsStarting es → (has_queue_born (birth es) ≡ true) ⊎ (has_queue_born (birth es) ≡ false) → has n (backlogged es) ≡ true → slice_get (told es) k ≡ Some (Completes n) → times n (started (take k (told es))) ≡ 1
before_by es n k o (inl l) h at = (o.server l).before n k h at
before_by es n k o (inr l) h at = (let g : has n [] ≡ true = subst (λ ns. has n ns ≡ true) (o.none l).1 h in cc)

pub before : {A : Type 0} (es : List (BoardEntry A)) (n k : ℕ) → AreRightForAfter [] es → has n (backlogged es) ≡ true → slice_get (told es) k ≡ Some (Completes n) → times n (started (take k (told es))) ≡ 1
before es n k r h at = before_by es n k (starting es r) (either (has_queue_born (birth es))) h at
