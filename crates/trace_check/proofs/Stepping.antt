-- What the checker keeps goes on with a right event.
use Rattle.std.proofs.Common.{◌≡◌, ℕ, ◌+◌, ◌-◌, ◌<◌, ◌≤◌, Bool, true, false, not, cond, ◌&&◌, ◌||◌, List, [], ◌∷◌, ◌++◌, length, drop, Option, Some, None, refl, sym, ◌∙◌, ap, arith, inl, inr, ◌⊎◌, add-zero}
use Rattle.std.specs.declared.sync.Arc.{Arc}
use Rattle.std.specs.declared.alloc.Global.{Global}
use Rattle.std.specs.Arc.{arc_value}
use Rattle.std.specs.Prelude.{◌==◌, nat_lt, slice_get, slice_set}
use Rattle.std.specs.Option.{option_map_or}
use Rattle.std.proofs.lemmas.Bool.{cases_eq, eqb-true, and_parts, ltb-true}
use Rattle.std.proofs.lemmas.List.{length-set, length_push}
use Rattle.board.specs.declared.entry.Shape.{Shape}
use Rattle.board.specs.declared.entry.Shape.TheVariants.{Pad, Queue, Chain}
use Rattle.board.specs.declared.entry.Entered.{Entered}
use Rattle.board.specs.declared.entry.Entered.TheVariants.{InProgress, Busy, NoSpace}
use Rattle.board.specs.declared.entry.BoardEntry.{BoardEntry}
use Rattle.board.specs.declared.entry.BoardEntry.TheVariants.{Born, Submit, Take, Finish, Enq, Deq, Done, Hold, Go, Collect, Close, Share, Mask, Shut}
use Rattle.board.specs.Shapes.{has_queue, has_lists, is_serial}
use Rattle.board.specs.Entries.{front, accepted_in, submitter_in, dequeued_in, dequeues, taken_in, finished_in, finished, tells, told, collected_in, held_in, masked_in, is_share, is_close}
use Rattle.board.proofs.Lists.{filter_map-none, filter_map-some}
use Rattle.board.proofs.Kept.{closed-same, collected-same, held-same, shared-same}
use Rattle.trace_check.specs.declared.pipe.Progress.{Progress}
use Rattle.trace_check.specs.declared.pipe.Progress.TheVariants.{Waits, Runs, Ended}
use Rattle.trace_check.specs.Pipes.{PipeState, passes, waits, runs, ended_run, has_state, has_number, is_open_as, may_serve, backlog_of, passed_by, same_number, starts_by, notices_in, with_request, with_entered, with_taken, with_ended, after}
use Rattle.trace_check.proofs.Histories.{last_now, any_now, told_more, length-completes}
use Rattle.trace_check.proofs.Places.{get-set_other, get-push_same, get-push_other, run-push, run-taken, run-ended}
use Rattle.trace_check.proofs.Standing.{AreRequests, IsMarked, IsLine, IsPipe, AsksNothing, MarksNothing, taking, no_taking, born_still, requests_stay, submitters_stay, mask_stays, marks_stay}
use Rattle.trace_check.proofs.Requests.{requests_accepted, requests_taken, requests_ended, submitters_more, front_is}
use Rattle.trace_check.proofs.Judging.{is_inner}

waits_at : (p : Option Progress) → option_map_or waits p false ≡ true → p ≡ Some Waits
waits_at None h = cc
waits_at (Some Waits) h = refl
waits_at (Some (Runs caller)) h = cc
waits_at (Some Ended) h = cc

runs_at : (p : Option Progress) → option_map_or runs p false ≡ true → (caller : ℕ) × (p ≡ Some (Runs caller))
runs_at None h = cc
runs_at (Some Waits) h = cc
runs_at (Some (Runs caller)) h = (caller, refl)
runs_at (Some Ended) h = cc

started_notices : {A : Type 0} (es : List (BoardEntry A)) (caller pipe number : ℕ) (started : Option ℕ) → length (tells es (Deq caller pipe number started)) ≡ notices_in started
started_notices es caller pipe number (Some n) = refl
started_notices es caller pipe number None = refl

few_notices : (started : Option ℕ) → notices_in started ≤ 1
few_notices (Some n) = omega arith
few_notices None = omega arith

lists_not_serial : (shape : Shape) → has_lists shape ≡ true → is_serial shape ≡ false
lists_not_serial (Pad lists) h = refl
lists_not_serial (Queue max) h = cc
lists_not_serial (Chain max lists) h = refl

told_same : {A : Type 0} (es : List (BoardEntry A)) (s : PipeState) (e : BoardEntry A) → tells es e ≡ [] → IsPipe es s → length (told (es ++ e ∷ [])) ≡ s.told
told_same es s e t k = told_more es e s.told 0 k.telling (ap length t) ∙ add-zero s.told

-- The line of a queue.
line_pushed : (shape : Shape) (rs : List Progress) (gone : ℕ) → IsLine shape rs gone → IsLine shape (rs ++ Waits ∷ []) gone
line_pushed shape rs gone line q n from within = pushed_at (cases_eq n (length rs))
  where
    pushed_at : (n ≡ length rs) ⊎ (n ≡ length rs → ⊥) → slice_get (rs ++ Waits ∷ []) n ≡ Some Waits
    pushed_at (inl e) = rw e (get-push_same rs Waits)
    pushed_at (inr other) = get-push_other rs Waits n other ∙ line q n from (let l = length_push rs Waits in omega arith)

line_taken : (shape : Shape) (rs : List Progress) (gone number caller : ℕ) → number ≡ gone → IsLine shape rs gone → IsLine shape (slice_set rs number (Runs caller)) (gone + 1)
line_taken shape rs gone number caller next line q n from within =
    get-set_other rs number n (Runs caller) (λ e. omega arith) ∙ line q n (omega arith) (let l = length-set rs number (Runs caller) in omega arith)

line_ended : (shape : Shape) (rs : List Progress) (gone number caller : ℕ) → slice_get rs number ≡ Some (Runs caller) → IsLine shape rs gone → IsLine shape (slice_set rs number Ended) gone
line_ended shape rs gone number caller r line q n from within =
    let there : slice_get rs n ≡ Some Waits = line q n from (let l = length-set rs number Ended in omega arith) in
    get-set_other rs number n Ended (λ e. (let f : slice_get rs n ≡ slice_get rs number = ap (slice_get rs) e in cc)) ∙ there

no_line : (shape : Shape) (rs : List Progress) (gone : ℕ) → is_serial shape ≡ false → IsLine shape rs gone
no_line shape rs gone f q n from within = cc

-- A request is accepted.
accepts_one : {A : Type 0} (es : List (BoardEntry A)) (s : PipeState) (e : BoardEntry A) (a : A) (caller : ℕ) → accepted_in e ≡ Some a → submitter_in e ≡ Some caller → dequeued_in e ≡ None → taken_in e ≡ None → finished_in e ≡ None → tells es e ≡ [] → MarksNothing e → IsPipe es s → IsPipe (es ++ e ∷ []) (with_request s caller)
accepts_one es s e a caller i sub d t f o n k = record {
  requests = requests_accepted es e s.maker s.shape a s.requests k.marks.born i (no_taking (is_serial s.shape) e d t) f k.requests;
  marks = marks_stay es e s.maker s.shape s.collected s.mask s.held s.shared s.closed n k.marks;
  noted = submitters_more es e s.submitters caller sub k.noted;
  dequeuing = ap length (filter_map-none dequeued_in es e d) ∙ k.dequeuing;
  finishing = ap length (filter_map-none finished_in es e f) ∙ k.finishing;
  telling = told_same es s e o k;
  front = k.front ∙ sym (run-push s.requests);
  within = let w = k.within in let l = length_push s.requests Waits in omega arith;
  few = k.few;
  line = line_pushed s.shape s.requests s.dequeued k.line;
}

-- A job on a pad is taken.
taking_now : (A : Type 0) (serial : Bool) (caller pipe number : ℕ) → serial ≡ false → taking {A = A} serial (Take caller pipe number) ≡ Some (number, caller)
taking_now A true caller pipe number f = cc
taking_now A false caller pipe number f = refl

takes_one : {A : Type 0} (es : List (BoardEntry A)) (s : PipeState) (caller pipe number : ℕ) → has_lists s.shape ≡ true → slice_get s.requests number ≡ Some Waits → IsPipe es s → IsPipe (es ++ Take caller pipe number ∷ []) (with_taken s number caller)
takes_one {A} es s caller pipe number lists w k =
    let e : BoardEntry A = Take caller pipe number in
    let pad : is_serial s.shape ≡ false = lists_not_serial s.shape lists in
    let n : MarksNothing e = record { collects = refl; masks = refl; holds = refl; shares = refl; closes = refl } in
    record {
      requests = requests_taken es e s.maker s.shape number caller s.requests k.marks.born refl (taking_now A (is_serial s.shape) caller pipe number pad) refl w k.requests;
      marks = marks_stay es e s.maker s.shape s.collected s.mask s.held s.shared s.closed n k.marks;
      noted = submitters_stay es e s.submitters refl k.noted;
      dequeuing = ap length (filter_map-none dequeued_in es e refl) ∙ k.dequeuing;
      finishing = ap length (filter_map-none finished_in es e refl) ∙ k.finishing;
      telling = told_same es s e refl k;
      front = k.front ∙ sym (run-taken s.requests number caller w);
      within = let w = k.within in let l = length-set s.requests number (Runs caller) in omega arith;
      few = k.few;
      line = no_line s.shape (slice_set s.requests number (Runs caller)) s.dequeued pad;
    }

-- A request leaves a line.
leaves_one : {A : Type 0} (es : List (BoardEntry A)) (s : PipeState) (caller pipe number : ℕ) (started : Option ℕ) (rs : List Progress) → AreRequests (es ++ Deq caller pipe number started ∷ []) rs → ended_run rs ≡ ended_run s.requests → length rs ≡ length s.requests → IsLine s.shape rs (s.dequeued + 1) → s.dequeued < length s.requests → IsPipe es s
    → IsPipe (es ++ Deq caller pipe number started ∷ []) (record s { requests = rs; dequeued = s.dequeued + 1; told = s.told + notices_in started })
leaves_one {A} es s caller pipe number started rs new run same line some k =
    let e : BoardEntry A = Deq caller pipe number started in
    let n : MarksNothing e = record { collects = refl; masks = refl; holds = refl; shares = refl; closes = refl } in
    record {
      requests = new;
      marks = marks_stay es e s.maker s.shape s.collected s.mask s.held s.shared s.closed n k.marks;
      noted = submitters_stay es e s.submitters refl k.noted;
      dequeuing = ap length (filter_map-some dequeued_in es e (number, caller) refl) ∙ (length_push (dequeues es) (number, caller) ∙ ap (λ m. m + 1) k.dequeuing);
      finishing = ap length (filter_map-none finished_in es e refl) ∙ k.finishing;
      telling = told_more es e s.told (notices_in started) k.telling (started_notices es caller pipe number started);
      front = k.front ∙ sym run;
      within = omega arith;
      few = let f = k.few in let o = few_notices started in omega arith;
      line = line;
    }

dequeued_step : {A : Type 0} (es : List (BoardEntry A)) (s : PipeState) (caller pipe number : ℕ) (started : Option ℕ) (serial : Bool) → is_serial s.shape ≡ serial → number ≡ s.dequeued → s.dequeued < length s.requests → IsPipe es s
    → IsPipe (es ++ Deq caller pipe number started ∷ []) (record s { requests = cond serial (slice_set s.requests number (Runs caller)) s.requests; dequeued = s.dequeued + 1; told = s.told + notices_in started })
dequeued_step {A} es s caller pipe number started true q next some k =
    let e : BoardEntry A = Deq caller pipe number started in
    let there : slice_get s.requests number ≡ Some Waits = k.line q number (omega arith) (omega arith) in
    let t : taking (is_serial s.shape) e ≡ Some (number, caller) = ap (λ b. taking b e) q in
    leaves_one es s caller pipe number started (slice_set s.requests number (Runs caller))
    (requests_taken es e s.maker s.shape number caller s.requests k.marks.born refl t refl there k.requests)
    (run-taken s.requests number caller there) (length-set s.requests number (Runs caller)) (line_taken s.shape s.requests s.dequeued number caller next k.line) some k
dequeued_step {A} es s caller pipe number started false q next some k =
    let e : BoardEntry A = Deq caller pipe number started in
    let t : taking (is_serial s.shape) e ≡ None = ap (λ b. taking b e) q in
    leaves_one es s caller pipe number started s.requests
    (requests_stay es e s.maker s.shape s.requests k.marks.born refl t refl k.requests) refl refl (no_line s.shape s.requests (s.dequeued + 1) q) some k

-- A job is finished.
ends_one : {A : Type 0} (es : List (BoardEntry A)) (s : PipeState) (e : BoardEntry A) (number caller notices told : ℕ) → accepted_in e ≡ None → submitter_in e ≡ None → dequeued_in e ≡ None → taken_in e ≡ None → finished_in e ≡ Some number → MarksNothing e
    → (AreRequests (es ++ e ∷ []) (slice_set s.requests number Ended) → length (tells es e) ≡ notices) → s.told + notices ≡ told → told ≤ s.dequeued + (s.finished + 1) + (with_ended s number).front
    → slice_get s.requests number ≡ Some (Runs caller) → IsPipe es s → IsPipe (es ++ e ∷ []) (record (with_ended s number) { told = told })
ends_one es s e number caller notices told a sub d t f n o more few r k =
    let new : AreRequests (es ++ e ∷ []) (slice_set s.requests number Ended) = requests_ended es e s.maker s.shape number caller s.requests k.marks.born a (no_taking (is_serial s.shape) e d t) f r k.requests in
    record {
      requests = new;
      marks = marks_stay es e s.maker s.shape s.collected s.mask s.held s.shared s.closed n k.marks;
      noted = submitters_stay es e s.submitters sub k.noted;
      dequeuing = ap length (filter_map-none dequeued_in es e d) ∙ k.dequeuing;
      finishing = ap length (filter_map-some finished_in es e number f) ∙ (length_push (finished es) number ∙ ap (λ m. m + 1) k.finishing);
      telling = told_more es e s.told notices k.telling (o new) ∙ more;
      front = ap (λ f. f + ended_run (drop f (slice_set s.requests number Ended))) k.front ∙ sym (run-ended s.requests number);
      within = let w = k.within in let l = length-set s.requests number Ended in omega arith;
      few = few;
      line = line_ended s.shape s.requests s.dequeued number caller r k.line;
    }

pub front_of : {A : Type 0} (es : List (BoardEntry A)) (s : PipeState) → IsPipe es s → front es ≡ s.front
front_of es s k = front_is es s.requests k.requests ∙ sym k.front

-- what the front passes is told
passed_told : {A : Type 0} (es : List (BoardEntry A)) (s : PipeState) (caller pipe number : ℕ) → IsPipe es s → AreRequests (es ++ Finish caller pipe number ∷ []) (slice_set s.requests number Ended)
    → length (tells es (Finish caller pipe number)) ≡ (with_ended s number).front - s.front
passed_told {A} es s caller pipe number k new =
    let e : BoardEntry A = Finish caller pipe number in
    let moved : (with_ended s number).front ≡ ended_run (slice_set s.requests number Ended) = ap (λ f. f + ended_run (drop f (slice_set s.requests number Ended))) k.front ∙ sym (run-ended s.requests number) in
    let now : front (es ++ e ∷ []) ≡ (with_ended s number).front = front_is (es ++ e ∷ []) (slice_set s.requests number Ended) new ∙ sym moved in
    length-completes (front es) (front (es ++ e ∷ []) - front es) ∙ (ap (λ f. f - front es) now ∙ ap (λ f. (with_ended s number).front - f) (front_of es s k))

-- An event that says nothing of requests, with what it marks.
marks_one : {A : Type 0} (es : List (BoardEntry A)) (s : PipeState) (e : BoardEntry A) (place bits : ℕ) (held shared closed : Bool) → AsksNothing e → IsMarked (es ++ e ∷ []) s.maker s.shape place bits held shared closed → IsPipe es s
    → IsPipe (es ++ e ∷ []) (record s { collected = place; mask = bits; held = held; shared = shared; closed = closed })
marks_one es s e place bits held shared closed n m k = record {
  requests = requests_stay es e s.maker s.shape s.requests k.marks.born n.accepts (no_taking (is_serial s.shape) e n.dequeues n.takes) n.finishes k.requests;
  marks = m;
  noted = submitters_stay es e s.submitters n.submits k.noted;
  dequeuing = ap length (filter_map-none dequeued_in es e n.dequeues) ∙ k.dequeuing;
  finishing = ap length (filter_map-none finished_in es e n.finishes) ∙ k.finishing;
  telling = told_same es s e (n.tells_nothing es) k;
  front = k.front;
  within = k.within;
  few = k.few;
  line = k.line;
}

entered_step : {A : Type 0} (es : List (BoardEntry A)) (s : PipeState) (caller pipe : ℕ) (ask : Arc A Global) (backlog : Bool) (answer : Entered) → IsPipe es s → IsPipe (es ++ Enq caller pipe ask backlog answer ∷ []) (with_entered s caller answer)
entered_step es s caller pipe ask backlog (InProgress number) k = accepts_one es s _ (arc_value ask) caller refl refl refl refl refl refl (record { collects = refl; masks = refl; holds = refl; shares = refl; closes = refl }) k
entered_step es s caller pipe ask backlog (Busy number) k = accepts_one es s _ (arc_value ask) caller refl refl refl refl refl refl (record { collects = refl; masks = refl; holds = refl; shares = refl; closes = refl }) k
entered_step es s caller pipe ask backlog NoSpace k =
    marks_one es s _ s.collected s.mask s.held s.shared s.closed (record { accepts = refl; submits = refl; dequeues = refl; takes = refl; finishes = refl; tells_nothing = λ es. refl })
    (marks_stay es _ s.maker s.shape s.collected s.mask s.held s.shared s.closed (record { collects = refl; masks = refl; holds = refl; shares = refl; closes = refl }) k.marks) k

-- the pipeline goes on
pub pipe_step : {A : Type 0} (es : List (BoardEntry A)) (s : PipeState) (e : BoardEntry A) → is_inner e ≡ true → has_state s e ≡ true → has_number s e ≡ true → IsPipe es s → IsPipe (es ++ e ∷ []) (after s e)
pipe_step es s (Born caller pipe shape) i t m k = cc
pipe_step es s (Submit caller pipe number ask) i t m k = accepts_one es s _ (arc_value ask) caller refl refl refl refl refl refl (record { collects = refl; masks = refl; holds = refl; shares = refl; closes = refl }) k
pipe_step es s (Take caller pipe number) i t m k =
    let parts = and_parts (is_open_as has_lists s) (nat_lt number (passed_by s) && passes waits s number) t in
    let lists : has_lists s.shape ≡ true = (and_parts (has_lists s.shape) (not s.closed) parts.0).0 in
    takes_one es s caller pipe number lists (waits_at (slice_get s.requests number) (and_parts (nat_lt number (passed_by s)) (passes waits s number) parts.1).1) k
pipe_step es s (Finish caller pipe number) i t m k =
    let r = runs_at (slice_get s.requests number) (and_parts (has_lists s.shape) (passes runs s number) t).1 in
    let few = k.few in
    ends_one es s _ number r.0 ((with_ended s number).front - s.front) (s.told + ((with_ended s number).front - s.front)) refl refl refl refl refl (record { collects = refl; masks = refl; holds = refl; shares = refl; closes = refl })
    (passed_told es s caller pipe number k) refl (omega arith) r.1 k
pipe_step es s (Enq caller pipe ask backlog answer) i t m k = entered_step es s caller pipe ask backlog answer k
pipe_step es s (Deq caller pipe number started) i t m k =
    let next : number ≡ s.dequeued = eqb-true number s.dequeued (and_parts (number == s.dequeued) (same_number started (starts_by s number)) m).0 in
    let serve = and_parts (not s.held) ((not (is_serial s.shape) || s.finished == s.dequeued) && nat_lt 0 (backlog_of s)) (and_parts (is_open_as has_queue s) (may_serve s) t).1 in
    let some_wait : 0 < backlog_of s = ltb-true 0 (backlog_of s) (and_parts (not (is_serial s.shape) || s.finished == s.dequeued) (nat_lt 0 (backlog_of s)) serve.1).1 in
    dequeued_step es s caller pipe number started (is_serial s.shape) refl next (omega arith) k
pipe_step es s (Done caller pipe number) i t m k =
    let r = runs_at (slice_get s.requests number) (and_parts (is_serial s.shape) (passes runs s number) t).1 in
    let few = k.few in
    ends_one es s _ number r.0 1 (s.told + 1) refl refl refl refl refl (record { collects = refl; masks = refl; holds = refl; shares = refl; closes = refl })
    (λ new. refl) refl (omega arith) r.1 k
pipe_step {A} es s (Hold caller pipe) i t m k =
    let e : BoardEntry A = Hold caller pipe in
    marks_one es s e s.collected s.mask true s.shared s.closed (record { accepts = refl; submits = refl; dequeues = refl; takes = refl; finishes = refl; tells_nothing = λ es. refl }) (record {
      born = born_still es e s.maker s.shape k.marks.born;
      shaped = k.marks.shaped;
      place = collected-same es e refl ∙ k.marks.place;
      masking = mask_stays es e s.maker s.shape k.marks.born refl ∙ k.marks.masking;
      holding = last_now false held_in es e true refl;
      sharing = shared-same es e refl ∙ k.marks.sharing;
      closing = closed-same es e refl ∙ k.marks.closing;
    }) k
pipe_step {A} es s (Go caller pipe) i t m k =
    let e : BoardEntry A = Go caller pipe in
    marks_one es s e s.collected s.mask false s.shared s.closed (record { accepts = refl; submits = refl; dequeues = refl; takes = refl; finishes = refl; tells_nothing = λ es. refl }) (record {
      born = born_still es e s.maker s.shape k.marks.born;
      shaped = k.marks.shaped;
      place = collected-same es e refl ∙ k.marks.place;
      masking = mask_stays es e s.maker s.shape k.marks.born refl ∙ k.marks.masking;
      holding = last_now false held_in es e false refl;
      sharing = shared-same es e refl ∙ k.marks.sharing;
      closing = closed-same es e refl ∙ k.marks.closing;
    }) k
pipe_step {A} es s (Collect caller pipe to) i t m k =
    let e : BoardEntry A = Collect caller pipe to in
    marks_one es s e to s.mask s.held s.shared s.closed (record { accepts = refl; submits = refl; dequeues = refl; takes = refl; finishes = refl; tells_nothing = λ es. refl }) (record {
      born = born_still es e s.maker s.shape k.marks.born;
      shaped = k.marks.shaped;
      place = last_now 0 collected_in es e to refl;
      masking = mask_stays es e s.maker s.shape k.marks.born refl ∙ k.marks.masking;
      holding = held-same es e refl ∙ k.marks.holding;
      sharing = shared-same es e refl ∙ k.marks.sharing;
      closing = closed-same es e refl ∙ k.marks.closing;
    }) k
pipe_step {A} es s (Close caller pipe) i t m k =
    let e : BoardEntry A = Close caller pipe in
    marks_one es s e s.collected s.mask s.held s.shared true (record { accepts = refl; submits = refl; dequeues = refl; takes = refl; finishes = refl; tells_nothing = λ es. refl }) (record {
      born = born_still es e s.maker s.shape k.marks.born;
      shaped = k.marks.shaped;
      place = collected-same es e refl ∙ k.marks.place;
      masking = mask_stays es e s.maker s.shape k.marks.born refl ∙ k.marks.masking;
      holding = held-same es e refl ∙ k.marks.holding;
      sharing = shared-same es e refl ∙ k.marks.sharing;
      closing = any_now is_close es e refl;
    }) k
pipe_step {A} es s (Share caller pipe) i t m k =
    let e : BoardEntry A = Share caller pipe in
    marks_one es s e s.collected s.mask s.held true s.closed (record { accepts = refl; submits = refl; dequeues = refl; takes = refl; finishes = refl; tells_nothing = λ es. refl }) (record {
      born = born_still es e s.maker s.shape k.marks.born;
      shaped = k.marks.shaped;
      place = collected-same es e refl ∙ k.marks.place;
      masking = mask_stays es e s.maker s.shape k.marks.born refl ∙ k.marks.masking;
      holding = held-same es e refl ∙ k.marks.holding;
      sharing = any_now is_share es e refl;
      closing = closed-same es e refl ∙ k.marks.closing;
    }) k
pipe_step {A} es s (Mask caller pipe bits) i t m k =
    let e : BoardEntry A = Mask caller pipe bits in
    marks_one es s e s.collected bits s.held s.shared s.closed (record { accepts = refl; submits = refl; dequeues = refl; takes = refl; finishes = refl; tells_nothing = λ es. refl }) (record {
      born = born_still es e s.maker s.shape k.marks.born;
      shaped = k.marks.shaped;
      place = collected-same es e refl ∙ k.marks.place;
      masking = last_now _ masked_in es e bits refl;
      holding = held-same es e refl ∙ k.marks.holding;
      sharing = shared-same es e refl ∙ k.marks.sharing;
      closing = closed-same es e refl ∙ k.marks.closing;
    }) k
pipe_step es s (Shut caller) i t m k = cc
