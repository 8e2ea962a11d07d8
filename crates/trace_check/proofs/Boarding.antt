-- What the checker keeps of a board goes on with a right event.
use Rattle.std.proofs.Common.{◌≡◌, ℕ, ◌+◌, ◌-◌, ◌<◌, ◌≤◌, ◌^◌, Bool, true, false, cond, List, [], ◌∷◌, ◌++◌, length, take, Option, Some, None, refl, sym, ◌∙◌, ap, subst, arith, inl, inr, ◌⊎◌, get_or}
use Rattle.std.specs.Prelude.{◌==◌, slice_get, slice_set, MatchOption}
use Rattle.std.specs.List.{filter_map}
use Rattle.std.proofs.lemmas.Bool.{cases_eq, eq-eqb, le-leb}
use Rattle.std.proofs.lemmas.List.{length-set, length_push, take_more, length-take}
use Rattle.std.proofs.lemmas.Option.{slice_get-get_or}
use Rattle.board.specs.declared.entry.Shape.{Shape}
use Rattle.board.specs.declared.entry.Entered.TheVariants.{InProgress, Busy, NoSpace}
use Rattle.board.specs.declared.entry.BoardEntry.{BoardEntry}
use Rattle.board.specs.declared.entry.BoardEntry.TheVariants.{Born, Submit, Take, Finish, Enq, Deq, Done, Hold, Go, Collect, Close, Share, Mask, Shut}
use Rattle.board.specs.Shapes.{is_serial, lists_of, IsShape}
use Rattle.board.specs.Entries.{is_of, entries_of, birth_in, submissions, dequeues, takers, finished}
use Rattle.board.specs.Legal.{is_shut_entry, IsRight}
use Rattle.board.proofs.Transfer.{entries-more, entries-same}
use Rattle.board.proofs.Lists.{filter_map-none, filter_map-some}
use Rattle.board.proofs.Kept.{legal_more}
use Rattle.board.proofs.Counting.{filter-at_most}
use Rattle.trace_check.specs.declared.reason.Reason.{Reason}
use Rattle.trace_check.specs.BoardReasons.{IsWrong, IsFirstWrong}
use Rattle.trace_check.specs.Pipes.{PipeState, full_mask, new_pipe, pipe_of, judged, CanCount, AllCanCount, after, is_shut_by, after_at, pipes_after}
use Rattle.trace_check.proofs.Places.{get-set_same, get-set_other, get-push_same, get-push_other, run_within}
use Rattle.trace_check.proofs.Histories.{any-none, any_now, only_of}
use Rattle.trace_check.proofs.Standing.{IsPipe, takers_by, takers_are}
use Rattle.trace_check.proofs.Deciding.{few_lists}
use Rattle.trace_check.proofs.Judging.{IsBoard, IsPlace, is_inner, no_state, dec_state, dec_number}
use Rattle.trace_check.proofs.Parts.{right_has_all, judged_right, judged_wrong}
use Rattle.trace_check.proofs.Stepping.{pipe_step}

same_pipe : (p : ℕ) → (p == p) ≡ true
same_pipe p = eq-eqb p p refl

is_of_own : {A : Type 0} (e : BoardEntry A) → is_inner e ≡ true → is_of (pipe_of e) e ≡ true
is_of_own (Born caller pipe shape) i = cc
is_of_own (Submit caller pipe number ask) i = same_pipe pipe
is_of_own (Take caller pipe number) i = same_pipe pipe
is_of_own (Finish caller pipe number) i = same_pipe pipe
is_of_own (Enq caller pipe ask backlog answer) i = same_pipe pipe
is_of_own (Deq caller pipe number started) i = same_pipe pipe
is_of_own (Done caller pipe number) i = same_pipe pipe
is_of_own (Hold caller pipe) i = same_pipe pipe
is_of_own (Go caller pipe) i = same_pipe pipe
is_of_own (Collect caller pipe to) i = same_pipe pipe
is_of_own (Close caller pipe) i = same_pipe pipe
is_of_own (Share caller pipe) i = same_pipe pipe
is_of_own (Mask caller pipe mask) i = same_pipe pipe
is_of_own (Shut caller) i = cc

no_birth : {A : Type 0} (e : BoardEntry A) → is_inner e ≡ true → birth_in e ≡ None
no_birth (Born caller pipe shape) i = cc
no_birth (Submit caller pipe number ask) i = refl
no_birth (Take caller pipe number) i = refl
no_birth (Finish caller pipe number) i = refl
no_birth (Enq caller pipe ask backlog answer) i = refl
no_birth (Deq caller pipe number started) i = refl
no_birth (Done caller pipe number) i = refl
no_birth (Hold caller pipe) i = refl
no_birth (Go caller pipe) i = refl
no_birth (Collect caller pipe to) i = refl
no_birth (Close caller pipe) i = refl
no_birth (Share caller pipe) i = refl
no_birth (Mask caller pipe mask) i = refl
no_birth (Shut caller) i = cc

no_shut : {A : Type 0} (e : BoardEntry A) → is_inner e ≡ true → is_shut_entry e ≡ false
no_shut (Born caller pipe shape) i = cc
no_shut (Submit caller pipe number ask) i = refl
no_shut (Take caller pipe number) i = refl
no_shut (Finish caller pipe number) i = refl
no_shut (Enq caller pipe ask backlog answer) i = refl
no_shut (Deq caller pipe number started) i = refl
no_shut (Done caller pipe number) i = refl
no_shut (Hold caller pipe) i = refl
no_shut (Go caller pipe) i = refl
no_shut (Collect caller pipe to) i = refl
no_shut (Close caller pipe) i = refl
no_shut (Share caller pipe) i = refl
no_shut (Mask caller pipe mask) i = refl
no_shut (Shut caller) i = cc

-- the event's own pipeline, and each other
inner_each : {A : Type 0} (ps : List PipeState) (h : List (BoardEntry A)) (e : BoardEntry A) (s : PipeState) (p : ℕ) → is_inner e ≡ true → slice_get ps (pipe_of e) ≡ Some s → IsPipe (entries_of (pipe_of e) h ++ e ∷ []) (after s e) → ((q : ℕ) → IsPlace (entries_of q h) (slice_get ps q)) → (p ≡ pipe_of e) ⊎ (p ≡ pipe_of e → ⊥) → IsPlace (entries_of p (h ++ e ∷ [])) (slice_get (slice_set ps (pipe_of e) (after s e)) p)
inner_each ps h e s p i there new each (inl same) =
    rw (same, get-set_same ps (pipe_of e) (after s e) s there, entries-more h (pipe_of e) e (is_of_own e i)) new
inner_each ps h e s p i there new each (inr other) =
    rw (get-set_other ps (pipe_of e) p (after s e) other, entries-same h p e (only_of e (pipe_of e) p (is_of_own e i) other)) (each p)

inner_step : {A : Type 0} (ps : List PipeState) (shut : Bool) (h : List (BoardEntry A)) (e : BoardEntry A) (p : Option PipeState) → is_inner e ≡ true → slice_get ps (pipe_of e) ≡ p → IsRight h e → IsBoard ps shut h → IsBoard (after_at ps e p) shut (h ++ e ∷ [])
inner_step ps shut h e None i there r k =
    absurd (no_state h e i (subst (IsPlace (entries_of (pipe_of e) h)) there (k.each (pipe_of e))) (right_has_all h e r).0)
inner_step ps shut h e (Some s) i there r k =
    let kept : IsPipe (entries_of (pipe_of e) h) s = subst (IsPlace (entries_of (pipe_of e) h)) there (k.each (pipe_of e)) in
    let parts = right_has_all h e r in
    let new : IsPipe (entries_of (pipe_of e) h ++ e ∷ []) (after s e) = pipe_step (entries_of (pipe_of e) h) s e i ((dec_state h s e i kept).1 parts.0) ((dec_number h s e i kept).1 parts.2) kept in
    record {
      legal = legal_more h e k.legal r;
      count = ap length (filter_map-none birth_in h e (no_birth e i)) ∙ (k.count ∙ sym (length-set ps (pipe_of e) (after s e)));
      each = λ p. inner_each ps h e s p i there new k.each (cases_eq p (pipe_of e));
      shutting = any-none is_shut_entry h e (no_shut e i) ∙ k.shutting;
    }

full_is : (lists : ℕ) → lists ≤ 16 → 2 ^ lists - 1 ≡ full_mask lists
full_is lists few = ap (λ b. cond b (2 ^ lists - 1) 0) (sym (le-leb lists 16 few))

none_taken : (A : Type 0) (serial : Bool) (n caller pipe : ℕ) (shape : Shape) → takers_by {A = A} serial n (Born caller pipe shape ∷ []) ≡ []
none_taken A true n caller pipe shape = refl
none_taken A false n caller pipe shape = refl

new_at : (A : Type 0) (caller pipe : ℕ) (shape : Shape) (n : ℕ) → takers {A = A} n (Born caller pipe shape ∷ []) ≡ []
new_at A caller pipe shape n = takers_are (Born caller pipe shape ∷ []) caller shape n refl ∙ none_taken A (is_serial shape) n caller pipe shape

new_is_pipe : {A : Type 0} (caller pipe : ℕ) (shape : Shape) → IsShape shape → IsPipe {A = A} (Born caller pipe shape ∷ []) (new_pipe caller shape)
new_is_pipe {A} caller pipe shape formed = record {
  requests = record { count = refl; each = λ n. (new_at A caller pipe shape n, refl) };
  marks = record { born = refl; shaped = formed; place = refl; masking = full_is (lists_of shape) (few_lists shape formed); holding = refl; sharing = refl; closing = refl };
  noted = λ c. refl;
  dequeuing = refl;
  finishing = refl;
  telling = refl;
  front = refl;
  within = omega arith;
  few = omega arith;
  line = λ q n from within. absurd (omega arith);
}

born_each : {A : Type 0} (ps : List PipeState) (h : List (BoardEntry A)) (caller pipe : ℕ) (shape : Shape) (p : ℕ) → IsShape shape → pipe ≡ length ps → entries_of pipe h ≡ [] → ((q : ℕ) → IsPlace (entries_of q h) (slice_get ps q)) → (p ≡ length ps) ⊎ (p ≡ length ps → ⊥) → IsPlace (entries_of p (h ++ Born caller pipe shape ∷ [])) (slice_get (ps ++ new_pipe caller shape ∷ []) p)
born_each ps h caller pipe shape p formed at none each (inl same) =
    let own : entries_of pipe (h ++ Born caller pipe shape ∷ []) ≡ Born caller pipe shape ∷ [] = entries-more h pipe (Born caller pipe shape) (same_pipe pipe) ∙ ap (λ es. es ++ Born caller pipe shape ∷ []) none in
    let here : entries_of p (h ++ Born caller pipe shape ∷ []) ≡ Born caller pipe shape ∷ [] = ap (λ q. entries_of q (h ++ Born caller pipe shape ∷ [])) (same ∙ sym at) ∙ own in
    let there : slice_get (ps ++ new_pipe caller shape ∷ []) p ≡ Some (new_pipe caller shape) = ap (slice_get (ps ++ new_pipe caller shape ∷ [])) same ∙ get-push_same ps (new_pipe caller shape) in
    rw (here, there) (new_is_pipe caller pipe shape formed)
born_each {A} ps h caller pipe shape p formed at none each (inr other) =
    let e : BoardEntry A = Born caller pipe shape in
    let apart : is_of p e ≡ false = only_of {A = A} e pipe p (same_pipe pipe) (λ q. other (q ∙ at)) in
    rw (get-push_other ps (new_pipe caller shape) p other, entries-same {A = A} h p e apart) (each p)

shut_each : {A : Type 0} (ps : List PipeState) (h : List (BoardEntry A)) (caller p : ℕ) → IsPlace (entries_of p h) (slice_get ps p) → IsPlace (entries_of p (h ++ Shut caller ∷ [])) (slice_get ps p)
shut_each ps h caller p k = rw (entries-same h p (Shut caller) refl) k

pub board_step : {A : Type 0} (ps : List PipeState) (shut : Bool) (h : List (BoardEntry A)) (e : BoardEntry A) → IsRight h e → IsBoard ps shut h → IsBoard (pipes_after ps e) (is_shut_by shut e) (h ++ e ∷ [])
board_step ps shut h (Born caller pipe shape) r k = record {
  legal = legal_more h _ k.legal r;
  count = ap length (filter_map-some birth_in h _ (caller, shape) refl) ∙ (length_push (filter_map birth_in h) (caller, shape) ∙ (ap (λ n. n + 1) k.count ∙ sym (length_push ps (new_pipe caller shape))));
  each = λ p. born_each ps h caller pipe shape p r.1.2 (r.0 ∙ k.count) r.1.1 k.each (cases_eq p (length ps));
  shutting = any-none is_shut_entry h _ refl ∙ k.shutting;
}
board_step ps shut h (Shut caller) r k = record {
  legal = legal_more h _ k.legal r;
  count = ap length (filter_map-none birth_in h _ refl) ∙ k.count;
  each = λ p. shut_each ps h caller p (k.each p);
  shutting = any_now is_shut_entry h _ refl;
}
board_step ps shut h (Submit caller pipe number ask) r k = inner_step ps shut h _ (slice_get ps pipe) refl refl r k
board_step ps shut h (Take caller pipe number) r k = inner_step ps shut h _ (slice_get ps pipe) refl refl r k
board_step ps shut h (Finish caller pipe number) r k = inner_step ps shut h _ (slice_get ps pipe) refl refl r k
board_step ps shut h (Enq caller pipe ask backlog answer) r k = inner_step ps shut h _ (slice_get ps pipe) refl refl r k
board_step ps shut h (Deq caller pipe number started) r k = inner_step ps shut h _ (slice_get ps pipe) refl refl r k
board_step ps shut h (Done caller pipe number) r k = inner_step ps shut h _ (slice_get ps pipe) refl refl r k
board_step ps shut h (Hold caller pipe) r k = inner_step ps shut h _ (slice_get ps pipe) refl refl r k
board_step ps shut h (Go caller pipe) r k = inner_step ps shut h _ (slice_get ps pipe) refl refl r k
board_step ps shut h (Collect caller pipe to) r k = inner_step ps shut h _ (slice_get ps pipe) refl refl r k
board_step ps shut h (Close caller pipe) r k = inner_step ps shut h _ (slice_get ps pipe) refl refl r k
board_step ps shut h (Share caller pipe) r k = inner_step ps shut h _ (slice_get ps pipe) refl refl r k
board_step ps shut h (Mask caller pipe mask) r k = inner_step ps shut h _ (slice_get ps pipe) refl refl r k

pub board_empty : {A : Type 0} → IsBoard {A = A} [] false []
board_empty = record { legal = tt; count = refl; each = λ p. refl; shutting = refl }

-- an entry accepts a request, lets one out of a line, or finishes one, or none of these
kinds_apart : {A : Type 0} (es : List (BoardEntry A)) → length (submissions es) + length (dequeues es) + length (finished es) ≤ length es
kinds_apart [] = omega arith
kinds_apart (Born caller pipe shape ∷ es) = (let h = kinds_apart es in omega arith)
kinds_apart (Submit caller pipe number ask ∷ es) = (let h = kinds_apart es in omega arith)
kinds_apart (Take caller pipe number ∷ es) = (let h = kinds_apart es in omega arith)
kinds_apart (Finish caller pipe number ∷ es) = (let h = kinds_apart es in omega arith)
kinds_apart (Enq caller pipe ask backlog (InProgress number) ∷ es) = (let h = kinds_apart es in omega arith)
kinds_apart (Enq caller pipe ask backlog (Busy number) ∷ es) = (let h = kinds_apart es in omega arith)
kinds_apart (Enq caller pipe ask backlog NoSpace ∷ es) = (let h = kinds_apart es in omega arith)
kinds_apart (Deq caller pipe number started ∷ es) = (let h = kinds_apart es in omega arith)
kinds_apart (Done caller pipe number ∷ es) = (let h = kinds_apart es in omega arith)
kinds_apart (Hold caller pipe ∷ es) = (let h = kinds_apart es in omega arith)
kinds_apart (Go caller pipe ∷ es) = (let h = kinds_apart es in omega arith)
kinds_apart (Collect caller pipe to ∷ es) = (let h = kinds_apart es in omega arith)
kinds_apart (Close caller pipe ∷ es) = (let h = kinds_apart es in omega arith)
kinds_apart (Share caller pipe ∷ es) = (let h = kinds_apart es in omega arith)
kinds_apart (Mask caller pipe mask ∷ es) = (let h = kinds_apart es in omega arith)
kinds_apart (Shut caller ∷ es) = (let h = kinds_apart es in omega arith)

count_at : {A : Type 0} (h : List (BoardEntry A)) (p : ℕ) (s : PipeState) → length h + 1 < 2 ^ 64 → IsPipe (entries_of p h) s → CanCount s
count_at h p s short k =
    let own = filter-at_most (is_of p) h in
    let apart = kinds_apart (entries_of p h) in
    let a = k.requests.count in
    let b = k.dequeuing in
    let c = k.finishing in
    let few = k.few in
    let v = k.front in
    let w = run_within s.requests in
    record { dequeued = omega arith; finished = omega arith; told = omega arith; front = omega arith }

pub can_count : {A : Type 0} (ps : List PipeState) (shut : Bool) (h : List (BoardEntry A)) → length h + 1 < 2 ^ 64 → IsBoard ps shut h → AllCanCount ps
can_count ps shut h short k p s there = count_at h p s short (subst (IsPlace (entries_of p h)) there (k.each p))

-- The events are checked in order.
goes_on : {A : Type 0} (ps : List PipeState) (shut : Bool) (h : List (BoardEntry A)) (k : ℕ) (e : BoardEntry A) → k < length h → e ≡ get_or h k e → judged ps shut e ≡ None → IsBoard ps shut (take k h) → IsBoard (pipes_after ps e) (is_shut_by shut e) (take k h ++ e ∷ [])
goes_on ps shut h k e within here j b = board_step ps shut (take k h) e (judged_right ps shut (take k h) e b j) b

pub board_goes_on : {A : Type 0} (ps : List PipeState) (shut : Bool) (h : List (BoardEntry A)) (k : ℕ) (e : BoardEntry A) (qs : List PipeState) (shut' : Bool) → k < length h → e ≡ get_or h k e → judged ps shut e ≡ None → qs ≡ pipes_after ps e → shut' ≡ is_shut_by shut e → IsBoard ps shut (take k h) → IsBoard qs shut' (take (k + 1) h)
board_goes_on ps shut h k e qs shut' within here j q s b =
    rw (take_more h k e within, ← here, q, s) (goes_on ps shut h k e within here j b)

pub first_wrong_at : {A : Type 0} (ps : List PipeState) (shut : Bool) (h : List (BoardEntry A)) (k : ℕ) (e : BoardEntry A) (r : Reason) → k < length h → e ≡ get_or h k e → judged ps shut e ≡ Some r → IsBoard ps shut (take k h) → IsFirstWrong h (Some (k, r))
first_wrong_at ps shut h k e r within here j b =
    (b.legal, subst (λ o. MatchOption o ⊥ (λ x. IsWrong (take k h) x r)) (sym (slice_get-get_or h k e within ∙ ap Some (sym here))) (judged_wrong ps shut (take k h) e r b j))

pub none_left : {X : Type 0} (o : Option X) → ((x : X) → o ≡ Some x → ⊥) → o ≡ None
none_left None n = refl
none_left (Some x) n = absurd (n x refl)

pub counts_at : {A : Type 0} (ps : List PipeState) (shut : Bool) (h : List (BoardEntry A)) (k : ℕ) → k < length h → length h < 2 ^ 64 → IsBoard ps shut (take k h) → AllCanCount ps
counts_at ps shut h k within short b = can_count ps shut (take k h) (let l = length-take k h in omega arith) b
