-- An event is right where none of its four parts is missing.
use Rattle.std.proofs.Common.{◌≡◌, ℕ, Bool, true, false, List, [], ◌∷◌, length, Option, Some, None, refl, sym, ap, subst, arith, inl, inr, ◌⊎◌}
use Rattle.std.specs.Prelude.{slice_get, ⊤}
use Rattle.board.specs.declared.entry.Shape.{Shape}
use Rattle.board.specs.declared.entry.Shape.TheVariants.{Pad, Queue, Chain}
use Rattle.board.specs.declared.entry.Entered.{Entered}
use Rattle.board.specs.declared.entry.Entered.TheVariants.{InProgress, Busy, NoSpace}
use Rattle.board.specs.declared.entry.BoardEntry.{BoardEntry}
use Rattle.board.specs.declared.entry.BoardEntry.TheVariants.{Born, Submit, Take, Finish, Enq, Deq, Done, Hold, Go, Collect, Close, Share, Mask, Shut}
use Rattle.board.specs.Shapes.{pad_born, has_queue_born}
use Rattle.board.specs.Entries.{entries_of, birth, submissions, verdict, is_closed, maker_is}
use Rattle.board.specs.Legal.{MayManage, IsOpen, pipelines, IsRight}
use Rattle.board.proofs.KeptCalls.{not_closed}
use Rattle.trace_check.specs.declared.reason.Reason.{Reason}
use Rattle.trace_check.specs.declared.reason.Reason.TheVariants.{State, Caller, Number, Answer}
use Rattle.trace_check.specs.BoardReasons.{IsNumbered, verdict_word, IsWrong}
use Rattle.trace_check.specs.Pipes.{PipeState, judged}
use Rattle.trace_check.proofs.Deciding.{verdict_by}
use Rattle.trace_check.proofs.Judging.{IsBoard, IsPlace, HasAll, IsJudged, judged_is}
use Rattle.trace_check.proofs.Requests.{some_taker}

maker_some : (b : Option (ℕ × Shape)) (caller : ℕ) → maker_is b caller → (pad_born b ≡ true) ⊎ (has_queue_born b ≡ true)
maker_some None caller m = absurd m
maker_some (Some (maker, Pad lists)) caller m = inl refl
maker_some (Some (maker, Queue max)) caller m = inr refl
maker_some (Some (maker, Chain max lists)) caller m = inr refl

either_open : {A : Type 0} (es : List (BoardEntry A)) → is_closed es ≡ false → (pad_born (birth es) ≡ true) ⊎ (has_queue_born (birth es) ≡ true) → IsOpen es
either_open es c (inl p) = inl (p, c)
either_open es c (inr q) = inr (q, c)

managed_open : {A : Type 0} (es : List (BoardEntry A)) (caller : ℕ) → MayManage es caller → is_closed es ≡ false → IsOpen es
managed_open es caller m c = either_open es c (maker_some (birth es) caller m.1)

-- a verdict has the next number, where it has one
abbrev IsNext : ℕ → Entered → Type 0
IsNext next (InProgress number) = number ≡ next
IsNext next (Busy number) = number ≡ next
IsNext next NoSpace = ⊤

verdict_next : (within backlog : Bool) (next : ℕ) → IsNext next (verdict_by within backlog next)
verdict_next true backlog next = refl
verdict_next false true next = refl
verdict_next false false next = tt

answer_next : {A : Type 0} (es : List (BoardEntry A)) (answer : Entered) → IsNext (length (submissions es)) answer → IsNumbered es answer
answer_next es (InProgress number) n = n
answer_next es (Busy number) n = n
answer_next es NoSpace n = tt

next_answer : {A : Type 0} (es : List (BoardEntry A)) (answer : Entered) → IsNumbered es answer → IsNext (length (submissions es)) answer
next_answer es (InProgress number) n = n
next_answer es (Busy number) n = n
next_answer es NoSpace n = tt

-- a verdict is known by its word and its number
verdict_known : (within backlog : Bool) (next : ℕ) (answer : Entered) → IsNext next answer → verdict_word answer ≡ verdict_word (verdict_by within backlog next) → answer ≡ verdict_by within backlog next
verdict_known true backlog next (InProgress number) n w = ap InProgress n
verdict_known true backlog next (Busy number) n w = absurd (let e = ap length w in omega arith)
verdict_known true backlog next NoSpace n w = absurd (let e = ap length w in omega arith)
verdict_known false true next (InProgress number) n w = absurd (let e = ap length w in omega arith)
verdict_known false true next (Busy number) n w = ap Busy n
verdict_known false true next NoSpace n w = absurd (let e = ap length w in omega arith)
verdict_known false false next (InProgress number) n w = absurd (let e = ap length w in omega arith)
verdict_known false false next (Busy number) n w = absurd (let e = ap length w in omega arith)
verdict_known false false next NoSpace n w = refl

verdict_numbered : {A : Type 0} (es : List (BoardEntry A)) (backlog : Bool) (answer : Entered) → answer ≡ verdict es backlog → IsNumbered es answer
verdict_numbered es backlog answer e = answer_next es answer (subst (IsNext (length (submissions es))) (sym e) (verdict_next _ backlog (length (submissions es))))

-- what is right lacks nothing
pub right_has_all : {A : Type 0} (h : List (BoardEntry A)) (e : BoardEntry A) → IsRight h e → HasAll h e
right_has_all h (Born caller pipe shape) (n, r) = (tt, r.0, (n, r.2), tt)
right_has_all h (Submit caller pipe number ask) (n, r) = ((r.1, r.3), r.0, r.2, tt)
right_has_all h (Take caller pipe number) (n, r) = ((r.0, (r.1, r.2)), r.3, tt, tt)
right_has_all h (Finish caller pipe number) (n, r) = ((r.0, (some_taker (entries_of pipe h) number caller r.1, r.2)), r.1, tt, tt)
right_has_all h (Enq caller pipe ask backlog answer) (n, r) = (r.1, r.0, verdict_numbered (entries_of pipe h) backlog answer r.2, ap verdict_word r.2)
right_has_all h (Deq caller pipe number started) (n, r) = ((r.0, (r.1, r.2, r.3)), tt, (r.4, r.5), tt)
right_has_all h (Done caller pipe number) (n, r) = ((r.0, (some_taker (entries_of pipe h) number caller r.1, r.2)), r.1, tt, tt)
right_has_all h (Hold caller pipe) (n, r) = (r.1, r.0, tt, tt)
right_has_all h (Go caller pipe) (n, r) = (r.1, r.0, tt, tt)
right_has_all h (Collect caller pipe to) (n, r) = (managed_open (entries_of pipe h) caller r.0 r.1, r.0, r.2, tt)
right_has_all h (Close caller pipe) (n, r) = ((managed_open (entries_of pipe h) caller r.0 r.1, (r.2, r.3, r.4)), r.0, tt, tt)
right_has_all h (Share caller pipe) (n, r) = (managed_open (entries_of pipe h) caller r.0 r.1, r.0, tt, tt)
right_has_all h (Mask caller pipe mask) (n, r) = ((r.1, r.2), r.0, r.3, tt)
right_has_all h (Shut caller) r = (r.1, r.0, tt, tt)

-- and what lacks nothing is right, where the next pipeline has no events yet
pub all_is_right : {A : Type 0} (h : List (BoardEntry A)) (e : BoardEntry A) → entries_of (pipelines h) h ≡ [] → HasAll h e → IsRight h e
all_is_right h (Born caller pipe shape) n (s, c, m, a) = (m.0, (c, subst (λ p. entries_of p h ≡ []) (sym m.0) n, m.1))
all_is_right h (Submit caller pipe number ask) n (s, c, m, a) = (tt, (c, s.0, m, s.1))
all_is_right h (Take caller pipe number) n (s, c, m, a) = (tt, (s.0, s.1.0, s.1.1, c))
all_is_right h (Finish caller pipe number) n (s, c, m, a) = (tt, (s.0, c, s.1.1))
all_is_right h (Enq caller pipe ask backlog answer) n (s, c, m, a) = (tt, (c, s, verdict_known _ backlog (length (submissions (entries_of pipe h))) answer (next_answer (entries_of pipe h) answer m) a))
all_is_right h (Deq caller pipe number started) n (s, c, m, a) = (tt, (s.0, s.1.0, s.1.1, s.1.2, m.0, m.1))
all_is_right h (Done caller pipe number) n (s, c, m, a) = (tt, (s.0, c, s.1.1))
all_is_right h (Hold caller pipe) n (s, c, m, a) = (tt, (c, s))
all_is_right h (Go caller pipe) n (s, c, m, a) = (tt, (c, s))
all_is_right h (Collect caller pipe to) n (s, c, m, a) = (tt, (c, not_closed (entries_of pipe h) s, m))
all_is_right h (Close caller pipe) n (s, c, m, a) = (tt, (c, not_closed (entries_of pipe h) s.0, s.1.0, s.1.1, s.1.2))
all_is_right h (Share caller pipe) n (s, c, m, a) = (tt, (c, not_closed (entries_of pipe h) s))
all_is_right h (Mask caller pipe mask) n (s, c, m, a) = (tt, (c, s.0, s.1, m))
all_is_right h (Shut caller) n (s, c, m, a) = (c, s)

past_end : {X : Type 0} (xs : List X) → slice_get xs (length xs) ≡ None
past_end [] = refl
past_end (x ∷ xs) = past_end xs

-- the next pipeline of a board has no events yet
pub next_is_new : {A : Type 0} (ps : List PipeState) (shut : Bool) (h : List (BoardEntry A)) → IsBoard ps shut h → entries_of (pipelines h) h ≡ []
next_is_new ps shut h k =
    subst (λ p. entries_of p h ≡ []) (sym k.count) (subst (IsPlace (entries_of (length ps) h)) (past_end ps) (k.each (length ps)))

-- the verdict None says that the event is right
pub judged_right : {A : Type 0} (ps : List PipeState) (shut : Bool) (h : List (BoardEntry A)) (e : BoardEntry A) → IsBoard ps shut h → judged ps shut e ≡ None → IsRight h e
judged_right ps shut h e k j = all_is_right h e (next_is_new ps shut h k) (subst (IsJudged h e) j (judged_is ps shut h e k))

-- and any other names the first reason
pub judged_wrong : {A : Type 0} (ps : List PipeState) (shut : Bool) (h : List (BoardEntry A)) (e : BoardEntry A) (r : Reason) → IsBoard ps shut h → judged ps shut e ≡ Some r → IsWrong h e r
judged_wrong ps shut h e r k j = subst (IsJudged h e) j (judged_is ps shut h e k)

-- no event is both
pub wrong_not_right : {A : Type 0} (h : List (BoardEntry A)) (e : BoardEntry A) (r : Reason) → IsWrong h e r → IsRight h e → ⊥
wrong_not_right h e State w r = w (right_has_all h e r).0
wrong_not_right h e Caller w r = w.1 (right_has_all h e r).1
wrong_not_right h e Number w r = w.2 (right_has_all h e r).2
wrong_not_right h e Answer w r = w.3 (right_has_all h e r).3
