-- The checker's verdict on an event is what the event lacks.
use Rattle.std.proofs.Common.{◌≡◌, ℕ, Bool, true, false, not, ◌&&◌, List, [], length, Option, Some, None, refl, sym, ◌∙◌, ap, inl, inr}
use Rattle.std.specs.Prelude.{◌==◌, slice_get}
use Rattle.std.specs.Bool.{Decides}
use Rattle.std.proofs.lemmas.Bool.{and_parts}
use Rattle.std.proofs.lemmas.Bool.Decides.{Decides-eqb, Decides-and, Decides-like}
use Rattle.alg_registry.specs.Legal.{is_worker}
use Rattle.board.specs.declared.entry.Shape.{Shape}
use Rattle.board.specs.declared.entry.BoardEntry.{BoardEntry}
use Rattle.board.specs.declared.entry.BoardEntry.TheVariants.{Born, Submit, Take, Finish, Enq, Deq, Done, Hold, Go, Collect, Close, Share, Mask, Shut}
use Rattle.board.specs.Shapes.{is_pad, has_queue, has_lists, is_serial, is_born, IsShape}
use Rattle.board.specs.Entries.{entries_of, birth}
use Rattle.board.specs.Legal.{Is, IsOpen, pipelines, is_shut, LegalBoard}
use Rattle.trace_check.specs.declared.reason.Reason.{Reason}
use Rattle.trace_check.specs.declared.reason.Reason.TheVariants.{State, Caller, Number, Answer}
use Rattle.trace_check.specs.Reasons.{IsFirstMissing}
use Rattle.trace_check.specs.BoardReasons.{HasState, HasCaller, HasNumber, HasAnswer, IsWrong}
use Rattle.trace_check.specs.Pipes.{PipeState, is_shape, passes, runs, has_state, has_caller, has_number, has_answer, reason_of, judged_on, judged_at, pipe_of, judged}
use Rattle.trace_check.proofs.Standing.{IsPipe}
use Rattle.trace_check.proofs.Deciding.{decides_true, decides_false, dec_shape, dec_is, dec_unshared, dec_open_as, dec_open, dec_untaken, dec_running, dec_taker, dec_may_serve, dec_may_close, dec_masked, dec_no_worker, dec_may_manage, dec_may_submit, dec_may_take, dec_next, dec_numbered, dec_dequeued, dec_collected, dec_bits, dec_answered}

-- The first part that isn't there.
pub first_missing : {S C N W : Type 0} (a b c d : Bool) (r : Reason) → Decides a S → (a ≡ true → Decides b C) → Decides c N → Decides d W → reason_of a b c d ≡ Some r → IsFirstMissing S C N W r
first_missing false b c d State s k n w h = λ p. (let q = s.1 p in cc)
first_missing false b c d Caller s k n w h = cc
first_missing false b c d Number s k n w h = cc
first_missing false b c d Answer s k n w h = cc
first_missing true false c d State s k n w h = cc
first_missing true false c d Caller s k n w h = (s.0 refl, λ p. (let q = (k refl).1 p in cc))
first_missing true false c d Number s k n w h = cc
first_missing true false c d Answer s k n w h = cc
first_missing true true false d State s k n w h = cc
first_missing true true false d Caller s k n w h = cc
first_missing true true false d Number s k n w h = (s.0 refl, (k refl).0 refl, λ p. (let q = n.1 p in cc))
first_missing true true false d Answer s k n w h = cc
first_missing true true true false State s k n w h = cc
first_missing true true true false Caller s k n w h = cc
first_missing true true true false Number s k n w h = cc
first_missing true true true false Answer s k n w h = (s.0 refl, (k refl).0 refl, n.0 refl, λ p. (let q = w.1 p in cc))
first_missing true true true true State s k n w h = cc
first_missing true true true true Caller s k n w h = cc
first_missing true true true true Number s k n w h = cc
first_missing true true true true Answer s k n w h = cc

pub none_missing : {S C N W : Type 0} (a b c d : Bool) → Decides a S → (a ≡ true → Decides b C) → Decides c N → Decides d W → reason_of a b c d ≡ None → S × C × N × W
none_missing false b c d s k n w h = cc
none_missing true false c d s k n w h = cc
none_missing true true false d s k n w h = cc
none_missing true true true false s k n w h = cc
none_missing true true true true s k n w h = (s.0 refl, (k refl).0 refl, n.0 refl, w.0 refl)

-- neither makes a pipeline nor shuts the board
abbrev pub is_inner : {A : Type 0} → BoardEntry A → Bool
is_inner (Born caller pipe shape) = false
is_inner (Shut caller) = false
is_inner _ = true

pub dec_state : {A : Type 0} (h : List (BoardEntry A)) (s : PipeState) (e : BoardEntry A) → is_inner e ≡ true → IsPipe (entries_of (pipe_of e) h) s → Decides (has_state s e) (HasState h e)
dec_state h s (Born caller pipe shape) i k = cc
dec_state h s (Submit caller pipe number ask) i k = Decides-and _ _ (dec_open_as is_pad _ s k) (dec_masked _ s k)
dec_state h s (Take caller pipe number) i k = Decides-and _ _ (dec_open_as has_lists _ s k) (dec_untaken _ s number k)
dec_state h s (Finish caller pipe number) i k = Decides-and _ _ (dec_is has_lists _ s k) (dec_running _ s number k)
dec_state h s (Enq caller pipe ask backlog answer) i k = dec_open_as has_queue _ s k
dec_state h s (Deq caller pipe number started) i k = Decides-and _ _ (dec_open_as has_queue _ s k) (dec_may_serve _ s k)
dec_state h s (Done caller pipe number) i k = Decides-and _ _ (dec_is is_serial _ s k) (dec_running _ s number k)
dec_state h s (Hold caller pipe) i k = dec_open_as has_queue _ s k
dec_state h s (Go caller pipe) i k = dec_open_as has_queue _ s k
dec_state h s (Collect caller pipe to) i k = dec_open _ s k
dec_state h s (Close caller pipe) i k = Decides-and _ _ (dec_open _ s k) (dec_may_close _ s k)
dec_state h s (Share caller pipe) i k = dec_open _ s k
dec_state h s (Mask caller pipe mask) i k = Decides-and _ _ (dec_open_as is_pad _ s k) (dec_unshared _ s k)
dec_state h s (Shut caller) i k = cc

pub dec_caller : {A : Type 0} (h : List (BoardEntry A)) (s : PipeState) (e : BoardEntry A) → is_inner e ≡ true → IsPipe (entries_of (pipe_of e) h) s → has_state s e ≡ true → Decides (has_caller s e) (HasCaller h e)
dec_caller h s (Born caller pipe shape) i k t = cc
dec_caller h s (Submit caller pipe number ask) i k t = dec_may_submit _ s caller k
dec_caller h s (Take caller pipe number) i k t = dec_may_take _ s caller k
dec_caller h s (Finish caller pipe number) i k t = dec_taker _ s number caller k (and_parts (has_lists s.shape) (passes runs s number) t).1
dec_caller h s (Enq caller pipe ask backlog answer) i k t = dec_may_submit _ s caller k
dec_caller h s (Deq caller pipe number started) i k t = decides_true tt
dec_caller h s (Done caller pipe number) i k t = dec_taker _ s number caller k (and_parts (is_serial s.shape) (passes runs s number) t).1
dec_caller h s (Hold caller pipe) i k t = dec_may_manage _ s caller k
dec_caller h s (Go caller pipe) i k t = dec_may_manage _ s caller k
dec_caller h s (Collect caller pipe to) i k t = dec_may_manage _ s caller k
dec_caller h s (Close caller pipe) i k t = dec_may_manage _ s caller k
dec_caller h s (Share caller pipe) i k t = dec_may_manage _ s caller k
dec_caller h s (Mask caller pipe mask) i k t = dec_may_manage _ s caller k
dec_caller h s (Shut caller) i k t = cc

pub dec_number : {A : Type 0} (h : List (BoardEntry A)) (s : PipeState) (e : BoardEntry A) → is_inner e ≡ true → IsPipe (entries_of (pipe_of e) h) s → Decides (has_number s e) (HasNumber h e)
dec_number h s (Born caller pipe shape) i k = cc
dec_number h s (Submit caller pipe number ask) i k = dec_next _ s number k
dec_number h s (Take caller pipe number) i k = decides_true tt
dec_number h s (Finish caller pipe number) i k = decides_true tt
dec_number h s (Enq caller pipe ask backlog answer) i k = dec_numbered _ s answer k
dec_number h s (Deq caller pipe number started) i k = dec_dequeued _ s number started k
dec_number h s (Done caller pipe number) i k = decides_true tt
dec_number h s (Hold caller pipe) i k = decides_true tt
dec_number h s (Go caller pipe) i k = decides_true tt
dec_number h s (Collect caller pipe to) i k = dec_collected _ s to k
dec_number h s (Close caller pipe) i k = decides_true tt
dec_number h s (Share caller pipe) i k = decides_true tt
dec_number h s (Mask caller pipe mask) i k = dec_bits _ s mask k
dec_number h s (Shut caller) i k = cc

pub dec_answer : {A : Type 0} (h : List (BoardEntry A)) (s : PipeState) (e : BoardEntry A) → is_inner e ≡ true → IsPipe (entries_of (pipe_of e) h) s → Decides (has_answer s e) (HasAnswer h e)
dec_answer h s (Born caller pipe shape) i k = cc
dec_answer h s (Submit caller pipe number ask) i k = decides_true tt
dec_answer h s (Take caller pipe number) i k = decides_true tt
dec_answer h s (Finish caller pipe number) i k = decides_true tt
dec_answer h s (Enq caller pipe ask backlog answer) i k = dec_answered _ s backlog answer k
dec_answer h s (Deq caller pipe number started) i k = decides_true tt
dec_answer h s (Done caller pipe number) i k = decides_true tt
dec_answer h s (Hold caller pipe) i k = decides_true tt
dec_answer h s (Go caller pipe) i k = decides_true tt
dec_answer h s (Collect caller pipe to) i k = decides_true tt
dec_answer h s (Close caller pipe) i k = decides_true tt
dec_answer h s (Share caller pipe) i k = decides_true tt
dec_answer h s (Mask caller pipe mask) i k = decides_true tt
dec_answer h s (Shut caller) i k = cc

no_shape : {A : Type 0} (such : Shape → Bool) (es : List (BoardEntry A)) → es ≡ [] → Is such es → ⊥
no_shape such es n p = (let q : is_born such (birth es) ≡ false = ap (λ xs. is_born such (birth xs)) n in cc)

none_open : {A : Type 0} (es : List (BoardEntry A)) → es ≡ [] → IsOpen es → ⊥
none_open es n (inl pad) = no_shape is_pad es n pad.0
none_open es n (inr queue) = no_shape has_queue es n queue.0

-- an event of a pipeline that isn't there lacks its state
pub no_state : {A : Type 0} (h : List (BoardEntry A)) (e : BoardEntry A) → is_inner e ≡ true → entries_of (pipe_of e) h ≡ [] → HasState h e → ⊥
no_state h (Born caller pipe shape) i n s = cc
no_state h (Submit caller pipe number ask) i n s = no_shape is_pad (entries_of pipe h) n s.0.0
no_state h (Take caller pipe number) i n s = no_shape has_lists (entries_of pipe h) n s.0.0
no_state h (Finish caller pipe number) i n s = no_shape has_lists (entries_of pipe h) n s.0
no_state h (Enq caller pipe ask backlog answer) i n s = no_shape has_queue (entries_of pipe h) n s.0
no_state h (Deq caller pipe number started) i n s = no_shape has_queue (entries_of pipe h) n s.0.0
no_state h (Done caller pipe number) i n s = no_shape is_serial (entries_of pipe h) n s.0
no_state h (Hold caller pipe) i n s = no_shape has_queue (entries_of pipe h) n s.0
no_state h (Go caller pipe) i n s = no_shape has_queue (entries_of pipe h) n s.0
no_state h (Collect caller pipe to) i n s = none_open (entries_of pipe h) n s
no_state h (Close caller pipe) i n s = none_open (entries_of pipe h) n s.0
no_state h (Share caller pipe) i n s = none_open (entries_of pipe h) n s
no_state h (Mask caller pipe mask) i n s = no_shape is_pad (entries_of pipe h) n s.0.0
no_state h (Shut caller) i n s = cc

-- What the checker keeps of the board.
abbrev pub IsPlace : {A : Type 0} → List (BoardEntry A) → Option PipeState → Type 0
IsPlace es None = es ≡ []
IsPlace es (Some s) = IsPipe es s

pub record IsBoard {A : Type 0} (ps : List PipeState) (shut : Bool) (h : List (BoardEntry A)) : Type 0 where
  pub legal : LegalBoard h
  pub count : pipelines h ≡ length ps
  pub each : (p : ℕ) → IsPlace (entries_of p h) (slice_get ps p)
  pub shutting : is_shut h ≡ shut

-- the four parts
abbrev pub HasAll : {A : Type 0} → List (BoardEntry A) → BoardEntry A → Type 0
HasAll h e = HasState h e × HasCaller h e × HasNumber h e × HasAnswer h e

abbrev pub IsJudged : {A : Type 0} → List (BoardEntry A) → BoardEntry A → Option Reason → Type 0
IsJudged h e None = HasAll h e
IsJudged h e (Some reason) = IsWrong h e reason

verdict_from : {A : Type 0} (h : List (BoardEntry A)) (e : BoardEntry A) (a b c d : Bool) (r : Option Reason) → Decides a (HasState h e) → (a ≡ true → Decides b (HasCaller h e)) → Decides c (HasNumber h e) → Decides d (HasAnswer h e) → reason_of a b c d ≡ r → IsJudged h e r
verdict_from h e a b c d None s k n w j = none_missing a b c d s k n w j
verdict_from h e a b c d (Some r) s k n w j = first_missing a b c d r s k n w j

judged_place : {A : Type 0} (h : List (BoardEntry A)) (e : BoardEntry A) (p : Option PipeState) → is_inner e ≡ true → IsPlace (entries_of (pipe_of e) h) p → IsJudged h e (judged_at p e)
judged_place h e None i k = no_state h e i k
judged_place h e (Some s) i k =
    verdict_from h e (has_state s e) (has_caller s e) (has_number s e) (has_answer s e) (judged_on s e) (dec_state h s e i k) (dec_caller h s e i k) (dec_number h s e i k) (dec_answer h s e i k) refl

dec_next_pipe : {A : Type 0} (ps : List PipeState) (h : List (BoardEntry A)) (pipe : ℕ) (shape : Shape) → pipelines h ≡ length ps → Decides (pipe == length ps && is_shape shape) ((pipe ≡ pipelines h) × IsShape shape)
dec_next_pipe ps h pipe shape c =
    Decides-and _ _ (Decides-like (pipe == length ps) (λ e. e ∙ sym c) (λ e. e ∙ c) (Decides-eqb pipe (length ps))) (dec_shape shape)

dec_unshut : (shut b : Bool) → b ≡ shut → Decides (not shut) (b ≡ false)
dec_unshut true b e = decides_false (λ h. cc)
dec_unshut false b e = decides_true e

pub judged_is : {A : Type 0} (ps : List PipeState) (shut : Bool) (h : List (BoardEntry A)) (e : BoardEntry A) → IsBoard ps shut h → IsJudged h e (judged ps shut e)
judged_is ps shut h (Born caller pipe shape) k =
    verdict_from h (Born caller pipe shape) true (not (is_worker caller)) (pipe == length ps && is_shape shape) true _ (decides_true tt) (λ t. dec_no_worker caller) (dec_next_pipe ps h pipe shape k.count) (decides_true tt) refl
judged_is ps shut h (Shut caller) k =
    verdict_from h (Shut caller) (not shut) (caller == 0) true true _ (dec_unshut shut (is_shut h) k.shutting) (λ t. Decides-eqb caller 0) (decides_true tt) (decides_true tt) refl
judged_is ps shut h (Submit caller pipe number ask) k = judged_place h _ (slice_get ps pipe) refl (k.each pipe)
judged_is ps shut h (Take caller pipe number) k = judged_place h _ (slice_get ps pipe) refl (k.each pipe)
judged_is ps shut h (Finish caller pipe number) k = judged_place h _ (slice_get ps pipe) refl (k.each pipe)
judged_is ps shut h (Enq caller pipe ask backlog answer) k = judged_place h _ (slice_get ps pipe) refl (k.each pipe)
judged_is ps shut h (Deq caller pipe number started) k = judged_place h _ (slice_get ps pipe) refl (k.each pipe)
judged_is ps shut h (Done caller pipe number) k = judged_place h _ (slice_get ps pipe) refl (k.each pipe)
judged_is ps shut h (Hold caller pipe) k = judged_place h _ (slice_get ps pipe) refl (k.each pipe)
judged_is ps shut h (Go caller pipe) k = judged_place h _ (slice_get ps pipe) refl (k.each pipe)
judged_is ps shut h (Collect caller pipe to) k = judged_place h _ (slice_get ps pipe) refl (k.each pipe)
judged_is ps shut h (Close caller pipe) k = judged_place h _ (slice_get ps pipe) refl (k.each pipe)
judged_is ps shut h (Share caller pipe) k = judged_place h _ (slice_get ps pipe) refl (k.each pipe)
judged_is ps shut h (Mask caller pipe mask) k = judged_place h _ (slice_get ps pipe) refl (k.each pipe)
