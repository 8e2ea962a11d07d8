-- A closed pipeline is finished.
use Rattle.std.proofs.Common.{◌≡◌, ◌⊎◌, ℕ, zero, suc, ◌<◌, Bool, true, false, List, [], ◌∷◌, ◌++◌, length, refl, sym, ◌∙◌, ap, subst, arith, append-nil, append_assoc, inl, inr}
use Rattle.std.specs.Prelude.{if◌then◌else◌}
use Rattle.turn_lock.specs.Turns.{Each}
use Rattle.board.specs.declared.entry.BoardEntry.{BoardEntry}
use Rattle.board.specs.declared.entry.BoardEntry.TheVariants.{Born, Submit, Take, Finish, Enq, Deq, Done, Hold, Go, Collect, Close, Share, Mask, Shut}
use Rattle.board.specs.Shapes.{has_queue_born}
use Rattle.board.specs.Entries.{Notice, is_of, entries_of, accepted_in, submissions, finished_in, unbroken, front, waiting, birth, is_closed, caller_of, AllTaken}
use Rattle.board.specs.Legal.{IsNoWorker, IsRightFor, MayManage}
use Rattle.board.specs.Order.{AreRightForAfter, handed_in}
use Rattle.board.specs.PipelineHistory.{is_work}
use Rattle.board.specs.Ends.{AllIsFinished}
use Rattle.board.proofs.Lists.{filter_map-none}
use Rattle.board.proofs.Transfer.{each_right}
use Rattle.board.proofs.Keeping.{IsOrderly, orderly, orderly_start, orderly_step}
use Rattle.board.proofs.Kept.{closed-same}
use Rattle.board.proofs.Ends.{ends_all, takes_all, passes_all, taken_run}

none_over : (n : ℕ) → (0 < n → ⊥) → n ≡ 0
none_over zero h = refl
none_over (suc n) h = absurd (h (omega arith))

module _ {A : Type 0} where
  abbrev IsEnd : List (BoardEntry A) → Type 0
  IsEnd es = is_closed es ≡ true → front es ≡ length (submissions es)

  open-not : {P : Type 0} (es : List (BoardEntry A)) → is_closed es ≡ true → is_closed es ≡ false → P
  open-not es shut open_ = absurd (let bad : true ≡ false = sym shut ∙ open_ in cc)

  -- no entry but a Close leaves a pipeline closed that was open, and on a closed one none is right
  closed-step : (es : List (BoardEntry A)) (given : List Notice) (e : BoardEntry A) → IsOrderly es given → IsEnd es → IsRightFor es e → IsEnd (es ++ e ∷ [])
  closed-step es given (Born caller pipe shape) o end r shut =
      open-not es (sym (closed-same es (Born caller pipe shape) refl) ∙ shut) (ap is_closed r.1)
  closed-step es given (Submit caller pipe number ask) o end r shut =
      open-not es (sym (closed-same es (Submit caller pipe number ask) refl) ∙ shut) r.1.1
  closed-step es given (Take caller pipe number) o end r shut =
      open-not es (sym (closed-same es (Take caller pipe number) refl) ∙ shut) r.0.1
  closed-step es given (Finish caller pipe number) o end r shut =
      absurd (ends_all es number caller o.numbered (end (sym (closed-same es (Finish caller pipe number) refl) ∙ shut)) r.1 r.2)
  closed-step es given (Enq caller pipe ask backlog answer) o end r shut =
      open-not es (sym (closed-same es (Enq caller pipe ask backlog answer) refl) ∙ shut) r.1.1
  closed-step es given (Deq caller pipe number started) o end r shut =
      open-not es (sym (closed-same es (Deq caller pipe number started) refl) ∙ shut) r.0.1
  closed-step es given (Done caller pipe number) o end r shut =
      absurd (ends_all es number caller o.numbered (end (sym (closed-same es (Done caller pipe number) refl) ∙ shut)) r.1 r.2)
  closed-step es given (Hold caller pipe) o end r shut = open-not es (sym (closed-same es (Hold caller pipe) refl) ∙ shut) r.1.1
  closed-step es given (Go caller pipe) o end r shut = open-not es (sym (closed-same es (Go caller pipe) refl) ∙ shut) r.1.1
  closed-step es given (Collect caller pipe to) o end r shut = open-not es (sym (closed-same es (Collect caller pipe to) refl) ∙ shut) r.1
  closed-step es given (Close caller pipe) o end r shut =
      let ended = filter_map-none finished_in es (Close caller pipe) refl in
      let had = filter_map-none accepted_in es (Close caller pipe) refl in
      (λ i. unbroken (ended i) 0 (length (had i))) ∙ (r.3 ∙ ap length (sym had))
  closed-step es given (Share caller pipe) o end r shut = open-not es (sym (closed-same es (Share caller pipe) refl) ∙ shut) r.1
  closed-step es given (Mask caller pipe mask) o end r shut = open-not es (sym (closed-same es (Mask caller pipe mask) refl) ∙ shut) r.1.1
  closed-step es given (Shut caller) o end r shut = absurd r

  closed-on : (before es : List (BoardEntry A)) (given : List Notice) → IsOrderly before given → IsEnd before → AreRightForAfter before es → IsEnd (before ++ es)
  closed-on before [] given o end r = rw (append-nil before) end
  closed-on before (e ∷ es) given o end r =
      subst IsEnd (append_assoc before (e ∷ []) es) (closed-on (before ++ e ∷ []) es (given ++ handed_in before e) (orderly_step before e given o r.0) (closed-step before given e o end r.0) r.1)

  pub closed_end : (es : List (BoardEntry A)) → AreRightForAfter [] es → IsEnd es
  closed_end es r = closed-on [] es [] orderly_start (λ shut. absurd cc) r

  -- of a closed pipeline each number past the queue was taken, and none waits in the queue
  pub ended_taken : (es : List (BoardEntry A)) → AreRightForAfter [] es → is_closed es ≡ true → AllTaken es
  ended_taken es r shut n low none = takes_all es n (taken_run [] es (λ n h. cc) r) (orderly es r).numbered (closed_end es r shut) low none

  pub ended_server : (es : List (BoardEntry A)) → AreRightForAfter [] es → is_closed es ≡ true → has_queue_born (birth es) ≡ true → waiting es ≡ 0
  ended_server es r shut server = none_over (waiting es) (λ w. passes_all es (orderly es r).numbered (closed_end es r shut) server w)

  -- who made it, where one caller alone makes pipelines
  made-by : (caller : ℕ) (e : BoardEntry A) (es : List (BoardEntry A)) → IsRightFor [] e → (caller_of e ≡ caller) ⊎ (is_work e ≡ true) → MayManage (e ∷ es) caller
  made-by caller (Born maker pipe shape) es r (inl same) = (subst IsNoWorker same r.0, same)
  made-by caller (Born maker pipe shape) es r (inr work) = absurd cc
  made-by caller (Submit by pipe number ask) es r own = absurd cc
  made-by caller (Take by pipe number) es r own = absurd cc
  made-by caller (Finish by pipe number) es r own = absurd cc
  made-by caller (Enq by pipe ask backlog answer) es r own = absurd cc
  made-by caller (Deq by pipe number started) es r own = absurd cc
  made-by caller (Done by pipe number) es r own = absurd cc
  made-by caller (Hold by pipe) es r own = absurd cc
  made-by caller (Go by pipe) es r own = absurd cc
  made-by caller (Collect by pipe to) es r own = absurd r.0.1
  made-by caller (Close by pipe) es r own = absurd r.0.1
  made-by caller (Share by pipe) es r own = absurd r.0.1
  made-by caller (Mask by pipe mask) es r own = absurd r.0.1
  made-by caller (Shut by) es r own = absurd r

  each-of : (P : BoardEntry A → Type 0) (p : ℕ) (h : List (BoardEntry A)) → Each P h → Each P (entries_of p h)
  each-of P p [] each = tt
  each-of P p (x ∷ h) each = by_of (is_of p x) (each-of P p h each.1)
    where
      by_of : (t : Bool) → Each P (entries_of p h) → Each P (if t then x ∷ entries_of p h else entries_of p h)
      by_of true later = (each.0, later)
      by_of false later = later

  finished-or : (caller : ℕ) (es : List (BoardEntry A)) → AreRightForAfter [] es → Each (λ e. (caller_of e ≡ caller) ⊎ (is_work e ≡ true)) es
      → (MayManage es caller → is_closed es ≡ false → front es ≡ length (submissions es)) → front es ≡ length (submissions es)
  finished-or caller [] r each own = refl
  finished-or caller (e ∷ es) r each own = by_closed (is_closed (e ∷ es)) refl
    where
      by_closed : (t : Bool) → is_closed (e ∷ es) ≡ t → front (e ∷ es) ≡ length (submissions (e ∷ es))
      by_closed true shut = closed-on [] (e ∷ es) [] orderly_start (λ shut. absurd cc) r shut
      by_closed false open_ = own (made-by caller e es r.0 each.0) open_

  pub all_finished : (h : List (BoardEntry A)) (caller : ℕ) → AllIsFinished h caller
  all_finished h caller legal each own p =
      finished-or caller (entries_of p h) (each_right [] h p legal) (each-of (λ e. (caller_of e ≡ caller) ⊎ (is_work e ≡ true)) p h each) (own p)
