-- What stands behind a pipeline, after an entry that takes nothing in or out, after a hold, and after a collect.
use Rattle.std.proofs.Common.{◌≡◌, ℕ, zero, suc, ◌+◌, ◌<◌, ◌≤◌, Bool, true, false, cond, List, [], ◌∷◌, ◌++◌, length, Some, None, is_some, refl, sym, ◌∙◌, ap, arith, inl, inr, ◌⊎◌}
use Rattle.std.proofs.lemmas.Bool.{cases_lt}
use Rattle.padata_core.specs.Pad.{Pad, ready, done_from, running_of}
use Rattle.cryptd.specs.Server.{Server}
use Rattle.board.specs.declared.entry.BoardEntry.{BoardEntry}
use Rattle.board.specs.declared.entry.BoardEntry.TheVariants.{Collect}
use Rattle.board.specs.declared.stage.Stage.{Stage}
use Rattle.board.specs.declared.stage.Stage.TheVariants as stage
use Rattle.board.specs.Stages.{has_queue, unfinished_of, holding, callbacks_of, collected_from}
use Rattle.board.specs.Pipelines.{with_lists}
use Rattle.board.specs.Shapes.{pad_born, queue_born, has_queue_born}
use Rattle.board.specs.Entries.{birth, accepted_in, submissions, dequeued_in, dequeued, passed_on, taken_in, finished_in, finished, unbroken, front, tells, told, held_in, collected, delivered, completes_from}
use Rattle.board.specs.Order.{AreRightForAfter}
use Rattle.board.specs.Kept.{IsKeptServer, IsKeptPad, IsKeptStage, shape_of, work_owed}
use Rattle.board.proofs.Lists.{filter_map-none}
use Rattle.board.proofs.Fronts.{unbroken_numbers}
use Rattle.board.proofs.Keeping.{orderly, passed-le}
use Rattle.board.proofs.Starting.{front_passed, pad_no_queue}
use Rattle.board.proofs.PadsAndQueues.{pad_tells}
use Rattle.board.proofs.Callbacks.{length-done}
use Rattle.board.proofs.KeptPad.{front_is, ready_short}
use Rattle.board.proofs.KeptEntering.{server_quiet, pad_quiet}
use Rattle.board.proofs.KeptCollect.{server_delivered, server_collected, server_held, pad_delivered, pad_collected, pad_done, pad_undone}
use Rattle.board.proofs.KeptRoom.{pad_like}

no_items : {X : Type 0} (xs : List X) → length xs ≡ 0 → xs ≡ []
no_items [] h = refl
no_items (x ∷ xs) h = absurd (omega arith)

length-from : (n many : ℕ) → length (completes_from n many) ≡ many
length-from n zero = refl
length-from n (suc many) = ap suc (length-from (suc n) many)

done_queue : (b : Bool) (f w s n : ℕ) → w + cond b 1 0 ≡ 0 → f + cond b 1 0 ≡ s → n ≡ s + w → f ≡ n
done_queue true f w s n d g e = absurd (omega arith)
done_queue false f w s n d g e = omega arith

undone_queue : (b : Bool) (f w s n : ℕ) → 0 < w + cond b 1 0 → f + cond b 1 0 ≡ s → n ≡ s + w → f < n
undone_queue true f w s n d g e = omega arith
undone_queue false f w s n d g e = omega arith

idle_queue : (b : Bool) (f w s : ℕ) → f + cond b 1 0 ≡ s → s + w ≤ f → b ≡ false
idle_queue true f w s g l = absurd (omega arith)
idle_queue false f w s g l = refl

-- all is finished and collected
abbrev pub IsSpentServer : {J O : Type 0} → Server J O → Type 0
IsSpentServer server = (server.busy ≡ false) × (server.queue.waiting ≡ []) × (server.pending ≡ [])

abbrev pub IsSpentPad : {J O : Type 0} → Pad J O → Type 0
IsSpentPad pad = (pad.waiting ≡ []) × (pad.outcomes ≡ [])

abbrev pub IsSpent : {J O : Type 0} → Stage J O → Type 0
IsSpent (stage.Pad pad) = IsSpentPad pad
IsSpent (stage.Queue server) = IsSpentServer server
IsSpent (stage.Chain c) = IsSpentServer c.server × IsSpentPad c.pad

-- which owes no entries of work
pub spent_owed : {J O : Type 0} (s : Stage J O) → IsSpent s → work_owed s ≡ 0
spent_owed (stage.Pad pad) h = rw (h.0, h.1) refl
spent_owed (stage.Queue server) h = rw (h.0, h.1) refl
spent_owed (stage.Chain c) h = rw (h.0.1, h.1.0, h.1.1) refl

module _ {J O A : Type 0} (asked : J → A) (meaning : A → O) where
  -- an entry that neither accepts, lets out, takes, finishes, tells nor holds
  pub stage_quiet : (s : Stage J O) (es : List (BoardEntry A)) (e : BoardEntry A) (place : ℕ) → IsKeptStage asked meaning s place es → is_some (birth es) ≡ true → accepted_in e ≡ None → dequeued_in e ≡ None → taken_in e ≡ None → finished_in e ≡ None → tells es e ≡ [] → held_in e ≡ None → IsKeptStage asked meaning s place (es ++ e ∷ [])
  stage_quiet (stage.Pad x) es e place k b a d t f o h = (pad_quiet asked meaning x es e k.0 b a d t f, k.1)
  stage_quiet (stage.Queue x) es e place k b a d t f o h = (server_quiet asked meaning x es e place k.0 b a d o h, rw (filter_map-none finished_in es e f) k.1, k.2)
  stage_quiet (stage.Chain x) es e place k b a d t f o h = (server_quiet asked meaning x.server es e place k.0 b a d o h, pad_quiet asked meaning x.pad es e k.1 b a d t f, k.2, k.3, k.4, k.5)

  -- a hold, or a go
  pub stage_held : (s : Stage J O) (es : List (BoardEntry A)) (e : BoardEntry A) (place : ℕ) (held : Bool) → IsKeptStage asked meaning s place es → has_queue s ≡ true → is_some (birth es) ≡ true → accepted_in e ≡ None → dequeued_in e ≡ None → taken_in e ≡ None → finished_in e ≡ None → tells es e ≡ [] → held_in e ≡ Some held → IsKeptStage asked meaning (holding s held) place (es ++ e ∷ [])
  stage_held (stage.Pad x) es e place held k l b a d t f o h = cc
  stage_held (stage.Queue x) es e place held k l b a d t f o h = (server_held asked meaning x es e place held k.0 b a d o h, rw (filter_map-none finished_in es e f) k.1, k.2)
  stage_held (stage.Chain x) es e place held k l b a d t f o h = (server_held asked meaning x.server es e place held k.0 b a d o h, pad_quiet asked meaning x.pad es e k.1 b a d t f, k.2, k.3, k.4, k.5)

  -- other reorder lists
  pub stage_lists : (s : Stage J O) (es : List (BoardEntry A)) (place lists : ℕ) → IsKeptStage asked meaning s place es → IsKeptStage asked meaning (with_lists s lists) place es
  stage_lists (stage.Pad x) es place lists k = (pad_like asked meaning x es lists x.spare k.0, k.1)
  stage_lists (stage.Queue x) es place lists k = k
  stage_lists (stage.Chain x) es place lists k = k

  -- ---- collects

  pad_told : (pad : Pad J O) (es : List (BoardEntry A)) → IsKeptPad asked meaning pad es → AreRightForAfter [] es → pad_born (birth es) ≡ true → passed_on es ≤ length (submissions es) → length (told es) ≡ pad.collected + length (done_from pad.collected (ready pad.outcomes))
  pad_told pad es k r b l = ap length (pad_tells es r b) ∙ (length-from 0 (front es) ∙ (front_is asked meaning pad es k l ∙ ap (λ n. pad.collected + n) (sym (length-done pad.collected (ready pad.outcomes)))))

  -- how many callbacks a pipeline told
  pub told_is : (s : Stage J O) (es : List (BoardEntry A)) (place : ℕ) (w : ℕ) → IsKeptStage asked meaning s place es → AreRightForAfter [] es → ((m : ℕ) × (birth es ≡ Some (m, shape_of s w))) → length (told es) ≡ place + length (callbacks_of s)
  told_is (stage.Pad x) es place w k r b = pad_told x es k.0 r (ap pad_born b.1) (passed-le es (orderly es r).numbered.queued) ∙ ap (λ n. n + length (done_from x.collected (ready x.outcomes))) (sym k.1)
  told_is (stage.Queue x) es place w k r b = k.0.telling
  told_is (stage.Chain x) es place w k r b = k.0.telling

  -- and which of them are not collected
  pub delivered_is : (s : Stage J O) (es : List (BoardEntry A)) (place : ℕ) (w : ℕ) → IsKeptStage asked meaning s place es → collected es ≡ place → AreRightForAfter [] es → ((m : ℕ) × (birth es ≡ Some (m, shape_of s w))) → delivered meaning es (length (told es)) ≡ callbacks_of s
  delivered_is (stage.Pad x) es place w k c r b = pad_delivered asked meaning x es k.0 r (ap pad_born b.1) (passed-le es (orderly es r).numbered.queued) (c ∙ k.1)
  delivered_is (stage.Queue x) es place w k c r b = server_delivered asked meaning x es place k.0 c
  delivered_is (stage.Chain x) es place w k c r b = server_delivered asked meaning x.server es place k.0 c

  pub stage_collected : (s : Stage J O) (es : List (BoardEntry A)) (place p to caller : ℕ) → IsKeptStage asked meaning s place es → is_some (birth es) ≡ true → AreRightForAfter [] es → to ≡ length (told es) → to ≡ place + length (callbacks_of s) → IsKeptStage asked meaning (collected_from s) to (es ++ Collect caller p to ∷ [])
  stage_collected (stage.Pad x) es place p to caller k b r t h =
      (pad_collected asked meaning x es p to caller k.0 b (passed-le es (orderly es r).numbered.queued), (let q = k.1 in let l = length-done x.collected (ready x.outcomes) in omega arith))
  stage_collected (stage.Queue x) es place p to caller k b r t h = (server_collected asked meaning x es place p to caller k.0 b t, rw (filter_map-none finished_in es (Collect caller p to) refl) k.1, k.2)
  stage_collected (stage.Chain x) es place p to caller k b r t h = (server_collected asked meaning x.server es place p to caller k.0 b t, pad_quiet asked meaning x.pad es (Collect caller p to) k.1 b refl refl refl refl, k.2, k.3, k.4, k.5)

  -- ---- whether all is finished

  -- on a queue the front is at the requests that are finished
  queue_front : (es : List (BoardEntry A)) → AreRightForAfter [] es → queue_born (birth es) ≡ true → front es ≡ length (finished es)
  queue_front es r q =
      let v = (orderly es r).numbered in
      let b = v.behind q in
      let l = v.queued in
      ap (λ ns. unbroken ns 0 (length (submissions es))) (v.serial q) ∙ unbroken_numbers (length (finished es)) (length (submissions es)) (omega arith)

  pad_passed : (es : List (BoardEntry A)) → pad_born (birth es) ≡ true → passed_on es ≡ length (submissions es)
  pad_passed es b = ap (λ c. cond c (dequeued es) (length (submissions es))) (pad_no_queue (birth es) b)

  server_passed_on : (es : List (BoardEntry A)) → has_queue_born (birth es) ≡ true → passed_on es ≡ dequeued es
  server_passed_on es b = ap (λ c. cond c (dequeued es) (length (submissions es))) b

  pub stage_done : (s : Stage J O) (es : List (BoardEntry A)) (place w : ℕ) → IsKeptStage asked meaning s place es → AreRightForAfter [] es → ((m : ℕ) × (birth es ≡ Some (m, shape_of s w))) → unfinished_of s ≡ 0 → front es ≡ length (submissions es)
  stage_done (stage.Pad x) es place w k r b d = pad_done asked meaning x es k.0 (passed-le es (orderly es r).numbered.queued) d ∙ pad_passed es (ap pad_born b.1)
  stage_done (stage.Queue x) es place w k r b d = queue_front es r (ap queue_born b.1) ∙ done_queue x.busy (length (finished es)) (length x.queue.waiting) x.queue.served (length (submissions es)) d k.1 k.0.submitted
  stage_done (stage.Chain x) es place w k r b d =
      (let f = pad_done asked meaning x.pad es k.1 (passed-le es (orderly es r).numbered.queued) (omega arith) in
      let p = server_passed_on es (ap has_queue_born b.1) in
      let s = k.0.served in
      let u = k.0.submitted in
      omega arith)

  chain_undone : (server run wait : ℕ) → 0 < server + (run + wait) → (0 < run + wait) ⊎ (run + wait ≤ 0) → (0 < run + wait) ⊎ (0 < server)
  chain_undone server run wait h (inl l) = inl l
  chain_undone server run wait h (inr g) = inr (omega arith)

  chain_short : (es : List (BoardEntry A)) (server : Server J O) (pad : Pad J O) (place : ℕ) → IsKeptServer asked meaning server place es → IsKeptPad asked meaning pad es → AreRightForAfter [] es → has_queue_born (birth es) ≡ true → (0 < running_of pad.outcomes + length pad.waiting) ⊎ (0 < length server.queue.waiting) → front es < length (submissions es)
  chain_short es server pad place k kp r b (inl l) =
      (let v = passed-le es (orderly es r).numbered.queued in
      let u = pad_undone asked meaning pad es kp v l in
      omega arith)
  chain_short es server pad place k kp r b (inr l) =
      (let f = front_passed es (orderly es r).numbered in
      let p = server_passed_on es b in
      let s = k.served in
      let u = k.submitted in
      omega arith)

  pub stage_undone : (s : Stage J O) (es : List (BoardEntry A)) (place w : ℕ) → IsKeptStage asked meaning s place es → AreRightForAfter [] es → ((m : ℕ) × (birth es ≡ Some (m, shape_of s w))) → 0 < unfinished_of s → front es < length (submissions es)
  stage_undone (stage.Pad x) es place w k r b d = (let u = pad_undone asked meaning x es k.0 (passed-le es (orderly es r).numbered.queued) d in let p = pad_passed es (ap pad_born b.1) in omega arith)
  stage_undone (stage.Queue x) es place w k r b d = rw (queue_front es r (ap queue_born b.1)) (undone_queue x.busy (length (finished es)) (length x.queue.waiting) x.queue.served (length (submissions es)) d k.1 k.0.submitted)
  stage_undone (stage.Chain x) es place w k r b d = chain_short es x.server x.pad place k.0 k.1 r (ap has_queue_born b.1) (chain_undone (length x.server.queue.waiting) (running_of x.pad.outcomes) (length x.pad.waiting) d (cases_lt 0 (running_of x.pad.outcomes + length x.pad.waiting)))

  -- ---- a pipeline of which all is finished and handed out

  server_spent : (server : Server J O) (es : List (BoardEntry A)) (place : ℕ) → IsKeptServer asked meaning server place es → collected es ≡ place → collected es ≡ length (told es) → server.pending ≡ []
  server_spent server es place k c d = (let t = k.telling in no_items server.pending (omega arith))

  pub stage_spent : (s : Stage J O) (es : List (BoardEntry A)) (place w : ℕ) → IsKeptStage asked meaning s place es → collected es ≡ place → AreRightForAfter [] es → ((m : ℕ) × (birth es ≡ Some (m, shape_of s w))) → front es ≡ length (submissions es) → collected es ≡ length (told es) → IsSpent s
  stage_spent (stage.Pad x) es place w k c r b all out =
      let l = passed-le es (orderly es r).numbered.queued in
      let f = front_is asked meaning x es k.0 l in
      let t = pad_told x es k.0 r (ap pad_born b.1) l in
      let n = length-done x.collected (ready x.outcomes) in
      let p = pad_passed es (ap pad_born b.1) in
      let s = k.0.submitted in
      let q = k.1 in
      let sh = ready_short x.outcomes in
      (no_items x.waiting (omega arith), no_items x.outcomes (omega arith))
  stage_spent (stage.Queue x) es place w k c r b all out =
      let f = queue_front es r (ap queue_born b.1) in
      let s = k.0.submitted in
      let u = k.1 in
      (idle_queue x.busy (length (finished es)) (length x.queue.waiting) x.queue.served k.1 (omega arith), no_items x.queue.waiting (omega arith), server_spent x es place k.0 c out)
  stage_spent (stage.Chain x) es place w k c r b all out =
      let l = passed-le es (orderly es r).numbered.queued in
      let f = front_is asked meaning x.pad es k.1 l in
      let p = server_passed_on es (ap has_queue_born b.1) in
      let none : length (ready x.pad.outcomes) ≡ 0 = ap length k.4 in
      let s = k.1.submitted in
      let v = k.0.served in
      let u = k.0.submitted in
      ((k.5, no_items x.server.queue.waiting (omega arith), server_spent x.server es place k.0 c out), (no_items x.pad.waiting (omega arith), no_items x.pad.outcomes (omega arith)))
