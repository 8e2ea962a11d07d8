-- What each call on one pipeline does to the board.
use Rattle.std.proofs.Common.{◌≡◌, ◌≢◌, ℕ, ◌+◌, ◌*◌, ◌<◌, ◌≤◌, Bool, true, false, List, [], ◌∷◌, ◌++◌, length, drop, Option, Some, None, is_some, refl, sym, ◌∙◌, ap, subst, arith, inl, inr, ◌⊎◌}
use Rattle.std.specs.Prelude.{◌^◌}
use Rattle.std.specs.List.{filter_map}
use Rattle.std.proofs.lemmas.Bool.{eq-eqb, or_right, cases_eq}
use Rattle.std.proofs.lemmas.List.Folds.{list_any-append}
use Rattle.padata_core.specs.Pad.{ready, running_of}
use Rattle.board.specs.declared.entry.Shape.{Shape}
use Rattle.board.specs.declared.entry.BoardEntry.{BoardEntry}
use Rattle.board.specs.declared.entry.BoardEntry.TheVariants.{Hold, Go, Collect, Close, Share, Mask, Shut}
use Rattle.board.specs.declared.pipeline.Pipeline.{Pipeline}
use Rattle.board.specs.declared.stage.Stage.{Stage}
use Rattle.board.specs.declared.stage.Stage.TheVariants as stage
use Rattle.board.specs.Shapes.{is_pad, has_queue, is_born, pad_born, has_queue_born, width_born}
use Rattle.board.specs.Stages.{IsPlaced, unfinished_of, holding, callbacks_of, collected_from, MayServe, MayPass}
use Rattle.board.specs.Stages as stages
use Rattle.board.specs.Pipelines.{IsSame, with_lists}
use Rattle.board.specs.Places.{Places, places}
use Rattle.board.specs.Entries.{is_of, entries_of, birth_in, birth, submissions, front, told, delivered, collected_in, collected, last_or, is_close, is_closed, is_shared, lists_for}
use Rattle.board.specs.Legal.{IsRight, MayManage, IsOpenPad, IsOpenQueue, IsOpen, is_shut_entry, is_shut}
use Rattle.board.specs.Order.{AreRightForAfter}
use Rattle.board.specs.Kept.{IsKeptPipe, IsKeptBoard, shape_of, work_owed, owes, owed_by}
use Rattle.board.proofs.Transfer.{each_right, entries-same, entries-more}
use Rattle.board.proofs.Lists.{filter_map-none, filter_map-some, last_or-append}
use Rattle.board.proofs.Kept.{Pipes, IsSet, IsLeft, only_of, within_board, open_board, legal_more, place_step, swap_step, closed-same, shared-same, collected-same}
use Rattle.board.proofs.KeptMarks.{mask-same, mask-new, closed-now, shared-now, noted_same, pipe_more, stage_more}
use Rattle.board.proofs.KeptRoom.{pipe_same, owes_same}
use Rattle.board.proofs.Counting.{filter-at_most, told_twice}
use Rattle.board.proofs.KeptStage.{stage_quiet, stage_held, stage_lists, told_is, delivered_is, stage_collected, stage_done, stage_undone, stage_spent, spent_owed}
use Rattle.board.proofs.KeptLists.{lists_like, new_lists, held_lists, collected_lists}

-- ---- what a pipeline is, as its entries say

pub not_closed : {A : Type 0} (es : List (BoardEntry A)) → IsOpen es → is_closed es ≡ false
not_closed es (inl o) = o.1
not_closed es (inr o) = o.1

pub open_here : {A : Type 0} (such : Shape → Bool) (es : List (BoardEntry A)) → is_born such (birth es) ≡ true → es ≢ []
open_here such [] h e = cc
open_here such (x ∷ es) h e = cc

pub any_open_here : {A : Type 0} (es : List (BoardEntry A)) → IsOpen es → es ≢ []
any_open_here es (inl o) = open_here is_pad es o.0
any_open_here es (inr o) = open_here has_queue es o.0

-- an open pipeline is kept
pub kept_open : {J O A : Type 0} (asked : J → A) (meaning : A → O) (pipes : Places (Pipeline J O)) (born : ℕ) (log : List (BoardEntry A)) (p : ℕ) → IsKeptBoard asked meaning pipes born log → IsOpen (entries_of p log) → (x : Pipeline J O) × (pipes p ≡ Some x)
kept_open asked meaning pipes born log p k o = open_board asked meaning pipes born log p k (any_open_here (entries_of p log) o) (not_closed (entries_of p log) o)

shape_pad : {J O : Type 0} (s : Stage J O) (w : ℕ) → is_pad (shape_of s w) ≡ stages.is_pad s
shape_pad (stage.Pad x) w = refl
shape_pad (stage.Queue x) w = refl
shape_pad (stage.Chain x) w = refl

shape_server : {J O : Type 0} (s : Stage J O) (w : ℕ) → has_queue (shape_of s w) ≡ stages.has_queue s
shape_server (stage.Pad x) w = refl
shape_server (stage.Queue x) w = refl
shape_server (stage.Chain x) w = refl

-- a number has one pipeline
pub same_item : {X : Type 0} (o : Option X) (x y : X) → o ≡ Some x → o ≡ Some y → x ≡ y
same_item o x y a b = (let z : Some x ≡ Some y = sym a ∙ b in cc)

-- ---- whether there is work, after a call

from_serves : {J O : Type 0} (s : Stage J O) → MayServe (collected_from s) → MayServe s
from_serves (stage.Pad x) m = m
from_serves (stage.Queue x) m = m
from_serves (stage.Chain x) m = m

pub collected_serves : {J O : Type 0} (pipe after : Pipeline J O) (to : ℕ) → after ≡ record pipe { collected = to; stage = collected_from pipe.stage } → MayServe after.stage → MayServe pipe.stage
collected_serves pipe after to e m = from_serves pipe.stage (subst (λ (x : Pipeline _ _). MayServe x.stage) e m)

from_passes : {J O : Type 0} (s : Stage J O) → MayPass (collected_from s) → MayPass s
from_passes (stage.Pad x) m = m
from_passes (stage.Queue x) m = m
from_passes (stage.Chain x) m = m

pub collected_passes : {J O : Type 0} (pipe after : Pipeline J O) (to : ℕ) → after ≡ record pipe { collected = to; stage = collected_from pipe.stage } → MayPass after.stage → MayPass pipe.stage
collected_passes pipe after to e m = from_passes pipe.stage (subst (λ (x : Pipeline _ _). MayPass x.stage) e m)

with_passes : {J O : Type 0} (s : Stage J O) (lists : ℕ) → MayPass (with_lists s lists) → MayPass s
with_passes (stage.Pad x) lists m = m
with_passes (stage.Queue x) lists m = m
with_passes (stage.Chain x) lists m = m

pub lists_passes : {J O : Type 0} (s after : Stage J O) (lists : ℕ) → after ≡ with_lists s lists → MayPass after → MayPass s
lists_passes s after lists e m = with_passes s lists (subst (λ x. MayPass x) e m)

module _ {J O A : Type 0} (asked : J → A) (meaning : A → O) where
  pub pad_kept : (pipe : Pipeline J O) (es : List (BoardEntry A)) → IsKeptPipe asked meaning pipe es → pad_born (birth es) ≡ true → stages.is_pad pipe.stage ≡ true
  pad_kept pipe es k b = sym (shape_pad pipe.stage (width_born (birth es))) ∙ (sym (ap pad_born k.born) ∙ b)

  pub server_kept : (pipe : Pipeline J O) (es : List (BoardEntry A)) → IsKeptPipe asked meaning pipe es → has_queue_born (birth es) ≡ true → stages.has_queue pipe.stage ≡ true
  server_kept pipe es k b = sym (shape_server pipe.stage (width_born (birth es))) ∙ (sym (ap has_queue_born k.born) ∙ b)

  module _ (pipes : Pipes J O) (born : ℕ) (log : List (BoardEntry A)) (p : ℕ) (pipe : Pipeline J O) (k : IsKeptBoard asked meaning (places pipes) born log) (here : places pipes p ≡ Some pipe) where
    -- the pipeline's entries are right, each after those before it
    pub right_here : AreRightForAfter [] (entries_of p log)
    right_here = each_right [] log p k.legal

    pub pad_here : pad_born (birth (entries_of p log)) ≡ true → stages.is_pad pipe.stage ≡ true
    pad_here b = pad_kept pipe (entries_of p log) (k.each p pipe here) b

    pub server_here : has_queue_born (birth (entries_of p log)) ≡ true → stages.has_queue pipe.stage ≡ true
    server_here b = server_kept pipe (entries_of p log) (k.each p pipe here) b

    -- ---- room

    pub room_step : (next : Pipes J O) (after : Pipeline J O) → IsSet pipes next p pipe after → IsSame pipe after → (IsPlaced pipe.stage → IsPlaced after.stage) → IsKeptBoard asked meaning (places next) born log × (owed_by next ≡ owed_by pipes)
    room_step next after set e placed =
        let kp = k.each p pipe here in
        let s = swap_step asked meaning pipes next born log p pipe after k set (pipe_same asked meaning pipe after (entries_of p log) e placed kp) in
        let o = owes_same pipe after e in
        (s.0, omega (arith, s.1, o))

    -- ---- share

    pub share_step : (next : Pipes J O) (caller : ℕ) → IsSet pipes next p pipe (record pipe { shared = true }) → MayManage (entries_of p log) caller → IsOpen (entries_of p log) → IsKeptBoard asked meaning (places next) born (log ++ Share caller p ∷ []) × (owed_by next ≡ owed_by pipes)
    share_step next caller set may opened =
        let es = entries_of p log in
        let e : BoardEntry A = Share caller p in
        let kp = k.each p pipe here in
        let b = ap is_some kp.born in
        let right : IsRight log e = (tt, (may, not_closed es opened)) in
        let kept = pipe_more asked meaning pipe (record pipe { shared = true }) es e kp refl (λ w. refl) kp.lists (closed-same es e refl ∙ kp.closing) (shared-now es e refl) (mask-same es e b refl ∙ kp.masking) (noted_same asked meaning pipe es e kp refl) (collected-same es e refl ∙ kp.place) (stage_quiet asked meaning pipe.stage es e pipe.collected kp.stage b refl refl refl refl refl refl) in
        let s = place_step asked meaning pipes next born log p pipe (record pipe { shared = true }) e k set (eq-eqb p p refl) refl right kept in
        (s.0, omega (arith, s.1))

    -- ---- mask

    lists_shape : (s : Stage J O) (lists w : ℕ) → shape_of (with_lists s lists) w ≡ shape_of s w
    lists_shape (stage.Pad x) lists w = refl
    lists_shape (stage.Queue x) lists w = refl
    lists_shape (stage.Chain x) lists w = refl

    lists_owed : (s : Stage J O) (lists : ℕ) → work_owed (with_lists s lists) ≡ work_owed s
    lists_owed (stage.Pad x) lists = refl
    lists_owed (stage.Queue x) lists = refl
    lists_owed (stage.Chain x) lists = refl

    pub mask_step : (next : Pipes J O) (caller lists m : ℕ) (after : Pipeline J O) → IsSet pipes next p pipe after → MayManage (entries_of p log) caller → IsOpenPad (entries_of p log) → is_shared (entries_of p log) ≡ false → m < 2 ^ width_born (birth (entries_of p log)) → lists ≡ lists_for m → after ≡ record pipe { mask = m; stage = with_lists pipe.stage lists }
        → IsKeptBoard asked meaning (places next) born (log ++ Mask caller p m ∷ []) × (owed_by next ≡ owed_by pipes)
    mask_step next caller lists m after set may opened alone bits asked_for q =
        let es = entries_of p log in
        let e : BoardEntry A = Mask caller p m in
        let kp = k.each p pipe here in
        let b = ap is_some kp.born in
        let now : Pipeline J O = record pipe { mask = m; stage = with_lists pipe.stage lists } in
        let right : IsRight log e = (tt, (may, opened, alone, bits)) in
        let kept = pipe_more asked meaning pipe now es e kp refl (lists_shape pipe.stage lists) (λ q. new_lists pipe.stage lists (pad_kept pipe es kp opened.0) ∙ asked_for) (closed-same es e refl ∙ kp.closing) (shared-same es e refl ∙ kp.sharing) (mask-new es e m refl) (noted_same asked meaning pipe es e kp refl) (collected-same es e refl ∙ kp.place) (stage_quiet asked meaning (with_lists pipe.stage lists) es e pipe.collected (stage_lists asked meaning pipe.stage es pipe.collected lists kp.stage) b refl refl refl refl refl refl) in
        let s = place_step asked meaning pipes next born log p pipe after e k set (eq-eqb p p refl) refl right (subst (λ x. IsKeptPipe asked meaning x (es ++ e ∷ [])) (sym q) kept) in
        let o = lists_owed pipe.stage lists in
        let z : owes after ≡ owes pipe = ap owes q ∙ ap (λ n. n + 1) o in
        (s.0, omega (arith, s.1, z))

    -- ---- hold and go

    held_shape : (s : Stage J O) (held : Bool) (w : ℕ) → shape_of (holding s held) w ≡ shape_of s w
    held_shape (stage.Pad x) held w = refl
    held_shape (stage.Queue x) held w = refl
    held_shape (stage.Chain x) held w = refl

    held_owed : (s : Stage J O) (held : Bool) → work_owed (holding s held) ≡ work_owed s
    held_owed (stage.Pad x) held = refl
    held_owed (stage.Queue x) held = refl
    held_owed (stage.Chain x) held = refl

    held_owes : (held : Bool) (after : Pipeline J O) → after ≡ record pipe { stage = holding pipe.stage held } → owes after ≡ owes pipe
    held_owes held after q = ap owes q ∙ ap (λ n. n + 1) (held_owed pipe.stage held)

    pub hold_step : (next : Pipes J O) (caller : ℕ) (after : Pipeline J O) → IsSet pipes next p pipe after → MayManage (entries_of p log) caller → IsOpenQueue (entries_of p log) → after ≡ record pipe { stage = holding pipe.stage true }
        → IsKeptBoard asked meaning (places next) born (log ++ Hold caller p ∷ []) × (owed_by next ≡ owed_by pipes)
    hold_step next caller after set may opened q =
        let es = entries_of p log in
        let e : BoardEntry A = Hold caller p in
        let kp = k.each p pipe here in
        let b = ap is_some kp.born in
        let right : IsRight log e = (tt, (may, opened)) in
        let kept = stage_more asked meaning pipe (holding pipe.stage true) es e kp (held_shape pipe.stage true) (held_lists pipe.stage true) refl refl refl refl refl (stage_held asked meaning pipe.stage es e pipe.collected true kp.stage (server_kept pipe es kp opened.0) b refl refl refl refl refl refl) in
        let s = place_step asked meaning pipes next born log p pipe after e k set (eq-eqb p p refl) refl right (subst (λ x. IsKeptPipe asked meaning x (es ++ e ∷ [])) (sym q) kept) in
        let z = held_owes true after q in
        (s.0, omega (arith, s.1, z))

    pub go_step : (next : Pipes J O) (caller : ℕ) (after : Pipeline J O) → IsSet pipes next p pipe after → MayManage (entries_of p log) caller → IsOpenQueue (entries_of p log) → after ≡ record pipe { stage = holding pipe.stage false }
        → IsKeptBoard asked meaning (places next) born (log ++ Go caller p ∷ []) × (owed_by next ≡ owed_by pipes)
    go_step next caller after set may opened q =
        let es = entries_of p log in
        let e : BoardEntry A = Go caller p in
        let kp = k.each p pipe here in
        let b = ap is_some kp.born in
        let right : IsRight log e = (tt, (may, opened)) in
        let kept = stage_more asked meaning pipe (holding pipe.stage false) es e kp (held_shape pipe.stage false) (held_lists pipe.stage false) refl refl refl refl refl (stage_held asked meaning pipe.stage es e pipe.collected false kp.stage (server_kept pipe es kp opened.0) b refl refl refl refl refl refl) in
        let s = place_step asked meaning pipes next born log p pipe after e k set (eq-eqb p p refl) refl right (subst (λ x. IsKeptPipe asked meaning x (es ++ e ∷ [])) (sym q) kept) in
        let z = held_owes false after q in
        (s.0, omega (arith, s.1, z))

    -- ---- poll and drain

    collected_shape : (s : Stage J O) (w : ℕ) → shape_of (collected_from s) w ≡ shape_of s w
    collected_shape (stage.Pad x) w = refl
    collected_shape (stage.Queue x) w = refl
    collected_shape (stage.Chain x) w = refl

    running_rest : (outs : List (Option O)) → running_of (drop (length (ready outs)) outs) ≡ running_of outs
    running_rest [] = refl
    running_rest (None ∷ outs) = refl
    running_rest (Some x ∷ outs) = running_rest outs

    collected_owed : (s : Stage J O) → work_owed (collected_from s) ≡ work_owed s
    collected_owed (stage.Pad x) = ap (λ n. 2 * length x.waiting + n) (running_rest x.outcomes)
    collected_owed (stage.Queue x) = refl
    collected_owed (stage.Chain x) = refl

    collected-new : (es : List (BoardEntry A)) (caller q to : ℕ) → collected (es ++ Collect caller q to ∷ []) ≡ to
    collected-new es caller q to = ap (last_or 0) (filter_map-some collected_in es (Collect caller q to) to refl) ∙ last_or-append 0 (filter_map collected_in es) to

    pub poll_step : (next : Pipes J O) (caller to : ℕ) (after : Pipeline J O) → IsSet pipes next p pipe after → MayManage (entries_of p log) caller → IsOpen (entries_of p log) → to ≡ pipe.collected + length (callbacks_of pipe.stage) → after ≡ record pipe { collected = to; stage = collected_from pipe.stage }
        → IsKeptBoard asked meaning (places next) born (log ++ Collect caller p to ∷ [])
        × (owed_by next ≡ owed_by pipes)
        × (to ≡ length (told (entries_of p log)))
        × (delivered meaning (entries_of p log) (length (told (entries_of p log))) ≡ callbacks_of pipe.stage)
    poll_step next caller to after set may opened t q =
        let es = entries_of p log in
        let e : BoardEntry A = Collect caller p to in
        let kp = k.each p pipe here in
        let b = ap is_some kp.born in
        let w = width_born (birth es) in
        let now : Pipeline J O = record pipe { collected = to; stage = collected_from pipe.stage } in
        let all : to ≡ length (told es) = t ∙ sym (told_is asked meaning pipe.stage es pipe.collected w kp.stage right_here (pipe.maker, kp.born)) in
        let right : IsRight log e = (tt, (may, not_closed es opened, all)) in
        let kept = pipe_more asked meaning pipe now es e kp refl (collected_shape pipe.stage) (lists_like pipe now refl (collected_lists pipe.stage) (collected_shape pipe.stage) kp.lists) (closed-same es e refl ∙ kp.closing) (shared-same es e refl ∙ kp.sharing) (mask-same es e b refl ∙ kp.masking) (noted_same asked meaning pipe es e kp refl) (collected-new es caller p to) (stage_collected asked meaning pipe.stage es pipe.collected p to caller kp.stage b right_here all t) in
        let s = place_step asked meaning pipes next born log p pipe after e k set (eq-eqb p p refl) refl right (subst (λ x. IsKeptPipe asked meaning x (es ++ e ∷ [])) (sym q) kept) in
        let z : owes after ≡ owes pipe = ap owes q ∙ ap (λ n. n + 1) (collected_owed pipe.stage) in
        (s.0, omega (arith, s.1, z), all, delivered_is asked meaning pipe.stage es pipe.collected w kp.stage kp.place right_here (pipe.maker, kp.born))

    -- a pipeline told no more than two callbacks an entry
    pub told_few : pipe.collected + length (callbacks_of pipe.stage) ≤ 2 * length log
    told_few =
        let es = entries_of p log in
        let kp = k.each p pipe here in
        let t = told_is asked meaning pipe.stage es pipe.collected (width_born (birth es)) kp.stage right_here (pipe.maker, kp.born) in
        let m = told_twice es right_here in
        let l = filter-at_most (is_of p) log in
        omega arith

    pub done_step : unfinished_of pipe.stage ≡ 0 → front (entries_of p log) ≡ length (submissions (entries_of p log))
    done_step d =
        let es = entries_of p log in
        let kp = k.each p pipe here in
        stage_done asked meaning pipe.stage es pipe.collected (width_born (birth es)) kp.stage right_here (pipe.maker, kp.born) d

    pub undone_step : 0 < unfinished_of pipe.stage → front (entries_of p log) < length (submissions (entries_of p log))
    undone_step d =
        let es = entries_of p log in
        let kp = k.each p pipe here in
        stage_undone asked meaning pipe.stage es pipe.collected (width_born (birth es)) kp.stage right_here (pipe.maker, kp.born) d

    -- ---- close

    close_each : (next : Pipes J O) (e : BoardEntry A) → IsLeft pipes next p pipe → is_of p e ≡ true → (q : ℕ) (x : Pipeline J O) → places next q ≡ Some x → (q ≡ p) ⊎ (q ≡ p → ⊥) → IsKeptPipe asked meaning x (entries_of q (log ++ e ∷ []))
    close_each next e left of q x at (inl same) = (let z : None ≡ Some x = sym left.there ∙ (ap (places next) (sym same) ∙ at) in cc)
    close_each next e left of q x at (inr n) = rw (entries-same log q e (only_of e p q of n)) (k.each q x (sym (left.others q n) ∙ at))

    close_ended : (next : Pipes J O) (e : BoardEntry A) → IsLeft pipes next p pipe → is_of p e ≡ true → is_close e ≡ true → (q : ℕ) → q < born → places next q ≡ None → (q ≡ p) ⊎ (q ≡ p → ⊥) → is_closed (entries_of q (log ++ e ∷ [])) ≡ true
    close_ended next e left of is q l at (inl same) = rw (same, entries-more log p e of) (closed-now (entries_of p log) e is)
    close_ended next e left of is q l at (inr n) = rw (entries-same log q e (only_of e p q of n)) (k.others q l (sym (left.others q n) ∙ at))

    pub close_step : (next : Pipes J O) (caller : ℕ) → IsLeft pipes next p pipe → MayManage (entries_of p log) caller → IsOpen (entries_of p log) → is_shared (entries_of p log) ≡ false → front (entries_of p log) ≡ length (submissions (entries_of p log)) → collected (entries_of p log) ≡ length (told (entries_of p log))
        → IsKeptBoard asked meaning (places next) born (log ++ Close caller p ∷ []) × (owed_by next + 1 ≡ owed_by pipes)
    close_step next caller left may opened alone all out =
        let e : BoardEntry A = Close caller p in
        let right : IsRight log e = (tt, (may, not_closed (entries_of p log) opened, alone, all, out)) in
        let of : is_of p e ≡ true = eq-eqb p p refl in
        let w = within_board asked meaning (places pipes) born log p pipe k here in
        let kp = k.each p pipe here in
        let spent = stage_spent asked meaning pipe.stage (entries_of p log) pipe.collected (width_born (birth (entries_of p log))) kp.stage kp.place right_here (pipe.maker, kp.born) all out in
        let o = left.owed in
        let z = spent_owed pipe.stage spent in (
          record {
            legal = legal_more log e k.legal right;
            count = ap length (filter_map-none birth_in log e refl) ∙ k.count;
            each = λ q x at. close_each next e left of q x at (cases_eq q p);
            others = λ q l at. close_ended next e left of refl q l at (cases_eq q p);
            beyond = λ q l. entries-same log q e (only_of e p q of (λ h. (let h2 : q ≡ p = h in absurd (omega arith)))) ∙ k.beyond q l;
          },
          omega (arith, o, z),
        )

-- ---- shut

pub shut_step : {J O A : Type 0} (asked : J → A) (meaning : A → O) (pipes : Places (Pipeline J O)) (born : ℕ) (log : List (BoardEntry A)) (caller : ℕ) → IsKeptBoard asked meaning pipes born log → caller ≡ 0 → is_shut log ≡ false → IsKeptBoard asked meaning pipes born (log ++ Shut caller ∷ []) × (is_shut (log ++ Shut caller ∷ []) ≡ true)
shut_step {J} {O} {A} asked meaning pipes born log caller k first open_ =
    let e : BoardEntry A = Shut caller in
    let right : IsRight log e = (first, open_) in (
      record {
        legal = legal_more log e k.legal right;
        count = ap length (filter_map-none birth_in log e refl) ∙ k.count;
        each = λ q x at. rw (entries-same log q e refl) (k.each q x at);
        others = λ q l at. rw (entries-same log q e refl) (k.others q l at);
        beyond = λ q l. entries-same log q e refl ∙ k.beyond q l;
      },
      list_any-append is_shut_entry log (e ∷ []) ∙ or_right (is_shut log) true refl,
    )
