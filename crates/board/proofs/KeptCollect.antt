-- What a collect hands out, and what it and a hold leave.
use Rattle.std.proofs.Common.{◌≡◌, ℕ, zero, suc, ◌+◌, ◌<◌, ◌≤◌, Bool, true, false, List, [], ◌∷◌, ◌++◌, length, take, drop, Option, Some, None, is_some, refl, sym, ◌∙◌, ap, arith, append-nil, zero-add, inl, inr, ◌⊎◌}
use Rattle.std.proofs.lemmas.Bool.{cases_lt}
use Rattle.std.specs.List.{filter_map}
use Rattle.std.proofs.Math.Seq.{take-length}
use Rattle.std.proofs.Math.ListN.{drop_of_length-le}
use Rattle.padata_core.specs.Pad.{Pad, ready, done_from, running_of, emptied}
use Rattle.cryptd.specs.Server.{Server}
use Rattle.board.specs.declared.entry.BoardEntry.{BoardEntry}
use Rattle.board.specs.declared.entry.BoardEntry.TheVariants.{Collect}
use Rattle.board.specs.Shapes.{max_born, pad_born}
use Rattle.board.specs.Entries.{Notice, birth, accepted_in, submissions, dequeued_in, dequeues, passed_on, front, completes_from, told, tells, held_in, is_held, last_or, collected, callback_of, delivered}
use Rattle.board.specs.Order.{AreRightForAfter}
use Rattle.board.specs.Kept.{IsKeptServer, IsKeptPad}
use Rattle.board.proofs.Lists.{filter_map-none, filter_map-some, last_or-append}
use Rattle.board.proofs.Fronts.{completes_on}
use Rattle.board.proofs.Keeping.{birth_stays, told-more}
use Rattle.board.proofs.PadsAndQueues.{pad_tells}
use Rattle.board.proofs.KeptPad.{front_is, emptied_kept, deliver_is}
use Rattle.board.proofs.KeptEntering.{pad_quiet}

-- what a collect hands out of a queue is what waits in it to be told
pub server_delivered : {J O A : Type 0} (asked : J → A) (meaning : A → O) (server : Server J O) (es : List (BoardEntry A)) (place : ℕ) → IsKeptServer asked meaning server place es → collected es ≡ place → delivered meaning es (length (told es)) ≡ server.pending
server_delivered asked meaning server es place k c = rw (take-length (told es), c) (sym k.pending)

-- and nothing is left
pub server_collected : {J O A : Type 0} (asked : J → A) (meaning : A → O) (server : Server J O) (es : List (BoardEntry A)) (place p to caller : ℕ) → IsKeptServer asked meaning server place es → is_some (birth es) ≡ true → to ≡ length (told es) → IsKeptServer asked meaning (record server { pending = [] }) to (es ++ Collect caller p to ∷ [])
server_collected {J} {O} {A} asked meaning server es place p to caller k b all =
    let e : BoardEntry A = Collect caller p to in
    let be = birth_stays es e b in
    let subs : submissions (es ++ e ∷ []) ≡ submissions es = filter_map-none accepted_in es e refl in
    let deqs : dequeues (es ++ e ∷ []) ≡ dequeues es = filter_map-none dequeued_in es e refl in
    let held : is_held (es ++ e ∷ []) ≡ is_held es = ap (last_or false) (filter_map-none held_in es e refl) in
    let same : told (es ++ e ∷ []) ≡ told es = told-more es e ∙ append-nil (told es) in
    let rest : drop to (told es) ≡ [] = drop_of_length-le (told es) (omega arith) in
    record {
      bound = ap max_born be ∙ k.bound;
      holding = held ∙ k.holding;
      submitted = ap length subs ∙ k.submitted;
      served = ap length deqs ∙ k.served;
      waiting = rw subs k.waiting;
      telling = (let z = ap length same in omega arith);
      pending = rw (same, rest) refl;
    }

-- a queue that is held, or let go
pub server_held : {J O A : Type 0} (asked : J → A) (meaning : A → O) (server : Server J O) (es : List (BoardEntry A)) (e : BoardEntry A) (place : ℕ) (held : Bool) → IsKeptServer asked meaning server place es → is_some (birth es) ≡ true → accepted_in e ≡ None → dequeued_in e ≡ None → tells es e ≡ [] → held_in e ≡ Some held → IsKeptServer asked meaning (record server { held = held }) place (es ++ e ∷ [])
server_held asked meaning server es e place held k b a d t h =
    let be = birth_stays es e b in
    let subs : submissions (es ++ e ∷ []) ≡ submissions es = filter_map-none accepted_in es e a in
    let deqs : dequeues (es ++ e ∷ []) ≡ dequeues es = filter_map-none dequeued_in es e d in
    let marks : is_held (es ++ e ∷ []) ≡ held = ap (last_or false) (filter_map-some held_in es e held h) ∙ last_or-append false (filter_map held_in es) held in
    let same : told (es ++ e ∷ []) ≡ told es = told-more es e ∙ (ap (λ ns. told es ++ ns) t ∙ append-nil (told es)) in
    record {
      bound = ap max_born be ∙ k.bound;
      holding = marks;
      submitted = ap length subs ∙ k.submitted;
      served = ap length deqs ∙ k.served;
      waiting = rw subs k.waiting;
      telling = ap length same ∙ k.telling;
      pending = rw (same, subs) k.pending;
    }

drop_all : (a n : ℕ) (ns : List Notice) → drop n (completes_from a n ++ ns) ≡ ns
drop_all a zero ns = refl
drop_all a (suc n) ns = drop_all (suc a) n ns

-- what a collect hands out of a pad is what is ready on it
pub pad_delivered : {J O A : Type 0} (asked : J → A) (meaning : A → O) (pad : Pad J O) (es : List (BoardEntry A)) → IsKeptPad asked meaning pad es → AreRightForAfter [] es → pad_born (birth es) ≡ true → passed_on es ≤ length (submissions es) → collected es ≡ pad.collected → delivered meaning es (length (told es)) ≡ done_from pad.collected (ready pad.outcomes)
pad_delivered asked meaning pad es k r b le c =
    let many : ℕ = length (ready pad.outcomes) in
    let whole : told es ≡ completes_from 0 pad.collected ++ completes_from pad.collected many =
    pad_tells es r b ∙ (ap (completes_from 0) (front_is asked meaning pad es k le) ∙ (sym (completes_on 0 pad.collected many) ∙ ap (λ m. completes_from 0 pad.collected ++ completes_from m many) (zero-add pad.collected))) in
    let rest : drop (collected es) (take (length (told es)) (told es)) ≡ completes_from pad.collected many =
    ap (drop (collected es)) (take-length (told es)) ∙ (ap (λ n. drop n (told es)) c ∙ (ap (drop pad.collected) whole ∙ drop_all 0 pad.collected (completes_from pad.collected many))) in
    ap (filter_map (callback_of meaning (submissions es))) rest ∙ deliver_is meaning es pad.outcomes pad.collected k.outcomes

-- and the rest of it is kept
pub pad_collected : {J O A : Type 0} (asked : J → A) (meaning : A → O) (pad : Pad J O) (es : List (BoardEntry A)) (p to caller : ℕ) → IsKeptPad asked meaning pad es → is_some (birth es) ≡ true → passed_on es ≤ length (submissions es) → IsKeptPad asked meaning (emptied pad) (es ++ Collect caller p to ∷ [])
pad_collected {J} {O} {A} asked meaning pad es p to caller k b le = pad_quiet asked meaning (emptied pad) es (Collect caller p to) (emptied_kept asked meaning pad es k le) b refl refl refl refl

no_run : {O : Type 0} (outs : List (Option O)) → running_of outs ≡ 0 → length (ready outs) ≡ length outs
no_run [] h = refl
no_run (None ∷ outs) h = absurd (omega arith)
no_run (Some x ∷ outs) h = ap suc (no_run outs h)

some_run : {O : Type 0} (outs : List (Option O)) → 0 < running_of outs → length (ready outs) < length outs
some_run [] h = absurd (omega arith)
some_run (None ∷ outs) h = omega arith
some_run (Some x ∷ outs) h = (let l = some_run outs h in omega arith)

-- where nothing of a pad is unfinished its front is at all that was passed on, and otherwise it isn't
pub pad_done : {J O A : Type 0} (asked : J → A) (meaning : A → O) (pad : Pad J O) (es : List (BoardEntry A)) → IsKeptPad asked meaning pad es → passed_on es ≤ length (submissions es) → running_of pad.outcomes + length pad.waiting ≡ 0 → front es ≡ passed_on es
pad_done asked meaning pad es k le d = (let f = front_is asked meaning pad es k le in let n = no_run pad.outcomes (omega arith) in let s = k.submitted in omega arith)

run_cases : {J O : Type 0} (pad : Pad J O) → 0 < running_of pad.outcomes + length pad.waiting → (0 < running_of pad.outcomes) ⊎ (running_of pad.outcomes ≤ 0) → length (ready pad.outcomes) < length pad.outcomes + length pad.waiting
run_cases pad d (inl l) = (let r = some_run pad.outcomes l in omega arith)
run_cases pad d (inr g) = (let r = no_run pad.outcomes (omega arith) in omega arith)

pub pad_undone : {J O A : Type 0} (asked : J → A) (meaning : A → O) (pad : Pad J O) (es : List (BoardEntry A)) → IsKeptPad asked meaning pad es → passed_on es ≤ length (submissions es) → 0 < running_of pad.outcomes + length pad.waiting → front es < passed_on es
pad_undone asked meaning pad es k le d = (let f = front_is asked meaning pad es k le in let n = run_cases pad d (cases_lt 0 (running_of pad.outcomes)) in let s = k.submitted in omega arith)
