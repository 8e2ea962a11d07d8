-- A finish on a chain keeps it as its entries say.
use Rattle.std.proofs.Common.{◌≡◌, ℕ, zero, suc, ◌-◌, ◌≤◌, true, false, List, [], ◌∷◌, ◌++◌, length, drop, Option, Some, None, is_some, refl, sym, ◌∙◌, ap, arith, length-append}
use Rattle.std.specs.List.{filter_map}
use Rattle.std.proofs.lemmas.List.{length-drop, length-set, drop-append-le}
use Rattle.std.proofs.lemmas.List.Elements.{filter_map-append}
use Rattle.padata_core.specs.Pad.{Pad, ready, done_from}
use Rattle.cryptd.specs.Server.{Server}
use Rattle.board.specs.declared.entry.BoardEntry.{BoardEntry}
use Rattle.board.specs.declared.entry.BoardEntry.TheVariants.{Finish}
use Rattle.board.specs.declared.stage.Chained.{Chained}
use Rattle.board.specs.declared.stage.Stage.TheVariants as stage
use Rattle.board.specs.Stages.{with_outcome, released, ended}
use Rattle.board.specs.Shapes.{max_born}
use Rattle.board.specs.Entries.{birth, accepted_in, submissions, dequeued_in, dequeues, passed_on, takers, finished, has, front, completes_from, tells, told, held_in, is_held, last_or, callback_of, meaning_at}
use Rattle.board.specs.Kept.{IsKeptServer, IsKeptPad, IsKeptStage}
use Rattle.board.proofs.Lists.{filter_map-none}
use Rattle.board.proofs.Keeping.{birth_stays, told-more}
use Rattle.board.proofs.Callbacks.{length-done}
use Rattle.board.proofs.KeptPad.{ready_short, front_is, finish_kept, emptied_kept, finish_tells}

length-completes : (n many : ℕ) → length (completes_from n many) ≡ many
length-completes n zero = refl
length-completes n (suc many) = ap suc (length-completes (suc n) many)

ready_rest : {O : Type 0} (outs : List (Option O)) → ready (drop (length (ready outs)) outs) ≡ []
ready_rest [] = refl
ready_rest (None ∷ outs) = refl
ready_rest (Some x ∷ outs) = ready_rest outs

tells_many : {J O A : Type 0} (asked : J → A) (meaning : A → O) (pad : Pad J O) (es : List (BoardEntry A)) (p n caller : ℕ) (out : O) → IsKeptPad asked meaning pad es → is_some (birth es) ≡ true → passed_on es ≤ length (submissions es) → ready pad.outcomes ≡ [] → takers n es ≡ caller ∷ [] → has n (finished es) ≡ false → meaning_at meaning (submissions es) n ≡ Some out
    → length (tells es (Finish caller p n)) ≡ length (ready (with_outcome pad n out).outcomes)
tells_many {J} {O} {A} asked meaning pad es p n caller out k b l none t f o =
    let e : BoardEntry A = Finish caller p n in
    let be = birth_stays es e b in
    let subs : submissions (es ++ e ∷ []) ≡ submissions es = filter_map-none accepted_in es e refl in
    let deqs : dequeues (es ++ e ∷ []) ≡ dequeues es = filter_map-none dequeued_in es e refl in
    let pass : passed_on (es ++ e ∷ []) ≡ passed_on es = rw (be, deqs, subs) refl in
    let l2 : passed_on (es ++ e ∷ []) ≤ length (submissions (es ++ e ∷ [])) = rw (pass, subs) l in
    let now = front_is asked meaning pad es k l in
    let zero_ready : length (ready pad.outcomes) ≡ 0 = ap length none in
    let then = front_is asked meaning (with_outcome pad n out) (es ++ e ∷ []) (finish_kept asked meaning pad es p n caller out k b t f o) l2 in
    length-completes (front es) (front (es ++ e ∷ []) - front es) ∙ (let q : front (es ++ e ∷ []) - front es ≡ length (ready (with_outcome pad n out).outcomes) = omega arith in q)

server_step : {J O A : Type 0} (asked : J → A) (meaning : A → O) (server : Server J O) (pad : Pad J O) (es : List (BoardEntry A)) (place p n caller : ℕ) (out : O) → IsKeptServer asked meaning server place es → IsKeptPad asked meaning pad es → is_some (birth es) ≡ true → passed_on es ≤ length (submissions es) → ready pad.outcomes ≡ [] → takers n es ≡ caller ∷ [] → has n (finished es) ≡ false → meaning_at meaning (submissions es) n ≡ Some out
    → IsKeptServer asked meaning (released server (with_outcome pad n out)) place (es ++ Finish caller p n ∷ [])
server_step {J} {O} {A} asked meaning server pad es place p n caller out k kp b l none t f o =
    let e : BoardEntry A = Finish caller p n in
    let be = birth_stays es e b in
    let subs : submissions (es ++ e ∷ []) ≡ submissions es = filter_map-none accepted_in es e refl in
    let deqs : dequeues (es ++ e ∷ []) ≡ dequeues es = filter_map-none dequeued_in es e refl in
    let held : is_held (es ++ e ∷ []) ≡ is_held es = ap (last_or false) (filter_map-none held_in es e refl) in
    let more = told-more es e in
    let says = finish_tells asked meaning pad es p n caller out kp b l none t f o in
    let after : Pad J O = with_outcome pad n out in
    let many = tells_many asked meaning pad es p n caller out kp b l none t f o in
    let within : place ≤ length (told es) = (let q = k.telling in omega arith) in
    record {
      bound = ap max_born be ∙ k.bound;
      holding = held ∙ k.holding;
      submitted = ap length subs ∙ k.submitted;
      served = ap length deqs ∙ k.served;
      waiting = rw subs k.waiting;
      telling =
          (let q = k.telling in
          let a = length-append (told es) (tells es e) in
          let d = length-append server.pending (done_from pad.collected (ready after.outcomes)) in
          let z = length-done pad.collected (ready after.outcomes) in
          let m = ap length more in
          omega arith);
      pending =
          ap (λ ns. ns ++ done_from pad.collected (ready after.outcomes)) k.pending
          ∙ (ap (λ ns. filter_map (callback_of meaning (submissions es)) (drop place (told es)) ++ ns) (sym says)
          ∙ (sym (filter_map-append (callback_of meaning (submissions es)) (drop place (told es)) (tells es e))
          ∙ (ap (filter_map (callback_of meaning (submissions es))) (sym (drop-append-le place (told es) (tells es e) within))
          ∙ (ap (λ ns. filter_map (callback_of meaning (submissions es)) (drop place ns)) (sym more)
          ∙ ap (λ asks. filter_map (callback_of meaning asks) (drop place (told (es ++ e ∷ [])))) (sym subs)))));
    }

pub chain_finish_kept : {J O A : Type 0} (asked : J → A) (meaning : A → O) (c : Chained J O) (es : List (BoardEntry A)) (place p n caller : ℕ) (out : O) → IsKeptStage asked meaning (stage.Chain c) place es → is_some (birth es) ≡ true → passed_on es ≤ length (submissions es) → takers n es ≡ caller ∷ [] → has n (finished es) ≡ false → meaning_at meaning (submissions es) n ≡ Some out
    → IsKeptStage asked meaning (ended (stage.Chain c) n out) place (es ++ Finish caller p n ∷ [])
chain_finish_kept {J} {O} {A} asked meaning c es place p n caller out k b l t f o =
    let e : BoardEntry A = Finish caller p n in
    let be = birth_stays es e b in
    let subs : submissions (es ++ e ∷ []) ≡ submissions es = filter_map-none accepted_in es e refl in
    let deqs : dequeues (es ++ e ∷ []) ≡ dequeues es = filter_map-none dequeued_in es e refl in
    let pass : passed_on (es ++ e ∷ []) ≡ passed_on es = rw (be, deqs, subs) refl in
    let l2 : passed_on (es ++ e ∷ []) ≤ length (submissions (es ++ e ∷ [])) = rw (pass, subs) l in
    let after : Pad J O = with_outcome c.pad n out in
    let r = ready_short after.outcomes in
    let d = length-drop (length (ready after.outcomes)) after.outcomes in
    let s = length-set c.pad.outcomes (n - c.pad.collected) (Some out) in
    let j = k.2.0 in
    let i = k.2.1 in (
      server_step asked meaning c.server c.pad es place p n caller out k.0 k.1 b l k.4 t f o,
      emptied_kept asked meaning after (es ++ e ∷ []) (finish_kept asked meaning c.pad es p n caller out k.1 b t f o) l2,
      (omega arith, omega arith),
      k.3,
      ready_rest after.outcomes,
      k.5,
    )
