-- A queue whose requests run one at a time, and pipelines that were just made.
use Rattle.std.proofs.Common.{◌≡◌, ℕ, ◌+◌, ◌≤◌, Bool, true, false, cond, List, [], ◌∷◌, ◌++◌, length, drop, Some, is_some, refl, sym, ◌∙◌, ap, arith, length-append}
use Rattle.std.specs.List.{filter_map, cons_option}
use Rattle.std.proofs.lemmas.List.{drop-append-le}
use Rattle.std.proofs.lemmas.List.Elements.{filter_map-append}
use Rattle.kc_base.specs.declared.callback_list.Callback.TheVariants as callback
use Rattle.padata_core.specs.Pad.{Pad}
use Rattle.request_queue.specs.BoundedQueue.{number_at_bound}
use Rattle.cryptd.specs.Server.{Server, started_callback}
use Rattle.board.specs.declared.entry.Shape.TheVariants as shape
use Rattle.board.specs.declared.entry.BoardEntry.{BoardEntry}
use Rattle.board.specs.declared.entry.BoardEntry.TheVariants.{Born, Deq, Done}
use Rattle.board.specs.declared.stage.Stage.TheVariants as stage
use Rattle.board.specs.Stages.{passed, without_first, ended}
use Rattle.board.specs.Shapes.{max_born}
use Rattle.board.specs.Entries.{birth, accepted_in, submissions, dequeued_in, dequeues, finished_in, finished, told, tells, held_in, is_held, last_or, callback_of, completion, meaning_at}
use Rattle.board.specs.Kept.{IsKeptServer, IsKeptStage}
use Rattle.board.proofs.Lists.{filter_map-none, filter_map-some}
use Rattle.board.proofs.Keeping.{birth_stays, told-more}
use Rattle.board.proofs.KeptPassing.{server_passed}

-- a queue is kept by its requests, its hold and its callbacks alone
pub server_like : {J O A : Type 0} (asked : J → A) (meaning : A → O) (a b : Server J O) (place : ℕ) (es : List (BoardEntry A)) → IsKeptServer asked meaning a place es → b.queue ≡ a.queue → b.held ≡ a.held → b.pending ≡ a.pending → IsKeptServer asked meaning b place es
server_like asked meaning a b place es k l h p = record {
  bound = rw l k.bound;
  holding = rw h k.holding;
  submitted = rw l k.submitted;
  served = rw l k.served;
  waiting = rw l k.waiting;
  telling = rw p k.telling;
  pending = rw p k.pending;
}

busy_now : (b : Bool) (f s : ℕ) → b ≡ false → f + cond b 1 0 ≡ s → f + 1 ≡ s + 1
busy_now true f s h e = cc
busy_now false f s h e = omega arith

-- the first request of a queue is taken
pub queue_taken : {J O A : Type 0} (asked : J → A) (meaning : A → O) (server : Server J O) (es : List (BoardEntry A)) (place p caller : ℕ) (job : J) (rest : List J) → IsKeptStage asked meaning (stage.Queue server) place es → is_some (birth es) ≡ true → server.busy ≡ false → server.queue.waiting ≡ job ∷ rest
    → IsKeptStage asked meaning (without_first (stage.Queue server) rest) place (es ++ Deq caller p server.queue.served (number_at_bound server.queue) ∷ [])
queue_taken {J} {O} {A} asked meaning server es place p caller job rest k b idle w =
    let e : BoardEntry A = Deq caller p server.queue.served (number_at_bound server.queue) in
    let after : Server J O = record server { queue = record server.queue { served = server.queue.served + 1; waiting = rest }; busy = true; pending = server.pending ++ started_callback (number_at_bound server.queue) } in
    let fins : finished (es ++ e ∷ []) ≡ finished es = filter_map-none finished_in es e refl in
    (server_like asked meaning (passed server rest) after place (es ++ e ∷ []) (server_passed asked meaning server es place p caller job rest k.0 b w) refl refl refl, rw fins (busy_now server.busy (length (finished es)) server.queue.served idle k.1), k.2)

done_now : (b : Bool) (f s : ℕ) → b ≡ true → f + cond b 1 0 ≡ s → f + 1 + 0 ≡ s
done_now true f s h e = omega arith
done_now false f s h e = cc

-- and is done
pub queue_done : {J O A : Type 0} (asked : J → A) (meaning : A → O) (server : Server J O) (es : List (BoardEntry A)) (place p n caller : ℕ) (out : O) → IsKeptStage asked meaning (stage.Queue server) place es → is_some (birth es) ≡ true → server.busy ≡ true → meaning_at meaning (submissions es) n ≡ Some out
    → IsKeptStage asked meaning (ended (stage.Queue server) n out) place (es ++ Done caller p n ∷ [])
queue_done {J} {O} {A} asked meaning server es place p n caller out k b busy m =
    let e : BoardEntry A = Done caller p n in
    let be = birth_stays es e b in
    let subs : submissions (es ++ e ∷ []) ≡ submissions es = filter_map-none accepted_in es e refl in
    let deqs : dequeues (es ++ e ∷ []) ≡ dequeues es = filter_map-none dequeued_in es e refl in
    let held : is_held (es ++ e ∷ []) ≡ is_held es = ap (last_or false) (filter_map-none held_in es e refl) in
    let fins : finished (es ++ e ∷ []) ≡ finished es ++ n ∷ [] = filter_map-some finished_in es e n refl in
    let fl : length (finished es ++ n ∷ []) ≡ length (finished es) + 1 = length-append (finished es) (n ∷ []) in
    let more = told-more es e in
    let within : place ≤ length (told es) = (let q = k.0.telling in omega arith) in
    let says : filter_map (callback_of meaning (submissions es)) (tells es e) ≡ callback.Done n out ∷ [] = ap (λ o. cons_option (completion n o) []) m in (
      record {
        bound = ap max_born be ∙ k.0.bound;
        holding = held ∙ k.0.holding;
        submitted = ap length subs ∙ k.0.submitted;
        served = ap length deqs ∙ k.0.served;
        waiting = rw subs k.0.waiting;
        telling =
            (let q = k.0.telling in
            let a = length-append (told es) (tells es e) in
            let d = length-append server.pending (callback.Done n out ∷ []) in
            let z = ap length more in
            omega arith);
        pending =
            ap (λ ns. ns ++ callback.Done n out ∷ []) k.0.pending
            ∙ (ap (λ ns. filter_map (callback_of meaning (submissions es)) (drop place (told es)) ++ ns) (sym says)
            ∙ (sym (filter_map-append (callback_of meaning (submissions es)) (drop place (told es)) (tells es e))
            ∙ (ap (filter_map (callback_of meaning (submissions es))) (sym (drop-append-le place (told es) (tells es e) within))
            ∙ (ap (λ ns. filter_map (callback_of meaning (submissions es)) (drop place ns)) (sym more)
            ∙ ap (λ asks. filter_map (callback_of meaning asks) (drop place (told (es ++ e ∷ [])))) (sym subs)))));
      },
      rw (fins, fl) (done_now server.busy (length (finished es)) server.queue.served busy k.1),
      k.2,
    )

-- ---- pipelines that were just made

abbrev pub new_server : {J O : Type 0} → ℕ → Server J O
new_server max = record { queue = record { max = max; served = 0; waiting = []; spare = 0 }; held = false; busy = false; passed = 0; pending = []; spare = 0 }

abbrev pub new_pad : {J O : Type 0} → ℕ → Pad J O
new_pad lists = record { lists = lists; collected = 0; outcomes = []; waiting = []; spare = 0 }

pub pad_made : {J O A : Type 0} (asked : J → A) (meaning : A → O) (caller p lists : ℕ) → IsKeptStage {J = J} {O = O} {A = A} asked meaning (stage.Pad (new_pad lists)) 0 (Born caller p (shape.Pad lists) ∷ [])
pad_made asked meaning caller p lists = (record { submitted = refl; waiting = refl; taken = λ n l. absurd (omega arith); untaken = λ n l. refl; outcomes = λ n d l. absurd (omega arith); passed = λ n l. absurd (omega arith); running = λ n l. refl }, refl)

pub queue_made : {J O A : Type 0} (asked : J → A) (meaning : A → O) (caller p max : ℕ) → IsKeptStage {J = J} {O = O} {A = A} asked meaning (stage.Queue (new_server max)) 0 (Born caller p (shape.Queue max) ∷ [])
queue_made asked meaning caller p max = (record { bound = refl; holding = refl; submitted = refl; served = refl; waiting = refl; telling = refl; pending = refl }, refl, refl)

pub chain_made : {J O A : Type 0} (asked : J → A) (meaning : A → O) (caller p max lists : ℕ) → IsKeptStage {J = J} {O = O} {A = A} asked meaning (stage.Chain (record { server = new_server max; pad = new_pad lists })) 0 (Born caller p (shape.Chain max lists) ∷ [])
chain_made asked meaning caller p max lists = (
  record { bound = refl; holding = refl; submitted = refl; served = refl; waiting = refl; telling = refl; pending = refl },
  record { submitted = refl; waiting = refl; taken = λ n l. absurd (omega arith); untaken = λ n l. refl; outcomes = λ n d l. absurd (omega arith); passed = λ n l. absurd (omega arith); running = λ n l. refl },
  (refl, refl),
  omega arith,
  refl,
  refl,
)
