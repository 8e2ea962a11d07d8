-- A request that is passed on leaves a chain as its entries say.
use Rattle.std.proofs.Common.{◌≡◌, ℕ, zero, suc, ◌+◌, ◌≤◌, true, false, cond, List, [], ◌∷◌, ◌++◌, length, map, take, drop, Option, Some, None, is_some, refl, sym, ◌∙◌, ap, arith, length-append}
use Rattle.std.specs.Prelude.{slice_get}
use Rattle.std.specs.List.{filter_map}
use Rattle.std.proofs.lemmas.List.{drop-append-le, map-append}
use Rattle.std.proofs.lemmas.List.Elements.{filter_map-append}
use Rattle.padata_core.specs.Pad.{Pad, taken_of}
use Rattle.request_queue.specs.BoundedQueue.{number_at_bound}
use Rattle.cryptd.specs.Server.{Server, started_callback}
use Rattle.board.specs.declared.entry.BoardEntry.{BoardEntry}
use Rattle.board.specs.declared.entry.BoardEntry.TheVariants.{Deq}
use Rattle.board.specs.Stages.{passed}
use Rattle.board.specs.Shapes.{max_born, has_queue_born, queue_born}
use Rattle.board.specs.Entries.{birth, accepted_in, submissions, dequeued_in, dequeues, dequeued, passed_on, taken_in, takers, finished_in, finished, tells, told, held_in, is_held, last_or, callback_of}
use Rattle.board.specs.Kept.{IsKeptServer, IsKeptPad}
use Rattle.board.proofs.Lists.{filter_map-none, filter_map-some}
use Rattle.board.proofs.Keeping.{birth_stays, told-more}

pub drop_head : {X : Type 0} (xs : List X) (n : ℕ) (x : X) (ys : List X) → drop n xs ≡ x ∷ ys → (slice_get xs n ≡ Some x) × (drop (suc n) xs ≡ ys)
drop_head [] zero x ys h = cc
drop_head [] (suc n) x ys h = cc
drop_head (y ∷ xs) zero x ys h = ((let e : y ≡ x = cc in ap Some e), (let e : xs ≡ ys = cc in e))
drop_head (y ∷ xs) (suc n) x ys h = drop_head xs n x ys h

take_next : {X : Type 0} (xs : List X) (n : ℕ) (x : X) → slice_get xs n ≡ Some x → take (suc n) xs ≡ take n xs ++ x ∷ []
take_next [] n x h = cc
take_next (y ∷ xs) zero x h = (let e : y ≡ x = cc in ap (λ z. z ∷ []) e)
take_next (y ∷ xs) (suc n) x h = ap (λ zs. y ∷ zs) (take_next xs n x h)

take_short : {X : Type 0} (xs : List X) (n : ℕ) → n ≤ length xs → length (take n xs) ≡ n
take_short xs zero l = refl
take_short [] (suc n) l = absurd (omega arith)
take_short (x ∷ xs) (suc n) l = ap suc (take_short xs n (omega arith))

starts_told : {A O : Type 0} (meaning : A → O) (asks : List A) (es : List (BoardEntry A)) (caller p n : ℕ) (o : Option ℕ) → filter_map (callback_of meaning asks) (tells es (Deq caller p n o)) ≡ started_callback o
starts_told meaning asks es caller p n None = refl
starts_told meaning asks es caller p n (Some s) = refl

starts_many : {A : Type 0} (O : Type 0) (es : List (BoardEntry A)) (caller p n : ℕ) (o : Option ℕ) → length (tells es (Deq caller p n o)) ≡ length (started_callback {F = O} o)
starts_many O es caller p n None = refl
starts_many O es caller p n (Some s) = refl

-- the queue of a chain, or of a queue but for what runs
pub server_passed : {J O A : Type 0} (asked : J → A) (meaning : A → O) (server : Server J O) (es : List (BoardEntry A)) (place p caller : ℕ) (job : J) (rest : List J) → IsKeptServer asked meaning server place es → is_some (birth es) ≡ true → server.queue.waiting ≡ job ∷ rest
    → IsKeptServer asked meaning (passed server rest) place (es ++ Deq caller p server.queue.served (number_at_bound server.queue) ∷ [])
server_passed {J} {O} {A} asked meaning server es place p caller job rest k b w =
    let o : Option ℕ = number_at_bound server.queue in
    let e : BoardEntry A = Deq caller p server.queue.served o in
    let be = birth_stays es e b in
    let subs : submissions (es ++ e ∷ []) ≡ submissions es = filter_map-none accepted_in es e refl in
    let deqs : dequeues (es ++ e ∷ []) ≡ dequeues es ++ (server.queue.served, caller) ∷ [] = filter_map-some dequeued_in es e (server.queue.served, caller) refl in
    let dl : length (dequeues es ++ (server.queue.served, caller) ∷ []) ≡ dequeued es + 1 = length-append (dequeues es) ((server.queue.served, caller) ∷ []) in
    let held : is_held (es ++ e ∷ []) ≡ is_held es = ap (last_or false) (filter_map-none held_in es e refl) in
    let more = told-more es e in
    let head = drop_head (submissions es) server.queue.served (asked job) (map asked rest) (sym k.waiting ∙ ap (map asked) w) in
    let within : place ≤ length (told es) = (let q = k.telling in omega arith) in
    let q1 : server.queue.served + 1 ≡ suc server.queue.served = omega arith in
    record {
      bound = ap max_born be ∙ k.bound;
      holding = held ∙ k.holding;
      submitted = (let s = k.submitted in let l = ap length w in let z = ap length subs in omega arith);
      served = (let s = k.served in let z = ap length deqs in omega arith);
      waiting = rw (subs, q1) (sym head.1);
      telling =
          (let q = k.telling in
          let a = length-append (told es) (tells es e) in
          let d = length-append server.pending (started_callback {F = O} o) in
          let z = starts_many O es caller p server.queue.served o in
          let m = ap length more in
          omega arith);
      pending =
          ap (λ ns. ns ++ started_callback o) k.pending
          ∙ (ap (λ ns. filter_map (callback_of meaning (submissions es)) (drop place (told es)) ++ ns) (sym (starts_told meaning (submissions es) es caller p server.queue.served o))
          ∙ (sym (filter_map-append (callback_of meaning (submissions es)) (drop place (told es)) (tells es e))
          ∙ (ap (filter_map (callback_of meaning (submissions es))) (sym (drop-append-le place (told es) (tells es e) within))
          ∙ (ap (λ ns. filter_map (callback_of meaning (submissions es)) (drop place ns)) (sym more)
          ∙ ap (λ asks. filter_map (callback_of meaning asks) (drop place (told (es ++ e ∷ [])))) (sym subs)))));
    }

pass_takers : {A : Type 0} (es : List (BoardEntry A)) (caller p n m : ℕ) (o : Option ℕ) → is_some (birth es) ≡ true → queue_born (birth es) ≡ false → takers m (es ++ Deq caller p n o ∷ []) ≡ takers m es
pass_takers {A} es caller p n m o b q =
    let e : BoardEntry A = Deq caller p n o in
    let be = birth_stays es e b in
    let te : filter_map taken_in (es ++ e ∷ []) ≡ filter_map taken_in es = filter_map-none taken_in es e refl in
    rw (be, q, te) refl

-- the pad within, where the request comes last
pub pad_passed : {J O A : Type 0} (asked : J → A) (meaning : A → O) (server : Server J O) (pad : Pad J O) (es : List (BoardEntry A)) (place p caller spare : ℕ) (job : J) (rest : List J) → IsKeptServer asked meaning server place es → IsKeptPad asked meaning pad es → is_some (birth es) ≡ true → has_queue_born (birth es) ≡ true → queue_born (birth es) ≡ false → server.queue.waiting ≡ job ∷ rest
    → IsKeptPad asked meaning (record pad { waiting = pad.waiting ++ job ∷ []; spare = spare }) (es ++ Deq caller p server.queue.served (number_at_bound server.queue) ∷ [])
pad_passed {J} {O} {A} asked meaning server pad es place p caller spare job rest k kp b lb q w =
    let o : Option ℕ = number_at_bound server.queue in
    let e : BoardEntry A = Deq caller p server.queue.served o in
    let be = birth_stays es e b in
    let subs : submissions (es ++ e ∷ []) ≡ submissions es = filter_map-none accepted_in es e refl in
    let fins : finished (es ++ e ∷ []) ≡ finished es = filter_map-none finished_in es e refl in
    let deqs : dequeues (es ++ e ∷ []) ≡ dequeues es ++ (server.queue.served, caller) ∷ [] = filter_map-some dequeued_in es e (server.queue.served, caller) refl in
    let dl : length (dequeues es ++ (server.queue.served, caller) ∷ []) ≡ dequeued es + 1 = length-append (dequeues es) ((server.queue.served, caller) ∷ []) in
    let now : passed_on es ≡ dequeued es = ap (λ c. cond c (dequeued es) (length (submissions es))) lb in
    let then : passed_on (es ++ e ∷ []) ≡ dequeued (es ++ e ∷ []) = ap (λ c. cond c (dequeued (es ++ e ∷ [])) (length (submissions (es ++ e ∷ [])))) (ap has_queue_born be ∙ lb) in
    let dz = ap length deqs in
    let sv = k.served in
    let up : passed_on (es ++ e ∷ []) ≡ suc (passed_on es) = omega arith in
    let at : passed_on es ≡ server.queue.served = omega arith in
    let head = drop_head (submissions es) server.queue.served (asked job) (map asked rest) (sym k.waiting ∙ ap (map asked) w) in
    let here : slice_get (submissions es) (passed_on es) ≡ Some (asked job) = ap (slice_get (submissions es)) at ∙ head.0 in
    let len = length-append pad.waiting (job ∷ []) in
    let sub = kp.submitted in
    let ss = k.submitted in
    let sw = ap length w in
    let fit = take_short (submissions es) (passed_on es) (omega arith) in
    let tk = λ (m : ℕ). pass_takers es caller p server.queue.served m o b q in
    record {
      submitted = up ∙ (let z : suc (passed_on es) ≡ taken_of pad + length (pad.waiting ++ job ∷ []) = omega arith in z);
      waiting =
          map-append asked pad.waiting (job ∷ [])
          ∙ (ap (λ xs. xs ++ asked job ∷ []) kp.waiting
          ∙ (sym (drop-append-le (taken_of pad) (take (passed_on es) (submissions es)) (asked job ∷ []) (omega arith))
          ∙ (ap (drop (taken_of pad)) (sym (take_next (submissions es) (passed_on es) (asked job) here))
          ∙ (ap (λ m. drop (taken_of pad) (take m (submissions es))) (sym up)
          ∙ ap (λ asks. drop (taken_of pad) (take (passed_on (es ++ e ∷ [])) asks)) (sym subs)))));
      taken = λ m l. rw (tk m) (kp.taken m l);
      untaken = λ m l. tk m ∙ kp.untaken m l;
      outcomes = λ m d l. rw (subs, fins) (kp.outcomes m d l);
      passed = λ m l. rw fins (kp.passed m l);
      running = λ m l. rw fins (kp.running m l);
    }
