-- What a request that is passed on does to the board.
use Rattle.std.proofs.Common.{◌≡◌, ℕ, ◌+◌, ◌-◌, ◌<◌, ◌≤◌, Bool, true, false, List, [], ◌∷◌, ◌++◌, length, take, drop, Option, Some, None, is_some, refl, sym, ◌∙◌, ap, subst, arith, inl, inr, ◌⊎◌, length-append}
use Rattle.std.proofs.lemmas.Bool.{cases_lt, eq-eqb}
use Rattle.board.specs.declared.entry.Shape.{Shape}
use Rattle.board.specs.declared.entry.Shape.TheVariants as shape
use Rattle.board.specs.declared.entry.BoardEntry.{BoardEntry}
use Rattle.board.specs.declared.entry.BoardEntry.TheVariants.{Deq}
use Rattle.board.specs.declared.pipeline.Pipeline.{Pipeline}
use Rattle.board.specs.declared.stage.Chained.{Chained}
use Rattle.board.specs.declared.stage.Stage.{Stage}
use Rattle.board.specs.declared.stage.Stage.TheVariants as stage
use Rattle.board.specs.Shapes.{is_born, is_chain, queue_born, has_queue_born, width_born}
use Rattle.board.specs.Stages.{MayPass, PassesNone, IsPlaced, IsLinked, IsApart, after_passed, next_in_queue, starts_at, accepted_of}
use Rattle.board.specs.Entries.{entries_of, birth, submissions, dequeued, waiting, is_held, is_closed, starts, pass_entry, NonePasses}
use Rattle.board.specs.Legal.{IsRightFor, Is}
use Rattle.board.specs.Places.{Places, places}
use Rattle.board.specs.Kept.{shape_of, IsKeptStage, IsKeptPipe, IsKeptBoard, work_owed, owed_by}
use Rattle.board.specs.RunQueue.{HasRequest, NoneIs}
use Rattle.board.proofs.KeptRequests.{few_submissions}
use Rattle.board.proofs.Kept.{Pipes, IsSet, place_step}
use Rattle.board.proofs.Transfer.{each_right}
use Rattle.board.proofs.Closed.{ended_server}
use Rattle.board.proofs.KeptMarks.{stage_more}
use Rattle.board.proofs.KeptPassing.{server_passed, pad_passed}
use Rattle.board.proofs.KeptEntering.{starts_is}
use Rattle.board.proofs.KeptLists.{passed_lists}

-- the entry by which a chain's first request goes on
abbrev pub passed_entry : {J O A : Type 0} → Stage J O → ℕ → ℕ → BoardEntry A
passed_entry s caller p = Deq caller p (next_in_queue s) (starts_at s)

-- passing a request on: what is kept, that it is right, and what it leaves owed
record IsPassedOf {J O A : Type 0} (asked : J → A) (meaning : A → O) (s : Stage J O) (es : List (BoardEntry A)) (place caller p : ℕ) : Type 0 where
  kept : IsKeptStage asked meaning (after_passed s) place (es ++ passed_entry s caller p ∷ [])
  right : IsRightFor es (passed_entry s caller p)
  pays : work_owed (after_passed s) + 1 ≡ work_owed s
  chain : Is is_chain es
  named : passed_entry {A = A} s caller p ≡ Deq caller p (dequeued es) (starts es (dequeued es))

chain_passed : {J O A : Type 0} (asked : J → A) (meaning : A → O) (c : Chained J O) (es : List (BoardEntry A)) (place caller p maker lists : ℕ) (xs : List J) → c.server.queue.waiting ≡ xs → IsKeptStage asked meaning (stage.Chain c) place es → birth es ≡ Some (maker, shape_of (stage.Chain c) lists) → is_closed es ≡ false → MayPass (stage.Chain c) → IsPassedOf asked meaning (stage.Chain c) es place caller p
chain_passed asked meaning c es place caller p maker lists [] w k b open_ m = absurd (let l = ap length w in let z = m.2 in omega arith)
chain_passed {J} {O} {A} asked meaning c es place caller p maker lists (job ∷ rest) w k b open_ m =
    let some = ap is_some b in
    let q = ap queue_born b in
    let lb = ap has_queue_born b in
    let lw = ap length w in
    let sv = k.0.served in
    let sub = k.0.submitted in
    let j = k.2 in
    let placed = k.3 in
    let first : take 1 c.server.queue.waiting ≡ job ∷ [] = ap (take 1) w in
    let left : drop 1 c.server.queue.waiting ≡ rest = ap (drop 1) w in
    let la = length-append c.pad.waiting (job ∷ []) in
    let st = starts_is asked meaning c.server es place k.0 in
    record {
      kept = rw (first, left) (
        server_passed asked meaning c.server es place p caller job rest k.0 some w,
        pad_passed asked meaning c.server c.pad es place p caller (c.pad.spare - 1) job rest k.0 k.1 some lb q w,
        ((let z = j.0 in omega arith), (let z = j.1 in omega arith)),
        omega arith,
        k.4,
        k.5,
      );
      right = ((lb, open_), k.0.holding ∙ m.0, (λ h. cc), omega arith, sym sv, st);
      pays = rw (first, left) (omega arith);
      chain = ap (is_born is_chain) b;
      named = ap (λ o. Deq caller p c.server.queue.served o) st ∙ ap (λ n. Deq caller p n (starts es n)) (sym sv);
    }

stage_passed : {J O A : Type 0} (asked : J → A) (meaning : A → O) (s : Stage J O) (es : List (BoardEntry A)) (place caller p maker lists : ℕ) → IsKeptStage asked meaning s place es → birth es ≡ Some (maker, shape_of s lists) → is_closed es ≡ false → MayPass s → IsPassedOf asked meaning s es place caller p
stage_passed asked meaning (stage.Pad pad) es place caller p maker lists k b o m = absurd m
stage_passed asked meaning (stage.Queue server) es place caller p maker lists k b o m = absurd m
stage_passed asked meaning (stage.Chain c) es place caller p maker lists k b o m = chain_passed asked meaning c es place caller p maker lists c.server.queue.waiting refl k b o m

passed_shape : {J O : Type 0} (s : Stage J O) (lists : ℕ) → shape_of (after_passed s) lists ≡ shape_of s lists
passed_shape (stage.Pad pad) lists = refl
passed_shape (stage.Queue server) lists = refl
passed_shape (stage.Chain c) lists = refl

-- a chain's places are kept, and its parts are linked
stage_linked : {J O A : Type 0} (asked : J → A) (meaning : A → O) (s : Stage J O) (es : List (BoardEntry A)) (place : ℕ) → IsKeptStage asked meaning s place es → IsPlaced s × IsLinked s
stage_linked asked meaning (stage.Pad pad) es place k = (tt, tt)
stage_linked asked meaning (stage.Queue server) es place k = (tt, tt)
stage_linked asked meaning (stage.Chain c) es place k = (k.3, k.2)

pub linked_here : {J O A : Type 0} (asked : J → A) (meaning : A → O) (pipes : Pipes J O) (born : ℕ) (log : List (BoardEntry A)) (p : ℕ) (pipe : Pipeline J O) → IsKeptBoard asked meaning (places pipes) born log → places pipes p ≡ Some pipe → IsPlaced pipe.stage × IsLinked pipe.stage
linked_here asked meaning pipes born log p pipe k here = stage_linked asked meaning pipe.stage (entries_of p log) pipe.collected (k.each p pipe here).stage

-- and a queue's requests are served, a chain's passed on
stage_apart : {J O A : Type 0} (asked : J → A) (meaning : A → O) (s : Stage J O) (es : List (BoardEntry A)) (place : ℕ) → IsKeptStage asked meaning s place es → IsApart s
stage_apart asked meaning (stage.Pad pad) es place k = tt
stage_apart asked meaning (stage.Queue server) es place k = k.2
stage_apart asked meaning (stage.Chain c) es place k = k.5

pub apart_here : {J O A : Type 0} (asked : J → A) (meaning : A → O) (pipes : Pipes J O) (born : ℕ) (log : List (BoardEntry A)) (p : ℕ) (pipe : Pipeline J O) → IsKeptBoard asked meaning (places pipes) born log → places pipes p ≡ Some pipe → IsApart pipe.stage
apart_here asked meaning pipes born log p pipe k here = stage_apart asked meaning pipe.stage (entries_of p log) pipe.collected (k.each p pipe here).stage

pub pass_step : {J O A : Type 0} (asked : J → A) (meaning : A → O) (pipes : Pipes J O) (born : ℕ) (log : List (BoardEntry A)) (p caller : ℕ) (pipe : Pipeline J O) (after : Stage J O) (next : Pipes J O) → IsKeptBoard asked meaning (places pipes) born log → IsSet pipes next p pipe (record pipe { stage = after }) → HasRequest pipe → after ≡ after_passed pipe.stage
    → IsKeptBoard asked meaning (places next) born (log ++ passed_entry pipe.stage caller p ∷ [])
    × (owed_by next + 1 ≡ owed_by pipes)
    × Is is_chain (entries_of p log) × (passed_entry pipe.stage caller p ≡ pass_entry log caller p)
pass_step {J} {O} {A} asked meaning pipes born log p caller pipe after next k set m e =
    let es = entries_of p log in
    let en : BoardEntry A = passed_entry pipe.stage caller p in
    let kp = k.each p pipe set.here in
    let open_ : is_closed es ≡ false = kp.closing in
    let d = stage_passed asked meaning pipe.stage es pipe.collected caller p pipe.maker (width_born (birth es)) kp.stage kp.born open_ m in
    let moved = stage_more asked meaning pipe (after_passed pipe.stage) es en kp (passed_shape pipe.stage) (passed_lists pipe.stage) refl refl refl refl refl d.kept in
    let kept : IsKeptPipe asked meaning (record pipe { stage = after }) (es ++ en ∷ []) = subst (λ s. IsKeptPipe asked meaning (record pipe { stage = s }) (es ++ en ∷ [])) (sym e) moved in
    let s = place_step asked meaning pipes next born log p pipe (record pipe { stage = after }) en k set (eq-eqb p p refl) refl (tt, d.right) kept in
    let pays : work_owed after + 1 ≡ work_owed pipe.stage = subst (λ x. work_owed x + 1 ≡ work_owed pipe.stage) (sym e) d.pays in
    (s.0, omega (arith, s.1, pays), d.chain, d.named)

-- a chain accepted no more requests than there are entries
stage_few : {J O A : Type 0} (asked : J → A) (meaning : A → O) (s : Stage J O) (es : List (BoardEntry A)) (place : ℕ) → IsKeptStage asked meaning s place es → MayPass s → accepted_of s ≡ length (submissions es)
stage_few asked meaning (stage.Pad pad) es place k m = absurd m
stage_few asked meaning (stage.Queue server) es place k m = absurd m
stage_few asked meaning (stage.Chain c) es place k m = sym k.0.submitted

pub few_here : {J O A : Type 0} (asked : J → A) (meaning : A → O) (pipes : Pipes J O) (born : ℕ) (log : List (BoardEntry A)) (p : ℕ) (pipe : Pipeline J O) → IsKeptBoard asked meaning (places pipes) born log → places pipes p ≡ Some pipe → HasRequest pipe → accepted_of pipe.stage ≤ length log
few_here asked meaning pipes born log p pipe k here m =
    let a = stage_few asked meaning pipe.stage (entries_of p log) pipe.collected (k.each p pipe here).stage m in
    let f = few_submissions p log in
    omega arith

-- ---- where no request may be passed on

none_in : {X : Type 0} (xs : List X) → (0 < length xs → ⊥) → length xs ≡ 0
none_in [] h = refl
none_in (x ∷ xs) h = absurd (h (omega arith))

quiet_chain : {J O A : Type 0} (asked : J → A) (meaning : A → O) (c : Chained J O) (es : List (BoardEntry A)) (place : ℕ) (held : Bool) → held ≡ c.server.held → IsKeptStage asked meaning (stage.Chain c) place es → ((held ≡ false) × (c.server.busy ≡ false) × (0 < length c.server.queue.waiting) → ⊥) → (is_held es ≡ true) ⊎ (waiting es ≡ 0)
quiet_chain asked meaning c es place true eh k z = inl (k.0.holding ∙ sym eh)
quiet_chain asked meaning c es place false eh k z =
    let w = none_in c.server.queue.waiting (λ l. z (refl, k.5, l)) in
    inr (let s = k.0.submitted in let d = k.0.served in omega arith)

quiet_server : {J O A : Type 0} (asked : J → A) (meaning : A → O) (s : Stage J O) (es : List (BoardEntry A)) (place maker lists : ℕ) → IsKeptStage asked meaning s place es → birth es ≡ Some (maker, shape_of s lists) → (MayPass s → ⊥) → is_born is_chain (birth es) ≡ true → (is_held es ≡ true) ⊎ (waiting es ≡ 0)
quiet_server asked meaning (stage.Pad pad) es place maker lists k b z h = (let g = ap (is_born is_chain) b in cc)
quiet_server asked meaning (stage.Queue server) es place maker lists k b z h = (let g = ap (is_born is_chain) b in cc)
quiet_server asked meaning (stage.Chain c) es place maker lists k b z h = quiet_chain asked meaning c es place c.server.held refl k z

chain_server : (b : Option (ℕ × Shape)) → is_born is_chain b ≡ true → has_queue_born b ≡ true
chain_server None h = cc
chain_server (Some (maker, shape.Pad lists)) h = cc
chain_server (Some (maker, shape.Queue max)) h = cc
chain_server (Some (maker, shape.Chain max lists)) h = refl

at_cases : {J O A : Type 0} (asked : J → A) (meaning : A → O) (pipes : Places (Pipeline J O)) (born : ℕ) (log : List (BoardEntry A)) → IsKeptBoard asked meaning pipes born log → NoneIs HasRequest pipes → (p : ℕ) → (p < born) ⊎ (born ≤ p) → (o : Option (Pipeline J O)) → pipes p ≡ o
    → is_born is_chain (birth (entries_of p log)) ≡ true → (is_held (entries_of p log) ≡ true) ⊎ (waiting (entries_of p log) ≡ 0)
at_cases asked meaning pipes born log k z p (inl below) None at h = inr (ended_server (entries_of p log) (each_right [] log p k.legal) (k.others p below at) (chain_server (birth (entries_of p log)) h))
at_cases asked meaning pipes born log k z p (inl below) (Some pipe) at h =
    let kp = k.each p pipe at in
    quiet_server asked meaning pipe.stage (entries_of p log) pipe.collected pipe.maker (width_born (birth (entries_of p log))) kp.stage kp.born (z p pipe at) h
at_cases asked meaning pipes born log k z p (inr above) o at h = (let g = ap (λ es. is_born is_chain (birth es)) (k.beyond p above) in cc)

pub pass_none : {J O A : Type 0} (asked : J → A) (meaning : A → O) (pipes : Places (Pipeline J O)) (born : ℕ) (log : List (BoardEntry A)) → IsKeptBoard asked meaning pipes born log → NoneIs HasRequest pipes → NonePasses log
pass_none asked meaning pipes born log k z p h = at_cases asked meaning pipes born log k z p (cases_lt p born) (pipes p) refl h

-- a stage that may pass a request on isn't quiet
pub not_none : {J O : Type 0} (s : Stage J O) → MayPass s → PassesNone s → ⊥
not_none (stage.Pad pad) m z = m
not_none (stage.Queue server) m z = m
not_none (stage.Chain c) m (inl held) = (let h = m.0 in cc)
not_none (stage.Chain c) m (inr (inl busy)) = (let h = m.1 in cc)
not_none (stage.Chain c) m (inr (inr none)) = (let w = ap length none in let l = m.2 in omega arith)

-- the entry that the call makes
pub entry_made : {J O : Type 0} (A : Type 0) (s : Stage J O) (caller p number : ℕ) (started : Option ℕ) → number ≡ next_in_queue s → started ≡ starts_at s → Deq caller p number started ≡ passed_entry {A = A} s caller p
entry_made A s caller p number started a b = rw (a, b) refl
