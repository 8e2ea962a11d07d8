-- What entries of others, and work of one's own, leave of what a caller knows.
use Rattle.std.proofs.Common.{◌≡◌, ◌≢◌, ℕ, Bool, true, false, cond, ◌&&◌, List, [], ◌∷◌, ◌++◌, length, take, Option, Some, None, refl, sym, ◌∙◌, ap, subst, append-nil, append_assoc, ◌⊎◌, inl, inr}
use Rattle.std.specs.Prelude.{◌==◌}
use Rattle.std.proofs.lemmas.Bool.{eqb-true, eq-eqb, false_from_ne_true, both_ways}
use Rattle.std.proofs.Math.Seq.{take-length}
use Rattle.std.specs.List.{list_all}
use Rattle.turn_lock.specs.Turns.{of}
use Rattle.board.specs.declared.entry.Shape.{Shape}
use Rattle.board.specs.declared.entry.BoardEntry.{BoardEntry}
use Rattle.board.specs.declared.entry.BoardEntry.TheVariants.{Born, Submit, Take, Finish, Enq, Deq, Done, Hold, Go, Collect, Close, Share, Mask, Shut}
use Rattle.board.specs.Entries.{is_of, entries_of, birth_in, birth, submissions, accepted_in, front, told, held_in, is_held, masked_in, mask, is_close, is_share, is_shared, collected_in, collected, caller_of, maker_is, IsMaker}
use Rattle.board.specs.Allowance.{accepted_from, accepted_by}
use Rattle.board.specs.Legal.{IsRight, IsRightFor, AreRightAfter, LegalBoard, MaySubmit, MayManage, MayFinish, IsOpenAs, is_shut_entry, is_shut}
use Rattle.board.specs.Order.{handed_out, completed}
use Rattle.board.specs.HandedOut.{is_collect}
use Rattle.board.specs.PipelineHistory.{IsDrained, is_work}
use Rattle.board.specs.Others.{OthersCome, WorkComes, OthersAlone, StaysKnown, WorkLeavesKnown, WorkLeavesDrained, WorkLeavesOwn, OthersLeaveOpen, OthersLeaveSlips}
use Rattle.board.proofs.Transfer.{right_for, entries-more, entries-same, each_right}
use Rattle.board.proofs.Lists.{filter_map-none, length-numbers}
use Rattle.board.proofs.Keeping.{orderly}
use Rattle.board.proofs.KeptUsed.{nothing_from}
use Rattle.board.proofs.Kept.{collected-same, held-same, shared-same, shut-same}
use Rattle.board.proofs.Staying.{last_right, stays_open, stays_managed, stays_submitting, slip_stays, mask_left}
use Rattle.board.proofs.Drained.{hands_nothing, all_handed_out}

-- ---- from one entry to any number

-- a front of a legal history is legal
pub legal_front : {A : Type 0} (before h es : List (BoardEntry A)) → AreRightAfter before (h ++ es) → AreRightAfter before h
legal_front before [] es r = tt
legal_front before (x ∷ h) es r = (r.0, legal_front (before ++ x ∷ []) h es r.1)

pub and_first : (a b : Bool) → (a && b) ≡ true → a ≡ true
and_first true b h = refl
and_first false b h = h

pub and_second : (a b : Bool) → (a && b) ≡ true → b ≡ true
and_second true b h = h
and_second false b h = cc

other_first : {A : Type 0} (e : BoardEntry A) (es : List (BoardEntry A)) (caller : ℕ) (b : Bool) → (caller_of e == caller) ≡ b → cond b (e ∷ of caller_of caller es) (of caller_of caller es) ≡ [] → (caller_of e ≢ caller) × (of caller_of caller es ≡ [])
other_first e es caller true s o = cc
other_first e es caller false s o = ((λ i. both_ways (caller_of e == caller) s (eq-eqb (caller_of e) caller i)), o)

work_first : {A : Type 0} (e : BoardEntry A) (es : List (BoardEntry A)) (caller : ℕ) (b : Bool) → (caller_of e == caller) ≡ b → list_all is_work (cond b (e ∷ of caller_of caller es) (of caller_of caller es)) ≡ true
    → ((caller_of e ≢ caller) ⊎ (is_work e ≡ true)) × (list_all is_work (of caller_of caller es) ≡ true)
work_first e es caller true s o = (inr (and_first (is_work e) _ o), and_second (is_work e) _ o)
work_first e es caller false s o = (inl (λ i. both_ways (caller_of e == caller) s (eq-eqb (caller_of e) caller i)), o)

pub others_alone : {A : Type 0} (h es : List (BoardEntry A)) (caller : ℕ) → OthersAlone h es caller
others_alone h es caller o = (o.0, ap (list_all is_work) o.1)

module _ {A : Type 0} (P : List (BoardEntry A) → Type 0) (caller : ℕ) where
  -- what no such entry changes, no number of them changes
  pub others_keep : ((h : List (BoardEntry A)) (e : BoardEntry A) → LegalBoard (h ++ e ∷ []) → caller_of e ≢ caller → P h → P (h ++ e ∷ []))
      → (es h : List (BoardEntry A)) → OthersCome h es caller → P h → P (h ++ es)
  others_keep step [] h o p = subst P (sym (append-nil h)) p
  others_keep step (e ∷ es) h o p =
      let join : (h ++ e ∷ []) ++ es ≡ h ++ e ∷ es = append_assoc h (e ∷ []) es in
      let legal : LegalBoard ((h ++ e ∷ []) ++ es) = subst (λ xs. LegalBoard xs) (sym join) o.0 in
      let n = other_first e es caller (caller_of e == caller) refl o.1 in
      subst P join (others_keep step es (h ++ e ∷ []) (legal, n.1) (step h e (legal_front [] (h ++ e ∷ []) es legal) n.0 p))

  pub work_keep : ((h : List (BoardEntry A)) (e : BoardEntry A) → LegalBoard (h ++ e ∷ []) → (caller_of e ≢ caller) ⊎ (is_work e ≡ true) → P h → P (h ++ e ∷ []))
      → (es h : List (BoardEntry A)) → WorkComes h es caller → P h → P (h ++ es)
  work_keep step [] h o p = subst P (sym (append-nil h)) p
  work_keep step (e ∷ es) h o p =
      let join : (h ++ e ∷ []) ++ es ≡ h ++ e ∷ es = append_assoc h (e ∷ []) es in
      let legal : LegalBoard ((h ++ e ∷ []) ++ es) = subst (λ xs. LegalBoard xs) (sym join) o.0 in
      let n = work_first e es caller (caller_of e == caller) refl o.1 in
      subst P join (work_keep step es (h ++ e ∷ []) (legal, n.1) (step h e (legal_front [] (h ++ e ∷ []) es legal) n.0 p))

-- ---- the entries of others on a pipeline of one's own

same_maker : (b : Option (ℕ × Shape)) (x y : ℕ) → maker_is b x → maker_is b y → x ≡ y
same_maker (Some m) x y h k = sym h ∙ k
same_maker None x y h k = absurd h

-- what another's entry is not
record Aside {A : Type 0} (es : List (BoardEntry A)) (e : BoardEntry A) : Type 0 where
  pub closes : is_close e ≡ false
  pub shares : is_share e ≡ false
  pub holds : held_in e ≡ None
  pub collects : collected_in e ≡ None
  pub hands : is_collect e ≡ false
  pub born : birth_in e ≡ None
  pub masks : masked_in e ≡ None
  pub accepts : is_shared es ≡ false → accepted_in e ≡ None

no_other : {A : Type 0} {X : Type 0} (es : List (BoardEntry A)) (by caller : ℕ) → by ≢ caller → IsMaker es by → IsMaker es caller → X
no_other es by caller ne other mine = absurd (ne (same_maker (birth es) by caller other mine))

no_maker : {A : Type 0} {X : Type 0} (es : List (BoardEntry A)) (caller : ℕ) → es ≡ [] → IsMaker es caller → X
no_maker {A} es caller empty mine = absurd (subst (λ xs. IsMaker {A = A} xs caller) empty mine)

not_alone : {A : Type 0} {X : Type 0} (es : List (BoardEntry A)) (by caller : ℕ) → by ≢ caller → IsMaker es by ⊎ (is_shared es ≡ true) → IsMaker es caller → is_shared es ≡ false → X
not_alone es by caller ne (inl other) mine alone = no_other es by caller ne other mine
not_alone es by caller ne (inr open_) mine alone = absurd (both_ways (is_shared es) alone open_)

aside : {A : Type 0} (es : List (BoardEntry A)) (e : BoardEntry A) (caller : ℕ) → IsRightFor es e → caller_of e ≢ caller → IsMaker es caller → Aside es e
aside es (Born by pipe shape) caller r ne mine = no_maker es caller r.1 mine
aside es (Submit by pipe number ask) caller r ne mine = record { closes = refl; shares = refl; holds = refl; collects = refl; hands = refl; born = refl; masks = refl; accepts = λ alone. not_alone es by caller ne r.0.1 mine alone }
aside es (Take by pipe number) caller r ne mine = record { closes = refl; shares = refl; holds = refl; collects = refl; hands = refl; born = refl; masks = refl; accepts = λ alone. refl }
aside es (Finish by pipe number) caller r ne mine = record { closes = refl; shares = refl; holds = refl; collects = refl; hands = refl; born = refl; masks = refl; accepts = λ alone. refl }
aside es (Enq by pipe ask backlog answer) caller r ne mine = record { closes = refl; shares = refl; holds = refl; collects = refl; hands = refl; born = refl; masks = refl; accepts = λ alone. not_alone es by caller ne r.0.1 mine alone }
aside es (Deq by pipe number started) caller r ne mine = record { closes = refl; shares = refl; holds = refl; collects = refl; hands = refl; born = refl; masks = refl; accepts = λ alone. refl }
aside es (Done by pipe number) caller r ne mine = record { closes = refl; shares = refl; holds = refl; collects = refl; hands = refl; born = refl; masks = refl; accepts = λ alone. refl }
aside es (Hold by pipe) caller r ne mine = no_other es by caller ne r.0.1 mine
aside es (Go by pipe) caller r ne mine = no_other es by caller ne r.0.1 mine
aside es (Collect by pipe to) caller r ne mine = no_other es by caller ne r.0.1 mine
aside es (Close by pipe) caller r ne mine = no_other es by caller ne r.0.1 mine
aside es (Share by pipe) caller r ne mine = no_other es by caller ne r.0.1 mine
aside es (Mask by pipe bits) caller r ne mine = no_other es by caller ne r.0.1 mine
aside es (Shut by) caller r ne mine = absurd r

work_aside : {A : Type 0} (es : List (BoardEntry A)) (e : BoardEntry A) → is_work e ≡ true → Aside es e
work_aside es (Born by pipe shape) w = cc
work_aside es (Submit by pipe number ask) w = cc
work_aside es (Take by pipe number) w = record { closes = refl; shares = refl; holds = refl; collects = refl; hands = refl; born = refl; masks = refl; accepts = λ alone. refl }
work_aside es (Finish by pipe number) w = record { closes = refl; shares = refl; holds = refl; collects = refl; hands = refl; born = refl; masks = refl; accepts = λ alone. refl }
work_aside es (Enq by pipe ask backlog answer) w = cc
work_aside es (Deq by pipe number started) w = record { closes = refl; shares = refl; holds = refl; collects = refl; hands = refl; born = refl; masks = refl; accepts = λ alone. refl }
work_aside es (Done by pipe number) w = record { closes = refl; shares = refl; holds = refl; collects = refl; hands = refl; born = refl; masks = refl; accepts = λ alone. refl }
work_aside es (Hold by pipe) w = cc
work_aside es (Go by pipe) w = cc
work_aside es (Collect by pipe to) w = cc
work_aside es (Close by pipe) w = cc
work_aside es (Share by pipe) w = cc
work_aside es (Mask by pipe bits) w = cc
work_aside es (Shut by) w = cc

either_aside : {A : Type 0} (es : List (BoardEntry A)) (e : BoardEntry A) (caller : ℕ) → IsRightFor es e → (caller_of e ≢ caller) ⊎ (is_work e ≡ true) → IsMaker es caller → Aside es e
either_aside es e caller r (inl ne) mine = aside es e caller r ne mine
either_aside es e caller r (inr w) mine = work_aside es e w

pub known_start : {A : Type 0} (h : List (BoardEntry A)) (p caller : ℕ) → MayManage (entries_of p h) caller → StaysKnown h h p caller
known_start h p caller m = record { managed = m; opened = λ such o. o; held = refl; shared = refl; masked = refl; collected = refl; handed = refl; accepted = λ a. refl }

known_same : {A : Type 0} (h0 h : List (BoardEntry A)) (e : BoardEntry A) (p caller : ℕ) → is_of p e ≡ false → StaysKnown h0 h p caller → StaysKnown h0 (h ++ e ∷ []) p caller
known_same h0 h e p caller s k = let same = entries-same h p e s in record {
  managed = rw same k.managed;
  opened = λ such o. rw same (k.opened such o);
  held = rw same k.held;
  shared = rw same k.shared;
  masked = rw same k.masked;
  collected = rw same k.collected;
  handed = rw same k.handed;
  accepted = λ a. rw same (k.accepted a);
}

known_more : {A : Type 0} (h0 h : List (BoardEntry A)) (e : BoardEntry A) (p caller : ℕ) → LegalBoard (h ++ e ∷ []) → (caller_of e ≢ caller) ⊎ (is_work e ≡ true) → is_of p e ≡ true → StaysKnown h0 h p caller → StaysKnown h0 (h ++ e ∷ []) p caller
known_more h0 h e p caller legal ne s k =
    let more = entries-more h p e s in
    let es = entries_of p h in
    let a = either_aside es e caller (right_for h p e s (last_right [] h e legal)) ne k.managed.1 in
    record {
      managed = stays_managed h e p caller k.managed;
      opened = λ such o. stays_open such h e p (k.opened such o) a.closes;
      held = ap (λ xs. is_held xs) more ∙ (held-same es e a.holds ∙ k.held);
      shared = ap (λ xs. is_shared xs) more ∙ (shared-same es e a.shares ∙ k.shared);
      masked = ap (λ xs. mask xs) more ∙ (mask_left es e a.born a.masks ∙ k.masked);
      collected = ap (λ xs. collected xs) more ∙ (collected-same es e a.collects ∙ k.collected);
      handed = hands_nothing h e p a.hands ∙ k.handed;
      accepted = λ alone. ap (λ xs. submissions xs) more ∙ (filter_map-none accepted_in es e (a.accepts (k.shared ∙ alone)) ∙ k.accepted alone);
    }

known_cases : {A : Type 0} (h0 h : List (BoardEntry A)) (e : BoardEntry A) (p caller : ℕ) (b : Bool) → is_of p e ≡ b → LegalBoard (h ++ e ∷ []) → (caller_of e ≢ caller) ⊎ (is_work e ≡ true) → StaysKnown h0 h p caller → StaysKnown h0 (h ++ e ∷ []) p caller
known_cases h0 h e p caller true s legal ne k = known_more h0 h e p caller legal ne s k
known_cases h0 h e p caller false s legal ne k = known_same h0 h e p caller s k

pub work_leaves_known : {A : Type 0} (h es : List (BoardEntry A)) (p caller : ℕ) → WorkLeavesKnown h es p caller
work_leaves_known h es p caller o m = work_keep (λ after. StaysKnown h after p caller) caller (λ g e legal ne k. known_cases h g e p caller (is_of p e) refl legal ne k) es h o (known_start h p caller m)

-- ---- what was accepted from the caller, and the end of the board

accepts_nothing : {A : Type 0} (e : BoardEntry A) (caller : ℕ) → (caller_of e ≢ caller) ⊎ (is_work e ≡ true) → accepted_from caller e ≡ None
accepts_nothing e caller (inl ne) = ap (λ b. cond b (accepted_in e) None) (false_from_ne_true (caller_of e == caller) (λ t. ne (eqb-true (caller_of e) caller t)))
accepts_nothing e caller (inr w) = nothing_from (caller_of e == caller) (accepted_in e) ((work_aside [] e w).accepts refl)

shuts_nothing : {A : Type 0} (h : List (BoardEntry A)) (e : BoardEntry A) → IsRight h e → caller_of e ≢ 0 → is_shut_entry e ≡ false
shuts_nothing h (Born by pipe shape) r ne = refl
shuts_nothing h (Submit by pipe number ask) r ne = refl
shuts_nothing h (Take by pipe number) r ne = refl
shuts_nothing h (Finish by pipe number) r ne = refl
shuts_nothing h (Enq by pipe ask backlog answer) r ne = refl
shuts_nothing h (Deq by pipe number started) r ne = refl
shuts_nothing h (Done by pipe number) r ne = refl
shuts_nothing h (Hold by pipe) r ne = refl
shuts_nothing h (Go by pipe) r ne = refl
shuts_nothing h (Collect by pipe to) r ne = refl
shuts_nothing h (Close by pipe) r ne = refl
shuts_nothing h (Share by pipe) r ne = refl
shuts_nothing h (Mask by pipe bits) r ne = refl
shuts_nothing h (Shut by) r ne = absurd (ne r.0)

either_shuts : {A : Type 0} (h : List (BoardEntry A)) (e : BoardEntry A) → IsRight h e → (caller_of e ≢ 0) ⊎ (is_work e ≡ true) → is_shut_entry e ≡ false
either_shuts h e r (inl ne) = shuts_nothing h e r ne
either_shuts h (Shut by) r (inr w) = cc
either_shuts h (Born by pipe shape) r (inr w) = refl
either_shuts h (Submit by pipe number ask) r (inr w) = refl
either_shuts h (Take by pipe number) r (inr w) = refl
either_shuts h (Finish by pipe number) r (inr w) = refl
either_shuts h (Enq by pipe ask backlog answer) r (inr w) = refl
either_shuts h (Deq by pipe number started) r (inr w) = refl
either_shuts h (Done by pipe number) r (inr w) = refl
either_shuts h (Hold by pipe) r (inr w) = refl
either_shuts h (Go by pipe) r (inr w) = refl
either_shuts h (Collect by pipe to) r (inr w) = refl
either_shuts h (Close by pipe) r (inr w) = refl
either_shuts h (Share by pipe) r (inr w) = refl
either_shuts h (Mask by pipe bits) r (inr w) = refl

pub work_leaves_own : {A : Type 0} (h es : List (BoardEntry A)) (caller : ℕ) → WorkLeavesOwn h es caller
work_leaves_own {A} h es caller o = (
  work_keep (λ after. accepted_by caller after ≡ accepted_by caller h) caller (λ g e legal ne k. filter_map-none (accepted_from caller) g e (accepts_nothing e caller ne) ∙ k) es h o refl,
  λ zero_is. work_keep (λ after. is_shut after ≡ is_shut h) caller (λ g e legal ne k. shut-same g e (either_shuts g e (last_right [] g e legal) (subst (λ c. (caller_of e ≢ c) ⊎ (is_work e ≡ true)) zero_is ne)) ∙ k) es h o refl,
)

pub others_leave_slips : {A O : Type 0} (meaning : A → O) (h es : List (BoardEntry A)) (p caller n : ℕ) (out : O) → OthersLeaveSlips meaning h es p caller n out
others_leave_slips meaning h es p caller n out o m = others_keep (λ after. MayFinish meaning (entries_of p after) caller n out) caller (λ g e legal ne k. slip_stays meaning g e p caller n out legal ne k) es h o m

-- ---- who may submit

closes_not : {A : Type 0} (es : List (BoardEntry A)) (e : BoardEntry A) (caller : ℕ) → IsRightFor es e → caller_of e ≢ caller → IsMaker es caller ⊎ (is_shared es ≡ true) → is_close e ≡ false
closes_not es (Born by pipe shape) caller r ne m = refl
closes_not es (Submit by pipe number ask) caller r ne m = refl
closes_not es (Take by pipe number) caller r ne m = refl
closes_not es (Finish by pipe number) caller r ne m = refl
closes_not es (Enq by pipe ask backlog answer) caller r ne m = refl
closes_not es (Deq by pipe number started) caller r ne m = refl
closes_not es (Done by pipe number) caller r ne m = refl
closes_not es (Hold by pipe) caller r ne m = refl
closes_not es (Go by pipe) caller r ne m = refl
closes_not es (Collect by pipe to) caller r ne m = refl
closes_not es (Close by pipe) caller r ne (inl mine) = no_other es by caller ne r.0.1 mine
closes_not es (Close by pipe) caller r ne (inr open_) = absurd (both_ways (is_shared es) r.2 open_)
closes_not es (Share by pipe) caller r ne m = refl
closes_not es (Mask by pipe bits) caller r ne m = refl
closes_not es (Shut by) caller r ne m = refl

module _ {A : Type 0} (h0 : List (BoardEntry A)) (p caller : ℕ) where
  abbrev StaysOpenTo : List (BoardEntry A) → Type 0
  StaysOpenTo h = MaySubmit (entries_of p h) caller × ((such : Shape → Bool) → IsOpenAs such (entries_of p h0) → IsOpenAs such (entries_of p h))

  open_cases : (h : List (BoardEntry A)) (e : BoardEntry A) (b : Bool) → is_of p e ≡ b → LegalBoard (h ++ e ∷ []) → caller_of e ≢ caller → StaysOpenTo h → StaysOpenTo (h ++ e ∷ [])
  open_cases h e true s legal ne k =
      let c = closes_not (entries_of p h) e caller (right_for h p e s (last_right [] h e legal)) ne k.0.1 in
      (stays_submitting h e p caller k.0, λ such o. stays_open such h e p (k.1 such o) c)
  open_cases h e false s legal ne k = rw (entries-same h p e s) k

pub others_leave_open : {A : Type 0} (h es : List (BoardEntry A)) (p caller : ℕ) → OthersLeaveOpen h es p caller
others_leave_open h es p caller o m = others_keep (StaysOpenTo h p caller) caller (λ g e legal ne k. open_cases h p caller g e (is_of p e) refl legal ne k) es h o (m, λ such i. i)

-- ---- a drained pipeline

pub drained_hands : {A : Type 0} (h : List (BoardEntry A)) (p : ℕ) → LegalBoard h → IsDrained (entries_of p h) → length (completed (handed_out (entries_of p h))) ≡ length (submissions (entries_of p h))
drained_hands h p legal d =
    let es = entries_of p h in
    let o = (orderly es (each_right [] h p legal)).telling in
    let whole : handed_out es ≡ told es = o.front_of ∙ (ap (λ n. take n (told es)) d.1 ∙ take-length (told es)) in
    ap (λ ns. length (completed ns)) whole ∙ (ap length o.said ∙ (length-numbers (front es) ∙ d.0))

pub work_leaves_drained : {A : Type 0} (h es : List (BoardEntry A)) (p caller : ℕ) → WorkLeavesDrained h es p caller
work_leaves_drained h es p caller o m alone d =
    let k = work_leaves_known h es p caller o m in
    let all = drained_hands h p (legal_front [] h es o.0) d in
    all_handed_out (h ++ es) p o.0 (ap (λ ns. length (completed ns)) k.handed ∙ (all ∙ sym (ap length (k.accepted alone))))
