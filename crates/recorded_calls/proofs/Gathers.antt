-- What a caller shares, once the others have ended and workers alone are left.
use Rattle.std.proofs.Common.{◌≡◌, ℕ, ◌+◌, Bool, true, false, List, [], ◌∷◌, ◌++◌, length, map, Some, None, Result, Ok, Err, refl, sym, ap, subst, ◌∙◌, append-nil, append_assoc}
use Rattle.std.specs.Prelude.{◌==◌, ◌<◌, if◌then◌else◌, IfOk, IsOk, MatchResult}
use Rattle.std.specs.Arc.{arc_value}
use Rattle.std.specs.declared.sync.Arc.{Arc}
use Rattle.std.specs.declared.alloc.Global.{Global}
use Rattle.std.specs.List.{list_all}
use Rattle.std.proofs.lemmas.Bool.{eq-eqb, eqb-true}
use Rattle.std.proofs.lemmas.List.{length-map, map-append}
use Rattle.std.proofs.lemmas.List.Elements.{filter-append}
use Rattle.kc_base.specs.declared.callback_list.Callback.{Callback}
use Rattle.board.specs.declared.board_core.BoardErr.{BoardErr}
use Rattle.board.specs.declared.board_core.BoardErr.TheVariants.{Memory}
use Rattle.board.specs.declared.entry.BoardEntry.{BoardEntry}
use Rattle.board.specs.declared.entry.BoardEntry.TheVariants as event
use Rattle.board.specs.Alone.{PeersGone}
use Rattle.board.specs.Entries.{is_of, entries_of, submissions, front, told, delivered, caller_of}
use Rattle.board.specs.HandedOut.{completions}
use Rattle.board.specs.Legal.{LegalBoard, is_shut_entry}
use Rattle.board.specs.Order.{HandsOutInOrder, completed, numbers_below}
use Rattle.board.specs.PipelineHistory.{is_work}
use Rattle.board.proofs.Lists.{length-numbers}
use Rattle.crew.specs.BoardWork.{Worked, Drained as CrewDrained}
use Rattle.transforms.specs.declared.ask.Ask.{Ask}
use Rattle.transforms.specs.declared.request.Finished.{Finished}
use Rattle.turn_lock.specs.Turns.{Known, Has, sees, adds, of}
use Rattle.turn_lock.specs.PassLaws.{AtTurn, Enters, Leaves, IsOwn}
use Rattle.turn_lock.specs.TurnLaws.{still_kept}
use Rattle.reply_text.specs.declared.origin.Origin.{Origin}
use Rattle.dialogues.specs.RegistryCalls.{if_own}
use Rattle.dialogues.specs.BoardCalls.{BoardCall, Goes, Collects, outcome, origin_of, collected_to, board_call_of}
use Rattle.dialogues.specs.ScriptState.{PipelineState}
use Rattle.recorded_calls.specs.Pipelines.{Laws, made_so, notice_by, Unchanged}
use Rattle.recorded_calls.specs.SharedCalls.{SharingLaws, IsLentIn, KnowsLent, IsGatheredIn, KnowsGathered, HaveEnded, Beside, Gathers, DrainedLent, GatheredHandsAll}
use Rattle.recorded_calls.proofs.Boarding.{Met, OwnsIn, called-more, calls-one, goes-kept, meets-kept, kept-more, apart-same, shared-more, asks-same}
use Rattle.recorded_calls.proofs.BoardCalls.{notices-are}
use Rattle.recorded_calls.proofs.Lendings.{lent-works, lent-at}

own : {C : Type 0} (n : ℕ) (call : C) → if_own n n call ≡ Some call
own {C} n call = ap (λ b. if b then Some call else None) (eq-eqb n n refl)

-- a pipeline that is gathered, while workers go on and its maker works
gathered-works : SharingLaws → (n : ℕ) (h es : List (BoardEntry Ask)) (pipe : PipelineState) → LegalBoard (h ++ es) → list_all is_work es ≡ true → list_all (λ e. is_work e) (of caller_of n es) ≡ true
    → IsGatheredIn n (entries_of pipe.number h) pipe → IsGatheredIn n (entries_of pipe.number (h ++ es)) pipe
gathered-works laws n h es pipe legal all works on =
    record { lent = lent-works laws n h es pipe legal works on.lent; lines = ap (map origin_of) (laws.accepts h es pipe.number all) ∙ on.lines }

-- a pass that has seen all of a history meets it
pub meets-again : (m : Known (BoardEntry Ask)) (h : List (BoardEntry Ask)) → Met m h → Met (sees m h) h
meets-again m h met = record {
  others = [];
  goes_on = sym (append-nil h);
  apart = refl;
  kept = met.kept;
  shows = record { seen = ([], sym (append-nil h)); made = met.shows.made; own = met.shows.made; ended = met.shows.ended; next = met.shows.next; below = met.shows.below };
}

gathered-at : SharingLaws → (k : Known (BoardEntry Ask)) (h : List (BoardEntry Ask)) (pipe : PipelineState) → PeersGone k → Met k h → KnowsGathered k pipe → IsGatheredIn k.number (entries_of pipe.number h) pipe
gathered-at laws k h pipe gone met on =
    subst (λ x. IsGatheredIn k.number (entries_of pipe.number x) pipe) (sym met.goes_on)
    (gathered-works laws k.number k.seen met.others pipe (subst LegalBoard met.goes_on met.kept) (laws.left k h gone met) (ap (list_all (λ e. is_work e)) met.apart) on)

-- at a turn beside workers alone
pub meets-beside : SharingLaws → (k : Known (BoardEntry Ask)) (h : List (BoardEntry Ask)) → PeersGone k → Met k h → Beside k (sees k h)
meets-beside laws k h gone met = record {
  kept = meets-kept laws.laws k h met;
  ended = refl;
  gone = laws.are_gone k h met gone.first (λ n low high. let was = gone.gone n low high in (was.0, was.1));
  lent = λ pipe on. lent-at laws k h pipe met on;
  gathered = λ pipe on. gathered-at laws k h pipe gone met on;
}

pub leaves-beside : SharingLaws → (k l : Known (BoardEntry Ask)) → PeersGone k → AtTurn caller_of LegalBoard k (λ h. Leaves k h l) → Beside k l
leaves-beside laws k l gone turn = subst (Beside k) (sym turn.2) (meets-beside laws k turn.0 gone turn.1)

-- at the turn after others were joined into the pass, it has seen all that they made
pub joined-gone : SharingLaws → (k l : Known (BoardEntry Ask)) → HaveEnded k → AtTurn caller_of LegalBoard k (λ h. Leaves k h l) → PeersGone l
joined-gone laws k l ended turn = subst PeersGone (sym turn.2) (laws.are_gone k turn.0 turn.1 ended.first ended.ended)

-- ---- `gather`

-- the lines of one ask more
pub lines-more : (xs : List (Arc Ask Global)) (x : Arc Ask Global) (ys : List (Arc Ask Global)) (lines : List Origin) (of : Origin) → ys ≡ xs ++ x ∷ [] → of ≡ origin_of (arc_value x) → lines ≡ map origin_of (map arc_value xs)
    → lines ++ of ∷ [] ≡ map origin_of (map arc_value ys)
lines-more xs x ys lines of more is were =
    (λ i. were i ++ is i ∷ [])
    ∙ sym (ap (λ zs. map origin_of (map arc_value zs)) more ∙ (ap (map origin_of) (map-append arc_value xs (x ∷ [])) ∙ map-append origin_of (map arc_value xs) (arc_value x ∷ [])))

-- what a pipeline has accepted was read, and its lines are kept
pub gather-knows : {V F : Type 0} (items : V → List (Arc Ask Global)) (l : Known (BoardEntry Ask)) (pipe : PipelineState) (lines : List Origin) (asks : Result V F) → KnowsLent l pipe
    → IfOk asks (λ v. map arc_value (items v) ≡ submissions (entries_of pipe.number l.seen))
    → IsOk asks × IfOk asks (λ v. lines ≡ map origin_of (map arc_value (items v))) → KnowsGathered l (record pipe { lines = lines })
gather-knows items l pipe lines (Err f) on all did = absurd (let no = did.0 in cc)
gather-knows items l pipe lines (Ok v) on all did =
    record {
      lent = record { opened = on.opened; managed = on.managed; shared = on.shared; masked = on.masked; held = on.held; queue = on.queue; delivered = on.delivered };
      lines = ap (map origin_of) (sym all) ∙ sym did.1;
    }

-- ---- an entry of the caller's on a pipeline that it shares

module _ (laws : SharingLaws) (k l : Known (BoardEntry Ask)) (h : List (BoardEntry Ask)) (e : BoardEntry Ask) (pipe pipe' : PipelineState) (call : BoardCall) where
  abbrev n : ℕ
  n = k.number

  abbrev p : ℕ
  p = pipe.number

  -- what it makes of this one, and that it is a call of a caller that owns no more after it
  pub record Does : Type 0 where
    pub here : is_of p e ≡ true
    pub mine : caller_of e ≡ 0
    pub unshuts : is_shut_entry e ≡ false
    pub called : board_call_of n h e ≡ Some call
    pub same : pipe'.number ≡ pipe.number
    pub lent : IsLentIn n (entries_of p h) pipe → IsLentIn n (entries_of p (h ++ e ∷ [])) pipe'
    pub lines : map origin_of (submissions (entries_of p h)) ≡ pipe.lines → map origin_of (submissions (entries_of p (h ++ e ∷ []))) ≡ pipe'.lines
    pub owned : OwnsIn n (entries_of p (h ++ e ∷ [])) → OwnsIn n (entries_of p h)

  owned-still : Does → (q : ℕ) (t : Bool) → (q == p) ≡ t → OwnsIn n (entries_of q (h ++ e ∷ [])) → OwnsIn n (entries_of q h)
  owned-still does q false apart owns = subst (λ es. OwnsIn n es) (apart-same laws.laws h e p q does.here apart) owns
  owned-still does q true is owns =
      let same : q ≡ p = eqb-true q p is in
      subst (λ x. OwnsIn n (entries_of x h)) (sym same) (does.owned (subst (λ x. OwnsIn n (entries_of x (h ++ e ∷ []))) same owns))

  pub entry-gathers : PeersGone k → Met k h → Enters LegalBoard k h e l → Does → Gathers k l pipe pipe' (call ∷ [])
  entry-gathers gone met enters does =
      let beside = meets-beside laws k h gone met in
      let gone_later = (laws.gone (sees k h) h e (meets-again k h met) beside.gone).1 does.mine in
      subst (λ x. Gathers k x pipe pipe' (call ∷ [])) (sym enters.0) (record {
        called = called-more k (sees k h) (adds (sees k h) e) [] (call ∷ []) beside.kept.called (record { number = refl; next = refl; seen = (e ∷ [], refl); calls_are = calls-one laws.laws n h e call does.called });
        legal = enters.1;
        ended = refl;
        gone = gone_later;
        same = does.same;
        now_lent = λ on. subst (λ x. IsLentIn n (entries_of x (h ++ e ∷ [])) pipe') (sym does.same) (does.lent (beside.lent pipe on));
        now = λ on.
            let here = beside.gathered pipe on in
            subst (λ x. IsGatheredIn n (entries_of x (h ++ e ∷ [])) pipe') (sym does.same) (record { lent = does.lent here.lent; lines = does.lines here.lines });
        lent = λ other far on. subst (λ es. IsLentIn n es other) (sym (apart-same laws.laws h e p other.number does.here far)) (beside.lent other on);
        gathered = λ other far on. subst (λ es. IsGatheredIn n es other) (sym (apart-same laws.laws h e p other.number does.here far)) (beside.gathered other on);
        owned = λ q owns. beside.kept.owned q (owned-still does q (q == p) refl owns);
        unshut = laws.laws.steps.shut h e does.unshuts ∙ beside.kept.unshut gone.first;
      })

-- a step beside workers alone, and then a call
pub gathers-later : (k m l : Known (BoardEntry Ask)) (pipe pipe' : PipelineState) (calls : List BoardCall) → PeersGone k → Beside k m → Gathers m l pipe pipe' calls → Gathers k l pipe pipe' calls
gathers-later k m l pipe pipe' calls gone first later = record {
  called = called-more k m l [] calls first.kept.called later.called;
  legal = later.legal;
  ended = later.ended ∙ first.ended;
  gone = later.gone;
  same = later.same;
  now_lent = λ on. later.now_lent (first.lent pipe on);
  now = λ on. later.now (first.gathered pipe on);
  lent = λ other far on. later.lent other far (first.lent other on);
  gathered = λ other far on. later.gathered other far (first.gathered other on);
  owned = λ q owns. first.kept.owned q (later.owned q owns);
  unshut = later.unshut ∙ first.kept.unshut gone.first;
}

-- ---- `go`

pub go-gathers : SharingLaws → (k l : Known (BoardEntry Ask)) (pipe : PipelineState) (r : Result (Unit {0}) BoardErr) → PeersGone k → KnowsLent k pipe
    → AtTurn caller_of LegalBoard k (λ h. MatchResult r (λ _. Enters LegalBoard k h (event.Go k.number pipe.number) l) (λ e. (e ≡ Memory) × Leaves k h l))
    → MatchResult r (λ _. Gathers k l pipe (record pipe { held = false }) (Goes pipe.number ∷ [])) (λ e. (e ≡ Memory) × Beside k l)
go-gathers laws k l pipe (Err e) gone on turn = (turn.2.0, leaves-beside laws k l gone (turn.0, turn.1, turn.2.1))
go-gathers laws k l pipe (Ok done) gone on turn =
    let h = turn.0 in
    let n = k.number in
    let p : ℕ = pipe.number in
    let e : BoardEntry Ask = event.Go n p in
    let l' = laws.laws in
    let here = lent-at laws k h pipe turn.1 on in
    let pipe' : PipelineState = record pipe { held = false } in
    entry-gathers laws k l h e pipe pipe' (Goes p) gone turn.1 turn.2 (record {
      here = eq-eqb p p refl;
      mine = gone.first;
      unshuts = refl;
      called = own n (Goes p);
      same = refl;
      lent = λ was. record {
        opened = l'.steps.opened (made_so pipe.bound) h e p was.opened refl;
        managed = l'.steps.managed h e p n was.managed;
        shared = shared-more l' h e p refl ∙ was.shared;
        masked = λ pad. ap (λ m. m == 0) (l'.steps.masked h e p refl refl) ∙ was.masked pad;
        held = (l'.steps.switched h n p).1;
        queue = λ held. absurd cc;
        delivered = ap (λ ns. length (completed ns)) (l'.steps.nothing h e p refl) ∙ was.delivered;
      };
      lines = λ was. ap (map origin_of) (asks-same l' h e p refl) ∙ was;
      owned = λ owns. (here.managed, here.opened.1);
    })

-- ---- `drain`

-- it hands out what was told
lent-collected : Laws → (n : ℕ) (h : List (BoardEntry Ask)) (pipe : PipelineState) (to : ℕ) → LegalBoard (h ++ event.Collect n pipe.number to ∷ []) → IsLentIn n (entries_of pipe.number h) pipe
    → IsLentIn n (entries_of pipe.number (h ++ event.Collect n pipe.number to ∷ [])) (record pipe { delivered = pipe.delivered + completions (delivered outcome (entries_of pipe.number h) to) })
lent-collected laws n h pipe to legal on =
    let p : ℕ = pipe.number in
    let e : BoardEntry Ask = event.Collect n p to in
    record {
      opened = laws.steps.opened (made_so pipe.bound) h e p on.opened refl;
      managed = laws.steps.managed h e p n on.managed;
      shared = shared-more laws h e p refl ∙ on.shared;
      masked = λ pad. ap (λ m. m == 0) (laws.steps.masked h e p refl refl) ∙ on.masked pad;
      held = laws.steps.held h e p refl ∙ on.held;
      queue = on.queue;
      delivered = laws.steps.handed h n p to legal ∙ ap (λ c. c + completions (delivered outcome (entries_of p h) to)) on.delivered;
    }

-- the caller worked, and this is the history at its turn
worked-beside : SharingLaws → (k m : Known (BoardEntry Ask)) (h : List (BoardEntry Ask)) → PeersGone k → LegalBoard k.seen → Worked k m → Met m h → Beside k (sees m h)
worked-beside laws k m h gone legal worked met =
    let goes = worked.goes in
    let n = k.number in
    let es = goes.between ++ met.others in
    let is : h ≡ k.seen ++ es = met.goes_on ∙ (ap (λ x. x ++ met.others) goes.seen ∙ append_assoc k.seen goes.between met.others) in
    let apart : of caller_of n met.others ≡ [] = subst (λ x. of caller_of x met.others ≡ []) goes.number met.apart in
    let mine : of caller_of n es ≡ worked.own = filter-append (λ e. caller_of e == n) goes.between met.others ∙ ((λ i. goes.mine i ++ apart i) ∙ append-nil worked.own) in
    let works : list_all (λ e. is_work e) (of caller_of n es) ≡ true = ap (list_all (λ e. is_work e)) mine ∙ worked.work in
    let works0 : list_all is_work (of caller_of 0 es) ≡ true = subst (λ x. list_all is_work (of caller_of x es) ≡ true) gone.first works in
    let all = laws.alone k m h es gone is met.kept goes.number goes.next goes.ended met.shows works0 in
    let legal_es : LegalBoard (k.seen ++ es) = subst LegalBoard is met.kept in
    record {
      kept = kept-more k m (sees m h) (goes-kept laws.laws k m worked.own goes worked.work (still_kept caller_of LegalBoard k m worked.own goes legal)) (meets-kept laws.laws m h met);
      ended = goes.ended;
      gone = laws.are_gone m h met (goes.number ∙ gone.first) (λ j low high.
          let was = gone.gone j low (subst (λ x. j < x) goes.next high) in
          (was.0, subst (λ xs. Has (λ x. x ≡ (j, was.0)) xs) (sym goes.ended) was.1));
      lent = λ pipe on. subst (λ x. IsLentIn x (entries_of pipe.number h) pipe) (sym goes.number)
          (subst (λ x. IsLentIn n (entries_of pipe.number x) pipe) (sym is) (lent-works laws n k.seen es pipe legal_es works on));
      gathered = λ pipe on. subst (λ x. IsGatheredIn x (entries_of pipe.number h) pipe) (sym goes.number)
          (subst (λ x. IsGatheredIn n (entries_of pipe.number x) pipe) (sym is) (gathered-works laws n k.seen es pipe legal_es all works on));
    }

-- it has handed all out
all-handed : Laws → (n : ℕ) (h : List (BoardEntry Ask)) (pipe : PipelineState) → IsGatheredIn n (entries_of pipe.number h) pipe → front (entries_of pipe.number h) ≡ length (submissions (entries_of pipe.number h))
    → LegalBoard (h ++ event.Collect n pipe.number (length (told (entries_of pipe.number h))) ∷ [])
    → pipe.delivered + completions (delivered outcome (entries_of pipe.number h) (length (told (entries_of pipe.number h)))) ≡ length pipe.lines
all-handed laws n h pipe on all legal =
    let p = pipe.number in
    let es = entries_of p h in
    let to = length (told es) in
    sym (lent-collected laws n h pipe to legal on.lent).delivered
    ∙ (ap length (laws.steps.all h p n to legal (laws.steps.finished es all))
    ∙ (length-numbers (length (submissions es)) ∙ (sym (length-map (submissions es) origin_of) ∙ ap length on.lines)))

pub drain-gathers : SharingLaws → (k l : Known (BoardEntry Ask)) (pipe : PipelineState) (into into' : List (Callback Finished)) (r : Result (Unit {0}) BoardErr) → PeersGone k → LegalBoard k.seen → KnowsGathered k pipe
    → MatchResult r (λ _. CrewDrained outcome pipe.number k l into into') (λ e. (e ≡ Memory) × (into' ≡ into) × Worked k l)
    → MatchResult r (λ _. (callbacks : List (Callback Finished)) × (into' ≡ into ++ callbacks) × DrainedLent k l pipe callbacks × (pipe.delivered + completions callbacks ≡ length pipe.lines))
    (λ e. (e ≡ Memory) × (into' ≡ into) × Unchanged k l × (l.ended ≡ k.ended))
drain-gathers laws k l pipe into into' (Err e) gone legal on did =
    let w = did.2 in
    (did.0, did.1, goes-kept laws.laws k l w.own w.goes w.work (still_kept caller_of LegalBoard k l w.own w.goes legal), w.goes.ended)
drain-gathers laws k l pipe into into' (Ok done) gone legal on did =
    let m = did.0 in
    let h = did.2.0 in
    let met = did.2.1 in
    let turn = did.2.2 in
    let n = m.number in
    let p : ℕ = pipe.number in
    let es = entries_of p h in
    let to = length (told es) in
    let callbacks = delivered outcome es to in
    let e : BoardEntry Ask = event.Collect n p to in
    let pipe' : PipelineState = record pipe { delivered = pipe.delivered + completions callbacks } in
    let call : BoardCall = Collects p (record { notices = map (notice_by pipe.lines) callbacks; all_done = true }) in
    let beside = worked-beside laws k m h gone legal did.1 met in
    let here : IsGatheredIn n es pipe = beside.gathered pipe on in (
      callbacks,
      turn.1,
      gathers-later k (sees m h) l pipe pipe' (call ∷ []) gone beside (entry-gathers laws (sees m h) l h e pipe pipe' call beside.gone (meets-again m h met) turn.2 (record {
        here = eq-eqb p p refl;
        mine = beside.gone.first;
        unshuts = refl;
        called = own n (Collects p (collected_to es to))
            ∙ (ap (λ ns. Some (Collects p (record { notices = ns; all_done = front es == length (submissions es) }))) (notices-are (submissions es) pipe.lines callbacks here.lines)
            ∙ ap (λ b. Some (Collects p (record { notices = map (notice_by pipe.lines) callbacks; all_done = b }))) (eq-eqb (front es) (length (submissions es)) turn.0));
        same = refl;
        lent = λ was. lent-collected laws.laws n h pipe to turn.2.1 was;
        lines = λ was. ap (map origin_of) (asks-same laws.laws h e p refl) ∙ was;
        owned = λ owns. (here.lent.managed, here.lent.opened.1);
      })),
      all-handed laws.laws n h pipe here turn.0 turn.2.1,
    )

-- ---- `shut`

pub shut-gathered : SharingLaws → (k l : Known (BoardEntry Ask)) (pipe : PipelineState) → AtTurn caller_of LegalBoard k (λ h. Enters LegalBoard k h (event.Shut k.number) l) → PeersGone k → KnowsGathered k pipe → KnowsGathered l pipe
shut-gathered laws k l pipe turn gone on =
    let h = turn.0 in
    let e : BoardEntry Ask = event.Shut k.number in
    let here = gathered-at laws k h pipe gone turn.1 on in
    subst (λ x. KnowsGathered x pipe) (sym turn.2.0) (subst (λ es. IsGatheredIn k.number es pipe) (sym (laws.laws.steps.leaves h e pipe.number refl)) here)

pub shut-ended : (k l : Known (BoardEntry Ask)) → AtTurn caller_of LegalBoard k (λ h. Enters LegalBoard k h (event.Shut k.number) l) → l.ended ≡ k.ended
shut-ended k l turn = ap (λ (x : Known (BoardEntry Ask)). x.ended) turn.2.0

-- ---- a turn without an entry

pub sees-own : (k l : Known (BoardEntry Ask)) → AtTurn caller_of LegalBoard k (λ h. Leaves k h l) → IsOwn caller_of l
sees-own k l turn = subst (IsOwn caller_of) (sym turn.2) turn.1.shows.made

-- ---- all is handed out

pub hands-all : ((h : List (BoardEntry Ask)) (p : ℕ) → HandsOutInOrder h p) → (k : Known (BoardEntry Ask)) (pipe : PipelineState) → GatheredHandsAll k pipe
hands-all law k pipe legal on paid =
    let es = entries_of pipe.number k.seen in
    law k.seen pipe.number legal
    ∙ ap numbers_below (on.lent.delivered ∙ (paid ∙ (ap length (sym on.lines) ∙ length-map (submissions es) origin_of)))
