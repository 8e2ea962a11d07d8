-- What the end of input makes of one transform, and of a session.
use Rattle.std.proofs.Common.{◌≡◌, ℕ, ◌+◌, ◌≤◌, Bool, true, false, cond, arith, List, [], ◌∷◌, ◌++◌, length, map, Option, Some, None, refl, sym, ap, subst, ◌∙◌, append-nil}
use Rattle.std.specs.Prelude.{All}
use Rattle.std.specs.Option.{option_map}
use Rattle.std.specs.List.{flat_map}
use Rattle.std.proofs.lemmas.Bool.{eqb-true}
use Rattle.std.proofs.lemmas.List.{length-map}
use Rattle.std.proofs.lemmas.List.Elements.{All-head, All-tail}
use Rattle.kc_base.specs.declared.callback_list.Callback.{Callback}
use Rattle.board.specs.declared.entry.BoardEntry.{BoardEntry}
use Rattle.board.specs.declared.entry.BoardEntry.TheVariants as event
use Rattle.board.specs.Entries.{entries_of, submissions, front, is_shared, caller_of}
use Rattle.board.specs.HandedOut.{AllHandedOutIsDrained, completions}
use Rattle.board.specs.Legal.{MayManage, LegalBoard, is_shut}
use Rattle.board.specs.PipelineHistory.{IsDrained}
use Rattle.reply_text.specs.Answers.{text_of}
use Rattle.reply_text.specs.declared.answers.Answer.{Answer}
use Rattle.transforms.specs.declared.ask.Ask.{Ask}
use Rattle.transforms.specs.declared.request.Finished.{Finished}
use Rattle.turn_lock.specs.PassLaws.{IsOwn}
use Rattle.turn_lock.specs.Turns.{Known, sees}
use Rattle.dialogues.specs.BoardCalls.{BoardCall, Goes, Collects, Shuts, origin_of}
use Rattle.dialogues.specs.Dialogues.{Dialogue, Ends, Posts}
use Rattle.dialogues.specs.PipelineCommands.{lets_go, let_all_go, drains_at_end, drain_all, drains_own, end, end_said, said_at_end, notice_said}
use Rattle.dialogues.specs.Questions.{Shut}
use Rattle.dialogues.specs.Transcripts.{IsTranscript, ended, joined, posting}
use Rattle.dialogues.specs.ScriptState.{ScriptState, Live, PipelineState}
use Rattle.dialogues.proofs.First.{begins-none}
use Rattle.recorded_calls.specs.RegistryCalls.{Asked}
use Rattle.recorded_calls.specs.Passes.{RegPass, BoardPass, known, lock_of}
use Rattle.recorded_calls.specs.Pipelines.{KnowsPipe, Owns, Unchanged, Called, Changed, Drained, IsShut, notice_by}
use Rattle.recorded_calls.proofs.Boarding.{kept-same, called-more}
use Rattle.script_session.specs.TransformChanges.{Changes}
use Rattle.script_session.specs.EndOfInput.{LeadsBy, part, Moves, MovesAll, StopsMoving, PipelinesMatchState, AreAllDelivered, AllDelivered, place_of, EndsWith, AnswersEnd, AnswersEndBeside, EndsDelivered, EndsShut}
use Rattle.script_session.specs.PerformedDialogue.{StopsIn}
use Rattle.script_session.specs.Keyed.{held_as, delivering}
use Rattle.script_session.specs.States.{State, SameLocks, ReferencesMatch, PipelinesMatch, HasPipe, is_at, owners}
use Rattle.script_session.specs.CallbackText.{callback_said}
use Rattle.script_session.proofs.Arms.{viewed}
use Rattle.script_session.proofs.Changing.{IsOn, changes-pipe, changes-kept}
use Rattle.script_session.proofs.Leading.{leads-same, goes-held, drains-some, drains-same}
use Rattle.script_session.proofs.Piped.{held-live, said-is, count-is, delivered-live}
use Rattle.script_session.proofs.Rules.{asked-nothing, called-nothing}
use Rattle.script_session.proofs.Stopping.{board-stops, moving-held, moving-then, moving-before, moving-same}

-- ---- a transform that stays as it is

pub stays-put : (dialogue : Dialogue → Dialogue) (live : Live) (k : Known (BoardEntry Ask)) (answers : List Answer) → HasPipe k live.pipe → LegalBoard k.seen → LeadsBy dialogue [] [] → Moves dialogue live live k k answers answers
stays-put dialogue live k answers on legal leads =
    record {
      calls = [];
      said = [];
      changes = changes-kept live k k on (kept-same k legal);
      place = refl;
      leads = leads;
      says = sym (append-nil answers);
    }

-- ---- a held queue that is let go

place-kept : (live live' : Live) (pipe pipe' : PipelineState) → live.pipe ≡ Some pipe → live' ≡ record live { pipe = Some pipe' } → pipe'.number ≡ pipe.number → place_of live' ≡ place_of live
place-kept live live' pipe pipe' has is same =
    ap place_of is ∙ (ap (λ n. (live.label, Some n)) same ∙ sym (ap (λ o. (live.label, option_map (λ (p : PipelineState). p.number) o)) has))

pub goes-free_now : (k l : Known (BoardEntry Ask)) (live live' : Live) (pipe : PipelineState) → live.pipe ≡ Some pipe → pipe.held ≡ true → Changed k l pipe (record pipe { held = false }) (Goes pipe.number ∷ []) [] → live' ≡ held_as live false
    → Moves (lets_go live.pipe) live live' k l [] []
goes-free_now k l live live' pipe has held changed is =
    let pipe' : PipelineState = record pipe { held = false } in
    let now : live' ≡ record live { pipe = Some pipe' } = held-live live live' pipe false has is in
    record {
      calls = Goes pipe.number ∷ [];
      said = [];
      changes = subst (λ x. Changes live x k l (Goes pipe.number ∷ []) []) (sym now) (changes-pipe live k l pipe pipe' (Goes pipe.number ∷ []) [] has changed);
      place = place-kept live live' pipe pipe' has now refl;
      leads = goes-held live.pipe pipe has held;
      says = refl;
    }

-- ---- the last drain

pub drains-last : (k l : Known (BoardEntry Ask)) (live live' : Live) (pipe : PipelineState) (count : ℕ) (callbacks : List (Callback Finished)) (answers answers' : List Answer) → live.pipe ≡ Some pipe → Drained k l pipe callbacks → count ≡ completions callbacks
    → live' ≡ delivering live count → answers' ≡ answers ++ (map (callback_said pipe.lines) callbacks ++ end_said live.label count) → Moves (drains_at_end live.label live.pipe) live live' k l answers answers'
drains-last k l live live' pipe count callbacks answers answers' has drained counts is e =
    let notices = map (notice_by pipe.lines) callbacks in
    let pipe' : PipelineState = record pipe { delivered = pipe.delivered + completions callbacks } in
    let call : BoardCall = Collects pipe.number (record { notices = notices; all_done = true }) in
    let now : live' ≡ record live { pipe = Some pipe' } = delivered-live live live' pipe count callbacks has counts is in
    record {
      calls = call ∷ [];
      said = said_at_end live.label notices;
      changes = subst (λ x. Changes live x k l (call ∷ []) []) (sym now) (changes-pipe live k l pipe pipe' (call ∷ []) [] has drained);
      place = place-kept live live' pipe pipe' has now refl;
      leads = drains-some live.label live.pipe pipe notices has;
      says =
          e ∙ ap (λ x. answers ++ x)
          (ap (λ x. x ++ end_said live.label count) (sym (said-is pipe.lines callbacks))
          ∙ ap (λ c. map notice_said notices ++ end_said live.label c) (counts ∙ sym (count-is pipe.lines callbacks)));
    }

-- it was drained, and memory was wanting for what it told
pub drain-stopped : (k l : Known (BoardEntry Ask)) (live : Live) (pipe : PipelineState) (callbacks : List (Callback Finished)) → live.pipe ≡ Some pipe → Drained k l pipe callbacks → StopsMoving (drains_at_end live.label live.pipe) k l
drain-stopped k l live pipe callbacks has drained =
    let count = completions callbacks in
    let said : List Answer = map (callback_said pipe.lines) callbacks ++ end_said live.label count in
    moving-held (drains_at_end live.label live.pipe) live (delivering live count) k l [] said
    (drains-last k l live (delivering live count) pipe count callbacks [] said has drained refl refl refl)

-- ---- the whole end

leads-end : (script_state : ScriptState) (a c : List BoardCall) (x y : List Answer) → LeadsBy (let_all_go script_state.lives) a x → LeadsBy (drain_all script_state.lives) c y
    → IsTranscript (end script_state) (joined (part a x) (joined (part c y) (posting Shuts (ended script_state))))
leads-end script_state a c x y lets drains =
    let rest : Dialogue = Posts Shut λ done. Ends script_state in
    lets (drain_all script_state.lives rest) [] (c ++ Shuts ∷ []) ∙ ap (joined (part a x)) (drains rest [] (Shuts ∷ []))

pub end-with : (s s' : State) (gone lives' : List Live) (k l : Known (BoardEntry Ask)) (answers answers' : List Answer) → SameLocks s s' → s'.registry ≡ s.registry → ReferencesMatch s.script_state.lives (known s.registry)
    → MovesAll (let_all_go s.script_state.lives) s.script_state.lives gone (known s.board) k [] [] → MovesAll (drain_all gone) gone lives' k l answers answers' → Called l (known s'.board) (Shuts ∷ []) → EndsWith s s' answers answers'
end-with s s' gone lives' k l answers answers' locks same stands lets drains shuts =
    let script_state = s.script_state in
    let a = lets.calls in
    let c = drains.calls in
    let drains_here : LeadsBy (drain_all script_state.lives) c drains.said =
    leads-same (drain_all gone) (drain_all script_state.lives) c drains.said (λ rest. sym (drains-same script_state.lives gone rest lets.places)) drains.leads in
    record {
      locks = locks;
      turn = joined (part a lets.said) (joined (part c drains.said) (posting Shuts (ended script_state)));
      is = leads-end script_state a c lets.said drains.said lets.leads drains_here;
      asked = subst (λ r. Asked (known s.registry) (known r) []) (sym same) (asked-nothing (known s.registry) stands.caller);
      called = called-more (known s.board) k (known s'.board) a (c ++ Shuts ∷ []) lets.called (called-more k l (known s'.board) c (Shuts ∷ []) drains.called shuts);
      ends = refl;
      says = drains.says ∙ ap (λ xs. answers ++ xs) (sym (append-nil drains.said) ∙ ap (λ xs. xs ++ (drains.said ++ [])) lets.says);
    }

pub end-answers : (s s' : State) (gone lives' : List Live) (k l : Known (BoardEntry Ask)) (answers : List Answer) (text text' : List ℕ) → SameLocks s s' → s'.registry ≡ s.registry → ReferencesMatch s.script_state.lives (known s.registry)
    → MovesAll (let_all_go s.script_state.lives) s.script_state.lives gone (known s.board) k [] [] → MovesAll (drain_all gone) gone lives' k l [] answers → Called l (known s'.board) (Shuts ∷ [])
    → text' ≡ text ++ flat_map text_of answers → AnswersEnd s s' text text'
end-answers s s' gone lives' k l answers text text' locks same stands lets drains shuts put =
    let e = end-with s s' gone lives' k l [] answers locks same stands lets drains shuts in
    record { locks = e.locks; turn = e.turn; is = e.is; asked = e.asked; called = e.called; ends = e.ends; says = put ∙ ap (λ xs. text ++ flat_map text_of xs) e.says }

module _ {ws c : ℕ} {sh items left : List Live} {q v : ℕ} {r : Option RegPass} {b b' : Option BoardPass} (s : State) (view : viewed ws c sh items q v r b ≡ s) where
  -- the lists that the two loops go over are the session's own
  pub end_with-arm : (first first' second second' : List Live) (k l : Known (BoardEntry Ask)) (answers answers' : List Answer) → first ≡ items → second ≡ first' → lock_of b' ≡ lock_of b
      → ReferencesMatch s.script_state.lives (known s.registry) → MovesAll (let_all_go first) first first' (known b) k [] [] → MovesAll (drain_all second) second second' k l answers answers' → Called l (known b') (Shuts ∷ [])
      → EndsWith s (viewed ws c sh left q v r b') answers answers'
  end_with-arm first first' second second' k l answers answers' at_first at_second lock stands lets drains shuts =
      let lives_are : first ≡ s.script_state.lives = at_first ∙ ap (λ (x : State). x.script_state.lives) view in
      let lets' : MovesAll (let_all_go s.script_state.lives) s.script_state.lives first' (known s.board) k [] [] =
      subst (λ (x : State). MovesAll (let_all_go s.script_state.lives) s.script_state.lives first' (known x.board) k [] []) view (subst (λ ls. MovesAll (let_all_go ls) ls first' (known b) k [] []) lives_are lets) in
      let drains' : MovesAll (drain_all first') first' second' k l answers answers' = subst (λ ls. MovesAll (drain_all ls) ls second' k l answers answers') at_second drains in
      end-with s (viewed ws c sh left q v r b') first' second' k l answers answers'
      (record { registry = ap (λ (x : State). lock_of x.registry) view; board = lock ∙ ap (λ (x : State). lock_of x.board) view; workers = ap (λ (x : State). x.workers) view; shared = ap (λ (x : State). x.script_state.shared) view })
      (ap (λ (x : State). x.registry) view) stands lets' drains' shuts

  pub end-arm : (first first' second second' : List Live) (k l : Known (BoardEntry Ask)) (none answers slice : List Answer) (text text' : List ℕ) → first ≡ items → second ≡ first' → none ≡ [] → slice ≡ answers → lock_of b' ≡ lock_of b
      → ReferencesMatch s.script_state.lives (known s.registry) → MovesAll (let_all_go first) first first' (known b) k [] [] → MovesAll (drain_all second) second second' k l none answers → Called l (known b') (Shuts ∷ [])
      → text' ≡ text ++ flat_map text_of slice → AnswersEnd s (viewed ws c sh left q v r b') text text'
  end-arm first first' second second' k l none answers slice text text' at_first at_second empty same lock stands lets drains shuts put =
      let lives_are : first ≡ s.script_state.lives = at_first ∙ ap (λ (x : State). x.script_state.lives) view in
      let lets' : MovesAll (let_all_go s.script_state.lives) s.script_state.lives first' (known s.board) k [] [] =
      subst (λ (x : State). MovesAll (let_all_go s.script_state.lives) s.script_state.lives first' (known x.board) k [] []) view (subst (λ ls. MovesAll (let_all_go ls) ls first' (known b) k [] []) lives_are lets) in
      let drains' : MovesAll (drain_all first') first' second' k l [] answers =
      subst (λ a. MovesAll (drain_all first') first' second' k l a answers) empty (subst (λ ls. MovesAll (drain_all ls) ls second' k l none answers) at_second drains) in
      end-answers s (viewed ws c sh left q v r b') first' second' k l answers text text'
      (record { registry = ap (λ (x : State). lock_of x.registry) view; board = lock ∙ ap (λ (x : State). lock_of x.board) view; workers = ap (λ (x : State). x.workers) view; shared = ap (λ (x : State). x.script_state.shared) view })
      (ap (λ (x : State). x.registry) view) stands lets' drains' shuts (put ∙ ap (λ a. text ++ flat_map text_of a) same)

-- ---- a client's end

module _ {ws c : ℕ} {sh items left : List Live} {q v : ℕ} {r : Option RegPass} {b b' : Option BoardPass} (s : State) (view : viewed ws c sh items q v r b ≡ s) where
  pub client-arm : (first first' second second' : List Live) (k l : Known (BoardEntry Ask)) (none answers slice : List Answer) (text text' : List ℕ) → first ≡ items → second ≡ first' → none ≡ [] → slice ≡ answers → lock_of b' ≡ lock_of b
      → ReferencesMatch s.script_state.lives (known s.registry) → MovesAll (let_all_go first) first first' (known b) k [] [] → MovesAll (drain_all second) second second' k l none answers → Called l (known b') []
      → text' ≡ text ++ flat_map text_of slice → AnswersEndBeside s (viewed ws c sh left q v r b') text text'
  client-arm first first' second second' k l none answers slice text text' at_first at_second empty same lock stands lets_at drains_at met put =
      let script_state = s.script_state in
      let lives_are : first ≡ script_state.lives = at_first ∙ ap (λ (x : State). x.script_state.lives) view in
      let lets : MovesAll (let_all_go script_state.lives) script_state.lives first' (known s.board) k [] [] =
      subst (λ (x : State). MovesAll (let_all_go script_state.lives) script_state.lives first' (known x.board) k [] []) view (subst (λ ls. MovesAll (let_all_go ls) ls first' (known b) k [] []) lives_are lets_at) in
      let drains : MovesAll (drain_all first') first' second' k l [] answers =
      subst (λ a. MovesAll (drain_all first') first' second' k l a answers) empty (subst (λ ls. MovesAll (drain_all ls) ls second' k l none answers) at_second drains_at) in
      let x = lets.calls in
      let y = drains.calls in
      let drains_here : LeadsBy (drain_all script_state.lives) y drains.said =
      leads-same (drain_all first') (drain_all script_state.lives) y drains.said (λ rest. sym (drains-same script_state.lives first' rest lets.places)) drains.leads in
      record {
        locks = record { registry = ap (λ (x : State). lock_of x.registry) view; board = lock ∙ ap (λ (x : State). lock_of x.board) view; workers = ap (λ (x : State). x.workers) view; shared = ap (λ (x : State). x.script_state.shared) view };
        turn = joined (part x lets.said) (joined (part y drains.said) (ended script_state));
        is = lets.leads (drain_all script_state.lives (Ends script_state)) [] (y ++ []) ∙ ap (joined (part x lets.said)) (drains_here (Ends script_state) [] []);
        asked = subst (λ (z : State). Asked (known s.registry) (known z.registry) []) (sym view) (asked-nothing (known s.registry) stands.caller);
        called = called-more (known s.board) k (known b') x (y ++ []) lets.called (called-more k l (known b') y [] drains.called met);
        ends = refl;
        says =
            put ∙ ap (λ a. text ++ flat_map text_of a)
            (same ∙ (drains.says ∙ (sym (append-nil drains.said) ∙ ap (λ xs. xs ++ (drains.said ++ [])) lets.says)));
      }

-- memory was wanting
module _ {ws c : ℕ} {sh items left : List Live} {q v : ℕ} {r : Option RegPass} {b b' : Option BoardPass} (s : State) (view : viewed ws c sh items q v r b ≡ s) where
  own-stops : (rest : Dialogue) → lock_of b' ≡ lock_of b → ReferencesMatch s.script_state.lives (known s.registry) → StopsMoving (drains_own s.script_state) (known s.board) (known b') → StopsIn (drains_own s.script_state rest) s (viewed ws c sh left q v r b')
  own-stops rest lock stands stops =
      board-stops (drains_own s.script_state rest) s (viewed ws c sh left q v r b') stops.calls
      (record { registry = ap (λ (x : State). lock_of x.registry) view; board = lock ∙ ap (λ (x : State). lock_of x.board) view; workers = ap (λ (x : State). x.workers) view; shared = ap (λ (x : State). x.script_state.shared) view })
      (ap (λ (x : State). x.registry) view) stands stops.called stops.unshut (stops.begins rest)

  -- while pipelines were let go
  pub release-stops : (rest : Dialogue) (first : List Live) → first ≡ items → lock_of b' ≡ lock_of b → ReferencesMatch s.script_state.lives (known s.registry) → StopsMoving (let_all_go first) (known b) (known b') → StopsIn (drains_own s.script_state rest) s (viewed ws c sh left q v r b')
  release-stops rest first at_first lock stands stops =
      let lives_are : first ≡ s.script_state.lives = at_first ∙ ap (λ (x : State). x.script_state.lives) view in
      let here : StopsMoving (let_all_go s.script_state.lives) (known s.board) (known b') =
      subst (λ (x : State). StopsMoving (let_all_go s.script_state.lives) (known x.board) (known b')) view (subst (λ ls. StopsMoving (let_all_go ls) (known b) (known b')) lives_are stops) in
      own-stops rest lock stands (moving-before (let_all_go s.script_state.lives) (drain_all s.script_state.lives) (known s.board) (known b') here)

  -- while they were drained
  pub drain-stops : (rest : Dialogue) (first first' second : List Live) (k : Known (BoardEntry Ask)) → first ≡ items → second ≡ first' → lock_of b' ≡ lock_of b → ReferencesMatch s.script_state.lives (known s.registry) → PipelinesMatch s.script_state (known s.board)
      → MovesAll (let_all_go first) first first' (known b) k [] [] → StopsMoving (drain_all second) k (known b') → StopsIn (drains_own s.script_state rest) s (viewed ws c sh left q v r b')
  drain-stops rest first first' second k at_first at_second lock stands posted lets_at stops =
      let lives = s.script_state.lives in
      let lives_are : first ≡ lives = at_first ∙ ap (λ (x : State). x.script_state.lives) view in
      let lets : MovesAll (let_all_go lives) lives first' (known s.board) k [] [] =
      subst (λ (x : State). MovesAll (let_all_go lives) lives first' (known x.board) k [] []) view (subst (λ ls. MovesAll (let_all_go ls) ls first' (known b) k [] []) lives_are lets_at) in
      let here : StopsMoving (drain_all lives) k (known b') =
      moving-same (drain_all first') (drain_all lives) k (known b') (λ left. sym (drains-same lives first' left lets.places)) (subst (λ ls. StopsMoving (drain_all ls) k (known b')) at_second stops) in
      own-stops rest lock stands
      (moving-then (let_all_go lives) (drain_all lives) (known s.board) k (known b') lets.calls lets.said lets.leads lets.called
      (λ zero_is. lets.posted.2.unshut (lets.called.number ∙ zero_is) ∙ sym (posted.unshut zero_is)) here)

-- before anything was called
module _ {ws c : ℕ} {sh items : List Live} {q v : ℕ} {r : Option RegPass} {b : Option BoardPass} (s : State) (view : viewed ws c sh items q v r b ≡ s) where
  pub stops-here : (d : Dialogue) (left : List Live) → ReferencesMatch s.script_state.lives (known s.registry) → StopsIn d s (viewed ws c sh left q v r b)
  stops-here d left stands =
      board-stops d s (viewed ws c sh left q v r b) []
      (record { registry = ap (λ (x : State). lock_of x.registry) view; board = ap (λ (x : State). lock_of x.board) view; workers = ap (λ (x : State). x.workers) view; shared = ap (λ (x : State). x.script_state.shared) view })
      (ap (λ (x : State). x.registry) view) stands (subst (λ (x : State). Called (known x.board) (known b) []) view (called-nothing (known b)))
      (λ zero_is. ap (λ (x : State). is_shut (known x.board).seen) view) (begins-none d)

-- ---- each pipeline is finished

-- who owns a pipeline has it among these
among : (lives : List Live) (p : ℕ) (k : Known (BoardEntry Ask)) → 1 ≤ owners p lives → All (IsOn k) lives → AreAllDelivered lives → (pipe : PipelineState) × (pipe.number ≡ p) × KnowsPipe k pipe × (pipe.delivered ≡ length pipe.lines)
among [] p k some on paid = absurd (omega (arith, some))
among (x ∷ xs) p k some on paid = by_pipe x.pipe (is_at p x.pipe) refl some (All-head (IsOn k) x xs on) (All-head (λ (l : Live). AllDelivered l.pipe) x xs paid) (λ rest. among xs p k rest (All-tail (IsOn k) x xs on) (All-tail (λ (l : Live). AllDelivered l.pipe) x xs paid))
  where
    by_pipe : (pipe : Option PipelineState) (t : Bool) → is_at p pipe ≡ t → 1 ≤ cond t 1 0 + owners p xs → HasPipe k pipe → AllDelivered pipe → (1 ≤ owners p xs → (pipe : PipelineState) × (pipe.number ≡ p) × KnowsPipe k pipe × (pipe.delivered ≡ length pipe.lines))
        → (pipe : PipelineState) × (pipe.number ≡ p) × KnowsPipe k pipe × (pipe.delivered ≡ length pipe.lines)
    by_pipe None true at some on paid rest = absurd (let e = at in cc)
    by_pipe (Some pipe) true at some on paid rest = (pipe, eqb-true pipe.number p at, on, paid)
    by_pipe pipe false at some on paid rest = rest (omega (arith, some))

abbrev pub HandingAllDrains : Type 0
HandingAllDrains = (h : List (BoardEntry Ask)) (p : ℕ) → AllHandedOutIsDrained h p

-- a pipeline that handed out as much as it accepted is drained
paid-drained : HandingAllDrains → (k : Known (BoardEntry Ask)) (pipe : PipelineState) → LegalBoard k.seen → KnowsPipe k pipe → pipe.delivered ≡ length pipe.lines → IsDrained (entries_of pipe.number k.seen)
paid-drained law k pipe legal on paid =
    let es = entries_of pipe.number k.seen in
    law k.seen pipe.number legal (on.delivered ∙ (paid ∙ (ap length (sym on.lines) ∙ length-map (submissions es) origin_of)))

pub ends-shut : HandingAllDrains → (lives : List Live) (k l : Known (BoardEntry Ask)) → PipelinesMatchState lives k → AreAllDelivered lives → IsShut k l → EndsShut l
ends-shut law lives k l are paid shut =
    let before = shut.before in
    let m : Known (BoardEntry Ask) = sees k before in
    let same = shut.called.number in
    record {
      before = before;
      shut = shut.last ∙ ap (λ n. before ++ event.Shut n ∷ []) (sym same);
      finished = λ p may open_ended.
          let owns = shut.kept.owned p (subst (MayManage (entries_of p before)) same may, open_ended) in
          let some : 1 ≤ owners p lives = subst (λ ls. 1 ≤ owners p ls) are.1 (are.2.owned p owns) in
          let one = among lives p k some (subst (All (IsOn k)) are.1 are.2.pipes) paid in
          let pipe = one.0 in
          let drained = paid-drained law m pipe shut.kept.legal (shut.kept.pipes pipe one.2) one.3 in
          subst (λ n. front (entries_of n before) ≡ length (submissions (entries_of n before))) one.1 drained.0;
    }

pub ends-paid : HandingAllDrains → (lives : List Live) (k l : Known (BoardEntry Ask)) → PipelinesMatchState lives k → AreAllDelivered lives → Unchanged k l → IsOwn caller_of l → EndsDelivered l
ends-paid law lives k l are paid kept own =
    let one : (p : ℕ) → Owns l p → (pipe : PipelineState) × (pipe.number ≡ p) × KnowsPipe k pipe × (pipe.delivered ≡ length pipe.lines) =
    λ p owns. among lives p k (subst (λ ls. 1 ≤ owners p ls) are.1 (are.2.owned p (kept.owned p owns))) (subst (All (IsOn k)) are.1 are.2.pipes) paid in
    record {
      legal = kept.legal;
      own = own;
      unshared = λ p owns. let x = one p owns in subst (λ n. is_shared (entries_of n l.seen) ≡ false) x.1 (kept.pipes x.0 x.2).unshared;
      drained = λ p owns. let x = one p owns in subst (λ n. IsDrained (entries_of n l.seen)) x.1 (paid-drained law l x.0 kept.legal (kept.pipes x.0 x.2) x.3);
    }
