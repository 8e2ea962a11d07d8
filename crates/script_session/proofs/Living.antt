-- Arms on the transform of a label.
use Rattle.std.proofs.Common.{◌≡◌, ℕ, ◌+◌, List, [], ◌∷◌, length, Option, Some, None, Result, Ok, Err, refl, sym, ap, subst, ◌∙◌, arith, Bool, true, false, zero-add}
use Rattle.std.specs.Borrow.{MutBor}
use Rattle.std.specs.Option.{option_copied_mut}
use Rattle.std.specs.Prelude.{All, IsSome, MatchResult, sum_by}
use Rattle.std.specs.List.{position_from}
use Rattle.std.specs.BTreeMap.{get, is_at}
use Rattle.std.specs.Map.{remove_entry, set_value, values_of}
use Rattle.std.specs.Ordering.{nat_cmp}
use Rattle.std.proofs.lemmas.List.Elements.{All-head}
use Rattle.kc_base.specs.declared.error_numbers.Errno.TheVariants.{ENOENT}
use Rattle.board.specs.Allowance.{accepted_by}
use Rattle.board.proofs.Kept.{loan_some}
use Rattle.board.specs.declared.entry.BoardEntry.{BoardEntry}
use Rattle.reply_text.specs.declared.answers.Answer.{Answer}
use Rattle.transforms.specs.declared.ask.Ask.{Ask}
use Rattle.transforms.specs.AskValue.{ask_size}
use Rattle.turn_lock.specs.Turns.{Known}
use Rattle.dialogues.specs.AllocAndFree.{lists_beside}
use Rattle.dialogues.specs.Dialogues.{Dialogue, for_live, with_either}
use Rattle.dialogues.specs.First.{BeginsBy}
use Rattle.dialogues.specs.ScriptState.{ScriptState, Live, is_of, live_of, shared_of, either, either_of, with_live, replaced, removed}
use Rattle.script_session.specs.States.{State, counted, HasPipe, PipelinesMatch, ReferencesMatch, MadeWide}
use Rattle.recorded_calls.specs.Passes.{RegPass, BoardPass, known, lock_of}
use Rattle.recorded_calls.specs.Pipelines.{Called}
use Rattle.script_session.specs.TransformChanges.{PerformsFor, StopsFor, counting, asks_if}
use Rattle.script_session.specs.Filed.{AreFiled, lives_of, number_of}
use Rattle.script_session.specs.declared.lives.LiveTransforms.{LiveTransforms}
use Rattle.script_session.specs.PerformedDialogue.{Done, Performs, StopsIn}
use Rattle.script_session.specs.ReplyText.{SaysFor, BreaksFor, SaysBy, BreaksOff}
use Rattle.script_session.proofs.Arms.{viewed}
use Rattle.script_session.proofs.Changing.{IsOn, All-right, label-of, live-done}
use Rattle.script_session.proofs.Filed.{place-at, nobody-at, get-found, set-found, removed-found}
use Rattle.script_session.proofs.Placed.{Split, split-at}
use Rattle.script_session.proofs.Stopping.{board-stops, for-uncalled}
use Rattle.script_session.proofs.Widths.{wide-changes}

-- a transform of the state has its pipeline on the board
pub rests-at : (script_state : ScriptState) (label : List ℕ) (place : ℕ) (k : Known (BoardEntry Ask)) (s : Split label script_state.lives 0 place) → PipelinesMatch script_state k → HasPipe k s.live.pipe
rests-at script_state label place k s posted = All-head (IsOn k) s.live s.later (All-right (IsOn k) s.before (s.live ∷ s.later) (subst (All (IsOn k)) s.lives_is posted.pipes))

module _ {ws c q v : ℕ} {sh : List Live} {r : Option RegPass} {b : Option BoardPass} (s : State) (lives : LiveTransforms) (filed : AreFiled lives) (view : viewed ws c sh (lives_of lives) q v r b ≡ s) (label name : List ℕ) (same : name ≡ label) where
  abbrev entries : List (ℕ × Live)
  entries = lives.transforms.entries

  numbered : (number : ℕ) → Some number ≡ number_of name entries → number_of label entries ≡ Some number
  numbered number at = ap (λ l. number_of l entries) (sym same) ∙ sym at

  -- where the label's transform stands in the state
  pub place : (number : ℕ) → Some number ≡ number_of name entries → ℕ
  place number at = (place-at label entries 0 number (numbered number at)).0

  pub live-at : (number : ℕ) (at : Some number ≡ number_of name entries) → Split label s.script_state.lives 0 (place number at)
  unfolding place
  live-at number at =
      split-at label s.script_state.lives 0 (place number at)
      (sym (ap (λ (x : State). position_from (is_of label) 0 x.script_state.lives) view) ∙ (place-at label entries 0 number (numbered number at)).1)

  pub no-live : None ≡ number_of name entries → live_of s.script_state label ≡ None
  no-live at =
      sym (ap (λ (x : State). live_of x.script_state label) view) ∙ nobody-at label entries (ap (λ l. number_of l entries) (sym same) ∙ sym at)

  pub no-either : None ≡ number_of name entries → either_of s.script_state label ≡ shared_of s.script_state label
  no-either at = ap (λ o. either o (shared_of s.script_state label)) (no-live at)

  pub either-at : (number : ℕ) (at : Some number ≡ number_of name entries) → either_of s.script_state label ≡ Some (live-at number at).live
  either-at number at = ap (λ o. either o (shared_of s.script_state label)) (live-at number at).found

  -- the number has it
  pub has-live : (number : ℕ) (at : Some number ≡ number_of name entries) → get nat_cmp lives.transforms number ≡ Some (live-at number at).live
  has-live number at =
      get-found label number entries filed.ascend (numbered number at)
      ∙ (ap (λ (x : State). live_of x.script_state label) view ∙ (live-at number at).found)

  pub is-there : (number : ℕ) → Some number ≡ number_of name entries → IsSome (get nat_cmp lives.transforms number)
  is-there number at = subst IsSome (sym (has-live number at)) refl

  -- a loan of it can be had
  pub loan-there : (number : ℕ) → Some number ≡ number_of name entries → (loan : Option (MutBor Live)) → option_copied_mut loan ≡ get nat_cmp lives.transforms number → IsSome loan
  loan-there number at loan is = loan_some loan (get nat_cmp lives.transforms number) (live-at number at).live is (has-live number at)

  pub is-live : (number : ℕ) (at : Some number ≡ number_of name entries) (old : Live) → get nat_cmp lives.transforms number ≡ Some old → old ≡ (live-at number at).live
  is-live number at old is = (let both : Some old ≡ Some (live-at number at).live = sym is ∙ has-live number at in cc)

  -- its pipeline, where it has one, is on the board
  pub pipe-there : (number : ℕ) → Some number ≡ number_of name entries → (old : Live) → get nat_cmp lives.transforms number ≡ Some old → PipelinesMatch s.script_state (known s.board) → HasPipe (known b) old.pipe
  pipe-there number at old is posted =
      let split = live-at number at in
      subst (λ (l : Live). HasPipe (known b) l.pipe) (sym (is-live number at old is))
      (subst (λ (x : State). HasPipe (known x.board) split.live.pipe) (sym view) (rests-at s.script_state label (place number at) (known s.board) split posted))

  -- the list with what was written through its loan
  pub written : (number : ℕ) (at : Some number ≡ number_of name entries) (old new : Live) (next : List (ℕ × Live)) → get nat_cmp lives.transforms number ≡ Some old → new.label ≡ old.label
      → next ≡ set_value (is_at (nat_cmp number)) entries new → values_of next ≡ replaced new s.script_state.lives
  written number at old new next is named set =
      let mine : new.label ≡ label = named ∙ (ap (λ (l : Live). l.label) (is-live number at old is) ∙ label-of label s.script_state.lives (place number at) (live-at number at)) in
      ap values_of set ∙ (set-found label number entries new mine filed.ascend (numbered number at) ∙ ap (λ (x : State). replaced new x.script_state.lives) view)

  -- and without it
  pub taken : (number : ℕ) → Some number ≡ number_of name entries → (next : List (ℕ × Live)) → next ≡ remove_entry (is_at (nat_cmp number)) entries → values_of next ≡ removed label s.script_state.lives
  taken number at next gone =
      ap values_of gone ∙ (removed-found label number entries filed.ascend (numbered number at) ∙ ap (λ (x : State). removed label x.script_state.lives) view)

  -- it has the label
  label-is : (number : ℕ) (at : Some number ≡ number_of name entries) (old : Live) → get nat_cmp lives.transforms number ≡ Some old → old.label ≡ label
  label-is number at old is = ap (λ (l : Live). l.label) (is-live number at old is) ∙ label-of label s.script_state.lives (place number at) (live-at number at)

  -- the dialogue that is held with the transform is the session's
  pub live-holds : (number : ℕ) (at : Some number ≡ number_of name entries) (old new : Live) (items' : List Live) (whole : Dialogue) (d : ScriptState → Dialogue) (q' v' : ℕ) (b' : Option BoardPass) (asks : List Ask) (answers answers' : List Answer)
      → whole ≡ d s.script_state → get nat_cmp lives.transforms number ≡ Some old → items' ≡ replaced new s.script_state.lives → lock_of b' ≡ lock_of b → q' ≡ q + length asks → v' ≡ v + sum_by ask_size asks → ReferencesMatch s.script_state.lives (known s.registry) → PipelinesMatch s.script_state (known s.board)
      → PerformsFor d old new (known b) (known b') asks answers answers' → Performs whole s (viewed ws c sh items' q' v' r b') answers answers'
  live-holds number at old new items' whole d q' v' b' asks answers answers' same_d is set_is lock more_q more_v stands posted holds =
      let split = live-at number at in
      let was = is-live number at old is in
      let here : PerformsFor d split.live new (known b) (known b') asks answers answers' = subst (λ l. PerformsFor d l new (known b) (known b') asks answers answers') was holds in
      let there : PerformsFor d split.live new (known s.board) (known b') asks answers answers' = subst (λ (x : State). PerformsFor d split.live new (known x.board) (known b') asks answers answers') view here in
      let done = live-done s.script_state label (place number at) split new (known s.registry) (known s.board) (known b') asks answers answers' whole d same_d stands posted there in
      let walk_is : record { client = c; shared = sh; lives = items'; requests = q'; bytes = v' } ≡ counting (with_live s.script_state new) asks =
      ap (λ ls. let x : ScriptState = record { client = c; shared = sh; lives = ls; requests = q'; bytes = v' } in x) set_is
      ∙ (ap (λ m. let x : ScriptState = record { client = c; shared = sh; lives = replaced new s.script_state.lives; requests = m; bytes = v' } in x) more_q
      ∙ (ap (λ m. let x : ScriptState = record { client = c; shared = sh; lives = replaced new s.script_state.lives; requests = q + length asks; bytes = m } in x) more_v
      ∙ ap (λ (x : State). let y : ScriptState = record { client = x.script_state.client; shared = x.script_state.shared; lives = replaced new s.script_state.lives; requests = x.script_state.requests + length asks; bytes = x.script_state.bytes + sum_by ask_size asks } in y) view)) in
      record {
        locks = record { registry = ap (λ (x : State). lock_of x.registry) view; board = lock ∙ ap (λ (x : State). lock_of x.board) view; workers = ap (λ (x : State). x.workers) view; shared = ap (λ (x : State). x.script_state.shared) view };
        wide = λ wide.
            subst (λ n. MadeWide (lists_beside n) (known b')) (sym (ap (λ (x : State). x.workers) view))
            (wide-changes (lists_beside s.workers) split.live new (known s.board) (known b') there.calls asks (rests-at s.script_state label (place number at) (known s.board) split posted) there.changes wide);
        done = subst (λ x. Done whole (known s.registry) (known s.board) (known r) (known b') x answers answers') (sym walk_is)
            (subst (λ (x : State). Done whole (known s.registry) (known s.board) (known x.registry) (known b') (counting (with_live s.script_state new) asks) answers answers') (sym view) done);
      }

  -- memory was wanting
  pub live-stops : (number : ℕ) (at : Some number ≡ number_of name entries) (old : Live) (items' : List Live) (whole : Dialogue) (d : ScriptState → Dialogue) (b' : Option BoardPass) → whole ≡ d s.script_state → get nat_cmp lives.transforms number ≡ Some old
      → lock_of b' ≡ lock_of b → ReferencesMatch s.script_state.lives (known s.registry) → PipelinesMatch s.script_state (known s.board) → StopsFor d old (known b) (known b') → StopsIn whole s (viewed ws c sh items' q v r b')
  live-stops number at old items' whole d b' same_d is lock stands posted stops =
      let here : StopsFor d old (known s.board) (known b') = subst (λ (x : State). StopsFor d old (known x.board) (known b')) view stops in
      let found : live_of s.script_state old.label ≡ Some old = ap (live_of s.script_state) (label-is number at old is) ∙ ((live-at number at).found ∙ sym (ap (λ l. Some l) (is-live number at old is))) in
      board-stops whole s (viewed ws c sh items' q v r b') here.calls
      (record { registry = ap (λ (x : State). lock_of x.registry) view; board = lock ∙ ap (λ (x : State). lock_of x.board) view; workers = ap (λ (x : State). x.workers) view; shared = ap (λ (x : State). x.script_state.shared) view })
      (ap (λ (x : State). x.registry) view) stands here.called here.unshut (subst (λ x. BeginsBy x [] here.calls) (sym same_d) (here.begins s.script_state found posted))

  -- the same of an arm that hands nothing in
  pub live-arm : {S A : Type 0} (number : ℕ) (at : Some number ≡ number_of name entries) (old new : Live) (items' : List Live) (d : List ℕ → ScriptState → Dialogue) (b' : Option BoardPass) (answers answers' : List Answer) (result : Result A S)
      → get nat_cmp lives.transforms number ≡ Some old → items' ≡ replaced new s.script_state.lives → lock_of b' ≡ lock_of b → ReferencesMatch s.script_state.lives (known s.registry) → PipelinesMatch s.script_state (known s.board)
      → MatchResult result (λ _. PerformsFor (d old.label) old new (known b) (known b') [] answers answers') (λ _. StopsFor (d old.label) old (known b) (known b'))
      → MatchResult result (λ _. Performs (d label s.script_state) s (viewed ws c sh items' q v r b') answers answers') (λ _. StopsIn (d label s.script_state) s (viewed ws c sh items' q v r b'))
  live-arm number at old new items' d b' answers answers' (Ok a) is set_is lock stands posted held =
      live-holds number at old new items' (d label s.script_state) (d old.label) q v b' [] answers answers' (ap (λ l. d l s.script_state) (sym (label-is number at old is))) is set_is lock (omega arith) (omega arith) stands posted held
  live-arm number at old new items' d b' answers answers' (Err e) is set_is lock stands posted stops =
      live-stops number at old items' (d label s.script_state) (d old.label) b' (ap (λ l. d l s.script_state) (sym (label-is number at old is))) is lock stands posted stops

  -- the same of an arm that hands a request in, which is counted where it was accepted
  pub request-arm : (n number : ℕ) (at : Some number ≡ number_of name entries) (old new : Live) (items' : List Live) (rest : ScriptState → Live → Dialogue) (d : ScriptState → Dialogue) (s' : State) (b' : Option BoardPass) (accepted : Bool) (size : ℕ) (ask : Ask) (answers answers' : List Answer)
      → rest s.script_state old ≡ d s.script_state → get nat_cmp lives.transforms number ≡ Some old → items' ≡ replaced new s.script_state.lives → lock_of b' ≡ lock_of b → ReferencesMatch s.script_state.lives (known s.registry) → PipelinesMatch s.script_state (known s.board) → size ≡ ask_size ask
      → PerformsFor d old new (known b) (known b') (asks_if accepted ask) answers answers' → s' ≡ counted (viewed ws c sh items' q v r b') accepted size → Performs (with_either s.script_state n label (rest s.script_state)) s s' answers answers'
  request-arm n number at old new items' rest d s' b' accepted size ask answers answers' same_d is set_is lock stands posted sized held e =
      let same : with_either s.script_state n label (rest s.script_state) ≡ d s.script_state = ap (λ o. for_live s.script_state n o ENOENT (rest s.script_state)) (either-at number at) ∙ (ap (rest s.script_state) (sym (is-live number at old is)) ∙ same_d) in
      subst (λ x. Performs (with_either s.script_state n label (rest s.script_state)) s x answers answers') (sym e) (by_accepted accepted same held)
    where
      by_accepted : (accepted : Bool) → with_either s.script_state n label (rest s.script_state) ≡ d s.script_state → PerformsFor d old new (known b) (known b') (asks_if accepted ask) answers answers'
          → Performs (with_either s.script_state n label (rest s.script_state)) s (counted (viewed ws c sh items' q v r b') accepted size) answers answers'
      by_accepted true same held =
          live-holds number at old new items' (with_either s.script_state n label (rest s.script_state)) d (q + 1) (v + size) b' (ask ∷ []) answers answers' same is set_is lock refl (ap (λ m. v + m) (sized ∙ sym (zero-add (ask_size ask)))) stands posted held
      by_accepted false same held =
          live-holds number at old new items' (with_either s.script_state n label (rest s.script_state)) d q v b' [] answers answers' same is set_is lock (omega arith) (omega arith) stands posted held

  -- or it wasn't handed in, or not answered
  pub request-stops : (n number : ℕ) (at : Some number ≡ number_of name entries) (old : Live) (items' : List Live) (rest : ScriptState → Live → Dialogue) (d : ScriptState → Dialogue) (b' : Option BoardPass)
      → rest s.script_state old ≡ d s.script_state → get nat_cmp lives.transforms number ≡ Some old → lock_of b' ≡ lock_of b → ReferencesMatch s.script_state.lives (known s.registry) → PipelinesMatch s.script_state (known s.board)
      → StopsFor d old (known b) (known b') → StopsIn (with_either s.script_state n label (rest s.script_state)) s (viewed ws c sh items' q v r b')
  request-stops n number at old items' rest d b' same_d is lock stands posted stops =
      let same : with_either s.script_state n label (rest s.script_state) ≡ d s.script_state = ap (λ o. for_live s.script_state n o ENOENT (rest s.script_state)) (either-at number at) ∙ (ap (rest s.script_state) (sym (is-live number at old is)) ∙ same_d) in
      live-stops number at old items' (with_either s.script_state n label (rest s.script_state)) d b' same is lock stands posted stops

  -- what the session has counted is what was accepted from it
  pub bytes-at : PipelinesMatch s.script_state (known s.board) → sum_by ask_size (accepted_by (known b).number (known b).seen) ≡ v
  bytes-at posted = subst (λ (x : State). sum_by ask_size (accepted_by (known x.board).number (known x.board).seen) ≡ x.script_state.bytes) (sym view) posted.bytes

  -- the same of an arm whose text is added to a reply
  pub text-arm : {S A : Type 0} (number : ℕ) (at : Some number ≡ number_of name entries) (old new : Live) (items' : List Live) (d : List ℕ → ScriptState → Dialogue) (b' : Option BoardPass) (text text' : List ℕ) (result : Result A S)
      → get nat_cmp lives.transforms number ≡ Some old → items' ≡ replaced new s.script_state.lives → lock_of b' ≡ lock_of b → ReferencesMatch s.script_state.lives (known s.registry) → PipelinesMatch s.script_state (known s.board)
      → MatchResult result (λ _. SaysFor (d old.label) old new (known b) (known b') text text') (λ _. BreaksFor (known b) (known b') text text')
      → MatchResult result (λ _. SaysBy 1 (d label s.script_state) s (viewed ws c sh items' q v r b') text text') (λ _. BreaksOff (d label s.script_state) s (viewed ws c sh items' q v r b') text text')
  text-arm number at old new items' d b' text text' (Ok a) is set_is lock stands posted says =
      record {
        said = says.said;
        held = live-holds number at old new items' (d label s.script_state) (d old.label) q v b' [] [] says.said (ap (λ l. d l s.script_state) (sym (label-is number at old is))) is set_is lock (omega arith) (omega arith) stands posted says.held;
        says = says.says;
      }
  text-arm number at old new items' d b' text text' (Err e) is set_is lock stands posted breaks =
      record {
        stops = live-stops number at old items' (d label s.script_state) (d old.label) b' (ap (λ l. d l s.script_state) (sym (label-is number at old is))) is lock stands posted (for-uncalled (d old.label) old (known b) (known b') breaks.called breaks.unshut);
        called = subst (λ (x : State). Called (known x.board) (known b') []) view breaks.called;
        says = breaks.says;
      }
