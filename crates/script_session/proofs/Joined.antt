-- The end of input of the first script, when the others have ended.
use Rattle.std.proofs.Common.{◌≡◌, ℕ, ◌+◌, ◌<◌, ◌≤◌, Bool, true, false, cond, arith, List, [], ◌∷◌, ◌++◌, length, map, Option, Some, None, Result, Ok, Err, refl, sym, ap, subst, ◌∙◌, append-nil, append_assoc, take, drop, slice_index_or}
use Rattle.std.specs.Prelude.{◌==◌, All, MatchResult}
use Rattle.std.specs.List.{flat_map}
use Rattle.std.proofs.lemmas.Bool.{eqb-true}
use Rattle.std.proofs.lemmas.List.{length-map, take_more, drop_more, take-append-drop, take_all}
use Rattle.std.proofs.lemmas.List.Elements.{All-nil, All-cons, All-head, All-tail, All-append, filter-append}
use Rattle.kc_base.specs.declared.callback_list.Callback.{Callback}
use Rattle.board.specs.declared.entry.BoardEntry.{BoardEntry}
use Rattle.board.specs.declared.entry.BoardEntry.TheVariants as event
use Rattle.board.specs.Alone.{PeersGone}
use Rattle.board.specs.Entries.{is_of, entries_of, submissions, front, is_closed, caller_of}
use Rattle.board.specs.HandedOut.{completions}
use Rattle.board.specs.Legal.{MayManage, LegalBoard, is_shut}
use Rattle.board.specs.Order.{handed_out, completed, numbers_below}
use Rattle.board.specs.PipelineHistory.{IsDrained}
use Rattle.reply_text.specs.Answers.{text_of}
use Rattle.reply_text.specs.declared.answers.Answer.{Answer}
use Rattle.transforms.specs.declared.ask.Ask.{Ask}
use Rattle.transforms.specs.declared.request.Finished.{Finished}
use Rattle.turn_lock.specs.PassLaws.{AtTurn, Enters, Leaves, IsOwn}
use Rattle.turn_lock.specs.Passes.{knows}
use Rattle.turn_lock.specs.Turns.{Known, Has, sees}
use Rattle.dialogues.specs.BoardCalls.{BoardCall, Goes, Collects, Shuts, origin_of}
use Rattle.dialogues.specs.Dialogues.{Dialogue, Ends, Posts}
use Rattle.dialogues.specs.PipelineCommands.{lets_go, let_all_go, drains_at_end, drain_all, end_said, said_at_end, notice_said}
use Rattle.dialogues.specs.Questions.{Shut}
use Rattle.dialogues.specs.Transcripts.{IsTranscript}
use Rattle.dialogues.specs.ScriptState.{Live, PipelineState}
use Rattle.recorded_calls.specs.Passes.{BoardPass, known}
use Rattle.recorded_calls.specs.Pipelines.{Owns, Unchanged, notice_by}
use Rattle.recorded_calls.specs.SharedCalls.{SharingLaws, KnowsLent, KnowsGathered, HaveEnded, Rejoined, Rejoins, Beside, Gathers, DrainedLent, GatheredHandsAll}
use Rattle.recorded_calls.proofs.BoardCalls.{shut-changed}
use Rattle.recorded_calls.proofs.Boarding.{kept-same, called-more, leaves-kept}
use Rattle.recorded_calls.proofs.Gathers.{shut-ended, shut-gathered, joined-gone, sees-own}
use Rattle.script_session.specs.TransformChanges.{AreApart}
use Rattle.script_session.specs.EndOfInput.{LeadsBy, EndsShut}
use Rattle.script_session.specs.PerformedDialogue.{HasSeenMore}
use Rattle.script_session.specs.SharedEnd.{IsJoined, EndsFirst, StopsFirst, GoesBeside, SeesBeside, HasFreed, HasDelivered, MovesLent, MovesAllLent, AreToMove, EndsLent, MayShut, ShutsBeside, MeetsBeside}
use Rattle.script_session.specs.Loans.{HasLent}
use Rattle.script_session.specs.States.{is_at, owners}
use Rattle.script_session.specs.CallbackText.{callback_said}
use Rattle.script_session.proofs.Arms.{called-sees, kept-sees}
use Rattle.script_session.proofs.Changing.{first-free, rest-free, apart-of, beside}
use Rattle.script_session.proofs.Ended.{HandingAllDrains}
use Rattle.script_session.proofs.Leading.{leads-nothing, leads-then, leads-same, goes-none, goes-free, goes-held, drains-none, drains-some}
use Rattle.script_session.proofs.Lends.{lent-stay}
use Rattle.script_session.proofs.Moving.{sees-on}
use Rattle.script_session.proofs.Piped.{said-is, count-is}

-- ---- beside workers alone

goes-same : (k : Known (BoardEntry Ask)) → LegalBoard k.seen → PeersGone k → GoesBeside k k []
goes-same k legal gone =
    record { called = (kept-same k legal).called; legal = legal; ended = refl; gone = gone; owned = λ p owns. owns; unshut = refl }

beside-goes : (k l : Known (BoardEntry Ask)) → PeersGone k → Beside k l → GoesBeside k l []
beside-goes k l gone b =
    record { called = b.kept.called; legal = b.kept.legal; ended = b.ended; gone = b.gone; owned = b.kept.owned; unshut = b.kept.unshut gone.first }

gathers-goes : (k l : Known (BoardEntry Ask)) (pipe pipe' : PipelineState) (calls : List BoardCall) → Gathers k l pipe pipe' calls → GoesBeside k l calls
gathers-goes k l pipe pipe' calls g =
    record { called = g.called; legal = g.legal; ended = g.ended; gone = g.gone; owned = g.owned; unshut = g.unshut }

goes-then : (k l m : Known (BoardEntry Ask)) (a b : List BoardCall) → GoesBeside k l a → GoesBeside l m b → GoesBeside k m (a ++ b)
goes-then k l m a b first later =
    record {
      called = called-more k l m a b first.called later.called;
      legal = later.legal;
      ended = later.ended ∙ first.ended;
      gone = later.gone;
      owned = λ p owns. first.owned p (later.owned p owns);
      unshut = later.unshut ∙ first.unshut;
    }

pub goes-sees : (k l : Known (BoardEntry Ask)) (calls : List BoardCall) → GoesBeside k l calls → SeesBeside k l
goes-sees k l calls goes = record { sees = called-sees k l calls goes.called (λ zero_is. goes.unshut); ended = goes.ended }

pub beside-sees : (k l : Known (BoardEntry Ask)) → PeersGone k → Beside k l → SeesBeside k l
beside-sees k l gone b = goes-sees k l [] (beside-goes k l gone b)

pub kept-beside : (k l : Known (BoardEntry Ask)) → Unchanged k l → l.ended ≡ k.ended → SeesBeside k l
kept-beside k l kept ended = record { sees = kept-sees k l kept; ended = ended }

pub beside-then : (k l m : Known (BoardEntry Ask)) → SeesBeside k l → SeesBeside l m → SeesBeside k m
beside-then k l m first later = record { sees = sees-on k l m first.sees later.sees; ended = later.ended ∙ first.ended }

-- ---- a pipeline is let go

free-lent : (k : Known (BoardEntry Ask)) (pipe : PipelineState) → pipe.held ≡ false → KnowsLent k pipe → KnowsLent k (record pipe { held = false })
free-lent k pipe free on =
    record { opened = on.opened; managed = on.managed; shared = on.shared; masked = on.masked; held = on.held ∙ free; queue = λ held. absurd cc; delivered = on.delivered }

pub frees-none : (k : Known (BoardEntry Ask)) (pipe : Option PipelineState) → pipe ≡ None → LegalBoard k.seen → PeersGone k → MovesLent HasLent HasFreed (lets_go pipe) pipe k k [] []
frees-none k pipe none legal gone =
    record {
      calls = [];
      said = [];
      goes = goes-same k legal gone;
      leads = goes-none pipe none;
      now = subst (HasFreed k) (sym none) tt;
      before = λ other apart on. on;
      after = λ other apart on. on;
      says = refl;
    }

pub frees-free : (k : Known (BoardEntry Ask)) (of : Option PipelineState) (pipe : PipelineState) → of ≡ Some pipe → pipe.held ≡ false → LegalBoard k.seen → PeersGone k → HasLent k of → MovesLent HasLent HasFreed (lets_go of) of k k [] []
frees-free k of pipe has free legal gone on =
    record {
      calls = [];
      said = [];
      goes = goes-same k legal gone;
      leads = goes-free of pipe has free;
      now = subst (HasFreed k) (sym has) (free-lent k pipe free (subst (HasLent k) has on));
      before = λ other apart on. on;
      after = λ other apart on. on;
      says = refl;
    }

-- a pipeline apart from the one on which the caller called
lent-apart : (k l : Known (BoardEntry Ask)) (pipe pipe' : PipelineState) (calls : List BoardCall) → Gathers k l pipe pipe' calls → (other : Option PipelineState) → AreApart (Some pipe) other → HasLent k other → HasLent l other
lent-apart k l pipe pipe' calls g None apart on = tt
lent-apart k l pipe pipe' calls g (Some other) apart on = g.lent other (apart-of pipe other apart) on

freed-apart : (k l : Known (BoardEntry Ask)) (pipe pipe' : PipelineState) (calls : List BoardCall) → Gathers k l pipe pipe' calls → (other : Option PipelineState) → AreApart (Some pipe) other → HasFreed k other → HasFreed l other
freed-apart k l pipe pipe' calls g None apart on = tt
freed-apart k l pipe pipe' calls g (Some other) apart on = g.lent (record other { held = false }) (apart-of pipe other apart) on

pub frees-held : (k l : Known (BoardEntry Ask)) (of : Option PipelineState) (pipe : PipelineState) → of ≡ Some pipe → pipe.held ≡ true → HasLent k of → Gathers k l pipe (record pipe { held = false }) (Goes pipe.number ∷ []) → MovesLent HasLent HasFreed (lets_go of) of k l [] []
frees-held k l of pipe has held on g =
    let pipe' : PipelineState = record pipe { held = false } in
    record {
      calls = Goes pipe.number ∷ [];
      said = [];
      goes = gathers-goes k l pipe pipe' (Goes pipe.number ∷ []) g;
      leads = goes-held of pipe has held;
      now = subst (HasFreed l) (sym has) (g.now_lent (subst (HasLent k) has on));
      before = λ other apart on. lent-apart k l pipe pipe' (Goes pipe.number ∷ []) g other (subst (λ p. AreApart p other) has apart) on;
      after = λ other apart on. freed-apart k l pipe pipe' (Goes pipe.number ∷ []) g other (subst (λ p. AreApart p other) has apart) on;
      says = refl;
    }

-- ---- a pipeline is drained

pub drains-no : (k : Known (BoardEntry Ask)) (label : List ℕ) (pipe : Option PipelineState) (answers : List Answer) → pipe ≡ None → LegalBoard k.seen → PeersGone k → MovesLent HasFreed HasDelivered (drains_at_end label pipe) pipe k k answers answers
drains-no k label pipe answers none legal gone =
    record {
      calls = [];
      said = [];
      goes = goes-same k legal gone;
      leads = drains-none label pipe none;
      now = subst (HasDelivered k) (sym none) tt;
      before = λ other apart on. on;
      after = λ other apart on. on;
      says = sym (append-nil answers);
    }

-- what isn't known yet of a pipeline that was let go doesn't matter to what is
pub freed-lent : (k : Known (BoardEntry Ask)) (of : Option PipelineState) (pipe now : PipelineState) → of ≡ Some pipe → now ≡ record pipe { held = false; lines = [] } → HasFreed k of → KnowsLent k now
freed-lent k of pipe now has is freed =
    let on : KnowsLent k (record pipe { held = false }) = subst (HasFreed k) has freed in
    subst (KnowsLent k) (sym is)
    (record { opened = on.opened; managed = on.managed; shared = on.shared; masked = on.masked; held = on.held; queue = on.queue; delivered = on.delivered })

beside-freed : (k m : Known (BoardEntry Ask)) → Beside k m → (other : Option PipelineState) → HasFreed k other → HasFreed m other
beside-freed k m b None on = tt
beside-freed k m b (Some other) on = b.lent (record other { held = false }) on

paid-apart : (k m l : Known (BoardEntry Ask)) (pipe pipe' : PipelineState) (calls : List BoardCall) → Beside k m → Gathers m l pipe pipe' calls → (other : Option PipelineState) → AreApart (Some pipe) other → HasDelivered k other → HasDelivered l other
paid-apart k m l pipe pipe' calls b g None apart on = tt
paid-apart k m l pipe pipe' calls b g (Some other) apart on =
    let far : (on.0.number == pipe.number) ≡ false = ap (λ n. n == pipe.number) on.1 ∙ apart-of pipe other apart in
    (on.0, on.1, g.gathered on.0 far (b.gathered on.0 on.2), on.3)

module _ (k m l : Known (BoardEntry Ask)) (label : List ℕ) (of : Option PipelineState) (first pipe : PipelineState) (count : ℕ) (callbacks : List (Callback Finished)) (answers answers' : List Answer)
    (has : of ≡ Some first) (same : pipe.number ≡ first.number) (gone : PeersGone k) (b : Beside k m) (on : KnowsGathered m pipe) (g : DrainedLent m l pipe callbacks) (paid : pipe.delivered + completions callbacks ≡ length pipe.lines)
    (counts : count ≡ completions callbacks) (e : answers' ≡ answers ++ (map (callback_said pipe.lines) callbacks ++ end_said label count)) where
  abbrev call_of : ℕ → BoardCall
  call_of number = Collects number (record { notices = map (notice_by pipe.lines) callbacks; all_done = true })

  number_apart : (other : Option PipelineState) → AreApart of other → AreApart (Some pipe) other
  number_apart other apart = λ number at. subst (λ p. AreApart p other) has apart number (ap (λ n. n == number) (sym same) ∙ at)

  pub drains-gathered : MovesLent HasFreed HasDelivered (drains_at_end label of) of k l answers answers'
  drains-gathered =
      let notices = map (notice_by pipe.lines) callbacks in
      let pipe' : PipelineState = record pipe { delivered = pipe.delivered + completions callbacks } in
      let calls : List BoardCall = call_of pipe.number ∷ [] in
      record {
        calls = calls;
        said = said_at_end label notices;
        goes = goes-then k m l [] calls (beside-goes k m gone b) (gathers-goes m l pipe pipe' calls g);
        leads = subst (λ n. LeadsBy (drains_at_end label of) (call_of n ∷ []) (said_at_end label notices)) (sym same) (drains-some label of first notices has);
        now = subst (HasDelivered l) (sym has) (pipe', same, g.now on, paid);
        before = λ other apart on. freed-apart m l pipe pipe' calls g other (number_apart other apart) (beside-freed k m b other on);
        after = λ other apart on. paid-apart k m l pipe pipe' calls b g other (number_apart other apart) on;
        says =
            e ∙ ap (λ x. answers ++ x)
            (ap (λ x. x ++ end_said label count) (sym (said-is pipe.lines callbacks))
            ∙ ap (λ c. map notice_said notices ++ end_said label c) (counts ∙ sym (count-is pipe.lines callbacks)));
      }

pub drains-beside : (k m l : Known (BoardEntry Ask)) (pipe : PipelineState) (callbacks : List (Callback Finished)) → PeersGone k → Beside k m → DrainedLent m l pipe callbacks → SeesBeside k l
drains-beside k m l pipe callbacks gone b g =
    let calls : List BoardCall = Collects pipe.number (record { notices = map (notice_by pipe.lines) callbacks; all_done = true }) ∷ [] in
    goes-sees k l calls (goes-then k m l [] calls (beside-goes k m gone b) (gathers-goes m l pipe (record pipe { delivered = pipe.delivered + completions callbacks }) calls g))

-- ---- a loop over all of them

-- The first so many have gone on, and the others are as they were.
pub record LentOnTheWay (Before After : Known (BoardEntry Ask) → Option PipelineState → Type 0) (all : List Live → Dialogue → Dialogue) (i : ℕ) (lives : List Live) (k l : Known (BoardEntry Ask)) (answers answers' : List Answer) : Type 0 where
  pub moves : MovesAllLent After (all (take i lives)) (take i lives) k l answers answers'
  pub left : All (λ (live : Live). Before l live.pipe) (drop i lives)
  pub apart : (p : ℕ) → owners p lives ≤ 1

pub lent-sets-out : (Before After : Known (BoardEntry Ask) → Option PipelineState → Type 0) (all : List Live → Dialogue → Dialogue) (lives : List Live) (k : Known (BoardEntry Ask)) (answers : List Answer) → ((rest : Dialogue) → all [] rest ≡ rest) → AreToMove Before lives k
    → LentOnTheWay Before After all 0 lives k k answers answers
lent-sets-out Before After all lives k answers nothing are =
    record {
      moves = record {
        calls = [];
        said = [];
        goes = goes-same k are.legal are.gone;
        leads = leads-same (λ rest. rest) (all []) [] [] nothing leads-nothing;
        now = All-nil (λ (live : Live). After k live.pipe);
        says = sym (append-nil answers);
      };
      left = are.pipes;
      apart = are.apart;
    }

-- what is so of each transform that hasn't the pipeline
stay-apart : (P Q : Option PipelineState → Type 0) (pipe : Option PipelineState) (lives : List Live) → ((other : Option PipelineState) → AreApart pipe other → P other → Q other) → ((number : ℕ) → is_at number pipe ≡ true → owners number lives ≡ 0)
    → All (λ (x : Live). P x.pipe) lives → All (λ (x : Live). Q x.pipe) lives
stay-apart P Q pipe [] stay free all = All-nil (λ (x : Live). Q x.pipe)
stay-apart P Q pipe (x ∷ xs) stay free all =
    All-cons (λ (x : Live). Q x.pipe) x xs
    (stay x.pipe (λ number at. first-free (is_at number x.pipe) (owners number xs) (free number at)) (All-head (λ (x : Live). P x.pipe) x xs all))
    (stay-apart P Q pipe xs stay (λ number at. rest-free (is_at number x.pipe) (owners number xs) (free number at)) (All-tail (λ (x : Live). P x.pipe) x xs all))

module _ (Before After : Known (BoardEntry Ask) → Option PipelineState → Type 0) (all : List Live → Dialogue → Dialogue) (one : Live → Dialogue → Dialogue) (more : (before : List Live) (live : Live) (rest : Dialogue) → all (before ++ live ∷ []) rest ≡ all before (one live rest))
    (i : ℕ) (lives : List Live) (live : Live) (k l l' : Known (BoardEntry Ask)) (answers said said' : List Answer)
    (way : LentOnTheWay Before After all i lives k l answers said) (within : i < length lives) (here : live ≡ slice_index_or lives i live) where
  rest_is : drop i lives ≡ live ∷ drop (i + 1) lives
  rest_is = drop_more lives i live within ∙ ap (λ x. x ∷ drop (i + 1) lives) (sym here)

  left_here : All (λ (x : Live). Before l x.pipe) (live ∷ drop (i + 1) lives)
  left_here = subst (All (λ (x : Live). Before l x.pipe)) rest_is way.left

  -- its pipeline is as the caller knows it
  pub next-lent : Before l live.pipe
  next-lent = All-head (λ (x : Live). Before l x.pipe) live (drop (i + 1) lives) left_here

  split : lives ≡ take i lives ++ live ∷ drop (i + 1) lives
  split = sym (take-append-drop i lives) ∙ ap (λ x. take i lives ++ x) rest_is

  fewer : take (i + 1) lives ≡ take i lives ++ live ∷ []
  fewer = take_more lives i live within ∙ ap (λ x. take i lives ++ x ∷ []) (sym here)

  pub lent-further : MovesLent Before After (one live) live.pipe l l' said said' → LentOnTheWay Before After all (i + 1) lives k l' answers said'
  lent-further m =
      let most : (number : ℕ) → owners number (take i lives ++ live ∷ drop (i + 1) lives) ≤ 1 = λ number. subst (λ ls. owners number ls ≤ 1) split (way.apart number) in
      let done : All (λ (x : Live). After l' x.pipe) (take i lives ++ live ∷ []) =
      All-append (λ (x : Live). After l' x.pipe) (take i lives) (live ∷ [])
      (stay-apart (After l) (After l') live.pipe (take i lives) m.after (λ number at. (beside number (take i lives) (drop (i + 1) lives) live (most number) at).0) way.moves.now)
      (All-cons (λ (x : Live). After l' x.pipe) live [] m.now (All-nil (λ (x : Live). After l' x.pipe))) in
      record {
        moves = record {
          calls = way.moves.calls ++ m.calls;
          said = way.moves.said ++ m.said;
          goes = goes-then k l l' way.moves.calls m.calls way.moves.goes m.goes;
          leads = leads-same (λ rest. all (take i lives) (one live rest)) (all (take (i + 1) lives)) (way.moves.calls ++ m.calls) (way.moves.said ++ m.said)
              (λ rest. ap (λ ls. all ls rest) fewer ∙ more (take i lives) live rest)
              (leads-then (all (take i lives)) (one live) way.moves.calls m.calls way.moves.said m.said way.moves.leads m.leads);
          now = subst (All (λ (x : Live). After l' x.pipe)) (sym fewer) done;
          says = m.says ∙ (ap (λ a. a ++ m.said) way.moves.says ∙ append_assoc answers way.moves.said m.said);
        };
        left = stay-apart (Before l) (Before l') live.pipe (drop (i + 1) lives) m.before (λ number at. (beside number (take i lives) (drop (i + 1) lives) live (most number) at).1)
            (All-tail (λ (x : Live). Before l x.pipe) live (drop (i + 1) lives) left_here);
        apart = way.apart;
      }

pub all-lent : (Before After : Known (BoardEntry Ask) → Option PipelineState → Type 0) (all : List Live → Dialogue → Dialogue) (i : ℕ) (lives : List Live) (k l : Known (BoardEntry Ask)) (answers said : List Answer) → LentOnTheWay Before After all i lives k l answers said → length lives ≤ i
    → MovesAllLent After (all lives) lives k l answers said
all-lent Before After all i lives k l answers said way past = subst (λ ls. MovesAllLent After (all ls) ls k l answers said) (take_all i lives past) way.moves

-- ---- both loops

-- what was let go is to be drained
pub then-drains : (lives : List Live) (k l : Known (BoardEntry Ask)) → AreToMove HasLent lives k → MovesAllLent HasFreed (let_all_go lives) lives k l [] [] → AreToMove HasFreed lives l
then-drains lives k l are m = record { legal = m.goes.legal; gone = m.goes.gone; pipes = m.now; apart = are.apart }

pub ends-lent : (lives : List Live) (k l m : Known (BoardEntry Ask)) (none answers : List Answer) (text text' : List ℕ) → none ≡ [] → MovesAllLent HasFreed (let_all_go lives) lives k l [] [] → MovesAllLent HasDelivered (drain_all lives) lives l m none answers
    → text' ≡ text ++ flat_map text_of answers → EndsLent lives k m text text'
ends-lent lives k l m none answers text text' empty lets drains put =
    record {
      calls = lets.calls ++ drains.calls;
      said = lets.said ++ drains.said;
      goes = goes-then k l m lets.calls drains.calls lets.goes drains.goes;
      leads = leads-then (let_all_go lives) (drain_all lives) lets.calls drains.calls lets.said drains.said lets.leads drains.leads;
      paid = drains.now;
      says = put ∙ ap (λ a. text ++ flat_map text_of a) (drains.says ∙ (ap (λ x. x ++ drains.said) empty ∙ ap (λ x. x ++ drains.said) lets.says));
    }

-- ---- turns

-- a turn without an entry leaves who has ended
turn-ended : (k l : Known (BoardEntry Ask)) → AtTurn caller_of LegalBoard k (λ h. Leaves k h l) → l.ended ≡ k.ended
turn-ended k l turn = ap (λ (x : Known (BoardEntry Ask)). x.ended) turn.2

-- workers alone are left after the shut too
shut-gone : SharingLaws → (k l : Known (BoardEntry Ask)) → PeersGone k → AtTurn caller_of LegalBoard k (λ h. Enters LegalBoard k h (event.Shut k.number) l) → PeersGone l
shut-gone laws k l gone turn =
    subst PeersGone (sym turn.2.0) ((laws.gone k turn.0 (event.Shut k.number) turn.1 gone).1 gone.first)

pub shuts-board : SharingLaws → (k l : Known (BoardEntry Ask)) → PeersGone k → AtTurn caller_of LegalBoard k (λ h. Enters LegalBoard k h (event.Shut k.number) l) → ShutsBeside k l
shuts-board laws k l gone turn =
    record {
      shut = shut-changed laws.laws k l turn;
      ended = shut-ended k l turn;
      gone = shut-gone laws k l gone turn;
      gathered = λ pipe on. shut-gathered laws k l pipe turn gone on;
    }

pub meets-board : SharingLaws → (k l : Known (BoardEntry Ask)) → HaveEnded k → AtTurn caller_of LegalBoard k (λ h. Leaves k h l) → MeetsBeside k l
meets-board laws k l have turn =
    record { kept = leaves-kept laws.laws k l turn.0 turn.1 turn.2; ended = turn-ended k l turn; own = sees-own k l turn; gone = joined-gone laws k l have turn }

-- the caller's pass is at hand, and how the end was held is known
pub as-pass : {S A : Type 0} (held given : Result A S) (caller : Option BoardPass) (pass : BoardPass) → held ≡ given → caller ≡ Some pass → MatchResult held (λ _. MayShut (known caller)) (λ _. HaveEnded (known caller))
    → MatchResult given (λ _. MayShut (knows pass)) (λ _. HaveEnded (knows pass))
as-pass held given caller pass is same may =
    subst (λ o. MatchResult given (λ _. MayShut (known o)) (λ _. HaveEnded (known o))) same (subst (λ r. MatchResult r (λ _. MayShut (known caller)) (λ _. HaveEnded (known caller))) is may)

pub as-caller : {S A : Type 0} (held given : Result A S) (caller : Option BoardPass) (pass : BoardPass) (l : Known (BoardEntry Ask)) → held ≡ given → caller ≡ Some pass
    → MatchResult given (λ _. ShutsBeside (knows pass) l) (λ _. MeetsBeside (knows pass) l) → MatchResult held (λ _. ShutsBeside (known caller) l) (λ _. MeetsBeside (known caller) l)
as-caller held given caller pass l is same left =
    subst (λ r. MatchResult r (λ _. ShutsBeside (known caller) l) (λ _. MeetsBeside (known caller) l)) (sym is)
    (subst (λ o. MatchResult given (λ _. ShutsBeside (known o) l) (λ _. MeetsBeside (known o) l)) (sym same) left)

-- ---- the whole end

-- What the first caller knows at its first turn, when the others have been joined into its pass.
pub record MeetsFirst (j m : Known (BoardEntry Ask)) : Type 0 where
  pub kept : Unchanged j m
  pub had : m.ended ≡ j.ended
  pub gone : PeersGone m
  pub again : (b : Known (BoardEntry Ask)) → IsOwn caller_of b → Rejoined b j → Rejoins b m

-- the pass is a caller's by then
pub meets-first : (pass : BoardPass) (o : Option BoardPass) (m : Known (BoardEntry Ask)) → o ≡ Some pass → HaveEnded (knows pass) → AtTurn caller_of LegalBoard (known o) (λ h. Leaves (known o) h m) → Unchanged (known o) m
    → ((b : Known (BoardEntry Ask)) → IsOwn caller_of b → Rejoined b (known o) → Rejoins b m) → (HaveEnded (known o) → PeersGone m) → MeetsFirst (knows pass) m
meets-first pass o m same have turn kept again gone =
    let first : MeetsFirst (known o) m = record { kept = kept; had = turn-ended (known o) m turn; gone = gone (subst (λ x. HaveEnded (known x)) (sym same) have); again = again } in
    subst (λ x. MeetsFirst (known x) m) same first

pub to-move : (lives : List Live) (j m : Known (BoardEntry Ask)) → IsJoined lives j → MeetsFirst j m → AreToMove HasLent lives m
to-move lives j m is meets =
    let was = meets.again is.before is.own is.rejoined in
    record { legal = meets.kept.legal; gone = meets.gone; pipes = lent-stay is.before m lives (by_lent was) is.lent; apart = is.apart }
  where
    by_lent : Rejoins is.before m → (other : Option PipelineState) → HasLent is.before other → HasLent m other
    by_lent was None on = tt
    by_lent was (Some other) on = was.lent other on

still-ended : (j m : Known (BoardEntry Ask)) → m.number ≡ j.number → m.next ≡ j.next → m.ended ≡ j.ended → HaveEnded j → HaveEnded m
still-ended j m number next ended have =
    record {
      first = number ∙ have.first;
      ended = λ n low high.
          let was = have.ended n low (subst (λ x. n < x) next high) in
          (was.0, subst (λ xs. Has (λ x. x ≡ (n, was.0)) xs) (sym ended) was.1);
    }

-- the board isn't shut yet
still-unshut : (lives : List Live) (j m : Known (BoardEntry Ask)) → IsJoined lives j → MeetsFirst j m → is_shut m.seen ≡ false
still-unshut lives j m is meets =
    let was = meets.again is.before is.own is.rejoined in
    was.kept.unshut (sym was.number ∙ (meets.kept.called.number ∙ is.ended.first)) ∙ is.unshut

-- the board may be left
pub may-leave : {S A : Type 0} (held : Result A S) (ended lives : List Live) (j m n : Known (BoardEntry Ask)) (text text' : List ℕ) → IsJoined lives j → MeetsFirst j m → MatchResult held (λ _. EndsLent ended m n text text') (λ _. SeesBeside m n)
    → MatchResult held (λ _. MayShut n) (λ _. HaveEnded n)
may-leave (Ok done) ended lives j m n text text' is meets ends = record { gone = ends.goes.gone; once = ends.goes.unshut ∙ still-unshut lives j m is meets }
may-leave (Err stop) ended lives j m n text text' is meets sees =
    still-ended j n (sees.sees.more.number ∙ meets.kept.called.number) (sees.sees.more.next ∙ meets.kept.called.next) (sees.ended ∙ meets.had) is.ended

-- who owns a pipeline has it among these
paid-among : (lives : List Live) (p : ℕ) (k : Known (BoardEntry Ask)) → 1 ≤ owners p lives → All (λ (x : Live). HasDelivered k x.pipe) lives → (pipe : PipelineState) × (pipe.number ≡ p) × KnowsGathered k pipe × (pipe.delivered ≡ length pipe.lines)
paid-among [] p k some paid = absurd (omega (arith, some))
paid-among (x ∷ xs) p k some paid = by_pipe x.pipe (is_at p x.pipe) refl some (All-head (λ (x : Live). HasDelivered k x.pipe) x xs paid) (λ rest. paid-among xs p k rest (All-tail (λ (x : Live). HasDelivered k x.pipe) x xs paid))
  where
    by_pipe : (pipe : Option PipelineState) (t : Bool) → is_at p pipe ≡ t → 1 ≤ cond t 1 0 + owners p xs → HasDelivered k pipe → (1 ≤ owners p xs → (pipe : PipelineState) × (pipe.number ≡ p) × KnowsGathered k pipe × (pipe.delivered ≡ length pipe.lines))
        → (pipe : PipelineState) × (pipe.number ≡ p) × KnowsGathered k pipe × (pipe.delivered ≡ length pipe.lines)
    by_pipe None true at some on rest = absurd (let e = at in cc)
    by_pipe (Some pipe) true at some on rest = (on.0, on.1 ∙ eqb-true pipe.number p at, on.2, on.3)
    by_pipe pipe false at some on rest = rest (omega (arith, some))

gathered-drained : HandingAllDrains → (k : Known (BoardEntry Ask)) (pipe : PipelineState) → LegalBoard k.seen → KnowsGathered k pipe → pipe.delivered ≡ length pipe.lines → IsDrained (entries_of pipe.number k.seen)
gathered-drained law k pipe legal on paid =
    law k.seen pipe.number legal (on.lent.delivered ∙ (paid ∙ (ap length (sym on.lines) ∙ length-map (submissions (entries_of pipe.number k.seen)) origin_of)))

module _ (drained : HandingAllDrains) (hands : (k : Known (BoardEntry Ask)) (pipe : PipelineState) → GatheredHandsAll k pipe) (lives : List Live) (j m n l : Known (BoardEntry Ask)) (text text' : List ℕ)
    (is : IsJoined lives j) (meets : MeetsFirst j m) (e : EndsLent lives m n text text') (shuts : ShutsBeside n l) where
  -- the shut is an entry of no pipeline
  entries_are : (p : ℕ) → entries_of p l.seen ≡ entries_of p shuts.shut.before
  entries_are p = ap (entries_of p) shuts.shut.last ∙ (filter-append (is_of p) shuts.shut.before (event.Shut n.number ∷ []) ∙ append-nil (entries_of p shuts.shut.before))

  owns-then : (p : ℕ) → Owns (sees n shuts.shut.before) p → (pipe : PipelineState) × (pipe.number ≡ p) × KnowsGathered l pipe × (pipe.delivered ≡ length pipe.lines)
  owns-then p owns =
      let was = meets.again is.before is.own is.rejoined in
      let here = e.goes.owned p (shuts.shut.kept.owned p owns) in
      let first = was.kept.owned p (subst (MayManage (entries_of p m.seen)) was.number here.0, here.1) in
      let one = paid-among lives p n (is.owned p first) e.paid in
      (one.0, one.1, shuts.gathered one.0 one.2, one.3)

  ends-shut-first : EndsShut l
  ends-shut-first =
      let before = shuts.shut.before in
      let number = shuts.shut.called.number in
      record {
        before = before;
        shut = shuts.shut.last ∙ ap (λ x. before ++ event.Shut x ∷ []) (sym number);
        finished = λ p may open_ended.
            let one = owns-then p (subst (MayManage (entries_of p before)) number may, open_ended) in
            let all = gathered-drained drained l one.0 shuts.shut.legal one.2 one.3 in
            subst (λ es. front es ≡ length (submissions es)) (entries_are p)
            (subst (λ x. front (entries_of x l.seen) ≡ length (submissions (entries_of x l.seen))) one.1 all.0);
      }

  ends-first : EndsFirst lives j l text text'
  ends-first =
      let calls = e.calls ++ Shuts ∷ [] in
      record {
        calls = calls;
        said = e.said ++ [];
        called = called-more j m l [] calls meets.kept.called (called-more m n l e.calls (Shuts ∷ []) e.goes.called shuts.shut.called);
        is = λ script_state lives_are. subst (λ ls. IsTranscript (let_all_go ls (drain_all ls (Posts Shut λ done. Ends script_state))) (record { registry = []; board = calls; answers = e.said ++ []; after = Some script_state })) (sym lives_are)
            (e.leads (Posts Shut λ done. Ends script_state) [] (Shuts ∷ []));
        says = e.says ∙ ap (λ a. text ++ flat_map text_of a) (sym (append-nil e.said));
        own = shuts.shut.own;
        ended = shuts.ended ∙ (e.goes.ended ∙ meets.had);
        shut = ends-shut-first;
        gone = shuts.gone;
        handed = λ p owns.
            let one = owns-then p (subst (MayManage (entries_of p shuts.shut.before)) shuts.shut.called.number (subst (λ es. MayManage es l.number) (entries_are p) owns.0), ap is_closed (sym (entries_are p)) ∙ owns.1) in
            subst (λ x. completed (handed_out (entries_of x l.seen)) ≡ numbers_below (length (submissions (entries_of x l.seen)))) one.1 (hands l one.0 shuts.shut.legal one.2 one.3);
      }

stops-first : (lives : List Live) (j m n l : Known (BoardEntry Ask)) → IsJoined lives j → MeetsFirst j m → SeesBeside m n → MeetsBeside n l → StopsFirst j l
stops-first lives j m n l is meets sees last =
    let zero_is : m.number ≡ 0 = meets.kept.called.number ∙ is.ended.first in
    record {
      sees = sees-on j m l (kept-sees j m meets.kept) (sees-on m n l sees.sees (kept-sees n l last.kept));
      own = last.own;
      ended = last.ended ∙ (sees.ended ∙ meets.had);
      gone = last.gone;
      unshut = last.kept.unshut (sees.sees.more.number ∙ zero_is) ∙ (sees.sees.unshut zero_is ∙ still-unshut lives j m is meets);
    }

pub first-done : {S A : Type 0} → HandingAllDrains → ((k : Known (BoardEntry Ask)) (pipe : PipelineState) → GatheredHandsAll k pipe) → (held : Result A S) (lives : List Live) (j m n l : Known (BoardEntry Ask)) (text text' : List ℕ)
    → IsJoined lives j → MeetsFirst j m → MatchResult held (λ _. EndsLent lives m n text text') (λ _. SeesBeside m n) → MatchResult held (λ _. ShutsBeside n l) (λ _. MeetsBeside n l)
    → MatchResult held (λ _. EndsFirst lives j l text text') (λ _. StopsFirst j l)
first-done drained hands (Ok done) lives j m n l text text' is meets ends shuts = ends-first drained hands lives j m n l text text' is meets ends shuts
first-done drained hands (Err stop) lives j m n l text text' is meets sees last = stops-first lives j m n l is meets sees last

pub first-more : {S A : Type 0} (held : Result A S) (lives : List Live) (j l : Known (BoardEntry Ask)) (text text' : List ℕ) → MatchResult held (λ _. EndsFirst lives j l text text') (λ _. StopsFirst j l) → HasSeenMore j l
first-more (Ok done) lives j l text text' ends = record { number = ends.called.number; next = ends.called.next; seen = ends.called.seen }
first-more (Err stop) lives j l text text' stops = stops.sees.more

pub first-ended : {S A : Type 0} (held : Result A S) (lives : List Live) (j l : Known (BoardEntry Ask)) (text text' : List ℕ) → MatchResult held (λ _. EndsFirst lives j l text text') (λ _. StopsFirst j l) → l.ended ≡ j.ended
first-ended (Ok done) lives j l text text' ends = ends.ended
first-ended (Err stop) lives j l text text' stops = stops.ended
