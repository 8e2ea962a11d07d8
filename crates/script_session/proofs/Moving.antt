-- Transforms change one after another, each by its part of the end of input.
use Rattle.std.proofs.Common.{◌≡◌, ℕ, ◌+◌, ◌<◌, ◌≤◌, List, [], ◌∷◌, ◌++◌, length, map, Result, Ok, Err, refl, sym, ap, subst, ◌∙◌, append-nil, append_assoc, arith, take, drop, get_or, slice_index_or}
use Rattle.std.specs.Prelude.{All, MatchResult}
use Rattle.std.specs.Result.{IsErr}
use Rattle.std.proofs.Math.ListN.{set}
use Rattle.std.proofs.lemmas.List.{length-map, map-append, take_more, take_more_set, drop_more, get_or-drop, take-append-drop, take-set, drop-set, drop-set-lt, take_all}
use Rattle.std.proofs.lemmas.List.Elements.{All-nil, All-cons, All-head, All-append}
use Rattle.board.specs.declared.entry.BoardEntry.{BoardEntry}
use Rattle.board.specs.Allowance.{accepted_by}
use Rattle.board.specs.Legal.{LegalBoard, is_shut}
use Rattle.reply_text.specs.declared.answers.Answer.{Answer}
use Rattle.transforms.specs.declared.ask.Ask.{Ask}
use Rattle.turn_lock.specs.Turns.{Known}
use Rattle.dialogues.specs.BoardCalls.{BoardCall}
use Rattle.dialogues.specs.Dialogues.{Dialogue}
use Rattle.dialogues.specs.ScriptState.{Live}
use Rattle.recorded_calls.proofs.Boarding.{kept-same, called-more, starts-trans}
use Rattle.script_session.specs.TransformChanges.{Changes, counting}
use Rattle.script_session.specs.EndOfInput.{Moves, MovesAll, StopsMoving, PipelinesMatchState, AreAllDelivered, AllDelivered, place_of}
use Rattle.script_session.specs.PerformedDialogue.{SeesOn}
use Rattle.script_session.specs.States.{HasPipe}
use Rattle.script_session.proofs.Changing.{IsOn, All-right, list-posted}
use Rattle.script_session.proofs.Leading.{leads-then, leads-same, leads-nothing}
use Rattle.script_session.proofs.Stopping.{moving-then, moving-before, moving-same}

pub sees-on : (k l m : Known (BoardEntry Ask)) → SeesOn k l → SeesOn l m → SeesOn k m
sees-on k l m first later =
    record {
      more = record {
        number = later.more.number ∙ first.more.number;
        next = later.more.next ∙ first.more.next;
        seen = starts-trans k.seen l.seen m.seen first.more.seen later.more.seen;
      };
      unshut = λ zero_is. later.unshut (first.more.number ∙ zero_is) ∙ first.unshut zero_is;
    }

-- ---- one of them changes

-- They are posted again, with the one that changed.
one-posted : (before later : List Live) (live live' : Live) (k l : Known (BoardEntry Ask)) (calls : List BoardCall) → PipelinesMatchState (before ++ live ∷ later) k → Changes live live' k l calls [] → PipelinesMatchState (before ++ live' ∷ later) l
one-posted before later live live' k l calls are changes =
    (counting (record (are.0) { lives = before ++ live' ∷ later }) [], refl, list-posted are.0 before later live live' k l calls [] are.1 are.2 changes)

-- ---- a loop over all of them

-- The first so many have changed, and the others are as they were.
pub record OnTheWay (all : List Live → Dialogue → Dialogue) (i : ℕ) (lives now : List Live) (k l : Known (BoardEntry Ask)) (answers answers' : List Answer) : Type 0 where
  pub moves : MovesAll (all (take i lives)) lives now k l answers answers'
  pub left : drop i now ≡ drop i lives
  pub unshut : k.number ≡ 0 → is_shut l.seen ≡ is_shut k.seen

pub sets-out : (all : List Live → Dialogue → Dialogue) (lives : List Live) (k : Known (BoardEntry Ask)) (answers : List Answer) → ((rest : Dialogue) → all [] rest ≡ rest) → PipelinesMatchState lives k → LegalBoard k.seen
    → OnTheWay all 0 lives lives k k answers answers
sets-out all lives k answers nothing are legal =
    record {
      moves = record {
        calls = [];
        said = [];
        called = (kept-same k legal).called;
        places = refl;
        posted = are;
        accepted = refl;
        leads = leads-same (λ rest. rest) (all []) [] [] nothing leads-nothing;
        says = sym (append-nil answers);
      };
      left = refl;
      unshut = λ zero_is. refl;
    }

abbrev rest_of : List Live → List Live
rest_of [] = []
rest_of (x ∷ xs) = xs

drop-rest : (lives : List Live) (i : ℕ) (d : Live) → i < length lives → rest_of (drop i lives) ≡ drop (i + 1) lives
drop-rest lives i d within = ap rest_of (drop_more lives i d within)

-- what is left begins with the same transform
same-at : (lives now : List Live) (i : ℕ) (d : Live) → drop i now ≡ drop i lives → get_or lives i d ≡ get_or now i d
same-at lives now i d left =
    let place : i + 0 ≡ i = omega arith in
    ap (λ n. get_or lives n d) (sym place)
    ∙ (sym (get_or-drop i lives 0 d) ∙ (ap (λ ls. get_or ls 0 d) (sym left) ∙ (get_or-drop i now 0 d ∙ ap (λ n. get_or now n d) place)))

module _ (all : List Live → Dialogue → Dialogue) (one : Live → Dialogue → Dialogue) (more : (before : List Live) (live : Live) (rest : Dialogue) → all (before ++ live ∷ []) rest ≡ all before (one live rest))
    (lives now : List Live) (i : ℕ) (live live' : Live) (k l l' : Known (BoardEntry Ask)) (answers said said' : List Answer)
    (way : OnTheWay all i lives now k l answers said) (within : i < length now) (here : live ≡ slice_index_or now i live) where
  same_length : length now ≡ length lives
  same_length = sym (length-map now place_of) ∙ (ap length way.moves.places ∙ length-map lives place_of)

  split : now ≡ take i now ++ live ∷ drop (i + 1) now
  split = sym (take-append-drop i now) ∙ ap (λ x. take i now ++ x) (drop_more now i live within ∙ ap (λ x. x ∷ drop (i + 1) now) (sym here))

  pub now_posted : PipelinesMatchState (take i now ++ live ∷ drop (i + 1) now) l
  now_posted = subst (λ ls. PipelinesMatchState ls l) split way.moves.posted

  -- its pipeline is as the caller knows it
  pub on-board : HasPipe l live.pipe
  on-board =
      let are = now_posted in
      All-head (IsOn l) live (drop (i + 1) now) (All-right (IsOn l) (take i now) (live ∷ drop (i + 1) now) (subst (All (IsOn l)) are.1 are.2.pipes))

  set_is : set now i live' ≡ take i now ++ live' ∷ drop (i + 1) now
  set_is = sym (take-append-drop i (set now i live')) ∙ (ap (λ x. x ++ drop i (set now i live')) (take-set now i live') ∙ ap (λ x. take i now ++ x) (drop-set now i live' within))

  fewer : take (i + 1) lives ≡ take i lives ++ live ∷ []
  fewer =
      let inside : i < length lives = subst (λ n. i < n) same_length within in
      take_more lives i live inside ∙ ap (λ x. take i lives ++ x ∷ []) (same-at lives now i live way.left ∙ sym here)

  pub goes-further : (now' : List Live) → now' ≡ set now i live' → Moves (one live) live live' l l' said said' → OnTheWay all (i + 1) lives now' k l' answers said'
  goes-further now' set_to m =
      let is : now' ≡ take i now ++ live' ∷ drop (i + 1) now = set_to ∙ set_is in
      let places : map place_of now' ≡ map place_of now =
      ap (map place_of) is
      ∙ (map-append place_of (take i now) (live' ∷ drop (i + 1) now)
      ∙ (ap (λ p. map place_of (take i now) ++ p ∷ map place_of (drop (i + 1) now)) m.place
      ∙ (sym (map-append place_of (take i now) (live ∷ drop (i + 1) now)) ∙ ap (map place_of) (sym split)))) in
      let inside : i < length lives = subst (λ n. i < n) same_length within in
      let on : i < i + 1 = omega arith in
      record {
        moves = record {
          calls = way.moves.calls ++ m.calls;
          said = way.moves.said ++ m.said;
          called = called-more k l l' way.moves.calls m.calls way.moves.called m.changes.called;
          places = places ∙ way.moves.places;
          posted = subst (λ ls. PipelinesMatchState ls l') (sym is) (one-posted (take i now) (drop (i + 1) now) live live' l l' m.calls now_posted m.changes);
          accepted = m.changes.accepted ∙ (append-nil (accepted_by l.number l.seen) ∙ way.moves.accepted);
          leads = leads-same (λ rest. all (take i lives) (one live rest)) (all (take (i + 1) lives)) (way.moves.calls ++ m.calls) (way.moves.said ++ m.said)
              (λ rest. ap (λ ls. all ls rest) fewer ∙ more (take i lives) live rest)
              (leads-then (all (take i lives)) (one live) way.moves.calls m.calls way.moves.said m.said way.moves.leads m.leads);
          says = m.says ∙ (ap (λ a. a ++ m.said) way.moves.says ∙ append_assoc answers way.moves.said m.said);
        };
        left =
            ap (drop (i + 1)) set_to
            ∙ (drop-set-lt (i + 1) now i live' on
            ∙ (sym (drop-rest now i live within) ∙ (ap rest_of way.left ∙ drop-rest lives i live inside)));
        unshut = λ zero_is. m.changes.unshut (way.moves.called.number ∙ zero_is) ∙ way.unshut zero_is;
      }

  -- or it was broken off with this one
  pub breaks-further : ((before later : List Live) (x : Live) (rest : Dialogue) → all (before ++ x ∷ later) rest ≡ all before (one x (all later rest))) → StopsMoving (one live) l l' → StopsMoving (all lives) k l'
  breaks-further splits stops =
      let inside : i < length lives = subst (λ n. i < n) same_length within in
      let later : Dialogue → Dialogue = all (drop (i + 1) lives) in
      let parted : lives ≡ take i lives ++ live ∷ drop (i + 1) lives =
      sym (take-append-drop i lives) ∙ ap (λ x. take i lives ++ x) (drop_more lives i live inside ∙ ap (λ x. x ∷ drop (i + 1) lives) (same-at lives now i live way.left ∙ sym here)) in
      moving-same (λ rest. all (take i lives) (one live (later rest))) (all lives) k l' (λ rest. ap (λ ls. all ls rest) parted ∙ splits (take i lives) (drop (i + 1) lives) live rest)
      (moving-then (all (take i lives)) (λ rest. one live (later rest)) k l l' way.moves.calls way.moves.said way.moves.leads way.moves.called way.unshut (moving-before (one live) later l l' stops))

  -- and those before it have handed all out
  pub paid-further : (now' : List Live) → now' ≡ set now i live' → AreAllDelivered (take i now) → AllDelivered live'.pipe → AreAllDelivered (take (i + 1) now')
  paid-further now' set_to before this =
      subst AreAllDelivered (sym (ap (take (i + 1)) set_to ∙ take_more_set now i live' within))
      (All-append (λ (x : Live). AllDelivered x.pipe) (take i now) (live' ∷ []) before (All-cons (λ (x : Live). AllDelivered x.pipe) live' [] this (All-nil (λ (x : Live). AllDelivered x.pipe))))

-- at the end all have changed
pub all-moved : (all : List Live → Dialogue → Dialogue) (i : ℕ) (lives now : List Live) (k l : Known (BoardEntry Ask)) (answers said : List Answer) → OnTheWay all i lives now k l answers said → length now ≤ i
    → MovesAll (all lives) lives now k l answers said
all-moved all i lives now k l answers said way past =
    let same : length now ≡ length lives = sym (length-map now place_of) ∙ (ap length way.moves.places ∙ length-map lives place_of) in
    subst (λ ls. MovesAll (all ls) lives now k l answers said) (take_all i lives (subst (λ n. n ≤ i) same past)) way.moves

pub all-paid : (i : ℕ) (now : List Live) → AreAllDelivered (take i now) → length now ≤ i → AreAllDelivered now
all-paid i now paid past = subst AreAllDelivered (take_all i now past) paid

-- memory was wanting
pub fails : {A S : Type 0} (result : Result A S) (Moved : A → Type 0) {Stopped : Type 0} → IsErr result → Stopped → MatchResult result Moved (λ _. Stopped)
fails (Ok done) Moved is stopped = absurd cc
fails (Err stop) Moved is stopped = stopped
