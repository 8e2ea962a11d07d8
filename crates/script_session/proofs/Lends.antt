-- The first script shares its transforms, one after another.
use Rattle.std.proofs.Common.{◌≡◌, ℕ, ◌+◌, ◌<◌, ◌≤◌, List, [], ◌∷◌, ◌++◌, length, Option, Some, None, refl, sym, ap, subst, ◌∙◌, take, drop, slice_index_or, append-nil}
use Rattle.std.specs.Prelude.{All}
use Rattle.std.proofs.lemmas.List.{take_more, drop_more, take-append-drop, take_all}
use Rattle.std.proofs.lemmas.List.Elements.{All-nil, All-cons, All-head, All-tail, All-append}
use Rattle.board.specs.declared.entry.BoardEntry.{BoardEntry}
use Rattle.board.specs.Legal.{LegalBoard}
use Rattle.transforms.specs.declared.ask.Ask.{Ask}
use Rattle.turn_lock.specs.Turns.{Known}
use Rattle.dialogues.specs.BoardCalls.{Shares}
use Rattle.dialogues.specs.Dialogues.{Dialogue, Posts}
use Rattle.dialogues.specs.Questions.{Share}
use Rattle.dialogues.specs.SharedTransforms.{shares, share_all}
use Rattle.dialogues.specs.ScriptState.{Live, PipelineState}
use Rattle.recorded_calls.specs.Pipelines.{Called, Unchanged}
use Rattle.recorded_calls.specs.SharedCalls.{KnowsLent, Lends}
use Rattle.recorded_calls.proofs.Boarding.{kept-same, called-more}
use Rattle.script_session.specs.TransformChanges.{AreApart}
use Rattle.script_session.specs.EndOfInput.{PipelinesMatchState}
use Rattle.script_session.specs.PerformedDialogue.{SeesOn}
use Rattle.script_session.specs.Loans.{HasLent, SharesOne, SharesAll}
use Rattle.script_session.specs.States.{HasPipe, owners}
use Rattle.script_session.proofs.Arms.{sees-same, called-sees}
use Rattle.script_session.proofs.Changing.{IsOn, apart-of, beside, others-stay}
use Rattle.script_session.proofs.Leading.{leads-nothing, leads-then, leads-same}
use Rattle.script_session.proofs.Moving.{sees-on}

-- ---- one transform

pub shares-none : (k : Known (BoardEntry Ask)) (live : Live) → live.pipe ≡ None → LegalBoard k.seen → SharesOne live k k
shares-none k live none legal =
    let kept = kept-same k legal in
    record {
      calls = [];
      called = kept.called;
      legal = legal;
      leads = leads-same (λ rest. rest) (shares live.pipe) [] [] (λ rest. ap (λ p. shares p rest) none) leads-nothing;
      lent = subst (HasLent k) (sym none) tt;
      others = λ other apart on. on;
      kept = λ other on. on;
      owned = λ p owns. owns;
      unshut = λ zero_is. refl;
    }

pub shares-one : (k l : Known (BoardEntry Ask)) (live : Live) (pipe : PipelineState) → live.pipe ≡ Some pipe → Lends k l pipe → SharesOne live k l
shares-one k l live pipe has lends =
    record {
      calls = Shares pipe.number ∷ [];
      called = lends.called;
      legal = lends.legal;
      leads = leads-same (λ rest. Posts (Share pipe.number) λ done. rest) (shares live.pipe) (Shares pipe.number ∷ []) [] (λ rest. ap (λ p. shares p rest) has) (λ rest r b. refl);
      lent = subst (HasLent l) (sym has) lends.now;
      others = λ other apart on. by_other other (subst (λ p. AreApart p other) has apart) on;
      kept = by_lent;
      owned = lends.owned;
      unshut = lends.unshut;
    }
  where
    by_other : (other : Option PipelineState) → AreApart (Some pipe) other → HasPipe k other → HasPipe l other
    by_other None apart on = tt
    by_other (Some other) apart on = lends.others other (apart-of pipe other apart) on

    by_lent : (other : Option PipelineState) → HasLent k other → HasLent l other
    by_lent None on = tt
    by_lent (Some other) on = lends.lent other on

-- ---- a loop over all of them

-- The first so many are shared, and the others are as they were.
pub record SharedUpTo (i : ℕ) (lives : List Live) (k l : Known (BoardEntry Ask)) : Type 0 where
  pub front : SharesAll (take i lives) k l
  pub left : All (IsOn l) (drop i lives)
  pub apart : (number : ℕ) → owners number lives ≤ 1
  pub sees : SeesOn k l

pub none-shared : (lives : List Live) (k : Known (BoardEntry Ask)) → PipelinesMatchState lives k → SharedUpTo 0 lives k k
none-shared lives k are =
    let kept = kept-same k are.2.legal in
    record {
      front = record { calls = []; called = kept.called; legal = are.2.legal; leads = leads-nothing; lent = All-nil (λ (x : Live). HasLent k x.pipe); owned = λ p owns. owns; unshut = λ zero_is. refl };
      left = subst (All (IsOn k)) are.1 are.2.pipes;
      apart = λ number. subst (λ ls. owners number ls ≤ 1) are.1 (are.2.apart number);
      sees = sees-same k;
    }

share-more : (before : List Live) (live : Live) (rest : Dialogue) → share_all (before ++ live ∷ []) rest ≡ share_all before (shares live.pipe rest)
share-more [] live rest = refl
share-more (x ∷ before) live rest = ap (shares x.pipe) (share-more before live rest)

pub lent-stay : (k l : Known (BoardEntry Ask)) (lives : List Live) → ((other : Option PipelineState) → HasLent k other → HasLent l other) → All (λ (x : Live). HasLent k x.pipe) lives → All (λ (x : Live). HasLent l x.pipe) lives
lent-stay k l [] stays all = All-nil (λ (x : Live). HasLent l x.pipe)
lent-stay k l (x ∷ xs) stays all =
    All-cons (λ (x : Live). HasLent l x.pipe) x xs (stays x.pipe (All-head (λ (x : Live). HasLent k x.pipe) x xs all)) (lent-stay k l xs stays (All-tail (λ (x : Live). HasLent k x.pipe) x xs all))

module _ (i : ℕ) (lives : List Live) (live : Live) (k l l' : Known (BoardEntry Ask)) (way : SharedUpTo i lives k l) (within : i < length lives) (here : live ≡ slice_index_or lives i live) where
  rest_is : drop i lives ≡ live ∷ drop (i + 1) lives
  rest_is = drop_more lives i live within ∙ ap (λ x. x ∷ drop (i + 1) lives) (sym here)

  left_here : All (IsOn l) (live ∷ drop (i + 1) lives)
  left_here = subst (All (IsOn l)) rest_is way.left

  -- its pipeline is as the caller knows it
  pub next-on : HasPipe l live.pipe
  next-on = All-head (IsOn l) live (drop (i + 1) lives) left_here

  split : lives ≡ take i lives ++ live ∷ drop (i + 1) lives
  split = sym (take-append-drop i lives) ∙ ap (λ x. take i lives ++ x) rest_is

  fewer : take (i + 1) lives ≡ take i lives ++ live ∷ []
  fewer = take_more lives i live within ∙ ap (λ x. take i lives ++ x ∷ []) (sym here)

  pub shares-more : SharesOne live l l' → SharedUpTo (i + 1) lives k l'
  shares-more one =
      let most : (number : ℕ) → owners number (take i lives ++ live ∷ drop (i + 1) lives) ≤ 1 = λ number. subst (λ ls. owners number ls ≤ 1) split (way.apart number) in
      record {
        front = record {
          calls = way.front.calls ++ one.calls;
          called = called-more k l l' way.front.calls one.calls way.front.called one.called;
          legal = one.legal;
          leads = leads-same (λ rest. share_all (take i lives) (shares live.pipe rest)) (share_all (take (i + 1) lives)) (way.front.calls ++ one.calls) []
              (λ rest. ap (λ ls. share_all ls rest) fewer ∙ share-more (take i lives) live rest)
              (leads-then (share_all (take i lives)) (shares live.pipe) way.front.calls one.calls [] [] way.front.leads one.leads);
          lent = subst (All (λ (x : Live). HasLent l' x.pipe)) (sym fewer)
              (All-append (λ (x : Live). HasLent l' x.pipe) (take i lives) (live ∷ []) (lent-stay l l' (take i lives) one.kept way.front.lent)
              (All-cons (λ (x : Live). HasLent l' x.pipe) live [] one.lent (All-nil (λ (x : Live). HasLent l' x.pipe))));
          owned = λ p owns. way.front.owned p (one.owned p owns);
          unshut = λ zero_is. one.unshut (way.front.called.number ∙ zero_is) ∙ way.front.unshut zero_is;
        };
        left = others-stay l l' live.pipe (drop (i + 1) lives) one.others (λ number at. (beside number (take i lives) (drop (i + 1) lives) live (most number) at).1) (All-tail (IsOn l) live (drop (i + 1) lives) left_here);
        apart = way.apart;
        sees = sees-on k l l' way.sees (called-sees l l' one.calls one.called one.unshut);
      }

-- at the end all are shared
pub all-shared : (i : ℕ) (lives : List Live) (k l : Known (BoardEntry Ask)) → SharedUpTo i lives k l → length lives ≤ i → SharesAll lives k l
all-shared i lives k l way past = subst (λ ls. SharesAll ls k l) (take_all i lives past) way.front

-- and stay so at a turn without an entry
pub shares-then : (lives : List Live) (k l m : Known (BoardEntry Ask)) → SharesAll lives k l → Unchanged l m → ((pipe : PipelineState) → KnowsLent l pipe → KnowsLent m pipe) → SharesAll lives k m
shares-then lives k l m all kept stays =
    record {
      calls = all.calls;
      called = subst (Called k m) (append-nil all.calls) (called-more k l m all.calls [] all.called kept.called);
      legal = kept.legal;
      leads = all.leads;
      lent = lent-stay l m lives by_lent all.lent;
      owned = λ p owns. all.owned p (kept.owned p owns);
      unshut = λ zero_is. kept.unshut (all.called.number ∙ zero_is) ∙ all.unshut zero_is;
    }
  where
    by_lent : (other : Option PipelineState) → HasLent l other → HasLent m other
    by_lent None on = tt
    by_lent (Some other) on = stays other on
