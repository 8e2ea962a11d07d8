-- What passes have seen, and the histories that go on from it.
use Rattle.std.proofs.Common.{◌≡◌, ℕ, Bool, true, false, List, [], ◌∷◌, ◌++◌, refl, sym, ap, subst, ◌∙◌, append-nil, append_assoc}
use Rattle.std.specs.Prelude.{◌==◌, if◌then◌else◌, filter}
use Rattle.std.proofs.lemmas.List.Elements.{filter-append}
use Rattle.alg_registry.specs.declared.entry.RegEntry.{RegEntry}
use Rattle.alg_registry.specs.declared.entry.RegEntry.TheVariants as entry
use Rattle.alg_registry.specs.Rows.{caller_of as reg_caller}
use Rattle.board.specs.declared.entry.BoardEntry.{BoardEntry}
use Rattle.board.specs.declared.entry.BoardEntry.TheVariants as event
use Rattle.board.specs.Entries.{caller_of as board_caller}
use Rattle.dialogues.specs.BoardCalls.{board_calls, board_calls_from, is_called}
use Rattle.dialogues.specs.InTurn.{AreInTurnBy}
use Rattle.dialogues.specs.RegistryCalls.{RegCall, reg_calls, reg_calls_from, AllSettled}
use Rattle.templates.specs.LookResults.{is_asked}
use Rattle.transforms.specs.declared.ask.Ask.{Ask}
use Rattle.turn_lock.specs.Turns.{Known, StartsWith, of}
use Rattle.script_run.specs.Laws.{Laws}
use Rattle.script_session.specs.PerformedDialogue.{HasSeenMore}
use Rattle.script_run.specs.Runs.{OthersFollow}

module _ {E : Type 0} where
  pub starts-same : (xs : List E) → StartsWith xs xs
  starts-same xs = ([], sym (append-nil xs))

  pub starts-trans : (a b c : List E) → StartsWith b a → StartsWith c b → StartsWith c a
  starts-trans a b c f g = (f.0 ++ g.0, g.1 ∙ (ap (λ x. x ++ g.0) f.1 ∙ append_assoc a f.0 g.0))

  pub none-pass : (t : Bool) (x : E) (xs : List E) → (if t then x ∷ xs else xs) ≡ [] → (t ≡ false) × (xs ≡ [])
  none-pass true x xs e = absurd cc
  none-pass false x xs e = (refl, e)

  -- where nobody of this number made an entry, none passes a test that others fail
  pub none-of : (by : E → ℕ) (n : ℕ) (test : E → Bool) → ((e : E) → (by e == n) ≡ false → test e ≡ false) → (xs : List E) → of by n xs ≡ [] → filter test xs ≡ []
  none-of by n test fails [] none = refl
  none-of by n test fails (x ∷ xs) none =
      let rest = none-pass (by x == n) x (of by n xs) none in
      ap (λ b. if b then x ∷ filter test xs else filter test xs) (fails x rest.0) ∙ none-of by n test fails xs rest.1

  pub sees-same : (k : Known E) → HasSeenMore k k
  sees-same k = record { number = refl; next = refl; seen = starts-same k.seen }

  pub sees-then : (k l m : Known E) → HasSeenMore k l → HasSeenMore l m → HasSeenMore k m
  sees-then k l m a b = record { number = b.number ∙ a.number; next = b.next ∙ a.next; seen = starts-trans k.seen l.seen m.seen a.seen b.seen }

  -- others follow on others
  pub others-then : (by : E → ℕ) (k l : Known E) (h : List E) → l.number ≡ k.number → OthersFollow by k l.seen → OthersFollow by l h → OthersFollow by k h
  others-then by k l h same a b = (
    a.0 ++ b.0,
    b.1 ∙ (ap (λ xs. xs ++ b.0) a.1 ∙ append_assoc k.seen a.0 b.0),
    filter-append (λ e. by e == k.number) a.0 b.0 ∙ (ap (λ xs. xs ++ of by k.number b.0) a.2 ∙ subst (λ n. of by n b.0 ≡ []) same b.2),
  )

-- ---- what the script called stays

pub not-asked : (n : ℕ) (e : RegEntry) → (reg_caller e == n) ≡ false → is_asked n e ≡ false
not-asked n (entry.Enlist by spec answer) e = e
not-asked n (entry.Look by text true answer) e = refl
not-asked n (entry.Look by text false answer) e = e
not-asked n (entry.Unlist by driver answer) e = e
not-asked n (entry.Get by id ok) e = e
not-asked n (entry.Put by id) e = e
not-asked n (entry.Refs by driver) e = e
not-asked n (entry.List by) e = e
not-asked n (entry.Claim by larval) e = refl
not-asked n (entry.End by larval answer) e = refl
not-asked n (entry.Waited by larval) e = refl

pub not-called : (n : ℕ) (e : BoardEntry Ask) → (board_caller e == n) ≡ false → is_called n e ≡ false
not-called n (event.Born by pipe shape) e = e
not-called n (event.Submit by pipe number ask) e = e
not-called n (event.Enq by pipe ask backlog answer) e = e
not-called n (event.Hold by pipe) e = e
not-called n (event.Go by pipe) e = e
not-called n (event.Collect by pipe to) e = e
not-called n (event.Close by pipe) e = e
not-called n (event.Share by pipe) e = e
not-called n (event.Mask by pipe mask) e = e
not-called n (event.Shut by) e = e
not-called n (event.Take by pipe number) e = refl
not-called n (event.Finish by pipe number) e = refl
not-called n (event.Deq by pipe number started) e = refl
not-called n (event.Done by pipe number) e = refl

pub unasked : (k : Known RegEntry) (rest : List RegEntry) → k.number ≡ 0 → of reg_caller k.number rest ≡ [] → filter (is_asked 0) rest ≡ []
unasked k rest zero none = none-of reg_caller 0 (is_asked 0) (not-asked 0) rest (subst (λ n. of reg_caller n rest ≡ []) zero none)

uncalled : (k : Known (BoardEntry Ask)) (rest : List (BoardEntry Ask)) → k.number ≡ 0 → of board_caller k.number rest ≡ [] → filter (is_called 0) rest ≡ []
uncalled k rest zero none = none-of board_caller 0 (is_called 0) (not-called 0) rest (subst (λ n. of board_caller n rest ≡ []) zero none)

-- where a history goes on the script's calls are those of before, and more
pub reg_calls-on : Laws → (seen h : List RegEntry) → AllSettled (reg_calls 0 seen) → (starts : StartsWith h seen) → reg_calls 0 h ≡ reg_calls 0 seen ++ reg_calls_from (seen ++ starts.0) 0 seen starts.0
reg_calls-on laws seen h settled starts = ap (λ xs. reg_calls 0 xs) starts.1 ∙ laws.registry_calls 0 seen starts.0 settled

pub board_calls-on : Laws → (seen h : List (BoardEntry Ask)) → (starts : StartsWith h seen) → board_calls 0 h ≡ board_calls 0 seen ++ board_calls_from 0 seen starts.0
board_calls-on laws seen h starts = ap (λ xs. board_calls 0 xs) starts.1 ∙ laws.board_calls 0 seen starts.0

-- and no more, where others alone follow
pub reg_calls-same : Laws → (k : Known RegEntry) (h : List RegEntry) → k.number ≡ 0 → AllSettled (reg_calls 0 k.seen) → OthersFollow reg_caller k h → reg_calls 0 h ≡ reg_calls 0 k.seen
reg_calls-same laws k h zero settled others =
    reg_calls-on laws k.seen h settled (others.0, others.1)
    ∙ (ap (λ cs. reg_calls 0 k.seen ++ cs) (laws.unasked (k.seen ++ others.0) 0 k.seen others.0 (unasked k others.0 zero others.2))
    ∙ append-nil (reg_calls 0 k.seen))

pub board_calls-same : Laws → (k : Known (BoardEntry Ask)) (h : List (BoardEntry Ask)) → k.number ≡ 0 → OthersFollow board_caller k h → board_calls 0 h ≡ board_calls 0 k.seen
board_calls-same laws k h zero others =
    board_calls-on laws k.seen h (others.0, others.1)
    ∙ (ap (λ cs. board_calls 0 k.seen ++ cs) (laws.uncalled 0 k.seen others.0 (uncalled k others.0 zero others.2))
    ∙ append-nil (board_calls 0 k.seen))

-- calls in turn stay so where others alone follow
pub in_turn-on : Laws → (width : ℕ) (k : Known RegEntry) (h : List RegEntry) (calls : List RegCall) → k.number ≡ 0 → OthersFollow reg_caller k h → AreInTurnBy width 0 calls [] k.seen → AreInTurnBy width 0 calls [] h
in_turn-on laws width k h calls zero others turns =
    subst (λ cs. AreInTurnBy width 0 cs [] h) (append-nil calls)
    (laws.later_calls width 0 calls [] [] k.seen h turns (laws.any_width width 0 [] k.seen h (others.0, others.1, unasked k others.0 zero others.2)))
