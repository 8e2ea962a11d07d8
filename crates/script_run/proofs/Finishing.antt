-- How a script's part begins and ends beside workers.
use Rattle.std.proofs.Common.{◌≡◌, ℕ, zero, suc, ◌+◌, ◌≤◌, ◌⊎◌, Bool, true, false, ◌&&◌, List, [], ◌∷◌, ◌++◌, Some, refl, sym, ap, subst, ◌∙◌, append-nil, append_assoc, arith, inl, inr, rules}
use Rattle.std.specs.Prelude.{◌==◌, if◌then◌else◌, Result, Ok, Err, Option, None, OnOk, IfOk, IfSome, All, length, take, ◌-◌}
use Rattle.std.specs.List.{list_all, list_any}
use Rattle.std.specs.Io.KnownBytes.{Consumes, IsAtEnd}
use Rattle.std.proofs.KnownBytes.{Consumes-nil}
use Rattle.std.proofs.lemmas.Bool.{eq-eqb, or_left, or_right}
use Rattle.std.proofs.lemmas.List.Elements.{filter-append, All-nil, All-cons, All-weaker}
use Rattle.std.proofs.lemmas.List.Folds.{list_any-append}
use Rattle.alg_registry.specs.declared.entry.RegEntry.{RegEntry}
use Rattle.alg_registry.specs.Legal.{LegalReg}
use Rattle.alg_registry.specs.Made.{Made}
use Rattle.alg_registry.specs.Rows.{caller_of as reg_caller}
use Rattle.board.specs.declared.entry.BoardEntry.{BoardEntry}
use Rattle.board.specs.declared.entry.BoardEntry.TheVariants.{Shut}
use Rattle.board.specs.Entries.{entries_of, caller_of as board_caller}
use Rattle.board.specs.Legal.{MayManage, AreRightAfter, LegalBoard, is_shut, is_shut_entry}
use Rattle.board.specs.Others.{WorkLeavesOwn}
use Rattle.board.specs.PipelineHistory.{is_work}
use Rattle.crew.specs.declared.passes.Passes.{Passes}
use Rattle.crew.specs.Both.{HaveNext, CrewedOnBoth}
use Rattle.crew.specs.Crews.{Crewed, with_next}
use Rattle.dialogues.specs.BoardCalls.{BoardCall, Shuts, board_calls, board_calls_from}
use Rattle.dialogues.specs.Dialogues.{Dialogue}
use Rattle.dialogues.specs.Texts.{IsText}
use Rattle.script_run.specs.ByLines.{IsTextByLines, LinesTell}
use Rattle.script_run.specs.Fronts.{IsFrontText}
use Rattle.dialogues.specs.ScriptState.{start}
use Rattle.script_session.specs.EndOfInput.{EndsShut}
use Rattle.script_session.specs.PerformedDialogue.{HasSeenMore}
use Rattle.script_session.specs.States.{State}
use Rattle.script_text.specs.declared.commands.Line.{Line}
use Rattle.script_text.specs.Script.{script_of}
use Rattle.script_text.specs.Whole.{whole_script}
use Rattle.settled_scripts.specs.PrintedText.{PrintsPlain}
use Rattle.settled_scripts.specs.Settled.{IsSettled, plain_text}
use Rattle.templates.specs.Table.{table}
use Rattle.recorded_calls.specs.Passes.{known, BoardPass}
use Rattle.transforms.specs.declared.ask.Ask.{Ask}
use Rattle.turn_lock.specs.PassLaws.{AtTurn, Enters, Leaves, IsOwn}
use Rattle.turn_lock.specs.Passes.{knows}
use Rattle.turn_lock.specs.Turns.{Known, StartsWith, Each, Shows, of, fresh_pass}
use Rattle.script_run.specs.declared.errors.RunError.{RunError}
use Rattle.script_run.specs.declared.errors.RunError.TheVariants.{NoMemory}
use Rattle.script_run.specs.Answered.{AreAnswered, BeginsWithText, AreAnsweredAfter, AreAnsweredOn, BeginsWithTextAfter, IsShutAlone, ShutsAlone, IsCutOff, IsCutOffAfter, IsCutOffOn, IsBrokenOff, IsBrokenOffAfter, IsBrokenOffOn, LinesTellAfter, MakesFirstAfter, MakesFirstOn, NothingIsBrokenOff, lines_and_next, RunsSource, AnswersSource, RanSource, script_in}
use Rattle.script_run.specs.Laws.{Laws, CrewLaws}
use Rattle.script_run.specs.Endings.{AreCallers, EndsShut as ShutLast, IsShutOnce}
use Rattle.script_run.specs.WithWorkers.{AreHistories, ScriptRan}
use Rattle.script_run.specs.Runs.{Gains, GoesOn, OthersFollow, IsTextAfter, IsFrontAfter, IsByLinesAfter, InTurn, InTurnAfter, IsShutIn, IsUnshutOrEnds, WasShut, AreNew, HasShut, Ended}
use Rattle.script_run.specs.Text.{is_malformed}
use Rattle.shared_registry.specs.Builds.{is_building}
use Rattle.script_run.proofs.Following.{none-pass, starts-trans, sees-then, others-then, board_calls-same}
use Rattle.script_run.proofs.Going.{nothing_fronted, nothing_by_lines, nothing_broken}

map_ok : {A B : Type 0} (result : Result Bool RunError) → (A → B) → OnOk result A → OnOk result B
map_ok (Ok bad) f holds = f holds
map_ok (Err e) f holds = tt

-- ---- the board is shut

module _ (k l : Known (BoardEntry Ask)) where
  pub shut-own : AtTurn board_caller LegalBoard k (λ h. Enters LegalBoard k h (Shut k.number) l) → IsOwn board_caller l
  shut-own t =
      subst (λ x. IsOwn board_caller x) (sym t.2.0)
      (filter-append (λ e. board_caller e == k.number) t.0 (Shut k.number ∷ [])
      ∙ (λ i. t.1.shows.made i ++ (if eq-eqb k.number k.number refl i then Shut k.number ∷ [] else [])))

  pub shut-closed : AtTurn board_caller LegalBoard k (λ h. Enters LegalBoard k h (Shut k.number) l) → is_shut l.seen ≡ true
  shut-closed t = ap (λ x. is_shut x.seen) t.2.0 ∙ (list_any-append is_shut_entry t.0 (Shut k.number ∷ []) ∙ or_right (is_shut t.0) true refl)

  -- what was shut stays shut
  pub shut-stays : AtTurn board_caller LegalBoard k (λ h. Leaves k h l) → is_shut k.seen ≡ true → is_shut l.seen ≡ false → ⊥
  shut-stays t shut not =
      let still : is_shut l.seen ≡ true = ap (λ x. is_shut x.seen) t.2 ∙ (ap (λ h. is_shut h) t.1.goes_on ∙ (list_any-append is_shut_entry k.seen t.1.others ∙ or_left (is_shut k.seen) (is_shut t.1.others) shut)) in
      let bad : true ≡ false = sym still ∙ not in
      cc

-- where the board is found shut that a session has shut last, or not at all, others have gone on since
module _ (own : (h es : List (BoardEntry Ask)) (caller : ℕ) → WorkLeavesOwn h es caller) (k m : Known (BoardEntry Ask)) (first : k.number ≡ 0) (t : AtTurn board_caller LegalBoard k (λ h. Leaves k h m)) where
  -- others shut nothing
  unshut-stays : is_shut k.seen ≡ false → is_shut m.seen ≡ false
  unshut-stays not =
      ap (λ x. is_shut x.seen) t.2
      ∙ (ap (λ h. is_shut h) t.1.goes_on
      ∙ ((own k.seen t.1.others k.number (subst LegalBoard t.1.goes_on t.1.kept, ap (λ es. list_all is_work es) t.1.apart)).1 first ∙ not))

  pub found-shut : is_shut m.seen ≡ true → IsUnshutOrEnds k → WasShut m.seen
  found-shut is (inl not) = let bad : true ≡ false = sym is ∙ unshut-stays not in absurd cc
  found-shut is (inr ends) = record {
    before = ends.before;
    after = t.1.others;
    history = ap (λ x. x.seen) t.2 ∙ (t.1.goes_on ∙ (ap (λ h. h ++ t.1.others) (ends.shut ∙ ap (λ n. ends.before ++ Shut n ∷ []) first) ∙ append_assoc ends.before (Shut 0 ∷ []) t.1.others));
    others = subst (λ n. of board_caller n t.1.others ≡ []) first t.1.apart;
  }

pub now-shut : (m l : Known (BoardEntry Ask)) → m.number ≡ 0 → AtTurn board_caller LegalBoard m (λ h. Enters LegalBoard m h (Shut m.number) l) → WasShut l.seen
now-shut m l first u = record {
  before = u.0;
  after = [];
  history = ap (λ x. x.seen) u.2.0 ∙ ap (λ n. u.0 ++ Shut n ∷ []) first;
  others = refl;
}

-- what was seen since is others', and then the shut
pub leaves-alone : (k l : Known (BoardEntry Ask)) → AtTurn board_caller LegalBoard k (λ h. Leaves k h l) → ShutsAlone board_caller k l
leaves-alone k l t = (t.1.others, t.1.apart, inl (ap (λ x. x.seen) t.2 ∙ t.1.goes_on))

pub shuts-alone : (k m l : Known (BoardEntry Ask)) → AtTurn board_caller LegalBoard k (λ h. Leaves k h m) → AtTurn board_caller LegalBoard m (λ h. Enters LegalBoard m h (Shut m.number) l) → ShutsAlone board_caller k l
shuts-alone k m l t u =
    let number : m.number ≡ k.number = ap (λ x. x.number) t.2 in
    let apart : of board_caller k.number u.1.others ≡ [] = subst (λ n. of board_caller n u.1.others ≡ []) number u.1.apart in
    let before : u.0 ≡ k.seen ++ (t.1.others ++ u.1.others) = u.1.goes_on ∙ (ap (λ h. h ++ u.1.others) (ap (λ x. x.seen) t.2 ∙ t.1.goes_on) ∙ append_assoc k.seen t.1.others u.1.others) in (
      t.1.others ++ u.1.others,
      filter-append (λ e. board_caller e == k.number) t.1.others u.1.others ∙ (λ i. t.1.apart i ++ apart i),
      inr (ap (λ x. x.seen) u.2.0 ∙ (λ i. before i ++ Shut (number i) ∷ [])),
    )

-- the script's calls are those of before, and maybe the shut
calls-shut : Laws → (k l : Known (BoardEntry Ask)) → k.number ≡ 0 → ShutsAlone board_caller k l → (more : List BoardCall) × IsShutAlone more × (board_calls 0 l.seen ≡ board_calls 0 k.seen ++ more)
calls-shut laws k l first alone = by-shut alone.2
  where
    before : board_calls 0 (k.seen ++ alone.0) ≡ board_calls 0 k.seen
    before = board_calls-same laws k (k.seen ++ alone.0) first (alone.0, refl, alone.1)

    shut-call : (h : List (BoardEntry Ask)) (n : ℕ) → n ≡ 0 → board_calls_from 0 h (Shut n ∷ []) ≡ Shuts ∷ []
    shut-call h n is = subst (λ m. board_calls_from 0 h (Shut m ∷ []) ≡ Shuts ∷ []) (sym is) refl

    by-shut : (l.seen ≡ k.seen ++ alone.0) ⊎ (l.seen ≡ (k.seen ++ alone.0) ++ Shut k.number ∷ []) → (more : List BoardCall) × IsShutAlone more × (board_calls 0 l.seen ≡ board_calls 0 k.seen ++ more)
    by-shut (inl same) = ([], inl refl, ap (λ h. board_calls 0 h) same ∙ (before ∙ sym (append-nil (board_calls 0 k.seen))))
    by-shut (inr shut) = (
      Shuts ∷ [],
      inr refl,
      ap (λ h. board_calls 0 h) shut
          ∙ (laws.board_calls 0 (k.seen ++ alone.0) (Shut k.number ∷ [])
          ∙ (λ i. before i ++ shut-call (k.seen ++ alone.0) k.number first i)),
    )

-- ---- what a script's part leaves

pub ends-shut : (k : Known (BoardEntry Ask)) → EndsShut k → is_shut k.seen ≡ true
ends-shut k e = ap (λ h. is_shut h) e.shut ∙ (list_any-append is_shut_entry e.before (Shut k.number ∷ []) ∙ or_right (is_shut e.before) true refl)

-- what others add leaves the shut where it is
pub shut-in : (k l : Known (BoardEntry Ask)) → k.number ≡ 0 → EndsShut k → OthersFollow board_caller k l.seen → IsShutIn l.seen
shut-in k l first e others = record {
  before = e.before;
  after = others.0;
  history = others.1 ∙ (ap (λ h. h ++ others.0) (e.shut ∙ ap (λ n. e.before ++ Shut n ∷ []) first) ∙ append_assoc e.before (Shut 0 ∷ []) others.0);
  others = subst (λ n. of board_caller n others.0 ≡ []) first others.2;
  finished = λ p may open_. e.finished p (subst (λ n. MayManage (entries_of p e.before) n) (sym first) may) open_;
}

-- A session began with the passes p and gave back those of q, but that the board's was qb until the board was shut.
pub record IsSessionOf (workers : ℕ) (p q : Passes Ask) (qb : BoardPass) (s s' : State) : Type 0 where
  pub was : s ≡ record { workers = workers; script_state = start 0; registry = Some p.registry; board = Some p.board }
  pub now : (s'.registry ≡ Some q.registry) × (s'.board ≡ Some qb)
  pub goes : GoesOn s s'
  pub new : AreNew p
  pub more : HasSeenMore (knows qb) (knows q.board)
  pub shut : is_shut (knows qb).seen ≡ true → OthersFollow board_caller (knows qb) (knows q.board).seen
  pub own : IsOwn board_caller (knows q.board)
  pub closed : IsUnshutOrEnds (knows qb) → WasShut (knows q.board).seen

module _ (workers : ℕ) (p q : Passes Ask) (qb : BoardPass) (s s' : State) (of_ : IsSessionOf workers p q qb s s') where
  pub same-workers : s.workers ≡ workers
  same-workers = ap (λ (x : State). x.workers) of_.was

  pub at_registry : known s'.registry ≡ knows q.registry
  at_registry = ap (λ o. known o) of_.now.0

  pub at_board : known s'.board ≡ knows qb
  at_board = ap (λ o. known o) of_.now.1

  goes-board : HasSeenMore (knows p.board) (knows qb)
  goes-board = subst (λ x. HasSeenMore x (knows qb)) (ap (λ (x : State). known x.board) of_.was) (subst (λ x. HasSeenMore (known s.board) x) at_board of_.goes.board)

  zero-then : (knows qb).number ≡ 0
  zero-then = goes-board.number ∙ of_.new.board.0

  pub part-of : IsUnshutOrEnds (known s'.board) → HasShut p q
  part-of unshut = record {
    registry = subst (λ x. HasSeenMore x (knows q.registry)) (ap (λ (x : State). known x.registry) of_.was) (subst (λ x. HasSeenMore (known s.registry) x) at_registry of_.goes.registry);
    board = sees-then (knows p.board) (knows qb) (knows q.board) goes-board of_.more;
    own = of_.own;
    shut = of_.closed (subst IsUnshutOrEnds at_board unshut);
  }

  -- what follows on the passes given back follows on what the session knew
  pub from-registry : (r : List RegEntry) → StartsWith r (knows q.registry).seen → StartsWith r (known s'.registry).seen
  from-registry r = subst (λ x. StartsWith r x.seen → StartsWith r (known s'.registry).seen) at_registry (λ starts. starts)

  pub from-board : (b : List (BoardEntry Ask)) → StartsWith b (knows q.board).seen → StartsWith b (known s'.board).seen
  from-board b starts = subst (λ x. StartsWith b x.seen) (sym at_board) (starts-trans (knows qb).seen (knows q.board).seen b of_.more.seen starts)

  pub others-registry : (r : List RegEntry) → OthersFollow reg_caller (knows q.registry) r → OthersFollow reg_caller (known s'.registry) r
  others-registry r = subst (λ x. OthersFollow reg_caller x r → OthersFollow reg_caller (known s'.registry) r) at_registry (λ others. others)

  module _ (ends : EndsShut (known s'.board)) where
    ends-then : EndsShut (knows qb)
    ends-then = subst EndsShut at_board ends

    followed-then : OthersFollow board_caller (knows qb) (knows q.board).seen
    followed-then = of_.shut (ends-shut (knows qb) ends-then)

    pub others-board : (b : List (BoardEntry Ask)) → OthersFollow board_caller (knows q.board) b → OthersFollow board_caller (known s'.board) b
    others-board b others = subst (λ x. OthersFollow board_caller x b) (sym at_board) (others-then board_caller (knows qb) (knows q.board) b of_.more.number followed-then others)

    pub was-shut_in : IsShutIn (knows q.board).seen
    was-shut_in = shut-in (knows qb) (knows q.board) zero-then ends-then followed-then

  -- ---- a script's

  module _ (lines : List Line) (held held' : Option (List ℕ)) where
    front-on : Gains held held' (IsFrontAfter s.workers lines (known s'.registry) (known s'.board)) → Gains held held' (IsFrontAfter workers lines (knows q.registry) (knows q.board))
    front-on g = (
      g.0,
      λ r b from_r from_b. subst (λ w. IsFrontText w (start 0) 0 lines r b g.0) same-workers (g.1 r b (from-registry r from_r) (from-board b from_b)),
      g.2,
    )

    by_lines-on : Gains held held' (IsByLinesAfter s.workers lines (known s'.registry) (known s'.board)) → Gains held held' (IsByLinesAfter workers lines (knows q.registry) (knows q.board))
    by_lines-on g = (
      g.0,
      λ r b from_r from_b. subst (λ w. IsTextByLines w lines r b g.0) same-workers (g.1 r b (from-registry r from_r) (from-board b from_b)),
      g.2,
    )

    ended-on : Gains held held' (IsTextAfter s.workers lines (known s'.registry) (known s'.board)) → InTurnAfter lines (known s'.registry) → IsOwn reg_caller (known s'.registry) → EndsShut (known s'.board)
        → Ended workers lines q held held'
    ended-on g in_turn own ends = record {
      text = (
        g.0,
        λ r b from_r from_b. subst (λ w. IsText w (start 0) 0 lines r b g.0) same-workers (g.1 r b (others-registry r from_r) (others-board ends b from_b)),
        g.2,
      );
      in_turn = subst (InTurnAfter lines) at_registry in_turn;
      own = subst (λ x. IsOwn reg_caller x) at_registry own;
      shut = was-shut_in ends;
    }

    ended-ok : (r : Result Bool RunError) → OnOk r (Gains held held' (IsTextAfter s.workers lines (known s'.registry) (known s'.board))) → OnOk r (InTurnAfter lines (known s'.registry)) → OnOk r (IsOwn reg_caller (known s'.registry)) → OnOk r (EndsShut (known s'.board))
        → OnOk r (Ended workers lines q held held')
    ended-ok (Ok bad) g in_turn own ends = ended-on g in_turn own ends
    ended-ok (Err e) g in_turn own ends = tt

  module _ (laws : Laws) (alone : ShutsAlone board_caller (knows qb) (knows q.board)) (left left' held held' : Option (List ℕ)) (result : Result Bool RunError) (run : RunsSource left left' s s' result held held') where
    answered-on : (lines : List Line) (text : List ℕ) → AreAnsweredAfter s.workers lines (known s'.registry) (known s'.board) text → AreAnsweredOn workers lines (knows q.registry) (knows q.board) text
    answered-on lines text after = λ r b from_r from_b.
        let calls = calls-shut laws (knows qb) (knows q.board) zero-then alone in
        let on_b : board_calls 0 b ≡ board_calls 0 (known s'.board).seen ++ calls.0 =
        board_calls-same laws (knows q.board) b (of_.more.number ∙ zero-then) from_b ∙ (calls.2 ∙ ap (λ k. board_calls 0 k.seen ++ calls.0) (sym at_board)) in
        subst (λ w. AreAnswered w lines r b text) same-workers (after r b calls.0 (others-registry r from_r) on_b calls.1)

    begins-on : (lines : List Line) (text : List ℕ) → BeginsWithTextAfter s.workers lines (known s'.registry) (known s'.board) text → BeginsWithTextAfter workers lines (knows q.registry) (knows q.board) text
    begins-on lines text after = λ r b from_r from_b. subst (λ w. BeginsWithText w lines r b text) same-workers (after r b (from-registry r from_r) (from-board b from_b))

    cut-on : (lines : List Line) (text : List ℕ) → IsCutOffAfter s.workers lines (known s'.registry) (known s'.board) text → IsCutOffOn workers lines (knows q.registry) (knows q.board) text
    cut-on lines text (inl in_line) = inl (record {
      first = in_line.first;
      last = in_line.last;
      left = in_line.left;
      lines_are = in_line.lines_are;
      whole = in_line.whole;
      answered = answered-on (in_line.first ++ in_line.last ∷ []) in_line.whole in_line.answered;
      begins = begins-on in_line.first text in_line.begins;
      front = in_line.front;
    })
    cut-on lines text (inr at_end) =
        let is = at_end.1 in
        inr (record {
          whole = is.whole;
          is_whole = λ r b from_r from_b. subst (λ w. IsText w (start 0) 0 lines r b is.whole) same-workers (is.is_whole r b (others-registry r from_r) (others-board at_end.0 b from_b));
          begins = begins-on lines text is.begins;
          front = is.front;
        })

    tells-on : (lines : List Line) (text : List ℕ) → LinesTellAfter s.workers lines (known s'.registry) (known s'.board) text → LinesTellAfter workers lines (knows q.registry) (knows q.board) text
    tells-on lines text after = λ r b from_r from_b. subst (λ w. LinesTell w lines r b text) same-workers (after r b (from-registry r from_r) (from-board b from_b))

    calls-on : (next : Dialogue) → MakesFirstAfter next (known s'.registry) (known s'.board) → MakesFirstOn next (knows q.registry) (knows q.board)
    calls-on next after = λ r b from_r from_b.
        let calls = calls-shut laws (knows qb) (knows q.board) zero-then alone in
        let on_b : board_calls 0 b ≡ board_calls 0 (known s'.board).seen ++ calls.0 =
        board_calls-same laws (knows q.board) b (of_.more.number ∙ zero-then) from_b ∙ (calls.2 ∙ ap (λ k. board_calls 0 k.seen ++ calls.0) (sym at_board)) in
        after r b calls.0 (others-registry r from_r) on_b calls.1

    broken-on : (lines : List Line) (text : List ℕ) → IsBrokenOffAfter s.workers lines (known s'.registry) (known s'.board) text → IsBrokenOffOn workers lines (knows q.registry) (knows q.board) text
    broken-on lines text (inl cut) = inl (cut-on lines text cut)
    broken-on lines text (inr stop) = inr (record {
      first = stop.first;
      left = stop.left;
      lines_are = stop.lines_are;
      tells = tells-on stop.first text stop.tells;
      calls = subst (λ w. MakesFirstOn (lines_and_next w stop.first stop.left) (knows q.registry) (knows q.board)) same-workers (calls-on (lines_and_next s.workers stop.first stop.left) stop.calls);
    })

    abbrev first-ones : List Line
    first-ones = whole_script (take (length run.given - 65536) run.given)

    pub answered-source : AnswersSource workers left left' p q result held held'
    answered-source =
        let lines = script_of (script_in left run.given) in
        let did = run.lines in
        record {
          given = run.given;
          reads = run.reads;
          answers = record {
            part = part-of did.unshut;
            front = front-on lines held held' did.front;
            by_lines = by_lines-on lines held held' did.by_lines;
            ended = ended-ok lines held held' result did.whole did.in_turn did.own did.shut;
            malformed = did.malformed;
          };
          first = record {
            failed = λ is. let g = did.first.failed is in (g.0, answered-on (whole_script run.given) g.0 g.1, g.2);
            too_long = did.first.too_long;
            up_to = λ is. let u = did.first.up_to is in let g = u.3 in (u.0, u.1, u.2, (g.0, answered-on (whole_script (take u.0 run.given)) g.0 g.1, g.2));
            written = λ is. let g = did.first.written is in (g.0, begins-on first-ones g.0 g.1, g.2);
            whole = map_ok result (λ g. (g.0, begins-on first-ones g.0 g.1, g.2)) did.first.whole;
          };
          own_reads = λ is. subst (λ k. IsOwn reg_caller k) at_registry (did.own_reads is);
          cut = λ is. let c = did.cut is in let g = c.1 in (subst (λ k. IsOwn reg_caller k) at_registry c.0, (g.0, cut-on lines g.0 g.1, g.2));
          broken = λ is. let c = did.broken is in let g = c.1 in (subst (λ k. IsOwn reg_caller k) at_registry c.0, (g.0, broken-on lines g.0 g.1, g.2));
        }

-- ---- what a crew leaves

-- the passes that the script gets
pub next-new : (workers : ℕ) (first p : Passes Ask) → (knows first.board ≡ fresh_pass) × (knows first.registry ≡ fresh_pass) → HaveNext workers first p → AreNew p
next-new workers first p new next =
    let r : Known RegEntry = with_next ((knows first.registry).next + workers) (knows first.registry) in
    record {
      registry = (
        ap (λ x. x.number) next.registry ∙ ap (λ x. x.number) new.1,
        ap (λ x. x.seen) next.registry ∙ ap (λ x. x.seen) new.1,
        ap (λ x. x.made) next.registry ∙ ap (λ x. x.made) new.1,
      );
      board = (
        ap (λ x. x.number) next.board ∙ ap (λ x. x.number) new.0,
        ap (λ x. x.seen) next.board ∙ ap (λ x. x.seen) new.0,
        ap (λ x. x.made) next.board ∙ ap (λ x. x.made) new.0,
      );
    }

module _ {A : Type 0} where
  all_each : (P Q : A → Type 0) → ((x : A) → P x → Q x) → (xs : List A) → Each P xs → All Q xs
  all_each P Q f [] each = All-nil Q
  all_each P Q f (x ∷ xs) each = All-cons Q x xs (f x each.0) (all_each P Q f xs each.1)

  each_each : (P Q : A → Type 0) → ((x : A) → P x → Q x) → (xs : List A) → Each P xs → Each Q xs
  each_each P Q f [] each = tt
  each_each P Q f (x ∷ xs) each = (f x each.0, each_each P Q f xs each.1)

  each_left : (P : A → Type 0) (xs ys : List A) → Each P (xs ++ ys) → Each P xs
  each_left P [] ys each = tt
  each_left P (x ∷ xs) ys each = (each.0, each_left P xs ys each.1)

  each_right : (P : A → Type 0) (xs ys : List A) → Each P (xs ++ ys) → Each P ys
  each_right P [] ys each = each
  each_right P (x ∷ xs) ys each = each_right P xs ys each.1

-- what stands before a part of a legal history is legal
legal-front : (before h es : List (BoardEntry Ask)) → AreRightAfter before (h ++ es) → AreRightAfter before h
legal-front before [] es right = tt
legal-front before (x ∷ h) es right = (right.0, legal-front (before ++ x ∷ []) h es right.1)

-- an entry is the script's or work
abbrev IsEither : ℕ → BoardEntry Ask → Type 0
IsEither workers e = (board_caller e ≤ workers) × ((board_caller e ≡ 0) ⊎ (is_work e ≡ true))

-- what isn't the script's is work
others-work : (workers : ℕ) (es : List (BoardEntry Ask)) → Each (IsEither workers) es → of board_caller 0 es ≡ [] → list_all is_work es ≡ true
others-work workers [] each none = refl
others-work workers (e ∷ es) each none =
    let rest = none-pass (board_caller e == 0) e (of board_caller 0 es) none in
    (λ i. work rest.0 each.0.1 i && others-work workers es each.1 rest.1 i)
  where
    work : (board_caller e == 0) ≡ false → (board_caller e ≡ 0) ⊎ (is_work e ≡ true) → is_work e ≡ true
    work not (inl zero_is) = let bad : true ≡ false = sym (eq-eqb (board_caller e) 0 zero_is) ∙ not in cc
    work not (inr works) = works

-- who isn't caller 0 is a later one
after-first : (n : ℕ) → (n == 0) ≡ false → 1 ≤ n
after-first zero not = absurd cc
after-first (suc n) not = omega arith

-- an entry is one of the crew's, and work
abbrev IsCrews : ℕ → BoardEntry Ask → Type 0
IsCrews workers e = (1 ≤ board_caller e) × (board_caller e ≤ workers) × (is_work e ≡ true)

-- what isn't the script's is
others-beside : (workers : ℕ) (es : List (BoardEntry Ask)) → Each (IsEither workers) es → of board_caller 0 es ≡ [] → All (IsCrews workers) es
others-beside workers [] each none = All-nil (IsCrews workers)
others-beside workers (e ∷ es) each none =
    let rest = none-pass (board_caller e == 0) e (of board_caller 0 es) none in
    let is : IsCrews workers e = (after-first (board_caller e) rest.0, each.0.0, work rest.0 each.0.1) in
    All-cons (IsCrews workers) e es is (others-beside workers es each.1 rest.1)
  where
    work : (board_caller e == 0) ≡ false → (board_caller e ≡ 0) ⊎ (is_work e ≡ true) → is_work e ≡ true
    work not (inl zero_is) = let bad : true ≡ false = sym (eq-eqb (board_caller e) 0 zero_is) ∙ not in cc
    work not (inr works) = works

-- The passes that a run of a crew began with, those that its script was given and gave back, those that came back, and
-- the histories that both locks then handed out.
pub record IsRunOf (workers : ℕ) (first p q l : Passes Ask) (r : List RegEntry) (b : List (BoardEntry Ask)) : Type 0 where
  pub new : (knows first.board ≡ fresh_pass) × (knows first.registry ≡ fresh_pass)
  pub next : HaveNext workers first p
  pub crewed : CrewedOnBoth workers first q l
  pub shows_r : Shows reg_caller (knows l.registry) r
  pub shows_b : Shows board_caller (knows l.board) b
  pub legal : LegalReg r
  pub made : Made table r
  pub legal_board : LegalBoard b

module _ (laws : CrewLaws) (workers : ℕ) (first p q l : Passes Ask) (r : List RegEntry) (b : List (BoardEntry Ask)) (run : IsRunOf workers first p q l r b) (part : HasShut p q) where
  starts-registry : StartsWith r (knows q.registry).seen
  starts-registry = starts-trans (knows q.registry).seen (knows l.registry).seen r run.crewed.registry.seen run.shows_r.seen

  starts-board : StartsWith b (knows q.board).seen
  starts-board = starts-trans (knows q.board).seen (knows l.board).seen b run.crewed.board.seen run.shows_b.seen

  pub follow-registry : IsOwn reg_caller (knows q.registry) → OthersFollow reg_caller (knows q.registry) r
  follow-registry own = laws.registry_ends is_building (knows first.registry).next workers (knows q.registry) (knows l.registry) r own run.crewed.registry run.shows_r

  pub follow-board : OthersFollow board_caller (knows q.board) b
  follow-board = laws.board_ends is_work (knows first.board).next workers (knows q.board) (knows l.board) b part.own run.crewed.board run.shows_b

  -- each entry of the histories is the script's or a worker's
  zero-registry : (knows q.registry).number ≡ 0
  zero-registry = part.registry.number ∙ (next-new workers first p run.new run.next).registry.0

  zero-board : (knows q.board).number ≡ 0
  zero-board = part.board.number ∙ (next-new workers first p run.new run.next).board.0

  next-registry : (knows q.registry).next ≡ workers + 1
  next-registry = let a = part.registry.next in let n = ap (λ x. x.next) run.next.registry in let f = ap (λ x. x.next) run.new.1 in omega arith

  next-board : (knows q.board).next ≡ workers + 1
  next-board = let a = part.board.next in let n = ap (λ x. x.next) run.next.board in let f = ap (λ x. x.next) run.new.0 in omega arith

  either-board : Each (IsEither workers) b
  either-board = laws.board_works is_work workers (knows q.board) (knows l.board) b zero-board next-board
      (subst (λ n. Crewed is_work n workers (knows q.board) (knows l.board)) (ap (λ x. x.next) run.new.0) run.crewed.board) run.shows_b

  few-callers : AreCallers workers r b
  few-callers = (
    all_each _ (λ e. reg_caller e ≤ workers) (λ e x. x.0) r
        (laws.registry_works is_building workers (knows q.registry) (knows l.registry) r zero-registry next-registry
        (subst (λ n. Crewed is_building n workers (knows q.registry) (knows l.registry)) (ap (λ x. x.next) run.new.1) run.crewed.registry) run.shows_r),
    all_each (IsEither workers) (λ e. board_caller e ≤ workers) (λ e x. x.0) b either-board,
  )

  pub few-enough : workers ≤ 16 → All (λ e. reg_caller e ≤ 16) r × All (λ e. board_caller e ≤ 16) b
  few-enough few = (
    All-weaker (λ e. reg_caller e ≤ workers) (λ e. reg_caller e ≤ 16) (λ e le. omega arith) r few-callers.0,
    All-weaker (λ e. board_caller e ≤ workers) (λ e. board_caller e ≤ 16) (λ e le. omega arith) b few-callers.1,
  )

  -- where the script shut the board, the crew alone worked after that
  module _ (before after : List (BoardEntry Ask)) (seen : (knows q.board).seen ≡ before ++ Shut 0 ∷ after) (others : of board_caller 0 after ≡ []) where
    abbrev later : List (BoardEntry Ask)
    later = after ++ follow-board.0

    later-history : b ≡ before ++ Shut 0 ∷ later
    later-history = follow-board.1 ∙ (ap (λ h. h ++ follow-board.0) seen ∙ append_assoc before (Shut 0 ∷ after) follow-board.0)

    later-none : of board_caller 0 later ≡ []
    later-none = filter-append (λ e. board_caller e == 0) after follow-board.0 ∙ (λ i. others i ++ subst (λ n. of board_caller n follow-board.0 ≡ []) zero-board follow-board.2 i)

    later-either : Each (IsEither workers) (before ++ Shut 0 ∷ later)
    later-either = subst (Each (IsEither workers)) later-history either-board

    pub shut-once : IsShutOnce workers b
    shut-once = record { before = before; after = later; history = later-history; work = others-beside workers later (each_right (IsEither workers) before (Shut 0 ∷ later) later-either).1 later-none }

  -- the shut is last
  pub shut-ends : IsShutIn (knows q.board).seen → ShutLast b
  shut-ends s =
      let more = later s.before s.after s.history s.others in
      let history = later-history s.before s.after s.history s.others in
      let all = later-either s.before s.after s.history s.others in
      let right : LegalBoard (s.before ++ Shut 0 ∷ more) = subst LegalBoard history run.legal_board in
      let works = others-work workers more (each_right (IsEither workers) s.before (Shut 0 ∷ more) all).1 (later-none s.before s.after s.history s.others) in
      let finished =
      laws.all_finished s.before 0 (legal-front [] s.before (Shut 0 ∷ more) right)
      (each_each (IsEither workers) (λ e. (board_caller e ≡ 0) ⊎ (is_work e ≡ true)) (λ e x. x.1) s.before (each_left (IsEither workers) s.before (Shut 0 ∷ more) all))
      s.finished in
      (s.before, history ∙ ap (λ es. s.before ++ Shut 0 ∷ es) (laws.shut_last s.before 0 more right finished works))

  pub closed-once : IsShutOnce workers b
  closed-once = shut-once part.shut.before part.shut.after part.shut.history part.shut.others

  pub histories-of : AreHistories workers r b
  histories-of = record {
    callers = few-callers;
    legal = run.legal;
    legal_board = run.legal_board;
    faithful = run.made;
  }

-- ---- a script that nothing was run of

-- nothing was read or written
nothing-read : (workers : ℕ) (left held : Option (List ℕ)) (r : List RegEntry) (b : List (BoardEntry Ask)) → RanSource workers left left r b (Err NoMemory) held held
nothing-read workers left held r b = record {
  given = [];
  reads = record { read = Consumes-nil left; at_end = tt };
  first = record { failed = λ e. absurd cc; too_long = (λ e. absurd cc, λ lt. absurd (omega arith)); up_to = λ e. absurd cc; written = λ e. absurd cc; whole = tt };
}

pub no-histories : (workers : ℕ) → AreHistories workers [] []
no-histories workers = record { callers = (All-nil _, All-nil _); legal = search rules; legal_board = search rules; faithful = search rules }

pub not-ran : NothingIsBrokenOff → (workers : ℕ) (left held : Option (List ℕ)) → ScriptRan workers left left [] [] (Err NoMemory) held held
not-ran nothing workers left held = record {
  ended = tt;
  whole = tt;
  in_turn = tt;
  settled = tt;
  shut = tt;
  front = nothing_fronted workers left held [] [];
  by_lines = nothing_by_lines workers left held [] [];
  first = nothing-read workers left held [] [];
  cut = λ e. absurd cc;
  broken = λ e. nothing_broken nothing workers left held;
  malformed = tt;
  closed = inr (refl, refl, refl);
  histories = no-histories workers;
}

-- ---- a script beside workers

-- what holds of the script that the source tells, or else of what it gave
if_told : (P : List ℕ → Type 0) (left : Option (List ℕ)) (given : List ℕ) → P (script_in left given) → IfSome left P
if_told P None given holds = tt
if_told P (Some script) given holds = holds

told_end : (left left' : Option (List ℕ)) (given : List ℕ) → Consumes left left' given → IsAtEnd left' → IfSome left (λ _. left' ≡ Some [])
told_end None left' given read at_end = tt
told_end (Some script) None given read at_end = absurd read
told_end (Some script) (Some rest) given read at_end = ap (λ xs. Some xs) at_end

if-ok : (Q R : Bool → Type 0) (a : Result Bool RunError) → ((bad : Bool) → Q bad → R bad) → IfOk a Q → IfOk a R
if-ok Q R (Ok bad) f holds = f bad holds
if-ok Q R (Err e) f holds = tt

module _ (laws : CrewLaws) (workers : ℕ) (left left' : Option (List ℕ)) (first p q l : Passes Ask) (result : Result Bool RunError) (held held' : Option (List ℕ)) (r : List RegEntry) (b : List (BoardEntry Ask))
    (run : IsRunOf workers first p q l r b) (source : AnswersSource workers left left' p q result held held') (plain : PrintsPlain) (few : workers ≤ 16) where
  abbrev lines : List Line
  lines = script_of (script_in left source.given)

  abbrev part : HasShut p q
  part = source.answers.part

  from-r : StartsWith r (knows q.registry).seen
  from-r = starts-registry laws workers first p q l r b run part

  from-b : StartsWith b (knows q.board).seen
  from-b = starts-board laws workers first p q l r b run part

  on-r : IsOwn reg_caller (knows q.registry) → OthersFollow reg_caller (knows q.registry) r
  on-r = follow-registry laws workers first p q l r b run part

  on-b : OthersFollow board_caller (knows q.board) b
  on-b = follow-board laws workers first p q l r b run part

  -- what was answered where the source or the sink failed, or too much came
  ran-source : RanSource workers left left' r b result held held'
  ran-source = record {
    given = source.given;
    reads = source.reads;
    first = record {
      failed = λ is. let g = source.first.failed is in (g.0, g.1 r b (on-r (source.own_reads (inl is))) on-b, g.2);
      too_long = source.first.too_long;
      up_to = λ is. let u = source.first.up_to is in let g = u.3 in (u.0, u.1, u.2, (g.0, g.1 r b (on-r (source.own_reads (inr is))) on-b, g.2));
      written = λ is. let g = source.first.written is in (g.0, g.1 r b from-r from-b, g.2);
      whole = map_ok result (λ g. (g.0, g.1 r b from-r from-b, g.2)) source.first.whole;
    };
  }

  -- what was cut off where a write failed
  cut-off : (text : List ℕ) → IsOwn reg_caller (knows q.registry) → IsCutOffOn workers lines (knows q.registry) (knows q.board) text → IsCutOff workers lines r b text
  cut-off text own (inl in_line) = inl (record {
    first = in_line.first;
    last = in_line.last;
    left = in_line.left;
    lines_are = in_line.lines_are;
    whole = in_line.whole;
    answered = in_line.answered r b (on-r own) on-b;
    begins = in_line.begins r b from-r from-b;
    front = in_line.front;
  })
  cut-off text own (inr at_end) = inr (record {
    whole = at_end.whole;
    is_whole = at_end.is_whole r b (on-r own) on-b;
    begins = at_end.begins r b from-r from-b;
    front = at_end.front;
  })

  -- and what where memory lacked
  broken-off : (text : List ℕ) → IsOwn reg_caller (knows q.registry) → IsBrokenOffOn workers lines (knows q.registry) (knows q.board) text → IsBrokenOff workers lines r b text
  broken-off text own (inl cut) = inl (cut-off text own cut)
  broken-off text own (inr stop) = inr (record {
    first = stop.first;
    left = stop.left;
    lines_are = stop.lines_are;
    tells = stop.tells r b from-r from-b;
    calls = stop.calls r b (on-r own) on-b;
  })

  whole-text : Ended workers lines q held held' → Gains held held' (IsText workers (start 0) 0 lines r b)
  whole-text ended = (ended.text.0, ended.text.1 r b (on-r ended.own) on-b, ended.text.2)

  whole-shut : Ended workers lines q held held' → ShutLast b
  whole-shut ended = shut-ends laws workers first p q l r b run part ended.shut

  -- what a settled script writes is plain
  whole-plain : Ended workers lines q held held' → IsSettled lines → Gains held held' (λ text. text ≡ plain_text lines)
  whole-plain ended settled =
      let callers = few-enough laws workers first p q l r b run part few in
      let text = whole-text ended in
      (text.0, plain workers lines r b text.0 settled run.legal run.made callers.0 run.legal_board callers.1 (ended.in_turn r (on-r ended.own)) text.1, text.2)

  -- of the script that is told, where it reached its end
  on-told : (P : List ℕ → Type 0) → (Ended workers lines q held held' → P (script_in left source.given)) → OnOk result (IfSome left P)
  on-told P f = map_ok result (λ ended. if_told P left source.given (f ended)) source.answers.ended

  pub script-ran : ScriptRan workers left left' r b result held held'
  script-ran = record {
    ended = map_ok result (told_end left left' source.given source.reads.read) source.reads.at_end;
    whole = on-told (λ script. Gains held held' (IsText workers (start 0) 0 (script_of script) r b)) whole-text;
    in_turn = on-told (λ script. InTurn (script_of script) r) (λ ended. ended.in_turn r (on-r ended.own));
    settled = on-told (λ script. IsSettled (script_of script) → Gains held held' (λ text. text ≡ plain_text (script_of script))) whole-plain;
    shut = map_ok result whole-shut source.answers.ended;
    front = if_told (λ script. Gains held held' (IsFrontText workers (start 0) 0 (script_of script) r b)) left source.given (source.answers.front.0, source.answers.front.1 r b from-r from-b, source.answers.front.2);
    by_lines = if_told (λ script. Gains held held' (IsTextByLines workers (script_of script) r b)) left source.given (source.answers.by_lines.0, source.answers.by_lines.1 r b from-r from-b, source.answers.by_lines.2);
    first = ran-source;
    cut = λ is.
        let c = source.cut is in
        let g = c.1 in
        if_told (λ script. Gains held held' (IsCutOff workers (script_of script) r b)) left source.given (g.0, cut-off g.0 c.0 g.1, g.2);
    broken = λ is.
        let c = source.broken is in
        let g = c.1 in
        if_told (λ script. Gains held held' (IsBrokenOff workers (script_of script) r b)) left source.given (g.0, broken-off g.0 c.0 g.1, g.2);
    malformed = if-ok (λ bad. bad ≡ list_any is_malformed lines) (λ bad. IfSome left (λ script. bad ≡ list_any is_malformed (script_of script))) result
        (λ bad is. if_told (λ script. bad ≡ list_any is_malformed (script_of script)) left source.given is) source.answers.malformed;
    closed = inl (closed-once laws workers first p q l r b run part);
    histories = histories-of laws workers first p q l r b run part;
  }
