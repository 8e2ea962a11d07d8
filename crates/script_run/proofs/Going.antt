-- A script, line by line, and what it leaves.
use Rattle.std.proofs.Common.{◌≡◌, ℕ, ◌+◌, List, [], ◌∷◌, ◌++◌, Option, Some, None, refl, sym, ap, subst, ◌∙◌, append_assoc, append-nil, arith, inl, inr, IfSome, ◌≤◌}
use Rattle.std.specs.Prelude.{is_some}
use Rattle.std.specs.Io.KnownBytes.{Appends, Keeps}
use Rattle.std.proofs.KnownBytes.{Appends-trans, Appends-kept, Appends-nil}
use Rattle.alg_registry.specs.declared.entry.RegEntry.{RegEntry}
use Rattle.alg_registry.specs.Rows.{caller_of as reg_caller}
use Rattle.board.specs.declared.entry.BoardEntry.{BoardEntry}
use Rattle.dialogues.specs.BoardCalls.{BoardCall, board_calls, board_calls_from}
use Rattle.dialogues.specs.Dialogues.{Dialogue, Ends as Done}
use Rattle.dialogues.specs.First.{AreFurther, BeginsBy}
use Rattle.dialogues.specs.InTurn.{AsksNothing, AreInTurnBy}
use Rattle.dialogues.specs.Continuations.{Leads}
use Rattle.dialogues.specs.Lines.{line_dialogue, lines_dialogue}
use Rattle.dialogues.specs.PipelineCommands.{end}
use Rattle.dialogues.specs.RegistryCalls.{RegCall, reg_calls, reg_calls_from, AllSettled}
use Rattle.dialogues.specs.Texts.{IsText}
use Rattle.script_run.specs.ByLines.{IsTextByLines, LinesTell, ScriptTells, NothingIsByLines, told_by}
use Rattle.script_run.specs.Fronts.{IsFrontText}
use Rattle.dialogues.specs.Transcripts.{Transcript, IsTranscript, ended, joined, text_in, transcript_of}
use Rattle.dialogues.specs.ScriptState.{start}
use Rattle.dialogues.specs.Widths.{width_of, widest}
use Rattle.dialogues.proofs.Leading.{text-joined}
use Rattle.kc_base.specs.Streams.{IsPrefix}
use Rattle.script_session.specs.EndOfInput.{AnswersEnd}
use Rattle.script_session.specs.Replies.{IsReady, Replies}
use Rattle.script_session.specs.States.{State}
use Rattle.script_text.specs.declared.commands.Line.{Line}
use Rattle.script_text.specs.Script.{script_of}
use Rattle.script_text.specs.Whole.{AreFirst}
use Rattle.recorded_calls.specs.RegistryCalls.{AskedBy}
use Rattle.recorded_calls.specs.Passes.{known}
use Rattle.recorded_calls.specs.Pipelines.{Called}
use Rattle.shared_board.specs.declared.shared.SharedBoard.{SharedBoard}
use Rattle.shared_registry.specs.declared.registry_lock.SharedRegistry.{SharedRegistry}
use Rattle.transforms.specs.declared.ask.Ask.{Ask}
use Rattle.transforms.specs.declared.request.Finished.{Finished}
use Rattle.turn_lock.specs.PassLaws.{IsOwn}
use Rattle.turn_lock.specs.Turns.{Known, StartsWith}
use Rattle.script_run.specs.Answered.{AreAnsweredAfter, BeginsWithTextAfter, IsCutOffAfter, IsBrokenOffAfter, IsBrokenOff, MakesFirstAfter, NothingIsBrokenOff, lines_and_next, lines_transcript}
use Rattle.script_run.specs.Laws.{Laws}
use Rattle.script_session.specs.PerformedDialogue.{HasSeenMore, StopsIn}
use Rattle.script_run.specs.Runs.{Gains, GoesOn, IsFresh, Writes, Cuts, Breaks, AnswersAndShuts, IsTextAfter, IsFrontAfter, IsByLinesAfter, InTurnAfter}
use Rattle.script_run.proofs.Fronts.{front-lines, front-text, nothing-front, widest-front, widest-last}
use Rattle.script_run.proofs.Following.{starts-trans, sees-same, sees-then, reg_calls-on, board_calls-on, reg_calls-same, board_calls-same, in_turn-on, unasked}

-- ---- a session goes on

pub goes-same : (s : State) → GoesOn s s
goes-same s = record {
  locks = record { registry = refl; board = refl; workers = refl; shared = refl };
  registry = sees-same (known s.registry);
  board = sees-same (known s.board);
}

pub goes-then : (s t u : State) → GoesOn s t → GoesOn t u → GoesOn s u
goes-then s t u a b = record {
  locks = record { registry = b.locks.registry ∙ a.locks.registry; board = b.locks.board ∙ a.locks.board; workers = b.locks.workers ∙ a.locks.workers; shared = b.locks.shared ∙ a.locks.shared };
  registry = sees-then (known s.registry) (known t.registry) (known u.registry) a.registry b.registry;
  board = sees-then (known s.board) (known t.board) (known u.board) a.board b.board;
}

asked-more : (width : ℕ) (k l : Known RegEntry) (calls : List RegCall) → AskedBy width k l calls → HasSeenMore k l
asked-more width k l calls asked = record { number = asked.number; next = asked.next; seen = (asked.are.more, asked.are.goes_on) }

called-more : (k l : Known (BoardEntry Ask)) (calls : List BoardCall) → Called k l calls → HasSeenMore k l
called-more k l calls called = record { number = called.number; next = called.next; seen = called.seen }

pub replied-goes : (width : ℕ) (d : Dialogue) (s s' : State) (text text' : List ℕ) → Replies width d s s' text text' → GoesOn s s'
replied-goes width d s s' text text' r = record {
  locks = r.locks;
  registry = asked-more width (known s.registry) (known s'.registry) r.turn.registry r.asked;
  board = called-more (known s.board) (known s'.board) r.turn.board r.called;
}

pub ended-goes : (s s' : State) (text text' : List ℕ) → AnswersEnd s s' text text' → GoesOn s s'
ended-goes s s' text text' r = record {
  locks = r.locks;
  registry = asked-more 1 (known s.registry) (known s'.registry) r.turn.registry r.asked;
  board = called-more (known s.board) (known s'.board) r.turn.board r.called;
}

-- a session that stopped has gone on
pub stop-goes : {d : Dialogue} {s s' : State} → StopsIn d s s' → GoesOn s s'
stop-goes stop = record { locks = stop.stops.locks; registry = stop.stops.registry; board = stop.stops.board.more }

-- and may stop where it stands
pub stops-here : Laws → (d : Dialogue) (s : State) → (known s.registry).number ≡ 0 → AllSettled (reg_calls 0 (known s.registry).seen) → IsOwn reg_caller (known s.registry) → StopsIn d s s
stops-here laws d s zero settled own =
    let here = goes-same s in
    record {
      stops = record { locks = here.locks; registry = here.registry; board = record { more = here.board; unshut = λ first. refl } };
      registry = [];
      board = [];
      further = record { more = []; goes_on = sym (append-nil _); calls_are = sym (append-nil _) };
      own = own;
      called = record { number = refl; next = refl; seen = here.board.seen; calls_are = sym (append-nil _) };
      begins = laws.begins_none d;
    }

-- ---- streams

-- a front of what comes after is a front with what came before
front-later : (before text front : List ℕ) → IsPrefix front text → IsPrefix (before ++ front) (before ++ text)
front-later before text front p = (p.0, append_assoc before front p.0 ∙ ap (λ x. before ++ x) p.1)

-- ---- a run

same-widest : (lines done : List Line) → lines ≡ done → widest done ≤ widest lines
same-widest lines done same = subst (λ ls. widest done ≤ widest ls) (sym same) (omega arith)

-- each script makes at least one look at once
widest-some : (lines : List Line) → 1 ≤ widest lines
widest-some [] = omega arith
widest-some (line ∷ lines) = let later = widest-some lines in omega arith

-- What a script has done: the turn of its first lines, whatever comes after them.
pub record Led (first : State) (done : List Line) (number : ℕ) (s : State) : Type 0 where
  pub turn : Transcript
  pub leads : (left : List Line) → Leads first.workers (start 0) 1 (done ++ left) turn s.script_state number left
  pub asked : reg_calls 0 (known s.registry).seen ≡ turn.registry
  pub settled : AllSettled (reg_calls 0 (known s.registry).seen)
  pub called : board_calls 0 (known s.board).seen ≡ turn.board
  pub in_turn : AreInTurnBy (widest done) 0 turn.registry [] (known s.registry).seen
  pub caller : (known s.registry).number ≡ 0
  pub board_caller : (known s.board).number ≡ 0
  pub goes : GoesOn first s

-- and it is written, and the session ready for more
pub record Going {W : Type 0} (registry : SharedRegistry) (board : SharedBoard W Ask Finished) (first : State) (done : List Line) (number : ℕ) (held held' : Option (List ℕ)) (s : State) : Type 0 where
  pub led : Led first done number s
  pub ready : IsReady registry board s
  pub written : Appends held held' (text_in led.turn)

led-begins : Laws → (first : State) → IsFresh first → Led first [] 1 first
unfolding reg_calls board_calls
led-begins laws first fresh =
    record {
      turn = ended (start 0);
      leads = λ left. subst (λ w. Leads first.workers (start 0) 1 left (ended (start 0)) w 1 left) (sym fresh.script_state) (laws.nowhere first.workers (start 0) 1 left);
      asked = ap (λ h. reg_calls 0 h) fresh.registry.1;
      settled = subst (λ h. AllSettled (reg_calls 0 h)) (sym fresh.registry.1) tt;
      called = ap (λ h. board_calls 0 h) fresh.board.1;
      in_turn = subst (λ h. AreInTurnBy 1 0 [] [] h) (sym fresh.registry.1) (laws.any_width 1 0 [] [] [] (laws.no_call 0 []));
      caller = fresh.registry.0;
      board_caller = fresh.board.0;
      goes = goes-same first;
    }

module _ (laws : Laws) (first : State) where
  -- ---- one turn more
  module _ (done : List Line) (number : ℕ) (s : State) (led : Led first done number s) where
    abbrev k : Known RegEntry
    k = known s.registry

    abbrev l : Known (BoardEntry Ask)
    l = known s.board

    asked-all : (width : ℕ) (k' : Known RegEntry) (calls : List RegCall) → AskedBy width k k' calls → reg_calls 0 k'.seen ≡ led.turn.registry ++ calls
    asked-all width k' calls asked =
        ap (λ n. reg_calls n k'.seen) (sym led.caller) ∙ (asked.are.calls_are ∙ (ap (λ n. reg_calls n k.seen ++ calls) led.caller ∙ ap (λ cs. cs ++ calls) led.asked))

    settled-all : (width : ℕ) (k' : Known RegEntry) (calls : List RegCall) → AskedBy width k k' calls → AllSettled (reg_calls 0 k'.seen)
    settled-all width k' calls asked = subst (λ n. AllSettled (reg_calls n k'.seen)) led.caller asked.are.all_settled

    called-all : (l' : Known (BoardEntry Ask)) (calls : List BoardCall) → Called l l' calls → board_calls 0 l'.seen ≡ led.turn.board ++ calls
    called-all l' calls called =
        ap (λ n. board_calls n l'.seen) (sym (called.number ∙ led.board_caller)) ∙ (called.calls_are ∙ (ap (λ n. board_calls n l.seen ++ calls) led.board_caller ∙ ap (λ cs. cs ++ calls) led.called))

    -- with as many looks at once as these lines, of which those are the first, and more
    turns-all : (lines : List Line) (width : ℕ) (k' : Known RegEntry) (calls : List RegCall) → widest done ≤ widest lines → width ≤ widest lines → AskedBy width k k' calls
        → AreInTurnBy (widest lines) 0 (led.turn.registry ++ calls) [] k'.seen
    turns-all lines width k' calls before le asked =
        laws.later_calls (widest lines) 0 led.turn.registry calls [] k.seen k'.seen (laws.wider (widest done) (widest lines) 0 led.turn.registry [] k.seen before led.in_turn)
        (laws.wider width (widest lines) 0 calls k.seen k'.seen le (subst (λ n. AreInTurnBy width n calls k.seen k'.seen) led.caller asked.in_turn))

    led-more : (line : Line) (s' : State) (reply : List ℕ) → Replies (width_of line) (line_dialogue s.workers s.script_state number line) s s' [] reply
        → (next : Led first (done ++ line ∷ []) (number + 1) s') × (text_in next.turn ≡ text_in led.turn ++ reply)
    led-more line s' reply r =
        let t = led.turn in
        let u = r.turn in
        let is = subst (λ w. IsTranscript (line_dialogue w s.script_state number line) u) led.goes.locks.workers r.is in
        let leads : (left : List Line) → Leads first.workers (start 0) 1 ((done ++ line ∷ []) ++ left) t s.script_state number (line ∷ left) =
        λ left. subst (λ ls. Leads first.workers (start 0) 1 ls t s.script_state number (line ∷ left)) (sym (append_assoc done (line ∷ []) left)) (led.leads (line ∷ left)) in (
          record {
            turn = joined t u;
            leads = λ left. laws.on first.workers (start 0) s.script_state s'.script_state 1 number ((done ++ line ∷ []) ++ left) left line t u (leads left) is r.ends;
            asked = asked-all (width_of line) (known s'.registry) u.registry r.asked;
            settled = settled-all (width_of line) (known s'.registry) u.registry r.asked;
            called = called-all (known s'.board) u.board r.called;
            in_turn = turns-all (done ++ line ∷ []) (width_of line) (known s'.registry) u.registry (widest-front done (line ∷ [])) (widest-last done line) r.asked;
            caller = r.asked.number ∙ led.caller;
            board_caller = r.called.number ∙ led.board_caller;
            goes = goes-then first s s' led.goes (replied-goes (width_of line) (line_dialogue s.workers s.script_state number line) s s' [] reply r);
          },
          text-joined t u ∙ ap (λ x. text_in t ++ x) (sym r.says),
        )

    -- however the session goes on, what is written of this is a front of the text of all lines that begin with these
    led-front : (left : List Line) (s' : State) (text : List ℕ) → GoesOn s s' → IsPrefix text (text_in led.turn) → IsFrontAfter first.workers (done ++ left) (known s'.registry) (known s'.board) text
    led-front left s' text goes front = λ r b from_r from_b.
        let reg = starts-trans k.seen (known s'.registry).seen r goes.registry.seen from_r in
        let brd = starts-trans l.seen (known s'.board).seen b goes.board.seen from_b in
        let more_r = reg_calls_from (k.seen ++ reg.0) 0 k.seen reg.0 in
        let more_b = board_calls_from 0 l.seen brd.0 in
        front-text first.workers (start 0) s.script_state 0 number (done ++ left) left led.turn r b more_r more_b text (led.leads left)
        (reg_calls-on laws k.seen r led.settled reg ∙ ap (λ cs. cs ++ more_r) led.asked)
        (board_calls-on laws l.seen b brd ∙ ap (λ cs. cs ++ more_b) led.called)
        front

    -- ---- where it stops

    -- what it has called since are first calls of what comes next, whatever others do
    module _ (s' : State) (d : Dialogue) (stop : StopsIn d s s') where
      makes-first : (next : Dialogue)
          → ((r : List RegCall) (b : List BoardCall) → BeginsBy d r b → BeginsBy next (led.turn.registry ++ r) (led.turn.board ++ b))
          → MakesFirstAfter next (known s'.registry) (known s'.board)
      makes-first next joins = λ r b more from_r calls_b shut.
          let t = led.turn in
          let seen = (known s'.registry).seen in
          let further : AreFurther 0 stop.registry k.seen seen = subst (λ n. AreFurther n stop.registry k.seen seen) led.caller stop.further in
          let none : AsksNothing 0 seen r = (from_r.0, from_r.1, unasked (known s'.registry) from_r.0 (stop.stops.registry.number ∙ led.caller) from_r.2) in
          let stay = laws.further_stay 0 stop.registry k.seen seen r led.settled further none in
          let calls_r : reg_calls 0 r ≡ t.registry ++ stay.0 = stay.1.calls_are ∙ ap (λ cs. cs ++ stay.0) led.asked in
          record {
            board = t.board ++ stop.board;
            more = more;
            calls_are = calls_b ∙ ap (λ cs. cs ++ more) (called-all (known s'.board) stop.board stop.called);
            shut = shut;
            begins = subst (λ cs. BeginsBy next cs (t.board ++ stop.board)) (sym calls_r) (joins stay.0 stop.board (stay.2 d stop.board stop.begins));
          }

    settled-turn : AllSettled led.turn.registry
    settled-turn = subst AllSettled led.asked led.settled

    -- in the next line
    pub led-stops : (line : Line) (left : List Line) (s' : State) → StopsIn (line_dialogue s.workers s.script_state number line) s s'
        → MakesFirstAfter (lines_and_next first.workers done (line ∷ left)) (known s'.registry) (known s'.board)
    led-stops line left s' stop =
        makes-first s' (line_dialogue s.workers s.script_state number line) stop (lines_and_next first.workers done (line ∷ left))
        (λ r b begins.
        let now = subst (λ w. BeginsBy (line_dialogue w s.script_state number line) r b) led.goes.locks.workers begins in
        laws.begins_lines first.workers (start 0) s.script_state 1 number (done ++ line ∷ []) (line ∷ []) led.turn Done r b (led.leads (line ∷ [])) settled-turn
        (laws.begins_first (line_dialogue first.workers s.script_state number line) (λ after. lines_dialogue first.workers after (number + 1) [] Done) r b now))

    -- or at the end of input
    pub led-end_stops : (s' : State) → StopsIn (end s.script_state) s s' → MakesFirstAfter (lines_and_next first.workers done []) (known s'.registry) (known s'.board)
    led-end_stops s' stop =
        makes-first s' (end s.script_state) stop (lines_and_next first.workers done [])
        (λ r b begins.
        laws.begins_lines first.workers (start 0) s.script_state 1 number done [] led.turn end r b
        (subst (λ ls. Leads first.workers (start 0) 1 ls led.turn s.script_state number []) (append-nil done) (led.leads [])) settled-turn begins)

    -- or before either
    pub led-stops_here : (left : List Line) → IsOwn reg_caller k → MakesFirstAfter (lines_and_next first.workers done left) k l
    led-stops_here [] own = led-end_stops s (stops-here laws (end s.script_state) s led.caller led.settled own)
    led-stops_here (line ∷ left) own = led-stops line left s (stops-here laws (line_dialogue s.workers s.script_state number line) s led.caller led.settled own)

    -- ---- these lines alone

    leads-alone : (r : List RegCall) (b : List BoardCall) → transcript_of (lines_dialogue first.workers (start 0) 1 done Done) (led.turn.registry ++ r) (led.turn.board ++ b) ≡ joined led.turn (ended s.script_state)
    leads-alone r b =
        ap (λ ls. transcript_of (lines_dialogue first.workers (start 0) 1 ls Done) (led.turn.registry ++ r) (led.turn.board ++ b)) (sym (append-nil done))
        ∙ led.leads [] Done r b

    alone-text : text_in (joined led.turn (ended s.script_state)) ≡ text_in led.turn
    alone-text = text-joined led.turn (ended s.script_state) ∙ append-nil (text_in led.turn)

    -- where others alone follow, and the board is shut, they are answered whole
    pub led-answered : AreAnsweredAfter first.workers done k l (text_in led.turn)
    led-answered = λ r b more from_r calls_b shut.
        let t = led.turn in
        let same = reg_calls-same laws k r led.caller led.settled from_r in
        let calls_r : reg_calls 0 r ≡ t.registry ++ [] = same ∙ (led.asked ∙ sym (append-nil t.registry)) in
        let on_b : board_calls 0 b ≡ t.board ++ more = calls_b ∙ ap (λ cs. cs ++ more) led.called in
        let is : lines_transcript first.workers done r b ≡ joined t (ended s.script_state) =
        ap (λ cs. transcript_of (lines_dialogue first.workers (start 0) 1 done Done) cs (board_calls 0 b)) calls_r
        ∙ (ap (transcript_of (lines_dialogue first.workers (start 0) 1 done Done) (t.registry ++ [])) on_b ∙ leads-alone [] more) in
        record {
          registry = ap (λ (u : Transcript). u.registry) is ∙ sym calls_r;
          settled = subst AllSettled (sym same) led.settled;
          board = (more, ap (λ (u : Transcript). u.board ++ more) is ∙ (ap (λ cs. cs ++ more) (append-nil t.board) ∙ sym on_b), shut);
          ended = ap (λ (u : Transcript). is_some u.after) is;
          text_is = sym (ap text_in is ∙ alone-text);
        }

    -- however the session goes on, they print this text
    pub led-tells : (s' : State) → GoesOn s s' → (r : List RegEntry) (b : List (BoardEntry Ask)) → StartsWith r (known s'.registry).seen → StartsWith b (known s'.board).seen → LinesTell first.workers done r b (text_in led.turn)
    led-tells s' goes r b from_r from_b =
        let t = led.turn in
        let reg = starts-trans k.seen (known s'.registry).seen r goes.registry.seen from_r in
        let brd = starts-trans l.seen (known s'.board).seen b goes.board.seen from_b in
        let more_r = reg_calls_from (k.seen ++ reg.0) 0 k.seen reg.0 in
        let more_b = board_calls_from 0 l.seen brd.0 in
        let calls_r : reg_calls 0 r ≡ t.registry ++ more_r = reg_calls-on laws k.seen r led.settled reg ∙ ap (λ cs. cs ++ more_r) led.asked in
        let calls_b : board_calls 0 b ≡ t.board ++ more_b = board_calls-on laws l.seen b brd ∙ ap (λ cs. cs ++ more_b) led.called in
        let is : told_by first.workers done r b ≡ joined t (ended s.script_state) =
        ap (λ cs. transcript_of (lines_dialogue first.workers (start 0) 1 done Done) cs (board_calls 0 b)) calls_r
        ∙ (ap (transcript_of (lines_dialogue first.workers (start 0) 1 done Done) (t.registry ++ more_r)) calls_b ∙ leads-alone more_r more_b) in
        record {
          registry = (more_r, ap (λ (u : Transcript). u.registry ++ more_r) is ∙ (ap (λ cs. cs ++ more_r) (append-nil t.registry) ∙ sym calls_r));
          board = (more_b, ap (λ (u : Transcript). u.board ++ more_b) is ∙ (ap (λ cs. cs ++ more_b) (append-nil t.board) ∙ sym calls_b));
          ended = ap (λ (u : Transcript). is_some u.after) is;
          text_is = sym (ap text_in is ∙ alone-text);
        }

    -- however the session goes on, what is written begins with the text of the first of them
    led-begins_with : (ones : List Line) (s' : State) (text : List ℕ) → AreFirst ones done → GoesOn s s' → IsPrefix (text_in led.turn) text → BeginsWithTextAfter first.workers ones (known s'.registry) (known s'.board) text
    led-begins_with ones s' text are goes front = λ r b from_r from_b.
        let t = led.turn in
        let reg = starts-trans k.seen (known s'.registry).seen r goes.registry.seen from_r in
        let brd = starts-trans l.seen (known s'.board).seen b goes.board.seen from_b in
        let more_r = reg_calls_from (k.seen ++ reg.0) 0 k.seen reg.0 in
        let more_b = board_calls_from 0 l.seen brd.0 in
        let calls_r : reg_calls 0 r ≡ t.registry ++ more_r = reg_calls-on laws k.seen r led.settled reg ∙ ap (λ cs. cs ++ more_r) led.asked in
        let calls_b : board_calls 0 b ≡ t.board ++ more_b = board_calls-on laws l.seen b brd ∙ ap (λ cs. cs ++ more_b) led.called in
        let is : transcript_of (lines_dialogue first.workers (start 0) 1 (ones ++ are.0) Done) (reg_calls 0 r) (board_calls 0 b) ≡ joined t (ended s.script_state) =
        ap (λ ls. transcript_of (lines_dialogue first.workers (start 0) 1 ls Done) (reg_calls 0 r) (board_calls 0 b)) (sym are.1)
        ∙ (ap (λ cs. transcript_of (lines_dialogue first.workers (start 0) 1 done Done) cs (board_calls 0 b)) calls_r
        ∙ (ap (transcript_of (lines_dialogue first.workers (start 0) 1 done Done) (t.registry ++ more_r)) calls_b ∙ leads-alone more_r more_b)) in
        let ones_are = front-lines first.workers 1 (start 0) ones are.0 (reg_calls 0 r) (board_calls 0 b) (ap (λ (u : Transcript). is_some u.after) is) in
        let whole : text_in (transcript_of (lines_dialogue first.workers (start 0) 1 (ones ++ are.0) Done) (reg_calls 0 r) (board_calls 0 b)) ≡ text_in t = ap text_in is ∙ alone-text in
        let text_is : text_in (lines_transcript first.workers ones r b) ++ ones_are.front.0 ≡ text_in t = ones_are.front.1 ∙ whole in
        let one = lines_transcript first.workers ones r b in
        let one_r : one.registry ++ ones_are.registry.0 ≡ t.registry = ones_are.registry.1 ∙ (ap (λ (u : Transcript). u.registry) is ∙ append-nil t.registry) in
        let one_b : one.board ++ ones_are.board.0 ≡ t.board = ones_are.board.1 ∙ (ap (λ (u : Transcript). u.board) is ∙ append-nil t.board) in
        record {
          registry = (ones_are.registry.0 ++ more_r, sym (append_assoc one.registry ones_are.registry.0 more_r) ∙ (ap (λ cs. cs ++ more_r) one_r ∙ sym calls_r));
          board = (ones_are.board.0 ++ more_b, sym (append_assoc one.board ones_are.board.0 more_b) ∙ (ap (λ cs. cs ++ more_b) one_b ∙ sym calls_b));
          ended = ones_are.ended;
          front = (
            ones_are.front.0 ++ front.0,
            sym (append_assoc (text_in (lines_transcript first.workers ones r b)) ones_are.front.0 front.0) ∙ (ap (λ x. x ++ front.0) text_is ∙ front.1),
          );
        }

    -- ---- the end of input

    module _ (lines : List Line) (s' : State) (reply : List ℕ) (none : lines ≡ done) (e : AnswersEnd s s' [] reply) where
      abbrev u : Transcript
      u = e.turn

      abbrev k' : Known RegEntry
      k' = known s'.registry

      abbrev l' : Known (BoardEntry Ask)
      l' = known s'.board

      leads-end : Leads first.workers (start 0) 1 lines led.turn s.script_state number []
      leads-end = subst (λ ls. Leads first.workers (start 0) 1 ls led.turn s.script_state number []) (append-nil done ∙ sym none) (led.leads [])

      reply-is : text_in led.turn ++ reply ≡ text_in led.turn ++ text_in u
      reply-is = ap (λ x. text_in led.turn ++ x) e.says

      -- what is written is the text
      end-text : IsTextAfter first.workers lines k' l' (text_in led.turn ++ reply)
      end-text = λ r b from_r from_b.
          subst (IsText first.workers (start 0) 0 lines r b) (sym reply-is)
          (laws.end_ first.workers (start 0) s.script_state s.script_state 0 number lines led.turn u r b leads-end e.is e.ends
          (reg_calls-same laws k' r (e.asked.number ∙ led.caller) (settled-all 1 k' u.registry e.asked) from_r ∙ asked-all 1 k' u.registry e.asked)
          (board_calls-same laws l' b (e.called.number ∙ led.board_caller) from_b ∙ called-all l' u.board e.called))

      end-in_turn : InTurnAfter lines k'
      end-in_turn = λ r from_r.
          let zero = e.asked.number ∙ led.caller in
          let calls = reg_calls-same laws k' r zero (settled-all 1 k' u.registry e.asked) from_r ∙ asked-all 1 k' u.registry e.asked in
          subst (λ cs. AreInTurnBy (widest lines) 0 cs [] r) (sym calls) (in_turn-on laws (widest lines) k' r (led.turn.registry ++ u.registry) zero from_r (turns-all lines 1 k' u.registry (same-widest lines done none) (widest-some lines) e.asked))

      -- and a front of it is one, whatever comes
      end-front : (text : List ℕ) → IsPrefix text (text_in led.turn ++ reply) → IsFrontAfter first.workers lines k' l' text
      end-front text front = λ r b from_r from_b.
          let more_r = reg_calls_from (k'.seen ++ from_r.0) 0 k'.seen from_r.0 in
          let more_b = board_calls_from 0 l'.seen from_b.0 in
          let t = led.turn in
          let calls_r : reg_calls 0 r ≡ t.registry ++ (u.registry ++ more_r) =
          reg_calls-on laws k'.seen r (settled-all 1 k' u.registry e.asked) from_r ∙ (ap (λ cs. cs ++ more_r) (asked-all 1 k' u.registry e.asked) ∙ append_assoc t.registry u.registry more_r) in
          let calls_b : board_calls 0 b ≡ t.board ++ (u.board ++ more_b) =
          board_calls-on laws l'.seen b from_b ∙ (ap (λ cs. cs ++ more_b) (called-all l' u.board e.called) ∙ append_assoc t.board u.board more_b) in
          record {
            turn = joined t u;
            is = leads-end end u.registry u.board ∙ ap (joined t) e.is;
            registry = (more_r, append_assoc t.registry u.registry more_r ∙ sym calls_r);
            board = (more_b, append_assoc t.board u.board more_b ∙ sym calls_b);
            front = (front.0, front.1 ∙ (reply-is ∙ sym (text-joined t u)));
          }

      -- and all of it is printed, whatever comes
      end-tells : (r : List RegEntry) (b : List (BoardEntry Ask)) → StartsWith r k'.seen → StartsWith b l'.seen → ScriptTells first.workers lines r b (text_in led.turn ++ reply)
      end-tells r b from_r from_b =
          let more_r = reg_calls_from (k'.seen ++ from_r.0) 0 k'.seen from_r.0 in
          let more_b = board_calls_from 0 l'.seen from_b.0 in
          let t = led.turn in
          let calls_r : reg_calls 0 r ≡ t.registry ++ (u.registry ++ more_r) =
          reg_calls-on laws k'.seen r (settled-all 1 k' u.registry e.asked) from_r ∙ (ap (λ cs. cs ++ more_r) (asked-all 1 k' u.registry e.asked) ∙ append_assoc t.registry u.registry more_r) in
          let calls_b : board_calls 0 b ≡ t.board ++ (u.board ++ more_b) =
          board_calls-on laws l'.seen b from_b ∙ (ap (λ cs. cs ++ more_b) (called-all l' u.board e.called) ∙ append_assoc t.board u.board more_b) in
          record {
            turn = joined t u;
            is = leads-end end u.registry u.board ∙ ap (joined t) e.is;
            registry = (more_r, append_assoc t.registry u.registry more_r ∙ sym calls_r);
            board = (more_b, append_assoc t.board u.board more_b ∙ sym calls_b);
            ended = ap is_some e.ends;
            text_is = reply-is ∙ sym (text-joined t u);
          }

      -- so a front of it that goes behind the lines is the text of all lines, and a front of what the end prints
      end-by_lines : (text : List ℕ) → GoesOn s s' → IsPrefix (text_in led.turn) text → IsPrefix text (text_in led.turn ++ reply) → IsByLinesAfter first.workers lines k' l' text
      end-by_lines text goes begins front = λ r b from_r from_b. record {
        first = lines;
        left = [];
        lines_are = sym (append-nil lines);
        before = text_in led.turn;
        told = subst (λ ls. LinesTell first.workers ls r b (text_in led.turn)) (sym none) (led-tells s' goes r b from_r from_b);
        last = inr (text_in led.turn ++ reply, end-tells r b from_r from_b, begins, front);
      }

  -- ---- the loop

  module _ {W : Type 0} (registry : SharedRegistry) (board : SharedBoard W Ask Finished) where
    abbrev At : List Line → ℕ → Option (List ℕ) → Option (List ℕ) → State → Type 0
    At done number held held' s = Going registry board first done number held held' s

    pub going-begins : (held : Option (List ℕ)) → IsReady registry board first → IsFresh first → At [] 1 held held first
    unfolding led-begins
    going-begins held ready fresh = record { led = led-begins laws first fresh; ready = ready; written = Appends-nil held }

    module _ (done : List Line) (number : ℕ) (x y z : Option (List ℕ)) (s s' : State) (going : At done number x y s) where
      abbrev t : Transcript
      t = going.led.turn

      abbrev Broken : List Line → Type 0
      Broken lines = Gains x z (IsFrontAfter first.workers lines (known s'.registry) (known s'.board))

      abbrev ByLines : List Line → Type 0
      ByLines lines = Gains x z (IsByLinesAfter first.workers lines (known s'.registry) (known s'.board))

      abbrev Begun : List Line → Type 0
      Begun ones = Gains x z (BeginsWithTextAfter first.workers ones (known s'.registry) (known s'.board))

      pub going-more : (line : Line) → Writes (Replies (width_of line) (line_dialogue s.workers s.script_state number line) s s' []) y z → IsReady registry board s' → At (done ++ line ∷ []) (number + 1) x z s'
      going-more line step ready =
          let m = led-more done number s going.led line s' step.0 step.1 in
          record { led = m.0; ready = ready; written = subst (Appends x z) (sym m.1) (Appends-trans x y z (text_in t) step.0 going.written step.2) }

      pub stopped : (left : List Line) → GoesOn s s' → Keeps y z → Broken (done ++ left)
      stopped left goes kept = (text_in t, led-front done number s going.led left s' (text_in t) goes ([], append-nil (text_in t)), Appends-kept x y z (text_in t) going.written kept)

      -- a line that breaks off leaves a front of the text
      pub going-breaks : (line : Line) (left : List Line) → Breaks (line_dialogue s.workers s.script_state number line) s s' (Replies (width_of line) (line_dialogue s.workers s.script_state number line) s s' []) y z → Broken ((done ++ line ∷ []) ++ left)
      going-breaks line left (inl stop) = subst Broken (sym (append_assoc done (line ∷ []) left)) (stopped (line ∷ left) (stop-goes stop.0) stop.1)
      going-breaks line left (inr part) =
          let m = led-more done number s going.led line s' part.0 part.1 in
          let written = part.2 in (
            text_in t ++ written.0,
            led-front (done ++ line ∷ []) (number + 1) s' m.0 left s' (text_in t ++ written.0) (goes-same s') (subst (IsPrefix (text_in t ++ written.0)) (sym m.1) (front-later (text_in t) part.0 written.0 written.1)),
            Appends-trans x y z (text_in t) written.0 going.written written.2,
          )

      pub stopped-by_lines : (left : List Line) → GoesOn s s' → Keeps y z → ByLines (done ++ left)
      stopped-by_lines left goes kept = (
        text_in t,
        λ r b from_r from_b. record { first = done; left = left; lines_are = refl; before = text_in t; told = led-tells done number s going.led s' goes r b from_r from_b; last = inl refl },
        Appends-kept x y z (text_in t) going.written kept,
      )

      pub going-by_lines : (line : Line) (left : List Line) → Breaks (line_dialogue s.workers s.script_state number line) s s' (Replies (width_of line) (line_dialogue s.workers s.script_state number line) s s' []) y z → ByLines ((done ++ line ∷ []) ++ left)
      going-by_lines line left (inl stop) = subst ByLines (sym (append_assoc done (line ∷ []) left)) (stopped-by_lines (line ∷ left) (stop-goes stop.0) stop.1)
      going-by_lines line left (inr part) =
          let m = led-more done number s going.led line s' part.0 part.1 in
          let goes = replied-goes (width_of line) (line_dialogue s.workers s.script_state number line) s s' [] part.0 part.1 in
          let written = part.2 in
          let text = text_in t ++ written.0 in (
            text,
            λ r b from_r from_b. record {
              first = done;
              left = line ∷ left;
              lines_are = append_assoc done (line ∷ []) left;
              before = text_in t;
              told = led-tells done number s going.led s' goes r b from_r from_b;
              last = inr (
                text_in m.0.turn,
                led-tells (done ++ line ∷ []) (number + 1) s' m.0 s' (goes-same s') r b from_r from_b,
                (written.0, refl),
                subst (IsPrefix text) (sym m.1) (front-later (text_in t) part.0 written.0 written.1),
              );
            },
            Appends-trans x y z (text_in t) written.0 going.written written.2,
          )

      pub going-end_by_lines : (lines : List Line) → lines ≡ done → Breaks (end s.script_state) s s' (AnswersEnd s s' []) y z → ByLines lines
      going-end_by_lines lines none (inl stop) = subst ByLines (append-nil done ∙ sym none) (stopped-by_lines [] (stop-goes stop.0) stop.1)
      going-end_by_lines lines none (inr part) =
          let written = part.2 in (
            text_in t ++ written.0,
            end-by_lines done number s going.led lines s' part.0 none part.1 (text_in t ++ written.0) (ended-goes s s' [] part.0 part.1) (written.0, refl) (front-later (text_in t) part.0 written.0 written.1),
            Appends-trans x y z (text_in t) written.0 going.written written.2,
          )

      -- a write that failed cuts the text off in a line, or at the end of input
      abbrev CutOff : List Line → Type 0
      CutOff lines = Gains x z (IsCutOffAfter first.workers lines (known s'.registry) (known s'.board))

      pub going-cut : (line : Line) (left : List Line) → Cuts (Replies (width_of line) (line_dialogue s.workers s.script_state number line) s s' []) y z → CutOff ((done ++ line ∷ []) ++ left)
      going-cut line left part =
          let m = led-more done number s going.led line s' part.0 part.1 in
          let goes = replied-goes (width_of line) (line_dialogue s.workers s.script_state number line) s s' [] part.0 part.1 in
          let written = part.2 in
          let text = text_in t ++ written.0 in (
            text,
            inl (record {
              first = done;
              last = line;
              left = left;
              lines_are = refl;
              whole = text_in m.0.turn;
              answered = led-answered (done ++ line ∷ []) (number + 1) s' m.0;
              begins = led-begins_with done number s going.led done s' text ([], sym (append-nil done)) goes (written.0, refl);
              front = subst (IsPrefix text) (sym m.1) (front-later (text_in t) part.0 written.0 written.1);
            }),
            Appends-trans x y z (text_in t) written.0 going.written written.2,
          )

      pub going-end_cut : (lines : List Line) → lines ≡ done → Cuts (AnswersAndShuts s s') y z → CutOff lines
      going-end_cut lines none part =
          let answers = part.1.1 in
          let written = part.2 in
          let text = text_in t ++ written.0 in (
            text,
            inr (
              part.1.0,
              record {
                whole = text_in t ++ part.0;
                is_whole = end-text done number s going.led lines s' part.0 none answers;
                begins = led-begins_with done number s going.led lines s' text ([], sym none ∙ sym (append-nil lines)) (ended-goes s s' [] part.0 answers) (written.0, refl);
                front = front-later (text_in t) part.0 written.0 written.1;
              },
            ),
            Appends-trans x y z (text_in t) written.0 going.written written.2,
          )

      -- where memory lacked it may also be that of these lines
      abbrev BrokenOff : List Line → Type 0
      BrokenOff lines = Gains x z (IsBrokenOffAfter first.workers lines (known s'.registry) (known s'.board))

      pub going-stopped : (left : List Line) → GoesOn s s' → Keeps y z → MakesFirstAfter (lines_and_next first.workers done left) (known s'.registry) (known s'.board) → BrokenOff (done ++ left)
      going-stopped left goes kept calls = (
        text_in t,
        inr (record {
          first = done;
          left = left;
          lines_are = refl;
          tells = λ r b from_r from_b. led-tells done number s going.led s' goes r b from_r from_b;
          calls = calls;
        }),
        Appends-kept x y z (text_in t) going.written kept,
      )

      cut-broken : (lines : List Line) → CutOff lines → BrokenOff lines
      cut-broken lines cut = (cut.0, inl cut.1, cut.2)

      pub going-broken : (line : Line) (left : List Line) → Breaks (line_dialogue s.workers s.script_state number line) s s' (Replies (width_of line) (line_dialogue s.workers s.script_state number line) s s' []) y z → BrokenOff ((done ++ line ∷ []) ++ left)
      going-broken line left (inl stop) =
          subst BrokenOff (sym (append_assoc done (line ∷ []) left)) (going-stopped (line ∷ left) (stop-goes stop.0) stop.1 (led-stops done number s going.led line left s' stop.0))
      going-broken line left (inr part) = cut-broken ((done ++ line ∷ []) ++ left) (going-cut line left part)

      pub going-end_broken : (lines : List Line) → lines ≡ done → Breaks (end s.script_state) s s' (AnswersAndShuts s s') y z → BrokenOff lines
      going-end_broken lines none (inl stop) =
          subst BrokenOff (append-nil done ∙ sym none) (going-stopped [] (stop-goes stop.0) stop.1 (led-end_stops done number s going.led s' stop.0))
      going-end_broken lines none (inr part) = cut-broken lines (going-end_cut lines none part)

      -- the caller has seen each entry that it made
      pub line_broken-own : (line : Line) → Breaks (line_dialogue s.workers s.script_state number line) s s' (Replies (width_of line) (line_dialogue s.workers s.script_state number line) s s' []) y z → IsOwn reg_caller (known s'.registry)
      line_broken-own line (inl stop) = stop.0.own
      line_broken-own line (inr part) = part.1.asked.caller.own

      pub end_broken-own : Breaks (end s.script_state) s s' (AnswersAndShuts s s') y z → IsOwn reg_caller (known s'.registry)
      end_broken-own (inl stop) = stop.0.own
      end_broken-own (inr part) = part.1.1.asked.caller.own

      pub breaks-plain : Breaks (end s.script_state) s s' (AnswersAndShuts s s') y z → Breaks (end s.script_state) s s' (AnswersEnd s s' []) y z
      breaks-plain (inl stop) = inl stop
      breaks-plain (inr part) = inr (part.0, part.1.1, part.2)

      -- and so does the end of input
      pub going-end_breaks : (lines : List Line) → lines ≡ done → Breaks (end s.script_state) s s' (AnswersEnd s s' []) y z → Broken lines
      going-end_breaks lines none (inl stop) = subst Broken (append-nil done ∙ sym none) (stopped [] (stop-goes stop.0) stop.1)
      going-end_breaks lines none (inr part) =
          let written = part.2 in (
            text_in t ++ written.0,
            end-front done number s going.led lines s' part.0 none part.1 (text_in t ++ written.0) (front-later (text_in t) part.0 written.0 written.1),
            Appends-trans x y z (text_in t) written.0 going.written written.2,
          )

      -- the first lines of what was answered before are written
      module _ (ones : List Line) (are : AreFirst ones done) where
        begun-by : (d : Dialogue) (IsReply : List ℕ → Type 0) → ((reply : List ℕ) → IsReply reply → GoesOn s s') → Breaks d s s' IsReply y z → Begun ones
        begun-by d IsReply goes (inl stop) = (text_in t, led-begins_with done number s going.led ones s' (text_in t) are (stop-goes stop.0) ([], append-nil (text_in t)), Appends-kept x y z (text_in t) going.written stop.1)
        begun-by d IsReply goes (inr part) =
            let written = part.2 in (
              text_in t ++ written.0,
              led-begins_with done number s going.led ones s' (text_in t ++ written.0) are (goes part.0 part.1) (written.0, refl),
              Appends-trans x y z (text_in t) written.0 going.written written.2,
            )

        pub going-begun : (line : Line) → Breaks (line_dialogue s.workers s.script_state number line) s s' (Replies (width_of line) (line_dialogue s.workers s.script_state number line) s s' []) y z → Begun ones
        going-begun line breaks = begun-by (line_dialogue s.workers s.script_state number line) (Replies (width_of line) (line_dialogue s.workers s.script_state number line) s s' []) (λ reply r. replied-goes (width_of line) (line_dialogue s.workers s.script_state number line) s s' [] reply r) breaks

        pub going-end_begun : Breaks (end s.script_state) s s' (AnswersEnd s s' []) y z → Begun ones
        going-end_begun breaks = begun-by (end s.script_state) (AnswersEnd s s' []) (λ reply e. ended-goes s s' [] reply e) breaks

      -- with it the whole text is written
      module _ (lines : List Line) (none : lines ≡ done) (step : Writes (AnswersEnd s s' []) y z) where
        pub going-ends : Gains x z (IsTextAfter first.workers lines (known s'.registry) (known s'.board))
        going-ends = (text_in t ++ step.0, end-text done number s going.led lines s' step.0 none step.1, Appends-trans x y z (text_in t) step.0 going.written step.2)

        pub going-ends_front : Broken lines
        going-ends_front = (
          text_in t ++ step.0,
          end-front done number s going.led lines s' step.0 none step.1 (text_in t ++ step.0) ([], append-nil (text_in t ++ step.0)),
          Appends-trans x y z (text_in t) step.0 going.written step.2,
        )

        pub going-ends_by_lines : ByLines lines
        going-ends_by_lines = going-end_by_lines lines none (inr (step.0, step.1, (step.0, ([], append-nil step.0), step.2)))

        pub going-ends_own : IsOwn reg_caller (known s'.registry)
        going-ends_own = step.1.asked.caller.own

        pub going-ends_in_turn : InTurnAfter lines (known s'.registry)
        going-ends_in_turn = end-in_turn done number s going.led lines s' step.0 none step.1

      -- ---- both passes have seen more

      pub broken-goes : (d : Dialogue) (IsReply : List ℕ → Type 0) → ((reply : List ℕ) → IsReply reply → GoesOn s s') → Breaks d s s' IsReply y z → GoesOn first s'
      broken-goes d IsReply of (inl stop) = goes-then first s s' going.led.goes (stop-goes stop.0)
      broken-goes d IsReply of (inr part) = goes-then first s s' going.led.goes (of part.0 part.1)

      pub line_broken-goes : (line : Line) → Breaks (line_dialogue s.workers s.script_state number line) s s' (Replies (width_of line) (line_dialogue s.workers s.script_state number line) s s' []) y z → GoesOn first s'
      line_broken-goes line breaks = broken-goes (line_dialogue s.workers s.script_state number line) (Replies (width_of line) (line_dialogue s.workers s.script_state number line) s s' []) (λ reply r. replied-goes (width_of line) (line_dialogue s.workers s.script_state number line) s s' [] reply r) breaks

      pub end_broken-goes : Breaks (end s.script_state) s s' (AnswersEnd s s' []) y z → GoesOn first s'
      end_broken-goes breaks = broken-goes (end s.script_state) (AnswersEnd s s' []) (λ reply e. ended-goes s s' [] reply e) breaks

      pub end-goes : Writes (AnswersEnd s s' []) y z → GoesOn first s'
      end-goes step = goes-then first s s' going.led.goes (ended-goes s s' [] step.0 step.1)

-- ---- nothing is written

-- nothing is the text of no line
pub nothing-by_lines : NothingIsByLines
nothing-by_lines workers lines r b = record {
  first = [];
  left = lines;
  lines_are = refl;
  before = [];
  told = record { registry = (reg_calls 0 r, refl); board = (board_calls 0 b, refl); ended = refl; text_is = refl };
  last = inl refl;
}

pub nothing_by_lines : (workers : ℕ) (left held : Option (List ℕ)) (r : List RegEntry) (b : List (BoardEntry Ask)) → IfSome left (λ script. Gains held held (IsTextByLines workers (script_of script) r b))
nothing_by_lines workers None held r b = tt
nothing_by_lines workers (Some script) held r b = ([], nothing-by_lines workers (script_of script) r b, Appends-nil held)

-- nor is anything broken off where nothing happened
pub nothing-broken : Laws → NothingIsBrokenOff
unfolding reg_calls board_calls
nothing-broken laws workers lines = inr (record {
  first = [];
  left = lines;
  lines_are = refl;
  tells = record { registry = ([], refl); board = ([], refl); ended = refl; text_is = refl };
  calls = record { board = []; more = []; calls_are = refl; shut = inl refl; begins = laws.begins_none (lines_and_next workers [] lines) };
})

pub nothing_broken : NothingIsBrokenOff → (workers : ℕ) (left held : Option (List ℕ)) → IfSome left (λ script. Gains held held (IsBrokenOff workers (script_of script) [] []))
nothing_broken nothing workers None held = tt
nothing_broken nothing workers (Some script) held = ([], nothing workers (script_of script), Appends-nil held)

-- nothing is a front of the text of any script
pub nothing_fronted : (workers : ℕ) (left held : Option (List ℕ)) (r : List RegEntry) (b : List (BoardEntry Ask)) → IfSome left (λ script. Gains held held (IsFrontText workers (start 0) 0 (script_of script) r b))
nothing_fronted workers None held r b = tt
nothing_fronted workers (Some script) held r b = ([], nothing-front workers (start 0) 0 (script_of script) r b, Appends-nil held)
