-- The lines of a part, answered one by one.
use Rattle.std.proofs.Common.{◌≡◌, ℕ, ◌+◌, ◌<◌, ◌≤◌, ◌||◌, Bool, true, false, List, [], ◌∷◌, ◌++◌, length, map, refl, sym, ap, subst, ◌∙◌, append_assoc, append-nil, length-append, arith}
use Rattle.std.specs.List.{list_any}
use Rattle.std.proofs.lemmas.List.Folds.{list_any-append}
use Rattle.dialogues.specs.Dialogues.{Ends}
use Rattle.dialogues.specs.Continuations.{Leads}
use Rattle.dialogues.specs.Lines.{line_dialogue, lines_dialogue}
use Rattle.dialogues.specs.Transcripts.{Transcript, IsTranscript, ended, joined, text_in, transcript_of}
use Rattle.dialogues.specs.Widths.{width_of, widest}
use Rattle.dialogues.proofs.Leading.{text-joined}
use Rattle.script_run.specs.Text.{is_malformed}
use Rattle.script_run.proofs.Following.{sees-then}
use Rattle.script_run.proofs.Fronts.{widest-front, widest-last}
use Rattle.script_session.specs.PerformedDialogue.{Stops}
use Rattle.script_session.specs.Replies.{IsReady, Replies}
use Rattle.script_session.specs.States.{State, SameLocks}
use Rattle.script_session.proofs.Rules.{called-nothing}
use Rattle.script_text.specs.Lines.{lines_of}
use Rattle.script_text.specs.Script.{line_of, script_of}
use Rattle.script_text.specs.declared.commands.Line.{Line}
use Rattle.recorded_calls.specs.RegistryCalls.{AskedBy, IsCaller}
use Rattle.recorded_calls.specs.Passes.{known}
use Rattle.recorded_calls.specs.Pipelines.{Called}
use Rattle.recorded_calls.proofs.Boarding.{called-more as called-then}
use Rattle.shared_board.specs.declared.shared.SharedBoard.{SharedBoard}
use Rattle.shared_registry.specs.declared.registry_lock.SharedRegistry.{SharedRegistry}
use Rattle.transforms.specs.declared.ask.Ask.{Ask}
use Rattle.transforms.specs.declared.request.Finished.{Finished}
use Rattle.client_run.specs.Laws.{Laws}
use Rattle.client_run.proofs.Turns.{asked-none, asked-then, asked-more, called-more, locks-same, locks-then}

-- What a script has done since its session was this one: the turn of these lines, whatever comes after them.
pub record Led (first : State) (text : List ℕ) (done : List Line) (number : ℕ) (s : State) (text' : List ℕ) : Type 0 where
  pub turn : Transcript
  pub leads : (left : List Line) → Leads first.workers first.script_state 1 (done ++ left) turn s.script_state number left
  pub locks : SameLocks first s
  pub asked : AskedBy (widest done) (known first.registry) (known s.registry) turn.registry
  pub called : Called (known first.board) (known s.board) turn.board
  pub says : text' ≡ text ++ text_in turn

module _ (laws : Laws) (first : State) (caller : IsCaller (known first.registry)) (text : List ℕ) where
  pub led-begins : Led first text [] 1 first text
  led-begins = record {
    turn = ended first.script_state;
    leads = λ left. laws.nowhere first.workers first.script_state 1 left;
    locks = locks-same first;
    asked = asked-none laws (known first.registry) caller;
    called = called-nothing (known first.board);
    says = sym (append-nil text);
  }

  module _ (done : List Line) (number : ℕ) (s : State) (text' : List ℕ) (led : Led first text done number s text') where
    pub led-more : (line : Line) (s' : State) (text'' : List ℕ) → Replies (width_of line) (line_dialogue s.workers s.script_state number line) s s' text' text'' → Led first text (done ++ line ∷ []) (number + 1) s' text''
    led-more line s' text'' r =
        let t = led.turn in
        let u = r.turn in
        let is = subst (λ w. IsTranscript (line_dialogue w s.script_state number line) u) led.locks.workers r.is in
        let leads : (left : List Line) → Leads first.workers first.script_state 1 ((done ++ line ∷ []) ++ left) t s.script_state number (line ∷ left) =
        λ left. subst (λ ls. Leads first.workers first.script_state 1 ls t s.script_state number (line ∷ left)) (sym (append_assoc done (line ∷ []) left)) (led.leads (line ∷ left)) in
        record {
          turn = joined t u;
          leads = λ left. laws.on first.workers first.script_state s.script_state s'.script_state 1 number ((done ++ line ∷ []) ++ left) left line t u (leads left) is r.ends;
          locks = locks-then first s s' led.locks r.locks;
          asked =
              asked-then laws (widest done) (width_of line) (widest (done ++ line ∷ [])) (known first.registry) (known s.registry) (known s'.registry) t.registry u.registry
              (widest-front done (line ∷ [])) (widest-last done line) caller led.asked r.asked;
          called = called-then (known first.board) (known s.board) (known s'.board) t.board u.board led.called r.called;
          says =
              r.says
              ∙ (ap (λ x. x ++ text_in u) led.says
              ∙ (append_assoc text (text_in t) (text_in u) ∙ ap (λ x. text ++ x) (sym (text-joined t u))));
        }

    -- with no line left it is the turn of the lines
    pub led-ends : (lines : List Line) → lines ≡ done → Replies (widest lines) (lines_dialogue first.workers first.script_state 1 lines Ends) first s text text'
    led-ends lines all =
        let t = led.turn in
        let e = ended s.script_state in
        subst (λ ls. Replies (widest ls) (lines_dialogue first.workers first.script_state 1 ls Ends) first s text text') (sym all)
        (record {
          locks = led.locks;
          turn = joined t e;
          is =
              ap (λ ls. transcript_of (lines_dialogue first.workers first.script_state 1 ls Ends) (t.registry ++ []) (t.board ++ [])) (sym (append-nil done))
              ∙ led.leads [] Ends [] [];
          asked = subst (AskedBy (widest done) (known first.registry) (known s.registry)) (sym (append-nil t.registry)) led.asked;
          called = subst (Called (known first.board) (known s.board)) (sym (append-nil t.board)) led.called;
          ends = refl;
          says = led.says ∙ ap (λ x. text ++ x) (sym (text-joined t e ∙ append-nil (text_in t)));
        })

-- ---- a session that goes no further

pub stops-then : (s t u : State) → Stops s t → Stops t u → Stops s u
stops-then s t u a b = record {
  locks = locks-then s t u a.locks b.locks;
  registry = sees-then (known s.registry) (known t.registry) (known u.registry) a.registry b.registry;
  board = record {
    more = sees-then (known s.board) (known t.board) (known u.board) a.board.more b.board.more;
    unshut = λ zero_is. b.board.unshut (a.board.more.number ∙ zero_is) ∙ a.board.unshut zero_is;
  };
}

-- ---- what stands at the head of the loop

pub record Answering {W : Type 0} (registry : SharedRegistry) (board : SharedBoard W Ask Finished) (first : State) (text : List ℕ) (part : List ℕ) (rest : List ℕ) (number : ℕ) (malformed : Bool) (s : State) (text' : List ℕ) : Type 0 where
  pub done : List Line
  pub lines : script_of part ≡ done ++ script_of rest
  pub counted : number + length rest ≤ length part + 1
  pub led : Led first text done number s text'
  pub ready : IsReady registry board s
  pub malformed_is : malformed ≡ list_any is_malformed done

module _ {W : Type 0} (laws : Laws) (registry : SharedRegistry) (board : SharedBoard W Ask Finished) (first : State) (begins : IsReady registry board first) (text part : List ℕ) where
  abbrev At : List ℕ → ℕ → Bool → State → List ℕ → Type 0
  At rest number malformed s text' = Answering registry board first text part rest number malformed s text'

  pub answering-begins : At part 1 false first text
  answering-begins = record {
    done = [];
    lines = refl;
    counted = omega arith;
    led = led-begins laws first begins.stands.caller text;
    ready = begins;
    malformed_is = refl;
  }

  module _ (rest : List ℕ) (number : ℕ) (malformed : Bool) (s : State) (text' : List ℕ) (at : At rest number malformed s text') where
    -- so far it has only gone on
    pub answering-stops : Stops first s
    answering-stops =
        let more = called-more (known first.board) (known s.board) at.led.turn.board at.led.called in
        record {
          locks = at.led.locks;
          registry = asked-more (widest at.done) (known first.registry) (known s.registry) at.led.turn.registry at.led.asked;
          board = record {
            more = more;
            unshut = λ zero_is. at.ready.posted.unshut (more.number ∙ zero_is) ∙ sym (begins.posted.unshut zero_is);
          };
        }

    pub answering-more : (line behind : List ℕ) (said : Line) → lines_of rest ≡ line ∷ lines_of behind → (0 < length line) × (rest ≡ line ++ behind) → said ≡ line_of line
        → (bad : Bool) → bad ≡ is_malformed said → (s' : State) (text'' : List ℕ) → Replies (width_of said) (line_dialogue s.workers s.script_state number said) s s' text' text'' → IsReady registry board s'
        → At behind (number + 1) (malformed || bad) s' text''
    answering-more line behind said next cut said_is bad bad_is s' text'' replies ready = record {
      done = at.done ++ said ∷ [];
      lines =
          at.lines
          ∙ (ap (λ ls. at.done ++ map line_of ls) next
          ∙ (ap (λ l. at.done ++ l ∷ script_of behind) (sym said_is) ∙ sym (append_assoc at.done (said ∷ []) (script_of behind))));
      counted = let c = at.counted in let some = cut.0 in let n = ap length cut.1 in let m = length-append line behind in omega arith;
      led = led-more laws first begins.stands.caller text at.done number s text' at.led said s' text'' replies;
      ready = ready;
      malformed_is =
          ap (λ m. m || bad) at.malformed_is
          ∙ (ap (λ b. list_any is_malformed at.done || b) (bad_is ∙ sym (or_none (is_malformed said)))
          ∙ sym (list_any-append is_malformed at.done (said ∷ [])));
    }
      where
        or_none : (b : Bool) → (b || false) ≡ b
        or_none true = refl
        or_none false = refl

    -- at the end all lines are answered
    all-lines : rest ≡ [] → script_of part ≡ at.done
    all-lines none = at.lines ∙ (ap (λ xs. at.done ++ script_of xs) none ∙ append-nil at.done)

    pub answering-ends : rest ≡ [] → Replies (widest (script_of part)) (lines_dialogue first.workers first.script_state 1 (script_of part) Ends) first s text text'
    answering-ends none = led-ends laws first begins.stands.caller text at.done number s text' at.led (script_of part) (all-lines none)

    pub answering-malformed : rest ≡ [] → malformed ≡ list_any is_malformed (script_of part)
    answering-malformed none = at.malformed_is ∙ ap (λ ls. list_any is_malformed ls) (sym (all-lines none))
