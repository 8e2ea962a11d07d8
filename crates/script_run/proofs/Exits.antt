-- Each way in which a session leaves the lines of a source.
use Rattle.std.proofs.Common.{◌≡◌, ℕ, ◌+◌, ◌-◌, ◌^◌, ◌<◌, ◌≤◌, ◌||◌, Bool, true, false, List, [], ◌∷◌, ◌++◌, length, take, Option, Some, None, Ok, Err, inl, inr, refl, sym, ap, subst, ◌∙◌, append-nil, arith, le_trans}
use Rattle.std.specs.Prelude.{IsErrOf}
use Rattle.std.specs.List.{list_any}
use Rattle.std.specs.Io.KnownBytes.{IsAtEnd}
use Rattle.std.proofs.KnownBytes.{Consumes-nil, Keeps-refl, Appends-nil}
use Rattle.std.proofs.lemmas.List.Folds.{list_any-append}
use Rattle.board.specs.Legal.{is_shut}
use Rattle.dialogues.specs.Lines.{line_dialogue}
use Rattle.dialogues.specs.PipelineCommands.{end}
use Rattle.dialogues.specs.Transcripts.{text_in}
use Rattle.dialogues.specs.ScriptState.{start}
use Rattle.dialogues.specs.Widths.{width_of}
use Rattle.kc_base.specs.declared.transfer.InputError.{InputError}
use Rattle.kc_base.specs.declared.transfer.InputError.TheVariants as input
use Rattle.kc_base.specs.declared.transfer.SinkError.{SinkError}
use Rattle.kc_base.specs.declared.transfer.SinkError.TheVariants as output
use Rattle.kc_base.specs.Streams.{Rose}
use Rattle.script_session.specs.EndOfInput.{AnswersEnd, EndsShut}
use Rattle.script_session.specs.Replies.{IsReady, Replies}
use Rattle.script_session.specs.States.{State}
use Rattle.script_text.specs.NextLine.{Place, FindsNext}
use Rattle.script_text.specs.Script.{script_of}
use Rattle.script_text.specs.Whole.{whole_script, WholeLinesStay, NoWholeLine}
use Rattle.script_text.specs.declared.commands.Line.{Line}
use Rattle.recorded_calls.specs.Passes.{known}
use Rattle.shared_board.specs.declared.shared.SharedBoard.{SharedBoard}
use Rattle.shared_registry.specs.declared.registry_lock.SharedRegistry.{SharedRegistry}
use Rattle.transforms.specs.declared.ask.Ask.{Ask}
use Rattle.transforms.specs.declared.request.Finished.{Finished}
use Rattle.script_run.specs.declared.errors.RunError.{RunError}
use Rattle.script_run.specs.declared.errors.RunError.TheVariants.{Usage, ReadFault, WriteFault, TooLong, NoMemory}
use Rattle.script_run.specs.Answered.{AreAnsweredAfter, BeginsWithTextAfter, IsCutOffAfter, IsBrokenOffAfter, AnswersFirst, RunsSource, script_in}
use Rattle.script_run.specs.Faults.{TellsFaults}
use Rattle.script_run.specs.Laws.{Laws}
use Rattle.script_run.specs.Runs.{Gains, IsFresh, IsUnshutOrEnds, Writes, Cuts, Breaks, AnswersAndShuts, IsFrontAfter, IsByLinesAfter}
use Rattle.script_run.specs.Statuses.{of_input, of_output}
use Rattle.script_run.specs.Text.{is_malformed}
use Rattle.script_run.proofs.Fronts.{nothing-front}
use Rattle.script_run.proofs.Going.{Going, goes-same, going-begins, going-more, going-breaks, going-end_breaks, going-begun, going-end_begun, going-ends, going-ends_front, going-ends_in_turn, going-ends_own, line_broken-goes, end_broken-goes, end-goes, stopped, stopped-by_lines, going-by_lines, going-end_by_lines, going-ends_by_lines, nothing-by_lines, led-answered, led-stops_here, going-cut, going-end_cut, going-stopped, going-broken, going-end_broken, line_broken-own, end_broken-own, breaks-plain}
use Rattle.script_run.proofs.Readings.{Reading, cut-told, told-whole, cut-all, after-read, after-behind, after-short, failed-whole, too_long-is, too_long-whole, reading-begins, reading-line, reading-end}

-- ---- causes

read_failed : (e : InputError) → of_input e ≡ ReadFault → e ≡ input.Failed
read_failed input.Failed is = refl
read_failed input.NoMemory is = absurd cc
read_failed input.TooLong is = absurd cc

read_too_long : (e : InputError) → of_input e ≡ TooLong → e ≡ input.TooLong
read_too_long input.Failed is = absurd cc
read_too_long input.NoMemory is = absurd cc
read_too_long input.TooLong is = refl

read_wrote : (e : InputError) → of_input e ≡ WriteFault → ⊥
read_wrote input.Failed is = cc
read_wrote input.NoMemory is = cc
read_wrote input.TooLong is = cc

wrote_failed : (e : SinkError) → of_output e ≡ WriteFault → e ≡ output.Failed
wrote_failed output.Failed is = refl
wrote_failed output.NoMemory is = absurd cc

wrote_read : (e : SinkError) → of_output e ≡ ReadFault → ⊥
wrote_read output.Failed is = cc
wrote_read output.NoMemory is = cc

wrote_too_long : (e : SinkError) → of_output e ≡ TooLong → ⊥
wrote_too_long output.Failed is = cc
wrote_too_long output.NoMemory is = cc

error-is : (a b : RunError) → IsErrOf {T = Bool} (Err a) b → a ≡ b
error-is a b e = cc

read_used : (e : InputError) → of_input e ≡ Usage → ⊥
read_used input.Failed is = cc
read_used input.NoMemory is = cc
read_used input.TooLong is = cc

wrote_used : (e : SinkError) → of_output e ≡ Usage → ⊥
wrote_used output.Failed is = cc
wrote_used output.NoMemory is = cc

-- ---- faults

-- what rose behind a number rose behind each before it
rose-since : (a b c : ℕ) → a ≤ b → Rose b c → Rose a c
rose-since a b c le rose = omega arith

-- a read failed
pub tells-unread : (e : InputError) (a b c x y : ℕ) → a ≤ b → (e ≡ input.Failed → Rose b c) → x ≤ y → TellsFaults (Err (of_input e)) a c x y
tells-unread e a b c x y le cause later = record {
  read_fault = λ is. rose-since a b c le (cause (read_failed e (error-is (of_input e) ReadFault is)));
  write_fault = λ is. absurd (read_wrote e (error-is (of_input e) WriteFault is));
  later = later;
  usage = λ is. read_used e (error-is (of_input e) Usage is);
}

-- a write failed
pub tells-unwritten : (e : SinkError) (a b x y z : ℕ) → x ≤ y → y ≤ z → (e ≡ output.Failed → Rose y z) → TellsFaults (Err (of_output e)) a b x z
tells-unwritten e a b x y z le later cause = record {
  read_fault = λ is. absurd (wrote_read e (error-is (of_output e) ReadFault is));
  write_fault = λ is. rose-since x y z le (cause (wrote_failed e (error-is (of_output e) WriteFault is)));
  later = le_trans le later;
  usage = λ is. wrote_used e (error-is (of_output e) Usage is);
}

-- no call failed
pub tells-none : (bad : Bool) (a b x y : ℕ) → x ≤ y → TellsFaults (Ok bad) a b x y
tells-none bad a b x y later = record { read_fault = λ is. absurd cc; write_fault = λ is. absurd cc; later = later; usage = λ is. cc }

-- nothing was read
pub runs-nothing : Laws → {W : Type 0} (registry : SharedRegistry) (board : SharedBoard W Ask Finished) (first : State) (left held : Option (List ℕ)) → IsReady registry board first → IsFresh first → RunsSource left left first first (Err NoMemory) held held
runs-nothing laws registry board first left held ready fresh =
    let going = going-begins laws first registry board held ready fresh in
    record {
      given = [];
      reads = record { read = Consumes-nil left; at_end = tt };
      lines = record {
        goes_on = goes-same first;
        front = ([], (λ r b from_r from_b. nothing-front first.workers (start 0) 0 (script_of (script_in left [])) r b), Appends-nil held);
        by_lines = ([], (λ r b from_r from_b. nothing-by_lines first.workers (script_of (script_in left [])) r b), Appends-nil held);
        whole = tt;
        in_turn = tt;
        own = tt;
        shut = tt;
        unshut = inl (ready.posted.unshut fresh.board.0);
        malformed = tt;
        first = record { failed = λ e. absurd cc; too_long = (λ e. absurd cc, λ lt. absurd (omega arith)); up_to = λ e. absurd cc; written = λ e. absurd cc; whole = tt };
        own_reads = λ e. elim e [ inl is ↦ absurd cc | inr is ↦ absurd cc ];
        cut = λ e. absurd cc;
        broken = λ e. (ready.stands.caller.own, going-stopped laws first registry board [] 1 held held held first first going (script_of (script_in left [])) (goes-same first) (Keeps-refl held) (led-stops_here laws first [] 1 first going.led (script_of (script_in left [])) ready.stands.caller.own));
      };
    }

-- ---- what stands at the head of the loop

pub record Running {W : Type 0} (registry : SharedRegistry) (board : SharedBoard W Ask Finished) (first : State) (number : ℕ) (place : Place) (left left' held held' : Option (List ℕ)) (malformed : Bool) (s : State) : Type 0 where
  pub given : List ℕ
  pub done : List Line
  pub pending : List ℕ
  pub reading : Reading place left left' given done pending number
  pub going : Going registry board first done number held held' s
  pub malformed_is : malformed ≡ list_any is_malformed done

module _ (laws : Laws) (stay : WholeLinesStay) (none : NoWholeLine) (first : State) {W : Type 0} (registry : SharedRegistry) (board : SharedBoard W Ask Finished) where
  abbrev At : ℕ → Place → Option (List ℕ) → Option (List ℕ) → Option (List ℕ) → Option (List ℕ) → Bool → State → Type 0
  At number place left left' held held' malformed s = Running registry board first number place left left' held held' malformed s

  pub running-begins : (place : Place) (left held : Option (List ℕ)) → place ≡ record { kept = record { begun = Some []; unseen = [] }; room = 268435456; ended = false } → IsReady registry board first → IsFresh first
      → At 1 place left left held held false first
  running-begins place left held is ready fresh = record {
    given = [];
    done = [];
    pending = [];
    reading = reading-begins place left is;
    going = going-begins laws first registry board held ready fresh;
    malformed_is = refl;
  }

  module _ (number : ℕ) (place place' : Place) (left left' left'' x y : Option (List ℕ)) (malformed : Bool) (s : State) (at : At number place left left' x y malformed s) where
    -- ---- the next line wasn't found

    module _ (e : InputError) (found : FindsNext at.pending place place' left' left'' (Err e)) where
      abbrev stopped_at : List ℕ
      stopped_at = at.given ++ (found.reads.before ++ found.reads.piece)

      answered-at : (lines : List Line) → lines ≡ at.done → Gains x y (AreAnsweredAfter first.workers lines (known s.registry) (known s.board))
      answered-at lines same =
          subst (λ ls. Gains x y (AreAnsweredAfter first.workers ls (known s.registry) (known s.board))) (sym same)
          (text_in at.going.led.turn, led-answered laws first at.done number s at.going.led, at.going.written)

      not-read : AnswersFirst (λ ls. AreAnsweredAfter first.workers ls (known s.registry) (known s.board)) (λ ls. BeginsWithTextAfter first.workers ls (known s.registry) (known s.board)) stopped_at (Err (of_input e)) x y
      not-read = record {
        failed = λ is. answered-at (whole_script stopped_at) (failed-whole stay none place place' left left' left'' at.given at.done at.pending number (Err e) at.reading found (ap (λ z. Err z) (read_failed e (error-is (of_input e) ReadFault is))));
        too_long = (
          λ is. (too_long-is stay none place place' left left' left'' at.given at.done at.pending number (Err e) at.reading found).0 (ap (λ z. Err z) (read_too_long e (error-is (of_input e) TooLong is))),
          λ lt.
              let is = (too_long-is stay none place place' left left' left'' at.given at.done at.pending number (Err e) at.reading found).1 lt in
              let same : e ≡ input.TooLong = cc in
              ap (λ z. Err (of_input z)) same,
        );
        up_to = λ is.
            let m = too_long-whole stay none place place' left left' left'' at.given at.done at.pending number (Err e) at.reading found (ap (λ z. Err z) (read_too_long e (error-is (of_input e) TooLong is))) in
            (m.0, m.1, m.2, answered-at (whole_script (take m.0 stopped_at)) m.3);
        written = λ is. absurd (read_wrote e (error-is (of_input e) WriteFault is));
        whole = tt;
      }

      pub runs-unread : RunsSource left left'' first s (Err (of_input e)) x y
      runs-unread =
          let cut = after-read stay none place place' left left' left'' at.given at.done at.pending number (Err e) at.reading found in
          let told = cut-told place.ended left left'' stopped_at at.done (at.pending ++ (found.reads.before ++ found.reads.piece)) cut in
          record {
            given = stopped_at;
            reads = record { read = cut.read; at_end = tt };
            lines = record {
              goes_on = at.going.led.goes;
              front =
                  subst (λ ls. Gains x y (IsFrontAfter first.workers ls (known s.registry) (known s.board))) (sym told.1)
                  (stopped laws first registry board at.done number x y y s s at.going told.0 (goes-same s) (Keeps-refl y));
              by_lines =
                  subst (λ ls. Gains x y (IsByLinesAfter first.workers ls (known s.registry) (known s.board))) (sym told.1)
                  (stopped-by_lines laws first registry board at.done number x y y s s at.going told.0 (goes-same s) (Keeps-refl y));
              whole = tt;
              in_turn = tt;
              own = tt;
              shut = tt;
              unshut = inl (at.going.ready.posted.unshut at.going.led.board_caller);
              malformed = tt;
              first = not-read;
              own_reads = λ is. at.going.ready.stands.caller.own;
              cut = λ is. absurd (read_wrote e (error-is (of_input e) WriteFault is));
              broken = λ is. (
                at.going.ready.stands.caller.own,
                subst (λ ls. Gains x y (IsBrokenOffAfter first.workers ls (known s.registry) (known s.board))) (sym told.1)
                    (going-stopped laws first registry board at.done number x y y s s at.going told.0 (goes-same s) (Keeps-refl y)
                    (led-stops_here laws first at.done number s at.going.led told.0 at.going.ready.stands.caller.own)),
              );
            };
          }

    -- ---- the next line was found

    module _ (said : Line) (found : FindsNext at.pending place place' left' left'' (Ok (Some said))) where
      abbrev all_at : List ℕ
      all_at = at.given ++ (found.reads.before ++ found.reads.piece)

      next-reading : Reading place' left left'' all_at (at.done ++ said ∷ []) found.line.0 (number + 1)
      next-reading =
          reading-line stay none place place' left left' left'' at.given at.done at.pending number (Ok (Some said)) at.reading found found.room said found.line.0 found.line.1 found.line.2

      pub running-more : (z : Option (List ℕ)) (s' : State) (bad : Bool) → bad ≡ is_malformed said → Writes (Replies (width_of said) (line_dialogue s.workers s.script_state number said) s s' []) y z → IsReady registry board s'
          → At (number + 1) place' left left'' x z (malformed || bad) s'
      running-more z s' bad bad_is step ready = record {
        given = all_at;
        done = at.done ++ said ∷ [];
        pending = found.line.0;
        reading = next-reading;
        going = going-more laws first registry board at.done number x y z s s' at.going said step ready;
        malformed_is =
            ap (λ m. m || bad) at.malformed_is
            ∙ (ap (λ b. list_any is_malformed at.done || b) (bad_is ∙ sym (or_none (is_malformed said)))
            ∙ sym (list_any-append is_malformed at.done (said ∷ [])));
      }
        where
          or_none : (b : Bool) → (b || false) ≡ b
          or_none true = refl
          or_none false = refl

      pub runs-broken : (z : Option (List ℕ)) (s' : State) (e : SinkError) → Breaks (line_dialogue s.workers s.script_state number said) s s' (Replies (width_of said) (line_dialogue s.workers s.script_state number said) s s' []) y z → (e ≡ output.Failed → Cuts (Replies (width_of said) (line_dialogue s.workers s.script_state number said) s s' []) y z)
          → ((known s'.board).number ≡ 0 → is_shut (known s'.board).seen ≡ false) → RunsSource left left'' first s' (Err (of_output e)) x z
      runs-broken z s' e breaks cuts unshut =
          let told = cut-told place'.ended left left'' all_at (at.done ++ said ∷ []) found.line.0 next-reading.cut in
          let short = after-short stay none place place' left left' left'' at.given at.done at.pending number (Ok (Some said)) at.reading found found.room in
          record {
            given = all_at;
            reads = record { read = next-reading.cut.read; at_end = tt };
            lines = record {
              goes_on = line_broken-goes laws first registry board at.done number x y z s s' at.going said breaks;
              front =
                  subst (λ ls. Gains x z (IsFrontAfter first.workers ls (known s'.registry) (known s'.board))) (sym told.1)
                  (going-breaks laws first registry board at.done number x y z s s' at.going said told.0 breaks);
              by_lines =
                  subst (λ ls. Gains x z (IsByLinesAfter first.workers ls (known s'.registry) (known s'.board))) (sym told.1)
                  (going-by_lines laws first registry board at.done number x y z s s' at.going said told.0 breaks);
              whole = tt;
              in_turn = tt;
              own = tt;
              shut = tt;
              unshut = inl (unshut ((line_broken-goes laws first registry board at.done number x y z s s' at.going said breaks).board.number ∙ (sym at.going.led.goes.board.number ∙ at.going.led.board_caller)));
              malformed = tt;
              first = record {
                failed = λ is. absurd (wrote_read e (error-is (of_output e) ReadFault is));
                too_long = (λ is. absurd (wrote_too_long e (error-is (of_output e) TooLong is)), λ lt. absurd (short lt));
                up_to = λ is. absurd (wrote_too_long e (error-is (of_output e) TooLong is));
                written = λ is.
                    going-begun laws first registry board at.done number x y z s s' at.going (whole_script (take (length all_at - 65536) all_at))
                    (after-behind stay none place place' left left' left'' at.given at.done at.pending number (Ok (Some said)) at.reading found) said breaks;
                whole = tt;
              };
              own_reads = λ is. elim is [
                | inl read ↦ absurd (wrote_read e (error-is (of_output e) ReadFault read))
                | inr long ↦ absurd (wrote_too_long e (error-is (of_output e) TooLong long))
              ];
              cut = λ is.
                  let part = cuts (wrote_failed e (error-is (of_output e) WriteFault is)) in (
                    part.1.asked.caller.own,
                    subst (λ ls. Gains x z (IsCutOffAfter first.workers ls (known s'.registry) (known s'.board))) (sym told.1)
                        (going-cut laws first registry board at.done number x y z s s' at.going said told.0 part),
                  );
              broken = λ is. (
                line_broken-own laws first registry board at.done number x y z s s' at.going said breaks,
                subst (λ ls. Gains x z (IsBrokenOffAfter first.workers ls (known s'.registry) (known s'.board))) (sym told.1)
                    (going-broken laws first registry board at.done number x y z s s' at.going said told.0 breaks),
              );
            };
          }

    -- ---- the end was found

    module _ (found : FindsNext at.pending place place' left' left'' (Ok None)) where
      abbrev end_at : List ℕ
      end_at = at.given ++ (found.reads.before ++ found.reads.piece)

      end-reading : Reading place' left left'' end_at at.done [] number
      end-reading =
          reading-end stay none place place' left left' left'' at.given at.done at.pending number (Ok None) at.reading found found.room found.line.0 found.line.1 found.line.2

      at-end : IsAtEnd left''
      at-end = end-reading.cut.at_end found.line.1

      all-lines : script_of (script_in left end_at) ≡ at.done
      all-lines =
          ap script_of (told-whole left left'' end_at end-reading.cut.read at-end)
          ∙ cut-all place'.ended left left'' end_at at.done [] end-reading.cut refl

      short-end : 2 ^ 28 < length end_at → ⊥
      short-end = after-short stay none place place' left left' left'' at.given at.done at.pending number (Ok None) at.reading found found.room

      pub runs-end_broken : (z : Option (List ℕ)) (s' : State) (e : SinkError) → Breaks (end s.script_state) s s' (AnswersAndShuts s s') y z → (e ≡ output.Failed → Cuts (AnswersAndShuts s s') y z) → IsUnshutOrEnds (known s'.board) → RunsSource left left'' first s' (Err (of_output e)) x z
      runs-end_broken z s' e broken cuts unshut =
          let breaks = breaks-plain laws first registry board at.done number x y z s s' at.going broken in
          record {
            given = end_at;
            reads = record { read = end-reading.cut.read; at_end = tt };
            lines = record {
              goes_on = end_broken-goes laws first registry board at.done number x y z s s' at.going breaks;
              front = going-end_breaks laws first registry board at.done number x y z s s' at.going (script_of (script_in left end_at)) all-lines breaks;
              by_lines = going-end_by_lines laws first registry board at.done number x y z s s' at.going (script_of (script_in left end_at)) all-lines breaks;
              whole = tt;
              in_turn = tt;
              own = tt;
              shut = tt;
              unshut = unshut;
              malformed = tt;
              first = record {
                failed = λ is. absurd (wrote_read e (error-is (of_output e) ReadFault is));
                too_long = (λ is. absurd (wrote_too_long e (error-is (of_output e) TooLong is)), λ lt. absurd (short-end lt));
                up_to = λ is. absurd (wrote_too_long e (error-is (of_output e) TooLong is));
                written = λ is.
                    going-end_begun laws first registry board at.done number x y z s s' at.going (whole_script (take (length end_at - 65536) end_at)) end-reading.behind breaks;
                whole = tt;
              };
              own_reads = λ is. elim is [
                | inl read ↦ absurd (wrote_read e (error-is (of_output e) ReadFault read))
                | inr long ↦ absurd (wrote_too_long e (error-is (of_output e) TooLong long))
              ];
              cut = λ is.
                  let did = cuts (wrote_failed e (error-is (of_output e) WriteFault is)) in
                  (did.1.1.asked.caller.own, going-end_cut laws first registry board at.done number x y z s s' at.going (script_of (script_in left end_at)) all-lines did);
              broken = λ is. (
                end_broken-own laws first registry board at.done number x y z s s' at.going broken,
                going-end_broken laws first registry board at.done number x y z s s' at.going (script_of (script_in left end_at)) all-lines broken,
              );
            };
          }

      pub runs-whole : (z : Option (List ℕ)) (s' : State) → Writes (AnswersEnd s s' []) y z → EndsShut (known s'.board) → RunsSource left left'' first s' (Ok malformed) x z
      runs-whole z s' step shut =
          let lines = script_of (script_in left end_at) in
          record {
            given = end_at;
            reads = record { read = end-reading.cut.read; at_end = at-end };
            lines = record {
              goes_on = end-goes laws first registry board at.done number x y z s s' at.going step;
              front = going-ends_front laws first registry board at.done number x y z s s' at.going lines all-lines step;
              by_lines = going-ends_by_lines laws first registry board at.done number x y z s s' at.going lines all-lines step;
              whole = going-ends laws first registry board at.done number x y z s s' at.going lines all-lines step;
              in_turn = going-ends_in_turn laws first registry board at.done number x y z s s' at.going lines all-lines step;
              own = going-ends_own laws first registry board at.done number x y z s s' at.going lines all-lines step;
              shut = shut;
              unshut = inr shut;
              malformed = at.malformed_is ∙ ap (list_any is_malformed) (sym all-lines);
              first = record {
                failed = λ e. absurd cc;
                too_long = (λ e. absurd cc, λ lt. absurd (short-end lt));
                up_to = λ e. absurd cc;
                written = λ e. absurd cc;
                whole =
                    going-end_begun laws first registry board at.done number x y z s s' at.going (whole_script (take (length end_at - 65536) end_at)) end-reading.behind
                    (inr (step.0, step.1, (step.0, ([], append-nil step.0), step.2)));
              };
              own_reads = λ e. elim e [ inl is ↦ absurd cc | inr is ↦ absurd cc ];
              cut = λ e. absurd cc;
              broken = λ e. absurd cc;
            };
          }
