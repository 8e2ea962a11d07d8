-- What is known when the clients have ended, for what follows.
use Rattle.std.proofs.Common.{◌≡◌, ◌≤◌, ◌+◌, ℕ, suc, Bool, true, false, List, [], ◌∷◌, ◌++◌, length, map, Ok, Err, sym, refl, ap, ◌∙◌, subst, inl}
use Rattle.std.specs.Prelude.{Result, IfOk, IsOk, MatchResult, reverse}
use Rattle.std.specs.List.{flat_map}
use Rattle.std.proofs.lemmas.List.{reverse-reverse}
use Rattle.alg_registry.specs.declared.entry.RegEntry.{RegEntry}
use Rattle.alg_registry.specs.Legal.{LegalReg}
use Rattle.alg_registry.specs.Made.{Made}
use Rattle.alg_registry.specs.Rows.{caller_of as reg_caller}
use Rattle.board.specs.declared.entry.BoardEntry.{BoardEntry}
use Rattle.board.specs.declared.entry.BoardEntry.TheVariants.{Shut}
use Rattle.board.specs.Alone.{PeersGone}
use Rattle.board.specs.Entries.{caller_of as board_caller}
use Rattle.board.specs.Legal.{LegalBoard, is_shut}
use Rattle.board.specs.PipelineHistory.{is_work}
use Rattle.client_texts.specs.Outputs.{under_headings}
use Rattle.crew.specs.Both.{CrewedOnBoth}
use Rattle.crew.specs.declared.passes.Passes.{Passes}
use Rattle.crew.specs.Peers.{AreOuts, RanBeside, RunsOnBoth}
use Rattle.dialogues.specs.ScriptState.{Live}
use Rattle.reply_text.specs.Answers.{text_of}
use Rattle.script_run.specs.Runs.{AreNew}
use Rattle.script_session.specs.SharedEnd.{IsJoined, EndsFirst}
use Rattle.script_session.specs.PerformedDialogue.{HasSeenMore, SeesOn}
use Rattle.script_text.specs.declared.commands.Line.{Line}
use Rattle.script_text.specs.Script.{script_of}
use Rattle.recorded_calls.specs.declared.stop.Stop.{Stop}
use Rattle.recorded_calls.specs.SharedCalls.{HaveEnded}
use Rattle.shared_registry.specs.Builds.{is_building}
use Rattle.templates.specs.Table.{table}
use Rattle.transforms.specs.declared.ask.Ask.{Ask}
use Rattle.turn_lock.specs.PassLaws.{AtTurn, Enters, Leaves}
use Rattle.turn_lock.specs.Passes.{knows}
use Rattle.turn_lock.specs.Turns.{Known, Shows, StartsWith}
use Rattle.client_run.specs.declared.with_workers.Output.{Output}
use Rattle.client_run.specs.declared.client.ClientText.{ClientText}
use Rattle.client_run.specs.WithWorkers.{printed_by, GaveNumbers, GaveWorkers, HasShutLast, HaveLeft, EndsRest, AnswersRest, AnswersParts, PartsRan, texts_in}
use Rattle.client_run.specs.EndLaws.{EndLaws, ShutLaws}
use Rattle.client_run.specs.Parts.{FirstOpens, ClientRan}
use Rattle.client_run.proofs.AtEnd.{callers-are, shut-once, ends-shut, printed, malformed-is, one-lists}
use Rattle.client_run.proofs.Rest.{history-of, numbers-after, numbers-then, length-of-map, have-ended, met-joined, met-gone, met-unshut, shut-last, shut-next, none-began}

pub ok-map : {X E : Type 0} (P Q : X → Type 0) (r : Result X E) → ((x : X) → P x → Q x) → IfOk r P → IfOk r Q
ok-map P Q (Ok x) f holds = f x holds
ok-map P Q (Err e) f holds = tt

pub ok-of : {X E : Type 0} (P : X → Type 0) (r : Result X E) (x : X) → r ≡ Ok x → IfOk r P → P x
ok-of P r x is holds = subst (λ y. IfOk y P) is holds

pub ok-case : {X E : Type 0} (P : X → Type 0) (Q : E → Type 0) (r : Result X E) (x : X) → r ≡ Ok x → MatchResult r P Q → P x
ok-case P Q r x is m = subst (λ y. MatchResult y P Q) is m

-- what holds where an error came
pub err-of : {X E : Type 0} (P : X → Type 0) (Q : E → Type 0) (r : Result X E) (e : E) → r ≡ Err e → MatchResult r P Q → Q e
err-of P Q r e is m = subst (λ x. MatchResult x P Q) is m

runs-map : (G H : ℕ → Passes Ask → Passes Ask → Result ClientText Stop → Type 0) → ((n : ℕ) (p q : Passes Ask) (x : Result ClientText Stop) → G n p q x → H n p q x)
    → (n : ℕ) (k : Passes Ask) (rs : List (Passes Ask × Result ClientText Stop)) → RunsOnBoth G n k rs → RunsOnBoth H n k rs
runs-map G H f n k [] runs = tt
runs-map G H f n k (x ∷ rs) runs = ((runs.0.0, runs.0.1, f n runs.0.0 x.0 x.1 runs.0.2), runs-map G H f (suc n) k rs runs.1)

module _ (laws : EndLaws) (workers : ℕ) (shared : List Live) (parts : List (List ℕ)) (p j : Passes Ask) (lines : List Line) (text : List ℕ) (bad : Bool) (opens : FirstOpens workers lines shared p text bad)
    (zero_r : (knows p.registry).number ≡ 0) (zero_b : (knows p.board).number ≡ 0) (gave : GaveWorkers workers p) (some : 1 ≤ length parts)
    (Gives : ℕ → Passes Ask → Passes Ask → Result ClientText Stop → Type 0) (rs : List (Passes Ask × Result ClientText Stop)) (ran : RanBeside Gives 17 (length parts) p rs j)
    (m : Known (BoardEntry Ask)) (turn : AtTurn board_caller LegalBoard (knows j.board) (λ h. Leaves (knows j.board) h m)) where
  abbrev ws-b : List (Known (BoardEntry Ask))
  ws-b = map (λ x. knows x.0.board) rs

  abbrev ws-r : List (Known RegEntry)
  ws-r = map (λ x. knows x.0.registry) rs

  left-b : ((knows j.board).number ≡ (knows p.board).number) × ((knows j.board).made ≡ (knows p.board).made) × StartsWith (knows j.board).seen (knows p.board).seen × StartsWith (knows j.board).ended (knows p.board).ended
  left-b = laws.board.leave 17 ws-b (knows p.board) (knows j.board) ran.2

  count-b : length ws-b ≡ length parts
  count-b = length-of-map (λ x. knows x.0.board) rs ∙ ran.0

  count-r : length ws-r ≡ length parts
  count-r = length-of-map (λ x. knows x.0.registry) rs ∙ ran.0

  all-ended : HaveEnded (knows j.board)
  all-ended = have-ended laws.board (length parts) ws-b (knows p.board) (knows j.board) zero_b some count-b ran.2

  pub rest-joined : IsJoined shared m
  rest-joined =
      met-joined laws.board laws.shut (knows p.board) (knows j.board) m zero_b opens.own_board opens.legal opens.unshut left-b.0 left-b.1 left-b.2 all-ended turn shared opens.lent opens.apart opens.owned

  pub rest-gone : PeersGone m
  rest-gone = met-gone laws.board laws.shut (knows p.board) (knows j.board) m zero_b opens.own_board opens.legal opens.unshut left-b.0 left-b.1 left-b.2 all-ended turn

  pub rest-unshut : is_shut m.seen ≡ false
  rest-unshut = met-unshut laws.board laws.shut (knows p.board) (knows j.board) m zero_b opens.own_board opens.legal opens.unshut left-b.0 left-b.1 left-b.2 all-ended turn

  -- what is left of the first one's passes once the board is shut
  pub rest-left : (q : Passes Ask) → knows q.registry ≡ knows j.registry → HasShutLast (knows q.board) → (knows q.board).next ≡ m.next → (knows q.board).ended ≡ m.ended → HaveLeft workers (length parts) q
  rest-left q same shut next ended = record {
    registry = ap (λ (x : Known RegEntry). x.number) same ∙ ((laws.registry.leave 17 ws-r (knows p.registry) (knows j.registry) ran.3).0 ∙ zero_r);
    gave_registry = subst (λ k. GaveNumbers workers (length parts) k) (sym same) (numbers-after laws.registry workers (length parts) ws-r (knows p.registry) (knows j.registry) some count-r gave.registry ran.3);
    gave_board = numbers-then workers (length parts) (knows j.board) (knows q.board) (next ∙ ap (λ (x : Known (BoardEntry Ask)). x.next) turn.2) (ended ∙ ap (λ (x : Known (BoardEntry Ask)). x.ended) turn.2)
        (numbers-after laws.board workers (length parts) ws-b (knows p.board) (knows j.board) some count-b gave.board ran.2);
    shut = shut;
  }

  -- and what was printed
  pub rest-answers : ((n : ℕ) (a b : Passes Ask) (x : Result ClientText Stop) → Gives n a b x → ClientRan workers shared parts n a b x) → (q : Passes Ask) → knows q.registry ≡ knows j.registry
      → {V E : Type 0} (Items : V → List (Result ClientText Stop)) (outs : Result V E) → IfOk outs (λ o. AreOuts (Items o) rs) → (text' : List ℕ) (bad' : Bool) (lent : List Live) → lent ≡ shared
      → IsOk outs × IfOk outs (λ o. EndsRest lent m (knows q.board) (Items o) text text' bad bad') → AnswersRest workers shared parts p q text text' bad bad'
  rest-answers gives q same Items (Ok o) are text' bad' lent is holds = record {
    rs = rs;
    joined = j;
    ran = (ran.0, runs-map Gives (λ n a b x. ClientRan workers shared parts n a b x) gives 17 p rs ran.1, ran.2, ran.3);
    said = holds.1.said;
    all = sym (reverse-reverse (map (λ x. x.1) rs)) ∙ (ap reverse (sym are) ∙ holds.1.all);
    met = m;
    turn = turn;
    ends = subst (λ lives. EndsFirst lives m (knows q.board) (text ++ under_headings 1 (texts_in holds.1.said)) text') is holds.1.ends;
    registry = same;
    malformed = holds.1.malformed;
  }
  rest-answers gives q same Items (Err e) are text' bad' lent is holds = (let nothing : false ≡ true = holds.0 in absurd cc)

-- behind other texts
pub ends-behind : (before : List ℕ) (lives : List Live) (k l : Known (BoardEntry Ask)) (text none last all : List ℕ) → none ≡ [] → text ≡ before → all ≡ text ++ last → EndsFirst lives k l none last → EndsFirst lives k l before all
ends-behind before lives k l text none last all none_is text_is all_is ends = record {
  calls = ends.calls;
  said = ends.said;
  called = ends.called;
  is = ends.is;
  says = all_is ∙ ap (λ t. t ++ last) text_is ∙ ap (λ t. before ++ t) (ends.says ∙ ap (λ t. t ++ flat_map text_of ends.said) none_is);
  own = ends.own;
  ended = ends.ended;
  shut = ends.shut;
  gone = ends.gone;
  handed = ends.handed;
}

-- what is left where no client began
pub left-at-once : (shuts : ShutLaws) (workers clients : ℕ) (few : workers ≤ 16) (p o q : Passes Ask) → AreNew p → GaveWorkers workers p → HasSeenMore (knows p.registry) (knows o.registry) → SeesOn (knows p.board) (knows o.board)
    → knows q.registry ≡ knows o.registry → AtTurn board_caller LegalBoard (knows o.board) (λ h. Enters LegalBoard (knows o.board) h (Shut (knows o.board).number) (knows q.board)) → HaveLeft workers clients q
left-at-once shuts workers clients few p o q new gave more_r more_b same turn =
    let zero_b : (knows o.board).number ≡ 0 = more_b.more.number ∙ new.board.0 in
    let next_b : (knows o.board).next ≡ workers + 1 = more_b.more.next ∙ gave.board in
    let gone = none-began workers (knows o.board) few zero_b next_b in
    record {
      registry = ap (λ (x : Known RegEntry). x.number) same ∙ (more_r.number ∙ new.registry.0);
      gave_registry = inl (ap (λ (x : Known RegEntry). x.next) same ∙ (more_r.next ∙ gave.registry));
      gave_board = inl (shut-next shuts (knows o.board) (knows q.board) gone turn ∙ next_b);
      shut = shut-last shuts (knows o.board) (knows q.board) gone turn;
    }

-- the histories at the end
pub parts-ran : {F : Type 0} (laws : EndLaws) (workers : ℕ) (few : workers ≤ 16) (first : List ℕ) (parts : List (List ℕ)) (some : 1 ≤ length parts) (p q l : Passes Ask) (r : List RegEntry) (b : List (BoardEntry Ask)) (result : Result Output F)
    → HaveLeft workers (length parts) q → IfOk result (λ now. AnswersParts workers (script_of first) parts q (printed_by now) now.malformed) → CrewedOnBoth workers p q l
    → Shows reg_caller (knows l.registry) r → Shows board_caller (knows l.board) b → LegalReg r → Made table r → LegalBoard b → PartsRan workers (length parts) (first ∷ parts) r b result
parts-ran laws workers few first parts some p q l r b (Ok now) left all crewed shows_r shows_b legal made legal_b =
    let hr = history-of reg_caller is_building (knows p.registry).next workers (knows q.registry) (knows l.registry) r crewed.registry shows_r in
    let hb = history-of board_caller is_work (knows p.board).next workers (knows q.board) (knows l.board) b crewed.board shows_b in
    record {
      printed = printed laws workers (length parts) few q left r b hr hb legal_b (script_of first) parts some refl (printed_by now) now.malformed all;
      malformed = malformed-is laws workers (length parts) few q left r b hr hb legal_b (script_of first) parts some refl (printed_by now) now.malformed all;
      shut = ends-shut laws workers (length parts) few q left r b hr hb legal_b (script_of first) parts some refl (printed_by now) now.malformed all;
      one_list = one-lists laws workers (length parts) few q left r b hr hb legal_b (script_of first) parts some refl (printed_by now) now.malformed all;
      closed = inl (shut-once laws workers (length parts) few q left r b hr hb legal_b);
      callers = callers-are laws workers (length parts) few q left r b hr hb legal_b;
      legal = legal;
      legal_board = legal_b;
      faithful = made;
    }
parts-ran laws workers few first parts some p q l r b (Err e) left all crewed shows_r shows_b legal made legal_b =
    let hr = history-of reg_caller is_building (knows p.registry).next workers (knows q.registry) (knows l.registry) r crewed.registry shows_r in
    let hb = history-of board_caller is_work (knows p.board).next workers (knows q.board) (knows l.board) b crewed.board shows_b in
    record {
      printed = tt;
      malformed = tt;
      shut = tt;
      one_list = tt;
      closed = inl (shut-once laws workers (length parts) few q left r b hr hb legal_b);
      callers = callers-are laws workers (length parts) few q left r b hr hb legal_b;
      legal = legal;
      legal_board = legal_b;
      faithful = made;
    }
