-- A text has one verdict.
use Rattle.std.proofs.Common.{◌≡◌, ℕ, zero, suc, ◌+◌, ◌-◌, ◌<◌, ◌≤◌, ◌⊎◌, inl, inr, Bool, true, false, not, List, [], ◌∷◌, ◌++◌, length, map, take, Option, Some, None, refl, sym, ◌∙◌, ap, subst, arith, append-nil, append_assoc}
use Rattle.std.specs.Prelude.{◌==◌, slice_get, MatchOption}
use Rattle.std.specs.List.{list_all, slice_split, filter_map}
use Rattle.std.proofs.lemmas.Bool.{and_parts}
use Rattle.std.proofs.lemmas.List.{map-append}
use Rattle.std.specs.declared.sync.Arc.{Arc}
use Rattle.std.specs.declared.alloc.Global.{Global}
use Rattle.std.specs.Arc.{arc_value}
use Rattle.alg_registry.specs.declared.entry.RegEntry.{RegEntry}
use Rattle.alg_registry.specs.Legal as registry
use Rattle.board.specs.declared.entry.BoardEntry.{BoardEntry}
use Rattle.board.specs.Legal.{AreRightAfter}
use Rattle.trace_text.specs.Text.{sentence, reg_words, board_words}
use Rattle.trace_text.specs.Trace.{is_event, board_fits, AreEvents}
use Rattle.trace_check.specs.declared.reason.Reason.{Reason}
use Rattle.trace_check.specs.declared.reason.Reason.TheVariants.{State, Caller, Number, Answer}
use Rattle.trace_check.specs.declared.lines.AskLine.{AskLine}
use Rattle.trace_check.specs.declared.lines.Event.{Event}
use Rattle.trace_check.specs.declared.lines.Event.TheVariants as event
use Rattle.trace_check.specs.declared.verdict.TraceVerdict.{TraceVerdict}
use Rattle.trace_check.specs.declared.verdict.TraceVerdict.TheVariants.{Legal, Illegal, NoTrace}
use Rattle.trace_check.specs.Reasons.{IsFirstMissing}
use Rattle.trace_check.specs.RegReasons as reg
use Rattle.trace_check.specs.BoardReasons as brd
use Rattle.trace_check.specs.Pipes.{PipeState, judged, pipes_after, is_shut_by}
use Rattle.trace_check.specs.Lines.{origin_of}
use Rattle.trace_check.specs.AskLines.{ask_of, unplaced}
use Rattle.trace_check.specs.EventParser.{event_in}
use Rattle.trace_check.specs.Verdicts.{IsTraceOf, BeginsWith, IsFirstBad, IsVerdict, AreJudged}
use Rattle.trace_check.proofs.Judging.{IsBoard}
use Rattle.trace_check.proofs.Parts.{judged_right, judged_wrong, wrong_not_right}
use Rattle.trace_check.proofs.RegParts as reg_parts
use Rattle.trace_check.proofs.Boarding.{board_step, board_empty}
use Rattle.trace_check.proofs.Cuts.{text_of, AreLines, same_cut, feed_then, some_fed}
use Rattle.trace_check.proofs.Traces.{reg_line, board_line, lines, trace_lines, are_lines}
use Rattle.trace_check.proofs.LineWords.{event_read}
use Rattle.trace_check.proofs.Asks.{judged_same, after_same, shut_same}
use Rattle.trace_check.proofs.Bads.{begins_less}
use Rattle.trace_check.proofs.Knowing.{Passes, none_judged, right_passes}

-- One part is the first that is missing.
one_missing : (S C N W : Type 0) (r s : Reason) → IsFirstMissing S C N W r → IsFirstMissing S C N W s → r ≡ s
one_missing S C N W State State a b = refl
one_missing S C N W State Caller a b = absurd (a b.0)
one_missing S C N W State Number a b = absurd (a b.0)
one_missing S C N W State Answer a b = absurd (a b.0)
one_missing S C N W Caller State a b = absurd (b a.0)
one_missing S C N W Caller Caller a b = refl
one_missing S C N W Caller Number a b = absurd (a.1 b.1)
one_missing S C N W Caller Answer a b = absurd (a.1 b.1)
one_missing S C N W Number State a b = absurd (b a.0)
one_missing S C N W Number Caller a b = absurd (b.1 a.1)
one_missing S C N W Number Number a b = refl
one_missing S C N W Number Answer a b = absurd (a.2 b.2)
one_missing S C N W Answer State a b = absurd (b a.0)
one_missing S C N W Answer Caller a b = absurd (b.1 a.1)
one_missing S C N W Answer Number a b = absurd (b.2 a.2)
one_missing S C N W Answer Answer a b = refl

-- The registry's first wrong event.
abbrev IsWrongAt : List RegEntry → List RegEntry → ℕ → Reason → Type 0
IsWrongAt before h k r = MatchOption (slice_get h k) ⊥ (λ e. reg.IsWrong (before ++ take k h) e r)

not_there : {X : Type 0} (before : List RegEntry) (k : ℕ) (r : Reason) → IsWrongAt before [] k r → X
not_there before zero r w = absurd w
not_there before (suc k) r w = absurd w

right_there : (before h : List RegEntry) (e : RegEntry) (r : Reason) → registry.IsRight before e → reg.IsWrong (before ++ []) e r → ⊥
right_there before h e r a w = reg_parts.wrong_not_right before e r (subst (λ b. reg.IsWrong b e r) (append-nil before) w) a

grown : (before h : List RegEntry) (x e : RegEntry) (r : Reason) → reg.IsWrong (before ++ x ∷ h) e r → reg.IsWrong ((before ++ x ∷ []) ++ h) e r
grown before h x e r w = subst (λ b. reg.IsWrong b e r) (sym (append_assoc before (x ∷ []) h)) w

later : (before h : List RegEntry) (x : RegEntry) (k : ℕ) (r : Reason) → IsWrongAt before (x ∷ h) (suc k) r → IsWrongAt (before ++ x ∷ []) h k r
later before h x k r w = moved (slice_get h k) w
  where
    moved : (o : Option RegEntry) → MatchOption o ⊥ (λ e. reg.IsWrong (before ++ x ∷ take k h) e r) → MatchOption o ⊥ (λ e. reg.IsWrong ((before ++ x ∷ []) ++ take k h) e r)
    moved None w = absurd w
    moved (Some e) w = grown before (take k h) x e r w

none_wrong : (before h : List RegEntry) (k : ℕ) (r : Reason) → registry.MayFollow before h → IsWrongAt before h k r → ⊥
none_wrong before [] k r l w = not_there before k r w
none_wrong before (x ∷ h) zero r l w = right_there before h x r l.0 w
none_wrong before (x ∷ h) (suc k) r l w = none_wrong (before ++ x ∷ []) h k r l.1 (later before h x k r w)

record IsSame (k m : ℕ) (r s : Reason) : Type 0 where
  pub place : k ≡ m
  pub reason : r ≡ s

one_wrong : (before h : List RegEntry) (k m : ℕ) (r s : Reason) → registry.MayFollow before (take k h) → IsWrongAt before h k r → registry.MayFollow before (take m h) → IsWrongAt before h m s → IsSame k m r s
one_wrong before [] k m r s l w n v = not_there before k r w
one_wrong before (x ∷ h) zero zero r s l w n v = record { place = refl; reason = one_missing (reg.HasState (before ++ []) x) (reg.HasCaller (before ++ []) x) (reg.HasNumber (before ++ []) x) (reg.HasAnswer (before ++ []) x) r s w v }
one_wrong before (x ∷ h) zero (suc m) r s l w n v = absurd (right_there before h x r n.0 w)
one_wrong before (x ∷ h) (suc k) zero r s l w n v = absurd (right_there before h x s l.0 v)
one_wrong before (x ∷ h) (suc k) (suc m) r s l w n v =
    let i = one_wrong (before ++ x ∷ []) h k m r s l.1 (later before h x k r w) n.1 (later before h x m s v) in
    record { place = ap suc i.place; reason = i.reason }

one_registry : (h : List RegEntry) (a b : Option (ℕ × Reason)) → reg.IsFirstWrong h a → reg.IsFirstWrong h b → a ≡ b
one_registry h None None p q = refl
one_registry h None (Some y) p q = absurd (none_wrong [] h y.0 y.1 p q.1)
one_registry h (Some x) None p q = absurd (none_wrong [] h x.0 x.1 q p.1)
one_registry h (Some x) (Some y) p q =
    let s = one_wrong [] h x.0 y.0 x.1 y.1 p.0 p.1 q.0 q.1 in
    ap (λ k. Some (k, x.1)) s.place ∙ ap (λ r. Some (y.0, r)) s.reason

-- The board's first wrong event, as the checker finds it.
abbrev first_from : ℕ → Option Reason → Option (ℕ × Reason) → Option (ℕ × Reason)
first_from n None later = later
first_from n (Some r) later = Some (n, r)

abbrev first_judged : {A : Type 0} → ℕ → List PipeState → Bool → List (BoardEntry A) → Option (ℕ × Reason)
first_judged n ps shut [] = None
first_judged n ps shut (e ∷ h) = first_from n (judged ps shut e) (first_judged (n + 1) (pipes_after ps e) (is_shut_by shut e) h)

none_found : {A : Type 0} (n : ℕ) (ps : List PipeState) (shut : Bool) (h : List (BoardEntry A)) → Passes ps shut h → first_judged n ps shut h ≡ None
none_found n ps shut [] p = refl
none_found n ps shut (e ∷ h) p =
    ap (λ o. first_from n o (first_judged (n + 1) (pipes_after ps e) (is_shut_by shut e) h)) p.0 ∙ none_found (n + 1) (pipes_after ps e) (is_shut_by shut e) h p.1

found_here : {A : Type 0} (n : ℕ) (ps : List PipeState) (shut : Bool) (before : List (BoardEntry A)) (e : BoardEntry A) (r : Reason) (o : Option Reason) (later : Option (ℕ × Reason)) → judged ps shut e ≡ o → IsBoard ps shut before → brd.IsWrong before e r → first_from n o later ≡ Some (n, r)
found_here n ps shut before e r None later j b w = absurd (wrong_not_right before e r w (judged_right ps shut before e b j))
found_here n ps shut before e r (Some s) later j b w = ap (λ t. Some (n, t)) (one_missing (brd.HasState before e) (brd.HasCaller before e) (brd.HasNumber before e) (brd.HasAnswer before e) s r (judged_wrong ps shut before e s b j) w)

abbrev IsBoardWrong : {A : Type 0} → List (BoardEntry A) → List (BoardEntry A) → ℕ → Reason → Type 0
IsBoardWrong before h k r = MatchOption (slice_get h k) ⊥ (λ e. brd.IsWrong (before ++ take k h) e r)

board_later : {A : Type 0} (before h : List (BoardEntry A)) (x : BoardEntry A) (k : ℕ) (r : Reason) → IsBoardWrong before (x ∷ h) (suc k) r → IsBoardWrong (before ++ x ∷ []) h k r
board_later before h x k r w = moved (slice_get h k) w
  where
    moved : (o : Option (BoardEntry _)) → MatchOption o ⊥ (λ e. brd.IsWrong (before ++ x ∷ take k h) e r) → MatchOption o ⊥ (λ e. brd.IsWrong ((before ++ x ∷ []) ++ take k h) e r)
    moved None w = absurd w
    moved (Some e) w = subst (λ b. brd.IsWrong b e r) (sym (append_assoc before (x ∷ []) (take k h))) w

one_found : {A : Type 0} (n : ℕ) (ps : List PipeState) (shut : Bool) (before h : List (BoardEntry A)) (k : ℕ) (r : Reason) → IsBoard ps shut before → AreRightAfter before (take k h) → IsBoardWrong before h k r → first_judged n ps shut h ≡ Some (n + k, r)
one_found n ps shut before [] zero r b l w = absurd w
one_found n ps shut before [] (suc k) r b l w = absurd w
one_found n ps shut before (x ∷ h) zero r b l w =
    found_here n ps shut before x r (judged ps shut x) (first_judged (n + 1) (pipes_after ps x) (is_shut_by shut x) h) refl b (subst (λ past. brd.IsWrong past x r) (append-nil before) w)
    ∙ ap (λ m. Some (m, r)) (let z : n ≡ n + 0 = omega arith in z)
one_found n ps shut before (x ∷ h) (suc k) r b l w =
    ap (λ o. first_from n o (first_judged (n + 1) (pipes_after ps x) (is_shut_by shut x) h)) (none_judged ps shut before x (judged ps shut x) refl b l.0)
    ∙ (one_found (n + 1) (pipes_after ps x) (is_shut_by shut x) (before ++ x ∷ []) h k r (board_step ps shut before x l.0 b) l.1 (board_later before h x k r w)
    ∙ ap (λ m. Some (m, r)) (let z : (n + 1) + k ≡ n + suc k = omega arith in z))

found_is : {A : Type 0} (h : List (BoardEntry A)) (a : Option (ℕ × Reason)) → brd.IsFirstWrong h a → first_judged 0 [] false h ≡ a
found_is h None l = none_found 0 [] false h (right_passes [] false [] h board_empty l)
found_is h (Some x) w = one_found 0 [] false [] h x.0 x.1 board_empty w.0 w.1 ∙ ap (λ m. Some (m, x.1)) (let z : 0 + x.0 ≡ x.0 = omega arith in z)

-- It looks at nothing of an ask.
found_anywhere : (n : ℕ) (ps : List PipeState) (shut : Bool) (h : List (BoardEntry AskLine)) → first_judged n ps shut (map unplaced h) ≡ first_judged n ps shut h
found_anywhere n ps shut [] = refl
found_anywhere n ps shut (e ∷ h) =
    let f : Arc AskLine Global → Arc AskLine Global = λ ask. ask_of (arc_value ask).origin in
    ap (λ o. first_from n o (first_judged (n + 1) (pipes_after ps (unplaced e)) (is_shut_by shut (unplaced e)) (map unplaced h))) (judged_same f ps shut e)
    ∙ (ap (λ qs. first_from n (judged ps shut e) (first_judged (n + 1) qs (is_shut_by shut (unplaced e)) (map unplaced h))) (after_same f ps e)
    ∙ (ap (λ t. first_from n (judged ps shut e) (first_judged (n + 1) (pipes_after ps e) t (map unplaced h))) (shut_same f shut e)
    ∙ ap (first_from n (judged ps shut e)) (found_anywhere (n + 1) (pipes_after ps e) (is_shut_by shut e) h)))

one_board : (h h' : List (BoardEntry AskLine)) (a b : Option (ℕ × Reason)) → map unplaced h ≡ map unplaced h' → brd.IsFirstWrong h a → brd.IsFirstWrong h' b → a ≡ b
one_board h h' a b same p q =
    sym (found_is h a p)
    ∙ (sym (found_anywhere 0 [] false h)
    ∙ (ap (first_judged 0 [] false) same
    ∙ (found_anywhere 0 [] false h' ∙ found_is h' b q)))

-- A text is the trace of one list of events, but for where its asks lie in memory.
one_text : (ls ms : List (List ℕ)) → AreLines ls → AreLines ms → text_of ls ≡ text_of ms → ls ≡ ms
one_text [] [] p q e = refl
one_text [] (m ∷ ms) p q e = absurd (some_fed m (text_of ms) (sym e))
one_text (l ∷ ls) [] p q e = absurd (some_fed l (text_of ls) e)
one_text (l ∷ ls) (m ∷ ms) p q e =
    let pl = and_parts (list_all (λ b. not (b == 10)) l) (list_all (list_all (λ b. not (b == 10))) ls) p in
    let qm = and_parts (list_all (λ b. not (b == 10)) m) (list_all (list_all (λ b. not (b == 10))) ms) q in
    let c = same_cut l m (text_of ls) (text_of ms) pl.0 qm.0 (sym (feed_then l (text_of ls)) ∙ (e ∙ feed_then m (text_of ms))) in
    ap (λ x. x ∷ ls) c.line ∙ ap (λ xs. m ∷ xs) (one_text ls ms pl.1 qm.1 c.rest)

event_at : List ℕ → Option Event
event_at line = event_in (slice_split (λ b. b == 32) line)

abbrev reg_event : RegEntry → Option Event
reg_event e = Some (event.Registry e)

abbrev board_event : BoardEntry AskLine → Option Event
board_event e = Some (event.Board (unplaced e))

reg_events : (r : List RegEntry) → list_all is_event r ≡ true → map event_at (map reg_line r) ≡ map reg_event r
unfolding event_at
reg_events [] k = refl
reg_events (e ∷ r) k =
    let p = and_parts (is_event e) (list_all is_event r) k in
    let g = (event_read (reg_line e) 10 (sentence (reg_words e)) (event.Registry e) refl (p.0, refl)).1 in
    ap (λ g. g ∷ map event_at (map reg_line r)) g ∙ ap (λ gs. reg_event e ∷ gs) (reg_events r p.1)

board_events : (b : List (BoardEntry AskLine)) → list_all (board_fits origin_of) b ≡ true → map event_at (map board_line b) ≡ map board_event b
unfolding event_at
board_events [] k = refl
board_events (e ∷ b) k =
    let p = and_parts (board_fits origin_of e) (list_all (board_fits origin_of) b) k in
    let g = (event_read (board_line e) 10 (sentence (board_words origin_of e)) (event.Board e) refl (p.0, refl)).1 in
    ap (λ g. g ∷ map event_at (map board_line b)) g ∙ ap (λ gs. board_event e ∷ gs) (board_events b p.1)

all_events : (r : List RegEntry) (b : List (BoardEntry AskLine)) → AreEvents origin_of r b → map event_at (lines r b) ≡ map reg_event r ++ map board_event b
all_events r b k =
    map-append event_at (map reg_line r) (map board_line b)
    ∙ (ap (λ gs. gs ++ map event_at (map board_line b)) (reg_events r k.0) ∙ ap (λ gs. map reg_event r ++ gs) (board_events b k.1))

abbrev reg_in : Option Event → Option RegEntry
reg_in (Some (event.Registry e)) = Some e
reg_in _ = None

abbrev board_in : Option Event → Option (BoardEntry AskLine)
board_in (Some (event.Board e)) = Some e
board_in _ = None

regs_again : (r : List RegEntry) (b : List (BoardEntry AskLine)) → filter_map reg_in (map reg_event r ++ map board_event b) ≡ r
regs_again [] [] = refl
regs_again [] (e ∷ b) = regs_again [] b
regs_again (e ∷ r) b = ap (λ es. e ∷ es) (regs_again r b)

boards_again : (r : List RegEntry) (b : List (BoardEntry AskLine)) → filter_map board_in (map reg_event r ++ map board_event b) ≡ map unplaced b
boards_again [] [] = refl
boards_again [] (e ∷ b) = ap (λ ps. unplaced e ∷ ps) (boards_again [] b)
boards_again (e ∷ r) b = boards_again r b

record AreAlike (r r' : List RegEntry) (b b' : List (BoardEntry AskLine)) : Type 0 where
  pub registry : r ≡ r'
  pub board : map unplaced b ≡ map unplaced b'

alike : (text : List ℕ) (r r' : List RegEntry) (b b' : List (BoardEntry AskLine)) → IsTraceOf text r b → IsTraceOf text r' b' → AreAlike r r' b b'
alike text r r' b b' p q =
    let l : lines r b ≡ lines r' b' = one_text (lines r b) (lines r' b') (are_lines r b p.0) (are_lines r' b' q.0) (sym (trace_lines r b) ∙ (sym p.1 ∙ (q.1 ∙ trace_lines r' b'))) in
    let g = sym (all_events r b p.0) ∙ (ap (map event_at) l ∙ all_events r' b' q.0) in
    record {
      registry = sym (regs_again r b) ∙ (ap (filter_map reg_in) g ∙ regs_again r' b');
      board = sym (boards_again r b) ∙ (ap (filter_map board_in) g ∙ boards_again r' b');
    }

-- Verdicts.
abbrev illegal_at : (ℕ → ℕ) → Option (ℕ × Reason) → TraceVerdict
illegal_at f None = Legal
illegal_at f (Some x) = Illegal (f x.0) x.1

one_judged : (r : List RegEntry) (b b' : List (BoardEntry AskLine)) (v w : TraceVerdict) → map unplaced b ≡ map unplaced b' → AreJudged r b v → AreJudged r b' w → v ≡ w
one_judged r b b' Legal Legal s p q = refl
one_judged r b b' Legal (Illegal k t) s p (inl q) = ap (illegal_at (λ n. n)) (one_registry r None (Some (k, t)) p.0 q)
one_judged r b b' Legal (Illegal k t) s p (inr q) = absurd (let e = one_board b b' None (Some (k - length r, t)) s p.1 q.2 in cc)
one_judged r b b' (Illegal k t) Legal s (inl p) q = ap (illegal_at (λ n. n)) (one_registry r (Some (k, t)) None p q.0)
one_judged r b b' (Illegal k t) Legal s (inr p) q = absurd (let e = one_board b b' (Some (k - length r, t)) None s p.2 q.1 in cc)
one_judged r b b' (Illegal k t) (Illegal m u) s (inl p) (inl q) = ap (illegal_at (λ n. n)) (one_registry r (Some (k, t)) (Some (m, u)) p q)
one_judged r b b' (Illegal k t) (Illegal m u) s (inl p) (inr q) = absurd (let e = one_registry r (Some (k, t)) None p q.0 in cc)
one_judged r b b' (Illegal k t) (Illegal m u) s (inr p) (inl q) = absurd (let e = one_registry r None (Some (m, u)) p.0 q in cc)
one_judged r b b' (Illegal k t) (Illegal m u) s (inr p) (inr q) =
    let e = one_board b b' (Some (k - length r, t)) (Some (m - length r, u)) s p.2 q.2 in
    let y : k ≡ length r + (k - length r) = (let h = p.1 in omega arith) in
    let z : length r + (m - length r) ≡ m = (let h = q.1 in omega arith) in
    ap (λ n. Illegal n t) y ∙ (ap (illegal_at (λ n. length r + n)) e ∙ ap (λ n. Illegal n u) z)
one_judged r b b' (NoTrace l) w s p q = absurd p
one_judged r b b' Legal (NoTrace m) s p q = absurd q
one_judged r b b' (Illegal k t) (NoTrace m) s p q = absurd q

lt_or_le : (l m : ℕ) → (l < m) ⊎ (m ≤ l)
lt_or_le zero zero = inr (omega arith)
lt_or_le zero (suc m) = inl (omega arith)
lt_or_le (suc l) zero = inr (omega arith)
lt_or_le (suc l) (suc m) = one_more (lt_or_le l m)
  where
    one_more : (l < m) ⊎ (m ≤ l) → (suc l < suc m) ⊎ (suc m ≤ suc l)
    one_more (inl h) = inl (omega arith)
    one_more (inr h) = inr (omega arith)

not_before : (text : List ℕ) (l m : ℕ) → IsFirstBad text l → IsFirstBad text m → l < m → ⊥
not_before text l m p q less =
    let e : m - 1 ≡ (m - 1 - l) + l = omega arith in
    p.here (begins_less text (m - 1 - l) l (subst (BeginsWith text) e q.before))

one_bad : (text : List ℕ) (l m : ℕ) → IsFirstBad text l → IsFirstBad text m → l ≡ m
one_bad text l m p q = by_order (lt_or_le l m) (lt_or_le m l)
  where
    by_order : (l < m) ⊎ (m ≤ l) → (m < l) ⊎ (l ≤ m) → l ≡ m
    by_order (inl a) b = absurd (not_before text l m p q a)
    by_order (inr a) (inl b) = absurd (not_before text m l q p b)
    by_order (inr a) (inr b) = omega arith

pub one_verdict : (text : List ℕ) (v w : TraceVerdict) → IsVerdict text v → IsVerdict text w → v ≡ w
one_verdict text (NoTrace l) (NoTrace m) p q = ap (λ n. NoTrace n) (one_bad text l m p q)
one_verdict text (NoTrace l) Legal p q = absurd (p.none (q.0, q.1, q.2))
one_verdict text (NoTrace l) (Illegal k t) p q = absurd (p.none (q.0, q.1, q.2))
one_verdict text Legal (NoTrace m) p q = absurd (q.none (p.0, p.1, p.2))
one_verdict text (Illegal k t) (NoTrace m) p q = absurd (q.none (p.0, p.1, p.2))
one_verdict text Legal Legal p q = refl
one_verdict text Legal (Illegal k t) p q =
    let s = alike text p.0 q.0 p.1 q.1 p.2 q.2 in
    one_judged p.0 p.1 q.1 Legal (Illegal k t) s.board (p.3, p.4) (subst (λ r. AreJudged r q.1 (Illegal k t)) (sym s.registry) q.3)
one_verdict text (Illegal k t) Legal p q =
    let s = alike text p.0 q.0 p.1 q.1 p.2 q.2 in
    one_judged p.0 p.1 q.1 (Illegal k t) Legal s.board p.3 (subst (λ r. AreJudged r q.1 Legal) (sym s.registry) (q.3, q.4))
one_verdict text (Illegal k t) (Illegal m u) p q =
    let s = alike text p.0 q.0 p.1 q.1 p.2 q.2 in
    one_judged p.0 p.1 q.1 (Illegal k t) (Illegal m u) s.board p.3 (subst (λ r. AreJudged r q.1 (Illegal m u)) (sym s.registry) q.3)
