-- The first line that no trace can have.
use Rattle.std.proofs.Common.{◌≡◌, ℕ, zero, suc, ◌+◌, ◌-◌, ◌<◌, ◌≤◌, Bool, true, false, not, List, [], ◌∷◌, ◌++◌, length, map, Some, None, refl, sym, ◌∙◌, ap, subst, arith, inl, inr, ◌⊎◌, append-nil, append_assoc, Bor}
use Rattle.std.specs.Prelude.{◌==◌}
use Rattle.std.specs.List.{list_all}
use Rattle.std.proofs.lemmas.Bool.{and_parts, and_from, cases_lt, eqb-true}
use Rattle.std.proofs.lemmas.List.{length_push}
use Rattle.alg_registry.specs.declared.entry.RegEntry.{RegEntry}
use Rattle.alg_registry.specs.declared.entry.RegEntry.TheVariants.{Enlist, Look, Claim, End, Waited, Unlist, Get, Put, Refs}
use Rattle.alg_registry.specs.declared.entry.RegEntry.TheVariants as reg
use Rattle.board.specs.declared.entry.BoardEntry.{BoardEntry}
use Rattle.board.specs.declared.entry.BoardEntry.TheVariants.{Born, Submit, Take, Finish, Enq, Deq, Done, Hold, Go, Collect, Close, Share, Mask, Shut}
use Rattle.trace_check.specs.declared.lines.AskLine.{AskLine}
use Rattle.trace_check.specs.declared.lines.Event.TheVariants as event
use Rattle.trace_text.specs.Trace.{trace_of, board_fits, is_event, AreEvents}
use Rattle.trace_check.specs.Lines.{origin_of, IsLineOf, IsReadAs}
use Rattle.trace_check.specs.Verdicts.{IsTraceOf, HasFront, BeginsWith, IsFirstBad}
use Rattle.trace_check.specs.TraceReader.{IsOneLine, IsCut}
use Rattle.trace_check.proofs.Cuts.{fed, text_of, same_cut, NextLine, next_line, none_behind}
use Rattle.trace_check.proofs.Traces.{IsSoFar, reg_line, board_line, lines, trace_lines, are_lines, count_lines, ends_of, all_front, board_more, reg_more, one_reg, one_board}

-- what comes next in a trace that goes on: an event of the board, or one of the registry where only such came before
pub record NextBoard (rest : List ℕ) : Type 0 where
  pub event : BoardEntry AskLine
  pub more : List ℕ
  pub fits : board_fits origin_of event ≡ true
  pub is : rest ≡ fed (board_line event) ++ more

pub record NextRegistry (r : List RegEntry) (b : List (BoardEntry AskLine)) (rest : List ℕ) : Type 0 where
  pub event : RegEntry
  pub more : List ℕ
  pub before : List RegEntry
  pub known : is_event event ≡ true
  pub is : rest ≡ fed (reg_line event) ++ more
  pub same : lines r b ≡ lines before []

both_fronts : (text : List ℕ) (r : List RegEntry) (b : List (BoardEntry AskLine)) (rest : List ℕ) (r' : List RegEntry) (b' : List (BoardEntry AskLine)) (line rest' : List ℕ) → text ≡ trace_of origin_of r b ++ rest → text ≡ (trace_of origin_of r' b' ++ fed line) ++ rest' → AreEvents origin_of r b → AreEvents origin_of r' b' → length r + length b ≡ length r' + length b' → NextLine (lines r b) rest (lines r' b') line rest'
both_fronts text r b rest r' b' line rest' f g k k' n =
    next_line (lines r b) (lines r' b') line rest rest' (are_lines r b k) (are_lines r' b' k') (count_lines r b ∙ (n ∙ sym (count_lines r' b')))
    (ap (λ t. t ++ rest) (sym (trace_lines r b)) ∙ (sym f ∙ (g ∙ (ap (λ t. (t ++ fed line) ++ rest') (trace_lines r' b') ∙ append_assoc (text_of (lines r' b')) (fed line) rest'))))

next_board : (text : List ℕ) (r : List RegEntry) (b : List (BoardEntry AskLine)) (rest : List ℕ) (count : ℕ) (r' : List RegEntry) (b' init : List (BoardEntry AskLine)) (e : BoardEntry AskLine) (rest' : List ℕ) → IsSoFar text r b rest count → length r' + length b' ≡ count + 1 → b' ≡ init ++ e ∷ [] → HasFront text r' b' rest' → NextBoard rest
next_board text r b rest count r' b' init e rest' k n is h =
    let f = k.front in
    let v = h.events in
    let a = all_front (board_fits origin_of) init e (subst (λ c. list_all (board_fits origin_of) c ≡ true) is v.1) in
    let g : text ≡ (trace_of origin_of r' init ++ fed (board_line e)) ++ rest' = h.front ∙ ap (λ t. t ++ rest') (ap (trace_of origin_of r') is ∙ board_more r' init e) in
    let m : length r + length b ≡ length r' + length init = (let q = k.counted in let l = ap length is in let p = length_push init e in omega arith) in
    let x = both_fronts text r b rest r' init (board_line e) rest' f.front g f.events (v.0, a.0) m in
    record { event = e; more = rest'; fits = a.1; is = x.rest }

next_registry : (text : List ℕ) (r : List RegEntry) (b : List (BoardEntry AskLine)) (rest : List ℕ) (count : ℕ) (r' init : List RegEntry) (e : RegEntry) (rest' : List ℕ) → IsSoFar text r b rest count → length r' ≡ count + 1 → r' ≡ init ++ e ∷ [] → HasFront text r' [] rest' → NextRegistry r b rest
next_registry text r b rest count r' init e rest' k n is h =
    let f = k.front in
    let v = h.events in
    let a = all_front is_event init e (subst (λ c. list_all is_event c ≡ true) is v.0) in
    let g : text ≡ (trace_of origin_of init [] ++ fed (reg_line e)) ++ rest' = h.front ∙ ap (λ t. t ++ rest') (ap (λ c. trace_of origin_of c []) is ∙ reg_more init e) in
    let m : length r + length b ≡ length init + 0 = (let q = k.counted in let l = ap length is in let p = length_push init e in omega arith) in
    let x = both_fronts text r b rest init [] (reg_line e) rest' f.front g f.events (a.0, refl) m in
    record { event = e; more = rest'; before = init; known = a.1; is = x.rest; same = x.lines }

pub next_of : (text : List ℕ) (r : List RegEntry) (b : List (BoardEntry AskLine)) (rest : List ℕ) (count : ℕ) (r' : List RegEntry) (b' : List (BoardEntry AskLine)) (rest' : List ℕ) → IsSoFar text r b rest count → length r' + length b' ≡ count + 1 → HasFront text r' b' rest' → NextBoard rest ⊎ NextRegistry r b rest
next_of text r b rest count r' (x ∷ xs) rest' k n h = (let e = ends_of x xs in inl (next_board text r b rest count r' (x ∷ xs) e.front e.last rest' k n e.is h))
next_of text r b rest count [] [] rest' k n h = absurd (omega arith)
next_of text r b rest count (x ∷ xs) [] rest' k n h = (let e = ends_of x xs in inr (next_registry text r b rest count (x ∷ xs) e.front e.last rest' k (omega arith) e.is h))

-- a trace of more events begins with one of fewer
cut_board : (text : List ℕ) (n : ℕ) (r : List RegEntry) (b init : List (BoardEntry AskLine)) (e : BoardEntry AskLine) (rest : List ℕ) → length r + length b ≡ suc n → b ≡ init ++ e ∷ [] → HasFront text r b rest → BeginsWith text n
cut_board text n r b init e rest c is h =
    let v = h.events in
    let a = all_front (board_fits origin_of) init e (subst (λ x. list_all (board_fits origin_of) x ≡ true) is v.1) in
    let g : text ≡ (trace_of origin_of r init ++ fed (board_line e)) ++ rest = h.front ∙ ap (λ t. t ++ rest) (ap (trace_of origin_of r) is ∙ board_more r init e) in
    (r, init, fed (board_line e) ++ rest, (let l = ap length is in let p = length_push init e in omega arith), record { events = (v.0, a.0); front = g ∙ append_assoc (trace_of origin_of r init) (fed (board_line e)) rest })

cut_registry : (text : List ℕ) (n : ℕ) (r init : List RegEntry) (e : RegEntry) (rest : List ℕ) → length r ≡ suc n → r ≡ init ++ e ∷ [] → HasFront text r [] rest → BeginsWith text n
cut_registry text n r init e rest c is h =
    let v = h.events in
    let a = all_front is_event init e (subst (λ x. list_all is_event x ≡ true) is v.0) in
    let g : text ≡ (trace_of origin_of init [] ++ fed (reg_line e)) ++ rest = h.front ∙ ap (λ t. t ++ rest) (ap (λ x. trace_of origin_of x []) is ∙ reg_more init e) in
    (init, [], fed (reg_line e) ++ rest, (let l = ap length is in let p = length_push init e in omega arith), record { events = (a.0, refl); front = g ∙ append_assoc (trace_of origin_of init []) (fed (reg_line e)) rest })

one_less : (text : List ℕ) (n : ℕ) (r : List RegEntry) (b : List (BoardEntry AskLine)) (rest : List ℕ) → length r + length b ≡ suc n → HasFront text r b rest → BeginsWith text n
one_less text n r (x ∷ xs) rest c h = (let e = ends_of x xs in cut_board text n r (x ∷ xs) e.front e.last rest c e.is h)
one_less text n [] [] rest c h = absurd (omega arith)
one_less text n (x ∷ xs) [] rest c h = (let e = ends_of x xs in cut_registry text n (x ∷ xs) e.front e.last rest (omega arith) e.is h)

pub begins_less : (text : List ℕ) (k n : ℕ) → BeginsWith text (k + n) → BeginsWith text n
begins_less text zero n b = (let z : 0 + n ≡ n = omega arith in subst (BeginsWith text) z b)
begins_less text (suc k) n (r, b, rest, c, h) = (let s : suc k + n ≡ suc (k + n) = omega arith in begins_less text k n (one_less text (k + n) r b rest (c ∙ s) h))

-- a text that goes on where no event can is no trace
rest_of : (text : List ℕ) (r : List RegEntry) (b : List (BoardEntry AskLine)) (rest : List ℕ) (count : ℕ) (r' : List RegEntry) (b' : List (BoardEntry AskLine)) → IsSoFar text r b rest count → IsTraceOf text r' b' → length r' + length b' ≤ count → rest ≡ []
rest_of text r b rest count r' b' k t le =
    let f = k.front in
    none_behind (lines r b) (lines r' b') rest (are_lines r b f.events) (are_lines r' b' t.0) (let a = count_lines r b in let c = count_lines r' b' in let q = k.counted in omega arith)
    (ap (λ x. x ++ rest) (sym (trace_lines r b)) ∙ (sym f.front ∙ (t.1 ∙ trace_lines r' b')))

no_trace : (text : List ℕ) (r : List RegEntry) (b : List (BoardEntry AskLine)) (rest : List ℕ) (count : ℕ) (r' : List RegEntry) (b' : List (BoardEntry AskLine)) → IsSoFar text r b rest count → (rest ≡ [] → ⊥) → (BeginsWith text (count + 1) → ⊥) → IsTraceOf text r' b' → (length r' + length b' < count + 1) ⊎ (count + 1 ≤ length r' + length b') → ⊥
no_trace text r b rest count r' b' k some here t (inl few) = some (rest_of text r b rest count r' b' k t (omega arith))
no_trace text r b rest count r' b' k some here t (inr many) =
    let n = length r' + length b' in
    let e : length r' + length b' ≡ (n - (count + 1)) + (count + 1) = omega arith in
    here (begins_less text (n - (count + 1)) (count + 1) (r', b', [], e, record { events = t.0; front = t.1 ∙ sym (append-nil (trace_of origin_of r' b')) }))

first_bad : (text : List ℕ) (r : List RegEntry) (b : List (BoardEntry AskLine)) (rest : List ℕ) (count : ℕ) → IsSoFar text r b rest count → (rest ≡ [] → ⊥) → (NextBoard rest → ⊥) → (NextRegistry r b rest → ⊥) → IsFirstBad text (count + 1)
first_bad text r b rest count k some nb nr =
    let here : BeginsWith text (count + 1) → ⊥ = λ (r', b', rest', n, h). neither nb nr (next_of text r b rest count r' b' rest' k n h) in
    record {
      counted = omega arith;
      before = (let z : (count + 1) - 1 ≡ count = omega arith in subst (BeginsWith text) (sym z) (r, b, rest, k.counted, k.front));
      here = here;
      none = λ (r', b', t). no_trace text r b rest count r' b' k some here t (cases_lt (length r' + length b') (count + 1));
    }
  where
    neither : {A B : Type 0} → (A → ⊥) → (B → ⊥) → A ⊎ B → ⊥
    neither f g (inl a) = f a
    neither f g (inr b) = g b

-- where no line feed comes
has_feed : (line more : List ℕ) → IsOneLine (fed line ++ more) → ⊥
has_feed [] more h = cc
has_feed (c ∷ line) more h = has_feed line more (and_parts (not (c == 10)) (list_all (λ b. not (b == 10)) (fed line ++ more)) h).1

pub bad_uncut : (text : List ℕ) (r : List RegEntry) (b : List (BoardEntry AskLine)) (rest : List ℕ) (count : ℕ) → IsSoFar text r b rest count → (rest ≡ [] → ⊥) → IsOneLine rest → IsFirstBad text (count + 1)
bad_uncut text r b rest count k some one =
    first_bad text r b rest count k some (λ x. has_feed (board_line x.event) x.more (subst IsOneLine x.is one)) (λ x. has_feed (reg_line x.event) x.more (subst IsOneLine x.is one))

-- the first line of what is left
first_is : (rest line more body other after : List ℕ) → IsOneLine body → line ≡ body ++ 10 ∷ [] → rest ≡ line ++ more → IsOneLine other → rest ≡ fed other ++ after → line ≡ fed other
first_is rest line more body other after one l r one' r' =
    let c = same_cut body other more after one one' (sym (append_assoc body (10 ∷ []) more) ∙ (ap (λ t. t ++ more) (sym l) ∙ (sym r ∙ (r' ∙ append_assoc other (10 ∷ []) after)))) in
    l ∙ ap fed c.line

-- where a line is no event's
pub bad_line : (text : List ℕ) (r : List RegEntry) (b : List (BoardEntry AskLine)) (rest : List ℕ) (count : ℕ) (line more : Bor (List ℕ)) → IsSoFar text r b rest count → (rest ≡ [] → ⊥) → IsCut rest (Some (line, more)) → IsReadAs line.now None → IsFirstBad text (count + 1)
bad_line text r b rest count line more k some cut no_event =
    first_bad text r b rest count k some
    (λ x. no_event (event.Board x.event) (x.fits, first_is rest line.now more.now cut.0 (board_line x.event) x.more cut.1 cut.2 cut.3 (one_board x.event x.fits) x.is))
    (λ x. no_event (event.Registry x.event) (x.known, first_is rest line.now more.now cut.0 (reg_line x.event) x.more cut.1 cut.2 cut.3 (one_reg x.event x.known) x.is))

-- where a line of the registry comes behind one of the board
abbrev begins_with : ℕ → List ℕ → Bool
begins_with c [] = false
begins_with c (b ∷ bs) = b == c

reg_head : (e : RegEntry) → begins_with 114 (reg_line e) ≡ true
reg_head (Enlist caller spec answer) = refl
reg_head (Look caller text plain answer) = refl
reg_head (Claim caller larval) = refl
reg_head (End caller larval answer) = refl
reg_head (Waited caller larval) = refl
reg_head (Unlist caller driver answer) = refl
reg_head (Get caller id ok) = refl
reg_head (Put caller id) = refl
reg_head (Refs caller driver) = refl
reg_head (reg.List caller) = refl

board_head : (e : BoardEntry AskLine) → begins_with 98 (board_line e) ≡ true
board_head (Born caller pipe shape) = refl
board_head (Submit caller pipe number ask) = refl
board_head (Take caller pipe number) = refl
board_head (Finish caller pipe number) = refl
board_head (Enq caller pipe ask backlog answer) = refl
board_head (Deq caller pipe number started) = refl
board_head (Done caller pipe number) = refl
board_head (Hold caller pipe) = refl
board_head (Go caller pipe) = refl
board_head (Collect caller pipe to) = refl
board_head (Close caller pipe) = refl
board_head (Share caller pipe) = refl
board_head (Mask caller pipe mask) = refl
board_head (Shut caller) = refl

not_both : (line : List ℕ) → begins_with 114 line ≡ true → begins_with 98 line ≡ true → ⊥
not_both [] r b = cc
not_both (c ∷ line) r b = (let x : c ≡ 114 = eqb-true c 114 r in let y : c ≡ 98 = eqb-true c 98 b in absurd (omega arith))

heads : (r : List RegEntry) → list_all (begins_with 114) (map reg_line r) ≡ true
heads [] = refl
heads (e ∷ r) = and_from (begins_with 114 (reg_line e)) (list_all (begins_with 114) (map reg_line r)) (reg_head e) (heads r)

all_behind : (p : List ℕ → Bool) (xs ys : List (List ℕ)) → list_all p (xs ++ ys) ≡ true → list_all p ys ≡ true
all_behind p [] ys h = h
all_behind p (x ∷ xs) ys h = all_behind p xs ys (and_parts (p x) (list_all p (xs ++ ys)) h).1

no_board_before : (r before : List RegEntry) (b : List (BoardEntry AskLine)) → (length b ≡ 0 → ⊥) → lines r b ≡ lines before [] → ⊥
no_board_before r before [] some same = some refl
no_board_before r before (e ∷ b) some same =
    let all : list_all (begins_with 114) (lines r (e ∷ b)) ≡ true = subst (λ ls. list_all (begins_with 114) ls ≡ true) (sym (same ∙ append-nil (map reg_line before))) (heads before) in
    let behind = all_behind (begins_with 114) (map reg_line r) (board_line e ∷ map board_line b) all in
    not_both (board_line e) (and_parts (begins_with 114 (board_line e)) (list_all (begins_with 114) (map board_line b)) behind).0 (board_head e)

fed_same : (a b : List ℕ) → IsOneLine a → IsOneLine b → fed a ≡ fed b → a ≡ b
fed_same a b p q e = (let c = same_cut a b [] [] p q e in c.line)

pub bad_order : (text : List ℕ) (r : List RegEntry) (b : List (BoardEntry AskLine)) (rest : List ℕ) (count : ℕ) (line more : Bor (List ℕ)) (e : RegEntry) → IsSoFar text r b rest count → (rest ≡ [] → ⊥) → IsCut rest (Some (line, more)) → IsLineOf line.now (event.Registry e) → (length b ≡ 0 → ⊥) → IsFirstBad text (count + 1)
bad_order text r b rest count line more e k some cut is boards =
    first_bad text r b rest count k some
    (λ x. (let f = first_is rest line.now more.now cut.0 (board_line x.event) x.more cut.1 cut.2 cut.3 (one_board x.event x.fits) x.is in
    let same : reg_line e ≡ board_line x.event = fed_same (reg_line e) (board_line x.event) (one_reg e is.0) (one_board x.event x.fits) (sym is.1 ∙ f) in
    not_both (board_line x.event) (subst (λ l. begins_with 114 l ≡ true) same (reg_head e)) (board_head x.event)))
    (λ x. no_board_before r x.before b boards x.same)

-- Premises as the code has them.
pub some_left : (xs : List ℕ) (b : Bool) → b ≡ (length xs == 0) → b ≡ false → xs ≡ [] → ⊥
some_left xs b is no_more e = (let f : (length xs == 0) ≡ true = ap (λ l. length l == 0) e in cc)

pub some_boards : (b : List (BoardEntry AskLine)) (n : ℕ) → n ≡ length b → false ≡ (n == 0) → length b ≡ 0 → ⊥
some_boards b n len f none = (let g : (n == 0) ≡ true = ap (λ m. m == 0) (len ∙ none) in cc)
