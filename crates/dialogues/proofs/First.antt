-- First calls of dialogues.
use Rattle.std.proofs.Common.{◌≡◌, ℕ, Bool, true, false, List, [], ◌∷◌, ◌++◌, Option, Some, None, refl, sym, ap, subst, ◌∙◌, append_assoc, append-nil}
use Rattle.std.specs.Prelude.{if◌then◌else◌, ◌==◌}
use Rattle.alg_registry.specs.declared.entry.RegEntry.{RegEntry}
use Rattle.alg_registry.specs.declared.entry.RegEntry.TheVariants as entry
use Rattle.reply_text.specs.declared.answers.Answer.{Answer}
use Rattle.script_text.specs.declared.commands.Line.{Line}
use Rattle.templates.specs.LookResults.{Found, found_in}
use Rattle.dialogues.specs.BoardCalls.{BoardCall}
use Rattle.dialogues.specs.Dialogues.{Dialogue, Ends, Says, Asks, Posts, followed}
use Rattle.dialogues.specs.First.{AreFirstCalls, MayBe, MayAllBe, BeginsBy, AreFurther}
use Rattle.dialogues.specs.FirstCalls.{LooksUp, AreLooks}
use Rattle.dialogues.specs.InTurn.{AsksNothing, AreCalls}
use Rattle.dialogues.specs.Continuations.{Leads}
use Rattle.dialogues.specs.Lines.{lines_dialogue}
use Rattle.dialogues.specs.Questions.{RegQuestion, Enlist, Look, Unlist, Get, Put, Count, ListAll, RegAnswer, reg_call, reg_answer}
use Rattle.dialogues.specs.Questions.{BoardQuestion, Create, Submit, Enqueue, Hold, Go, Poll, Drain, Close, Share, Mask, Shut, BoardAnswer, board_call, board_answer}
use Rattle.dialogues.specs.RegistryCalls.{RegCall, Enlists, Looks, Unlists, Gets, Puts, Counts, Lists, reg_call_of, reg_calls, reg_calls_from, prepend, is_settled, AllSettled}
use Rattle.dialogues.specs.Transcripts.{Transcript, broken, asking, posting, joined, transcript_of, IsTranscript}
use Rattle.dialogues.specs.ScriptState.{ScriptState}
use Rattle.dialogues.proofs.Leading.{turn-goes_on}
use Rattle.dialogues.proofs.RegistryGrowing.{found_in-stays, reg_calls_from-append, none-asked}
use Rattle.dialogues.proofs.Taking.{nothing-are}

-- ---- what calls may come to

-- a call that has come to something stays as it is
may-be-settled : (made call : RegCall) → is_settled made ≡ true → MayBe made call → call ≡ made
may-be-settled (Looks text None) call s m = absurd (let e = s in cc)
may-be-settled (Looks text (Some found)) call s m = m
may-be-settled (Enlists spec answer) call s m = m
may-be-settled (Unlists driver id) call s m = m
may-be-settled (Gets id ok) call s m = m
may-be-settled (Puts id) call s m = m
may-be-settled (Counts driver answer) call s m = m
may-be-settled (Lists rows) call s m = m

-- settled calls, and what further calls may come to
record Behind (a r calls : List RegCall) : Type 0 where
  rest : List RegCall
  calls_are : calls ≡ a ++ rest
  may : MayAllBe r rest

may-behind : (a r calls : List RegCall) → AllSettled a → MayAllBe (a ++ r) calls → Behind a r calls
may-behind [] r calls s m = record { rest = calls; calls_are = refl; may = m }
may-behind (made ∷ a) r [] s m = absurd m
may-behind (made ∷ a) r (call ∷ calls) s m =
    let rest = may-behind a r calls s.1 m.1 in
    record {
      rest = rest.rest;
      calls_are = ap (λ c. c ∷ calls) (may-be-settled made call s.0 m.0) ∙ ap (λ cs. made ∷ cs) rest.calls_are;
      may = rest.may;
    }

may-none : (calls : List RegCall) → MayAllBe [] calls → calls ≡ []
may-none [] m = refl
may-none (call ∷ calls) m = absurd m

may-settled : (r calls : List RegCall) → AllSettled r → MayAllBe r calls → calls ≡ r
may-settled [] calls s m = may-none calls m
may-settled (made ∷ r) [] s m = absurd m
may-settled (made ∷ r) (call ∷ calls) s m = ap (λ c. c ∷ calls) (may-be-settled made call s.0 m.0) ∙ ap (λ cs. made ∷ cs) (may-settled r calls s.1 m.1)

-- ---- of one dialogue

first-none : (d : Dialogue) → AreFirstCalls d [] []
first-none (Ends after) = (refl, refl)
first-none (Says answers next) = let f = first-none next in (f.0, f.1)
first-none (Asks question next) = (refl, refl)
first-none (Posts question next) = (refl, refl)

pub begins-none : (d : Dialogue) → BeginsBy d [] []
begins-none d = λ calls m. subst (λ cs. AreFirstCalls d cs []) (sym (may-none calls m)) (first-none d)

pub begins-turn : (d : Dialogue) (t : Transcript) → IsTranscript d t → AllSettled t.registry → BeginsBy d t.registry t.board
begins-turn d t is settled = λ calls m.
    subst (λ cs. AreFirstCalls d cs t.board) (sym (may-settled t.registry calls settled m))
    (ap (λ (u : Transcript). u.registry) is, ap (λ (u : Transcript). u.board) is)

pub begins-says : (answers : List Answer) (next : Dialogue) (r : List RegCall) (b : List BoardCall) → BeginsBy next r b → BeginsBy (Says answers next) r b
begins-says answers next r b begins = λ calls m. let f = begins calls m in (f.0, f.1)

reg-answered : (q : RegQuestion) (answer : RegAnswer q) → reg_answer q (reg_call q answer) ≡ Some answer
reg-answered (Enlist spec) answer = refl
reg-answered (Look text) answer = refl
reg-answered (Unlist driver) answer = refl
reg-answered (Get id) answer = refl
reg-answered (Put id) answer = refl
reg-answered (Count driver) answer = refl
reg-answered ListAll answer = refl

reg-settled : (q : RegQuestion) (answer : RegAnswer q) → is_settled (reg_call q answer) ≡ true
reg-settled (Enlist spec) answer = refl
reg-settled (Look text) answer = refl
reg-settled (Unlist driver) answer = refl
reg-settled (Get id) answer = refl
reg-settled (Put id) answer = refl
reg-settled (Count driver) answer = refl
reg-settled ListAll answer = refl

board-answered : (q : BoardQuestion) (answer : BoardAnswer q) → board_answer q (board_call q answer) ≡ Some answer
board-answered (Create shape) answer = refl
board-answered (Submit pipe asked) answer = refl
board-answered (Enqueue pipe asked backlog) answer = refl
board-answered (Hold pipe) answer = refl
board-answered (Go pipe) answer = refl
board-answered (Poll pipe) answer = refl
board-answered (Drain pipe) answer = refl
board-answered (Close pipe) answer = refl
board-answered (Share pipe) answer = refl
board-answered (Mask pipe bits) answer = refl
board-answered Shut answer = refl

-- what is asked first, by any call that answers it
first-asked : (q : RegQuestion) (next : RegAnswer q → Dialogue) (answer : RegAnswer q) (calls : List RegCall) (b : List BoardCall)
    → AreFirstCalls (next answer) calls b → AreFirstCalls (Asks q next) (reg_call q answer ∷ calls) b
first-asked q next answer calls b first =
    by_answer (reg_answer q (reg_call q answer)) (reg-answered q answer)
  where
    by_answer : (o : Option (RegAnswer q)) → o ≡ Some answer
        → let turn : Transcript = elim o [ Some given ↦ asking (reg_call q given) (transcript_of (next given) calls b) | None ↦ broken ] in
        (turn.registry ≡ reg_call q answer ∷ calls) × (turn.board ≡ b)
    by_answer o is =
        subst (λ (p : Option (RegAnswer q)). let turn : Transcript = elim p [ Some given ↦ asking (reg_call q given) (transcript_of (next given) calls b) | None ↦ broken ] in
        (turn.registry ≡ reg_call q answer ∷ calls) × (turn.board ≡ b)) (sym is) (ap (λ cs. reg_call q answer ∷ cs) first.0, first.1)

pub begins-asks : (q : RegQuestion) (answer : RegAnswer q) (next : RegAnswer q → Dialogue) (r : List RegCall) (b : List BoardCall)
    → BeginsBy (next answer) r b → BeginsBy (Asks q next) (reg_call q answer ∷ r) b
begins-asks q answer next r b begins = λ calls m.
    let behind = may-behind (reg_call q answer ∷ []) r calls (reg-settled q answer, tt) m in
    subst (λ cs. AreFirstCalls (Asks q next) cs b) (sym behind.calls_are) (first-asked q next answer behind.rest b (begins behind.rest behind.may))

first-posted : (q : BoardQuestion) (next : BoardAnswer q → Dialogue) (answer : BoardAnswer q) (calls : List RegCall) (b : List BoardCall)
    → AreFirstCalls (next answer) calls b → AreFirstCalls (Posts q next) calls (board_call q answer ∷ b)
first-posted q next answer calls b first =
    by_answer (board_answer q (board_call q answer)) (board-answered q answer)
  where
    by_answer : (o : Option (BoardAnswer q)) → o ≡ Some answer
        → let turn : Transcript = elim o [ Some given ↦ posting (board_call q given) (transcript_of (next given) calls b) | None ↦ broken ] in
        (turn.registry ≡ calls) × (turn.board ≡ board_call q answer ∷ b)
    by_answer o is =
        subst (λ (p : Option (BoardAnswer q)). let turn : Transcript = elim p [ Some given ↦ posting (board_call q given) (transcript_of (next given) calls b) | None ↦ broken ] in
        (turn.registry ≡ calls) × (turn.board ≡ board_call q answer ∷ b)) (sym is) (first.0, ap (λ cs. board_call q answer ∷ cs) first.1)

pub begins-posts : (q : BoardQuestion) (answer : BoardAnswer q) (next : BoardAnswer q → Dialogue) (r : List RegCall) (b : List BoardCall)
    → BeginsBy (next answer) r b → BeginsBy (Posts q next) r (board_call q answer ∷ b)
begins-posts q answer next r b begins = λ calls m. first-posted q next answer calls b (begins calls m)

-- ---- looks

-- looks of these that may have come to something, and what they come to
looked-up : (d : Dialogue) (texts : List (List ℕ)) (r calls : List RegCall) → LooksUp d texts → AreLooks texts r → MayAllBe r calls → AreFirstCalls d calls []
looked-up d [] [] calls up are m = subst (λ cs. AreFirstCalls d cs []) (sym (may-none calls m)) (first-none d)
looked-up d [] (call ∷ r) calls up are m = absurd are
looked-up d (text ∷ texts) [] calls up are m = absurd are
looked-up d (text ∷ texts) (made ∷ r) [] up are m = absurd m
looked-up d (text ∷ texts) (made ∷ r) (call ∷ calls) up are m =
    let may : MayBe (Looks text are.0) call = subst (λ c. MayBe c call) are.1 m.0 in
    let came = look-comes text call are.0 may in
    subst (λ e. AreFirstCalls e (call ∷ calls) []) (sym up.1)
    (subst (λ c. AreFirstCalls (Asks (Look text) up.0) (c ∷ calls) []) (sym came.1)
    (first-asked (Look text) up.0 came.0 calls [] (looked-up (up.0 came.0) texts r calls (up.2 came.0) are.2 m.1)))
  where
    look-comes : (text : List ℕ) (call : RegCall) (o : Option Found) → MayBe (Looks text o) call → (found : Found) × (call ≡ Looks text (Some found))
    look-comes text call None m = m
    look-comes text call (Some found) m = (found, m)

pub begins-looks : (d : Dialogue) (texts : List (List ℕ)) (r : List RegCall) → LooksUp d texts → AreLooks texts r → BeginsBy d r []
begins-looks d texts r up are = λ calls m. looked-up d texts r calls up are m

-- one look, whatever it has come to
pub begins-look : (text : List ℕ) (found : Option Found) (next : Found → Dialogue) → BeginsBy (Asks (Look text) next) (Looks text found ∷ []) []
begins-look text found next =
    let up : LooksUp (Asks (Look text) next) (text ∷ []) = (next, refl, λ found. tt) in
    let are : AreLooks (text ∷ []) (Looks text found ∷ []) = (found, refl, tt) in
    begins-looks (Asks (Look text) next) (text ∷ []) (Looks text found ∷ []) up are

-- ---- of one dialogue after another

first-followed : (d : Dialogue) (later : ScriptState → Dialogue) (r : List RegCall) (b : List BoardCall) → AreFirstCalls d r b → AreFirstCalls (followed d later) r b
first-followed (Ends after) later [] [] first = first-none (later after)
first-followed (Ends after) later (call ∷ r) b first = absurd (let e = first.0 in cc)
first-followed (Ends after) later [] (call ∷ b) first = absurd (let e = first.1 in cc)
first-followed (Says answers next) later r b first = let f = first-followed next later r b (first.0, first.1) in (f.0, f.1)
first-followed (Asks q next) later [] b first = first
first-followed (Asks q next) later (call ∷ r) b first = by_answer (reg_answer q call) first (λ answer taken. first-followed (next answer) later r b taken)
  where
    by_answer : (o : Option (RegAnswer q))
        → (let turn : Transcript = elim o [ Some answer ↦ asking (reg_call q answer) (transcript_of (next answer) r b) | None ↦ broken ] in
        (turn.registry ≡ call ∷ r) × (turn.board ≡ b))
        → ((answer : RegAnswer q) → AreFirstCalls (next answer) r b → AreFirstCalls (followed (next answer) later) r b)
        → (let turn : Transcript = elim o [ Some answer ↦ asking (reg_call q answer) (transcript_of (followed (next answer) later) r b) | None ↦ broken ] in
        (turn.registry ≡ call ∷ r) × (turn.board ≡ b))
    by_answer None t go = t
    by_answer (Some answer) t go =
        let f = go answer (let e = t.0 in cc, t.1) in
        (ap (λ cs. reg_call q answer ∷ cs) f.0 ∙ ap (λ c. c ∷ r) (let e = t.0 in cc), f.1)
first-followed (Posts q next) later r [] first = first
first-followed (Posts q next) later r (call ∷ b) first = by_answer (board_answer q call) first (λ answer taken. first-followed (next answer) later r b taken)
  where
    by_answer : (o : Option (BoardAnswer q))
        → (let turn : Transcript = elim o [ Some answer ↦ posting (board_call q answer) (transcript_of (next answer) r b) | None ↦ broken ] in
        (turn.registry ≡ r) × (turn.board ≡ call ∷ b))
        → ((answer : BoardAnswer q) → AreFirstCalls (next answer) r b → AreFirstCalls (followed (next answer) later) r b)
        → (let turn : Transcript = elim o [ Some answer ↦ posting (board_call q answer) (transcript_of (followed (next answer) later) r b) | None ↦ broken ] in
        (turn.registry ≡ r) × (turn.board ≡ call ∷ b))
    by_answer None t go = t
    by_answer (Some answer) t go =
        let f = go answer (t.0, let e = t.1 in cc) in
        (f.0, ap (λ cs. board_call q answer ∷ cs) f.1 ∙ ap (λ c. c ∷ b) (let e = t.1 in cc))

pub begins-first : (first : Dialogue) (later : ScriptState → Dialogue) (r : List RegCall) (b : List BoardCall) → BeginsBy first r b → BeginsBy (followed first later) r b
begins-first first later r b begins = λ calls m. first-followed first later calls b (begins calls m)

-- where a turn is taken up, and the rest begins by further calls
pub first-joined : (d e : Dialogue) (t : Transcript) (r : List RegCall) (b : List BoardCall)
    → ((calls : List RegCall) → transcript_of d (t.registry ++ calls) (t.board ++ b) ≡ joined t (transcript_of e calls b))
    → AllSettled t.registry → BeginsBy e r b → BeginsBy d (t.registry ++ r) (t.board ++ b)
first-joined d e t r b leads settled begins = λ calls m.
    let behind = may-behind t.registry r calls settled m in
    let f = begins behind.rest behind.may in
    let turn = leads behind.rest in
    subst (λ cs. AreFirstCalls d cs (t.board ++ b)) (sym behind.calls_are)
    (ap (λ (u : Transcript). u.registry) turn ∙ ap (λ cs. t.registry ++ cs) f.0, ap (λ (u : Transcript). u.board) turn ∙ ap (λ cs. t.board ++ cs) f.1)

pub begins-later : (first : Dialogue) (later : ScriptState → Dialogue) (t : Transcript) (script_state : ScriptState) (r : List RegCall) (b : List BoardCall) → IsTranscript first t
    → t.after ≡ Some script_state → AllSettled t.registry → BeginsBy (later script_state) r b → BeginsBy (followed first later) (t.registry ++ r) (t.board ++ b)
begins-later first later t script_state r b is after settled begins =
    first-joined (followed first later) (later script_state) t r b (λ calls. turn-goes_on first later t script_state calls b is after) settled begins

pub begins-lines : (workers : ℕ) (script_state now : ScriptState) (n m : ℕ) (lines left : List Line) (t : Transcript) (rest : ScriptState → Dialogue) (r : List RegCall) (b : List BoardCall)
    → Leads workers script_state n lines t now m left → AllSettled t.registry → BeginsBy (lines_dialogue workers now m left rest) r b
    → BeginsBy (lines_dialogue workers script_state n lines rest) (t.registry ++ r) (t.board ++ b)
begins-lines workers script_state now n m lines left t rest r b leads settled begins =
    first-joined (lines_dialogue workers script_state n lines rest) (lines_dialogue workers now m left rest) t r b (λ calls. leads rest calls b) settled begins

-- ---- of a history

pub further-none : (n : ℕ) (r r' : List RegEntry) → AllSettled (reg_calls n r) → AsksNothing n r r' → AreFurther n [] r r'
further-none n r r' settled none =
    let are = nothing-are n r r' settled none in record { more = are.more; goes_on = are.goes_on; calls_are = are.calls_are }

pub further-then : (n : ℕ) (calls later : List RegCall) (r m r' : List RegEntry) → AreCalls n calls r m → AreFurther n later m r' → AreFurther n (calls ++ later) r r'
further-then n calls later r m r' first rest = record {
  more = first.more ++ rest.more;
  goes_on = rest.goes_on ∙ (ap (λ h. h ++ rest.more) first.goes_on ∙ append_assoc r first.more rest.more);
  calls_are = rest.calls_are ∙ (ap (λ cs. cs ++ later) first.calls_are ∙ append_assoc (reg_calls n r) calls later);
}

-- what a call is later: a look that had come to nothing may have come to something
abbrev Comes : RegCall → RegCall → Type 0
Comes (Looks text None) call = (found : Option Found) × (call ≡ Looks text found)
Comes made call = call ≡ made

abbrev AllCome : List RegCall → List RegCall → Type 0
AllCome [] [] = Unit {0}
AllCome (made ∷ r) (call ∷ calls) = Comes made call × AllCome r calls
AllCome r calls = ⊥

comes-same : (made : RegCall) → Comes made made
comes-same (Looks text None) = (None, refl)
comes-same (Looks text (Some found)) = refl
comes-same (Enlists spec answer) = refl
comes-same (Unlists driver id) = refl
comes-same (Gets id ok) = refl
comes-same (Puts id) = refl
comes-same (Counts driver answer) = refl
comes-same (Lists rows) = refl

comes-settled : (made call : RegCall) → is_settled made ≡ true → Comes made call → call ≡ made
comes-settled (Looks text None) call s m = absurd (let e = s in cc)
comes-settled (Looks text (Some found)) call s m = m
comes-settled (Enlists spec answer) call s m = m
comes-settled (Unlists driver id) call s m = m
comes-settled (Gets id ok) call s m = m
comes-settled (Puts id) call s m = m
comes-settled (Counts driver answer) call s m = m
comes-settled (Lists rows) call s m = m

-- what it may be then it might have been before
comes-may : (made call x : RegCall) → Comes made call → MayBe call x → MayBe made x
comes-may (Looks text None) call x c m = by_found c.0 (subst (λ y. MayBe y x) c.1 m)
  where
    by_found : (o : Option Found) → MayBe (Looks text o) x → (found : Found) × (x ≡ Looks text (Some found))
    by_found None m = m
    by_found (Some found) m = (found, m)
comes-may (Looks text (Some found)) call x c m = subst (λ y. MayBe y x) c m
comes-may (Enlists spec answer) call x c m = subst (λ y. MayBe y x) c m
comes-may (Unlists driver id) call x c m = subst (λ y. MayBe y x) c m
comes-may (Gets id ok) call x c m = subst (λ y. MayBe y x) c m
comes-may (Puts id) call x c m = subst (λ y. MayBe y x) c m
comes-may (Counts driver answer) call x c m = subst (λ y. MayBe y x) c m
comes-may (Lists rows) call x c m = subst (λ y. MayBe y x) c m

all-may : (r calls xs : List RegCall) → AllCome r calls → MayAllBe calls xs → MayAllBe r xs
all-may [] [] xs c m = m
all-may [] (call ∷ calls) xs c m = absurd c
all-may (made ∷ r) [] xs c m = absurd c
all-may (made ∷ r) (call ∷ calls) [] c m = absurd m
all-may (made ∷ r) (call ∷ calls) (x ∷ xs) c m = (comes-may made call x c.0 m.0, all-may r calls xs c.1 m.1)

abbrev Comes-option : Option RegCall → Option RegCall → Type 0
Comes-option None None = Unit {0}
Comes-option (Some made) (Some call) = Comes made call
Comes-option o p = ⊥

option-same : (o : Option RegCall) → Comes-option o o
option-same None = tt
option-same (Some made) = comes-same made

look-comes : (own : Bool) (text : List ℕ) (f g : Option Found) → ((x : Found) → f ≡ Some x → g ≡ Some x)
    → Comes-option (if own then Some (Looks text f) else None) (if own then Some (Looks text g) else None)
look-comes false text f g stays = tt
look-comes true text None g stays = (g, refl)
look-comes true text (Some x) g stays = ap (Looks text) (stays x refl)

call-comes : (h more : List RegEntry) (n : ℕ) (before : List RegEntry) (e : RegEntry) → Comes-option (reg_call_of h n before e) (reg_call_of (h ++ more) n before e)
call-comes h more n before (entry.Enlist by spec answer) = option-same _
call-comes h more n before (entry.Look by text true answer) = tt
call-comes h more n before (entry.Look by text false answer) =
    look-comes (by == n) text (found_in h answer) (found_in (h ++ more) answer) (found_in-stays h more answer)
call-comes h more n before (entry.Unlist by driver answer) = option-same _
call-comes h more n before (entry.Get by id ok) = option-same _
call-comes h more n before (entry.Put by id) = option-same _
call-comes h more n before (entry.Refs by driver) = option-same _
call-comes h more n before (entry.List by) = option-same _
call-comes h more n before (entry.Claim by larval) = tt
call-comes h more n before (entry.End by larval answer) = tt
call-comes h more n before (entry.Waited by larval) = tt

prepend-come : (o p : Option RegCall) (r calls : List RegCall) → Comes-option o p → AllCome r calls → AllCome (prepend o r) (prepend p calls)
prepend-come None None r calls c all = all
prepend-come None (Some call) r calls c all = absurd c
prepend-come (Some made) None r calls c all = absurd c
prepend-come (Some made) (Some call) r calls c all = (c, all)

calls-come : (h more : List RegEntry) (n : ℕ) (before es : List RegEntry) → AllCome (reg_calls_from h n before es) (reg_calls_from (h ++ more) n before es)
calls-come h more n before [] = tt
calls-come h more n before (e ∷ es) =
    prepend-come (reg_call_of h n before e) (reg_call_of (h ++ more) n before e) (reg_calls_from h n (before ++ e ∷ []) es) (reg_calls_from (h ++ more) n (before ++ e ∷ []) es)
    (call-comes h more n before e) (calls-come h more n (before ++ e ∷ []) es)

record Later (a r calls : List RegCall) : Type 0 where
  rest : List RegCall
  calls_are : calls ≡ a ++ rest
  come : AllCome r rest

later-calls : (a r calls : List RegCall) → AllSettled a → AllCome (a ++ r) calls → Later a r calls
later-calls [] r calls s m = record { rest = calls; calls_are = refl; come = m }
later-calls (made ∷ a) r [] s m = absurd m
later-calls (made ∷ a) r (call ∷ calls) s m =
    let rest = later-calls a r calls s.1 m.1 in
    record {
      rest = rest.rest;
      calls_are = ap (λ c. c ∷ calls) (comes-settled made call s.0 m.0) ∙ ap (λ cs. made ∷ cs) rest.calls_are;
      come = rest.come;
    }

all-come : (n : ℕ) (m h : List RegEntry) → AsksNothing n m h → AllCome (reg_calls n m) (reg_calls n h)
unfolding reg_calls
all-come n m h none =
    let calls : reg_calls_from (m ++ none.0) n [] (m ++ none.0) ≡ reg_calls_from (m ++ none.0) n [] m =
    reg_calls_from-append (m ++ none.0) n [] m none.0
    ∙ (ap (λ cs. reg_calls_from (m ++ none.0) n [] m ++ cs) (none-asked (m ++ none.0) n m none.0 none.2) ∙ append-nil (reg_calls_from (m ++ none.0) n [] m)) in
    subst (λ g. AllCome (reg_calls_from m n [] m) (reg_calls_from g n [] g)) (sym none.1)
    (subst (AllCome (reg_calls_from m n [] m)) (sym calls) (calls-come m none.0 n [] m))

pub further-stay : (n : ℕ) (calls : List RegCall) (r m r' : List RegEntry) → AllSettled (reg_calls n r) → AreFurther n calls r m → AsksNothing n m r'
    → (later : List RegCall) × AreFurther n later r r' × ((d : Dialogue) (b : List BoardCall) → BeginsBy d calls b → BeginsBy d later b)
further-stay n calls r m r' settled further none =
    let later = later-calls (reg_calls n r) calls (reg_calls n r') settled (subst (λ cs. AllCome cs (reg_calls n r')) further.calls_are (all-come n m r' none)) in (
      later.rest,
      record {
        more = further.more ++ none.0;
        goes_on = none.1 ∙ (ap (λ h. h ++ none.0) further.goes_on ∙ append_assoc r further.more none.0);
        calls_are = later.calls_are;
      },
      λ d b begins xs may. begins xs (all-may calls later.rest xs later.come may),
    )
