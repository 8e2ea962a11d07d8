-- How arms of a session hold their dialogues.
use Rattle.std.proofs.Common.{◌≡◌, ℕ, ◌<◌, ◌≤◌, Bool, true, false, List, [], ◌∷◌, ◌++◌, Option, Some, None, Result, Ok, Err, OnOk, refl, sym, ap, subst, ◌∙◌, arith}
use Rattle.std.specs.Prelude.{if◌then◌else◌, nat_lt, MatchResult}
use Rattle.std.proofs.lemmas.Bool.Decides.{nat_tests}
use Rattle.kc_base.specs.declared.error_numbers.Errno.{Errno}
use Rattle.kc_base.specs.declared.error_numbers.Errno.TheVariants.{ENOENT, EINVAL}
use Rattle.alg_registry.specs.declared.spec.Spec.{Spec}
use Rattle.reply_text.specs.declared.answers.Answer.{Answer}
use Rattle.dialogues.specs.References.{got, given}
use Rattle.dialogues.specs.Names.{driver_spec}
use Rattle.dialogues.specs.RegistryCommands.{enlist_said, register, enlist_spec}
use Rattle.dialogues.specs.Dialogues.{Dialogue, Ends, Says, Asks as AsksFor, says, answers_errno, unless}
use Rattle.dialogues.specs.Questions.{RegQuestion, RegAnswer, Enlist, reg_call, ListAll}
use Rattle.dialogues.specs.ScriptState.{ScriptState, Live}
use Rattle.alg_registry.specs.declared.listing.ListRow.{ListRow}
use Rattle.dialogues.specs.RegistryCalls.{RegCall, Lists}
use Rattle.script_session.specs.States.{State, ReferencesMatch, PipelinesMatch}
use Rattle.recorded_calls.specs.Passes.{RegPass, BoardPass, known, lock_of}
use Rattle.recorded_calls.specs.RegistryCalls.{Asked, Asks}
use Rattle.recorded_calls.specs.Pipelines.{Called, Unchanged}
use Rattle.turn_lock.specs.Turns.{Known}
use Rattle.alg_registry.specs.declared.entry.RegEntry.{RegEntry}
use Rattle.board.specs.declared.entry.BoardEntry.{BoardEntry}
use Rattle.board.specs.Legal.{is_shut}
use Rattle.transforms.specs.declared.ask.Ask.{Ask}
use Rattle.dialogues.specs.BoardCalls.{BoardCall}
use Rattle.script_session.specs.PerformedDialogue.{HasSeenMore, SeesOn, Done, Performs, Stops}
use Rattle.script_session.proofs.Standing.{stands-more}
use Rattle.recorded_calls.proofs.Boarding.{starts-same}
use Rattle.script_session.proofs.Rules.{says-done, asks-done}
use Rattle.script_session.proofs.Widths.{wide-same}

-- ---- what a dialogue comes to

pub unless-not : (script_state : ScriptState) (n : ℕ) (test : Bool) (errno : Errno) (refusals : List (Bool × Errno)) (rest : Dialogue) → test ≡ false
    → unless script_state n ((test, errno) ∷ refusals) rest ≡ unless script_state n refusals rest
unless-not script_state n test errno refusals rest e = ap (λ t. if t then answers_errno script_state n errno else unless script_state n refusals rest) e

pub unless-so : (script_state : ScriptState) (n : ℕ) (test : Bool) (errno : Errno) (refusals : List (Bool × Errno)) (rest : Dialogue) → test ≡ true
    → unless script_state n ((test, errno) ∷ refusals) rest ≡ answers_errno script_state n errno
unless-so script_state n test errno refusals rest e = ap (λ t. if t then answers_errno script_state n errno else unless script_state n refusals rest) e

-- ---- how an arm ends

-- it says what is left to say, or memory is wanting
pub or-stops : {S A : Type 0} (result : Result A S) {Says Performs Stops : Type 0} → OnOk result Says → (Says → Performs) → Stops → MatchResult result (λ _. Performs) (λ _. Stops)
or-stops (Ok done) says holds stops = holds says
or-stops (Err stop) says holds stops = stops

pub on-ok : {S A : Type 0} (result : Result A S) {Says Performs : Type 0} → OnOk result Says → (Says → Performs) → OnOk result Performs
on-ok (Ok done) says holds = holds says
on-ok (Err stop) says holds = tt

pub sees-same : (k : Known (BoardEntry Ask)) → SeesOn k k
sees-same k = record { more = record { number = refl; next = refl; seen = starts-same k.seen }; unshut = λ zero_is. refl }

sees-none : (k l : Known (BoardEntry Ask)) → l ≡ k → SeesOn k l
sees-none k l same = subst (SeesOn k) (sym same) (sees-same k)

-- what was called shut nothing
pub called-sees : (k l : Known (BoardEntry Ask)) (calls : List BoardCall) → Called k l calls → (k.number ≡ 0 → is_shut l.seen ≡ is_shut k.seen) → SeesOn k l
called-sees k l calls called unshut = record { more = record { number = called.number; next = called.next; seen = called.seen }; unshut = unshut }

pub kept-sees : (k l : Known (BoardEntry Ask)) → Unchanged k l → SeesOn k l
kept-sees k l kept = called-sees k l [] kept.called kept.unshut

asked-more-seen : (k l : Known RegEntry) (calls : List RegCall) → Asked k l calls → HasSeenMore k l
asked-more-seen k l calls asked = record { number = asked.number; next = asked.next; seen = (asked.are.more, asked.are.goes_on) }

pub stops-same : (s : State) → ReferencesMatch s.script_state.lives (known s.registry) → Stops s s
stops-same s stands =
    record { locks = record { registry = refl; board = refl; workers = refl; shared = refl }; registry = record { number = refl; next = refl; seen = starts-same _ }; board = sees-none (known s.board) (known s.board) refl }

pub stops-asked : (s s' : State) (calls : _) → Asks s.registry s'.registry calls → s'.board ≡ s.board → s'.workers ≡ s.workers → s'.script_state.shared ≡ s.script_state.shared → Stops s s'
stops-asked s s' calls asks same same_w same_s =
    record {
      locks = record { registry = asks.lock; board = ap lock_of same; workers = same_w; shared = same_s };
      registry = asked-more-seen (known s.registry) (known s'.registry) calls asks.asked;
      board = sees-none (known s.board) (known s'.board) (ap known same);
    }

-- nothing is asked
pub answer-holds : (d : Dialogue) (s s' : State) (answer : Answer) (answers answers' : List Answer) → d ≡ says s'.script_state answer → s'.registry ≡ s.registry → s'.board ≡ s.board → s'.workers ≡ s.workers → s'.script_state.shared ≡ s.script_state.shared
    → ReferencesMatch s'.script_state.lives (known s.registry) → PipelinesMatch s'.script_state (known s.board) → answers' ≡ answers ++ answer ∷ [] → Performs d s s' answers answers'
answer-holds d s s' answer answers answers' is same_r same_b same_n same_s stands posted e =
    record {
      locks = record { registry = ap lock_of same_r; board = ap lock_of same_b; workers = same_n; shared = same_s };
      wide = wide-same s s' same_n same_b;
      done = subst (λ x. Done x (known s.registry) (known s.board) (known s'.registry) (known s'.board) s'.script_state answers answers') (sym is)
          (subst (λ r. Done (says s'.script_state answer) (known s.registry) (known s.board) (known r) (known s'.board) s'.script_state answers answers') (sym same_r)
          (subst (λ b. Done (says s'.script_state answer) (known s.registry) (known s.board) (known s.registry) (known b) s'.script_state answers answers') (sym same_b)
          (says-done (known s.registry) (known s.board) s'.script_state (answer ∷ []) answers answers' stands posted e)));
    }

-- the registry is asked once, and the state stays
pub asking-holds : (d : Dialogue) (question : RegQuestion) (answer : RegAnswer question) (said : RegAnswer question → Answer) (s s' : State) (answers answers' : List Answer) → d ≡ AsksFor question (λ a. says s.script_state (said a))
    → ReferencesMatch s.script_state.lives (known s.registry) → PipelinesMatch s.script_state (known s.board) → Asks s.registry s'.registry (reg_call question answer ∷ []) → s'.script_state ≡ s.script_state → s'.board ≡ s.board → s'.workers ≡ s.workers
    → ((id : ℕ) → got id (reg_call question answer ∷ []) ≡ given id (reg_call question answer ∷ [])) → answers' ≡ answers ++ said answer ∷ [] → Performs d s s' answers answers'
asking-holds d question answer said s s' answers answers' is stands posted asks same_w same_b same_n balanced e =
    record {
      locks = record { registry = asks.lock; board = ap lock_of same_b; workers = same_n; shared = ap (λ (w : ScriptState). w.shared) same_w };
      wide = wide-same s s' same_n same_b;
      done = subst (λ x. Done x (known s.registry) (known s.board) (known s'.registry) (known s'.board) s'.script_state answers answers') (sym is)
          (subst (λ w. Done (AsksFor question (λ a. says s.script_state (said a))) (known s.registry) (known s.board) (known s'.registry) (known s'.board) w answers answers') (sym same_w)
          (subst (λ b. Done (AsksFor question (λ a. says s.script_state (said a))) (known s.registry) (known s.board) (known s'.registry) (known b) s.script_state answers answers') (sym same_b)
          (asks-done (known s.registry) (known s'.registry) (known s'.registry) (known s.board) (known s.board) question answer (λ a. says s.script_state (said a)) s.script_state answers answers' asks.asked
          (says-done (known s'.registry) (known s.board) s.script_state (said answer ∷ []) answers answers'
          (stands-more s.script_state.lives s.script_state.lives (known s.registry) (known s'.registry) (reg_call question answer ∷ []) stands asks.asked (λ id. let b = balanced id in omega (arith, b))) posted e))));
    }

-- the same of a list
pub listing-holds : (d : Dialogue) (rows : List ListRow) (said : List ListRow → List Answer) (s s' : State) (answers answers' : List Answer) → d ≡ AsksFor ListAll (λ a. Says (said a) (Ends s.script_state))
    → ReferencesMatch s.script_state.lives (known s.registry) → PipelinesMatch s.script_state (known s.board) → Asks s.registry s'.registry (Lists rows ∷ []) → s'.script_state ≡ s.script_state → s'.board ≡ s.board → s'.workers ≡ s.workers
    → answers' ≡ answers ++ said rows → Performs d s s' answers answers'
listing-holds d rows said s s' answers answers' is stands posted asks same_w same_b same_n e =
    record {
      locks = record { registry = asks.lock; board = ap lock_of same_b; workers = same_n; shared = ap (λ (w : ScriptState). w.shared) same_w };
      wide = wide-same s s' same_n same_b;
      done = subst (λ x. Done x (known s.registry) (known s.board) (known s'.registry) (known s'.board) s'.script_state answers answers') (sym is)
          (subst (λ w. Done (AsksFor ListAll (λ a. Says (said a) (Ends s.script_state))) (known s.registry) (known s.board) (known s'.registry) (known s'.board) w answers answers') (sym same_w)
          (subst (λ b. Done (AsksFor ListAll (λ a. Says (said a) (Ends s.script_state))) (known s.registry) (known s.board) (known s'.registry) (known b) s.script_state answers answers') (sym same_b)
          (asks-done (known s.registry) (known s'.registry) (known s'.registry) (known s.board) (known s.board) ListAll rows (λ a. Says (said a) (Ends s.script_state)) s.script_state answers answers' asks.asked
          (says-done (known s'.registry) (known s.board) s.script_state (said rows) answers answers'
          (stands-more s.script_state.lives s.script_state.lives (known s.registry) (known s'.registry) (Lists rows ∷ []) stands asks.asked (λ id. refl)) posted e))));
    }

-- a call that names a text names an equal one
pub asks-named : {before after : Option RegPass} (call : List ℕ → RegCall) (a b : List ℕ) → a ≡ b → Asks before after (call a ∷ []) → Asks before after (call b ∷ [])
asks-named {before} {after} call a b same asks = subst (λ x. Asks before after (call x ∷ [])) same asks

-- ---- a session as it is seen

abbrev pub viewed : ℕ → ℕ → List Live → List Live → ℕ → ℕ → Option RegPass → Option BoardPass → State
viewed ws c sh lives q v r b = record { workers = ws; script_state = record { client = c; shared = sh; lives = lives; requests = q; bytes = v }; registry = r; board = b }

-- the same, where its registry's caller asked
module _ {ws c : ℕ} {sh lives : List Live} {q v : ℕ} {r r' : Option RegPass} {b : Option BoardPass} (s : State) (view : viewed ws c sh lives q v r b ≡ s) where
  asks-of : (calls : List RegCall) → Asks r r' calls → Asks s.registry r' calls
  asks-of calls asks = subst (λ (x : State). Asks x.registry r' calls) view asks

  pub asking-arm : (d : Dialogue) (question : RegQuestion) (answer : RegAnswer question) (said : RegAnswer question → Answer) (answers answers' : List Answer) → d ≡ AsksFor question (λ a. says s.script_state (said a))
      → ReferencesMatch s.script_state.lives (known s.registry) → PipelinesMatch s.script_state (known s.board) → Asks r r' (reg_call question answer ∷ [])
      → ((id : ℕ) → got id (reg_call question answer ∷ []) ≡ given id (reg_call question answer ∷ [])) → answers' ≡ answers ++ said answer ∷ [] → Performs d s (viewed ws c sh lives q v r' b) answers answers'
  asking-arm d question answer said answers answers' is stands posted asks balanced e =
      asking-holds d question answer said s (viewed ws c sh lives q v r' b) answers answers' is stands posted (asks-of (reg_call question answer ∷ []) asks)
      (ap (λ (x : State). x.script_state) view) (ap (λ (x : State). x.board) view) (ap (λ (x : State). x.workers) view) balanced e

  pub listing-arm : (d : Dialogue) (rows : List ListRow) (said : List ListRow → List Answer) (answers answers' : List Answer) → d ≡ AsksFor ListAll (λ a. Says (said a) (Ends s.script_state))
      → ReferencesMatch s.script_state.lives (known s.registry) → PipelinesMatch s.script_state (known s.board) → Asks r r' (Lists rows ∷ []) → answers' ≡ answers ++ said rows → Performs d s (viewed ws c sh lives q v r' b) answers answers'
  listing-arm d rows said answers answers' is stands posted asks e =
      listing-holds d rows said s (viewed ws c sh lives q v r' b) answers answers' is stands posted (asks-of (Lists rows ∷ []) asks)
      (ap (λ (x : State). x.script_state) view) (ap (λ (x : State). x.board) view) (ap (λ (x : State). x.workers) view) e

  pub stops-arm : (calls : List RegCall) → Asks r r' calls → Stops s (viewed ws c sh lives q v r' b)
  stops-arm calls asks = stops-asked s (viewed ws c sh lives q v r' b) calls (asks-of calls asks) (ap (λ (x : State). x.board) view) (ap (λ (x : State). x.workers) view) (ap (λ (x : State). x.script_state.shared) view)

-- ---- `register`

pub register-unknown : (script_state : ScriptState) (n priority : ℕ) (name driver : List ℕ) (found : Option Spec) → name ≡ driver → found ≡ driver_spec name priority → found ≡ None → register script_state n driver priority ≡ answers_errno script_state n ENOENT
register-unknown script_state n priority name driver found same is none = ap (enlist_spec script_state n priority) (ap (λ d. driver_spec d priority) (sym same) ∙ (sym is ∙ none))

known-at : (priority : ℕ) (name driver : List ℕ) (found : Option Spec) (spec : Spec) → name ≡ driver → found ≡ driver_spec name priority → found ≡ Some spec → driver_spec driver priority ≡ Some spec
known-at priority name driver found spec same is some = ap (λ d. driver_spec d priority) (sym same) ∙ (sym is ∙ some)

pub register-high : (script_state : ScriptState) (n priority : ℕ) (name driver : List ℕ) (found : Option Spec) (spec : Spec) → name ≡ driver → found ≡ driver_spec name priority → found ≡ Some spec → 100000 < priority
    → register script_state n driver priority ≡ answers_errno script_state n EINVAL
register-high script_state n priority name driver found spec same is some high =
    ap (enlist_spec script_state n priority) (known-at priority name driver found spec same is some) ∙ unless-so script_state n (nat_lt 100000 priority) EINVAL [] _ (grind (arith, nat_tests))

pub register-asks : (script_state : ScriptState) (n priority : ℕ) (name driver : List ℕ) (found : Option Spec) (spec : Spec) → name ≡ driver → found ≡ driver_spec name priority → found ≡ Some spec → priority ≤ 100000
    → register script_state n driver priority ≡ AsksFor (Enlist spec) (λ how. says script_state (enlist_said n how))
register-asks script_state n priority name driver found spec same is some low =
    ap (enlist_spec script_state n priority) (known-at priority name driver found spec same is some) ∙ unless-not script_state n (nat_lt 100000 priority) EINVAL [] _ (grind (arith, nat_tests))
