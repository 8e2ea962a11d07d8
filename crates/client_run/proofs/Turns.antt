-- One turn after another, and what a caller knows after it.
use Rattle.std.proofs.Common.{◌≡◌, ℕ, ◌+◌, ◌≤◌, List, [], ◌∷◌, ◌++◌, refl, sym, ap, subst, ◌∙◌, arith}
use Rattle.alg_registry.specs.declared.entry.RegEntry.{RegEntry}
use Rattle.board.specs.declared.entry.BoardEntry.{BoardEntry}
use Rattle.dialogues.specs.BoardCalls.{BoardCall}
use Rattle.dialogues.specs.Dialogues.{Dialogue, Ends, Says, Asks, Posts, followed}
use Rattle.dialogues.specs.InTurn.{AreInTurnBy}
use Rattle.dialogues.specs.Lines.{line_dialogue, lines_dialogue}
use Rattle.dialogues.specs.RegistryCalls.{RegCall}
use Rattle.dialogues.specs.ScriptState.{ScriptState}
use Rattle.dialogues.specs.Widths.{widest}
use Rattle.script_session.specs.PerformedDialogue.{HasSeenMore}
use Rattle.script_session.specs.States.{State, SameLocks}
use Rattle.script_text.specs.declared.commands.Line.{Line}
use Rattle.recorded_calls.specs.RegistryCalls.{AskedBy, IsCaller}
use Rattle.recorded_calls.specs.Pipelines.{Called}
use Rattle.transforms.specs.declared.ask.Ask.{Ask}
use Rattle.turn_lock.specs.Turns.{Known}
use Rattle.client_run.specs.Laws.{Laws}

-- ---- the registry

pub asked-none : Laws → (k : Known RegEntry) → IsCaller k → AskedBy 1 k k []
asked-none laws k caller =
    let turns : AreInTurnBy 1 k.number [] k.seen k.seen = laws.any_width 1 k.number [] k.seen k.seen (laws.no_call k.number k.seen) in
    record { number = refl; next = refl; in_turn = turns; are = laws.are 1 k.number [] k.seen k.seen caller.settled turns; caller = caller }

pub asked-then : Laws → (v w width : ℕ) (k l m : Known RegEntry) (a b : List RegCall) → v ≤ width → w ≤ width → IsCaller k → AskedBy v k l a → AskedBy w l m b → AskedBy width k m (a ++ b)
asked-then laws v w width k l m a b narrow narrower caller x y =
    let turns : AreInTurnBy width k.number (a ++ b) k.seen m.seen =
    laws.later_calls width k.number a b k.seen l.seen m.seen
    (laws.wider v width k.number a k.seen l.seen narrow x.in_turn)
    (laws.wider w width k.number b l.seen m.seen narrower (subst (λ n. AreInTurnBy w n b l.seen m.seen) x.number y.in_turn)) in
    record {
      number = y.number ∙ x.number;
      next = y.next ∙ x.next;
      in_turn = turns;
      are = laws.are width k.number (a ++ b) k.seen m.seen caller.settled turns;
      caller = y.caller;
    }

pub asked-more : (width : ℕ) (k l : Known RegEntry) (calls : List RegCall) → AskedBy width k l calls → HasSeenMore k l
asked-more width k l calls asked = record { number = asked.number; next = asked.next; seen = (asked.are.more, asked.are.goes_on) }

-- ---- the board

pub called-more : (k l : Known (BoardEntry Ask)) (calls : List BoardCall) → Called k l calls → HasSeenMore k l
called-more k l calls called = record { number = called.number; next = called.next; seen = called.seen }

-- ---- both passes

pub locks-same : (s : State) → SameLocks s s
locks-same s = record { registry = refl; board = refl; workers = refl; shared = refl }

pub locks-then : (s t u : State) → SameLocks s t → SameLocks t u → SameLocks s u
locks-then s t u a b = record {
  registry = b.registry ∙ a.registry;
  board = b.board ∙ a.board;
  workers = b.workers ∙ a.workers;
  shared = b.shared ∙ a.shared;
}

-- ---- dialogues

followed-assoc : (d : Dialogue) (f g : ScriptState → Dialogue) → followed (followed d f) g ≡ followed d (λ a. followed (f a) g)
followed-assoc (Ends after) f g = refl
followed-assoc (Says answers next) f g = ap (Says answers) (followed-assoc next f g)
followed-assoc (Asks question next) f g = λ i. Asks question (λ answer. followed-assoc (next answer) f g i)
followed-assoc (Posts question next) f g = λ i. Posts question (λ answer. followed-assoc (next answer) f g i)

-- what stands after lines follows on them
pub lines-followed : (workers n : ℕ) (script_state : ScriptState) (lines : List Line) (rest : ScriptState → Dialogue)
    → lines_dialogue workers script_state n lines rest ≡ followed (lines_dialogue workers script_state n lines Ends) rest
lines-followed workers n script_state [] rest = refl
lines-followed workers n script_state (line ∷ lines) rest =
    (λ i. followed (line_dialogue workers script_state n line) (λ after. lines-followed workers (n + 1) after lines rest i))
    ∙ sym (followed-assoc (line_dialogue workers script_state n line) (λ after. lines_dialogue workers after (n + 1) lines Ends) rest)

-- ---- how many looks at once

pub widest-some : (lines : List Line) → 1 ≤ widest lines
widest-some [] = omega arith
widest-some (line ∷ lines) = let later = widest-some lines in omega arith
