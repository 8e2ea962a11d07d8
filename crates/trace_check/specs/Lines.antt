-- What a line is read as.
use Rattle.std.specs.Prelude.{◌≡◌, ℕ, true, List, Option, Some, None}
use Rattle.reply_text.specs.declared.origin.Origin.{Origin}
use Rattle.trace_check.specs.declared.lines.Event.{Event}
use Rattle.trace_check.specs.declared.lines.Event.TheVariants as event
use Rattle.trace_check.specs.declared.lines.AskLine.{AskLine}
use Rattle.trace_text.specs.Text.{sentence, reg_words, board_words}
use Rattle.trace_text.specs.Trace.{is_event, board_fits}
use Rattle.trace_check.specs.AskLines.{unplaced}

-- where an ask comes from that is known by nothing else
abbrev pub origin_of : AskLine → Origin
origin_of known = known.origin

abbrev pub words_of : Event → List (List ℕ)
words_of (event.Registry e) = reg_words e
words_of (event.Board e) = board_words origin_of e

-- the event, wherever its ask lies in memory
abbrev pub anywhere : Event → Event
anywhere (event.Registry e) = event.Registry e
anywhere (event.Board e) = event.Board (unplaced e)

-- the line is this event's
abbrev pub IsLineOf : List ℕ → Event → Type 0
IsLineOf line (event.Registry e) = (is_event e ≡ true) × (line ≡ sentence (reg_words e))
IsLineOf line (event.Board e) = (board_fits origin_of e ≡ true) × (line ≡ sentence (board_words origin_of e))

-- what the line was read as: the event whose line it is, and None only where it is no event's
abbrev pub IsReadAs : List ℕ → Option Event → Type 0
IsReadAs line (Some e) = IsLineOf line e
IsReadAs line None = (e : Event) → IsLineOf line e → ⊥
