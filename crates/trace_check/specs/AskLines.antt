-- A board's events with asks that are known by their lines and clients alone.
use Rattle.std.specs.Prelude.{List, map}
use Rattle.std.specs.declared.sync.Arc.{Arc}
use Rattle.std.specs.declared.alloc.Global.{Global}
use Rattle.std.specs.Arc.{arc_value}
use denote.RawPtr.{null_ptr}
use Rattle.board.specs.declared.entry.BoardEntry.{BoardEntry}
use Rattle.board.specs.declared.entry.BoardEntry.TheVariants.{Born, Submit, Take, Finish, Enq, Deq, Done, Hold, Go, Collect, Close, Share, Mask, Shut}
use Rattle.reply_text.specs.declared.origin.Origin.{Origin}
use Rattle.trace_check.specs.declared.lines.AskLine.{AskLine}

-- an event with another ask in place of its ask
abbrev pub with_asks : {A B : Type 0} → (Arc A Global → Arc B Global) → BoardEntry A → BoardEntry B
with_asks f (Born caller pipe shape) = Born caller pipe shape
with_asks f (Submit caller pipe number ask) = Submit caller pipe number (f ask)
with_asks f (Take caller pipe number) = Take caller pipe number
with_asks f (Finish caller pipe number) = Finish caller pipe number
with_asks f (Enq caller pipe ask backlog answer) = Enq caller pipe (f ask) backlog answer
with_asks f (Deq caller pipe number started) = Deq caller pipe number started
with_asks f (Done caller pipe number) = Done caller pipe number
with_asks f (Hold caller pipe) = Hold caller pipe
with_asks f (Go caller pipe) = Go caller pipe
with_asks f (Collect caller pipe to) = Collect caller pipe to
with_asks f (Close caller pipe) = Close caller pipe
with_asks f (Share caller pipe) = Share caller pipe
with_asks f (Mask caller pipe mask) = Mask caller pipe mask
with_asks f (Shut caller) = Shut caller

-- where the ask comes from in place of the ask, where it lies in memory
abbrev pub known_by : {A : Type 0} → (A → Origin) → Arc A Global → Arc AskLine Global
known_by line ask = record { ptr = ask.ptr; value = record { origin = line (arc_value ask) } }

abbrev pub with_line : {A : Type 0} → (A → Origin) → BoardEntry A → BoardEntry AskLine
with_line line e = with_asks (known_by line) e

-- an ask that comes from there, wherever it lies in memory
abbrev pub ask_of : Origin → Arc AskLine Global
ask_of of = record { ptr = null_ptr; value = record { origin = of } }

-- the event, wherever its ask lies
abbrev pub unplaced : BoardEntry AskLine → BoardEntry AskLine
unplaced e = with_asks (λ ask. ask_of (arc_value ask).origin) e

-- of each ask where it comes from
abbrev pub with_lines : {A : Type 0} → (A → Origin) → List (BoardEntry A) → List (BoardEntry AskLine)
with_lines line h = map (with_line line) h
