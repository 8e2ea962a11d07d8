-- The trace of a run, and which lists of events have one.
use Rattle.std.specs.Prelude.{ℕ, Bool, true, false, ◌&&◌, ◌≡◌, ◌==◌, ◌^◌, nat_lt, nat_le, List, ◌++◌, length, Option, Some, None}
use Rattle.std.specs.List.{flat_map, list_all}
use Rattle.std.specs.Arc.{arc_value}
use Rattle.alg_registry.specs.declared.spec.Wrap.{Wrap}
use Rattle.alg_registry.specs.declared.spec.Wrap.TheVariants.{Plain}
use Rattle.alg_registry.specs.declared.spec.Spec.{Spec}
use Rattle.alg_registry.specs.declared.entry.EndAnswer.{EndAnswer}
use Rattle.alg_registry.specs.declared.entry.EndAnswer.TheVariants.{Built, Joined, Failed, NoMemory}
use Rattle.alg_registry.specs.declared.entry.Looked.{Looked}
use Rattle.alg_registry.specs.declared.entry.Looked.TheVariants.{Found, Pending, Began, Absent}
use Rattle.alg_registry.specs.declared.entry.Enlisted.{Enlisted}
use Rattle.alg_registry.specs.declared.entry.Enlisted.TheVariants.{Made, Exist, NFile}
use Rattle.alg_registry.specs.declared.entry.RegEntry.{RegEntry}
use Rattle.alg_registry.specs.declared.entry.RegEntry.TheVariants.{Enlist, Look, Claim, End, Waited, Unlist, Get, Put, Refs}
use Rattle.alg_registry.specs.declared.entry.RegEntry.TheVariants as reg
use Rattle.board.specs.declared.entry.Shape.{Shape}
use Rattle.board.specs.declared.entry.Shape.TheVariants.{Pad, Queue, Chain}
use Rattle.board.specs.declared.entry.Entered.{Entered}
use Rattle.board.specs.declared.entry.Entered.TheVariants.{InProgress, Busy, NoSpace}
use Rattle.board.specs.declared.entry.BoardEntry.{BoardEntry}
use Rattle.board.specs.declared.entry.BoardEntry.TheVariants.{Born, Submit, Take, Finish, Enq, Deq, Done, Hold, Go, Collect, Close, Share, Mask, Shut}
use Rattle.reply_text.specs.declared.origin.Origin.{Origin}
use Rattle.trace_text.specs.Text.{sentence, reg_words, board_words}

-- the registry's events, and then the board's, a line each
abbrev pub trace_of : {A : Type 0} → (A → Origin) → List RegEntry → List (BoardEntry A) → List ℕ
trace_of of registry board = flat_map (λ e. sentence (reg_words e)) registry ++ flat_map (λ e. sentence (board_words of e)) board

-- a printed character of ASCII
abbrev pub is_visible : ℕ → Bool
is_visible b = nat_le 0x21 b && nat_le b 0x7e

-- a name that can be printed as a word
abbrev pub is_word : List ℕ → Bool
is_word text = nat_lt 0 (length text) && list_all is_visible text

abbrev pub has_words : Spec → Bool
has_words spec = is_word spec.name && is_word spec.driver

abbrev pub is_unwrapped : Wrap → Bool
is_unwrapped Plain = true
is_unwrapped _ = false

abbrev pub end_has_text : EndAnswer → Bool
end_has_text (Built id spec) = has_words spec
end_has_text _ = true

-- each name of the event can be printed, and what is enlisted stands on nothing and is plain, since its line doesn't
-- say
abbrev pub has_text : RegEntry → Bool
has_text (Enlist caller spec answer) = has_words spec && (length spec.below == 0) && is_unwrapped spec.wrap
has_text (Look caller text plain answer) = is_word text
has_text (End caller larval answer) = end_has_text answer
has_text (Unlist caller driver answer) = is_word driver
has_text (Refs caller driver) = is_word driver
has_text _ = true

-- Each number that the event's line has is within its type.
abbrev pub is_u16 : ℕ → Bool
is_u16 n = nat_lt n (2 ^ 16)

abbrev pub is_u32 : ℕ → Bool
is_u32 n = nat_lt n (2 ^ 32)

abbrev pub is_u64 : ℕ → Bool
is_u64 n = nat_lt n (2 ^ 64)

abbrev pub spec_fits : Spec → Bool
spec_fits spec = is_u32 spec.priority && list_all is_u64 spec.below

abbrev pub enlisted_fits : Enlisted → Bool
enlisted_fits (Made id) = is_u64 id
enlisted_fits Exist = true
enlisted_fits NFile = true

abbrev pub looked_fits : Looked → Bool
looked_fits (Found id) = is_u64 id
looked_fits (Pending larval) = is_u64 larval
looked_fits (Began larval) = is_u64 larval
looked_fits Absent = true

abbrev pub end_fits : EndAnswer → Bool
end_fits (Built id spec) = is_u64 id && spec_fits spec
end_fits (Joined id below) = is_u64 id && list_all is_u64 below
end_fits (Failed errno) = true
end_fits NoMemory = true

abbrev pub option_fits : Option ℕ → Bool
option_fits (Some n) = is_u64 n
option_fits None = true

abbrev pub fits : RegEntry → Bool
fits (Enlist caller spec answer) = is_u32 caller && (is_u32 spec.priority && enlisted_fits answer)
fits (Look caller text plain answer) = is_u32 caller && looked_fits answer
fits (Claim caller larval) = is_u32 caller && is_u64 larval
fits (End caller larval answer) = is_u32 caller && (is_u64 larval && end_fits answer)
fits (Waited caller larval) = is_u32 caller && is_u64 larval
fits (Unlist caller driver answer) = is_u32 caller && option_fits answer
fits (Get caller id ok) = is_u32 caller && is_u64 id
fits (Put caller id) = is_u32 caller && is_u64 id
fits (Refs caller driver) = is_u32 caller
fits (reg.List caller) = is_u32 caller

abbrev pub shape_fits : Shape → Bool
shape_fits (Pad lists) = is_u32 lists
shape_fits (Queue max) = is_u32 max
shape_fits (Chain max lists) = is_u32 max && is_u32 lists

abbrev pub entered_fits : Entered → Bool
entered_fits (InProgress number) = is_u64 number
entered_fits (Busy number) = is_u64 number
entered_fits NoSpace = true

abbrev pub origin_fits : Origin → Bool
origin_fits of = is_u32 of.client && is_u32 of.line

abbrev pub board_fits : {A : Type 0} → (A → Origin) → BoardEntry A → Bool
board_fits of (Born caller pipe shape) = is_u32 caller && (is_u64 pipe && shape_fits shape)
board_fits of (Submit caller pipe number ask) = is_u32 caller && (is_u64 pipe && (is_u64 number && origin_fits (of (arc_value ask))))
board_fits of (Take caller pipe number) = is_u32 caller && (is_u64 pipe && is_u64 number)
board_fits of (Finish caller pipe number) = is_u32 caller && (is_u64 pipe && is_u64 number)
board_fits of (Enq caller pipe ask backlog answer) = is_u32 caller && (is_u64 pipe && (origin_fits (of (arc_value ask)) && entered_fits answer))
board_fits of (Deq caller pipe number started) = is_u32 caller && (is_u64 pipe && (is_u64 number && option_fits started))
board_fits of (Done caller pipe number) = is_u32 caller && (is_u64 pipe && is_u64 number)
board_fits of (Hold caller pipe) = is_u32 caller && is_u64 pipe
board_fits of (Go caller pipe) = is_u32 caller && is_u64 pipe
board_fits of (Collect caller pipe to) = is_u32 caller && (is_u64 pipe && is_u64 to)
board_fits of (Close caller pipe) = is_u32 caller && is_u64 pipe
board_fits of (Share caller pipe) = is_u32 caller && is_u64 pipe
board_fits of (Mask caller pipe mask) = is_u32 caller && (is_u64 pipe && is_u16 mask)
board_fits of (Shut caller) = is_u32 caller

-- the numbers of the lists' events are within their types
abbrev pub FitTypes : {A : Type 0} → (A → Origin) → List RegEntry → List (BoardEntry A) → Type 0
FitTypes of registry board = (list_all fits registry ≡ true) × (list_all (board_fits of) board ≡ true)

-- the event can be printed, and its numbers are within their types
abbrev pub is_event : RegEntry → Bool
is_event e = has_text e && fits e

-- the lists have a trace, and their numbers are within their types
abbrev pub AreEvents : {A : Type 0} → (A → Origin) → List RegEntry → List (BoardEntry A) → Type 0
AreEvents of registry board = (list_all is_event registry ≡ true) × (list_all (board_fits of) board ≡ true)
