-- A loose reading of a line's words: of an event's own words it gives that event, and of other words anything. What it
-- gives is printed again and compared with the line, so that this reading decides nothing, and no public clause rests
-- on it.
use Rattle.std.specs.Prelude.{ℕ, ◌+◌, ◌-◌, ◌*◌, ◌%◌, ◌^◌, Bool, ◌&&◌, ◌==◌, nat_lt, nat_le, if◌then◌else◌, List, [], ◌∷◌, map, codes, Option, Some, None, unwrap_or}
use Rattle.std.specs.List.{slice_split}
use Rattle.std.specs.Option.{option_map}
use Rattle.std.specs.Str.{bytes_eq}
use Rattle.kc_base.specs.Errno.{name_of}
use Rattle.kc_base.specs.declared.error_numbers.Errno.{Errno}
use Rattle.kc_base.specs.declared.error_numbers.Errno.TheVariants.{ENOENT, E2BIG, EAGAIN, EBUSY, EEXIST, EINVAL, ENFILE, EMFILE, ENOSPC, ENAMETOOLONG, EBADMSG, EINPROGRESS, ENOKEY}
use Rattle.alg_registry.specs.declared.spec.Kind.{Kind}
use Rattle.alg_registry.specs.declared.spec.Kind.TheVariants.{Cipher, Hash, Ghash, Skcipher, Aead, Mac}
use Rattle.alg_registry.specs.declared.spec.Wrap.{Wrap}
use Rattle.alg_registry.specs.declared.spec.Wrap.TheVariants.{Plain, Pcrypt, Cryptd}
use Rattle.alg_registry.specs.declared.spec.Spec.{Spec}
use Rattle.alg_registry.specs.declared.entry.Looked.{Looked}
use Rattle.alg_registry.specs.declared.entry.Looked.TheVariants.{Found, Pending, Began, Absent}
use Rattle.alg_registry.specs.declared.entry.Enlisted.{Enlisted}
use Rattle.alg_registry.specs.declared.entry.Enlisted.TheVariants.{Made, Exist, NFile}
use Rattle.alg_registry.specs.declared.entry.EndAnswer.{EndAnswer}
use Rattle.alg_registry.specs.declared.entry.EndAnswer.TheVariants.{Built, Joined, Failed, NoMemory}
use Rattle.alg_registry.specs.declared.entry.RegEntry.{RegEntry}
use Rattle.alg_registry.specs.declared.entry.RegEntry.TheVariants.{Enlist, Look, Claim, End, Waited, Unlist, Get, Put, Refs}
use Rattle.alg_registry.specs.declared.entry.RegEntry.TheVariants as reg
use Rattle.board.specs.declared.entry.Shape.{Shape}
use Rattle.board.specs.declared.entry.Shape.TheVariants.{Pad, Queue, Chain}
use Rattle.board.specs.declared.entry.Entered.{Entered}
use Rattle.board.specs.declared.entry.Entered.TheVariants.{InProgress, Busy, NoSpace}
use Rattle.board.specs.declared.entry.BoardEntry.{BoardEntry}
use Rattle.board.specs.declared.entry.BoardEntry.TheVariants as says
use Rattle.reply_text.specs.declared.origin.Origin.{Origin}
use Rattle.trace_check.specs.declared.lines.AskLine.{AskLine}
use Rattle.trace_check.specs.declared.lines.Event.{Event}
use Rattle.trace_check.specs.declared.lines.Event.TheVariants as event
use Rattle.trace_check.specs.AskLines.{ask_of}
use Rattle.trace_text.specs.Text.{kind_word, wrap_word}

-- a number with one digit more, where it stays below 2^64
abbrev pub digit_after : ℕ → ℕ → Option ℕ
digit_after value c = if nat_le 48 c && nat_lt (value * 10 + (c - 48)) (2 ^ 64) then Some (value * 10 + (c - 48)) else None

abbrev pub number_at : Option ℕ → List ℕ → Option ℕ
number_at None digits = None
number_at (Some value) [] = Some value
number_at (Some value) (c ∷ cs) = number_at (digit_after value c) cs

-- the number that these digits write behind those of a value
abbrev pub number_from : ℕ → List ℕ → Option ℕ
number_from value digits = number_at (Some value) digits

abbrev pub number_of : List ℕ → ℕ
number_of word = unwrap_or (number_from 0 word) 0

-- the same, where it is below 2^32
abbrev pub small_of : List ℕ → ℕ
small_of word = if nat_lt (number_of word) (2 ^ 32) then number_of word else 0

abbrev pub is_comma : ℕ → Bool
is_comma b = b == 44

abbrev pub ids_of : List ℕ → List ℕ
ids_of word = if bytes_eq word (codes "-") then [] else map number_of (slice_split is_comma word)

-- the first of these whose word this is, and another where it is none's
abbrev pub first_named : {X : Type 0} → (X → List ℕ) → List X → X → List ℕ → X
first_named name [] other word = other
first_named name (x ∷ xs) other word = if bytes_eq word (name x) then x else first_named name xs other word

abbrev pub kind_of : List ℕ → Kind
kind_of word = first_named kind_word (Cipher ∷ Hash ∷ Ghash ∷ Skcipher ∷ Aead ∷ []) Mac word

abbrev pub wrap_of : List ℕ → Wrap
wrap_of word = first_named wrap_word (Plain ∷ Pcrypt ∷ []) Cryptd word

abbrev pub errno_of : List ℕ → Errno
errno_of word =
    first_named name_of (ENOENT ∷ E2BIG ∷ EAGAIN ∷ EBUSY ∷ EEXIST ∷ EINVAL ∷ ENFILE ∷ EMFILE ∷ ENOSPC ∷ ENAMETOOLONG ∷ EBADMSG ∷ EINPROGRESS ∷ []) ENOKEY word

-- A registry's events: their words behind the caller and the event's name.
abbrev pub enlisted_of : List (List ℕ) → Enlisted
enlisted_of (word ∷ id ∷ []) = Made (number_of id)
enlisted_of (word ∷ []) = if bytes_eq word (codes "EEXIST") then Exist else NFile
enlisted_of other = NFile

-- what stands on no other, and runs nobody's work
abbrev pub plain_spec : List ℕ → List ℕ → Kind → ℕ → Spec
plain_spec name driver kind priority = record { name = name; driver = driver; kind = kind; wrap = Plain; priority = priority; below = [] }

abbrev pub enlist_of : ℕ → List (List ℕ) → Option RegEntry
enlist_of caller (name ∷ driver ∷ kind ∷ priority ∷ answer) =
    Some (Enlist caller (plain_spec name driver (kind_of kind) (small_of priority)) (enlisted_of answer))
enlist_of caller other = None

abbrev pub looked_of : List (List ℕ) → Looked
looked_of (word ∷ number ∷ []) =
    if bytes_eq word (codes "found") then Found (number_of number) else if bytes_eq word (codes "pending") then Pending (number_of number)
    else Began (number_of number)
looked_of other = Absent

abbrev pub look_of : ℕ → List (List ℕ) → Option RegEntry
look_of caller (text ∷ sight ∷ answer) = Some (Look caller text (bytes_eq sight (codes "plain")) (looked_of answer))
look_of caller other = None

-- the kind, the wrap, the priority and what it stands on
abbrev pub spec_of : List ℕ → List ℕ → List (List ℕ) → Option Spec
spec_of name driver (kind ∷ wrap ∷ priority ∷ below ∷ []) =
    Some (record { name = name; driver = driver; kind = kind_of kind; wrap = wrap_of wrap; priority = small_of priority; below = ids_of below })
spec_of name driver other = None

abbrev pub built_with : ℕ → Option Spec → EndAnswer
built_with id (Some spec) = Built id spec
built_with id None = NoMemory

abbrev pub built_of : List (List ℕ) → EndAnswer
built_of (id ∷ name ∷ driver ∷ more) = built_with (number_of id) (spec_of name driver more)
built_of other = NoMemory

abbrev pub joined_of : List (List ℕ) → EndAnswer
joined_of (id ∷ below ∷ []) = Joined (number_of id) (ids_of below)
joined_of other = NoMemory

abbrev pub failed_of : List (List ℕ) → EndAnswer
failed_of (errno ∷ []) = Failed (errno_of errno)
failed_of other = NoMemory

abbrev pub ending_of : List ℕ → List (List ℕ) → EndAnswer
ending_of word args =
    if bytes_eq word (codes "built") then built_of args
    else if bytes_eq word (codes "joined") then joined_of args
    else if bytes_eq word (codes "failed") then failed_of args
    else NoMemory

abbrev pub end_of : ℕ → List (List ℕ) → Option RegEntry
end_of caller (larval ∷ word ∷ args) = Some (End caller (number_of larval) (ending_of word args))
end_of caller other = None

abbrev pub unlist_of : ℕ → List (List ℕ) → Option RegEntry
unlist_of caller (driver ∷ word ∷ id ∷ []) = Some (Unlist caller driver (Some (number_of id)))
unlist_of caller (driver ∷ word ∷ []) = Some (Unlist caller driver None)
unlist_of caller other = None

abbrev pub get_of : ℕ → List (List ℕ) → Option RegEntry
get_of caller (id ∷ word ∷ []) = Some (Get caller (number_of id) (bytes_eq word (codes "ok")))
get_of caller other = None

abbrev pub refs_of : ℕ → List (List ℕ) → Option RegEntry
refs_of caller (driver ∷ []) = Some (Refs caller driver)
refs_of caller other = None

-- one number, and two
abbrev pub lone_number : List (List ℕ) → Option ℕ
lone_number (number ∷ []) = Some (number_of number)
lone_number other = None

abbrev pub pair_in : List (List ℕ) → Option (ℕ × ℕ)
pair_in (first ∷ second ∷ []) = Some (number_of first, number_of second)
pair_in other = None

abbrev pub numbered_of : ℕ → List ℕ → Option ℕ → Option RegEntry
numbered_of caller name None = None
numbered_of caller name (Some number) =
    if bytes_eq name (codes "claim") then Some (Claim caller number)
    else if bytes_eq name (codes "waited") then Some (Waited caller number)
    else if bytes_eq name (codes "put") then Some (Put caller number)
    else None

abbrev pub registry_of : ℕ → List ℕ → List (List ℕ) → Option RegEntry
registry_of caller name args =
    if bytes_eq name (codes "enlist") then enlist_of caller args
    else if bytes_eq name (codes "look") then look_of caller args
    else if bytes_eq name (codes "end") then end_of caller args
    else if bytes_eq name (codes "unlist") then unlist_of caller args
    else if bytes_eq name (codes "get") then get_of caller args
    else if bytes_eq name (codes "refs") then refs_of caller args
    else if bytes_eq name (codes "list") then Some (reg.List caller)
    else numbered_of caller name (lone_number args)

-- where an ask comes from, by the words before and behind a dot
abbrev pub is_dot : ℕ → Bool
is_dot b = b == 46

abbrev pub origin_in : List (List ℕ) → Origin
origin_in (line ∷ []) = record { client = 0; line = small_of line }
origin_in (client ∷ line ∷ []) = record { client = small_of client; line = small_of line }
origin_in other = record { client = 0; line = 0 }

abbrev pub origin_read : List ℕ → Origin
origin_read word = origin_in (slice_split is_dot word)

-- A board's events, in the same way.
abbrev pub shape_of : List ℕ → ℕ → Shape
shape_of word size = if bytes_eq word (codes "pad") then Pad size else Queue size

abbrev pub born_of : ℕ → List (List ℕ) → Option (BoardEntry AskLine)
born_of caller (pipe ∷ word ∷ size ∷ []) = Some (says.Born caller (number_of pipe) (shape_of word (small_of size)))
born_of caller (pipe ∷ word ∷ max ∷ lists ∷ []) = Some (says.Born caller (number_of pipe) (Chain (small_of max) (small_of lists)))
born_of caller other = None

abbrev pub submit_of : ℕ → List (List ℕ) → Option (BoardEntry AskLine)
submit_of caller (pipe ∷ number ∷ line ∷ []) = Some (says.Submit caller (number_of pipe) (number_of number) (ask_of (origin_read line)))
submit_of caller other = None

abbrev pub entered_of : List (List ℕ) → Entered
entered_of (word ∷ number ∷ []) = if bytes_eq word (codes "EBUSY") then Busy (number_of number) else InProgress (number_of number)
entered_of other = NoSpace

abbrev pub enq_of : ℕ → List (List ℕ) → Option (BoardEntry AskLine)
enq_of caller (pipe ∷ line ∷ backlog ∷ answer) =
    Some (says.Enq caller (number_of pipe) (ask_of (origin_read line)) (bytes_eq backlog (codes "backlog")) (entered_of answer))
enq_of caller other = None

abbrev pub started_of : List (List ℕ) → Option ℕ
started_of (word ∷ number ∷ []) = Some (number_of number)
started_of other = None

abbrev pub deq_of : ℕ → List (List ℕ) → Option (BoardEntry AskLine)
deq_of caller (pipe ∷ number ∷ answer) = Some (says.Deq caller (number_of pipe) (number_of number) (started_of answer))
deq_of caller other = None

-- an event of a pipeline and a number, and one of a pipeline
abbrev pub counted_of : ℕ → List ℕ → ℕ → ℕ → Option (BoardEntry AskLine)
counted_of caller name pipe number =
    if bytes_eq name (codes "take") then Some (says.Take caller pipe number)
    else if bytes_eq name (codes "finish") then Some (says.Finish caller pipe number)
    else if bytes_eq name (codes "done") then Some (says.Done caller pipe number)
    else if bytes_eq name (codes "collect") then Some (says.Collect caller pipe number)
    else None

abbrev pub piped_of : ℕ → List ℕ → ℕ → Option (BoardEntry AskLine)
piped_of caller name pipe =
    if bytes_eq name (codes "hold") then Some (says.Hold caller pipe)
    else if bytes_eq name (codes "go") then Some (says.Go caller pipe)
    else if bytes_eq name (codes "close") then Some (says.Close caller pipe)
    else if bytes_eq name (codes "share") then Some (says.Share caller pipe)
    else None

abbrev pub short_of : ℕ → List ℕ → Option ℕ → Option (ℕ × ℕ) → Option (BoardEntry AskLine)
short_of caller name (Some pipe) pair = piped_of caller name pipe
short_of caller name None (Some pair) = counted_of caller name pair.0 pair.1
short_of caller name None None = None

-- the number that a hexadecimal digit writes
abbrev pub hex_value : ℕ → ℕ
hex_value c = (if nat_lt c 58 then c - 48 else c - 87) % 16

abbrev pub mask_in : List ℕ → ℕ
mask_in (a ∷ b ∷ c ∷ d ∷ []) = hex_value a * 4096 + hex_value b * 256 + hex_value c * 16 + hex_value d
mask_in other = 0

abbrev pub mask_of : ℕ → List (List ℕ) → Option (BoardEntry AskLine)
mask_of caller (pipe ∷ mask ∷ []) = Some (says.Mask caller (number_of pipe) (mask_in mask))
mask_of caller other = None

abbrev pub board_of : ℕ → List ℕ → List (List ℕ) → Option (BoardEntry AskLine)
board_of caller name args =
    if bytes_eq name (codes "born") then born_of caller args
    else if bytes_eq name (codes "submit") then submit_of caller args
    else if bytes_eq name (codes "enq") then enq_of caller args
    else if bytes_eq name (codes "deq") then deq_of caller args
    else if bytes_eq name (codes "mask") then mask_of caller args
    else if bytes_eq name (codes "shut") then Some (says.Shut caller)
    else short_of caller name (lone_number args) (pair_in args)

-- the event of these words
abbrev pub event_in : List (List ℕ) → Option Event
event_in (kind ∷ caller ∷ name ∷ args) =
    if bytes_eq kind (codes "r") then option_map event.Registry (registry_of (small_of caller) name args)
    else option_map event.Board (board_of (small_of caller) name args)
event_in other = None
