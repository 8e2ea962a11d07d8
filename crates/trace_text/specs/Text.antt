-- The words of an event, and its line.
use Rattle.std.specs.Prelude.{ℕ, ◌+◌, ◌/◌, ◌%◌, Bool, nat_lt, if◌then◌else◌, List, [], ◌∷◌, ◌++◌, map, codes, Option, Some, None}
use Rattle.std.specs.Fmt.{decimal}
use Rattle.std.specs.List.{join_with_byte}
use Rattle.std.specs.Arc.{arc_value}
use Rattle.kc_base.specs.Errno.{name_of}
use Rattle.reply_text.specs.Origins.{origin_word}
use Rattle.reply_text.specs.declared.origin.Origin.{Origin}
use Rattle.alg_registry.specs.declared.spec.Kind.{Kind}
use Rattle.alg_registry.specs.declared.spec.Kind.TheVariants.{Cipher, Hash, Ghash, Skcipher, Aead, Mac}
use Rattle.alg_registry.specs.declared.spec.Wrap.{Wrap}
use Rattle.alg_registry.specs.declared.spec.Wrap.TheVariants.{Plain, Pcrypt, Cryptd}
use Rattle.alg_registry.specs.declared.entry.Looked.{Looked}
use Rattle.alg_registry.specs.declared.entry.Looked.TheVariants.{Found, Pending, Began, Absent}
use Rattle.alg_registry.specs.declared.entry.Enlisted.{Enlisted}
use Rattle.alg_registry.specs.declared.entry.Enlisted.TheVariants.{Made, Exist, NFile}
use Rattle.alg_registry.specs.declared.entry.EndAnswer.{EndAnswer}
use Rattle.alg_registry.specs.declared.entry.EndAnswer.TheVariants.{Built, Joined, Failed, NoMemory}
use Rattle.alg_registry.specs.declared.entry.RegEntry.{RegEntry}
use Rattle.alg_registry.specs.declared.entry.RegEntry.TheVariants.{Enlist, Look, Claim, End, Waited, Unlist, Get, Put, Refs}
use Rattle.alg_registry.specs.declared.entry.RegEntry.TheVariants as reg
use Rattle.board.specs.declared.entry.Shape.{Shape}
use Rattle.board.specs.declared.entry.Shape.TheVariants.{Pad, Queue, Chain}
use Rattle.board.specs.declared.entry.Entered.{Entered}
use Rattle.board.specs.declared.entry.Entered.TheVariants.{InProgress, Busy, NoSpace}
use Rattle.board.specs.declared.entry.BoardEntry.{BoardEntry}
use Rattle.board.specs.declared.entry.BoardEntry.TheVariants.{Born, Submit, Take, Finish, Enq, Deq, Done, Hold, Go, Collect, Close, Share, Mask, Shut}

-- words with a blank between each two, and a line feed at the end
abbrev pub sentence : List (List ℕ) → List ℕ
sentence words = join_with_byte 32 words ++ codes "\n"

abbrev pub kind_word : Kind → List ℕ
kind_word Cipher = codes "cipher"
kind_word Hash = codes "hash"
kind_word Ghash = codes "ghash"
kind_word Skcipher = codes "skcipher"
kind_word Aead = codes "aead"
kind_word Mac = codes "mac"

abbrev pub wrap_word : Wrap → List ℕ
wrap_word Plain = codes "plain"
wrap_word Pcrypt = codes "pcrypt"
wrap_word Cryptd = codes "cryptd"

-- ids with a comma between each two, and `-` for none
abbrev pub ids_word : List ℕ → List ℕ
ids_word [] = codes "-"
ids_word (id ∷ ids) = join_with_byte 44 (map decimal (id ∷ ids))

abbrev pub plain_word : Bool → List ℕ
plain_word plain = if plain then codes "plain" else codes "any"

abbrev pub get_word : Bool → List ℕ
get_word ok = if ok then codes "ok" else codes "EAGAIN"

abbrev pub enlisted_words : Enlisted → List (List ℕ)
enlisted_words (Made id) = codes "made" ∷ decimal id ∷ []
enlisted_words Exist = codes "EEXIST" ∷ []
enlisted_words NFile = codes "ENFILE" ∷ []

abbrev pub looked_words : Looked → List (List ℕ)
looked_words (Found id) = codes "found" ∷ decimal id ∷ []
looked_words (Pending larval) = codes "pending" ∷ decimal larval ∷ []
looked_words (Began larval) = codes "began" ∷ decimal larval ∷ []
looked_words Absent = codes "absent" ∷ []

abbrev pub end_words : EndAnswer → List (List ℕ)
end_words (Built id spec) =
    codes "built" ∷ decimal id ∷ spec.name ∷ spec.driver ∷ kind_word spec.kind ∷ wrap_word spec.wrap ∷ decimal spec.priority ∷ ids_word spec.below ∷ []
end_words (Joined id below) = codes "joined" ∷ decimal id ∷ ids_word below ∷ []
end_words (Failed errno) = codes "failed" ∷ name_of errno ∷ []
end_words NoMemory = codes "nomemory" ∷ []

abbrev pub unlisted_words : Option ℕ → List (List ℕ)
unlisted_words (Some id) = codes "ok" ∷ decimal id ∷ []
unlisted_words None = codes "ENOENT" ∷ []

-- the words of a registry's event
abbrev pub reg_words : RegEntry → List (List ℕ)
reg_words (Enlist caller spec answer) =
    codes "r" ∷ decimal caller ∷ codes "enlist" ∷ spec.name ∷ spec.driver ∷ kind_word spec.kind ∷ decimal spec.priority ∷ enlisted_words answer
reg_words (Look caller text plain answer) = codes "r" ∷ decimal caller ∷ codes "look" ∷ text ∷ plain_word plain ∷ looked_words answer
reg_words (Claim caller larval) = codes "r" ∷ decimal caller ∷ codes "claim" ∷ decimal larval ∷ []
reg_words (End caller larval answer) = codes "r" ∷ decimal caller ∷ codes "end" ∷ decimal larval ∷ end_words answer
reg_words (Waited caller larval) = codes "r" ∷ decimal caller ∷ codes "waited" ∷ decimal larval ∷ []
reg_words (Unlist caller driver answer) = codes "r" ∷ decimal caller ∷ codes "unlist" ∷ driver ∷ unlisted_words answer
reg_words (Get caller id ok) = codes "r" ∷ decimal caller ∷ codes "get" ∷ decimal id ∷ get_word ok ∷ []
reg_words (Put caller id) = codes "r" ∷ decimal caller ∷ codes "put" ∷ decimal id ∷ []
reg_words (Refs caller driver) = codes "r" ∷ decimal caller ∷ codes "refs" ∷ driver ∷ []
reg_words (reg.List caller) = codes "r" ∷ decimal caller ∷ codes "list" ∷ []

abbrev pub shape_words : Shape → List (List ℕ)
shape_words (Pad lists) = codes "pad" ∷ decimal lists ∷ []
shape_words (Queue max) = codes "queue" ∷ decimal max ∷ []
shape_words (Chain max lists) = codes "chain" ∷ decimal max ∷ decimal lists ∷ []

abbrev pub backlog_word : Bool → List ℕ
backlog_word backlog = if backlog then codes "backlog" else codes "plain"

abbrev pub entered_words : Entered → List (List ℕ)
entered_words (InProgress number) = codes "EINPROGRESS" ∷ decimal number ∷ []
entered_words (Busy number) = codes "EBUSY" ∷ decimal number ∷ []
entered_words NoSpace = codes "ENOSPC" ∷ []

abbrev pub started_words : Option ℕ → List (List ℕ)
started_words (Some number) = codes "started" ∷ decimal number ∷ []
started_words None = codes "-" ∷ []

-- the digit of a number below 16, with letters of lower case
abbrev pub hex_digit : ℕ → ℕ
hex_digit n = if nat_lt n 10 then 48 + n else 87 + n

-- a mask as four hexadecimal digits
abbrev pub mask_word : ℕ → List ℕ
mask_word mask = hex_digit (mask / 4096 % 16) ∷ hex_digit (mask / 256 % 16) ∷ hex_digit (mask / 16 % 16) ∷ hex_digit (mask % 16) ∷ []

-- the words of a board's event, where an ask is known by its line alone, and its client
abbrev pub board_words : {A : Type 0} → (A → Origin) → BoardEntry A → List (List ℕ)
board_words of (Born caller pipe shape) = codes "b" ∷ decimal caller ∷ codes "born" ∷ decimal pipe ∷ shape_words shape
board_words of (Submit caller pipe number ask) = codes "b" ∷ decimal caller ∷ codes "submit" ∷ decimal pipe ∷ decimal number ∷ origin_word (of (arc_value ask)) ∷ []
board_words of (Take caller pipe number) = codes "b" ∷ decimal caller ∷ codes "take" ∷ decimal pipe ∷ decimal number ∷ []
board_words of (Finish caller pipe number) = codes "b" ∷ decimal caller ∷ codes "finish" ∷ decimal pipe ∷ decimal number ∷ []
board_words of (Enq caller pipe ask backlog answer) =
    codes "b" ∷ decimal caller ∷ codes "enq" ∷ decimal pipe ∷ origin_word (of (arc_value ask)) ∷ backlog_word backlog ∷ entered_words answer
board_words of (Deq caller pipe number started) = codes "b" ∷ decimal caller ∷ codes "deq" ∷ decimal pipe ∷ decimal number ∷ started_words started
board_words of (Done caller pipe number) = codes "b" ∷ decimal caller ∷ codes "done" ∷ decimal pipe ∷ decimal number ∷ []
board_words of (Hold caller pipe) = codes "b" ∷ decimal caller ∷ codes "hold" ∷ decimal pipe ∷ []
board_words of (Go caller pipe) = codes "b" ∷ decimal caller ∷ codes "go" ∷ decimal pipe ∷ []
board_words of (Collect caller pipe to) = codes "b" ∷ decimal caller ∷ codes "collect" ∷ decimal pipe ∷ decimal to ∷ []
board_words of (Close caller pipe) = codes "b" ∷ decimal caller ∷ codes "close" ∷ decimal pipe ∷ []
board_words of (Share caller pipe) = codes "b" ∷ decimal caller ∷ codes "share" ∷ decimal pipe ∷ []
board_words of (Mask caller pipe mask) = codes "b" ∷ decimal caller ∷ codes "mask" ∷ decimal pipe ∷ mask_word mask ∷ []
board_words of (Shut caller) = codes "b" ∷ decimal caller ∷ codes "shut" ∷ []
