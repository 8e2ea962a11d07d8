-- The text of answers.
use Rattle.std.specs.Prelude.{ℕ, Bool, if◌then◌else◌, List, [], ◌∷◌, ◌++◌, codes}
use Rattle.std.specs.Fmt.{decimal}
use Rattle.std.specs.List.{join_with_byte}
use Rattle.hex.specs.Hex.{encode_lower}
use Rattle.kc_base.specs.Errno.{name_of}
use Rattle.reply_text.specs.Origins.{origin_word}
use Rattle.reply_text.specs.declared.answers.Answer.{Answer}
use Rattle.reply_text.specs.declared.answers.Answer.TheVariants.{Ok, Value, Made, Refused, Malformed, Probed, Unprobed, Refs, Alg, Listed, Started, Done, Failed, Polled, Drained, End}

-- bytes in hexadecimal digits of lower case, and `-` for no bytes
abbrev pub hex_text : List ℕ → List ℕ
hex_text [] = codes "-"
hex_text (b ∷ bs) = encode_lower (b ∷ bs)

abbrev pub listed_word : Bool → List ℕ
listed_word listed = if listed then codes "listed" else codes "unlisted"

-- words with a blank between each two, and a line feed at the end
abbrev pub sentence : List (List ℕ) → List ℕ
sentence words = join_with_byte 32 words ++ codes "\n"

-- the line above a client's text
abbrev pub heading : ℕ → List ℕ
heading client = sentence (codes "client" ∷ decimal client ∷ [])

-- the line that an answer prints
abbrev pub text_of : Answer → List ℕ
text_of (Ok line) = sentence (decimal line ∷ codes "ok" ∷ [])
text_of (Value line bytes) = sentence (decimal line ∷ codes "ok" ∷ hex_text bytes ∷ [])
text_of (Made line driver) = sentence (decimal line ∷ codes "ok" ∷ driver ∷ [])
text_of (Refused line errno) = sentence (decimal line ∷ name_of errno ∷ [])
text_of (Malformed line) = sentence (decimal line ∷ codes "malformed" ∷ [])
text_of (Probed line name driver) = sentence (decimal line ∷ codes "probed" ∷ name ∷ driver ∷ [])
text_of (Unprobed line name errno) = sentence (decimal line ∷ codes "unprobed" ∷ name ∷ name_of errno ∷ [])
text_of (Refs line count listed) = sentence (decimal line ∷ codes "refs" ∷ decimal count ∷ listed_word listed ∷ [])
text_of (Alg line name driver priority refs) = sentence (decimal line ∷ codes "alg" ∷ name ∷ driver ∷ decimal priority ∷ decimal refs ∷ [])
text_of (Listed line count) = sentence (decimal line ∷ codes "listed" ∷ decimal count ∷ [])
text_of (Started of) = sentence (origin_word of ∷ codes "started" ∷ [])
text_of (Done of bytes) = sentence (origin_word of ∷ codes "done" ∷ hex_text bytes ∷ [])
text_of (Failed of errno) = sentence (origin_word of ∷ codes "fail" ∷ name_of errno ∷ [])
text_of (Polled line count) = sentence (decimal line ∷ codes "polled" ∷ decimal count ∷ [])
text_of (Drained line count) = sentence (decimal line ∷ codes "drained" ∷ decimal count ∷ [])
text_of (End label count) = sentence (codes "end" ∷ label ∷ decimal count ∷ [])
