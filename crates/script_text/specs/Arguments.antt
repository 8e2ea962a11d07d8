-- What the arguments of a command spell, where they spell something.
use Rattle.std.specs.Prelude.{◌≡◌, ℕ, ◌+◌, ◌*◌, Bool, true, false, ◌&&◌, ◌||◌, ◌==◌, nat_lt, nat_le, if◌then◌else◌, List, [], ◌∷◌, length, codes, Option, Some, None, Result, MatchResult}
use Rattle.std.specs.Char.{is_ascii_alphanumeric, is_ascii_digit}
use Rattle.std.specs.List.{list_all, slice_split}
use Rattle.std.specs.Result.{result_ok}
use Rattle.std.specs.Str.{bytes_eq}
use Rattle.std.specs.Str.Parse.{digits_value}
use Rattle.hex.specs.Hex.{decode_of}
use Rattle.sg_walk.specs.Segments.{Segmented, segmented}
use Rattle.script_text.specs.declared.arguments.ReadError.{ReadError}
use Rattle.script_text.specs.declared.arguments.ReadError.TheVariants.{Malformed}

-- the ? of the logic: the second step, if the first spells something
infixl 10 ◌>>=◌
abbrev pub ◌>>=◌ : {A B : Type 0} → Option A → (A → Option B) → Option B
Some x >>= f = f x
None >>= f = None

-- what was read is what is spelled, and it is malformed only where nothing is
abbrev pub Reads : {A : Type 0} → Result A ReadError → Option A → Type 0
Reads result spelled = MatchResult result (λ read. spelled ≡ Some read) (λ error. error ≡ Malformed → spelled ≡ None)

-- HEX: bytes in hexadecimal digits, and `-` for no bytes
abbrev pub hex_of : List ℕ → Option (List ℕ)
hex_of token = if bytes_eq token (codes "-") then Some [] else result_ok (decode_of token)

-- the bytes of each part, where all are HEX
abbrev pub hexes_of : List (List ℕ) → Option (List (List ℕ))
hexes_of [] = Some []
hexes_of (part ∷ parts) = do
  bytes ← hex_of part
  more ← hexes_of parts
  Some (bytes ∷ more)

-- one segment, or 2 to 16 of at least one byte each
abbrev pub are_segments : List (List ℕ) → Bool
are_segments parts = length parts == 1 || (nat_le (length parts) 16 && list_all (λ part. nat_lt 0 (length part)) parts)

abbrev pub is_bar : ℕ → Bool
is_bar b = b == 124

-- TEXT: HEX, or 2 to 16 parts of it, of at least one byte each, joined by `|`; each part is a segment
abbrev pub text_of : List ℕ → Option Segmented
text_of token = do
  parts ← hexes_of (slice_split is_bar token)
  if are_segments parts then Some (segmented parts) else None

-- a letter, a digit, `-` or `_`
abbrev pub is_label_byte : ℕ → Bool
is_label_byte b = is_ascii_alphanumeric b || (b == 45) || (b == 95)

abbrev pub is_label : List ℕ → Bool
is_label token = nat_lt 0 (length token) && nat_le (length token) 32 && list_all is_label_byte token

-- T: the label of a transform
abbrev pub label_of : List ℕ → Option (List ℕ)
label_of token = if is_label token then Some token else None

-- T alone
abbrev pub lone_label_of : List (List ℕ) → Option (List ℕ)
lone_label_of (token ∷ []) = label_of token
lone_label_of other = None

abbrev pub is_number : List ℕ → Bool
is_number token = nat_lt 0 (length token) && nat_le (length token) 9 && list_all is_ascii_digit token

-- NUM: 1 to 9 decimal digits
abbrev pub number_of : List ℕ → Option ℕ
number_of token = if is_number token then Some (digits_value 10 token) else None

-- a number of two bytes, the higher first
abbrev pub word_of_bytes : List ℕ → Option ℕ
word_of_bytes (high ∷ low ∷ []) = Some (high * 256 + low)
word_of_bytes other = None

-- MASK: four hexadecimal digits
abbrev pub mask_of : List ℕ → Option ℕ
mask_of token = if length token == 4 then hex_of token >>= word_of_bytes else None

-- [NUM]
abbrev pub length_of : List (List ℕ) → Option (Option ℕ)
length_of [] = Some None
length_of (token ∷ []) = do
  length ← number_of token
  Some (Some length)
length_of (token ∷ other ∷ more) = None

-- NAME ..: 1 to 16 of them
abbrev pub names_of : List (List ℕ) → Option (List (List ℕ))
names_of names = if nat_lt 0 (length names) && nat_le (length names) 16 then Some names else None

-- [backlog]
abbrev pub backlog_of : List (List ℕ) → Option Bool
backlog_of [] = Some false
backlog_of (word ∷ []) = if bytes_eq word (codes "backlog") then Some true else None
backlog_of (word ∷ other ∷ more) = None
