-- Lines out of bytes that come in pieces.
use Rattle.std.specs.Prelude.{◌≡◌, ◌++◌, ◌<◌, ◌+◌, ◌-◌, ℕ, Bool, take, drop, nat_lt, if◌then◌else◌, List, [], ◌∷◌, length, Contains, Option, Some, None, MatchOption}
use Rattle.script_text.specs.Script.{line_of}
use Rattle.script_text.specs.declared.commands.Line.{Line}

-- what is kept of a line that has begun: its bytes, until it is too long
abbrev pub kept_of : List ℕ → Option (List ℕ)
kept_of begun = if nat_lt 65536 (length begun) then None else Some begun

-- What a cutter keeps: of the line that has begun, and the bytes after it in which no line feed was looked for yet.
pub record CutterState : Type 0 where
  pub begun : Option (List ℕ)
  pub unseen : List ℕ

-- the same where what was unseen has no line feed
abbrev pub all_begun : Option (List ℕ) → List ℕ → Option (List ℕ)
all_begun None unseen = None
all_begun (Some begun) unseen = kept_of (begun ++ unseen)

abbrev pub all_seen : CutterState → CutterState
all_seen kept = record { begun = all_begun kept.begun kept.unseen; unseen = [] }

-- Of these bytes no line was made yet.
pub record IsPending (bytes : List ℕ) (kept : CutterState) : Type 0 where
  pub begun : List ℕ
  pub no_feed : Contains begun 10 → ⊥
  pub kept_is : kept.begun ≡ kept_of begun
  pub bytes_are : bytes ≡ begun ++ kept.unseen

-- A line feed ends the first line of these bytes, which says this, and the rest follows it.
pub record EndsLine (bytes : List ℕ) (said : Line) (rest : List ℕ) : Type 0 where
  pub text : List ℕ
  pub no_feed : Contains text 10 → ⊥
  pub bytes_are : bytes ≡ text ++ 10 ∷ rest
  pub said_is : said ≡ line_of (text ++ 10 ∷ [])

-- Whatever was pending: the next line was cut off, or no line feed stood there.
abbrev pub CutsNext : CutterState → CutterState → Option Line → Type 0
CutsNext old new answer =
    (bytes : List ℕ) → IsPending bytes old → MatchOption answer
    ((Contains bytes 10 → ⊥) × IsPending bytes new)
    (λ said. (rest : List ℕ) × EndsLine bytes said rest × IsPending rest new)

-- Whatever was pending without a line feed is one line, the last.
abbrev pub CutsLast : CutterState → CutterState → Option Line → Type 0
CutsLast old new answer =
    (bytes : List ℕ) → IsPending bytes old → (Contains bytes 10 → ⊥)
    → IsPending [] new × MatchOption answer (bytes ≡ []) (λ said. (said ≡ line_of bytes) × (0 < length bytes))

-- What is kept is in a list of bytes: the line that has begun, from one place on where it isn't too long, and what is
-- unseen from another on.
abbrev pub kept_in : List ℕ → ℕ → ℕ → Bool → CutterState
kept_in bytes at seen long =
    record { begun = if long then None else Some (take (seen - at) (drop at bytes)); unseen = drop seen bytes }

-- the first line feed stands there
pub record IsFirstFeed (bytes : List ℕ) (place : ℕ) : Type 0 where
  pub below : place < length bytes
  pub no_feed : Contains (take place bytes) 10 → ⊥
  pub bytes_are : bytes ≡ take place bytes ++ 10 ∷ drop (place + 1) bytes
