-- Names of algorithms: words and templates, as `gcm_base(ctr(aes),ghash)`.
use Rattle.std.specs.Prelude.{◌≡◌, ℕ, ◌+◌, ◌<◌, ◌≤◌, ◌⊎◌, Bool, ◌||◌, ◌&&◌, leb, eqb, IsTrue, List, [], ◌∷◌, ◌++◌, length, take}
use Rattle.std.specs.List.{AllByRecursion}
use Prim.Native.Nat.{max}

-- A name as a tree: a word, and the names in its parentheses. A word alone has none.
mutual
  pub data Tree : Type 0 where
    node : List ℕ → Args → Tree

  pub data Args : Type 0 where
    end : Args
    arg : Tree → Args → Args

-- an ASCII letter, a digit, `-` or `_`
abbrev pub is_word_byte : ℕ → Bool
is_word_byte b = (leb 97 b && leb b 122) || (leb 65 b && leb b 90) || (leb 48 b && leb b 57) || eqb b 45 || eqb b 95

-- one or more such bytes
abbrev pub IsWord : List ℕ → Type 0
IsWord word = (0 < length word) × AllByRecursion (λ b. IsTrue (is_word_byte b)) word

-- The grammar, with no limits: a name is a word; or a word, `(`, one or more names joined by `,`, and `)`.
mutual
  pub data IsName : List ℕ → Tree → Type 0 where
    a_word : {w : List ℕ} → IsWord w → IsName w (node w end)
    a_template : {w inner : List ℕ} {args : Args} → IsWord w → AreNames inner args → IsName (w ++ (40 ∷ inner ++ 41 ∷ [])) (node w args)

  pub data AreNames : List ℕ → Args → Type 0 where
    one : {a : List ℕ} {t : Tree} → IsName a t → AreNames a (arg t end)
    more : {a b : List ℕ} {t : Tree} {ts : Args} → IsName a t → AreNames b ts → AreNames (a ++ 44 ∷ b) (arg t ts)

-- The one spelling of a tree.
abbrev mutual
  pub spelling : Tree → List ℕ
  spelling (node word args) = word ++ in_parentheses args

  pub in_parentheses : Args → List ℕ
  in_parentheses end = []
  in_parentheses (arg t ts) = 40 ∷ spelling t ++ after_first ts

  -- the other arguments, each behind its comma, and the `)`
  pub after_first : Args → List ℕ
  after_first end = 41 ∷ []
  after_first (arg t ts) = 44 ∷ spelling t ++ after_first ts

-- A word alone has one level, a template one more than its deepest argument.
abbrev mutual
  pub depth : Tree → ℕ
  depth (node word args) = 1 + deepest args

  pub deepest : Args → ℕ
  deepest end = 0
  deepest (arg t ts) = max (depth t) (deepest ts)

abbrev pub count : Args → ℕ
count end = 0
count (arg t ts) = 1 + count ts

-- the greatest number of arguments at one template
abbrev mutual
  pub width : Tree → ℕ
  width (node word args) = max (count args) (widest args)

  pub widest : Args → ℕ
  widest end = 0
  widest (arg t ts) = max (width t) (widest ts)

-- the word in front
abbrev pub word_of : Tree → List ℕ
word_of (node word args) = word

-- the tree with another word at its root
abbrev pub with_word_of : Tree → List ℕ → Tree
with_word_of (node word args) other = node other args

abbrev pub list_of : Args → List Tree
list_of end = []
list_of (arg t ts) = t ∷ list_of ts

-- the names in the parentheses
abbrev pub args_of : Tree → List Tree
args_of (node word args) = list_of args

-- No tree is spelled so.
abbrev pub IsNoName : List ℕ → Type 0
IsNoName bytes = (t : Tree) → IsName bytes t → ⊥

-- Some name begins so.
abbrev pub BeginsName : List ℕ → Type 0
BeginsName bytes = (rest : List ℕ) × (t : Tree) × IsName (bytes ++ rest) t

-- The longest front of the text that begins a name has this length.
abbrev pub IsLongestBeginning : ℕ → List ℕ → Type 0
IsLongestBeginning place text =
    (place ≤ length text) × BeginsName (take place text)
    × ((longer : ℕ) → place < longer → longer ≤ length text → BeginsName (take longer text) → ⊥)

-- What every `Name` is: a name within the limits.
pub record IsAllowed (t : Tree) : Type 0 where
  pub named : IsName (spelling t) t
  pub short : length (spelling t) ≤ 127
  pub levels : depth t ≤ 8
  pub arguments : width t ≤ 4

-- Behind a name stand `,`, `)` or nothing.
abbrev pub MayFollow : List ℕ → Type 0
MayFollow [] = Unit {0}
MayFollow (b ∷ bs) = (b ≡ 44) ⊎ (b ≡ 41)
