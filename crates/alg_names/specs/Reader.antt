-- How a name is read from left to right: the open templates, the innermost first, each with its
-- arguments so far, and what stands behind the last `(` or `,`. What a text means is said by the
-- grammar; this states private functions, and `tree_of`, which the grammar's law ties to it.
use Rattle.std.specs.Prelude.{◌≡◌, ℕ, ◌+◌, ◌≤◌, cond, eqb, List, [], ◌∷◌, ◌++◌, length}
use Rattle.alg_names.specs.Name.{Tree, Args, node, end, arg, is_word_byte, depth, deepest, count, width, widest, spelling, IsName, IsWord}
use Prim.Native.Nat.{max}

pub data Place : Type 0 where
  begins : Place
  in_word : List ℕ → Place
  closed : Tree → Place

pub data Reading : Type 0 where
  lost : Reading
  reading : List (List ℕ × Args) → Place → Reading

abbrev pub joined : Args → Args → Args
joined end us = us
joined (arg t ts) us = arg t (joined ts us)

-- behind a whole name: a comma or the end of the innermost template
abbrev pub behind_name : List (List ℕ × Args) → Tree → ℕ → Reading
behind_name [] t b = lost
behind_name (f ∷ fs) t b =
    cond (eqb b 44) (reading ((f.0, joined f.1 (arg t end)) ∷ fs) begins)
    (cond (eqb b 41) (reading fs (closed (node f.0 (joined f.1 (arg t end))))) lost)

abbrev pub step : Reading → ℕ → Reading
step lost b = lost
step (reading fs begins) b = cond (is_word_byte b) (reading fs (in_word (b ∷ []))) lost
step (reading fs (in_word w)) b =
    cond (is_word_byte b) (reading fs (in_word (w ++ b ∷ [])))
    (cond (eqb b 40) (reading ((w, end) ∷ fs) begins) (behind_name fs (node w end) b))
step (reading fs (closed t)) b = behind_name fs t b

abbrev pub run : Reading → List ℕ → Reading
run r [] = r
run r (b ∷ bs) = run (step r b) bs

abbrev pub start : Reading
start = reading [] begins

-- the most levels that a name which goes on so has already
abbrev pub reach_open : List (List ℕ × Args) → ℕ
reach_open [] = 0
reach_open (f ∷ fs) = max (length fs + 1 + deepest f.1) (reach_open fs)

abbrev pub reach_here : List (List ℕ × Args) → Place → ℕ
reach_here fs begins = length fs + 1
reach_here fs (in_word w) = length fs + 1
reach_here fs (closed t) = length fs + depth t

abbrev pub reach : List (List ℕ × Args) → Place → ℕ
reach fs place = max (reach_here fs place) (reach_open fs)

-- the most arguments that one of its templates has already
abbrev pub wide_open : List (List ℕ × Args) → ℕ
wide_open [] = 0
wide_open (f ∷ fs) = max (max (count f.1) (widest f.1)) (wide_open fs)

abbrev pub wide_here : Place → ℕ
wide_here begins = 0
wide_here (in_word w) = 0
wide_here (closed t) = width t

abbrev pub wide : List (List ℕ × Args) → Place → ℕ
wide fs place = max (wide_here place) (wide_open fs)

-- the reading has so many levels, and so many arguments at one template, at least
abbrev pub Reaches : ℕ → ℕ → Reading → Type 0
Reaches levels arguments lost = Unit {0}
Reaches levels arguments (reading fs place) = (levels ≤ reach fs place) × (arguments ≤ wide fs place)

-- a tree with words and no empty parentheses
abbrev pub IsSpelled : Tree → Type 0
IsSpelled t = IsName (spelling t) t

abbrev pub AllSpelled : Args → Type 0
AllSpelled end = Unit {0}
AllSpelled (arg t ts) = IsSpelled t × AllSpelled ts

abbrev pub with_commas : Args → List ℕ
with_commas end = []
with_commas (arg t ts) = spelling t ++ 44 ∷ with_commas ts

abbrev pub opened : List (List ℕ × Args) → List ℕ
opened [] = []
opened (f ∷ fs) = opened fs ++ (f.0 ++ 40 ∷ with_commas f.1)

-- all that is open is in order
abbrev pub AreOpen : List (List ℕ × Args) → Type 0
AreOpen [] = Unit {0}
AreOpen (f ∷ fs) = IsWord f.0 × AllSpelled f.1 × AreOpen fs

abbrev pub IsHere : Place → Type 0
IsHere begins = Unit {0}
IsHere (in_word w) = IsWord w
IsHere (closed t) = IsSpelled t

abbrev pub here : Place → List ℕ
here begins = []
here (in_word w) = w
here (closed t) = spelling t

-- The text so far is what the reading stands for.
abbrev pub HasRead : List ℕ → Reading → Type 0
HasRead text lost = Unit {0}
HasRead text (reading fs place) = (text ≡ opened fs ++ here place) × AreOpen fs × IsHere place

-- A reading of a part of a text within the limits.
abbrev pub IsFine : Reading → Type 0
IsFine lost = ⊥
IsFine (reading fs place) = AreOpen fs × IsHere place × (length (opened fs ++ here place) ≤ 127) × (reach fs place ≤ 8)

abbrev pub IsNarrow : Reading → Type 0
IsNarrow lost = ⊥
IsNarrow (reading fs place) = wide fs place ≤ 4
