-- What a pipeline is made of. A queue of requests stands in front of a queue and of a chain; a pad, whose jobs run in
-- any order and come out in order, is all of a pad and the end of a chain.
use Rattle.std.specs.Prelude.{ℕ, Bool, true, false, ◌≤◌, Option, Some, None}
use Rattle.board.specs.declared.entry.Shape.{Shape}
use Rattle.board.specs.declared.entry.Shape.TheVariants.{Pad, Queue, Chain}

-- its requests wait in the queue
abbrev pub has_queue : Shape → Bool
has_queue (Pad lists) = false
has_queue (Queue max) = true
has_queue (Chain max lists) = true

-- its jobs run in any order, and reorder lists put them in order
abbrev pub has_lists : Shape → Bool
has_lists (Pad lists) = true
has_lists (Queue max) = false
has_lists (Chain max lists) = true

-- its jobs run one at a time
abbrev pub is_serial : Shape → Bool
is_serial (Pad lists) = false
is_serial (Queue max) = true
is_serial (Chain max lists) = false

-- it is a pad alone
abbrev pub is_pad : Shape → Bool
is_pad (Pad lists) = true
is_pad (Queue max) = false
is_pad (Chain max lists) = false

abbrev pub is_chain : Shape → Bool
is_chain (Pad lists) = false
is_chain (Queue max) = false
is_chain (Chain max lists) = true

-- how many wait before the backlog begins
abbrev pub bound_of : Shape → ℕ
bound_of (Pad lists) = 0
bound_of (Queue max) = max
bound_of (Chain max lists) = max

abbrev pub lists_of : Shape → ℕ
lists_of (Pad lists) = lists
lists_of (Queue max) = 0
lists_of (Chain max lists) = lists

abbrev pub AreLists : ℕ → Type 0
AreLists lists = (1 ≤ lists) × (lists ≤ 16)

-- a pipeline may be made so
abbrev pub IsShape : Shape → Type 0
IsShape (Pad lists) = AreLists lists
IsShape (Queue max) = 1 ≤ max
IsShape (Chain max lists) = (1 ≤ max) × AreLists lists

-- a pipeline was made, of such a shape
abbrev pub is_born : (Shape → Bool) → Option (ℕ × Shape) → Bool
is_born such (Some (maker, shape)) = such shape
is_born such None = false

abbrev pub pad_born : Option (ℕ × Shape) → Bool
pad_born b = is_born is_pad b

abbrev pub queue_born : Option (ℕ × Shape) → Bool
queue_born b = is_born is_serial b

abbrev pub has_queue_born : Option (ℕ × Shape) → Bool
has_queue_born b = is_born has_queue b

abbrev pub lists_born : Option (ℕ × Shape) → Bool
lists_born b = is_born has_lists b

abbrev pub max_born : Option (ℕ × Shape) → ℕ
max_born (Some (maker, shape)) = bound_of shape
max_born None = 0

-- how many reorder lists it was made with
abbrev pub width_born : Option (ℕ × Shape) → ℕ
width_born (Some (maker, shape)) = lists_of shape
width_born None = 0
