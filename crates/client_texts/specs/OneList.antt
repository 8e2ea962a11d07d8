-- The one list of requests of a pipeline that clients share.
use Rattle.std.specs.Prelude.{ℕ, suc, zero, ◌+◌, ◌≡◌, ◌≤◌, ◌⊎◌, List, [], ◌∷◌, length, true, ⊤, All}
use Rattle.alg_registry.specs.declared.entry.RegEntry.{RegEntry}
use Rattle.alg_registry.specs.Rows.{caller_of as reg_caller}
use Rattle.board.specs.Allowance.{accepted_by}
use Rattle.board.specs.declared.entry.BoardEntry.{BoardEntry}
use Rattle.board.specs.Entries.{entries_of, submissions, is_shared, caller_of as board_caller}
use Rattle.board.specs.Order.{completed, handed_out, numbers_below}
use Rattle.transforms.specs.declared.ask.Ask.{Ask}

-- requests of one client's script, each of a later line than the one before, from a line on
abbrev pub AreInOrder : ℕ → ℕ → List Ask → Type 0
AreInOrder client from [] = ⊤
AreInOrder client from (ask ∷ asks) = (ask.client ≡ client) × (from ≤ ask.line) × AreInOrder client (ask.line + 1) asks

-- as which caller of both locks a client runs
abbrev pub caller_for : ℕ → ℕ
caller_for zero = 0
caller_for (suc client) = 17 + client

-- A pipeline has one list of requests. In it those of each client stand in the order of its lines, and the collects
-- have handed out the completions of all of it, in order, each once.
pub record IsOneList (clients : ℕ) (b : List (BoardEntry Ask)) (p : ℕ) : Type 0 where
  pub ordered : (client : ℕ) → client ≤ clients → AreInOrder client 1 (accepted_by (caller_for client) (entries_of p b))
  pub handed : completed (handed_out (entries_of p b)) ≡ numbers_below (length (submissions (entries_of p b)))

-- so is each shared pipeline
abbrev pub AreOneList : ℕ → List (BoardEntry Ask) → Type 0
AreOneList clients b = (p : ℕ) → is_shared (entries_of p b) ≡ true → IsOneList clients b p

-- ---- who made entries

-- the first client, a worker, or one of so many further clients
abbrev pub IsOneOf : ℕ → ℕ → ℕ → Type 0
IsOneOf workers clients caller = (caller ≤ workers) ⊎ ((17 ≤ caller) × (caller ≤ 16 + clients))

-- each entry is one of theirs
abbrev pub AreCallersBeside : ℕ → ℕ → List RegEntry → List (BoardEntry Ask) → Type 0
AreCallersBeside workers clients r b = All (λ e. IsOneOf workers clients (reg_caller e)) r × All (λ e. IsOneOf workers clients (board_caller e)) b
