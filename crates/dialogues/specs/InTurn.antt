-- How a caller asks its registry: one call after the other, each when the one before has come to something; or with
-- several looks at once.
use Rattle.std.specs.Prelude.{ℕ, ◌≡◌, Bool, true, false, ◌&&◌, nat_le, List, [], ◌∷◌, ◌++◌, length, filter, Some}
use Rattle.std.specs.List.{list_all, flat_map}
use Rattle.alg_registry.specs.declared.entry.RegEntry.{RegEntry}
use Rattle.templates.specs.LookResults.{is_asked}
use Rattle.dialogues.specs.RegistryCalls.{RegCall, Looks, reg_call_of, reg_calls, reg_calls_from, is_settled, AllSettled}

-- The history went on by this call of the caller, which has come to something; before and after it the caller asked
-- nothing.
pub record IsMade (caller : ℕ) (call : RegCall) (r r' : List RegEntry) : Type 0 where
  pub before : List RegEntry
  pub entry : RegEntry
  pub after : List RegEntry
  pub history : r' ≡ ((r ++ before) ++ entry ∷ []) ++ after
  pub call_is : reg_call_of r' caller (r ++ before) entry ≡ Some call
  pub settled : is_settled call ≡ true
  pub none_before : filter (is_asked caller) before ≡ []
  pub none_after : filter (is_asked caller) after ≡ []

-- it went on, and the caller asked nothing
abbrev pub AsksNothing : ℕ → List RegEntry → List RegEntry → Type 0
AsksNothing caller r r' = (more : List RegEntry) × (r' ≡ r ++ more) × (filter (is_asked caller) more ≡ [])

-- the caller made these calls one after the other, each when the one before had come to something
abbrev pub AreInTurn : ℕ → List RegCall → List RegEntry → List RegEntry → Type 0
AreInTurn caller [] r r' = AsksNothing caller r r'
AreInTurn caller (call ∷ calls) r r' = (next : List RegEntry) × IsMade caller call r next × AreInTurn caller calls next r'

-- ---- several looks at once

-- The history went on by these calls of the caller, one after the other, which have all come to something; it asked
-- nothing else.
pub record AreMade (caller : ℕ) (calls : List RegCall) (r r' : List RegEntry) : Type 0 where
  pub more : List RegEntry
  pub history : r' ≡ r ++ more
  pub calls_are : reg_calls_from r' caller r more ≡ calls
  pub settled : AllSettled calls

abbrev pub is_look : RegCall → Bool
is_look (Looks text found) = true
is_look _ = false

-- one call, or looks, at most so many
abbrev pub is_group : ℕ → List RegCall → Bool
is_group width (call ∷ []) = true
is_group width calls = list_all is_look calls && nat_le (length calls) width

-- the caller made these groups of calls, each when all of the group before had come to something
abbrev pub AreGroups : ℕ → ℕ → List (List RegCall) → List RegEntry → List RegEntry → Type 0
AreGroups width caller [] r r' = AsksNothing caller r r'
AreGroups width caller (group ∷ groups) r r' =
    (next : List RegEntry) × (is_group width group ≡ true) × AreMade caller group r next × AreGroups width caller groups next r'

-- the caller made these calls in turn, with at most so many looks at once
abbrev pub AreInTurnBy : ℕ → ℕ → List RegCall → List RegEntry → List RegEntry → Type 0
AreInTurnBy width caller calls r r' = (groups : List (List RegCall)) × (flat_map (λ group. group) groups ≡ calls) × AreGroups width caller groups r r'

-- ---- further calls

-- What calls in turn are to the history: it went on, these are the caller's further calls, and all that it asked has
-- come to something.
pub record AreCalls (caller : ℕ) (calls : List RegCall) (r r' : List RegEntry) : Type 0 where
  pub more : List RegEntry
  pub goes_on : r' ≡ r ++ more
  pub calls_are : reg_calls caller r' ≡ reg_calls caller r ++ calls
  pub settled : AllSettled calls
  pub all_settled : AllSettled (reg_calls caller r')
