-- A `probe` as it is made: first a look for each of its names that is one, and then what these come to.
use Rattle.std.specs.Prelude.{◌≡◌, ℕ, true, List, [], ◌∷◌, take, Option, Some, Result, Ok, Err, All, ⊤}
use Rattle.std.specs.List.{list_all, flat_map}
use Rattle.kc_base.specs.declared.error_numbers.Errno.{Errno}
use Rattle.alg_names.specs.Name.{Tree}
use Rattle.alg_registry.specs.declared.entry.RegEntry.{RegEntry}
use Rattle.reply_text.specs.declared.answers.Answer.{Answer}
use Rattle.shared_registry.specs.Builds.{WasAnswered, is_building}
use Rattle.shared_registry.specs.Passes.{IsSound}
use Rattle.templates.specs.LookResults.{Found, Fault, found_in}
use Rattle.turn_lock.specs.Turns.{Known}
use Rattle.dialogues.specs.Names.{name_read}
use Rattle.dialogues.specs.Probe.{found_said}
use Rattle.recorded_calls.specs.Looks.{Sought, Goes, look_entry}
use Rattle.recorded_calls.specs.Passes.{RegPass, known}

-- a name of a probe, with the look that was made for it, or why it is no name
pub record Searched : Type 0 where
  pub text : List ℕ
  pub look : Result Sought Errno

-- the look is for the text, which is a name; without a look this is why it is none
abbrev pub IsRead : List ℕ → Result Sought Errno → Type 0
IsRead text (Ok look) = (name : Tree) × (name_read text ≡ Ok name) × (look.text ≡ text)
IsRead text (Err errno) = name_read text ≡ Err errno

-- the searches of these texts
abbrev pub AreRead : List (List ℕ) → List Searched → Type 0
AreRead [] [] = ⊤
AreRead (text ∷ texts) (search ∷ searches) = (search.text ≡ text) × IsRead search.text search.look × AreRead texts searches
AreRead _ _ = ⊥

-- the entries of the looks that were made
abbrev pub entry_of : ℕ → Result Sought Errno → List RegEntry
entry_of caller (Ok look) = look_entry caller look ∷ []
entry_of caller (Err errno) = []

abbrev pub look_entries : ℕ → List Searched → List RegEntry
look_entries caller searches = flat_map (λ (search : Searched). entry_of caller search.look) searches

-- the caller made the look, if there is one, and may wait for what it comes to
abbrev pub MaySettle : Known RegEntry → Result Sought Errno → Type 0
MaySettle k (Ok look) = IsSound k × WasAnswered k look.text look.looked
MaySettle k (Err errno) = ⊤

-- the names were looked for in order, and the caller made no other entry
pub record LooksFirst (before after : Option RegPass) (texts : List (List ℕ)) (searches : List Searched) : Type 0 where
  pub read : AreRead texts searches
  pub goes : Goes before after (look_entries (known before).number searches)
  pub ready : All (λ (search : Searched). MaySettle (known after) search.look) searches

-- so were the first of the names
abbrev pub LooksSome : Option RegPass → Option RegPass → List (List ℕ) → Type 0
LooksSome before after texts = (n : ℕ) × (searches : List Searched) × LooksFirst before after (take n texts) searches

-- what a search has come to in a history
abbrev pub comes_to : List RegEntry → Result Sought Errno → Option Found
comes_to h (Ok look) = found_in h look.looked
comes_to h (Err errno) = Some (Fault errno)

-- what is said of a search by what it has come to
abbrev pub IsSaid : List RegEntry → ℕ → Searched → Answer → Type 0
IsSaid h n search answer = (found : Found) × (comes_to h search.look ≡ Some found) × (answer ≡ found_said n search.text found)

abbrev pub AreSaid : List RegEntry → ℕ → List Searched → List Answer → Type 0
AreSaid h n [] [] = ⊤
AreSaid h n (search ∷ searches) (answer ∷ answers) = IsSaid h n search answer × AreSaid h n searches answers
AreSaid h n _ _ = ⊥

-- the caller built and waited, and this is said of what the searches came to
pub record SettlesThen (before after : Option RegPass) (n : ℕ) (searches : List Searched) (said : List Answer) : Type 0 where
  pub work : List RegEntry
  pub goes : Goes before after work
  pub all_work : list_all is_building work ≡ true
  pub said_are : AreSaid (known after).seen n searches said
