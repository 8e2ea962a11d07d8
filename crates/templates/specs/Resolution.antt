-- How an instance is looked up and built by one caller, children first.
use Rattle.std.specs.Prelude.{ℕ, ◌+◌, ◌*◌, ◌<◌, ◌≤◌, ◌≡◌, ◌≢◌, ◌⊎◌, Bool, true, false, ◌==◌, if◌then◌else◌, List, [], ◌∷◌, ◌++◌, length, slice_get, Some, None, IsSome, Result, Ok, Err, codes}
use Rattle.std.specs.List.{cons_option, list_all}
use Rattle.std.specs.Option.{option_map_or}
use Rattle.std.specs.Str.{bytes_eq}
use Rattle.kc_base.specs.declared.error_numbers.Errno.{Errno}
use Rattle.alg_registry.specs.declared.spec.Spec.{Spec}
use Rattle.alg_registry.specs.declared.entry.Looked.{Looked}
use Rattle.alg_registry.specs.declared.entry.Ended.{Ended}
use Rattle.alg_registry.specs.declared.entry.EndAnswer.{EndAnswer}
use Rattle.alg_registry.specs.declared.entry.EndAnswer.TheVariants.{Built, Joined, Failed, NoMemory}
use Rattle.alg_registry.specs.declared.entry.RegEntry.{RegEntry}
use Rattle.alg_registry.specs.declared.entry.RegEntry.TheVariants.{Look, Claim, End}
use Rattle.alg_registry.specs.Rows.{texts, caller_of, rows_of}
use Rattle.alg_registry.specs.Answers.{built_answer}
use Rattle.alg_registry.specs.Legal.{ended_as, claimer}
use Rattle.alg_registry.specs.Made.{Made, building, last_of, looks_for, look_for, if_of, outcome, outcomes, made_answer}
use Rattle.alg_names.specs.Name.{Tree, node, spelling}
use Rattle.alg_names.specs.Built.{nodes}
use Rattle.templates.specs.declared.build_errors.BuildErr.{BuildErr}
use Rattle.templates.specs.declared.build_errors.BuildErr.TheVariants.{Fault, Memory}
use Rattle.alg_names.specs.Spelled.{tree_of}
use Rattle.templates.specs.Table.{table}

-- a name is heavier than the names that it asks for: `gcm(X)` asks for `ctr(X)`, which has as many words
unfoldable pub weight : Tree → ℕ
weight (node word args) = 2 * nodes (node word args) + (if bytes_eq word (codes "gcm") then 1 else 0)

abbrev pub weight_of : List ℕ → ℕ
weight_of text = option_map_or weight (tree_of text) 0

-- each larval that is pending builds a name of this weight or more
abbrev pub AreAbove : List RegEntry → ℕ → Type 0
AreAbove h w = (n : ℕ) (text : List ℕ) → slice_get (texts h) n ≡ Some text → ended_as h n ≡ None → w ≤ weight_of text

abbrev pub is_by : ℕ → RegEntry → Bool
is_by caller entry = caller_of entry == caller

-- an entry of building: no script asks for it
abbrev pub is_work : ℕ → RegEntry → Bool
is_work caller (Look by text true answer) = by == caller
is_work caller (Claim by larval) = by == caller
is_work caller (End by larval answer) = by == caller
is_work caller _ = false

-- the caller went on: an end stays, and what it had claimed is as it was
pub record Grows (caller : ℕ) (h h' : List RegEntry) : Type 0 where
  pub more : List RegEntry
  pub history : h' ≡ h ++ more
  pub own : list_all (is_by caller) more ≡ true
  pub made : Made table h'
  pub stack : building h' caller ≡ building h caller
  pub ends_stay : (n : ℕ) (e : Ended) → ended_as h n ≡ Some e → ended_as h' n ≡ Some e
  pub own_kept : (n : ℕ) → claimer h n ≡ Some caller → (claimer h' n ≡ Some caller) × (ended_as h' n ≡ ended_as h n)

-- each larval that began since has ended
abbrev pub AllEnded : List RegEntry → List RegEntry → Type 0
AllEnded h h' = (n : ℕ) → length (texts h) ≤ n → n < length (texts h') → IsSome (ended_as h' n)

-- a look and the building for it came to this
pub record CameTo (caller : ℕ) (text : List ℕ) (plain : Bool) (r : Result ℕ Errno) (h h' : List RegEntry) : Type 0 where
  pub grows : Grows caller h h'
  pub answer : Looked
  pub work : List RegEntry
  pub history : h' ≡ h ++ Look caller text plain answer ∷ work
  pub all_work : list_all (is_work caller) work ≡ true
  pub comes : outcome h' answer ≡ Some r
  pub all_ended : AllEnded h h'
  pub looks : (n : ℕ) → n < length (texts h) → looks_for n [] h' ≡ looks_for n [] h ++ cons_option (if_of n (look_for h (Look caller text plain answer))) []

abbrev pub Resolves : ℕ → List ℕ → Bool → List RegEntry → List RegEntry → Result ℕ BuildErr → Type 0
Resolves caller text plain h h' (Ok id) = CameTo caller text plain (Ok id) h h'
Resolves caller text plain h h' (Err (Fault errno)) = CameTo caller text plain (Err errno) h h'
Resolves caller text plain h h' (Err Memory) = Grows caller h h'

-- work for the children of the larval alone
pub record Within (caller larval : ℕ) (h h' : List RegEntry) : Type 0 where
  pub grows : Grows caller h h'
  pub work : List RegEntry
  pub went : h' ≡ h ++ work
  pub all_work : list_all (is_work caller) work ≡ true
  pub all_ended : AllEnded h h'
  pub others : (n : ℕ) → n < length (texts h) → n ≢ larval → looks_for n [] h' ≡ looks_for n [] h

-- the caller has just claimed the larval of the name, and looked for none of its children
pub record IsOpen (caller larval : ℕ) (name : Tree) (h : List RegEntry) : Type 0 where
  pub begun : slice_get (texts h) larval ≡ Some (spelling name)
  pub claimed : claimer h larval ≡ Some caller
  pub unended : ended_as h larval ≡ None
  pub last : last_of (building h caller) ≡ Some larval
  pub no_looks : looks_for larval [] h ≡ []
  pub above : AreAbove h (weight name)
  pub made : Made table h

-- the looks for the larval came to these entries, or to this failure
pub record LooksCome (caller larval : ℕ) (r : Result (List ℕ) Errno) (h h' : List RegEntry) : Type 0 where
  pub within : Within caller larval h h'
  pub come : outcomes h' (looks_for larval [] h') ≡ Some r

abbrev pub ChildFailed : ℕ → ℕ → List RegEntry → List RegEntry → BuildErr → Type 0
ChildFailed caller larval h h' (Fault errno) = LooksCome caller larval (Err errno) h h'
ChildFailed caller larval h h' Memory = Grows caller h h'

-- the larval has to end so
pub record HasToEnd (caller larval : ℕ) (answer : List RegEntry → EndAnswer) (h h' : List RegEntry) : Type 0 where
  pub within : Within caller larval h h'
  pub answered : made_answer table h' larval ≡ Some (answer h')

-- how building for a larval came out
abbrev pub Builds : ℕ → ℕ → List RegEntry → List RegEntry → Result Spec BuildErr → Type 0
Builds caller larval h h' (Ok spec) = HasToEnd caller larval (λ g. built_answer (rows_of g) spec) h h'
Builds caller larval h h' (Err (Fault errno)) = HasToEnd caller larval (λ _. Failed errno) h h'
Builds caller larval h h' (Err Memory) = Grows caller h h'

abbrev pub given_of : List RegEntry → Result Spec BuildErr → EndAnswer
given_of h (Ok spec) = built_answer (rows_of h) spec
given_of h (Err (Fault errno)) = Failed errno
given_of h (Err Memory) = NoMemory

abbrev pub result_of : EndAnswer → Result ℕ BuildErr
result_of (Built id spec) = Ok id
result_of (Joined id below) = Ok id
result_of (Failed errno) = Err (Fault errno)
result_of NoMemory = Err Memory

-- the larval ended so, or for want of memory
pub record EndsWith (caller larval : ℕ) (h h' : List RegEntry) (built : Result Spec BuildErr) (r : Result ℕ BuildErr) : Type 0 where
  pub answer : EndAnswer
  pub history : h' ≡ h ++ End caller larval answer ∷ []
  pub answer_is : (answer ≡ NoMemory) ⊎ (answer ≡ given_of h built)
  pub result_is : r ≡ result_of answer
