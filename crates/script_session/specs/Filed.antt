-- The live transforms of a session, by the order in which they were allocated and by their labels.
use Rattle.std.specs.Prelude.{ℕ, ◌≡◌, ◌<◌, if◌then◌else◌, List, [], ◌∷◌, Option, Some, None, All}
use Rattle.std.specs.BTreeMap.{IsOrdered, get_by, keys}
use Rattle.std.specs.Cmp.Lexicographic.{slice_cmp}
use Rattle.std.specs.Map.{values_of}
use Rattle.std.specs.Ordering.{nat_cmp}
use Rattle.dialogues.specs.ScriptState.{Live, is_of}
use Rattle.script_session.specs.declared.lives.LiveTransforms.{LiveTransforms}

-- the number of the first transform of the label
abbrev pub number_of : List ℕ → List (ℕ × Live) → Option ℕ
number_of label [] = None
number_of label (entry ∷ entries) = if is_of label entry.1 then Some entry.0 else number_of label entries

-- the live transforms, in order of allocation
abbrev pub lives_of : LiveTransforms → List Live
lives_of lives = values_of lives.transforms.entries

-- the number to which a label leads
abbrev pub led_to : LiveTransforms → List ℕ → Option ℕ
led_to lives label = get_by (λ key. slice_cmp nat_cmp label key.items) lives.labels

-- Each label leads to the transform that has it, no two transforms have the same, the numbers ascend, and the next is
-- above all.
pub record AreFiled (lives : LiveTransforms) : Type 0 where
  pub ascend : IsOrdered nat_cmp lives.transforms
  pub led : (label : List ℕ) → led_to lives label ≡ number_of label lives.transforms.entries
  pub apart : All (λ (entry : ℕ × Live). number_of entry.1.label lives.transforms.entries ≡ Some entry.0) lives.transforms.entries
  pub below : All (λ number. number < lives.next) (keys lives.transforms)
