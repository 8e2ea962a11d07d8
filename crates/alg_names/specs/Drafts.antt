-- A draft of a name as the reading that it stands for.
use Rattle.std.specs.Prelude.{ℕ, List, map, reverse}
use Rattle.alg_names.specs.Name.{Args}
use Rattle.alg_names.specs.Built.{args_from}
use Rattle.alg_names.specs.Reader.{Place, begins, in_word, closed, Reading, reading, Reaches}
use Rattle.alg_names.specs.declared.draft.Template.{Template}
use Rattle.alg_names.specs.declared.draft.Part.{Part}
use Rattle.alg_names.specs.declared.draft.Part.TheVariants.{Nothing, Word, Whole}
use Rattle.alg_names.specs.declared.draft.Draft.{Draft}
use Rattle.alg_names.specs.declared.name_errors.NameErr.{NameErr}
use Rattle.alg_names.specs.declared.name_errors.NameErr.TheVariants.{TooMany, Memory}

abbrev pub frame_of : Template → List ℕ × Args
frame_of template = (template.word, args_from template.arguments.items)

-- the innermost first
abbrev pub frames : List Template → List (List ℕ × Args)
frames templates = reverse (map frame_of templates)

abbrev pub place_of : Part → Place
place_of Nothing = begins
place_of (Word word) = in_word word
place_of (Whole name) = closed name

abbrev pub reading_of : Draft → Reading
reading_of draft = reading (frames draft.templates.items) (place_of draft.part)

-- Building stops only where memory runs out or a template has a fifth argument.
abbrev pub StopsAt : NameErr → Reading → Type 0
StopsAt Memory r = Unit {0}
StopsAt TooMany r = Reaches 0 5 r
StopsAt _ r = ⊥
