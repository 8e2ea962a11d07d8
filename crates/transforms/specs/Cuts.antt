-- Requests whose text lies in one segment.
use Rattle.std.specs.Prelude.{ℕ, List, [], ◌∷◌, length}
use Rattle.sg_walk.specs.Segments.{Segmented}
use Rattle.transforms.specs.declared.request.Request.{Request}

-- a text in one segment
abbrev pub in_one : List ℕ → Segmented
in_one text = record { text = text; sizes = length text ∷ [] }

-- the same request, with its text in one
abbrev pub uncut : Request → Request
uncut q = record q { text = in_one q.text.text }
