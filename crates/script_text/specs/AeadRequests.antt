-- What the arguments of `enc` and `dec` ask for.
use Rattle.std.specs.Prelude.{ℕ, Bool, List}
use Rattle.sg_walk.specs.Segments.{Segmented}
use Rattle.script_text.specs.declared.rows.AeadRequest.{AeadRequest}

abbrev pub request_of : List ℕ → List ℕ → List ℕ → Segmented → Bool → AeadRequest
request_of label iv aad text backlog = record { label = label; iv = iv; aad = aad; text = text; backlog = backlog }
