-- What the checker keeps of a board stands for a history.
use Rattle.std.proofs.Common.{◌≡◌, ℕ, ◌<◌, List, length, map, Some, sym, ◌∙◌, ap, get_or}
use Rattle.std.specs.Prelude.{slice_get, slice_set}
use Rattle.std.specs.Option.{option_map}
use Rattle.std.proofs.lemmas.List.{map-set}
use Rattle.std.proofs.lemmas.Option.{slice_get-get_or, slice_get-map}
use Rattle.board.specs.declared.entry.BoardEntry.{BoardEntry}
use Rattle.trace_check.specs.declared.pipe.Pipeline.{Pipeline}
use Rattle.trace_check.specs.Pipes.{state_of, pipe_of, after, after_at}

-- a pipeline that was read is there
pub pipe_there : (ps : List Pipeline) (i : ℕ) (x : Pipeline) → i < length ps → x ≡ get_or ps i x → slice_get (map state_of ps) i ≡ Some (state_of x)
pipe_there ps i x within here = slice_get-map state_of ps i ∙ (ap (option_map state_of) (slice_get-get_or ps i x within) ∙ ap (λ y. Some (state_of y)) (sym here))

pub pipe_advanced : {A : Type 0} (ps : List Pipeline) (i : ℕ) (x y : Pipeline) (e : BoardEntry A) → i < length ps → x ≡ get_or ps i x → i ≡ pipe_of e → state_of y ≡ after (state_of x) e → map state_of (slice_set ps i y) ≡ after_at (map state_of ps) e (slice_get (map state_of ps) (pipe_of e))
pipe_advanced ps i x y e within here of new =
    map-set state_of ps i y
    ∙ (ap (λ s. slice_set (map state_of ps) i s) new
    ∙ (ap (λ j. slice_set (map state_of ps) j (after (state_of x) e)) of
    ∙ sym (ap (after_at (map state_of ps) e) (ap (slice_get (map state_of ps)) (sym of) ∙ pipe_there ps i x within here))))
