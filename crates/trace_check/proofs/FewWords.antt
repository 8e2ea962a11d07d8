-- Fewer than three words are no event.
use Rattle.std.proofs.Common.{◌≡◌, ℕ, ◌<◌, List, [], ◌∷◌, length, map, None, Bor, refl, arith}
use Rattle.trace_check.specs.EventParser.{event_in}

pub few-words : (words : List (Bor (List ℕ))) → length words < 3 → event_in (map (λ word. word.now) words) ≡ None
few-words [] few = refl
few-words (kind ∷ []) few = refl
few-words (kind ∷ caller ∷ []) few = refl
few-words (kind ∷ caller ∷ name ∷ args) few = absurd (omega (arith, few))
