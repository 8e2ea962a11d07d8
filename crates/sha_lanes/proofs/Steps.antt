-- Rounds over the words of a lane, which have the constants added to them.
use Rattle.std.proofs.Common.{◌≡◌, ℕ, ◌+◌, ◌<◌, List, [], length, slice_index, slice_index_or, subst, sym, ◌∙◌, add-one, arith}
use Rattle.std.proofs.lemmas.List.{get_or-map}
use Rattle.std.proofs.lemmas.Simd.{get_or-zip2}
use Rattle.sha2.specs.Sha256.{add32, round, round_constants, rounds, schedule}
use Rattle.sha_lanes.specs.Lanes.{in_lane, keyed_words}
use Rattle.sha_lanes.specs.Words.{IsRoundsAt}
use Rattle.sha_lanes.proofs.Schedules.{length-schedule}

-- the order of the sums in T 1
pub in_order : (h s c k w : ℕ) → add32 (add32 (add32 h (add32 w k)) c) s ≡ add32 (add32 (add32 (add32 h s) c) k) w
in_order h s c k w = omega arith

-- the word and the constant of a round
pub word : (b : List ℕ) (rows : List (List ℕ)) (lane t : ℕ) → length rows ≡ 64 → t < 64 → in_lane rows lane ≡ keyed_words b
    → slice_index (slice_index_or rows t []) lane ≡ add32 (slice_index (schedule b 48) t) (slice_index round_constants t)
word b rows lane t long to e =
    sym (get_or-map (λ row. slice_index row lane) rows t [] 0 (omega arith)) ∙ rw e (get_or-zip2 add32 (schedule b 48) round_constants t 0 0 0 (omega (arith, length-schedule b 48)) to)

-- one round more
pub next : (h w v : List ℕ) (t : ℕ) {after : List ℕ} → v ≡ rounds h w t → after ≡ round v (slice_index round_constants t) (slice_index w t) → after ≡ rounds h w (t + 1)
unfolding rounds
next h w v t held e = rw (add-one, ← held) e

-- the same round, counted otherwise
pub at : (h b words : List ℕ) {v : List ℕ} {t u : ℕ} → t ≡ u → IsRoundsAt h b words v t → IsRoundsAt h b words v u
at h b words {v} e held = subst (λ (n : ℕ). IsRoundsAt h b words v n) e held
