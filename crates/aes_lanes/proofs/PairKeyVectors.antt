-- round keys of pairs, in an array
use Rattle.std.specs.Prelude.{◌≡◌, ℕ, ◌+◌, ◌<◌, ◌≤◌, List, [], map, length}
use Rattle.std.proofs.Common.{sym, ◌∙◌, ap, arith, get_or, set, ◌≢◌, below_more, get_or-set_other, get_or-set_same}
use Rattle.std.proofs.lemmas.List.{get_or-map}
use Rattle.aes_lanes.specs.RowKeys.{less_constant, ArePairKeys}
use Rattle.aes_lanes.specs.SealingTower.{tower_byte}
use Rattle.aes_lanes.specs.declared.round_keys.RoundKey.{RoundKey}
use Rattle.aes_lanes.specs.declared.pair_keys.PairKey.{PairKey}
use Rattle.aes_lanes.proofs.RowKeyVectors.{none}

-- those below n are the keys, in the tower
abbrev pub InPairsBelow : ℕ → List RoundKey → List PairKey → Type 0
InPairsBelow n keys pairs = (r : ℕ) (d : PairKey) → r < n → map tower_byte (get_or pairs r d).elements ≡ map less_constant (get_or keys r none).twice

pub pairs_more : (keys : List RoundKey) (pairs : List PairKey) (round : ℕ) (key : PairKey) → round < length pairs
    → map tower_byte key.elements ≡ map less_constant (get_or keys round none).twice → InPairsBelow round keys pairs → InPairsBelow (round + 1) keys (set pairs round key)
pairs_more keys pairs round key within here done r d h =
    below_more (λ r. map tower_byte (get_or (set pairs round key) r d).elements ≡ map less_constant (get_or keys r none).twice) round
    (λ r l. let ne : r ≢ round = omega arith in ap (λ (k : PairKey). map tower_byte k.elements) (get_or-set_other pairs round r key d ne) ∙ done r d l)
    (ap (λ (k : PairKey). map tower_byte k.elements) (get_or-set_same pairs round key d within) ∙ here)
    r h

pub pairs_all : (n : ℕ) (keys : List RoundKey) (pairs : List PairKey) → n ≤ 15 → length keys ≡ 15 → length pairs ≡ 15 → InPairsBelow n keys pairs → ArePairKeys n keys pairs
pairs_all n keys pairs few long pairs_long done r h =
    ap (map tower_byte) (get_or-map (λ k. k.elements) pairs r (record { elements = [] }) [] (omega arith)) ∙ done r (record { elements = [] }) h
    ∙ ap (map less_constant) (sym (get_or-map (λ k. k.twice) keys r none [] (omega arith)))
