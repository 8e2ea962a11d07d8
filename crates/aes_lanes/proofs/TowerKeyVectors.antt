-- round keys in the tower, in an array
use Rattle.std.specs.Prelude.{◌≡◌, ℕ, ◌+◌, ◌<◌, ◌≤◌, List, [], map, take, length}
use Rattle.std.proofs.Common.{sym, ◌∙◌, ap, arith, get_or, set, ◌≢◌, below_more, get_or-set_other, get_or-set_same}
use Rattle.std.proofs.lemmas.List.{get_or-map}
use Rattle.aes_lanes.specs.RowKeys.{less_constant, AreTowerKeys}
use Rattle.aes_lanes.specs.SealingTower.{ordered}
use Rattle.aes_lanes.specs.declared.round_keys.RoundKey.{RoundKey}
use Rattle.aes_lanes.specs.declared.tower_keys.TowerKey.{TowerKey}
use Rattle.aes_lanes.proofs.RowKeyVectors.{none}

-- those below n are the keys, in the tower, arranged as their rounds want them
abbrev pub InTowerBelow : ℕ → List RoundKey → List TowerKey → Type 0
InTowerBelow n keys tower = (r : ℕ) (d : TowerKey) → r < n → ordered r (get_or tower r d).elements ≡ map less_constant (take 16 (get_or keys r none).twice)

pub tower_more : (keys : List RoundKey) (tower : List TowerKey) (round : ℕ) (key : TowerKey) → round < length tower
    → ordered round key.elements ≡ map less_constant (take 16 (get_or keys round none).twice) → InTowerBelow round keys tower → InTowerBelow (round + 1) keys (set tower round key)
tower_more keys tower round key within here done r d h =
    below_more (λ r. ordered r (get_or (set tower round key) r d).elements ≡ map less_constant (take 16 (get_or keys r none).twice)) round
    (λ r l. let ne : r ≢ round = omega arith in ap (λ (k : TowerKey). ordered r k.elements) (get_or-set_other tower round r key d ne) ∙ done r d l)
    (ap (λ (k : TowerKey). ordered round k.elements) (get_or-set_same tower round key d within) ∙ here)
    r h

pub tower_all : (n : ℕ) (keys : List RoundKey) (tower : List TowerKey) → n ≤ 15 → length keys ≡ 15 → length tower ≡ 15 → InTowerBelow n keys tower → AreTowerKeys n keys tower
tower_all n keys tower few long tower_long done r h =
    ap (ordered r) (get_or-map (λ k. k.elements) tower r (record { elements = [] }) [] (omega arith)) ∙ done r (record { elements = [] }) h
    ∙ ap (λ (v : List ℕ). map less_constant (take 16 v)) (sym (get_or-map (λ k. k.twice) keys r none [] (omega arith)))
