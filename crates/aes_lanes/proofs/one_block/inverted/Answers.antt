use Rattle.std.specs.Prelude.{◌≡◌, ℕ, List, map, ◌∷◌, []}
use Rattle.aes_lanes.specs.Lookup.{look, low, high, inv, ratio, both, p_of, q_of}
use Rattle.aes_lanes.proofs.Lookups.{indices_of, then, both_of, low_passes, high_passes, both_passes, p_passes, q_passes}
use Rattle.aes_lanes.proofs.one_block.inverted.Goals as goal

abbrev ratios : List ℕ
ratios = 128 ∷ 7 ∷ 11 ∷ 15 ∷ 6 ∷ 10 ∷ 4 ∷ 1 ∷ 9 ∷ 8 ∷ 5 ∷ 2 ∷ 12 ∷ 14 ∷ 13 ∷ 3 ∷ []

pub looked_up-ratio-requires-clause-places : goal.looked_up-ratio-requires-clause-places
looked_up-ratio-requires-clause-places c = indices_of 16 low c.args.y _ c.fits-y c.low_half-k.ensures low_passes

pub looked_up-requires-clause-places : goal.looked_up-requires-clause-places
looked_up-requires-clause-places c = indices_of 16 high c.args.y _ c.fits-y c.high_half-i.ensures high_passes

pub looked_up-requires-2-clause-places : goal.looked_up-requires-2-clause-places
looked_up-requires-2-clause-places c = indices_of 16 both c.args.y _ c.fits-y (both_of high low c.args.y c.sum-j.ensures c.high_half-i.ensures c.low_half-k.ensures) both_passes

pub looked_up-requires-3-clause-places : goal.looked_up-requires-3-clause-places
looked_up-requires-3-clause-places c =
    let y = c.args.y in
    let r : c.looked_up-ratio.result ≡ map ratio y = then (look ratios) low y c.looked_up-ratio.ensures c.low_half-k.ensures in
    indices_of 16 p_of y _ c.fits-y (both_of (λ y. inv (high y)) ratio y c.sum-p.ensures (then inv high y c.looked_up.ensures c.high_half-i.ensures) r) p_passes

pub looked_up-requires-4-clause-places : goal.looked_up-requires-4-clause-places
looked_up-requires-4-clause-places c =
    let y = c.args.y in
    let r : c.looked_up-ratio.result ≡ map ratio y = then (look ratios) low y c.looked_up-ratio.ensures c.low_half-k.ensures in
    let j : c.sum-j.result ≡ map both y = both_of high low y c.sum-j.ensures c.high_half-i.ensures c.low_half-k.ensures in
    indices_of 16 q_of y _ c.fits-y (both_of (λ y. inv (both y)) ratio y c.sum-q.ensures (then inv both y c.looked_up-2.ensures j) r) q_passes

pub returns-clause-first : goal.returns-clause-first
returns-clause-first c =
    let y = c.args.y in
    let r : c.looked_up-ratio.result ≡ map ratio y = then (look ratios) low y c.looked_up-ratio.ensures c.low_half-k.ensures in
    let j : c.sum-j.result ≡ map both y = both_of high low y c.sum-j.ensures c.high_half-i.ensures c.low_half-k.ensures in
    let p : c.sum-p.result ≡ map p_of y = both_of (λ y. inv (high y)) ratio y c.sum-p.ensures (then inv high y c.looked_up.ensures c.high_half-i.ensures) r in
    both_of (λ y. inv (p_of y)) both y c.sum.ensures (then inv p_of y c.looked_up-3.ensures p) j

pub returns-clause-second : goal.returns-clause-second
returns-clause-second c =
    let y = c.args.y in
    let r : c.looked_up-ratio.result ≡ map ratio y = then (look ratios) low y c.looked_up-ratio.ensures c.low_half-k.ensures in
    let j : c.sum-j.result ≡ map both y = both_of high low y c.sum-j.ensures c.high_half-i.ensures c.low_half-k.ensures in
    let q : c.sum-q.result ≡ map q_of y = both_of (λ y. inv (both y)) ratio y c.sum-q.ensures (then inv both y c.looked_up-2.ensures j) r in
    both_of (λ y. inv (q_of y)) high y c.sum-2.ensures (then inv q_of y c.looked_up-4.ensures q) c.high_half-i.ensures
