use Rattle.std.specs.Prelude.{◌≡◌, ℕ, List, map, bit_xor, ◌∷◌, []}
use lib.Lanes.{zip2}
use Rattle.aes_lanes.specs.Lookup.{look, low, high, inverse_to_tower, first_part, second_part}
use Rattle.aes_lanes.proofs.Lookups.{indices_of_map, then, both_of, low_passes, high_passes, inverse_first_of_byte, inverse_second_of_byte, inverse_first_passes, inverse_second_passes, inverse_substituted_all}
use Rattle.aes_lanes.proofs.lookup.inverse_substituted.Goals as goal

abbrev lows : List ℕ
lows = 232 ∷ 183 ∷ 188 ∷ 227 ∷ 236 ∷ 179 ∷ 184 ∷ 231 ∷ 242 ∷ 173 ∷ 166 ∷ 249 ∷ 246 ∷ 169 ∷ 162 ∷ 253 ∷ []

abbrev highs : List ℕ
highs = 0 ∷ 101 ∷ 5 ∷ 96 ∷ 230 ∷ 131 ∷ 227 ∷ 134 ∷ 148 ∷ 241 ∷ 145 ∷ 244 ∷ 114 ∷ 23 ∷ 119 ∷ 18 ∷ []

abbrev firsts : List ℕ
firsts = 0 ∷ 64 ∷ 249 ∷ 126 ∷ 83 ∷ 234 ∷ 135 ∷ 19 ∷ 45 ∷ 62 ∷ 148 ∷ 212 ∷ 185 ∷ 109 ∷ 170 ∷ 199 ∷ []

abbrev seconds : List ℕ
seconds = 0 ∷ 29 ∷ 68 ∷ 147 ∷ 15 ∷ 86 ∷ 215 ∷ 18 ∷ 156 ∷ 142 ∷ 197 ∷ 216 ∷ 89 ∷ 129 ∷ 75 ∷ 202 ∷ []

tower : (v : List ℕ) {ls xs hs zs ys : List ℕ} → ls ≡ map low v → xs ≡ map (look lows) ls → hs ≡ map high v → zs ≡ map (look highs) hs → ys ≡ zip2 bit_xor xs zs → ys ≡ map inverse_to_tower v
tower v l x h z y = both_of (λ x. look lows (low x)) (λ x. look highs (high x)) v y (then (look lows) low v x l) (then (look highs) high v z h)

pub looked_up-left-requires-clause-places : goal.looked_up-left-requires-clause-places
looked_up-left-requires-clause-places c = indices_of_map low c.args.x _ c.fits-x c.low_half.ensures low_passes

pub looked_up-right-requires-clause-places : goal.looked_up-right-requires-clause-places
looked_up-right-requires-clause-places c = indices_of_map high c.args.x _ c.fits-x c.high_half.ensures high_passes

pub looked_up-requires-clause-places : goal.looked_up-requires-clause-places
looked_up-requires-clause-places c =
    let x = c.args.x in
    let y : c.sum.result ≡ map inverse_to_tower x = tower x c.low_half.ensures c.looked_up-left.ensures c.high_half.ensures c.looked_up-right.ensures c.sum.ensures in
    indices_of_map inverse_first_of_byte x _ c.fits-x (then first_part inverse_to_tower x c.inverted.ensures.first y) inverse_first_passes

pub looked_up-requires-2-clause-places : goal.looked_up-requires-2-clause-places
looked_up-requires-2-clause-places c =
    let x = c.args.x in
    let y : c.sum.result ≡ map inverse_to_tower x = tower x c.low_half.ensures c.looked_up-left.ensures c.high_half.ensures c.looked_up-right.ensures c.sum.ensures in
    indices_of_map inverse_second_of_byte x _ c.fits-x (then second_part inverse_to_tower x c.inverted.ensures.second y) inverse_second_passes

pub returns : goal.returns
returns c =
    let x = c.args.x in
    let y : c.sum.result ≡ map inverse_to_tower x = tower x c.low_half.ensures c.looked_up-left.ensures c.high_half.ensures c.looked_up-right.ensures c.sum.ensures in
    inverse_substituted_all x _ c.fits-x (both_of (λ x. look firsts (inverse_first_of_byte x)) (λ x. look seconds (inverse_second_of_byte x)) x c.sum-2.ensures
    (then (look firsts) inverse_first_of_byte x c.looked_up.ensures (then first_part inverse_to_tower x c.inverted.ensures.first y))
    (then (look seconds) inverse_second_of_byte x c.looked_up-2.ensures (then second_part inverse_to_tower x c.inverted.ensures.second y)))
