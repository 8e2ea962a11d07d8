-- Words and working variables of eight blocks, lane by lane.
use Rattle.std.proofs.Common.{◌≡◌, ℕ, zero, suc, ◌<◌, List, [], ◌∷◌, length, map, slice_index, slice_index_or, bit_and, bit_xor, w32, refl, sym, ◌∙◌, arith}
use Rattle.std.specs.Int.{bit_not}
use Rattle.std.proofs.lemmas.List.{get_or-map, length-map}
use Rattle.std.proofs.lemmas.Simd.{get_or-zip2, length-zip2}
use lib.Lanes.{zip2}
use Rattle.sha2.specs.Sha256.{ch, maj}
use Rattle.sha_lanes.specs.Lanes.{in_lane}
use Rattle.sha_lanes.proofs.Majority.{majority}

-- a lane of a sum
pub lane : (f : ℕ → ℕ → ℕ) (x y : List ℕ) (n : ℕ) → length x ≡ 8 → length y ≡ 8 → n < 8
    → slice_index (zip2 f x y) n ≡ f (slice_index x n) (slice_index y n)
lane f x y n ex ey lt = get_or-zip2 f x y n 0 0 0 (omega arith) (omega arith)

long : (f : ℕ → ℕ → ℕ) (x y : List ℕ) → length x ≡ 8 → length y ≡ 8 → length (zip2 f x y) ≡ 8
long f x y ex ey = length-zip2 f x y (ex ∙ sym ey) ∙ ex

-- a lane of what was computed lane by lane
pub of_map : (f : ℕ → ℕ) (x : List ℕ) (n : ℕ) {y : List ℕ} → y ≡ map f x → length x ≡ 8 → n < 8 → slice_index y n ≡ f (slice_index x n)
of_map f x n e ex lt = rw e (get_or-map f x n 0 0 (omega arith))

pub chosen : (x y z : List ℕ) (n : ℕ) → length x ≡ 8 → length y ≡ 8 → length z ≡ 8 → n < 8
    → slice_index (zip2 bit_xor (zip2 bit_and x y) (zip2 bit_and (map (bit_not w32) x) z)) n ≡ ch (slice_index x n) (slice_index y n) (slice_index z n)
chosen x y z n ex ey ez lt =
    let enot : length (map (bit_not w32) x) ≡ 8 = length-map x (bit_not w32) ∙ ex in
    rw (
      lane bit_xor (zip2 bit_and x y) (zip2 bit_and (map (bit_not w32) x) z) n (long bit_and x y ex ey) (long bit_and (map (bit_not w32) x) z enot ez) lt,
      lane bit_and x y n ex ey lt,
      lane bit_and (map (bit_not w32) x) z n enot ez lt,
      of_map (bit_not w32) x n refl ex lt,
    )
    refl

pub most : (x y z : List ℕ) (n : ℕ) → length x ≡ 8 → length y ≡ 8 → length z ≡ 8 → n < 8
    → slice_index (zip2 bit_xor y (zip2 bit_and (zip2 bit_xor x y) (zip2 bit_xor y z))) n ≡ maj (slice_index x n) (slice_index y n) (slice_index z n)
most x y z n ex ey ez lt =
    let exy : length (zip2 bit_xor x y) ≡ 8 = long bit_xor x y ex ey in
    let eyz : length (zip2 bit_xor y z) ≡ 8 = long bit_xor y z ey ez in
    rw (
      lane bit_xor y (zip2 bit_and (zip2 bit_xor x y) (zip2 bit_xor y z)) n ey (long bit_and (zip2 bit_xor x y) (zip2 bit_xor y z) exy eyz) lt,
      lane bit_and (zip2 bit_xor x y) (zip2 bit_xor y z) n exy eyz lt,
      lane bit_xor x y n ex ey lt,
      lane bit_xor y z n ey ez lt,
    )
    (majority (slice_index x n) (slice_index y n) (slice_index z n))

-- a working variable of a lane
pub variable : (v : List (List ℕ)) (n i : ℕ) → slice_index (in_lane v n) i ≡ slice_index (slice_index_or v i []) n
variable [] n i = refl
variable (x ∷ v) n zero = refl
variable (x ∷ v) n (suc i) = variable v n i
