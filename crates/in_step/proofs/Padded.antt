-- A block of the padding behind zeros in the place of a message.
use Rattle.std.proofs.Common.{◌≡◌, ◌≢◌, ℕ, suc, ◌+◌, ◌-◌, ◌*◌, ◌%◌, ◌^◌, ◌<◌, ◌≤◌, min, List, ◌++◌, length, take, drop, replicate, sym, ap, ap₂, ◌∙◌, arith, length-append, inl, inr, slice_index, slice_set, take-append-drop}
use Rattle.std.proofs.lemmas.Bool.{cases_lt}
use Rattle.std.proofs.lemmas.List.{drop-drop, ext_get_or, get_or-append-add, get_or-drop, get_or-set_other, get_or-take, get_or_append_left, length-drop, length-replicate, length-take}
use Rattle.std.proofs.lemmas.Simd.{get_or-replicate}
use Rattle.std.proofs.Math.Seq.{drop-append_seam}
use Rattle.std.specs.Int.{w64, to_be_bytes}
use Rattle.sha2.specs.Sha256.{padding}
use Rattle.in_step.proofs.Behind.{Filled, parted, padding-long, to-bytes-long}

-- ---- zeros with the bit 1 behind the message

pub unmarked : (at len k : ℕ) → at ≤ len → k < 64 → at + k ≢ len → slice_index (slice_set (replicate {A = ℕ} 64 0) (len - at) 0x80) k ≡ 0
unmarked at len k from lt other =
    get_or-set_other (replicate {A = ℕ} 64 0) (len - at) k 0x80 0 (λ e. other (omega (arith, e))) ∙ get_or-replicate 64 k 0 0 lt

-- ---- the padding behind zeros, byte by byte

-- how many zeros stand between the bit 1 and the length of n bytes
abbrev gap : ℕ → ℕ
gap n = (119 - n % 64) % 64

abbrev bits : ℕ → List ℕ
bits n = to_be_bytes w64 (n * 8 % 2 ^ 64)

abbrev pub padded : ℕ → ℕ → List ℕ
padded len n = replicate {A = ℕ} len 0 ++ padding n

byte_before : (len n i : ℕ) → i < len → slice_index (padded len n) i ≡ 0
byte_before len n i lt =
    get_or_append_left (replicate {A = ℕ} len 0) (padding n) 0 i (omega (arith, length-replicate {A = ℕ} len 0)) ∙ get_or-replicate len i 0 0 lt

byte_behind : (len n j : ℕ) → slice_index (padded len n) (len + j) ≡ slice_index (padding n) j
byte_behind len n j =
    ap (λ (l : ℕ). slice_index (padded len n) (l + j)) (sym (length-replicate {A = ℕ} len 0)) ∙ get_or-append-add (replicate {A = ℕ} len 0) (padding n) j 0

zero_of : (n j : ℕ) → j < gap n → slice_index (padding n) (suc j) ≡ 0
zero_of n j lt =
    get_or_append_left (replicate {A = ℕ} (gap n) 0) (bits n) 0 j (omega (arith, length-replicate {A = ℕ} (gap n) 0)) ∙ get_or-replicate (gap n) j 0 0 lt

bit_of : (n j : ℕ) → slice_index (padding n) (suc (gap n + j)) ≡ slice_index (bits n) j
bit_of n j =
    ap (λ (z : ℕ). slice_index (replicate {A = ℕ} (gap n) 0 ++ bits n) (z + j)) (sym (length-replicate {A = ℕ} (gap n) 0))
    ∙ get_or-append-add (replicate {A = ℕ} (gap n) 0) (bits n) j 0

-- a byte before the length: what a block of zeros with the bit 1 has there
byte_marked : (len n i x : ℕ) → i < len + 1 + gap n → (i ≡ len → x ≡ 0x80) → (i ≢ len → x ≡ 0) → x ≡ slice_index (padded len n) i
byte_marked len n i x to mark zero = elim (cases_lt i len) [
  | inl lt ↦
      zero (λ e. absurd (omega (arith, e))) ∙ sym (byte_before len n i lt)
  | inr ge ↦
      elim (cases_lt len i) [
        | inl gt ↦
            let place : i ≡ len + suc (i - len - 1) = omega arith in
            zero (λ e. absurd (omega (arith, e)))
            ∙ sym (ap (slice_index (padded len n)) place ∙ byte_behind len n (suc (i - len - 1)) ∙ zero_of n (i - len - 1) (omega arith))
        | inr le ↦
            let here : i ≡ len = omega arith in
            let place : i ≡ len + 0 = omega arith in
            mark here ∙ sym (ap (slice_index (padded len n)) place ∙ byte_behind len n 0)
      ]
]

byte_counted : (len n j : ℕ) → slice_index (padded len n) (len + 1 + gap n + j) ≡ slice_index (bits n) j
byte_counted len n j =
    let place : len + 1 + gap n + j ≡ len + suc (gap n + j) = omega arith in
    ap (slice_index (padded len n)) place ∙ byte_behind len n (suc (gap n + j)) ∙ bit_of n j

-- ---- a block of them

length-padded : (len n : ℕ) → length (padded len n) ≡ len + gap n + 9
length-padded len n = omega (arith, length-append (replicate {A = ℕ} len 0) (padding n), length-replicate {A = ℕ} len 0, padding-long n)

byte_of_block : (p : List ℕ) (at k : ℕ) → k < 64 → slice_index (take 64 (drop at p)) k ≡ slice_index p (at + k)
byte_of_block p at k lt = get_or-take 64 (drop at p) k 0 lt ∙ get_or-drop at p k 0

long_block : (len n at : ℕ) → len % 64 ≡ n % 64 → at % 64 ≡ 0 → at + 64 ≤ len + 72 → length (take 64 (drop at (padded len n))) ≡ 64
long_block len n at same place within =
    omega (arith, length-take 64 (drop at (padded len n)), length-drop at (padded len n), length-padded len n)

-- the marks of a block
pub record Marked (b : List ℕ) (len at : ℕ) : Type 0 where
  pub long : length b ≡ 64
  pub mark : (k : ℕ) → k < 64 → at + k ≡ len → slice_index b k ≡ 0x80
  pub zeros : (k : ℕ) → k < 64 → at + k ≢ len → slice_index b k ≡ 0

pub inner_padding : (b : List ℕ) (len n at : ℕ) → Marked b len at → len % 64 ≡ n % 64 → at % 64 ≡ 0 → at + 64 ≤ len + 8 → b ≡ take 64 (drop at (padded len n))
inner_padding b len n at held same place short =
    ext_get_or 0 b (take 64 (drop at (padded len n))) (held.long ∙ sym (long_block len n at same place (omega arith)))
    (λ k lt.
    let low : k < 64 = omega (arith, held.long) in
    byte_marked len n (at + k) (slice_index b k) (omega arith) (held.mark k low) (held.zeros k low) ∙ sym (byte_of_block (padded len n) at k low))

pub last_padding : (b : List ℕ) (len n at : ℕ) → Marked b len at → len % 64 ≡ n % 64 → at % 64 ≡ 0 → len + 8 < at + 64 → at + 64 ≤ len + 72
    → take 56 b ++ bits n ≡ take 64 (drop at (padded len n))
last_padding b len n at held same place last within =
    let front : length (take 56 b) ≡ 56 = omega (arith, length-take 56 b, held.long) in
    let end : at + 56 ≡ len + 1 + gap n = omega arith in
    ext_get_or 0 (take 56 b ++ bits n) (take 64 (drop at (padded len n)))
    (omega (arith, length-append (take 56 b) (bits n), front, to-bytes-long (n * 8 % 2 ^ 64), long_block len n at same place within))
    (λ k lt.
    let low : k < 64 = omega (arith, length-append (take 56 b) (bits n), front, to-bytes-long (n * 8 % 2 ^ 64)) in
    elim (cases_lt k 56) [
      | inl below ↦
          get_or_append_left (take 56 b) (bits n) 0 k (omega (arith, front)) ∙ get_or-take 56 b k 0 below
          ∙ byte_marked len n (at + k) (slice_index b k) (omega (arith, end)) (held.mark k low) (held.zeros k low) ∙ sym (byte_of_block (padded len n) at k low)
      | inr from ↦
          let place : k ≡ length (take 56 b) + (k - 56) = omega (arith, front) in
          let byte : at + k ≡ len + 1 + gap n + (k - 56) = omega (arith, end) in
          ap (slice_index (take 56 b ++ bits n)) place ∙ get_or-append-add (take 56 b) (bits n) (k - 56) 0
          ∙ sym (byte_of_block (padded len n) at k low ∙ ap (slice_index (padded len n)) byte ∙ byte_counted len n (k - 56))
    ])

-- ---- the pieces over it

-- a block whose first bytes are the message's, and the others those of the padding behind zeros
pub over_padding : (b old m p : List ℕ) (at used : ℕ) → Filled b m at used → drop used b ≡ drop used old
    → old ≡ take 64 (drop at (replicate {A = ℕ} (length m) 0 ++ p)) → b ≡ take 64 (drop at (m ++ p))
over_padding b old m p at used held rest before =
    let z : List ℕ = replicate {A = ℕ} (length m) 0 in
    let same : length z ≡ length m = length-replicate {A = ℕ} (length m) 0 in
    let tail : List ℕ = take (64 - min 64 (length m - at)) (drop (at - length m) p) in
    let front : length (take 64 (drop at z)) ≡ used = omega (arith, length-take 64 (drop at z), length-drop at z, same, held.count) in
    let of_old : old ≡ take 64 (drop at z) ++ tail = before ∙ parted z p at ∙ ap (λ (n : ℕ). take 64 (drop at z) ++ take (64 - min 64 (n - at)) (drop (at - n) p)) same in
    let behind : drop used old ≡ tail = ap₂ (λ (n : ℕ) (x : List ℕ). drop n x) (sym front) of_old ∙ drop-append_seam (take 64 (drop at z)) tail in
    sym (take-append-drop used b) ∙ ap₂ (λ (x y : List ℕ). x ++ y) held.bytes (rest ∙ behind) ∙ sym (parted m p at)

-- what agrees behind a place agrees behind a later one
pub later : (x y : List ℕ) (a e : ℕ) → a ≤ e → drop a x ≡ drop a y → drop e x ≡ drop e y
later x y a e le same =
    let place : a + (e - a) ≡ e = omega arith in
    ap (λ (n : ℕ). drop n x) (sym place) ∙ sym (drop-drop (e - a) a x) ∙ ap (drop (e - a)) same ∙ drop-drop (e - a) a y ∙ ap (λ (n : ℕ). drop n y) place
