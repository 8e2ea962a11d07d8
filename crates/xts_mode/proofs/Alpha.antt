-- A tweak in two halves of its bits, and the step to the next.
use Rattle.std.proofs.Common.{◌≡◌, ℕ, ◌+◌, ◌*◌, ◌/◌, ◌%◌, ◌^◌, ◌<◌, ◌≤◌, refl, sym, ap, ap₂, ⊎_elim, ◌∙◌, arith, List, ◌∷◌, ◌++◌, length, take, drop, get_or, bit_xor, w64, lit<, length-take, length-drop}
use Rattle.std.specs.Int.{to_le_bytes, from_le_bytes}
use Rattle.std.specs.Int.Bits.{xor_zero_r, xor_zero_l}
use Rattle.std.proofs.lemmas.List.{take-append-drop, take_all, get_or_past, get_or-drop, get_or-take}
use Rattle.std.proofs.lemmas.Bool.{cases_lt}
use Rattle.std.proofs.lemmas.Nat.{xor_block, xor_lt, le_bytes_8}
use Rattle.std_defs.specs.Xts.{times_alpha}

-- ---- the halves of sixteen bytes

front_byte : (block : List ℕ) (n : ℕ) → ((i : ℕ) → get_or block i 0 < 256) → (i : ℕ) → get_or (take n block) i 0 < 256
front_byte block n bytes i =
    ⊎_elim
    (λ (h : i < n). let e : get_or (take n block) i 0 ≡ get_or block i 0 = get_or-take n block i 0 h in omega (arith, bytes i))
    (λ (h : n ≤ i). let e : get_or (take n block) i 0 ≡ 0 = get_or_past (take n block) i 0 (omega (arith, length-take n block)) in omega arith)
    (cases_lt i n)

back_byte : (block : List ℕ) (n : ℕ) → ((i : ℕ) → get_or block i 0 < 256) → (i : ℕ) → get_or (drop n block) i 0 < 256
back_byte block n bytes i = let e : get_or (drop n block) i 0 ≡ get_or block (n + i) 0 = get_or-drop n block i 0 in omega (arith, bytes (n + i))

pub of_halves : (low high : ℕ) (block front back : List ℕ) → length block ≡ 16 → ((i : ℕ) → get_or block i 0 < 256) → front ≡ take 8 block → back ≡ take 8 (drop 8 block)
    → low ≡ from_le_bytes w64 front → high ≡ from_le_bytes w64 back → to_le_bytes w64 low ++ to_le_bytes w64 high ≡ block
of_halves low high block front back long bytes is_front is_back is_low is_high =
    ap₂ (λ (x y : List ℕ). x ++ y)
    (le_bytes_8 (take 8 block) low (omega (arith, length-take 8 block)) (front_byte block 8 bytes) (is_low ∙ ap (from_le_bytes w64) is_front))
    (le_bytes_8 (take 8 (drop 8 block)) high (omega (arith, length-take 8 (drop 8 block), length-drop 8 block)) (front_byte (drop 8 block) 8 (back_byte block 8 bytes)) (is_high ∙ ap (from_le_bytes w64) is_back)
    ∙ take_all 8 (drop 8 block) (omega (arith, length-drop 8 block)))
    ∙ take-append-drop 8 block

-- ---- one step

-- a bit behind an even number
even_xor_bit : (a b : ℕ) → b < 2 → bit_xor (2 * a) b ≡ 2 * a + b
even_xor_bit a b h =
    ap₂ bit_xor (let e : 2 * a ≡ a * 2 ^ 1 + 0 = omega arith in e) (let e : b ≡ 0 * 2 ^ 1 + b = omega arith in e)
    ∙ xor_block 1 a 0 0 b (lit< tt) (omega arith)
    ∙ ap₂ (λ (x y : ℕ). x * 2 ^ 1 + y) (xor_zero_r a) (xor_zero_l b)
    ∙ (let e : a * 2 ^ 1 + b ≡ 2 * a + b = omega arith in e)

-- a byte is added to a number: the lowest byte changes, those above it stay
xor_byte : (n b : ℕ) → b < 256 → bit_xor n b ≡ n / 256 * 256 + bit_xor (n % 256) b
xor_byte n b h =
    ap₂ bit_xor (let e : n ≡ n / 256 * 2 ^ 8 + n % 256 = omega arith in e) (let e : b ≡ 0 * 2 ^ 8 + b = omega arith in e)
    ∙ xor_block 8 (n / 256) 0 (n % 256) b (omega arith) h
    ∙ ap (λ (x : ℕ). x * 2 ^ 8 + bit_xor (n % 256) b) (xor_zero_r (n / 256))

cons : {x y : ℕ} {xs ys : List ℕ} → x ≡ y → xs ≡ ys → x ∷ xs ≡ y ∷ ys
cons e f = ap₂ (λ (a : ℕ) (t : List ℕ). a ∷ t) e f

-- a byte of which the lowest bit comes from elsewhere
stepped : (v a b : ℕ) → v ≡ 2 * a + b → b < 2 → v ≡ bit_xor (2 * a) b
stepped v a b e h = e ∙ sym (even_xor_bit a b h)

pub next_halves : (low high : ℕ) → low < 2 ^ 64 → high < 2 ^ 64
    → to_le_bytes w64 (bit_xor (low * 2 % 2 ^ 64) (135 * (high / 2 ^ 63))) ++ to_le_bytes w64 (bit_xor (high * 2 % 2 ^ 64) (low / 2 ^ 63)) ≡ times_alpha (to_le_bytes w64 low ++ to_le_bytes w64 high)
unfolding times_alpha
next_halves low high low_fits high_fits =
    let fold : ℕ = 135 * (high / 2 ^ 63) in
    let small : fold < 256 = omega arith in
    let lowest : bit_xor (low * 2 % 2 ^ 64 % 256) fold < 256 = xor_lt 8 (low * 2 % 2 ^ 64 % 256) fold (omega arith) small in
    let x : bit_xor (low * 2 % 2 ^ 64) fold ≡ low * 2 % 2 ^ 64 / 256 * 256 + bit_xor (low * 2 % 2 ^ 64 % 256) fold = xor_byte (low * 2 % 2 ^ 64) fold small in
    let even : high * 2 % 2 ^ 64 ≡ 2 * (high % 2 ^ 63) = omega arith in
    let y : bit_xor (high * 2 % 2 ^ 64) (low / 2 ^ 63) ≡ 2 * (high % 2 ^ 63) + low / 2 ^ 63 = ap (λ (t : ℕ). bit_xor t (low / 2 ^ 63)) even ∙ even_xor_bit (high % 2 ^ 63) (low / 2 ^ 63) (omega arith) in
    let front : bit_xor (low * 2 % 2 ^ 64) fold % 256 ≡ bit_xor (low * 2 % 2 ^ 64 % 256) fold = omega arith in
    cons (front ∙ ap₂ bit_xor (let e : low * 2 % 2 ^ 64 % 256 ≡ 2 * (low % 256 % 128) = omega arith in e) (let e : fold ≡ 135 * (high / 72057594037927936 % 256 / 128) = omega arith in e))
    (cons (stepped _ (low / 256 % 256 % 128) (low % 256 / 128) (omega arith) (omega arith))
    (cons (stepped _ (low / 65536 % 256 % 128) (low / 256 % 256 / 128) (omega arith) (omega arith))
    (cons (stepped _ (low / 16777216 % 256 % 128) (low / 65536 % 256 / 128) (omega arith) (omega arith))
    (cons (stepped _ (low / 4294967296 % 256 % 128) (low / 16777216 % 256 / 128) (omega arith) (omega arith))
    (cons (stepped _ (low / 1099511627776 % 256 % 128) (low / 4294967296 % 256 / 128) (omega arith) (omega arith))
    (cons (stepped _ (low / 281474976710656 % 256 % 128) (low / 1099511627776 % 256 / 128) (omega arith) (omega arith))
    (cons (stepped _ (low / 72057594037927936 % 256 % 128) (low / 281474976710656 % 256 / 128) (omega arith) (omega arith))
    (cons (stepped _ (high % 256 % 128) (low / 72057594037927936 % 256 / 128) (omega arith) (omega arith))
    (cons (stepped _ (high / 256 % 256 % 128) (high % 256 / 128) (omega arith) (omega arith))
    (cons (stepped _ (high / 65536 % 256 % 128) (high / 256 % 256 / 128) (omega arith) (omega arith))
    (cons (stepped _ (high / 16777216 % 256 % 128) (high / 65536 % 256 / 128) (omega arith) (omega arith))
    (cons (stepped _ (high / 4294967296 % 256 % 128) (high / 16777216 % 256 / 128) (omega arith) (omega arith))
    (cons (stepped _ (high / 1099511627776 % 256 % 128) (high / 4294967296 % 256 / 128) (omega arith) (omega arith))
    (cons (stepped _ (high / 281474976710656 % 256 % 128) (high / 1099511627776 % 256 / 128) (omega arith) (omega arith))
    (cons (stepped _ (high / 72057594037927936 % 256 % 128) (high / 281474976710656 % 256 / 128) (omega arith) (omega arith)) refl)))))))))))))))
