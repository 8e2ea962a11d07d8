-- XTS (IEEE Std 1619) over two cipher functions on blocks of sixteen bytes: that of Key1, forward or inverse, and the
-- forward one of Key2, which makes the tweaks. Section numbers are the standard's, and so are the letters: a data unit
-- of m whole blocks and b further bytes (bits, in the standard), and its tweak value i, of sixteen bytes.
use Rattle.std.specs.Prelude.{ℕ, zero, suc, ◌-◌, ◌*◌, ◌/◌, ◌%◌, ◌==◌, nat_lt, Option, Some, None, if◌then◌else◌, List, ◌++◌, length, take, drop, map, slice_index, bit_xor}
use Rattle.std.specs.List.{range_with_len}
use Rattle.std_defs.specs.Blocks.{xor_blocks, text_block, joined}

-- ---- the field of 2^128 elements (5.2)

-- a ⊗ α: byte k takes the bit that its neighbour k - 1 loses, and byte 0 takes 135 where byte 15 loses a bit
unfoldable pub times_alpha : List ℕ → List ℕ
times_alpha a =
    map (λ k. bit_xor (2 * (slice_index a k % 128))
    (if k == 0 then 135 * (slice_index a 15 / 128) else slice_index a (k - 1) / 128)) (range_with_len 0 16)

-- a ⊗ α^j
unfoldable pub times_alpha_power : List ℕ → ℕ → List ℕ
times_alpha_power a zero = a
times_alpha_power a (suc j) = times_alpha (times_alpha_power a j)

-- ---- one block (5.3.1, 5.4.1)

-- the block, T added before the cipher function and after it, where T is the first tweak ⊗ α^j
unfoldable pub xts_block : (List ℕ → List ℕ) → List ℕ → ℕ → List ℕ → List ℕ
xts_block cipher first j block =
    let t = times_alpha_power first j in
    xor_blocks (cipher (xor_blocks block t)) t

-- ---- a data unit (5.3.2, 5.4.2)

-- each of the first n blocks of a text, under its own tweak
abbrev pub xts_blocks : (ℕ → List ℕ → List ℕ) → List ℕ → ℕ → List ℕ
xts_blocks block text n = joined (λ q. block q (text_block text q)) n

-- ciphertext stealing, in the last whole block and the b bytes behind it: of the block CC that the whole block becomes,
-- the first b bytes go behind; the b bytes and the rest of CC make the block that is enciphered in its place
unfoldable pub with_stealing : (List ℕ → List ℕ) → (List ℕ → List ℕ) → List ℕ → List ℕ
with_stealing first second text =
    let b = length text - 16 in
    let cc = first (take 16 text) in
    second (drop 16 text ++ drop b cc) ++ take b cc

-- the data unit, where the last whole block is under tweak `last` first and its place under tweak `place` then
unfoldable pub xts_unit : (ℕ → List ℕ → List ℕ) → ℕ → ℕ → List ℕ → List ℕ
xts_unit block last place text =
    let m = length text / 16 in
    if length text % 16 == 0 then xts_blocks block text m
    else xts_blocks block text (m - 1) ++ with_stealing (block last) (block place) (drop (16 * (m - 1)) text)

-- a data unit has 16 bytes or more (5.1)
abbrev pub of_a_block_or_more : List ℕ → List ℕ → Option (List ℕ)
of_a_block_or_more text made = if nat_lt (length text) 16 then None else Some made

-- encryption: the last whole block is under its own tweak m - 1, and what stands in its place then under tweak m
-- (5.3.2)
unfoldable pub xts_seal : (List ℕ → List ℕ) → (List ℕ → List ℕ) → List ℕ → List ℕ → Option (List ℕ)
xts_seal sealed tweak_sealed i text =
    let m = length text / 16 in
    of_a_block_or_more text (xts_unit (xts_block sealed (tweak_sealed i)) (m - 1) m text)

-- decryption, by the inverse cipher function of Key1: the other way round (5.4.2)
unfoldable pub xts_unseal : (List ℕ → List ℕ) → (List ℕ → List ℕ) → List ℕ → List ℕ → Option (List ℕ)
xts_unseal unsealed tweak_sealed i text =
    let m = length text / 16 in
    of_a_block_or_more text (xts_unit (xts_block unsealed (tweak_sealed i)) m (m - 1) text)
