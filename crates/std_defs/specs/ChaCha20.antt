-- ChaCha20 (RFC 8439, 2.1 to 2.4). A word is a number below 2^32, a state sixteen words. A key has 32 bytes, a nonce 12.
use Rattle.std.specs.Prelude.{ℕ, zero, suc, ◌+◌, ◌*◌, ◌/◌, ◌%◌, ◌^◌, List, [], ◌∷◌, length, take, drop, map, slice_index, bit_xor}
use Rattle.std.specs.List.{range_with_len}
use Rattle.std.specs.Int.{w32, from_le_bytes, rotate_left}

-- the sum of two words, modulo 2^32 (2.1)
abbrev pub add32 : ℕ → ℕ → ℕ
add32 x y = (x + y) % 2 ^ 32

-- the xor of two words, rolled to the left by n bits (2.1)
abbrev pub xor_roll : ℕ → ℕ → ℕ → ℕ
xor_roll x y n = rotate_left w32 (bit_xor x y) n

-- the quarter round (2.1)
unfoldable pub quarter_round : ℕ → ℕ → ℕ → ℕ → ℕ × ℕ × ℕ × ℕ
quarter_round a b c d =
    let a1 = add32 a b in
    let d1 = xor_roll d a1 16 in
    let c1 = add32 c d1 in
    let b1 = xor_roll b c1 12 in
    let a2 = add32 a1 b1 in
    let d2 = xor_roll d1 a2 8 in
    let c2 = add32 c1 d2 in
    let b2 = xor_roll b1 c2 7 in
    (a2, b2, c2, d2)

-- the quarter round on words x, y, z and w of a state (2.2)
abbrev pub quarter_round_at : List ℕ → ℕ → ℕ → ℕ → ℕ → ℕ × ℕ × ℕ × ℕ
quarter_round_at state x y z w =
    quarter_round (slice_index state x) (slice_index state y) (slice_index state z) (slice_index state w)

-- the first four quarter rounds, one on each column of the state as rows of four words (2.3)
unfoldable pub column_round : List ℕ → List ℕ
column_round state =
    let q0 = quarter_round_at state 0 4 8 12 in
    let q1 = quarter_round_at state 1 5 9 13 in
    let q2 = quarter_round_at state 2 6 10 14 in
    let q3 = quarter_round_at state 3 7 11 15 in
    q0.0 ∷ q1.0 ∷ q2.0 ∷ q3.0
    ∷ q0.1 ∷ q1.1 ∷ q2.1 ∷ q3.1
    ∷ q0.2 ∷ q1.2 ∷ q2.2 ∷ q3.2
    ∷ q0.3 ∷ q1.3 ∷ q2.3 ∷ q3.3 ∷ []

-- the other four, one on each diagonal (2.3)
unfoldable pub diagonal_round : List ℕ → List ℕ
diagonal_round state =
    let q0 = quarter_round_at state 0 5 10 15 in
    let q1 = quarter_round_at state 1 6 11 12 in
    let q2 = quarter_round_at state 2 7 8 13 in
    let q3 = quarter_round_at state 3 4 9 14 in
    q0.0 ∷ q1.0 ∷ q2.0 ∷ q3.0
    ∷ q3.1 ∷ q0.1 ∷ q1.1 ∷ q2.1
    ∷ q2.2 ∷ q3.2 ∷ q0.2 ∷ q1.2
    ∷ q1.3 ∷ q2.3 ∷ q3.3 ∷ q0.3 ∷ []

-- the state after that many double rounds (2.3)
unfoldable pub double_rounds : ℕ → List ℕ → List ℕ
double_rounds zero state = state
double_rounds (suc n) state = diagonal_round (column_round (double_rounds n state))

-- the first n words of bytes, each of four with the least significant first (2.3)
unfoldable pub words : ℕ → List ℕ → List ℕ
words n bytes = map (λ i. from_le_bytes w32 (take 4 (drop (4 * i) bytes))) (range_with_len 0 n)

-- the constants, the eight words of a key, the block counter as a word, and the three words of a nonce (2.3)
abbrev pub initial_state : List ℕ → List ℕ → ℕ → List ℕ
initial_state key nonce counter =
    0x61707865 ∷ 0x3320646e ∷ 0x79622d32 ∷ 0x6b206574
    ∷ slice_index key 0 ∷ slice_index key 1 ∷ slice_index key 2 ∷ slice_index key 3
    ∷ slice_index key 4 ∷ slice_index key 5 ∷ slice_index key 6 ∷ slice_index key 7
    ∷ counter % 2 ^ 32 ∷ slice_index nonce 0 ∷ slice_index nonce 1 ∷ slice_index nonce 2 ∷ []

-- word k of the block of a counter, from the words of a key and a nonce: that of the state after twenty rounds, plus
-- that of the state before them (2.3)
unfoldable pub block_word : List ℕ → List ℕ → ℕ → ℕ → ℕ
block_word key nonce counter k =
    let state = initial_state key nonce counter in
    add32 (slice_index (double_rounds 10 state) k) (slice_index state k)

-- byte i of the key stream from a counter on: blocks of 64 bytes, each word's least significant byte first (2.3, 2.4)
unfoldable pub stream_byte : List ℕ → List ℕ → ℕ → ℕ → ℕ
stream_byte key nonce counter i = block_word key nonce (counter + i / 64) (i % 64 / 4) / 256 ^ (i % 4) % 256

-- a text, each byte xor that of the key stream from a counter on: the ciphertext of a plaintext, and the plaintext of a
-- ciphertext (2.4). A text whose counters pass 2^32 - 1 has no value by the standard
unfoldable pub chacha20 : List ℕ → List ℕ → ℕ → List ℕ → List ℕ
chacha20 key nonce counter text =
    map (λ i. bit_xor (slice_index text i) (stream_byte (words 8 key) (words 3 nonce) counter i)) (range_with_len 0 (length text))
