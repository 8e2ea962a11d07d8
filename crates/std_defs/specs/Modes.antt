-- CBC and CTR (NIST SP 800-38A) over the forward and the inverse cipher function of a key, which take blocks of sixteen
-- bytes to such blocks. Section numbers are the standard's. Block j of a text, counted from 0, is its block j + 1.
use Rattle.std.specs.Prelude.{ℕ, zero, suc, ◌+◌, ◌/◌, ◌%◌, ◌^◌, ◌==◌, Option, Some, None, if◌then◌else◌, List, [], ◌∷◌, ◌++◌, length}
use Rattle.std_defs.specs.Blocks.{block_number, block_bytes, xor_blocks, text_block, joined, with_stream}

-- ---- CBC (6.2)

-- C j of a plaintext: the IV stands for C 0, and each further one is the cipher of the plaintext block xor the one
-- before
unfoldable pub cbc_block : (List ℕ → List ℕ) → List ℕ → List ℕ → ℕ → List ℕ
cbc_block sealed iv text zero = iv
cbc_block sealed iv text (suc j) = sealed (xor_blocks (text_block text j) (cbc_block sealed iv text j))

-- C j of a ciphertext, where the IV stands for C 0
unfoldable pub cbc_before : List ℕ → List ℕ → ℕ → List ℕ
cbc_before iv text zero = iv
cbc_before iv text (suc j) = text_block text j

-- P (j + 1) of a ciphertext: the inverse cipher of C (j + 1), xor C j
unfoldable pub cbc_plain_block : (List ℕ → List ℕ) → List ℕ → List ℕ → ℕ → List ℕ
cbc_plain_block unsealed iv text j = xor_blocks (unsealed (text_block text j)) (cbc_before iv text j)

-- only whole blocks are taken (5.2); no block at all is whole
abbrev pub of_whole_blocks : List ℕ → List ℕ → Option (List ℕ)
of_whole_blocks text made = if length text % 16 == 0 then Some made else None

-- the ciphertext of a plaintext, and the plaintext of a ciphertext
abbrev pub cbc_seal : (List ℕ → List ℕ) → List ℕ → List ℕ → Option (List ℕ)
cbc_seal sealed iv text = of_whole_blocks text (joined (λ j. cbc_block sealed iv text (suc j)) (length text / 16))

abbrev pub cbc_unseal : (List ℕ → List ℕ) → List ℕ → List ℕ → Option (List ℕ)
cbc_unseal unsealed iv text = of_whole_blocks text (joined (cbc_plain_block unsealed iv text) (length text / 16))

-- ---- CTR (6.5)

-- the output blocks: the ciphers of the counter block t and of those after it, each one more than the one before as a
-- number, modulo 2^128 (B.1)
unfoldable pub ctr_stream : (List ℕ → List ℕ) → ℕ → ℕ → List ℕ
ctr_stream sealed t j = sealed (block_bytes ((t + j) % 2 ^ 128))

-- the text, each byte xor that of the output blocks from the counter block t on: the ciphertext of a plaintext, and the
-- plaintext of a ciphertext
abbrev pub ctr : (List ℕ → List ℕ) → List ℕ → List ℕ → List ℕ
ctr sealed t text = with_stream (ctr_stream sealed (block_number t)) text

-- the first counter block of a text: the nonce, the IV and a block counter of 1 (RFC 3686, 4). `ctr` counts on from it
-- over all 128 bits, as the kernel does. The RFC's counter has 32, so beyond 2^32 - 1 blocks under one IV this isn't
-- the RFC's, and runs into the next IV's blocks
abbrev pub rfc3686_counter : List ℕ → List ℕ → List ℕ
rfc3686_counter nonce iv = nonce ++ iv ++ 0 ∷ 0 ∷ 0 ∷ 1 ∷ []
