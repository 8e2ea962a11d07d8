-- CMAC (NIST SP 800-38B) over the forward cipher function of a key, which takes blocks of sixteen bytes to such blocks.
-- Section numbers and letters are the standard's.
use Rattle.std.specs.Prelude.{ℕ, zero, suc, ◌-◌, ◌*◌, ◌/◌, ◌%◌, ◌^◌, ◌==◌, nat_lt, if◌then◌else◌, List, ◌∷◌, ◌++◌, length, drop, replicate, bit_xor}
use Rattle.std_defs.specs.Blocks.{block_number, block_bytes, xor_blocks, text_block}
use Rattle.std_defs.specs.Gcm.{BlockFunction}

-- the block of zeros
abbrev pub zero_block : List ℕ
zero_block = replicate 16 0

-- the chain from a block on: each next one is the cipher of the one before xor the next block of the bytes
unfoldable pub chained : BlockFunction → List ℕ → List ℕ → ℕ → List ℕ
chained cipher start bytes zero = start
chained cipher start bytes (suc i) = cipher (xor_blocks (chained cipher start bytes i) (text_block bytes i))

-- the number of a block, shifted by one bit to the left; where a 1 falls out, R is added (6.1, steps 2 and 3)
unfoldable pub doubled : ℕ → ℕ
doubled block = if nat_lt block (2 ^ 127) then 2 * block else bit_xor (2 * block % 2 ^ 128) 0x87

-- the subkeys: L is the cipher of the block of zeros, and each of K1 and K2 is the one before it doubled (6.1)
unfoldable pub cmac_k1 : BlockFunction → ℕ
cmac_k1 cipher = doubled (block_number (cipher zero_block))

unfoldable pub cmac_k2 : BlockFunction → ℕ
cmac_k2 cipher = doubled (cmac_k1 cipher)

-- the last block M n of a message, from its last bytes, of which there are 1 to 16, or none where the message has none:
-- whole ones are added to K1; behind others come a 1 and zeros, and the block is added to K2 (6.2, step 4)
unfoldable pub cmac_last : BlockFunction → List ℕ → List ℕ
cmac_last cipher bytes =
    if length bytes == 16 then xor_blocks bytes (block_bytes (cmac_k1 cipher))
    else xor_blocks (bytes ++ 0x80 ∷ replicate (15 - length bytes) 0) (block_bytes (cmac_k2 cipher))

-- how many blocks stand before the last (6.2, step 2)
abbrev pub cmac_before_last : List ℕ → ℕ
cmac_before_last message = (length message - 1) / 16

-- the MAC, of sixteen bytes (6.2)
unfoldable pub cmac : BlockFunction → List ℕ → List ℕ
cmac cipher message =
    let n = cmac_before_last message in
    cipher (xor_blocks (chained cipher zero_block message n) (cmac_last cipher (drop (16 * n) message)))
