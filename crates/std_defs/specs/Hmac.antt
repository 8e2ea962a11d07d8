-- HMAC (FIPS 198-1) with SHA-256 (FIPS 180-4), whose blocks have 64 bytes. Section numbers are those of FIPS 198-1.
use Rattle.std.specs.Prelude.{ℕ, ◌-◌, nat_lt, if◌then◌else◌, List, ◌++◌, length, replicate, map, bit_xor}
use Rattle.sha2.specs.Sha256.{sha256}

-- the key, or the hash of one that is longer than a block (4, steps 1 and 2)
unfoldable pub short_key : List ℕ → List ℕ
short_key key = if nat_lt 64 (length key) then sha256 key else key

-- K0: the key as a block, with zeros behind it (4, steps 1 to 3)
unfoldable pub block_key : List ℕ → List ℕ
block_key key = short_key key ++ replicate (64 - length (short_key key)) 0

-- a block xor the pad that repeats one byte
unfoldable pub xor_pad : ℕ → List ℕ → List ℕ
xor_pad pad block = map (λ b. bit_xor b pad) block

-- the MAC of a message under a block K0: H((K0 xor opad) || H((K0 xor ipad) || text)) (4, steps 4 to 9)
unfoldable pub hmac_under : List ℕ → List ℕ → List ℕ
hmac_under block message = sha256 (xor_pad 0x5c block ++ sha256 (xor_pad 0x36 block ++ message))

-- the MAC of a message under a key
abbrev pub hmac : List ℕ → List ℕ → List ℕ
hmac key message = hmac_under (block_key key) message
