-- CCM (NIST SP 800-38C) over the forward cipher function of a key, with the formatting of its appendix A. Section
-- numbers and letters are the standard's: t is the tag's length in bytes, q that of the field of the text's length. An
-- IV has sixteen bytes: q - 1, the nonce N of 15 - q bytes, and bytes that aren't used.
use Rattle.std.specs.Prelude.{ℕ, ◌+◌, ◌-◌, ◌*◌, ◌/◌, ◌==◌, ◌&&◌, ◌||◌, nat_le, Bool, Option, Some, None, if◌then◌else◌, List, [], ◌∷◌, ◌++◌, length, take, drop, slice_index, bytes_eq}
use Rattle.std.specs.Int.{bytes_high_first}
use Rattle.std_defs.specs.Blocks.{xor_blocks, with_stream}
use Rattle.std_defs.specs.Gcm.{BlockFunction, padded}
use Rattle.std_defs.specs.Cmac.{zero_block, chained}
use Rattle.std_defs.specs.Value.{Value}
use Rattle.std_defs.specs.Value.Value.{bytes, bad_message, invalid}

-- q is 2 to 8 (A.1)
abbrev pub ccm_takes_iv : List ℕ → Bool
ccm_takes_iv iv = nat_le 1 (slice_index iv 0) && nat_le (slice_index iv 0) 7

-- t is even, and 4 to 16 (A.1)
abbrev pub ccm_takes_tag : ℕ → Bool
ccm_takes_tag t = t == 4 || t == 6 || t == 8 || t == 10 || t == 12 || t == 14 || t == 16

abbrev pub ccm_q : List ℕ → ℕ
ccm_q iv = slice_index iv 0 + 1

abbrev pub ccm_nonce : List ℕ → List ℕ
ccm_nonce iv = take (15 - ccm_q iv) (drop 1 iv)

-- ---- the blocks that the tag authenticates (A.2)

-- the flags: whether there are associated bytes, (t - 2) / 2 and q - 1, in bits 6, 5 to 3 and 2 to 0 (A.2.1)
abbrev pub ccm_flags : ℕ → List ℕ → List ℕ → ℕ
ccm_flags t iv associated = (if length associated == 0 then 0 else 64) + 8 * ((t - 2) / 2) + (ccm_q iv - 1)

-- B 0: the flags, the nonce and the text's length in q bytes (A.2.1)
unfoldable pub ccm_first_block : ℕ → List ℕ → List ℕ → List ℕ → List ℕ
ccm_first_block t iv associated text = ccm_flags t iv associated ∷ ccm_nonce iv ++ bytes_high_first (ccm_q iv) (length text)

-- associated bytes, where there are any: their length in two bytes and they themselves, and zeros to whole blocks.
-- There are fewer than 2^16 - 2^8 of them (A.2.2).
unfoldable pub ccm_associated : List ℕ → List ℕ
ccm_associated associated = if length associated == 0 then [] else padded (bytes_high_first 2 (length associated) ++ associated)

-- B 0, B 1 and so on, the one behind the other
unfoldable pub ccm_formatted : ℕ → List ℕ → List ℕ → List ℕ → List ℕ
ccm_formatted t iv associated text = ccm_first_block t iv associated text ++ ccm_associated associated ++ padded text

-- Y r, the last of the chain over them (6.1, steps 2 and 3)
unfoldable pub ccm_chained : BlockFunction → ℕ → List ℕ → List ℕ → List ℕ → List ℕ
ccm_chained cipher t iv associated text =
    let formatted = ccm_formatted t iv associated text in
    chained cipher zero_block formatted (length formatted / 16)

-- ---- the counter blocks (A.3)

-- Ctr i: q - 1, the nonce and i in q bytes
unfoldable pub ccm_counter : List ℕ → ℕ → List ℕ
ccm_counter iv i = (ccm_q iv - 1) ∷ ccm_nonce iv ++ bytes_high_first (ccm_q iv) i

-- ---- sealing and opening

-- the text xor S 1, S 2 and so on, the ciphers of the counter blocks: the ciphertext of a plaintext (6.1, step 8), and
-- the plaintext of a ciphertext (6.2, step 5)
unfoldable pub ccm_text : BlockFunction → List ℕ → List ℕ → List ℕ
ccm_text cipher iv text = with_stream (λ i. cipher (ccm_counter iv (i + 1))) text

-- the first t bytes of Y r, xor those of S 0, for a plaintext (6.1, steps 4 and 8)
unfoldable pub ccm_tag : BlockFunction → ℕ → List ℕ → List ℕ → List ℕ → List ℕ
ccm_tag cipher t iv associated plaintext =
    take t (xor_blocks (ccm_chained cipher t iv associated plaintext) (cipher (ccm_counter iv 0)))

-- the ciphertext and the tag of a plaintext (6.1), or nothing where the IV isn't taken
unfoldable pub ccm_seal : BlockFunction → ℕ → List ℕ → List ℕ → List ℕ → Option (List ℕ × List ℕ)
ccm_seal cipher t iv associated plaintext =
    if ccm_takes_iv iv then Some (ccm_text cipher iv plaintext, ccm_tag cipher t iv associated plaintext) else None

-- the plaintext of a ciphertext where the tag is its (6.2). An empty one is opened too, as by RFC 3610, where step 1
-- would refuse it.
unfoldable pub ccm_open : BlockFunction → List ℕ → List ℕ → List ℕ → List ℕ → Value
ccm_open cipher iv associated ciphertext tag =
    let plaintext = ccm_text cipher iv ciphertext in
    if ccm_takes_iv iv then (if bytes_eq (ccm_tag cipher (length tag) iv associated plaintext) tag then bytes plaintext else bad_message) else invalid
