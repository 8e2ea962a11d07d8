-- GCM in ESP (RFC 4106): the IV is the salt and eight bytes. The associated bytes that a request gives are those of the
-- standard, 8 or 12, and the eight of the IV behind them, which are not authenticated.
use Rattle.std.specs.Prelude.{ℕ, ◌-◌, ◌==◌, ◌||◌, Bool, Option, Some, None, List, ◌++◌, length, take, if◌then◌else◌}
use Rattle.std_defs.specs.Gcm.{gcm_seal, gcm_open}
use Rattle.std_defs.specs.Value.{Value, or_bad_message}
use Rattle.std_defs.specs.Value.Value.{invalid}

-- the associated bytes that are taken
abbrev pub rfc4106_takes : List ℕ → Bool
rfc4106_takes associated = length associated == 16 || length associated == 20

-- the associated bytes that are authenticated (5)
abbrev pub rfc4106_associated : List ℕ → List ℕ
rfc4106_associated associated = take (length associated - 8) associated

-- the IV of GCM: the salt, and the IV of the packet (4)
abbrev pub rfc4106_iv : List ℕ → List ℕ → List ℕ
rfc4106_iv salt iv = salt ++ iv

-- the lengths of a tag, in bytes (6)
abbrev pub rfc4106_takes_tag : ℕ → Bool
rfc4106_takes_tag n = n == 8 || (n == 12 || n == 16)

-- the ciphertext and the full tag, where the associated bytes are taken
abbrev pub rfc4106_seal : (List ℕ → List ℕ) → List ℕ → List ℕ → List ℕ → List ℕ → Option (List ℕ × List ℕ)
rfc4106_seal cipher salt iv associated text =
    if rfc4106_takes associated then Some (gcm_seal cipher (rfc4106_iv salt iv) (rfc4106_associated associated) text) else None

-- opening, where the length of the associated bytes comes before the tag
abbrev pub rfc4106_open : (List ℕ → List ℕ) → List ℕ → List ℕ → List ℕ → List ℕ → List ℕ → Value
rfc4106_open cipher salt iv associated text tag =
    if rfc4106_takes associated
    then or_bad_message (gcm_open cipher (rfc4106_iv salt iv) (rfc4106_associated associated) text tag)
    else invalid
