-- ChaCha20-Poly1305 in ESP (RFC 7634, 2): the nonce is the salt and the eight bytes of the packet's IV. The associated
-- bytes that a request gives are those of the standard, and the eight of the IV behind them, which are not authenticated.
use Rattle.std.specs.Prelude.{ℕ, ◌-◌, Bool, nat_le, Option, Some, None, List, ◌++◌, length, take, if◌then◌else◌}
use Rattle.std_defs.specs.ChaCha20Poly1305.{chacha20_poly1305_seal, chacha20_poly1305_open}
use Rattle.std_defs.specs.Value.{Value, or_bad_message}
use Rattle.std_defs.specs.Value.Value.{invalid}

-- the associated bytes that are taken: the IV's eight at least
abbrev pub rfc7634_takes : List ℕ → Bool
rfc7634_takes associated = nat_le 8 (length associated)

-- the associated bytes that are authenticated (2.1)
abbrev pub rfc7634_associated : List ℕ → List ℕ
rfc7634_associated associated = take (length associated - 8) associated

-- the nonce: the salt, and the IV of the packet (2)
abbrev pub rfc7634_nonce : List ℕ → List ℕ → List ℕ
rfc7634_nonce salt iv = salt ++ iv

-- the ciphertext and the tag, where the associated bytes are taken
abbrev pub rfc7634_seal : List ℕ → List ℕ → List ℕ → List ℕ → List ℕ → Option (List ℕ × List ℕ)
rfc7634_seal key salt iv associated text =
    if rfc7634_takes associated
    then Some (chacha20_poly1305_seal key (rfc7634_nonce salt iv) (rfc7634_associated associated) text)
    else None

-- opening, where the length of the associated bytes comes before the tag
abbrev pub rfc7634_open : List ℕ → List ℕ → List ℕ → List ℕ → List ℕ → List ℕ → Value
rfc7634_open key salt iv associated text tag =
    if rfc7634_takes associated
    then or_bad_message (chacha20_poly1305_open key (rfc7634_nonce salt iv) (rfc7634_associated associated) text tag)
    else invalid
