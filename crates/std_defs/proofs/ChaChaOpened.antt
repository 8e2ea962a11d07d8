-- ChaCha20 over a text: byte by byte, and twice. Opening undoes sealing.
use Rattle.std.proofs.Common.{◌≡◌, ℕ, zero, ◌<◌, Bool, cond, sym, ap, ◌∙◌, arith, List, length, slice_index, Some, None, bit_xor, zero-add}
use Rattle.std.specs.Int.Bits.{xor_zero_r, xor_self, xor_assoc}
use Rattle.std.proofs.lemmas.List.FromFn.{fill_by_all, get_or-map-range_with_len, length-map-range_with_len}
use Rattle.std.proofs.lemmas.Slice.Eq.{bytes_eq-Decides}
use Rattle.std_defs.specs.ChaCha20.{chacha20, stream_byte, words}
use Rattle.std_defs.specs.ChaCha20Poly1305.{chacha20_poly1305_tag, chacha20_poly1305_text, chacha20_poly1305_open}

-- byte i of the key stream of bytes
abbrev pub key_stream : List ℕ → List ℕ → ℕ → ℕ → ℕ
key_stream key nonce counter i = stream_byte (words 8 key) (words 3 nonce) counter i

-- a text each of whose bytes is the other's under the key stream
pub chacha20-all : (key nonce : List ℕ) (counter : ℕ) (new old : List ℕ) → length new ≡ length old
    → ((i : ℕ) → i < length old → slice_index new i ≡ bit_xor (slice_index old i) (key_stream key nonce counter i))
    → new ≡ chacha20 key nonce counter old
unfolding chacha20
chacha20-all key nonce counter new old long done =
    fill_by_all (λ i. bit_xor (slice_index old i) (key_stream key nonce counter i)) new (length old) 0 long (λ k h. done k (omega arith))

pub length-chacha20 : (key nonce : List ℕ) (counter : ℕ) (text : List ℕ) → length (chacha20 key nonce counter text) ≡ length text
unfolding chacha20
length-chacha20 key nonce counter text =
    length-map-range_with_len (λ i. bit_xor (slice_index text i) (key_stream key nonce counter i)) 0 (length text)

pub chacha20-at : (key nonce : List ℕ) (counter : ℕ) (text : List ℕ) (k : ℕ) → k < length text
    → slice_index (chacha20 key nonce counter text) k ≡ bit_xor (slice_index text k) (key_stream key nonce counter k)
unfolding chacha20
chacha20-at key nonce counter text k h =
    get_or-map-range_with_len (λ i. bit_xor (slice_index text i) (key_stream key nonce counter i)) 0 (length text) k k zero h (zero-add k)

xor_twice : (a b : ℕ) → a ≡ bit_xor (bit_xor a b) b
xor_twice a b = sym (xor_assoc a b b ∙ ap (bit_xor a) (xor_self b) ∙ xor_zero_r a)

-- the same stream a second time gives the text back
pub chacha20-twice : (key nonce : List ℕ) (counter : ℕ) (text : List ℕ) → chacha20 key nonce counter (chacha20 key nonce counter text) ≡ text
chacha20-twice key nonce counter text =
    sym (chacha20-all key nonce counter text (chacha20 key nonce counter text) (sym (length-chacha20 key nonce counter text))
    (λ k h. xor_twice (slice_index text k) (key_stream key nonce counter k)
    ∙ ap (λ (t : ℕ). bit_xor t (key_stream key nonce counter k)) (sym (chacha20-at key nonce counter text k (omega (arith, length-chacha20 key nonce counter text))))))

-- the sealed text opens under its tag
pub chacha20_poly1305_open-seal : (key nonce associated text sealed tag : List ℕ)
    → sealed ≡ chacha20_poly1305_text key nonce text → tag ≡ chacha20_poly1305_tag key nonce associated sealed
    → chacha20_poly1305_open key nonce associated sealed tag ≡ Some text
unfolding chacha20_poly1305_open chacha20_poly1305_text
chacha20_poly1305_open-seal key nonce associated text sealed tag is_sealed is_tag =
    ap (λ (b : Bool). cond b (Some (chacha20 key nonce 1 sealed)) None)
    ((bytes_eq-Decides (chacha20_poly1305_tag key nonce associated sealed) tag).1 (sym is_tag))
    ∙ ap (λ (t : List ℕ). Some t) (ap (chacha20 key nonce 1) is_sealed ∙ chacha20-twice key nonce 1 text)
