-- What streams hold.
use Rattle.std.specs.Prelude.{◌≡◌, ℕ, ◌%◌, ◌<◌, All, List, ◌++◌, length, take}
use Rattle.std_defs.specs.Blocks.{block_bytes}
use Rattle.std_defs.specs.Gcm.{BlockFunction, hash_subkey, pre_counter_block, inc32, counter_block, gcm_text, padded_blocks}
use Rattle.std_defs.proofs.Horner.{horner}
use Rattle.ctr_mode.specs.Streams.{IsOn}
use Rattle.gcm_mode.specs.declared.byte_hash.ByteHash.{ByteHash}
use Rattle.gcm_mode.specs.declared.stream.GcmBegun.{GcmBegun}
use Rattle.gcm_mode.specs.declared.stream.GcmText.{GcmText}

-- Under the key h, these bytes came behind the value y: their whole blocks are hashed, and the bytes behind stand ready.
pub record Hashed (h y : ℕ) (s : ByteHash) (m : List ℕ) : Type 0 where
  pub whole : List ℕ
  pub blocks : length whole % 16 ≡ 0
  pub cut : m ≡ whole ++ take (s.len % 16) s.rest
  pub hashed : s.hash ≡ horner h y (padded_blocks whole)
  pub len : s.len ≡ length m
  pub bytes : All (λ x. x < 256) m

-- the IV and the associated bytes so far
pub record Begun (h : ℕ) (iv associated : List ℕ) (s : GcmBegun) : Type 0 where
  pub under : s.iv ≡ iv
  pub hash : Hashed h 0 s.associated associated

-- the counter blocks from one on
abbrev pub row : ℕ → ℕ → List ℕ
row x m = block_bytes (counter_block x m)

-- Under this cipher and IV the associated bytes came, then the text, whose ciphertext, made or given, is `sealed`.
pub record Holds (cipher : BlockFunction) (iv associated text sealed : List ℕ) (s : GcmText) : Type 0 where
  pub under : s.iv ≡ iv
  pub associated_len : s.associated_len ≡ length associated
  pub associated_bytes : All (λ x. x < 256) associated
  pub stream : IsOn (row (inc32 (pre_counter_block iv))) 0 (length text) (row s.stream.0.next) s.stream.1
  pub hash : Hashed (hash_subkey cipher) (horner (hash_subkey cipher) 0 (padded_blocks associated)) s.hash sealed

-- a plaintext came, and its ciphertext went out
abbrev pub Seals : BlockFunction → List ℕ → List ℕ → List ℕ → List ℕ → GcmText → Type 0
Seals cipher iv associated text made s = Holds cipher iv associated text made s × (made ≡ gcm_text cipher iv text)

-- a ciphertext came, and its plaintext went out
abbrev pub Unseals : BlockFunction → List ℕ → List ℕ → List ℕ → List ℕ → GcmText → Type 0
Unseals cipher iv associated text made s = Holds cipher iv associated text text s × (made ≡ gcm_text cipher iv text)
