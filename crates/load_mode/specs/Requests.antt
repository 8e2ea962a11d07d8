-- The requests of a load, and the line that it writes: both from the seed and the count alone.
use Rattle.std.specs.Prelude.{ℕ, zero, suc, ◌+◌, ◌*◌, ◌%◌, ◌==◌, Bool, not, if◌then◌else◌, List, [], ◌∷◌, ◌++◌, codes, filter, replicate, take}
use Rattle.std.specs.Fmt.{decimal}
use Rattle.std.specs.List.{flat_map}
use Rattle.std.specs.Option.{option_map_or}
use Rattle.hex.specs.Hex.{encode_lower}
use Rattle.rand_xoshiro.specs.SplitMix64.{mix_u64}
use Rattle.sha2.specs.Sha256.{sha256}
use Rattle.std_defs.specs.Aes.{seal}
use Rattle.std_defs.specs.Gcm.{gcm_seal}
use Rattle.std_defs.specs.Hmac.{hmac}
use Rattle.std_defs.specs.Modes.{cbc_seal}
use Rattle.generator.specs.Draws.{drawn}
use Rattle.templates.specs.declared.driver_plans.AesForm.TheVariants.{AesGeneric}
use Rattle.templates.specs.declared.driver_plans.GhashForm.TheVariants.{GhashGeneric}
use Rattle.templates.specs.declared.driver_plans.Plan.TheVariants.{AuthencCbc, Gcm}
use Rattle.transforms.specs.Cuts.{in_one}
use Rattle.transforms.specs.declared.request.Dir.TheVariants.{Enc}
use Rattle.transforms.specs.declared.request.Request.{Request}
use Rattle.transforms.specs.Tagged.{tagged}
use Rattle.dialogues.specs.BoardCalls.{Asked}
use Rattle.dialogues.specs.RequestCommands.{request_of}

-- ---- draws

-- the bytes of one request, and the state of the generator after them
pub record Drawn : Type 0 where
  pub iv : List ℕ
  pub associated : List ℕ
  pub text : List ℕ
  pub after : ℕ

-- A draw says how many blocks of 16 bytes the text has, 1 to 16. Then come two draws for the IV, one for 8 associated
-- bytes, and two for each block.
abbrev pub drawn_request : ℕ → Drawn
drawn_request state =
    let size = mix_u64 state in
    let iv = drawn size.1 16 in
    let associated = drawn iv.1 8 in
    let text = drawn associated.1 (16 * (1 + size.0 % 16)) in
    record { iv = iv.0; associated = associated.0; text = text.0; after = text.1 }

abbrev pub drawn_requests : ℕ → ℕ → List Drawn
drawn_requests state zero = []
drawn_requests state (suc more) = drawn_request state ∷ drawn_requests (drawn_request state).after more

-- ---- requests: those of even numbers on `a`, which is `pcrypt(authenc(hmac(sha256),cbc(aes)))`, and the others on
-- `g`, which is `pcrypt(gcm(aes))`

abbrev pub cipher_key : List ℕ
cipher_key = replicate 16 0

abbrev pub mac_key : List ℕ
mac_key = replicate 20 11

-- the header of eight bytes, which ends with the length of the cipher's key
abbrev pub key_of_a : List ℕ
key_of_a = (8 ∷ 0 ∷ 1 ∷ 0 ∷ 0 ∷ 0 ∷ 0 ∷ 16 ∷ []) ++ mac_key ++ cipher_key

abbrev pub is_on_a : ℕ → Bool
is_on_a number = number % 2 == 0

abbrev pub asked_on_a : ℕ → Drawn → Asked
asked_on_a number d =
    record { plan = AuthencCbc AesGeneric; key = key_of_a; tag_size = 32; request = request_of Enc d.iv d.associated (in_one d.text); client = 0; line = number }

-- with the first 12 bytes of the IV
abbrev pub asked_on_g : ℕ → Drawn → Asked
asked_on_g number d =
    record { plan = Gcm AesGeneric GhashGeneric; key = cipher_key; tag_size = 16; request = request_of Enc (take 12 d.iv) d.associated (in_one d.text); client = 0; line = number }

abbrev pub asked_for : ℕ → Drawn → Asked
asked_for number d = if is_on_a number then asked_on_a number d else asked_on_g number d

abbrev pub asked_from : ℕ → List Drawn → List Asked
asked_from number [] = []
asked_from number (d ∷ ds) = asked_for number d ∷ asked_from (number + 1) ds

-- all of them, in order
abbrev pub load_requests : ℕ → ℕ → List Asked
load_requests seed count = asked_from 0 (drawn_requests seed count)

abbrev pub of_a : List Asked → List Asked
of_a asks = filter (λ (asked : Asked). is_on_a asked.line) asks

abbrev pub of_g : List Asked → List Asked
of_g asks = filter (λ (asked : Asked). not (is_on_a asked.line)) asks

-- ---- their values

-- the ciphertext by CBC (SP 800-38A, 6.2), and HMAC (FIPS 198-1) of the associated bytes and it
abbrev pub with_hmac : List ℕ → List ℕ → List ℕ
with_hmac associated ciphertext = ciphertext ++ take 32 (hmac mac_key (associated ++ ciphertext))

abbrev pub sealed_on_a : Request → List ℕ
sealed_on_a q = option_map_or (with_hmac q.aad) (cbc_seal (seal cipher_key) q.iv q.text.text) []

-- the ciphertext by GCM and its tag (SP 800-38D, 7.1)
abbrev pub sealed_on_g : Request → List ℕ
sealed_on_g q = tagged 16 (gcm_seal (seal cipher_key) q.iv q.aad q.text.text)

-- ---- the line

-- the hash of the values of `a` in order, and then of those of `g`
abbrev pub digest_of : List Asked → List ℕ
digest_of asks =
    sha256 (flat_map (λ (asked : Asked). sealed_on_a asked.request) (of_a asks) ++ flat_map (λ (asked : Asked). sealed_on_g asked.request) (of_g asks))

abbrev pub line_of : ℕ → List ℕ → List ℕ
line_of count digest = codes "load " ++ decimal count ++ codes " " ++ encode_lower digest ++ codes "\n"

-- `load COUNT HEX`
unfoldable pub load_line : ℕ → ℕ → List ℕ
load_line seed count = line_of count (digest_of (load_requests seed count))
