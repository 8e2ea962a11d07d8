-- What of a key seals eight texts in step, and the sealings that it takes.
use Rattle.std.specs.Prelude.{◌≡◌, ◌≤◌, ◌<◌, ◌+◌, ◌^◌, ◌%◌, ◌==◌, Bool, true, ℕ, ◌++◌, List, length, take, drop, replicate, slice_index}
use Rattle.std.specs.Borrow.{Bor}
use Rattle.std.specs.Option.{option_map}
use Rattle.in_step.specs.Pieces.{piece}
use Rattle.in_step.specs.Texts as lanes
use Rattle.std_defs.specs.Aes.{seal}
use Rattle.std_defs.specs.Authenc.{authenc_seal}
use Rattle.std_defs.specs.Modes.{cbc_seal}
use Rattle.std_defs.specs.Value.{Value, or_invalid}
use Rattle.std_defs.specs.Value.Value.{bytes}
use Rattle.transforms.specs.Forms.{key_of}
use Rattle.transforms.specs.InPlace.{sealing}
use Rattle.transforms.specs.Tagged.{tagged}
use Rattle.transforms.specs.declared.any_aes.AnyAes.{AnyAes}
use Rattle.transforms.specs.declared.ask.Ask.{Ask}
use Rattle.transforms.specs.declared.request.Dir.TheVariants.{Enc}
use Rattle.transforms.specs.declared.request.Request.{Request}
use Rattle.jobs_in_step.specs.declared.keys.StepKey.{StepKey}
use Rattle.jobs_in_step.specs.declared.keys.StepKey.TheVariants.{Cbc, Authenc}

-- the value of a request to seal under CBC, or under authenc over it with a tag of n bytes
abbrev pub cbc_gives : AnyAes → ℕ → Request → Value
cbc_gives aes n q = or_invalid (cbc_seal (seal (key_of aes)) q.iv q.text.text)

abbrev pub authenc_gives : List ℕ → AnyAes → ℕ → Request → Value
authenc_gives block aes n q = or_invalid (option_map (tagged n) (authenc_seal block (cbc_seal (seal (key_of aes)) q.iv) q.aad q.text.text))

-- what the buffer of such a request begins with
abbrev pub plain_room : ℕ → Request → List ℕ
plain_room n q = q.text.text

abbrev pub tagged_room : ℕ → Request → List ℕ
tagged_room n q = q.text.text ++ replicate n 0

-- by what is kept of a key
abbrev pub sealed_by : StepKey → ℕ → Request → Value
sealed_by (Cbc mode) = cbc_gives mode.now
sealed_by (Authenc mac mode) = authenc_gives mac.now mode.now

abbrev pub room_by : StepKey → ℕ → Request → List ℕ
room_by (Cbc mode) = plain_room
room_by (Authenc mac mode) = tagged_room

-- a request to seal whole blocks, for a tag of at most 32 bytes
pub record Fits (a : Ask) : Type 0 where
  pub dir : a.request.dir ≡ Enc
  pub iv : length a.request.iv ≡ 16
  pub blocks : length a.request.text.text % 16 ≡ 0
  pub tag : a.authsize ≤ 32

-- the greatest tag
abbrev pub tag_room : StepKey → ℕ
tag_room (Cbc mode) = 0
tag_room (Authenc mac mode) = 32

-- the number of associated bytes is taken: none where there is no tag
abbrev pub takes_associated : StepKey → ℕ → Bool
takes_associated (Cbc mode) n = n == 0
takes_associated (Authenc mac mode) n = true

-- each lane's length is one of whole blocks within its text, and of fewer than 2^63 bytes with the associated bytes; a
-- tag fits behind it
abbrev pub AreFronts : {A : Type 0} → (A → List ℕ) → List ℕ → List (Bor (List ℕ)) → ℕ → List A → Type 0
AreFronts {A} bytes_of lengths aads tag_size texts =
    (n : ℕ) → n < 8
    → (slice_index lengths n % 16 ≡ 0) × (slice_index lengths n ≤ length (lanes.text_in bytes_of texts n)) × (length (piece aads n) + slice_index lengths n < 2 ^ 63)
    × (n < length texts → slice_index lengths n + tag_size ≤ length (lanes.text_in bytes_of texts n))

-- the front of each text, with its tag behind it, is what sealing it gives
abbrev pub AreSealed : {A : Type 0} → (A → List ℕ) → (ℕ → Request → Value)
    → List (List ℕ) → List (Bor (List ℕ)) → List ℕ → ℕ → List A → List A → Type 0
AreSealed {A} bytes_of gives ivs aads lengths tag_size old new =
    (n : ℕ) → n < 8 → n < length old
    → bytes (take (slice_index lengths n + tag_size) (lanes.text_in bytes_of new n))
    ≡ gives tag_size (sealing (lanes.block_in ivs n) (piece aads n) (lanes.front_in bytes_of lengths old n))

-- what stands behind that is as it was
abbrev pub KeepRests : {A : Type 0} → (A → List ℕ) → List ℕ → ℕ → List A → List A → Type 0
KeepRests {A} bytes_of lengths tag_size old new =
    (n : ℕ) → n < 8 → n < length old
    → drop (slice_index lengths n + tag_size) (lanes.text_in bytes_of new n)
    ≡ drop (slice_index lengths n + tag_size) (lanes.text_in bytes_of old n)
