-- Several encryptions, each in a buffer that stands beside it.
use Rattle.std.specs.Prelude.{◌≡◌, ◌<◌, ◌≤◌, ◌+◌, ◌%◌, ◌^◌, ℕ, ℤ, pos, true, List, [], length, map, Option, slice_index_or}
use Rattle.jobs_in_step.specs.Steps.{takes_associated}
use Rattle.jobs_in_step.specs.declared.keys.StepKey.{StepKey}
use Rattle.perdoaze_calls.specs.Requests.{EncryptsWithin, OnPlaceTo}
use Rattle.perdoaze_calls.specs.declared.encryption.Encryption.{Encryption}
use Rattle.piece_modes.specs.declared.piece.PieceMut.{PieceMut}
use Rattle.perdoaze_calls.specs.declared.transform.Transform.{Transform}

-- of encryption i
abbrev pub iv_in : List Encryption → ℕ → List ℕ
iv_in asked i = slice_index_or (map (λ e. e.iv.now) asked) i []

abbrev pub aad_in : List Encryption → ℕ → List ℕ
aad_in asked i = slice_index_or (map (λ e. e.aad.now) asked) i []

abbrev pub len_in : List Encryption → ℕ → ℕ
len_in asked i = slice_index_or (map (λ e. e.len) asked) i 0

abbrev pub written_in : List Encryption → ℕ → ℕ
written_in asked i = slice_index_or (map (λ e. e.written) asked) i 0

abbrev pub status_in : List Encryption → ℕ → ℤ
status_in asked i = slice_index_or (map (λ e. e.status) asked) i (pos 0)

-- the bytes of its buffer
abbrev pub bytes_in : List PieceMut → ℕ → List ℕ
bytes_in buffers i = slice_index_or (map (λ p. p.bytes.now) buffers) i []

-- what it is asked: IV, associated bytes and the number of bytes of the text
abbrev pub question_of : Encryption → List ℕ × List ℕ × ℕ
question_of e = (e.iv.now, e.aad.now, e.len)

-- encryption i came to what it comes to by itself
abbrev pub CameTo : Option Transform → List Encryption → List Encryption → List PieceMut → List PieceMut → ℕ → Type 0
CameTo held old new before after i =
    OnPlaceTo held (λ t. EncryptsWithin t (iv_in old i) (aad_in old i) (len_in old i)) (status_in new i) (bytes_in before i) (bytes_in after i) (written_in new i)

-- For the contracts inside this crate: whole blocks under an IV of 16 bytes, and room for the tag behind them.
pub record FitsInStep (key : StepKey) (tag_size : ℕ) (iv aad : List ℕ) (len room : ℕ) : Type 0 where
  pub iv_long : length iv ≡ 16
  pub blocks : len % 16 ≡ 0
  pub short : len < 2 ^ 32
  pub aad_short : length aad < 2 ^ 32
  pub associated : takes_associated key (length aad) ≡ true
  pub fits : len + tag_size ≤ room
