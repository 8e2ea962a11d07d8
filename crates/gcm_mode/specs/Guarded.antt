-- What a stream behind its guard holds, and why it refuses.
use Rattle.std.specs.Prelude.{◌≡◌, ℕ, ◌+◌, ◌-◌, ◌^◌, ◌<◌, ◌≤◌, List, [], length, false, None}
use Rattle.std_defs.specs.Gcm.{BlockFunction, hash_subkey, gcm_text, gcm_open, gcm_takes_tag}
use Rattle.gcm_mode.specs.Streams.{Begun, Holds}
use Rattle.gcm_mode.specs.declared.guarded.Phase.{Phase}
use Rattle.gcm_mode.specs.declared.guarded.Phase.TheVariants.{Associated, Text, Ended}
use Rattle.gcm_mode.specs.declared.guarded.Refusal.{Refusal}
use Rattle.gcm_mode.specs.declared.guarded.Refusal.TheVariants as refusal

-- the greatest numbers of bytes: 2^64 - 1 bits of associated data, and 2^39 - 256 of text (5.2.1.1)
abbrev pub most_associated : ℕ
most_associated = 2 ^ 61 - 1

abbrev pub most_text : ℕ
most_text = 2 ^ 36 - 32

-- these bytes came, and the stream goes on
abbrev pub PhaseHolds : BlockFunction → List ℕ → List ℕ → List ℕ → List ℕ → Phase → Type 0
PhaseHolds cipher iv a t sealed (Associated b) = (t ≡ []) × ((sealed ≡ []) × Begun (hash_subkey cipher) iv a b)
PhaseHolds cipher iv a t sealed (Text s) = Holds cipher iv a t sealed s
PhaseHolds cipher iv a t sealed Ended = ⊥

-- these associated bytes came, then this plaintext, and its ciphertext went out
abbrev pub IsSealing : BlockFunction → List ℕ → List ℕ → List ℕ → List ℕ → Phase → Type 0
IsSealing cipher iv a t made phase = PhaseHolds cipher iv a t made phase × (made ≡ gcm_text cipher iv t)

-- these associated bytes came, then this ciphertext, and its plaintext went out
abbrev pub IsOpening : BlockFunction → List ℕ → List ℕ → List ℕ → List ℕ → Phase → Type 0
IsOpening cipher iv a t made phase = PhaseHolds cipher iv a t t phase × (made ≡ gcm_text cipher iv t)

abbrev pub IsEnded : Phase → Type 0
IsEnded (Associated b) = ⊥
IsEnded (Text s) = ⊥
IsEnded Ended = Unit {0}

abbrev pub IsLive : Phase → Type 0
IsLive (Associated b) = Unit {0}
IsLive (Text s) = Unit {0}
IsLive Ended = ⊥

-- how many bytes of text came
abbrev pub text_in : Phase → ℕ
text_in (Associated b) = 0
text_in (Text s) = s.hash.len
text_in Ended = 0

-- why n more associated bytes are refused
abbrev pub RefusesAssociated : Refusal → Phase → ℕ → Type 0
RefusesAssociated refusal.Ended Ended n = Unit {0}
RefusesAssociated refusal.TooLate (Text s) n = Unit {0}
RefusesAssociated refusal.TooLong (Associated b) n = most_associated < b.associated.len + n
RefusesAssociated _ phase n = ⊥

-- why n more bytes of text are refused
abbrev pub RefusesText : Refusal → Phase → ℕ → Type 0
RefusesText refusal.Ended phase n = IsEnded phase
RefusesText refusal.TooLong phase n = IsLive phase × (most_text < text_in phase + n)
RefusesText _ phase n = ⊥

abbrev pub has_ended : Refusal
has_ended = refusal.Ended

-- why a tag is refused
abbrev pub RefusesTag : Refusal → BlockFunction → Phase → List ℕ → Type 0
RefusesTag refusal.Ended cipher phase tag = IsEnded phase
RefusesTag refusal.TagLength cipher phase tag = IsLive phase × (gcm_takes_tag (length tag) ≡ false)
RefusesTag refusal.WrongTag cipher phase tag =
    IsLive phase × ((iv a t made : List ℕ) → IsOpening cipher iv a t made phase → gcm_open cipher iv a t tag ≡ None)
RefusesTag _ cipher phase tag = ⊥
