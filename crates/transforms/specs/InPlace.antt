-- Requests whose bytes lie where their caller has them.
use Rattle.std.specs.Prelude.{◌≡◌, ◌⊎◌, ◌++◌, ℕ, Bool, true, false, List, [], length}
use Rattle.std_defs.specs.Value.{Value}
use Rattle.std_defs.specs.Value.Value.{bad_message, invalid}
use Rattle.kc_base.specs.declared.error_numbers.Errno.{Errno}
use Rattle.kc_base.specs.declared.error_numbers.Errno.TheVariants.{EINVAL, EBADMSG}
use Rattle.templates.specs.declared.driver_plans.Plan.{Plan}
use Rattle.templates.specs.declared.driver_plans.Plan.TheVariants.{Hmac, Cmac}
use Rattle.transforms.specs.Asked.{takes, kind_takes}
use Rattle.transforms.specs.Cuts.{in_one}
use Rattle.transforms.specs.Drivers.{driver_of}
use Rattle.transforms.specs.Keys.{kind_in, takes_input_in, takes_tag_in, iv_size_in, mac_room_in, gives_in}
use Rattle.transforms.specs.Plans.{fits_kind}
use Rattle.transforms.specs.RequestValue.{request_value}
use Rattle.transforms.specs.declared.inner.Inner.{Inner}
use Rattle.transforms.specs.declared.request.Dir.TheVariants.{Enc, Dec, Mac}
use Rattle.transforms.specs.declared.request.Request.{Request}

-- to seal a text, to open a text, to open one under the tag behind it, and to make the MAC of a text
abbrev pub sealing : List ℕ → List ℕ → List ℕ → Request
sealing iv aad text = record { dir = Enc; iv = iv; aad = aad; text = in_one text }

abbrev pub unsealing : List ℕ → List ℕ → List ℕ → Request
unsealing iv aad text = record { dir = Dec; iv = iv; aad = aad; text = in_one text }

abbrev pub opening : List ℕ → List ℕ → List ℕ → List ℕ → Request
opening iv aad text tag = unsealing iv aad (text ++ tag)

abbrev pub making : List ℕ → Request
making text = record { dir = Mac; iv = []; aad = []; text = in_one text }

-- the bytes of a MAC
abbrev pub mac_size : Plan → ℕ
mac_size Hmac = 32
mac_size (Cmac aes) = 16
mac_size _ = 0

-- under a plan and a key, for a tag of n bytes: the request is taken, and that is its value
abbrev pub HasValue : Plan × List ℕ → ℕ → Request → Value → Type 0
HasValue keyed n q value = (takes keyed.0 n q ≡ true) × (request_value (driver_of keyed.0) keyed.1 n q ≡ value)

-- it isn't taken, or its value is a refusal
abbrev pub IsInvalid : Plan × List ℕ → ℕ → Request → Type 0
IsInvalid keyed n q = (takes keyed.0 n q ≡ false) ⊎ HasValue keyed n q invalid

-- the tag is wrong, or the request is invalid
abbrev pub IsRefused : Errno → Plan × List ℕ → ℕ → Request → Type 0
IsRefused e keyed n q = ((e ≡ EBADMSG) × HasValue keyed n q bad_message) ⊎ ((e ≡ EINVAL) × IsInvalid keyed n q)

-- For the contracts inside this crate: the same of what is kept of a key.
abbrev pub takes_in : Inner → ℕ → Request → Bool
takes_in inner n q = kind_takes (kind_in inner) (takes_input_in inner) (iv_size_in inner) n q

abbrev pub fits_tag_in : Inner → ℕ → Bool
fits_tag_in inner n = fits_kind (kind_in inner) (takes_tag_in inner n) n

abbrev pub HasValueIn : Inner → ℕ → Request → Value → Type 0
HasValueIn inner n q value = (takes_in inner n q ≡ true) × (gives_in inner n q ≡ value)

abbrev pub IsInvalidIn : Inner → ℕ → Request → Type 0
IsInvalidIn inner n q = (takes_in inner n q ≡ false) ⊎ HasValueIn inner n q invalid

abbrev pub IsRefusedIn : Errno → Inner → ℕ → Request → Type 0
IsRefusedIn e inner n q = ((e ≡ EBADMSG) × HasValueIn inner n q bad_message) ⊎ ((e ≡ EINVAL) × IsInvalidIn inner n q)

-- the bytes of the MAC
abbrev pub mac_size_in : Inner → ℕ
mac_size_in inner = length (mac_room_in inner (in_one []))
