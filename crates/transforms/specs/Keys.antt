-- For the contracts inside this crate: what is kept of a key, under a plan.
use Rattle.std.specs.Prelude.{◌≡◌, ℕ, Bool, true, false, List, [], Option}
use Rattle.std.specs.Option.{option_map}
use Rattle.std_defs.specs.Value.{Value}
use Rattle.std_defs.specs.Value.Value.{bytes}
use Rattle.templates.specs.declared.driver_plans.Plan.{Plan}
use Rattle.transforms.specs.Ciphers as ciphers
use Rattle.transforms.specs.Aeads as aeads
use Rattle.transforms.specs.Macs as macs
use Rattle.sg_walk.specs.Segments.{Segmented}
use Rattle.transforms.specs.Asked.{TakesInput, mac_room}
use Rattle.transforms.specs.Drivers.{driver_of}
use Rattle.transforms.specs.Forms.{key_of, form_of}
use Rattle.transforms.specs.Modes.{cipher_value, aead_value}
use Rattle.transforms.specs.Plans.{PlanKind, kind_of, form_in, aes_key_in, iv_size, takes_tag, takes_input}
use Rattle.transforms.specs.Plans.PlanKind.{skcipher, mac, aead}
use Rattle.transforms.specs.RequestValue.{request_value}
use Rattle.transforms.specs.declared.request.Request.{Request}
use Rattle.transforms.specs.declared.any_aes.AnyAes.{AnyAes}
use Rattle.transforms.specs.declared.inner.Inner.{Inner}
use Rattle.transforms.specs.declared.inner.Inner.TheVariants.{Skcipher, Mac, Aead}

abbrev pub kind_in : Inner → PlanKind
kind_in (Skcipher c) = skcipher
kind_in (Mac m) = mac
kind_in (Aead a) = aead

abbrev pub aes_in : Inner → Option AnyAes
aes_in (Skcipher c) = ciphers.aes_of c
aes_in (Mac m) = macs.aes_of m
aes_in (Aead a) = aeads.aes_of a

abbrev pub iv_size_in : Inner → ℕ
iv_size_in (Skcipher c) = ciphers.iv_size_of c
iv_size_in (Mac m) = 0
iv_size_in (Aead a) = aeads.iv_size_of a

abbrev pub takes_tag_in : Inner → ℕ → Bool
takes_tag_in (Skcipher c) n = false
takes_tag_in (Mac m) n = false
takes_tag_in (Aead a) n = aeads.takes_tag_of a n

abbrev pub takes_input_in : Inner → TakesInput
takes_input_in (Skcipher c) iv associated text = true
takes_input_in (Mac m) iv associated text = true
takes_input_in (Aead a) iv associated text = aeads.takes_input_of a iv associated text

abbrev pub mac_room_in : Inner → Segmented → List ℕ
mac_room_in (Skcipher c) text = []
mac_room_in (Mac m) text = macs.room_in m text
mac_room_in (Aead a) text = []

-- what it gives for a tag size and a request
abbrev pub gives_in : Inner → ℕ → Request → Value
gives_in (Skcipher c) n q = cipher_value (ciphers.seals_of c) (ciphers.unseals_of c) q
gives_in (Mac m) n q = bytes (macs.makes_of m q.text.text)
gives_in (Aead a) n q = aead_value (aeads.seals_of a) (aeads.opens_of a) n q

-- it is the plan's under the key: of the same kind, with the same AES, and it gives the value of each request
pub record IsKeyed (inner : Inner) (p : Plan) (key : List ℕ) : Type 0 where
  pub kind : kind_in inner ≡ kind_of p
  pub form : option_map form_of (aes_in inner) ≡ form_in p
  pub aes_key : option_map key_of (aes_in inner) ≡ aes_key_in p key
  pub iv : iv_size_in inner ≡ iv_size p
  pub tags : (n : ℕ) → takes_tag_in inner n ≡ takes_tag p n
  pub input : takes_input_in inner ≡ takes_input p
  pub mac_room : (text : Segmented) → mac_room_in inner text ≡ mac_room p text
  pub gives : (n : ℕ) (q : Request) → gives_in inner n q ≡ request_value (driver_of p) key n q
