-- For the contracts inside this crate: a MAC, under the key that it has.
use Rattle.std.specs.Prelude.{◌≡◌, ℕ, ◌++◌, List, replicate, Option, Some, None}
use Rattle.std.specs.Option.{option_map}
use Rattle.std_defs.specs.Aes.{seal}
use Rattle.std_defs.specs.Cmac.{cmac}
use Rattle.std_defs.specs.Hmac.{hmac_under}
use Rattle.std_defs.specs.Value.Value.{bytes}
use Rattle.templates.specs.declared.driver_plans.Plan.{Plan}
use Rattle.sg_walk.specs.Segments.{Segmented}
use Rattle.transforms.specs.Asked.{text_to_join, mac_room}
use Rattle.transforms.specs.Drivers.{driver_of}
use Rattle.transforms.specs.Forms.{key_of, form_of}
use Rattle.transforms.specs.Plans.{form_in, aes_key_in}
use Rattle.transforms.specs.RequestValue.{request_value}
use Rattle.transforms.specs.declared.request.Request.{Request}
use Rattle.transforms.specs.declared.any_aes.AnyAes.{AnyAes}
use Rattle.transforms.specs.declared.any_mac.AnyMac.{AnyMac}
use Rattle.transforms.specs.declared.any_mac.AnyMac.TheVariants.{Hmac, Cmac}

-- room for the MAC of a text: HMAC goes over its segments, and CMAC takes it in one piece
abbrev pub room_in : AnyMac → Segmented → List ℕ
room_in (Hmac block) text = replicate 32 0
room_in (Cmac aes) text = text_to_join text ++ replicate 16 0

-- the MAC of a text
abbrev pub makes_of : AnyMac → List ℕ → List ℕ
makes_of (Hmac block) text = hmac_under block text
makes_of (Cmac aes) text = cmac (seal (key_of aes)) text

-- its cipher, where it has one
abbrev pub aes_of : AnyMac → Option AnyAes
aes_of (Hmac block) = None
aes_of (Cmac aes) = Some aes

-- the MAC is that of the plan under the key
pub record IsMac (m : AnyMac) (p : Plan) (key : List ℕ) : Type 0 where
  pub form : option_map form_of (aes_of m) ≡ form_in p
  pub aes_key : option_map key_of (aes_of m) ≡ aes_key_in p key
  pub room : (text : Segmented) → room_in m text ≡ mac_room p text
  pub gives : (n : ℕ) (q : Request) → bytes (makes_of m q.text.text) ≡ request_value (driver_of p) key n q
