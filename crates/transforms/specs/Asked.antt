-- The requests that are taken, and the bytes that a job begins with.
use Rattle.std.specs.Prelude.{ℕ, ◌++◌, ◌-◌, ◌==◌, ◌&&◌, nat_le, Bool, false, if◌then◌else◌, List, [], length, replicate}
use Rattle.sg_walk.specs.Segments.{Segmented}
use Rattle.templates.specs.declared.driver_plans.Plan.{Plan}
use Rattle.templates.specs.declared.driver_plans.Plan.TheVariants.{Hmac, Cmac}
use Rattle.transforms.specs.Plans.{PlanKind, kind_of, iv_size, takes_input}
use Rattle.transforms.specs.Plans.PlanKind.{skcipher, mac, aead}
use Rattle.transforms.specs.declared.request.Dir.TheVariants.{Enc, Dec, Mac}
use Rattle.transforms.specs.declared.request.Request.{Request}

-- an IV of that size, and no associated bytes
abbrev pub is_plain : ℕ → Request → Bool
is_plain size q = length q.iv == size && length q.aad == 0

abbrev pub cipher_takes : ℕ → Request → Bool
cipher_takes size q = elim q.dir [ Enc ↦ is_plain size q | Dec ↦ is_plain size q | Mac ↦ false ]

abbrev pub mac_takes : Request → Bool
mac_takes q = elim q.dir [ Enc ↦ false | Dec ↦ false | Mac ↦ is_plain 0 q ]

-- what a plan says of an IV of its size, and of the numbers of associated bytes and of bytes of text
abbrev pub TakesInput : Type 0
TakesInput = List ℕ → ℕ → ℕ → Bool

-- a decryption is at least as long as its tag of n bytes, which isn't text
abbrev pub aead_takes : TakesInput → ℕ → ℕ → Request → Bool
aead_takes input size n q =
    elim q.dir [
      | Enc ↦ length q.iv == size && input q.iv (length q.aad) (length q.text.text)
      | Dec ↦ length q.iv == size && nat_le n (length q.text.text) && input q.iv (length q.aad) (length q.text.text - n)
      | Mac ↦ false
    ]

-- by the kind of a plan, its inputs and the size of its IV
abbrev pub kind_takes : PlanKind → TakesInput → ℕ → ℕ → Request → Bool
kind_takes skcipher input size n q = cipher_takes size q
kind_takes mac input size n q = mac_takes q
kind_takes aead input size n q = aead_takes input size n q

-- a request is taken, for a tag size
abbrev pub takes : Plan → ℕ → Request → Bool
takes plan n q = kind_takes (kind_of plan) (takes_input plan) (iv_size plan) n q

-- the text, and behind that of an encryption room for its tag
abbrev pub aead_room : ℕ → Request → List ℕ
aead_room n q = elim q.dir [ Enc ↦ q.text.text ++ replicate n 0 | Dec ↦ q.text.text | Mac ↦ [] ]

-- the text, where it doesn't lie in one segment
abbrev pub text_to_join : Segmented → List ℕ
text_to_join text = if length text.sizes == 1 then [] else text.text

-- room for the MAC of a text: HMAC goes over its segments, and CMAC takes it in one piece
abbrev pub mac_room : Plan → Segmented → List ℕ
mac_room Hmac text = replicate 32 0
mac_room (Cmac aes) text = text_to_join text ++ replicate 16 0
mac_room _ text = []

-- by the kind of a plan, and the room for its MAC
abbrev pub kind_room : PlanKind → List ℕ → ℕ → Request → List ℕ
kind_room skcipher room n q = q.text.text
kind_room mac room n q = room
kind_room aead room n q = aead_room n q

abbrev pub room_of : Plan → ℕ → Request → List ℕ
room_of plan n q = kind_room (kind_of plan) (mac_room plan q.text) n q
