-- the value of an ask
use Rattle.std.specs.Prelude.{◌≡◌, ℕ, ◌<◌, ◌+◌, ◌^◌, Bool, true, List, length}
use Rattle.std.specs.Arc.{arc_value}
use Rattle.std_defs.specs.Value.{Value}
use Rattle.alg_names.specs.Name.{Tree}
use Rattle.transforms.specs.Drivers.{driver_of}
use Rattle.transforms.specs.RequestValue.{request_value}
use Rattle.transforms.specs.Plans.{fits_tag}
use Rattle.transforms.specs.Asked.{takes, room_of}
use Rattle.transforms.specs.declared.ask.Ask.{Ask}

-- the driver of the ask's transform, without `pcrypt` and `cryptd`
abbrev pub ask_driver : Ask → Tree
ask_driver a = driver_of (arc_value a.keyed).0

abbrev pub ask_value : Ask → Value
ask_value a = request_value (ask_driver a) (arc_value a.keyed).1 a.authsize a.request

abbrev pub ask_takes : Ask → Bool
ask_takes a = takes (arc_value a.keyed).0 a.authsize a.request

abbrev pub ask_room : Ask → List ℕ
ask_room a = room_of (arc_value a.keyed).0 a.authsize a.request

-- the tag size is one of the transform's plan, and the inputs are short
abbrev pub IsFit : Ask → Type 0
IsFit a = (fits_tag (arc_value a.keyed).0 a.authsize ≡ true) × (length a.request.aad < 2 ^ 32) × (length a.request.text.text < 2 ^ 32)

-- the bytes of IV, associated input and text
abbrev pub ask_size : Ask → ℕ
ask_size a = length a.request.iv + length a.request.aad + length a.request.text.text
