-- What a request comes to.
use Rattle.std.specs.Prelude.{◌≡◌, ◌≤◌, ◌<◌, ◌^◌, ◌+◌, ◌-◌, ◌++◌, ◌⊎◌, ℕ, true, false, ℤ, List, length, take, drop, replicate, Option, Some, None}
use Rattle.std.specs.Option.{option_map}
use Rattle.std_defs.specs.Value.{Value}
use Rattle.std_defs.specs.Value.Value.{bytes, bad_message, invalid}
use Rattle.transforms.specs.Drivers.{driver_of}
use Rattle.transforms.specs.Asked.{takes}
use Rattle.transforms.specs.InPlace.{sealing, unsealing, making, mac_size}
use Rattle.transforms.specs.RequestValue.{request_value}
use Rattle.transforms.specs.declared.request.Request.{Request}
use Rattle.kc_base.specs.declared.error_numbers.Errno.{Errno}
use Rattle.kc_base.specs.declared.error_numbers.Errno.TheVariants.{EBADMSG}
use Rattle.perdoaze_calls.specs.Pieces.{most_on_stack}
use Rattle.perdoaze_calls.specs.Status.{code_of}
use Rattle.perdoaze_calls.specs.Under.{key_within}
use Rattle.perdoaze_calls.specs.declared.status.Status.{Status}
use Rattle.perdoaze_calls.specs.declared.status.Status.TheVariants.{Done, NoMemory, Invalid, NoRoom, BadMessage, NoKey}
use Rattle.perdoaze_calls.specs.declared.transform.Transform.{Transform}

-- the request is taken, and under the key that was set it has that value
pub record HasValue (t : Transform) (q : Request) (value : Value) : Type 0 where
  pub taken : takes t.plan t.authsize q ≡ true
  pub has : option_map (λ key. request_value (driver_of t.plan) key t.authsize q) (key_within t.keyed) ≡ Some value

-- it isn't taken, or has 2^32 bytes or more
abbrev pub IsNotTaken : Transform → Request → Type 0
IsNotTaken t q = (takes t.plan t.authsize q ≡ false) ⊎ ((2 ^ 32 ≤ length q.aad) ⊎ (2 ^ 32 ≤ length q.text.text))

-- the bytes of the value are the front of what went out, and what lies behind them is as it was
pub record Gave (t : Transform) (q : Request) (old new : List ℕ) (written : ℕ) : Type 0 where
  pub value : HasValue t q (bytes (take written new))
  pub fits : written ≤ length new
  pub rest : drop written new ≡ drop written old

-- nothing went out
abbrev pub GaveNothing : List ℕ → List ℕ → ℕ → Type 0
GaveNothing old new written = (new ≡ old) × (written ≡ 0)

-- nothing went out, and the first n bytes of its place are 0
abbrev pub Cleared : ℕ → List ℕ → List ℕ → ℕ → Type 0
Cleared n old new written = (new ≡ replicate n 0 ++ drop n old) × (written ≡ 0)

-- an answer that takes `room` bytes; where it is refused once the text lies in its place, the first n bytes there are 0
abbrev pub Answers : Transform → Request → ℕ → ℕ → Status → List ℕ → List ℕ → ℕ → Type 0
Answers t q room n Done old new written = Gave t q old new written
Answers t q room n NoKey old new written = (key_within t.keyed ≡ None) × GaveNothing old new written
Answers t q room n NoRoom old new written = (length old < room) × GaveNothing old new written
Answers t q room n BadMessage old new written = HasValue t q bad_message × Cleared n old new written
Answers t q room n Invalid old new written = (IsNotTaken t q ⊎ HasValue t q invalid) × (GaveNothing old new written ⊎ Cleared n old new written)
Answers t q room n _ old new written = ⊥

-- the text and the tag's place become the ciphertext and the tag
abbrev pub Encrypts : Transform → List ℕ → List ℕ → List ℕ → Status → List ℕ → List ℕ → ℕ → Type 0
Encrypts t iv aad text = Answers t (sealing iv aad text) (length text + t.authsize) (length text)

abbrev pub Decrypts : Transform → List ℕ → List ℕ → List ℕ → Status → List ℕ → List ℕ → ℕ → Type 0
Decrypts t iv aad text = Answers t (unsealing iv aad text) (length text - t.authsize) (length text - t.authsize)

-- the same, where the text is the first n bytes of the place: where it is refused, nothing changes
abbrev pub EncryptsWithin : Transform → List ℕ → List ℕ → ℕ → Status → List ℕ → List ℕ → ℕ → Type 0
EncryptsWithin t iv aad n status old new written = Answers t (sealing iv aad (take n old)) (n + t.authsize) 0 status old new written

abbrev pub DecryptsWithin : Transform → List ℕ → List ℕ → ℕ → Status → List ℕ → List ℕ → ℕ → Type 0
DecryptsWithin t iv aad n status old new written = Answers t (unsealing iv aad (take n old)) n 0 status old new written

-- the MAC of a text
abbrev pub Digests : Transform → List ℕ → Status → List ℕ → List ℕ → ℕ → Type 0
Digests t text = Answers t (making text) (mac_size t.plan) 0

-- the same of a call that takes memory for pieces of many bytes: where that is wanting, nothing went out
abbrev pub OrNoMemory : (Status → List ℕ → List ℕ → ℕ → Type 0) → Status → List ℕ → List ℕ → ℕ → Type 0
OrNoMemory answers NoMemory old new written = (most_on_stack < length old) × GaveNothing old new written
OrNoMemory answers status old new written = answers status old new written

-- what a call comes to on a place: where there is no transform, it is invalid
abbrev pub OnPlace : Option Transform → (Transform → Status → List ℕ → List ℕ → ℕ → Type 0) → Status → List ℕ → List ℕ → ℕ → Type 0
OnPlace None answers status old new written = (status ≡ Invalid) × GaveNothing old new written
OnPlace (Some t) answers status old new written = answers t status old new written

-- the same by the number that C gets
abbrev pub OnPlaceTo : Option Transform → (Transform → Status → List ℕ → List ℕ → ℕ → Type 0) → ℤ → List ℕ → List ℕ → ℕ → Type 0
OnPlaceTo held answers result old new written = (status : Status) × (result ≡ code_of status) × OnPlace held answers status old new written

-- For the contracts inside this crate: the status of a refusal.
abbrev pub refusal : Errno → Status
refusal EBADMSG = BadMessage
refusal _ = Invalid
