-- That a driver opens what it sealed.
use Rattle.std.specs.Prelude.{◌≡◌, ◌<◌, ℕ, true, List, Some, All}
use Rattle.std_defs.specs.Value.Value.{bytes}
use Rattle.alg_names.specs.Name.{Tree}
use Rattle.templates.specs.Plans.{plan_at}
use Rattle.templates.specs.declared.driver_plans.Plan.{Plan}
use Rattle.transforms.specs.Asked.{takes}
use Rattle.transforms.specs.Cuts.{in_one}
use Rattle.transforms.specs.Plans.{takes_key, fits_tag}
use Rattle.transforms.specs.RequestValue.{request_value}
use Rattle.transforms.specs.declared.request.Dir.TheVariants.{Enc, Dec}
use Rattle.transforms.specs.declared.request.Request.{Request}

-- bytes and no greater numbers
abbrev pub AreBytes : List ℕ → Type 0
AreBytes xs = All (λ x. x < 256) xs

-- the request to decrypt these bytes, with the IV and the associated bytes of another
abbrev pub to_open : Request → List ℕ → Request
to_open q made = record q { dir = Dec; text = in_one made }

-- Where a transform of the driver takes an encryption, under a key and a tag size that its plan takes, and bytes come of
-- it, their decryption gives the text.
abbrev pub OpensWhatItSealed : Type 0
OpensWhatItSealed =
    (driver : Tree) (plan : Plan) (key : List ℕ) (n : ℕ) (q : Request) (made : List ℕ) → plan_at driver ≡ Some plan
    → takes_key plan key ≡ true → fits_tag plan n ≡ true → takes plan n q ≡ true → q.dir ≡ Enc
    → AreBytes key → AreBytes q.iv → AreBytes q.text.text
    → request_value driver key n q ≡ bytes made → request_value driver key n (to_open q made) ≡ bytes q.text.text
