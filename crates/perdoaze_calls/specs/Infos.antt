-- What is told of a transform, as /proc/crypto shows it.
use Rattle.std.specs.Prelude.{◌≡◌, ◌≤◌, ◌+◌, ◌-◌, ◌*◌, ◌/◌, ◌++◌, ℕ, ℤ, List, [], ◌∷◌, length, replicate, codes, slice_get, Option, Some, None}
use Rattle.alg_names.specs.Name.{spelling}
use Rattle.templates.specs.declared.driver_plans.AesForm.{AesForm}
use Rattle.templates.specs.declared.driver_plans.AesForm.TheVariants.{AesGeneric, AesTable, AesLanes}
use Rattle.templates.specs.declared.driver_plans.GhashForm.{GhashForm}
use Rattle.templates.specs.declared.driver_plans.GhashForm.TheVariants.{GhashGeneric, GhashTable}
use Rattle.templates.specs.declared.driver_plans.Plan.{Plan}
use Rattle.templates.specs.declared.driver_plans.Plan.TheVariants.{Cbc, Ctr, Rfc3686, Xts, Gcm, Rfc4106, Ccm, Hmac, Cmac, AuthencCbc, AuthencCtr, AuthencRfc3686, AuthencXts}
use Rattle.transforms.specs.Drivers.{driver_of}
use Rattle.transforms.specs.InPlace.{mac_size}
use Rattle.transforms.specs.Plans.{PlanKind, kind_of, iv_size, tag_size_of}
use Rattle.transforms.specs.Plans.PlanKind.{skcipher, mac, aead}
use Rattle.perdoaze_calls.specs.Status.{code_of}
use Rattle.perdoaze_calls.specs.declared.info.Info.{Info}
use Rattle.perdoaze_calls.specs.declared.status.Status.{Status}
use Rattle.perdoaze_calls.specs.declared.status.Status.TheVariants.{Done, NoName, Invalid}
use Rattle.perdoaze_calls.specs.declared.transform.Transform.{Transform}

-- the algorithm
abbrev pub algorithm_of : Plan → List ℕ
algorithm_of (Cbc aes) = codes "cbc(aes)"
algorithm_of (Ctr aes) = codes "ctr(aes)"
algorithm_of (Rfc3686 aes) = codes "rfc3686(ctr(aes))"
algorithm_of (Xts aes) = codes "xts(aes)"
algorithm_of (Gcm aes ghash) = codes "gcm(aes)"
algorithm_of (Rfc4106 aes ghash) = codes "rfc4106(gcm(aes))"
algorithm_of (Ccm aes) = codes "ccm(aes)"
algorithm_of Hmac = codes "hmac(sha256)"
algorithm_of (Cmac aes) = codes "cmac(aes)"
algorithm_of (AuthencCbc aes) = codes "authenc(hmac(sha256),cbc(aes))"
algorithm_of (AuthencCtr aes) = codes "authenc(hmac(sha256),ctr(aes))"
algorithm_of (AuthencRfc3686 aes) = codes "authenc(hmac(sha256),rfc3686(ctr(aes)))"
algorithm_of (AuthencXts aes) = codes "authenc(hmac(sha256),xts(aes))"

-- the priorities of the drivers of AES and GHASH; SHA-256's is 100
abbrev pub aes_priority : AesForm → ℕ
aes_priority AesGeneric = 100
aes_priority AesTable = 200
aes_priority AesLanes = 300

abbrev pub ghash_priority : GhashForm → ℕ
ghash_priority GhashGeneric = 100
ghash_priority GhashTable = 200

-- a template's is that of the driver under it; GCM's is the mean of its two, authenc's ten times its cipher's and its
-- MAC's
abbrev pub priority_of : Plan → ℕ
priority_of (Cbc aes) = aes_priority aes
priority_of (Ctr aes) = aes_priority aes
priority_of (Rfc3686 aes) = aes_priority aes
priority_of (Xts aes) = aes_priority aes
priority_of (Gcm aes ghash) = (aes_priority aes + ghash_priority ghash) / 2
priority_of (Rfc4106 aes ghash) = (aes_priority aes + ghash_priority ghash) / 2
priority_of (Ccm aes) = aes_priority aes
priority_of Hmac = 100
priority_of (Cmac aes) = aes_priority aes
priority_of (AuthencCbc aes) = aes_priority aes * 10 + 100
priority_of (AuthencCtr aes) = aes_priority aes * 10 + 100
priority_of (AuthencRfc3686 aes) = aes_priority aes * 10 + 100
priority_of (AuthencXts aes) = aes_priority aes * 10 + 100

-- the numbers of include/perdoaze.h
abbrev pub kind_number : PlanKind → ℕ
kind_number skcipher = 1
kind_number aead = 2
kind_number mac = 3

abbrev pub block_size_of : Plan → ℕ
block_size_of (Cbc aes) = 16
block_size_of (Ctr aes) = 1
block_size_of (Rfc3686 aes) = 1
block_size_of (Xts aes) = 16
block_size_of (Gcm aes ghash) = 1
block_size_of (Rfc4106 aes ghash) = 1
block_size_of (Ccm aes) = 1
block_size_of Hmac = 64
block_size_of (Cmac aes) = 16
block_size_of (AuthencCbc aes) = 16
block_size_of (AuthencCtr aes) = 1
block_size_of (AuthencRfc3686 aes) = 1
block_size_of (AuthencXts aes) = 16

-- the bytes of the shortest key, and of the longest; authenc's blob begins with 8 bytes, and has a MAC's key of any
-- length
abbrev pub least_key : Plan → ℕ
least_key (Cbc aes) = 16
least_key (Ctr aes) = 16
least_key (Rfc3686 aes) = 20
least_key (Xts aes) = 32
least_key (Gcm aes ghash) = 16
least_key (Rfc4106 aes ghash) = 20
least_key (Ccm aes) = 16
least_key Hmac = 0
least_key (Cmac aes) = 16
least_key (AuthencCbc aes) = 24
least_key (AuthencCtr aes) = 24
least_key (AuthencRfc3686 aes) = 28
least_key (AuthencXts aes) = 40

abbrev pub no_limit : ℕ
no_limit = 4294967295

abbrev pub greatest_key : Plan → ℕ
greatest_key (Cbc aes) = 32
greatest_key (Ctr aes) = 32
greatest_key (Rfc3686 aes) = 36
greatest_key (Xts aes) = 64
greatest_key (Gcm aes ghash) = 32
greatest_key (Rfc4106 aes ghash) = 36
greatest_key (Ccm aes) = 32
greatest_key Hmac = no_limit
greatest_key (Cmac aes) = 32
greatest_key (AuthencCbc aes) = no_limit
greatest_key (AuthencCtr aes) = no_limit
greatest_key (AuthencRfc3686 aes) = no_limit
greatest_key (AuthencXts aes) = no_limit

-- a text with zeros behind it, 128 bytes in all
abbrev pub padded : List ℕ → List ℕ
padded text = text ++ replicate (128 - length text) 0

-- the bytes of the tag that is set, or of the MAC
abbrev pub told_tag : Plan → ℕ → ℕ
told_tag Hmac n = mac_size Hmac
told_tag (Cmac aes) n = mac_size (Cmac aes)
told_tag _ n = n

-- a driver's, with a tag of n bytes
pub record IsInfo (i : Info) (p : Plan) (n : ℕ) : Type 0 where
  pub name : i.name ≡ padded (algorithm_of p)
  pub driver : i.driver ≡ padded (spelling (driver_of p))
  pub priority : i.priority ≡ priority_of p
  pub kind : i.kind ≡ kind_number (kind_of p)
  pub block : i.block_size ≡ block_size_of p
  pub iv : i.iv_size ≡ iv_size p
  pub tag : i.max_tag_size ≡ tag_size_of p + mac_size p
  pub least : i.min_key_size ≡ least_key p
  pub greatest : i.max_key_size ≡ greatest_key p
  pub set : i.tag_size ≡ told_tag p n

-- the drivers of each algorithm, those of greatest priority first
abbrev pub listed : List Plan
listed =
    Cbc AesLanes ∷ Cbc AesTable ∷ Cbc AesGeneric
    ∷ Ctr AesLanes ∷ Ctr AesTable ∷ Ctr AesGeneric
    ∷ Rfc3686 AesLanes ∷ Rfc3686 AesTable ∷ Rfc3686 AesGeneric
    ∷ Xts AesLanes ∷ Xts AesTable ∷ Xts AesGeneric
    ∷ Gcm AesLanes GhashTable ∷ Gcm AesLanes GhashGeneric ∷ Gcm AesTable GhashTable ∷ Gcm AesTable GhashGeneric ∷ Gcm AesGeneric GhashTable ∷ Gcm AesGeneric GhashGeneric
    ∷ Rfc4106 AesLanes GhashTable ∷ Rfc4106 AesLanes GhashGeneric ∷ Rfc4106 AesTable GhashTable ∷ Rfc4106 AesTable GhashGeneric ∷ Rfc4106 AesGeneric GhashTable ∷ Rfc4106 AesGeneric GhashGeneric
    ∷ Ccm AesLanes ∷ Ccm AesTable ∷ Ccm AesGeneric
    ∷ Hmac
    ∷ Cmac AesLanes ∷ Cmac AesTable ∷ Cmac AesGeneric
    ∷ AuthencCbc AesLanes ∷ AuthencCbc AesTable ∷ AuthencCbc AesGeneric
    ∷ AuthencCtr AesLanes ∷ AuthencCtr AesTable ∷ AuthencCtr AesGeneric
    ∷ AuthencRfc3686 AesLanes ∷ AuthencRfc3686 AesTable ∷ AuthencRfc3686 AesGeneric
    ∷ AuthencXts AesLanes ∷ AuthencXts AesTable ∷ AuthencXts AesGeneric
    ∷ []

-- what a call tells of the driver at a place of the list, or of the transform in a place
abbrev pub Lists : ℕ → Status → Info → Info → Type 0
Lists i Done old new = (p : Plan) × (slice_get listed i ≡ Some p) × IsInfo new p (tag_size_of p)
Lists i NoName old new = (length listed ≤ i) × (new ≡ old)
Lists i _ old new = ⊥

abbrev pub Tells : Option Transform → Status → Info → Info → Type 0
Tells (Some t) Done old new = IsInfo new t.plan t.authsize
Tells None Invalid old new = new ≡ old
Tells _ _ old new = ⊥

abbrev pub ListsTo : ℕ → ℤ → Info → Info → Type 0
ListsTo i result old new = (status : Status) × (result ≡ code_of status) × Lists i status old new

abbrev pub TellsTo : Option Transform → ℤ → Info → Info → Type 0
TellsTo held result old new = (status : Status) × (result ≡ code_of status) × Tells held status old new
