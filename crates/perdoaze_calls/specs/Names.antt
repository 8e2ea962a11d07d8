-- The plan of a name.
use Rattle.std.specs.Prelude.{◌≡◌, ◌≢◌, ◌⊎◌, ◌-◌, ⊤, ℤ, ℕ, if◌then◌else◌, nat_lt, List, length, take, drop, Option, Some, None, Result, Ok, Err, codes}
use Rattle.std.specs.Str.{bytes_eq}
use Rattle.alg_names.specs.Name.{Tree, IsName}
use Rattle.alg_names.specs.Refusal.{IsRefusedFor}
use Rattle.alg_names.specs.declared.name_errors.NameErr.{NameErr}
use Rattle.alg_names.specs.declared.name_errors.NameErr.TheVariants.{Memory}
use Rattle.templates.specs.Plans.{plan_at}
use Rattle.templates.specs.declared.driver_plans.AesForm.TheVariants.{AesLanes}
use Rattle.templates.specs.declared.driver_plans.GhashForm.TheVariants.{GhashTable}
use Rattle.templates.specs.declared.driver_plans.Plan.{Plan}
use Rattle.templates.specs.declared.driver_plans.Plan.TheVariants as plan
use Rattle.transforms.specs.Plans.{tag_size_of}
use Rattle.perdoaze_calls.specs.Status.{code_of}
use Rattle.perdoaze_calls.specs.declared.status.Status.{Status}
use Rattle.perdoaze_calls.specs.declared.status.Status.TheVariants.{Done, NoName, NoMemory, Invalid}
use Rattle.perdoaze_calls.specs.declared.transform.Transform.{Transform}

-- of an algorithm: that of its driver of greatest priority
abbrev pub plan_named : List ℕ → Option Plan
plan_named name =
    if bytes_eq name (codes "cbc(aes)") then Some (plan.Cbc AesLanes) else
    (if bytes_eq name (codes "ctr(aes)") then Some (plan.Ctr AesLanes) else
    (if bytes_eq name (codes "rfc3686(ctr(aes))") then Some (plan.Rfc3686 AesLanes) else
    (if bytes_eq name (codes "xts(aes)") then Some (plan.Xts AesLanes) else
    (if bytes_eq name (codes "gcm(aes)") then Some (plan.Gcm AesLanes GhashTable) else
    (if bytes_eq name (codes "rfc4106(gcm(aes))") then Some (plan.Rfc4106 AesLanes GhashTable) else
    (if bytes_eq name (codes "ccm(aes)") then Some (plan.Ccm AesLanes) else
    (if bytes_eq name (codes "hmac(sha256)") then Some (plan.Hmac) else
    (if bytes_eq name (codes "cmac(aes)") then Some (plan.Cmac AesLanes) else
    (if bytes_eq name (codes "authenc(hmac(sha256),cbc(aes))") then Some (plan.AuthencCbc AesLanes) else
    (if bytes_eq name (codes "authenc(hmac(sha256),ctr(aes))") then Some (plan.AuthencCtr AesLanes) else
    (if bytes_eq name (codes "authenc(hmac(sha256),rfc3686(ctr(aes)))") then Some (plan.AuthencRfc3686 AesLanes) else
    (if bytes_eq name (codes "authenc(hmac(sha256),xts(aes))") then Some (plan.AuthencXts AesLanes) else None))))))))))))

-- what stands in "WORD(..)", where the name is so, and otherwise the name; `word` is the front with the bracket, of 7 bytes
abbrev pub within : List ℕ → List ℕ → List ℕ
within word name =
    if nat_lt (length name) 8 then name else
    (if bytes_eq (take 7 name) word then
    (if bytes_eq (drop (length name - 8) (drop 7 name)) (codes ")") then take (length name - 8) (drop 7 name) else name)
    else name)

-- `pcrypt(A)`, `cryptd(A)` and `cryptd(pcrypt(A))`, of an algorithm A, stand for A
abbrev pub algorithm_in : List ℕ → List ℕ
algorithm_in name = within (codes "pcrypt(") (within (codes "cryptd(") name)

-- the text spells a driver that has the plan, or one that has none
abbrev pub IsDriver : List ℕ → Option Plan → Type 0
IsDriver name p = (t : Tree) × IsName name t × (plan_at t ≡ p)

-- the text is no name within the limits
abbrev pub IsNoName : List ℕ → Type 0
IsNoName name = (e : NameErr) × IsRefusedFor e name × (e ≢ Memory)

abbrev pub Plans : List ℕ → Result Plan Status → Type 0
Plans name (Ok p) = IsDriver name (Some p)
Plans name (Err NoName) = IsDriver name None
Plans name (Err NoMemory) = ⊤
Plans name (Err Invalid) = IsNoName name
Plans name (Err _) = ⊥

abbrev pub PlansBoth : List ℕ → Result Plan Status → Type 0
PlansBoth name (Ok p) = (plan_named (algorithm_in name) ≡ Some p) ⊎ ((plan_named (algorithm_in name) ≡ None) × IsDriver name (Some p))
PlansBoth name (Err status) = (plan_named (algorithm_in name) ≡ None) × Plans name (Err status)

-- a transform of the name's plan, with the largest tag and no key; or none
abbrev pub Begins : Option Transform → List ℕ → Status → Type 0
Begins (Some t) name Done = PlansBoth name (Ok t.plan) × (t.authsize ≡ tag_size_of t.plan) × (t.keyed ≡ None)
Begins None name NoMemory = ⊤
Begins None name NoName = PlansBoth name (Err NoName)
Begins None name Invalid = PlansBoth name (Err Invalid)
Begins _ name status = ⊥

abbrev pub BeginsTo : Option Transform → List ℕ → ℤ → Type 0
BeginsTo new name result = (status : Status) × (result ≡ code_of status) × Begins new name status
