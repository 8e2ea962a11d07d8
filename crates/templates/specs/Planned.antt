-- Each instance has the plan of its kind.
use Rattle.std.specs.Prelude.{◌≡◌, Bool, true, false, IsTrue, Option, Some, None}
use Rattle.std.specs.Option.{option_map_or}
use Rattle.alg_registry.specs.declared.spec.Kind.{Kind}
use Rattle.alg_registry.specs.declared.spec.Kind.TheVariants.{Cipher, Hash, Ghash, Skcipher, Aead, Mac}
use Rattle.alg_registry.specs.declared.spec.Spec.{Spec}
use Rattle.alg_registry.specs.declared.spec.Wrap.{Wrap}
use Rattle.alg_registry.specs.declared.spec.Wrap.TheVariants as wrap
use Rattle.alg_names.specs.Name.{Tree, word_of, spelling, IsAllowed}
use Rattle.templates.specs.declared.driver_plans.Plan.{Plan}
use Rattle.templates.specs.declared.driver_plans.Plan.TheVariants as plan
use Rattle.templates.specs.Table.{wrap_of}
use Rattle.templates.specs.Words.{template_named}
use Rattle.templates.specs.Plans.{plan_at}

-- what an instance with the plan is
abbrev pub kind_of : Plan → Kind
kind_of (plan.Cbc aes) = Skcipher
kind_of (plan.Ctr aes) = Skcipher
kind_of (plan.Rfc3686 aes) = Skcipher
kind_of (plan.Xts aes) = Skcipher
kind_of (plan.Gcm aes ghash) = Aead
kind_of (plan.Rfc4106 aes ghash) = Aead
kind_of (plan.Ccm aes) = Aead
kind_of plan.Hmac = Mac
kind_of (plan.Cmac aes) = Mac
kind_of (plan.AuthencCbc aes) = Aead
kind_of (plan.AuthencCtr aes) = Aead
kind_of (plan.AuthencRfc3686 aes) = Aead
kind_of (plan.AuthencXts aes) = Aead

-- what stands on no other and has no plan
abbrev pub is_basic : Kind → Bool
is_basic Cipher = true
is_basic Hash = true
is_basic Ghash = true
is_basic _ = false

-- a plan is one of the kind, and only ciphers, hashes and GHASHes have none
abbrev pub Fits : Kind → Option Plan → Type 0
Fits kind (Some p) = kind_of p ≡ kind
Fits kind None = IsTrue (is_basic kind)

-- how an instance is wrapped, by the root of its driver
abbrev pub root_wrap : Tree → Wrap
root_wrap driver = option_map_or wrap_of (template_named (word_of driver)) wrap.Plain

-- the driver is the spelling of a name within the limits, its root says how the instance is wrapped, and the plan of
-- that name fits the kind
pub record IsPlanned (spec : Spec) : Type 0 where
  pub tree : Tree
  pub spelled : spec.driver ≡ spelling tree
  pub allowed : IsAllowed tree
  pub wraps : spec.wrap ≡ root_wrap tree
  pub fits : Fits spec.kind (plan_at tree)
