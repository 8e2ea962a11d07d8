-- The driver of a plan: the name of its instance, without `pcrypt` and `cryptd`.
use Rattle.std.specs.Prelude.{ℕ, Option, Some, List, [], ◌∷◌, codes}
use Rattle.alg_names.specs.Name.{Tree, node, end, arg, word_of, args_of}
use Rattle.templates.specs.Words.{template_named}
use Rattle.templates.specs.declared.template_words.Template.{Template}
use Rattle.templates.specs.declared.template_words.Template.TheVariants.{Pcrypt, Cryptd}
use Rattle.templates.specs.declared.driver_plans.AesForm.{AesForm}
use Rattle.templates.specs.declared.driver_plans.AesForm.TheVariants.{AesGeneric, AesTable, AesLanes}
use Rattle.templates.specs.declared.driver_plans.GhashForm.{GhashForm}
use Rattle.templates.specs.declared.driver_plans.GhashForm.TheVariants.{GhashGeneric, GhashTable}
use Rattle.templates.specs.declared.driver_plans.Plan.{Plan}
use Rattle.templates.specs.declared.driver_plans.Plan.TheVariants.{Cbc, Ctr, Rfc3686, Xts, Gcm, Rfc4106, Ccm, Hmac, Cmac, AuthencCbc, AuthencCtr, AuthencRfc3686, AuthencXts}

-- `word(x)` and `word(x,y)`
abbrev pub over : List ℕ → Tree → Tree
over word x = node word (arg x end)

abbrev pub over_two : List ℕ → Tree → Tree → Tree
over_two word x y = node word (arg x (arg y end))

abbrev pub aes_driver : AesForm → Tree
aes_driver AesGeneric = node (codes "aes-generic") end
aes_driver AesTable = node (codes "aes-table") end
aes_driver AesLanes = node (codes "aes-lanes") end

abbrev pub ghash_driver : GhashForm → Tree
ghash_driver GhashGeneric = node (codes "ghash-generic") end
ghash_driver GhashTable = node (codes "ghash-table") end

abbrev pub ctr_driver : AesForm → Tree
ctr_driver aes = over (codes "ctr") (aes_driver aes)

abbrev pub gcm_driver : AesForm → GhashForm → Tree
gcm_driver aes ghash = over_two (codes "gcm_base") (ctr_driver aes) (ghash_driver ghash)

abbrev pub hmac_driver : Tree
hmac_driver = over (codes "hmac") (node (codes "sha256-generic") end)

abbrev pub authenc_driver : Tree → Tree
authenc_driver cipher = over_two (codes "authenc") hmac_driver cipher

abbrev pub driver_of : Plan → Tree
driver_of (Cbc aes) = over (codes "cbc") (aes_driver aes)
driver_of (Ctr aes) = ctr_driver aes
driver_of (Rfc3686 aes) = over (codes "rfc3686") (ctr_driver aes)
driver_of (Xts aes) = over (codes "xts") (aes_driver aes)
driver_of (Gcm aes ghash) = gcm_driver aes ghash
driver_of (Rfc4106 aes ghash) = over (codes "rfc4106") (gcm_driver aes ghash)
driver_of (Ccm aes) = over (codes "ccm") (aes_driver aes)
driver_of Hmac = hmac_driver
driver_of (Cmac aes) = over (codes "cmac") (aes_driver aes)
driver_of (AuthencCbc aes) = authenc_driver (over (codes "cbc") (aes_driver aes))
driver_of (AuthencCtr aes) = authenc_driver (ctr_driver aes)
driver_of (AuthencRfc3686 aes) = authenc_driver (over (codes "rfc3686") (ctr_driver aes))
driver_of (AuthencXts aes) = authenc_driver (over (codes "xts") (aes_driver aes))

-- what stands under `cryptd`, without the `pcrypt` at its root
abbrev pub unqueued : Tree → Option Template → List Tree → Tree
unqueued x (Some Pcrypt) (y ∷ []) = y
unqueued x _ _ = x

-- a name without the `pcrypt` or `cryptd` at its root, or both
abbrev pub unwrapped_over : Tree → Option Template → List Tree → Tree
unwrapped_over t (Some Pcrypt) (x ∷ []) = x
unwrapped_over t (Some Cryptd) (x ∷ []) = unqueued x (template_named (word_of x)) (args_of x)
unwrapped_over t _ _ = t

abbrev pub unwrapped : Tree → Tree
unwrapped t = unwrapped_over t (template_named (word_of t)) (args_of t)
