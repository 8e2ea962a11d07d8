-- The plan that a driver's name stands for.
use Rattle.std.specs.Prelude.{ℕ, Bool, true, false, ◌==◌, if◌then◌else◌, List, [], ◌∷◌, length, Option, Some, None, Result, Ok, Err, codes}
use Rattle.std.specs.Option.{option_map}
use Rattle.std.specs.Str.{bytes_eq}
use Rattle.kc_base.specs.declared.error_numbers.Errno.{Errno}
use Rattle.kc_base.specs.declared.error_numbers.Errno.TheVariants.{EINVAL}
use Rattle.alg_names.specs.Name.{Tree, word_of, args_of}
use Rattle.templates.specs.declared.template_words.Template.{Template}
use Rattle.templates.specs.declared.template_words.Template.TheVariants as template
use Rattle.templates.specs.declared.driver_plans.AesForm.{AesForm}
use Rattle.templates.specs.declared.driver_plans.AesForm.TheVariants.{AesGeneric, AesTable, AesLanes}
use Rattle.templates.specs.declared.driver_plans.GhashForm.{GhashForm}
use Rattle.templates.specs.declared.driver_plans.GhashForm.TheVariants.{GhashGeneric, GhashTable}
use Rattle.templates.specs.declared.driver_plans.Plan.{Plan}
use Rattle.templates.specs.declared.driver_plans.Plan.TheVariants.{Cbc, Ctr, Rfc3686, Xts, Gcm, Rfc4106, Ccm, Hmac, Cmac, AuthencCbc, AuthencCtr, AuthencRfc3686, AuthencXts}
use Rattle.templates.specs.Words.{template_named}

-- a word alone
abbrev pub is_word : List ℕ → Tree → Bool
is_word word t = if bytes_eq (word_of t) word then length (args_of t) == 0 else false

abbrev pub aes_form : Tree → Option AesForm
aes_form t = if is_word (codes "aes-generic") t then Some AesGeneric else (if is_word (codes "aes-table") t then Some AesTable else (if is_word (codes "aes-lanes") t then Some AesLanes else None))

abbrev pub ghash_form : Tree → Option GhashForm
ghash_form t = if is_word (codes "ghash-generic") t then Some GhashGeneric else (if is_word (codes "ghash-table") t then Some GhashTable else None)

abbrev pub ctr_over : Option Template → List Tree → Option AesForm
ctr_over (Some template.Ctr) (x ∷ []) = aes_form x
ctr_over _ _ = None

abbrev pub ctr_form : Tree → Option AesForm
ctr_form t = ctr_over (template_named (word_of t)) (args_of t)

abbrev pub gcm_of : Option AesForm → Option GhashForm → Option Plan
gcm_of (Some aes) (Some ghash) = Some (Gcm aes ghash)
gcm_of _ _ = None

abbrev pub gcm_over : Option Template → List Tree → Option Plan
gcm_over (Some template.GcmBase) (c ∷ g ∷ []) = gcm_of (ctr_form c) (ghash_form g)
gcm_over _ _ = None

abbrev pub gcm_plan : Tree → Option Plan
gcm_plan t = gcm_over (template_named (word_of t)) (args_of t)

abbrev pub salted : Option Plan → Option Plan
salted (Some (Gcm aes ghash)) = Some (Rfc4106 aes ghash)
salted _ = None

abbrev pub hmac_over : Option Template → List Tree → Bool
hmac_over (Some template.Hmac) (x ∷ []) = is_word (codes "sha256-generic") x
hmac_over _ _ = false

abbrev pub is_hmac : Tree → Bool
is_hmac t = hmac_over (template_named (word_of t)) (args_of t)

abbrev pub cipher_over : Option Template → List Tree → Option Plan
cipher_over (Some template.Cbc) (x ∷ []) = option_map (λ aes. Cbc aes) (aes_form x)
cipher_over (Some template.Ctr) (x ∷ []) = option_map (λ aes. Ctr aes) (aes_form x)
cipher_over (Some template.Rfc3686) (x ∷ []) = option_map (λ aes. Rfc3686 aes) (ctr_form x)
cipher_over (Some template.Xts) (x ∷ []) = option_map (λ aes. Xts aes) (aes_form x)
cipher_over _ _ = None

abbrev pub cipher_plan : Tree → Option Plan
cipher_plan t = cipher_over (template_named (word_of t)) (args_of t)

abbrev pub authentic : Bool → Option Plan → Option Plan
authentic true (Some (Cbc aes)) = Some (AuthencCbc aes)
authentic true (Some (Ctr aes)) = Some (AuthencCtr aes)
authentic true (Some (Rfc3686 aes)) = Some (AuthencRfc3686 aes)
authentic true (Some (Xts aes)) = Some (AuthencXts aes)
authentic _ _ = None

abbrev pub bare_over : Tree → Option Template → List Tree → Option Plan
bare_over t (Some template.GcmBase) args = gcm_plan t
bare_over t (Some template.Rfc4106) (x ∷ []) = salted (gcm_plan x)
bare_over t (Some template.Ccm) (x ∷ []) = option_map (λ aes. Ccm aes) (aes_form x)
bare_over t (Some template.Hmac) args = if is_hmac t then Some Hmac else None
bare_over t (Some template.Cmac) (x ∷ []) = option_map (λ aes. Cmac aes) (aes_form x)
bare_over t (Some template.Authenc) (a ∷ e ∷ []) = authentic (is_hmac a) (cipher_plan e)
bare_over t _ args = cipher_plan t

abbrev pub bare_plan : Tree → Option Plan
bare_plan t = bare_over t (template_named (word_of t)) (args_of t)

-- what stands under `cryptd`, where that is no `pcrypt`, and otherwise what stands under this
abbrev pub queued_plan : Tree → Option Template → List Tree → Option Plan
queued_plan x (Some template.Pcrypt) (y ∷ []) = bare_plan y
queued_plan x _ args = bare_plan x

-- `pcrypt(X)`, `cryptd(X)` and `cryptd(pcrypt(X))` have the plan of X
abbrev pub plan_over : Tree → Option Template → List Tree → Option Plan
plan_over t (Some template.Pcrypt) (x ∷ []) = bare_plan x
plan_over t (Some template.Cryptd) (x ∷ []) = queued_plan x (template_named (word_of x)) (args_of x)
plan_over t _ args = bare_plan t

abbrev pub plan_at : Tree → Option Plan
plan_at t = plan_over t (template_named (word_of t)) (args_of t)

abbrev pub or_invalid : Option Plan → Result Plan Errno
or_invalid (Some plan) = Ok plan
or_invalid None = Err EINVAL
