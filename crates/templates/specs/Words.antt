-- The words of templates.
use Rattle.std.specs.Prelude.{ℕ, List, [], ◌∷◌, Option, codes}
use Rattle.std.specs.List.{find}
use Rattle.std.specs.Str.{bytes_eq}
use Rattle.templates.specs.declared.template_words.Template.{Template}
use Rattle.templates.specs.declared.template_words.Template.TheVariants.{Cbc, Ctr, Rfc3686, Xts, Gcm, GcmBase, Rfc4106, Ccm, Hmac, Cmac, Authenc, Pcrypt, Cryptd, CryptdPcrypt}

-- the word of a template; that of `cryptd` over `pcrypt` alone is the first of its two
abbrev pub template_word : Template → List ℕ
template_word Cbc = codes "cbc"
template_word Ctr = codes "ctr"
template_word Rfc3686 = codes "rfc3686"
template_word Xts = codes "xts"
template_word Gcm = codes "gcm"
template_word GcmBase = codes "gcm_base"
template_word Rfc4106 = codes "rfc4106"
template_word Ccm = codes "ccm"
template_word Hmac = codes "hmac"
template_word Cmac = codes "cmac"
template_word Authenc = codes "authenc"
template_word Pcrypt = codes "pcrypt"
template_word Cryptd = codes "cryptd"
template_word CryptdPcrypt = codes "cryptd"

-- the templates that a word names
abbrev pub named_templates : List Template
named_templates = Cbc ∷ Ctr ∷ Rfc3686 ∷ Xts ∷ Gcm ∷ GcmBase ∷ Rfc4106 ∷ Ccm ∷ Hmac ∷ Cmac ∷ Authenc ∷ Pcrypt ∷ Cryptd ∷ []

-- the template of a word
unfoldable pub template_named : List ℕ → Option Template
template_named word = find (λ template. bytes_eq word (template_word template)) named_templates
