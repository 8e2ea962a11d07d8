-- The templates: what each asks for, and what it makes of what it gets.
use Rattle.std.specs.Prelude.{ℕ, ◌+◌, ◌-◌, ◌*◌, ◌/◌, ◌≡◌, Bool, true, false, not, ◌&&◌, ◌||◌, nat_lt, if◌then◌else◌, List, [], ◌∷◌, ◌++◌, length, take, drop, Option, Some, None, Result, Ok, Err, codes, map, ⊤}
use Prim.Native.Nat.{min}
use Rattle.std.specs.Option.{option_map, option_map_or}
use Rattle.std.specs.Str.{bytes_eq}
use Rattle.kc_base.specs.declared.error_numbers.Errno.{Errno}
use Rattle.kc_base.specs.declared.error_numbers.Errno.TheVariants.{ENOENT, EINVAL, ENAMETOOLONG}
use Rattle.alg_registry.specs.declared.spec.Kind.{Kind}
use Rattle.alg_registry.specs.declared.spec.Kind.TheVariants.{Cipher, Hash, Ghash, Skcipher, Aead, Mac}
use Rattle.alg_registry.specs.declared.spec.Wrap.{Wrap}
use Rattle.alg_registry.specs.declared.spec.Wrap.TheVariants as wrap
use Rattle.alg_registry.specs.declared.spec.Spec.{Spec}
use Rattle.alg_registry.specs.Made.{Templates}
use Rattle.alg_registry.specs.Rows.{opened, opening}
use Rattle.alg_names.specs.Name.{Tree, node, end, arg, word_of, args_of, depth, width, spelling}
use Rattle.templates.specs.declared.template_words.Template.{Template}
use Rattle.templates.specs.declared.template_words.Template.TheVariants.{Cbc, Ctr, Rfc3686, Xts, Gcm, GcmBase, Rfc4106, Ccm, Hmac, Cmac, Authenc, Pcrypt, Cryptd, CryptdPcrypt}
use Rattle.templates.specs.declared.build_errors.BuildErr.{BuildErr}
use Rattle.templates.specs.declared.build_errors.BuildErr.TheVariants.{Fault, Memory}
use Rattle.alg_names.specs.Spelled.{tree_of}
use Rattle.templates.specs.Nesting.{is_nested_well}
use Rattle.templates.specs.Words.{template_named}

-- `cryptd` over `pcrypt` alone is a template of its own, which no word names
abbrev pub over_pcrypt : Template → List Tree → Template
over_pcrypt Cryptd (x ∷ []) = if bytes_eq (word_of x) (codes "pcrypt") then CryptdPcrypt else Cryptd
over_pcrypt template args = template

-- the template of a name
abbrev pub template_at : Tree → Option Template
template_at t = option_map (λ template. over_pcrypt template (args_of t)) (template_named (word_of t))

-- the only one
abbrev pub only_one : List Tree → Result (List Tree) Errno
only_one (x ∷ []) = Ok (x ∷ [])
only_one names = Err EINVAL

-- the names that a template asks for: its one argument, its two, the parts of which its one makes an instance, or what
-- stands within its one
pub data Arity : Type 0 where
  One : Arity
  Two : Arity
  Parts : Arity
  Within : Arity

abbrev pub arity : Template → Arity
arity Gcm = Parts
arity GcmBase = Two
arity Authenc = Two
arity CryptdPcrypt = Within
arity _ = One

abbrev pub asked_as : Arity → List Tree → Result (List Tree) Errno
asked_as One (x ∷ []) = Ok (x ∷ [])
asked_as Two (x ∷ y ∷ []) = Ok (x ∷ y ∷ [])
asked_as Parts (x ∷ []) = Ok (node (codes "ctr") (arg x end) ∷ node (codes "ghash") end ∷ [])
asked_as Within (x ∷ []) = only_one (args_of x)
asked_as _ args = Err EINVAL

-- the names that the template asks for, over its arguments
abbrev pub asked : Template → List Tree → Result (List Tree) Errno
asked template args = asked_as (arity template) args

abbrev pub asked_by : Option Template → List Tree → Result (List Tree) Errno
asked_by None args = Err ENOENT
asked_by (Some template) args = asked template args

-- the names that a name asks for
abbrev pub children_of : Tree → Result (List Tree) Errno
children_of name = asked_by (template_at name) (args_of name)

abbrev pub is_cipher : Kind → Bool
is_cipher Cipher = true
is_cipher _ = false

abbrev pub is_hash : Kind → Bool
is_hash Hash = true
is_hash _ = false

abbrev pub is_ghash : Kind → Bool
is_ghash Ghash = true
is_ghash _ = false

abbrev pub is_skcipher : Kind → Bool
is_skcipher Skcipher = true
is_skcipher _ = false

abbrev pub is_aead : Kind → Bool
is_aead Aead = true
is_aead _ = false

abbrev pub is_mac : Kind → Bool
is_mac Mac = true
is_mac _ = false

abbrev pub is_bare : Wrap → Bool
is_bare wrap.Plain = true
is_bare _ = false

abbrev pub begins_with : List ℕ → List ℕ → Bool
begins_with text front = bytes_eq (take (length front) text) front

-- a template takes only a child of the right kind, and authenc of the MACs HMAC alone
abbrev pub admits : Template → Spec → Bool
admits Cbc x = is_cipher x.kind
admits Ctr x = is_cipher x.kind
admits Rfc3686 x = begins_with x.name (codes "ctr(")
admits Xts x = is_cipher x.kind
admits Rfc4106 x = begins_with x.name (codes "gcm(") && is_bare x.wrap
admits Ccm x = is_cipher x.kind
admits Hmac x = is_hash x.kind
admits Cmac x = is_cipher x.kind
admits Pcrypt x = is_aead x.kind
admits Cryptd x = is_skcipher x.kind || is_aead x.kind || is_mac x.kind
admits CryptdPcrypt x = is_aead x.kind
admits _ x = false

abbrev pub admits_two : Template → Spec → Spec → Bool
admits_two Gcm c g = begins_with c.name (codes "ctr(") && is_ghash g.kind
admits_two GcmBase c g = begins_with c.name (codes "ctr(") && is_ghash g.kind
admits_two Authenc a e = is_mac a.kind && begins_with a.name (codes "hmac(") && is_skcipher e.kind
admits_two _ x y = false

-- `word(inner)`
abbrev pub enclosed : List ℕ → List ℕ → List ℕ
enclosed word inner = word ++ 40 ∷ [] ++ inner ++ 41 ∷ []

-- `word(first,second)`
abbrev pub enclosed_two : List ℕ → List ℕ → List ℕ → List ℕ
enclosed_two word first second = word ++ 40 ∷ [] ++ first ++ 44 ∷ [] ++ second ++ 41 ∷ []

-- what stands in the parentheses of `ctr(..)`
abbrev pub inside_ctr : List ℕ → List ℕ
inside_ctr name = take (length name - 1 - 4) (drop 4 name)

abbrev pub limited_priority : ℕ → ℕ
limited_priority p = min p 4294967295

abbrev pub name_over : Template → List ℕ → List ℕ → List ℕ
name_over Pcrypt word name = name
name_over Cryptd word name = name
name_over CryptdPcrypt word name = name
name_over _ word name = enclosed word name

abbrev pub kind_over : Template → Kind → Kind
kind_over Rfc4106 kind = Aead
kind_over Ccm kind = Aead
kind_over Hmac kind = Mac
kind_over Cmac kind = Mac
kind_over Pcrypt kind = Aead
kind_over Cryptd kind = kind
kind_over CryptdPcrypt kind = Aead
kind_over _ kind = Skcipher

abbrev pub wrap_of : Template → Wrap
wrap_of Pcrypt = wrap.Pcrypt
wrap_of Cryptd = wrap.Cryptd
wrap_of CryptdPcrypt = wrap.Cryptd
wrap_of _ = wrap.Plain

abbrev pub raised : Template → ℕ → ℕ
raised Pcrypt p = limited_priority (p + 100)
raised Cryptd p = limited_priority (p + 50)
raised CryptdPcrypt p = limited_priority (p + 150)
raised _ p = p

abbrev pub driver_over : Template → List ℕ → List ℕ → List ℕ
driver_over CryptdPcrypt word driver = enclosed word (enclosed (codes "pcrypt") driver)
driver_over _ word driver = enclosed word driver

abbrev pub name_over_two : Template → List ℕ → Spec → Spec → List ℕ
name_over_two Authenc word a e = enclosed_two word a.name e.name
name_over_two _ word c g = enclosed (codes "gcm") (inside_ctr c.name)

abbrev pub driver_over_two : Template → List ℕ → Spec → Spec → List ℕ
driver_over_two Authenc word a e = enclosed_two word a.driver e.driver
driver_over_two _ word c g = enclosed_two (codes "gcm_base") c.driver g.driver

abbrev pub priority_over_two : Template → Spec → Spec → ℕ
priority_over_two Authenc a e = limited_priority (e.priority * 10 + a.priority)
priority_over_two _ c g = (c.priority + g.priority) / 2

-- the instance, unless its name or its driver's is too long
abbrev pub limited : Spec → Result Spec Errno
limited spec = if nat_lt 127 (length spec.name) || nat_lt 127 (length spec.driver) then Err ENAMETOOLONG else Ok spec

abbrev pub over_one : Template → List ℕ → ℕ → Spec → Spec
over_one template word id x = record {
  name = name_over template word x.name;
  driver = driver_over template word x.driver;
  kind = kind_over template x.kind;
  wrap = wrap_of template;
  priority = raised template x.priority;
  below = id ∷ [];
}

abbrev pub over_two : Template → List ℕ → ℕ × Spec → ℕ × Spec → Spec
over_two template word x y = record {
  name = name_over_two template word x.1 y.1;
  driver = driver_over_two template word x.1 y.1;
  kind = Aead;
  wrap = wrap.Plain;
  priority = priority_over_two template x.1 y.1;
  below = x.0 ∷ y.0 ∷ [];
}

abbrev pub derived_over : Template → List ℕ → List (ℕ × Spec) → Result Spec Errno
derived_over template word (x ∷ []) = if admits template x.1 then limited (over_one template word x.0 x.1) else Err EINVAL
derived_over template word (x ∷ y ∷ []) = if admits_two template x.1 y.1 then limited (over_two template word x y) else Err EINVAL
derived_over template word _ = Err EINVAL

abbrev pub derived_by : Option Template → List ℕ → List (ℕ × Spec) → Result Spec Errno
derived_by None word below = Err ENOENT
derived_by (Some template) word below = derived_over template word below

-- the instance of a name over its children
abbrev pub derived_of : Tree → List (ℕ × Spec) → Result Spec Errno
derived_of name below = derived_by (template_at name) (word_of name) below

-- the call answers so, unless memory ran out
abbrev pub FaultIs : {A : Type 0} → BuildErr → Result A Errno → Type 0
FaultIs (Fault errno) r = r ≡ Err errno
FaultIs Memory r = ⊤

-- the drivers that stand on no other entry: those of the start, and those that are listed by a call alone
abbrev pub drivers : List Spec
drivers = opening ++ opened (codes "aes") (codes "aes-table") Cipher ∷ opened (codes "aes") (codes "aes-lanes") Cipher ∷ opened (codes "ghash") (codes "ghash-table") Ghash ∷ []

abbrev pub is_same_kind : Kind → Kind → Bool
is_same_kind Cipher = is_cipher
is_same_kind Hash = is_hash
is_same_kind Ghash = is_ghash
is_same_kind _ = λ kind. false

-- the entry is this driver, with some priority
abbrev pub is_same_driver : Spec → Spec → Bool
is_same_driver driver spec = bytes_eq spec.name driver.name && bytes_eq spec.driver driver.driver && is_same_kind driver.kind spec.kind

abbrev pub is_one_of : List Spec → Spec → Bool
is_one_of [] spec = false
is_one_of (driver ∷ drivers) spec = is_same_driver driver spec || is_one_of drivers spec

abbrev pub is_built_in : Spec → Bool
is_built_in spec = is_one_of drivers spec

abbrev pub is_allowed : List ℕ → Tree → Bool
is_allowed text t = not (nat_lt 127 (length text)) && not (nat_lt 8 (depth t)) && not (nat_lt 4 (width t)) && is_nested_well t

abbrev pub spellings : Result (List Tree) Errno → Result (List (List ℕ)) Errno
spellings (Ok ts) = Ok (map spelling ts)
spellings (Err errno) = Err errno

-- the table by texts
unfoldable pub table : Templates
table = record {
  is_name = λ text. option_map_or (is_allowed text) (tree_of text) false;
  is_driver = is_built_in;
  children = λ text. spellings (option_map_or children_of (tree_of text) (Err ENOENT));
  derived = λ text below. option_map_or (λ t. derived_of t below) (tree_of text) (Err ENOENT);
}
