-- The words of templates.
use Rattle.std.proofs.Common.{◌≡◌, ℕ, ◌≤◌, Bool, true, false, ◌&&◌, if◌then◌else◌, List, [], ◌∷◌, length, refl, ap, sym, ◌∙◌, subst, arith, Option, Some, None, Ok, codes}
use Rattle.std.specs.Str.{bytes_eq}
use Rattle.std.proofs.lemmas.Slice.Eq.{bytes_eq-Decides}
use Rattle.std.specs.Option.{option_map}
use Rattle.std.specs.List.{find, list_all}
use Rattle.alg_names.specs.Name.{Tree, Args, node, end, arg, word_of, args_of, with_word_of}
use Rattle.templates.specs.declared.template_words.Template.{Template}
use Rattle.templates.specs.declared.template_words.Template.TheVariants.{Gcm, Cryptd, CryptdPcrypt}
use Rattle.templates.specs.Table.{over_pcrypt, template_at, asked}
use Rattle.templates.specs.Words.{template_word, named_templates, template_named}

same_template : {t u : Template} → Some t ≡ Some u → t ≡ u
same_template e = cc

-- what a search finds passes its test, and is one of those that it went over
found_passes : (test holds : Template → Bool) (ts : List Template) (t : Template) → list_all holds ts ≡ true → find test ts ≡ Some t → (test t ≡ true) × (holds t ≡ true)
found_passes test holds [] t all e = absurd cc
found_passes test holds (u ∷ us) t all e = by_test (test u) (holds u) refl refl all e (λ later f. found_passes test holds us t later f)
  where
    by_test : (b h : Bool) → test u ≡ b → holds u ≡ h → (h && list_all holds us) ≡ true → (if b then Some u else find test us) ≡ Some t
        → (list_all holds us ≡ true → find test us ≡ Some t → (test t ≡ true) × (holds t ≡ true)) → (test t ≡ true) × (holds t ≡ true)
    by_test b false p q both f later = absurd cc
    by_test true true p q both f later = subst (λ v. (test v ≡ true) × (holds v ≡ true)) (same_template f) (p, q)
    by_test false true p q both f later = later both f

-- not `cryptd` over `pcrypt` alone, which no word names
abbrev has_own_word : Template → Bool
has_own_word CryptdPcrypt = false
has_own_word _ = true

found_named : (holds : Template → Bool) (w : List ℕ) (t : Template) → list_all holds named_templates ≡ true → template_named w ≡ Some t
    → (bytes_eq w (template_word t) ≡ true) × (holds t ≡ true)
unfolding template_named
found_named holds w t all q = found_passes (λ u. bytes_eq w (template_word u)) holds named_templates t all q

-- a word that names a template is its word
pub named_word : (w : List ℕ) (t : Template) → template_named w ≡ Some t → w ≡ template_word t
named_word w t q = (bytes_eq-Decides w (template_word t)).0 (found_named has_own_word w t refl q).0

-- what holds of each template that is named holds of the one that a word names
pub named_holds : (holds : Template → Bool) (w : List ℕ) (t : Template) → list_all holds named_templates ≡ true → template_named w ≡ Some t → holds t ≡ true
named_holds holds w t all q = (found_named holds w t all q).1

-- no word names `cryptd` over `pcrypt` alone
pub no_word : (w : List ℕ) → template_named w ≡ Some CryptdPcrypt → ⊥
no_word w q = absurd (let e = named_holds has_own_word w CryptdPcrypt refl q in cc)

over_word : (template : Template) (args : List Tree) → template_word (over_pcrypt template args) ≡ template_word template
over_word Cryptd (x ∷ []) = either_word (bytes_eq (word_of x) (codes "pcrypt"))
  where
    either_word : (b : Bool) → template_word (if b then CryptdPcrypt else Cryptd) ≡ template_word Cryptd
    either_word true = refl
    either_word false = refl
over_word template args = refl

-- the template of a word over these arguments
abbrev pub template_over : List ℕ → List Tree → Option Template
template_over w args = option_map (λ u. over_pcrypt u args) (template_named w)

-- a name of a template has its word
pub word_at : (w : List ℕ) (args : List Tree) (template : Template) → template_over w args ≡ Some template → w ≡ template_word template
word_at w args template e = by_named (template_named w) refl e
  where
    by_named : (o : Option Template) → template_named w ≡ o → option_map (λ u. over_pcrypt u args) o ≡ Some template → w ≡ template_word template
    by_named None q f = absurd cc
    by_named (Some u) q f = named_word w u q ∙ (sym (over_word u args) ∙ ap template_word (same_template f))

-- what `cryptd` over `pcrypt` alone is
pub queued_at : (w : List ℕ) (x : Tree) → template_over w (x ∷ []) ≡ Some CryptdPcrypt → (bytes_eq w (codes "cryptd") ≡ true) × (bytes_eq (word_of x) (codes "pcrypt") ≡ true)
queued_at w x e = ((bytes_eq-Decides w (codes "cryptd")).1 (word_at w (x ∷ []) CryptdPcrypt e), by_named (template_named w) refl e)
  where
    by_inner : (b : Bool) → Some (if b then CryptdPcrypt else Cryptd) ≡ Some CryptdPcrypt → b ≡ true
    by_inner true f = refl
    by_inner false f = absurd cc

    by_named : (o : Option Template) → template_named w ≡ o → option_map (λ u. over_pcrypt u (x ∷ [])) o ≡ Some CryptdPcrypt → bytes_eq (word_of x) (codes "pcrypt") ≡ true
    by_named None q f = absurd cc
    by_named (Some Cryptd) q f = by_inner (bytes_eq (word_of x) (codes "pcrypt")) f
    by_named (Some CryptdPcrypt) q f = absurd (no_word w q)
    by_named (Some u) q f = absurd cc

cryptd_named : template_named (codes "cryptd") ≡ Some Cryptd
unfolding template_named
cryptd_named = refl

pub is_queued : (w : List ℕ) (x : Tree) → bytes_eq w (codes "cryptd") ≡ true → bytes_eq (word_of x) (codes "pcrypt") ≡ true → template_over w (x ∷ []) ≡ Some CryptdPcrypt
is_queued w x p q =
    ap (λ o. option_map (λ u. over_pcrypt u (x ∷ [])) o) (ap template_named ((bytes_eq-Decides w (codes "cryptd")).0 p) ∙ cryptd_named)
    ∙ ap (λ b. Some (if b then CryptdPcrypt else Cryptd)) q

pub gcm_at : (t : Tree) → template_at t ≡ Some Gcm → bytes_eq (word_of t) (codes "gcm") ≡ true
gcm_at t e = (bytes_eq-Decides (word_of t) (codes "gcm")).1 (word_at (word_of t) (args_of t) Gcm e)

pub gcm_length : (t : Tree) → template_at t ≡ Some Gcm → 3 ≤ length (word_of t)
gcm_length t e = let l : length (word_of t) ≡ 3 = ap length (word_at (word_of t) (args_of t) Gcm e) in omega arith

one_of : (ts : Args) (t : Tree) → length (args_of t) ≡ 1 → asked Gcm (args_of t) ≡ Ok (with_word_of t (codes "ctr") ∷ node (codes "ghash") end ∷ [])
one_of ts (node w end) l = absurd (omega (arith, l))
one_of ts (node w (arg x end)) l = refl
one_of ts (node w (arg x (arg y us))) l = absurd (omega (arith, l))

pub asked_gcm : (t u : Tree) (names : List Tree) → length (args_of t) ≡ 1 → u ≡ with_word_of t (codes "ctr") → names ≡ u ∷ node (codes "ghash") end ∷ [] → asked Gcm (args_of t) ≡ Ok names
asked_gcm t u names l e f = one_of end t l ∙ ap (λ v. Ok (v ∷ node (codes "ghash") end ∷ [])) (sym e) ∙ ap (λ ns. Ok ns) (sym f)
