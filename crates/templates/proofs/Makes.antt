-- What an entry can be: one of the drivers, or what a template makes of entries.
use Rattle.std.proofs.Common.{◌≡◌, ℕ, zero, suc, Bool, true, false, ◌&&◌, ◌||◌, if◌then◌else◌, ◌⊎◌, inl, inr, List, [], ◌∷◌, ◌++◌, length, refl, ap, sym, ◌∙◌, subst, append_assoc, Option, Some, None, Result, Ok, Err, codes}
use Rattle.std.specs.List.{AllByRecursion}
use Rattle.std.specs.Prelude.{slice_get, nat_lt, ⊤}
use Rattle.std.specs.Option.{option_map_or}
use Rattle.std.specs.Str.{bytes_eq}
use Rattle.std.proofs.lemmas.Slice.Eq.{bytes_eq-Decides}
use Rattle.kc_base.specs.declared.error_numbers.Errno.{Errno}
use Rattle.kc_base.specs.declared.error_numbers.Errno.TheVariants.{EINVAL, ENAMETOOLONG}
use Rattle.alg_registry.specs.declared.spec.Kind.{Kind}
use Rattle.alg_registry.specs.declared.spec.Kind.TheVariants.{Cipher, Hash, Ghash, Skcipher, Aead, Mac}
use Rattle.alg_registry.specs.declared.spec.Wrap.TheVariants as wrap
use Rattle.alg_registry.specs.declared.spec.Spec.{Spec}
use Rattle.alg_registry.specs.Rows.{opening}
use Rattle.alg_names.specs.Name.{Tree, node, end, arg, word_of, args_of, spelling}
use Rattle.templates.specs.declared.template_words.Template.{Template}
use Rattle.templates.specs.declared.template_words.Template.TheVariants as template
use Rattle.templates.specs.declared.driver_plans.AesForm.{AesForm}
use Rattle.templates.specs.declared.driver_plans.AesForm.TheVariants.{AesGeneric, AesTable, AesLanes}
use Rattle.templates.specs.declared.driver_plans.GhashForm.{GhashForm}
use Rattle.templates.specs.declared.driver_plans.GhashForm.TheVariants.{GhashGeneric, GhashTable}
use Rattle.templates.specs.Nesting.{is_wrapper_word}
use Rattle.templates.specs.Table.{template_at, is_cipher, is_hash, is_ghash, is_skcipher, is_aead, is_mac, is_bare, begins_with, admits, admits_two, enclosed, enclosed_two, limited, over_one, over_two, derived_over, derived_by, derived_of, drivers, is_same_driver, is_same_kind, is_one_of, is_built_in, wrap_of}
use Rattle.templates.specs.Words.{template_word, template_named}
use Rattle.templates.specs.Planned.{is_basic}
use Rattle.templates.proofs.Words.{word_at}

pub data Make : Type 0 where
  cipher : AesForm → Make
  sha256 : Make
  ghash : GhashForm → Make
  cbc : AesForm → Make
  ctr : AesForm → Make
  rfc3686 : AesForm → Make
  xts : AesForm → Make
  gcm : AesForm → GhashForm → Make
  rfc4106 : AesForm → GhashForm → Make
  ccm : AesForm → Make
  hmac : Make
  cmac : AesForm → Make
  authenc_cbc : AesForm → Make
  authenc_ctr : AesForm → Make
  authenc_rfc3686 : AesForm → Make
  authenc_xts : AesForm → Make

abbrev pub aes_word : AesForm → List ℕ
aes_word AesGeneric = codes "aes-generic"
aes_word AesTable = codes "aes-table"
aes_word AesLanes = codes "aes-lanes"

abbrev pub ghash_word : GhashForm → List ℕ
ghash_word GhashGeneric = codes "ghash-generic"
ghash_word GhashTable = codes "ghash-table"

-- the names of drivers
abbrev pub over : List ℕ → Tree → Tree
over word t = node word (arg t end)

abbrev pub over_both : List ℕ → Tree → Tree → Tree
over_both word t u = node word (arg t (arg u end))

abbrev pub cipher_tree : AesForm → Tree
cipher_tree a = node (aes_word a) end

abbrev pub ghash_tree : GhashForm → Tree
ghash_tree g = node (ghash_word g) end

abbrev pub ctr_tree : AesForm → Tree
ctr_tree a = over (codes "ctr") (cipher_tree a)

abbrev pub cbc_tree : AesForm → Tree
cbc_tree a = over (codes "cbc") (cipher_tree a)

abbrev pub rfc3686_tree : AesForm → Tree
rfc3686_tree a = over (codes "rfc3686") (ctr_tree a)

abbrev pub xts_tree : AesForm → Tree
xts_tree a = over (codes "xts") (cipher_tree a)

abbrev pub gcm_tree : AesForm → GhashForm → Tree
gcm_tree a g = over_both (codes "gcm_base") (ctr_tree a) (ghash_tree g)

abbrev pub hmac_tree : Tree
hmac_tree = over (codes "hmac") (node (codes "sha256-generic") end)

abbrev pub ccm_tree : AesForm → Tree
ccm_tree a = over (codes "ccm") (cipher_tree a)

abbrev pub cmac_tree : AesForm → Tree
cmac_tree a = over (codes "cmac") (cipher_tree a)

abbrev pub tree_of_make : Make → Tree
tree_of_make (cipher a) = cipher_tree a
tree_of_make sha256 = node (codes "sha256-generic") end
tree_of_make (ghash g) = ghash_tree g
tree_of_make (cbc a) = cbc_tree a
tree_of_make (ctr a) = ctr_tree a
tree_of_make (rfc3686 a) = rfc3686_tree a
tree_of_make (xts a) = xts_tree a
tree_of_make (gcm a g) = gcm_tree a g
tree_of_make (rfc4106 a g) = over (codes "rfc4106") (gcm_tree a g)
tree_of_make (ccm a) = ccm_tree a
tree_of_make hmac = hmac_tree
tree_of_make (cmac a) = cmac_tree a
tree_of_make (authenc_cbc a) = over_both (codes "authenc") hmac_tree (cbc_tree a)
tree_of_make (authenc_ctr a) = over_both (codes "authenc") hmac_tree (ctr_tree a)
tree_of_make (authenc_rfc3686 a) = over_both (codes "authenc") hmac_tree (rfc3686_tree a)
tree_of_make (authenc_xts a) = over_both (codes "authenc") hmac_tree (xts_tree a)

abbrev pub kind_of_make : Make → Kind
kind_of_make (cipher a) = Cipher
kind_of_make sha256 = Hash
kind_of_make (ghash g) = Ghash
kind_of_make (cbc a) = Skcipher
kind_of_make (ctr a) = Skcipher
kind_of_make (rfc3686 a) = Skcipher
kind_of_make (xts a) = Skcipher
kind_of_make hmac = Mac
kind_of_make (cmac a) = Mac
kind_of_make _ = Aead

abbrev pub is_ctr : Make → Bool
is_ctr (ctr a) = true
is_ctr _ = false

abbrev pub is_gcm : Make → Bool
is_gcm (gcm a g) = true
is_gcm _ = false

abbrev pub is_hmac : Make → Bool
is_hmac hmac = true
is_hmac _ = false

-- the entry is what the drivers or the templates make, under no wrapper
pub record IsPlainAs (s : Spec) (m : Make) : Type 0 where
  pub bare : is_bare s.wrap ≡ true
  pub kind : s.kind ≡ kind_of_make m
  pub driver : s.driver ≡ spelling (tree_of_make m)
  pub begins_ctr : begins_with s.name (codes "ctr(") ≡ is_ctr m
  pub begins_gcm : begins_with s.name (codes "gcm(") ≡ is_gcm m
  pub begins_hmac : begins_with s.name (codes "hmac(") ≡ is_hmac m

-- the word of a wrapper, and what stands in its parentheses over this name: the name itself, or `pcrypt` over it under
-- `cryptd`
abbrev pub Wraps : List ℕ → Tree → Tree → Type 0
Wraps word inner t = ((word ≡ codes "pcrypt") × (inner ≡ t)) ⊎ (((word ≡ codes "cryptd") × (inner ≡ t)) ⊎ ((word ≡ codes "cryptd") × (inner ≡ over (codes "pcrypt") t)))

-- it is that under `pcrypt`, under `cryptd`, or under both
pub record IsWrappedAs (s : Spec) (m : Make) : Type 0 where
  pub word : List ℕ
  pub inner : Tree
  pub form : Wraps word inner (tree_of_make m)
  pub wraps : s.wrap ≡ option_map_or wrap_of (template_named word) wrap.Plain
  pub wrapped : is_bare s.wrap ≡ false
  pub kind : s.kind ≡ kind_of_make m
  pub planned : is_basic (kind_of_make m) ≡ false
  pub driver : s.driver ≡ spelling (over word inner)

abbrev pub Known : Spec → Type 0
Known s = (m : Make) × (IsPlainAs s m ⊎ IsWrappedAs s m)

abbrev pub IsPlain : Spec → Type 0
IsPlain s = (m : Make) × IsPlainAs s m

abbrev pub ArePlain : List (ℕ × Spec) → Type 0
ArePlain below = AllByRecursion (λ b. IsPlain b.1) below

-- ---- what a kind or a name tells

only_cipher : (m : Make) → is_cipher (kind_of_make m) ≡ true → (a : AesForm) × (m ≡ cipher a)
only_cipher (cipher a) e = (a, refl)
only_cipher _ e = absurd cc

only_sha256 : (m : Make) → is_hash (kind_of_make m) ≡ true → m ≡ sha256
only_sha256 sha256 e = refl
only_sha256 _ e = absurd cc

only_ghash : (m : Make) → is_ghash (kind_of_make m) ≡ true → (g : GhashForm) × (m ≡ ghash g)
only_ghash (ghash g) e = (g, refl)
only_ghash _ e = absurd cc

only_hmac : (m : Make) → is_hmac m ≡ true → m ≡ hmac
only_hmac hmac e = refl
only_hmac _ e = absurd cc

only_ctr : (m : Make) → is_ctr m ≡ true → (a : AesForm) × (m ≡ ctr a)
only_ctr (ctr a) e = (a, refl)
only_ctr _ e = absurd cc

only_gcm : (m : Make) → is_gcm m ≡ true → (a : AesForm) × (g : GhashForm) × (m ≡ gcm a g)
only_gcm (gcm a g) e = (a, g, refl)
only_gcm _ e = absurd cc

-- what `authenc` makes over a cipher
abbrev with_hmac : Make → Make
with_hmac (ctr a) = authenc_ctr a
with_hmac (rfc3686 a) = authenc_rfc3686 a
with_hmac (xts a) = authenc_xts a
with_hmac (cbc a) = authenc_cbc a
with_hmac m = m

record IsAuthenc (m n : Make) : Type 0 where
  tree : tree_of_make n ≡ over_both (codes "authenc") hmac_tree (tree_of_make m)
  kind : Aead ≡ kind_of_make n
  no_ctr : false ≡ is_ctr n
  no_gcm : false ≡ is_gcm n
  no_hmac : false ≡ is_hmac n

authenc_over : (m : Make) → is_skcipher (kind_of_make m) ≡ true → IsAuthenc m (with_hmac m)
authenc_over (cbc a) e = record { tree = refl; kind = refl; no_ctr = refl; no_gcm = refl; no_hmac = refl }
authenc_over (ctr a) e = record { tree = refl; kind = refl; no_ctr = refl; no_gcm = refl; no_hmac = refl }
authenc_over (rfc3686 a) e = record { tree = refl; kind = refl; no_ctr = refl; no_gcm = refl; no_hmac = refl }
authenc_over (xts a) e = record { tree = refl; kind = refl; no_ctr = refl; no_gcm = refl; no_hmac = refl }
authenc_over _ e = absurd cc

only_aead : (k : Kind) → is_aead k ≡ true → Aead ≡ k
only_aead Aead e = refl
only_aead _ e = absurd cc

aead_planned : (k : Kind) → is_aead k ≡ true → is_basic k ≡ false
aead_planned Aead e = refl
aead_planned _ e = absurd cc

wrapped_planned : (k : Kind) → (is_skcipher k || is_aead k || is_mac k) ≡ true → is_basic k ≡ false
wrapped_planned Skcipher e = refl
wrapped_planned Aead e = refl
wrapped_planned Mac e = refl
wrapped_planned _ e = absurd cc

pub left_true : (a b : Bool) → (a && b) ≡ true → a ≡ true
left_true true b e = refl
left_true false b e = absurd cc

pub right_true : (a b : Bool) → (a && b) ≡ true → b ≡ true
right_true true b e = e
right_true false b e = absurd cc

-- ---- spellings

enclosed-tree : (w d : List ℕ) (t : Tree) → d ≡ spelling t → enclosed w d ≡ spelling (over w t)
enclosed-tree w d t e =
    append_assoc (w ++ 40 ∷ []) d (41 ∷ [])
    ∙ (append_assoc w (40 ∷ []) (d ++ 41 ∷ []) ∙ ap (λ x. w ++ 40 ∷ (x ++ 41 ∷ [])) e)

enclosed_two-tree : (w d f : List ℕ) (t u : Tree) → d ≡ spelling t → f ≡ spelling u → enclosed_two w d f ≡ spelling (over_both w t u)
enclosed_two-tree w d f t u e k =
    append_assoc ((((w ++ 40 ∷ []) ++ d) ++ 44 ∷ [])) f (41 ∷ [])
    ∙ (append_assoc ((w ++ 40 ∷ []) ++ d) (44 ∷ []) (f ++ 41 ∷ [])
    ∙ (append_assoc (w ++ 40 ∷ []) d (44 ∷ (f ++ 41 ∷ []))
    ∙ (append_assoc w (40 ∷ []) (d ++ 44 ∷ (f ++ 41 ∷ []))
    ∙ (ap (λ x. w ++ 40 ∷ (x ++ 44 ∷ (f ++ 41 ∷ []))) e ∙ ap (λ x. w ++ 40 ∷ (spelling t ++ 44 ∷ (x ++ 41 ∷ []))) k))))

-- ---- what the templates make

pcrypt_wraps : wrap.Pcrypt ≡ option_map_or wrap_of (template_named (codes "pcrypt")) wrap.Plain
unfolding template_named
pcrypt_wraps = refl

cryptd_wraps : wrap.Cryptd ≡ option_map_or wrap_of (template_named (codes "cryptd")) wrap.Plain
unfolding template_named
cryptd_wraps = refl

one-known : (t : Template) (id : ℕ) (x : Spec) (m : Make) → IsPlainAs x m → admits t x ≡ true → Known (over_one t (template_word t) id x)
one-known template.Cbc id x m p e =
    let i = only_cipher m (sym (ap is_cipher p.kind) ∙ e) in
    (cbc i.0, inl (record { bare = refl; kind = refl; driver = enclosed-tree (codes "cbc") x.driver (cipher_tree i.0) (p.driver ∙ ap (λ n. spelling (tree_of_make n)) i.1); begins_ctr = refl; begins_gcm = refl; begins_hmac = refl }))
one-known template.Ctr id x m p e =
    let i = only_cipher m (sym (ap is_cipher p.kind) ∙ e) in
    (ctr i.0, inl (record { bare = refl; kind = refl; driver = enclosed-tree (codes "ctr") x.driver (cipher_tree i.0) (p.driver ∙ ap (λ n. spelling (tree_of_make n)) i.1); begins_ctr = refl; begins_gcm = refl; begins_hmac = refl }))
one-known template.Xts id x m p e =
    let i = only_cipher m (sym (ap is_cipher p.kind) ∙ e) in
    (xts i.0, inl (record { bare = refl; kind = refl; driver = enclosed-tree (codes "xts") x.driver (cipher_tree i.0) (p.driver ∙ ap (λ n. spelling (tree_of_make n)) i.1); begins_ctr = refl; begins_gcm = refl; begins_hmac = refl }))
one-known template.Rfc3686 id x m p e =
    let i = only_ctr m (sym p.begins_ctr ∙ e) in
    (rfc3686 i.0, inl (record { bare = refl; kind = refl; driver = enclosed-tree (codes "rfc3686") x.driver (ctr_tree i.0) (p.driver ∙ ap (λ n. spelling (tree_of_make n)) i.1); begins_ctr = refl; begins_gcm = refl; begins_hmac = refl }))
one-known template.Rfc4106 id x m p e =
    let i = only_gcm m (sym p.begins_gcm ∙ left_true (begins_with x.name (codes "gcm(")) (is_bare x.wrap) e) in
    (rfc4106 i.0 i.1, inl (record { bare = refl; kind = refl; driver = enclosed-tree (codes "rfc4106") x.driver (gcm_tree i.0 i.1) (p.driver ∙ ap (λ n. spelling (tree_of_make n)) i.2); begins_ctr = refl; begins_gcm = refl; begins_hmac = refl }))
one-known template.Ccm id x m p e =
    let i = only_cipher m (sym (ap is_cipher p.kind) ∙ e) in
    (ccm i.0, inl (record { bare = refl; kind = refl; driver = enclosed-tree (codes "ccm") x.driver (cipher_tree i.0) (p.driver ∙ ap (λ n. spelling (tree_of_make n)) i.1); begins_ctr = refl; begins_gcm = refl; begins_hmac = refl }))
one-known template.Hmac id x m p e =
    let i = only_sha256 m (sym (ap is_hash p.kind) ∙ e) in
    (hmac, inl (record { bare = refl; kind = refl; driver = enclosed-tree (codes "hmac") x.driver (node (codes "sha256-generic") end) (p.driver ∙ ap (λ n. spelling (tree_of_make n)) i); begins_ctr = refl; begins_gcm = refl; begins_hmac = refl }))
one-known template.Cmac id x m p e =
    let i = only_cipher m (sym (ap is_cipher p.kind) ∙ e) in
    (cmac i.0, inl (record { bare = refl; kind = refl; driver = enclosed-tree (codes "cmac") x.driver (cipher_tree i.0) (p.driver ∙ ap (λ n. spelling (tree_of_make n)) i.1); begins_ctr = refl; begins_gcm = refl; begins_hmac = refl }))
one-known template.Pcrypt id x m p e =
    let k : is_aead (kind_of_make m) ≡ true = sym (ap is_aead p.kind) ∙ e in
    (m, inr (record { word = codes "pcrypt"; inner = tree_of_make m; form = inl (refl, refl); wraps = pcrypt_wraps; wrapped = refl; kind = only_aead (kind_of_make m) k; planned = aead_planned (kind_of_make m) k; driver = enclosed-tree (codes "pcrypt") x.driver (tree_of_make m) p.driver }))
one-known template.Cryptd id x m p e =
    let k : (is_skcipher (kind_of_make m) || is_aead (kind_of_make m) || is_mac (kind_of_make m)) ≡ true = sym (ap (λ k. is_skcipher k || is_aead k || is_mac k) p.kind) ∙ e in
    (m, inr (record { word = codes "cryptd"; inner = tree_of_make m; form = inr (inl (refl, refl)); wraps = cryptd_wraps; wrapped = refl; kind = p.kind; planned = wrapped_planned (kind_of_make m) k; driver = enclosed-tree (codes "cryptd") x.driver (tree_of_make m) p.driver }))
one-known template.CryptdPcrypt id x m p e =
    let k : is_aead (kind_of_make m) ≡ true = sym (ap is_aead p.kind) ∙ e in (
      m,
      inr (record {
        word = codes "cryptd";
        inner = over (codes "pcrypt") (tree_of_make m);
        form = inr (inr (refl, refl));
        wraps = cryptd_wraps;
        wrapped = refl;
        kind = only_aead (kind_of_make m) k;
        planned = aead_planned (kind_of_make m) k;
        driver = enclosed-tree (codes "cryptd") (enclosed (codes "pcrypt") x.driver) (over (codes "pcrypt") (tree_of_make m)) (enclosed-tree (codes "pcrypt") x.driver (tree_of_make m) p.driver);
      }),
    )
one-known template.Gcm id x m p e = absurd cc
one-known template.GcmBase id x m p e = absurd cc
one-known template.Authenc id x m p e = absurd cc

galois : (x y : ℕ × Spec) (m n : Make) → IsPlainAs x.1 m → IsPlainAs y.1 n → (begins_with x.1.name (codes "ctr(") && is_ghash y.1.kind) ≡ true
    → (a : AesForm) × (g : GhashForm) × (enclosed_two (codes "gcm_base") x.1.driver y.1.driver ≡ spelling (gcm_tree a g))
galois x y m n p q e =
    let i = only_ctr m (sym p.begins_ctr ∙ left_true (begins_with x.1.name (codes "ctr(")) (is_ghash y.1.kind) e) in
    let j = only_ghash n (sym (ap is_ghash q.kind) ∙ right_true (begins_with x.1.name (codes "ctr(")) (is_ghash y.1.kind) e) in
    (i.0, j.0, enclosed_two-tree (codes "gcm_base") x.1.driver y.1.driver (ctr_tree i.0) (ghash_tree j.0) (p.driver ∙ ap (λ k. spelling (tree_of_make k)) i.1) (q.driver ∙ ap (λ k. spelling (tree_of_make k)) j.1))

two-known : (t : Template) (x y : ℕ × Spec) (m n : Make) → IsPlainAs x.1 m → IsPlainAs y.1 n → admits_two t x.1 y.1 ≡ true → Known (over_two t (template_word t) x y)
two-known template.Gcm x y m n p q e =
    let i = galois x y m n p q e in
    (gcm i.0 i.1, inl (record { bare = refl; kind = refl; driver = i.2; begins_ctr = refl; begins_gcm = refl; begins_hmac = refl }))
two-known template.GcmBase x y m n p q e =
    let i = galois x y m n p q e in
    (gcm i.0 i.1, inl (record { bare = refl; kind = refl; driver = i.2; begins_ctr = refl; begins_gcm = refl; begins_hmac = refl }))
two-known template.Authenc x y m n p q e =
    let has_hmac : Bool = is_mac x.1.kind && begins_with x.1.name (codes "hmac(") in
    let i = only_hmac m (sym p.begins_hmac ∙ right_true (is_mac x.1.kind) (begins_with x.1.name (codes "hmac(")) (left_true has_hmac (is_skcipher y.1.kind) e)) in
    let j = authenc_over n (sym (ap is_skcipher q.kind) ∙ right_true has_hmac (is_skcipher y.1.kind) e) in (
      with_hmac n,
      inl (record {
        bare = refl;
        kind = j.kind;
        driver = enclosed_two-tree (codes "authenc") x.1.driver y.1.driver hmac_tree (tree_of_make n) (p.driver ∙ ap (λ k. spelling (tree_of_make k)) i) q.driver ∙ ap spelling (sym j.tree);
        begins_ctr = j.no_ctr;
        begins_gcm = j.no_gcm;
        begins_hmac = j.no_hmac;
      }),
    )
two-known _ x y m n p q e = absurd cc

-- nothing but `pcrypt` and `cryptd` wraps
one-bare : (t : Template) → is_wrapper_word (template_word t) ≡ false → is_bare (wrap_of t) ≡ true
one-bare template.Pcrypt e = absurd cc
one-bare template.Cryptd e = absurd cc
one-bare template.CryptdPcrypt e = absurd cc
one-bare _ e = refl

if_ok : (b : Bool) (r : Result Spec Errno) (spec : Spec) → (if b then r else Err EINVAL) ≡ Ok spec → (b ≡ true) × (r ≡ Ok spec)
if_ok true r spec e = (refl, e)
if_ok false r spec e = absurd cc

limited_ok : (s spec : Spec) → limited s ≡ Ok spec → s ≡ spec
limited_ok s spec e = by_test (nat_lt 127 (length s.name) || nat_lt 127 (length s.driver)) e
  where
    by_test : (b : Bool) → (if b then Err ENAMETOOLONG else Ok s) ≡ Ok spec → s ≡ spec
    by_test true q = absurd cc
    by_test false q = cc

-- what a name makes of plain entries
pub record IsMadeSo (word : List ℕ) (spec : Spec) : Type 0 where
  pub known : Known spec
  pub bare : is_wrapper_word word ≡ false → is_bare spec.wrap ≡ true

over_plain : (word : List ℕ) (t : Template) (below : List (ℕ × Spec)) (spec : Spec) → word ≡ template_word t → ArePlain below → derived_over t word below ≡ Ok spec → IsMadeSo word spec
over_plain word t [] spec w plain e = absurd cc
over_plain word t (x ∷ []) spec w plain e =
    let f = if_ok (admits t x.1) (limited (over_one t word x.0 x.1)) spec e in
    let g = limited_ok (over_one t word x.0 x.1) spec f.1 in
    subst (λ s. IsMadeSo word s) g (record {
      known = subst (λ v. Known (over_one t v x.0 x.1)) (sym w) (one-known t x.0 x.1 plain.0.0 plain.0.1 f.0);
      bare = λ no. one-bare t (ap is_wrapper_word (sym w) ∙ no);
    })
over_plain word t (x ∷ y ∷ []) spec w plain e =
    let f = if_ok (admits_two t x.1 y.1) (limited (over_two t word x y)) spec e in
    let g = limited_ok (over_two t word x y) spec f.1 in
    subst (λ s. IsMadeSo word s) g (record {
      known = subst (λ v. Known (over_two t v x y)) (sym w) (two-known t x y plain.0.0 plain.1.0.0 plain.0.1 plain.1.0.1 f.0);
      bare = λ no. refl;
    })
over_plain word t (x ∷ y ∷ z ∷ zs) spec w plain e = absurd cc

pub derived-plain : (t : Tree) (below : List (ℕ × Spec)) (spec : Spec) → ArePlain below → derived_of t below ≡ Ok spec → IsMadeSo (word_of t) spec
derived-plain t below spec plain e = by_template (template_at t) refl e
  where
    by_template : (o : Option Template) → template_at t ≡ o → derived_by o (word_of t) below ≡ Ok spec → IsMadeSo (word_of t) spec
    by_template None q f = absurd cc
    by_template (Some template) q f = over_plain (word_of t) template below spec (word_at (word_of t) (args_of t) template q) plain f

-- ---- the drivers

either : (a b : Bool) → (a || b) ≡ true → (a ≡ true) ⊎ (b ≡ true)
either true b e = inl refl
either false b e = inr e

only_kind : (k : Kind) → is_cipher k ≡ true → k ≡ Cipher
only_kind Cipher e = refl
only_kind _ e = absurd cc

only_hash : (k : Kind) → is_hash k ≡ true → k ≡ Hash
only_hash Hash e = refl
only_hash _ e = absurd cc

only_ghash_kind : (k : Kind) → is_ghash k ≡ true → k ≡ Ghash
only_ghash_kind Ghash e = refl
only_ghash_kind _ e = absurd cc

-- the spec has the name, the driver and the kind of a driver of the table
same_driver : (driver spec : Spec) → is_same_driver driver spec ≡ true → (spec.name ≡ driver.name) × (spec.driver ≡ driver.driver) × (is_same_kind driver.kind spec.kind ≡ true)
same_driver driver spec e =
    let f = left_true (bytes_eq spec.name driver.name && bytes_eq spec.driver driver.driver) (is_same_kind driver.kind spec.kind) e in (
      (bytes_eq-Decides spec.name driver.name).0 (left_true (bytes_eq spec.name driver.name) (bytes_eq spec.driver driver.driver) f),
      (bytes_eq-Decides spec.driver driver.driver).0 (right_true (bytes_eq spec.name driver.name) (bytes_eq spec.driver driver.driver) f),
      right_true (bytes_eq spec.name driver.name && bytes_eq spec.driver driver.driver) (is_same_kind driver.kind spec.kind) e,
    )

same_kind : (k j : Kind) → is_same_kind k j ≡ true → j ≡ k
same_kind Cipher j e = only_kind j e
same_kind Hash j e = only_hash j e
same_kind Ghash j e = only_ghash_kind j e
same_kind Skcipher j e = absurd cc
same_kind Aead j e = absurd cc
same_kind Mac j e = absurd cc

as_driver : (driver spec : Spec) (m : Make) → IsPlainAs driver m → spec.wrap ≡ wrap.Plain → is_same_driver driver spec ≡ true → Known spec
as_driver driver spec m p plain e =
    let i = same_driver driver spec e in (
      m,
      inl (record {
        bare = ap is_bare plain;
        kind = same_kind driver.kind spec.kind i.2 ∙ p.kind;
        driver = i.1 ∙ p.driver;
        begins_ctr = ap (λ n. begins_with n (codes "ctr(")) i.0 ∙ p.begins_ctr;
        begins_gcm = ap (λ n. begins_with n (codes "gcm(")) i.0 ∙ p.begins_gcm;
        begins_hmac = ap (λ n. begins_with n (codes "hmac(")) i.0 ∙ p.begins_hmac;
      }),
    )

-- each driver of a table is what one of these makes is
abbrev AreAs : List Spec → List Make → Type 0
AreAs (driver ∷ ds) (m ∷ ms) = IsPlainAs driver m × AreAs ds ms
AreAs [] [] = ⊤
AreAs _ _ = ⊥

some_driver : (ds : List Spec) (ms : List Make) (spec : Spec) → AreAs ds ms → spec.wrap ≡ wrap.Plain → is_one_of ds spec ≡ true → Known spec
some_driver [] ms spec all plain e = absurd cc
some_driver (driver ∷ ds) [] spec all plain e = absurd all
some_driver (driver ∷ ds) (m ∷ ms) spec all plain e = by_either (λ f. some_driver ds ms spec all.1 plain f) (either (is_same_driver driver spec) (is_one_of ds spec) e)
  where
    by_either : (is_one_of ds spec ≡ true → Known spec) → (is_same_driver driver spec ≡ true) ⊎ (is_one_of ds spec ≡ true) → Known spec
    by_either later (inl f) = as_driver driver spec m all.0 plain f
    by_either later (inr f) = later f

pub driver-known : (spec : Spec) → spec.wrap ≡ wrap.Plain → is_built_in spec ≡ true → Known spec
driver-known spec plain_wrap e =
    some_driver drivers (cipher AesGeneric ∷ sha256 ∷ ghash GhashGeneric ∷ cipher AesTable ∷ cipher AesLanes ∷ ghash GhashTable ∷ []) spec (record { bare = refl; kind = refl; driver = refl; begins_ctr = refl; begins_gcm = refl; begins_hmac = refl }, (record { bare = refl; kind = refl; driver = refl; begins_ctr = refl; begins_gcm = refl; begins_hmac = refl }, (record { bare = refl; kind = refl; driver = refl; begins_ctr = refl; begins_gcm = refl; begins_hmac = refl }, (record { bare = refl; kind = refl; driver = refl; begins_ctr = refl; begins_gcm = refl; begins_hmac = refl }, (record { bare = refl; kind = refl; driver = refl; begins_ctr = refl; begins_gcm = refl; begins_hmac = refl }, (record { bare = refl; kind = refl; driver = refl; begins_ctr = refl; begins_gcm = refl; begins_hmac = refl }, tt)))))) plain_wrap e

spec_at : {s t : Spec} → Some s ≡ Some t → s ≡ t
spec_at e = cc

-- the entries that stand from the start
pub opening-known : (id : ℕ) (spec : Spec) → slice_get opening id ≡ Some spec → Known spec
opening-known zero spec e = let f = spec_at e in subst Known f (cipher AesGeneric, inl (record { bare = refl; kind = refl; driver = refl; begins_ctr = refl; begins_gcm = refl; begins_hmac = refl }))
opening-known (suc zero) spec e = let f = spec_at e in subst Known f (sha256, inl (record { bare = refl; kind = refl; driver = refl; begins_ctr = refl; begins_gcm = refl; begins_hmac = refl }))
opening-known (suc (suc zero)) spec e = let f = spec_at e in subst Known f (ghash GhashGeneric, inl (record { bare = refl; kind = refl; driver = refl; begins_ctr = refl; begins_gcm = refl; begins_hmac = refl }))
opening-known (suc (suc (suc id))) spec e = absurd cc
