-- A name that has a plan is the plan's driver, bare or in a wrapper.
use Rattle.std.proofs.Common.{◌≡◌, ℕ, Bool, true, false, if◌then◌else◌, List, length, refl, ap, ap₂, ◌∙◌, arith, Option, Some, None, codes}
use Rattle.std.specs.Prelude.{◌==◌}
use Rattle.std.specs.Option.{option_map}
use Rattle.std.specs.Str.{bytes_eq}
use Rattle.std.proofs.lemmas.Bool.{eqb-true}
use Rattle.std.proofs.lemmas.Slice.Eq.{bytes_eq-Decides}
use Rattle.alg_names.specs.Name.{Tree, Args, node, end, arg, word_of, args_of, list_of}
use Rattle.templates.specs.Words.{template_named}
use Rattle.templates.proofs.Words.{named_word}
use Rattle.templates.specs.declared.template_words.Template.{Template}
use Rattle.templates.specs.declared.template_words.Template.TheVariants as template
use Rattle.templates.specs.declared.driver_plans.AesForm.{AesForm}
use Rattle.templates.specs.declared.driver_plans.AesForm.TheVariants.{AesGeneric, AesTable, AesLanes}
use Rattle.templates.specs.declared.driver_plans.GhashForm.{GhashForm}
use Rattle.templates.specs.declared.driver_plans.GhashForm.TheVariants.{GhashGeneric, GhashTable}
use Rattle.templates.specs.declared.driver_plans.Plan.{Plan}
use Rattle.templates.specs.declared.driver_plans.Plan.TheVariants.{Cbc, Ctr, Rfc3686, Xts, Gcm, Rfc4106, Ccm, Hmac, Cmac, AuthencCbc, AuthencCtr, AuthencRfc3686, AuthencXts}
use Rattle.templates.specs.Plans.{is_word, aes_form, ghash_form, ctr_over, ctr_form, gcm_of, gcm_over, gcm_plan, salted, hmac_over, is_hmac, cipher_over, cipher_plan, authentic, bare_over, bare_plan, queued_plan, plan_over, plan_at}
use Rattle.transforms.specs.Drivers.{over, over_two, aes_driver, ghash_driver, ctr_driver, gcm_driver, hmac_driver, driver_of, unqueued, unwrapped_over, unwrapped}

first_true : (a b : Bool) → (if a then b else false) ≡ true → a ≡ true
first_true true b e = refl
first_true false b e = absurd cc

second_true : (a b : Bool) → (if a then b else false) ≡ true → b ≡ true
second_true true b e = e
second_true false b e = absurd cc

same_some : {A : Type 0} {x y : A} → Some x ≡ Some y → x ≡ y
same_some e = cc

-- what an option is mapped to
mapped : (f : AesForm → Plan) (o : Option AesForm) (p : Plan) → option_map f o ≡ Some p → (a : AesForm) × (o ≡ Some a) × (f a ≡ p)
mapped f (Some a) p e = (a, refl, same_some e)
mapped f None p e = absurd cc

-- ---- the parts

alone : (word : List ℕ) (t : Tree) → is_word word t ≡ true → t ≡ node word end
alone word (node w end) e = ap (λ v. node v end) ((bytes_eq-Decides w word).0 (first_true (bytes_eq w word) true e))
alone word (node w (arg t ts)) e = absurd (let f : length (list_of (arg t ts)) ≡ 0 = eqb-true (length (list_of (arg t ts))) 0 (second_true (bytes_eq w word) (length (list_of (arg t ts)) == 0) e) in omega (arith, f))

one_of : (w word : List ℕ) (x y : Tree) → w ≡ word → x ≡ y → node w (arg x end) ≡ over word y
one_of w word x y v e = ap₂ node v (ap (λ z. arg z end) e)

two_of : (w word : List ℕ) (x y u v : Tree) → w ≡ word → x ≡ u → y ≡ v → node w (arg x (arg y end)) ≡ over_two word u v
two_of w word x y u v e f g = ap₂ node e (ap₂ (λ r s. arg r (arg s end)) f g)

aes_is : (t : Tree) (a : AesForm) → aes_form t ≡ Some a → t ≡ aes_driver a
aes_is t x e = by_tests (is_word (codes "aes-generic") t) (is_word (codes "aes-table") t) (is_word (codes "aes-lanes") t) refl refl refl e
  where
    by_tests : (b0 b1 b2 : Bool) → is_word (codes "aes-generic") t ≡ b0 → is_word (codes "aes-table") t ≡ b1 → is_word (codes "aes-lanes") t ≡ b2 → (if b0 then Some AesGeneric else (if b1 then Some AesTable else (if b2 then Some AesLanes else None))) ≡ Some x → t ≡ aes_driver x
    by_tests true b1 b2 e0 e1 e2 f = alone (codes "aes-generic") t e0 ∙ ap aes_driver (same_some f)
    by_tests false true b2 e0 e1 e2 f = alone (codes "aes-table") t e1 ∙ ap aes_driver (same_some f)
    by_tests false false true e0 e1 e2 f = alone (codes "aes-lanes") t e2 ∙ ap aes_driver (same_some f)
    by_tests false false false e0 e1 e2 f = absurd cc

ghash_is : (t : Tree) (g : GhashForm) → ghash_form t ≡ Some g → t ≡ ghash_driver g
ghash_is t x e = by_tests (is_word (codes "ghash-generic") t) (is_word (codes "ghash-table") t) refl refl e
  where
    by_tests : (b0 b1 : Bool) → is_word (codes "ghash-generic") t ≡ b0 → is_word (codes "ghash-table") t ≡ b1 → (if b0 then Some GhashGeneric else (if b1 then Some GhashTable else None)) ≡ Some x → t ≡ ghash_driver x
    by_tests true b1 e0 e1 f = alone (codes "ghash-generic") t e0 ∙ ap ghash_driver (same_some f)
    by_tests false true e0 e1 f = alone (codes "ghash-table") t e1 ∙ ap ghash_driver (same_some f)
    by_tests false false e0 e1 f = absurd cc

ctr_is : (t : Tree) (a : AesForm) → ctr_form t ≡ Some a → t ≡ ctr_driver a
ctr_is (node w ts) a e = by_shape (template_named w) ts refl e
  where
    by_shape : (o : Option Template) (us : Args) → template_named w ≡ o → ctr_over o (list_of us) ≡ Some a → node w us ≡ ctr_driver a
    by_shape (Some template.Ctr) (arg x end) n f = one_of w (codes "ctr") x (aes_driver a) (named_word w template.Ctr n) (aes_is x a f)
    by_shape o us n f = absurd cc

gcm_forms : (c g : Tree) (x : Option AesForm) (y : Option GhashForm) (p : Plan) (w : List ℕ) → w ≡ codes "gcm_base" → ctr_form c ≡ x → ghash_form g ≡ y → gcm_of x y ≡ Some p → node w (arg c (arg g end)) ≡ driver_of p
gcm_forms c g (Some aes) (Some ghash) p w is u v f =
    two_of w (codes "gcm_base") c g (ctr_driver aes) (ghash_driver ghash) is (ctr_is c aes u) (ghash_is g ghash v) ∙ ap driver_of (same_some f)
gcm_forms c g (Some aes) None p w is u v f = absurd cc
gcm_forms c g None y p w is u v f = absurd cc

gcm_is : (t : Tree) (p : Plan) → gcm_plan t ≡ Some p → t ≡ driver_of p
gcm_is (node w ts) p e = by_shape (template_named w) ts refl e
  where
    by_shape : (o : Option Template) (us : Args) → template_named w ≡ o → gcm_over o (list_of us) ≡ Some p → node w us ≡ driver_of p
    by_shape (Some template.GcmBase) (arg c (arg g end)) n f = gcm_forms c g (ctr_form c) (ghash_form g) p w (named_word w template.GcmBase n) refl refl f
    by_shape o us n f = absurd cc

hmac_is : (t : Tree) → is_hmac t ≡ true → t ≡ hmac_driver
hmac_is (node w ts) e = by_shape (template_named w) ts refl e
  where
    by_shape : (o : Option Template) (us : Args) → template_named w ≡ o → hmac_over o (list_of us) ≡ true → node w us ≡ hmac_driver
    by_shape (Some template.Hmac) (arg x end) n f = one_of w (codes "hmac") x (node (codes "sha256-generic") end) (named_word w template.Hmac n) (alone (codes "sha256-generic") x f)
    by_shape o us n f = absurd cc

cipher_is : (t : Tree) (p : Plan) → cipher_plan t ≡ Some p → t ≡ driver_of p
cipher_is (node w ts) p e = by_shape (template_named w) ts refl e
  where
    by_shape : (o : Option Template) (us : Args) → template_named w ≡ o → cipher_over o (list_of us) ≡ Some p → node w us ≡ driver_of p
    by_shape (Some template.Cbc) (arg x end) n f =
        let m = mapped (λ aes. Cbc aes) (aes_form x) p f in
        one_of w (codes "cbc") x (aes_driver m.0) (named_word w template.Cbc n) (aes_is x m.0 m.1) ∙ ap driver_of m.2
    by_shape (Some template.Ctr) (arg x end) n f =
        let m = mapped (λ aes. Ctr aes) (aes_form x) p f in
        one_of w (codes "ctr") x (aes_driver m.0) (named_word w template.Ctr n) (aes_is x m.0 m.1) ∙ ap driver_of m.2
    by_shape (Some template.Rfc3686) (arg x end) n f =
        let m = mapped (λ aes. Rfc3686 aes) (ctr_form x) p f in
        one_of w (codes "rfc3686") x (ctr_driver m.0) (named_word w template.Rfc3686 n) (ctr_is x m.0 m.1) ∙ ap driver_of m.2
    by_shape (Some template.Xts) (arg x end) n f =
        let m = mapped (λ aes. Xts aes) (aes_form x) p f in
        one_of w (codes "xts") x (aes_driver m.0) (named_word w template.Xts n) (aes_is x m.0 m.1) ∙ ap driver_of m.2
    by_shape o us n f = absurd cc

-- ---- the whole

salted_is : (x : Tree) (o : Option Plan) (p : Plan) (w : List ℕ) → w ≡ codes "rfc4106" → gcm_plan x ≡ o → salted o ≡ Some p → node w (arg x end) ≡ driver_of p
salted_is x (Some (Gcm aes ghash)) p w is e f =
    one_of w (codes "rfc4106") x (gcm_driver aes ghash) is (gcm_is x (Gcm aes ghash) e) ∙ ap driver_of (same_some f)
salted_is x o p w is e f = absurd cc

authentic_is : (a e : Tree) (b : Bool) (o : Option Plan) (p : Plan) (w : List ℕ) → w ≡ codes "authenc" → is_hmac a ≡ b → cipher_plan e ≡ o → authentic b o ≡ Some p → node w (arg a (arg e end)) ≡ driver_of p
authentic_is a e true (Some (Cbc aes)) p w is m c f =
    two_of w (codes "authenc") a e hmac_driver (driver_of (Cbc aes)) is (hmac_is a m) (cipher_is e (Cbc aes) c) ∙ ap driver_of (same_some f)
authentic_is a e true (Some (Ctr aes)) p w is m c f =
    two_of w (codes "authenc") a e hmac_driver (driver_of (Ctr aes)) is (hmac_is a m) (cipher_is e (Ctr aes) c) ∙ ap driver_of (same_some f)
authentic_is a e true (Some (Rfc3686 aes)) p w is m c f =
    two_of w (codes "authenc") a e hmac_driver (driver_of (Rfc3686 aes)) is (hmac_is a m) (cipher_is e (Rfc3686 aes) c) ∙ ap driver_of (same_some f)
authentic_is a e true (Some (Xts aes)) p w is m c f =
    two_of w (codes "authenc") a e hmac_driver (driver_of (Xts aes)) is (hmac_is a m) (cipher_is e (Xts aes) c) ∙ ap driver_of (same_some f)
authentic_is a e b o p w is m c f = absurd cc

hmac_bare : (t : Tree) (b : Bool) (p : Plan) → is_hmac t ≡ b → (if b then Some Hmac else None) ≡ Some p → t ≡ driver_of p
hmac_bare t true p h f = hmac_is t h ∙ ap driver_of (same_some f)
hmac_bare t false p h f = absurd cc

bare_is : (t : Tree) (p : Plan) → bare_plan t ≡ Some p → t ≡ driver_of p
bare_is (node w ts) p e = by_shape (template_named w) ts refl e
  where
    by_shape : (o : Option Template) (us : Args) → template_named w ≡ o → bare_over (node w us) o (list_of us) ≡ Some p → node w us ≡ driver_of p
    by_shape (Some template.GcmBase) us n f = gcm_is (node w us) p f
    by_shape (Some template.Rfc4106) (arg x end) n f = salted_is x (gcm_plan x) p w (named_word w template.Rfc4106 n) refl f
    by_shape (Some template.Hmac) us n f = hmac_bare (node w us) (is_hmac (node w us)) p refl f
    by_shape (Some template.Ccm) (arg x end) n f =
        let m = mapped (λ aes. Ccm aes) (aes_form x) p f in
        one_of w (codes "ccm") x (aes_driver m.0) (named_word w template.Ccm n) (aes_is x m.0 m.1) ∙ ap driver_of m.2
    by_shape (Some template.Cmac) (arg x end) n f =
        let m = mapped (λ aes. Cmac aes) (aes_form x) p f in
        one_of w (codes "cmac") x (aes_driver m.0) (named_word w template.Cmac n) (aes_is x m.0 m.1) ∙ ap driver_of m.2
    by_shape (Some template.Authenc) (arg a (arg e end)) n f = authentic_is a e (is_hmac a) (cipher_plan e) p w (named_word w template.Authenc n) refl refl f
    by_shape o us n f = cipher_is (node w us) p f

queued_is : (x : Tree) (p : Plan) → queued_plan x (template_named (word_of x)) (args_of x) ≡ Some p → unqueued x (template_named (word_of x)) (args_of x) ≡ driver_of p
queued_is (node w ts) p e = by_shape (template_named w) ts e
  where
    by_shape : (o : Option Template) (us : Args) → queued_plan (node w us) o (list_of us) ≡ Some p → unqueued (node w us) o (list_of us) ≡ driver_of p
    by_shape (Some template.Pcrypt) (arg y end) f = bare_is y p f
    by_shape o us f = bare_is (node w us) p f

pub driver_is : (t : Tree) (p : Plan) → plan_at t ≡ Some p → unwrapped t ≡ driver_of p
driver_is (node w ts) p e = by_shape (template_named w) ts e
  where
    by_shape : (o : Option Template) (us : Args) → plan_over (node w us) o (list_of us) ≡ Some p → unwrapped_over (node w us) o (list_of us) ≡ driver_of p
    by_shape (Some template.Pcrypt) (arg x end) f = bare_is x p f
    by_shape (Some template.Cryptd) (arg x end) f = queued_is x p f
    by_shape o us f = bare_is (node w us) p f

pub plan_of_driver : (p : Plan) → plan_at (driver_of p) ≡ Some p
unfolding template_named
plan_of_driver (Cbc AesGeneric) = refl
plan_of_driver (Cbc AesTable) = refl
plan_of_driver (Cbc AesLanes) = refl
plan_of_driver (Ctr AesGeneric) = refl
plan_of_driver (Ctr AesTable) = refl
plan_of_driver (Ctr AesLanes) = refl
plan_of_driver (Rfc3686 AesGeneric) = refl
plan_of_driver (Rfc3686 AesTable) = refl
plan_of_driver (Rfc3686 AesLanes) = refl
plan_of_driver (Xts AesGeneric) = refl
plan_of_driver (Xts AesTable) = refl
plan_of_driver (Xts AesLanes) = refl
plan_of_driver (Gcm AesGeneric GhashGeneric) = refl
plan_of_driver (Gcm AesGeneric GhashTable) = refl
plan_of_driver (Gcm AesTable GhashGeneric) = refl
plan_of_driver (Gcm AesTable GhashTable) = refl
plan_of_driver (Gcm AesLanes GhashGeneric) = refl
plan_of_driver (Gcm AesLanes GhashTable) = refl
plan_of_driver (Rfc4106 AesGeneric GhashGeneric) = refl
plan_of_driver (Rfc4106 AesGeneric GhashTable) = refl
plan_of_driver (Rfc4106 AesTable GhashGeneric) = refl
plan_of_driver (Rfc4106 AesTable GhashTable) = refl
plan_of_driver (Rfc4106 AesLanes GhashGeneric) = refl
plan_of_driver (Rfc4106 AesLanes GhashTable) = refl
plan_of_driver (Ccm AesGeneric) = refl
plan_of_driver (Ccm AesTable) = refl
plan_of_driver (Ccm AesLanes) = refl
plan_of_driver Hmac = refl
plan_of_driver (Cmac AesGeneric) = refl
plan_of_driver (Cmac AesTable) = refl
plan_of_driver (Cmac AesLanes) = refl
plan_of_driver (AuthencCbc AesGeneric) = refl
plan_of_driver (AuthencCbc AesTable) = refl
plan_of_driver (AuthencCbc AesLanes) = refl
plan_of_driver (AuthencCtr AesGeneric) = refl
plan_of_driver (AuthencCtr AesTable) = refl
plan_of_driver (AuthencCtr AesLanes) = refl
plan_of_driver (AuthencRfc3686 AesGeneric) = refl
plan_of_driver (AuthencRfc3686 AesTable) = refl
plan_of_driver (AuthencRfc3686 AesLanes) = refl
plan_of_driver (AuthencXts AesGeneric) = refl
plan_of_driver (AuthencXts AesTable) = refl
plan_of_driver (AuthencXts AesLanes) = refl
