-- What an entry can be has a driver within the limits, and the plan of its kind.
use Rattle.std.proofs.Common.{◌≡◌, ℕ, ◌+◌, true, ◌≤◌, ◌⊎◌, inl, inr, List, [], ◌∷◌, ◌++◌, length, refl, ap, sym, ◌∙◌, subst, arith, length-append, lit≤, Some, codes}
use Rattle.alg_registry.specs.declared.spec.Spec.{Spec}
use Rattle.alg_names.specs.Name.{Tree, IsName, IsWord, IsAllowed, a_template, one, spelling, depth, width}
use Rattle.alg_names.specs.Spelled.{tree_of}
use Rattle.templates.specs.declared.driver_plans.AesForm.TheVariants.{AesGeneric, AesTable, AesLanes}
use Rattle.templates.specs.declared.driver_plans.GhashForm.TheVariants.{GhashGeneric, GhashTable}
use Rattle.std.specs.Option.{option_map_or}
use Rattle.alg_registry.specs.declared.spec.Wrap.{Wrap}
use Rattle.alg_registry.specs.declared.spec.Wrap.TheVariants as wrap
use Rattle.templates.specs.Table.{wrap_of, is_bare}
use Rattle.templates.specs.Words.{template_named}
use Rattle.templates.specs.Plans.{plan_at, bare_plan}
use Rattle.templates.specs.Planned.{IsPlanned, Fits, root_wrap}
use Rattle.templates.proofs.PlannedHistories.{Grammar}
use Rattle.templates.proofs.Makes.{Make, cipher, sha256, ghash, cbc, ctr, rfc3686, xts, gcm, rfc4106, ccm, hmac, cmac, authenc_cbc, authenc_ctr, authenc_rfc3686, authenc_xts, IsPlainAs, IsWrappedAs, Wraps, Known, tree_of_make, kind_of_make, over}

-- with room for two more templates
record IsSmall (t : Tree) : Type 0 where
  short : length (spelling t) ≤ 100
  levels : depth t ≤ 6
  arguments : width t ≤ 4

make_small : (m : Make) → IsSmall (tree_of_make m)
make_small (cipher AesGeneric) = record { short = lit≤ tt; levels = lit≤ tt; arguments = lit≤ tt }
make_small (cipher AesTable) = record { short = lit≤ tt; levels = lit≤ tt; arguments = lit≤ tt }
make_small (cipher AesLanes) = record { short = lit≤ tt; levels = lit≤ tt; arguments = lit≤ tt }
make_small sha256 = record { short = lit≤ tt; levels = lit≤ tt; arguments = lit≤ tt }
make_small (ghash GhashGeneric) = record { short = lit≤ tt; levels = lit≤ tt; arguments = lit≤ tt }
make_small (ghash GhashTable) = record { short = lit≤ tt; levels = lit≤ tt; arguments = lit≤ tt }
make_small (cbc AesGeneric) = record { short = lit≤ tt; levels = lit≤ tt; arguments = lit≤ tt }
make_small (cbc AesTable) = record { short = lit≤ tt; levels = lit≤ tt; arguments = lit≤ tt }
make_small (cbc AesLanes) = record { short = lit≤ tt; levels = lit≤ tt; arguments = lit≤ tt }
make_small (ctr AesGeneric) = record { short = lit≤ tt; levels = lit≤ tt; arguments = lit≤ tt }
make_small (ctr AesTable) = record { short = lit≤ tt; levels = lit≤ tt; arguments = lit≤ tt }
make_small (ctr AesLanes) = record { short = lit≤ tt; levels = lit≤ tt; arguments = lit≤ tt }
make_small (rfc3686 AesGeneric) = record { short = lit≤ tt; levels = lit≤ tt; arguments = lit≤ tt }
make_small (rfc3686 AesTable) = record { short = lit≤ tt; levels = lit≤ tt; arguments = lit≤ tt }
make_small (rfc3686 AesLanes) = record { short = lit≤ tt; levels = lit≤ tt; arguments = lit≤ tt }
make_small (xts AesGeneric) = record { short = lit≤ tt; levels = lit≤ tt; arguments = lit≤ tt }
make_small (xts AesTable) = record { short = lit≤ tt; levels = lit≤ tt; arguments = lit≤ tt }
make_small (xts AesLanes) = record { short = lit≤ tt; levels = lit≤ tt; arguments = lit≤ tt }
make_small (gcm AesGeneric GhashGeneric) = record { short = lit≤ tt; levels = lit≤ tt; arguments = lit≤ tt }
make_small (gcm AesGeneric GhashTable) = record { short = lit≤ tt; levels = lit≤ tt; arguments = lit≤ tt }
make_small (gcm AesTable GhashGeneric) = record { short = lit≤ tt; levels = lit≤ tt; arguments = lit≤ tt }
make_small (gcm AesTable GhashTable) = record { short = lit≤ tt; levels = lit≤ tt; arguments = lit≤ tt }
make_small (gcm AesLanes GhashGeneric) = record { short = lit≤ tt; levels = lit≤ tt; arguments = lit≤ tt }
make_small (gcm AesLanes GhashTable) = record { short = lit≤ tt; levels = lit≤ tt; arguments = lit≤ tt }
make_small (rfc4106 AesGeneric GhashGeneric) = record { short = lit≤ tt; levels = lit≤ tt; arguments = lit≤ tt }
make_small (rfc4106 AesGeneric GhashTable) = record { short = lit≤ tt; levels = lit≤ tt; arguments = lit≤ tt }
make_small (rfc4106 AesTable GhashGeneric) = record { short = lit≤ tt; levels = lit≤ tt; arguments = lit≤ tt }
make_small (rfc4106 AesTable GhashTable) = record { short = lit≤ tt; levels = lit≤ tt; arguments = lit≤ tt }
make_small (rfc4106 AesLanes GhashGeneric) = record { short = lit≤ tt; levels = lit≤ tt; arguments = lit≤ tt }
make_small (rfc4106 AesLanes GhashTable) = record { short = lit≤ tt; levels = lit≤ tt; arguments = lit≤ tt }
make_small (ccm AesGeneric) = record { short = lit≤ tt; levels = lit≤ tt; arguments = lit≤ tt }
make_small (ccm AesTable) = record { short = lit≤ tt; levels = lit≤ tt; arguments = lit≤ tt }
make_small (ccm AesLanes) = record { short = lit≤ tt; levels = lit≤ tt; arguments = lit≤ tt }
make_small hmac = record { short = lit≤ tt; levels = lit≤ tt; arguments = lit≤ tt }
make_small (cmac AesGeneric) = record { short = lit≤ tt; levels = lit≤ tt; arguments = lit≤ tt }
make_small (cmac AesTable) = record { short = lit≤ tt; levels = lit≤ tt; arguments = lit≤ tt }
make_small (cmac AesLanes) = record { short = lit≤ tt; levels = lit≤ tt; arguments = lit≤ tt }
make_small (authenc_cbc AesGeneric) = record { short = lit≤ tt; levels = lit≤ tt; arguments = lit≤ tt }
make_small (authenc_cbc AesTable) = record { short = lit≤ tt; levels = lit≤ tt; arguments = lit≤ tt }
make_small (authenc_cbc AesLanes) = record { short = lit≤ tt; levels = lit≤ tt; arguments = lit≤ tt }
make_small (authenc_ctr AesGeneric) = record { short = lit≤ tt; levels = lit≤ tt; arguments = lit≤ tt }
make_small (authenc_ctr AesTable) = record { short = lit≤ tt; levels = lit≤ tt; arguments = lit≤ tt }
make_small (authenc_ctr AesLanes) = record { short = lit≤ tt; levels = lit≤ tt; arguments = lit≤ tt }
make_small (authenc_rfc3686 AesGeneric) = record { short = lit≤ tt; levels = lit≤ tt; arguments = lit≤ tt }
make_small (authenc_rfc3686 AesTable) = record { short = lit≤ tt; levels = lit≤ tt; arguments = lit≤ tt }
make_small (authenc_rfc3686 AesLanes) = record { short = lit≤ tt; levels = lit≤ tt; arguments = lit≤ tt }
make_small (authenc_xts AesGeneric) = record { short = lit≤ tt; levels = lit≤ tt; arguments = lit≤ tt }
make_small (authenc_xts AesTable) = record { short = lit≤ tt; levels = lit≤ tt; arguments = lit≤ tt }
make_small (authenc_xts AesLanes) = record { short = lit≤ tt; levels = lit≤ tt; arguments = lit≤ tt }

make_read : (m : Make) → tree_of (spelling (tree_of_make m)) ≡ Some (tree_of_make m)
unfolding tree_of
make_read (cipher AesGeneric) = refl
make_read (cipher AesTable) = refl
make_read (cipher AesLanes) = refl
make_read sha256 = refl
make_read (ghash GhashGeneric) = refl
make_read (ghash GhashTable) = refl
make_read (cbc AesGeneric) = refl
make_read (cbc AesTable) = refl
make_read (cbc AesLanes) = refl
make_read (ctr AesGeneric) = refl
make_read (ctr AesTable) = refl
make_read (ctr AesLanes) = refl
make_read (rfc3686 AesGeneric) = refl
make_read (rfc3686 AesTable) = refl
make_read (rfc3686 AesLanes) = refl
make_read (xts AesGeneric) = refl
make_read (xts AesTable) = refl
make_read (xts AesLanes) = refl
make_read (gcm AesGeneric GhashGeneric) = refl
make_read (gcm AesGeneric GhashTable) = refl
make_read (gcm AesTable GhashGeneric) = refl
make_read (gcm AesTable GhashTable) = refl
make_read (gcm AesLanes GhashGeneric) = refl
make_read (gcm AesLanes GhashTable) = refl
make_read (rfc4106 AesGeneric GhashGeneric) = refl
make_read (rfc4106 AesGeneric GhashTable) = refl
make_read (rfc4106 AesTable GhashGeneric) = refl
make_read (rfc4106 AesTable GhashTable) = refl
make_read (rfc4106 AesLanes GhashGeneric) = refl
make_read (rfc4106 AesLanes GhashTable) = refl
make_read (ccm AesGeneric) = refl
make_read (ccm AesTable) = refl
make_read (ccm AesLanes) = refl
make_read hmac = refl
make_read (cmac AesGeneric) = refl
make_read (cmac AesTable) = refl
make_read (cmac AesLanes) = refl
make_read (authenc_cbc AesGeneric) = refl
make_read (authenc_cbc AesTable) = refl
make_read (authenc_cbc AesLanes) = refl
make_read (authenc_ctr AesGeneric) = refl
make_read (authenc_ctr AesTable) = refl
make_read (authenc_ctr AesLanes) = refl
make_read (authenc_rfc3686 AesGeneric) = refl
make_read (authenc_rfc3686 AesTable) = refl
make_read (authenc_rfc3686 AesLanes) = refl
make_read (authenc_xts AesGeneric) = refl
make_read (authenc_xts AesTable) = refl
make_read (authenc_xts AesLanes) = refl

-- the plan of the make, and what it is of
make_fits : (m : Make) → Fits (kind_of_make m) (plan_at (tree_of_make m))
unfolding template_named
make_fits (cipher AesGeneric) = refl
make_fits (cipher AesTable) = refl
make_fits (cipher AesLanes) = refl
make_fits sha256 = refl
make_fits (ghash GhashGeneric) = refl
make_fits (ghash GhashTable) = refl
make_fits (cbc AesGeneric) = refl
make_fits (cbc AesTable) = refl
make_fits (cbc AesLanes) = refl
make_fits (ctr AesGeneric) = refl
make_fits (ctr AesTable) = refl
make_fits (ctr AesLanes) = refl
make_fits (rfc3686 AesGeneric) = refl
make_fits (rfc3686 AesTable) = refl
make_fits (rfc3686 AesLanes) = refl
make_fits (xts AesGeneric) = refl
make_fits (xts AesTable) = refl
make_fits (xts AesLanes) = refl
make_fits (gcm AesGeneric GhashGeneric) = refl
make_fits (gcm AesGeneric GhashTable) = refl
make_fits (gcm AesTable GhashGeneric) = refl
make_fits (gcm AesTable GhashTable) = refl
make_fits (gcm AesLanes GhashGeneric) = refl
make_fits (gcm AesLanes GhashTable) = refl
make_fits (rfc4106 AesGeneric GhashGeneric) = refl
make_fits (rfc4106 AesGeneric GhashTable) = refl
make_fits (rfc4106 AesTable GhashGeneric) = refl
make_fits (rfc4106 AesTable GhashTable) = refl
make_fits (rfc4106 AesLanes GhashGeneric) = refl
make_fits (rfc4106 AesLanes GhashTable) = refl
make_fits (ccm AesGeneric) = refl
make_fits (ccm AesTable) = refl
make_fits (ccm AesLanes) = refl
make_fits hmac = refl
make_fits (cmac AesGeneric) = refl
make_fits (cmac AesTable) = refl
make_fits (cmac AesLanes) = refl
make_fits (authenc_cbc AesGeneric) = refl
make_fits (authenc_cbc AesTable) = refl
make_fits (authenc_cbc AesLanes) = refl
make_fits (authenc_ctr AesGeneric) = refl
make_fits (authenc_ctr AesTable) = refl
make_fits (authenc_ctr AesLanes) = refl
make_fits (authenc_rfc3686 AesGeneric) = refl
make_fits (authenc_rfc3686 AesTable) = refl
make_fits (authenc_rfc3686 AesLanes) = refl
make_fits (authenc_xts AesGeneric) = refl
make_fits (authenc_xts AesTable) = refl
make_fits (authenc_xts AesLanes) = refl

-- no make is wrapped
make_plain : (m : Make) → root_wrap (tree_of_make m) ≡ wrap.Plain
unfolding template_named
make_plain (cipher AesGeneric) = refl
make_plain (cipher AesTable) = refl
make_plain (cipher AesLanes) = refl
make_plain sha256 = refl
make_plain (ghash GhashGeneric) = refl
make_plain (ghash GhashTable) = refl
make_plain (cbc AesGeneric) = refl
make_plain (cbc AesTable) = refl
make_plain (cbc AesLanes) = refl
make_plain (ctr AesGeneric) = refl
make_plain (ctr AesTable) = refl
make_plain (ctr AesLanes) = refl
make_plain (rfc3686 AesGeneric) = refl
make_plain (rfc3686 AesTable) = refl
make_plain (rfc3686 AesLanes) = refl
make_plain (xts AesGeneric) = refl
make_plain (xts AesTable) = refl
make_plain (xts AesLanes) = refl
make_plain (gcm AesGeneric GhashGeneric) = refl
make_plain (gcm AesGeneric GhashTable) = refl
make_plain (gcm AesTable GhashGeneric) = refl
make_plain (gcm AesTable GhashTable) = refl
make_plain (gcm AesLanes GhashGeneric) = refl
make_plain (gcm AesLanes GhashTable) = refl
make_plain (rfc4106 AesGeneric GhashGeneric) = refl
make_plain (rfc4106 AesGeneric GhashTable) = refl
make_plain (rfc4106 AesTable GhashGeneric) = refl
make_plain (rfc4106 AesTable GhashTable) = refl
make_plain (rfc4106 AesLanes GhashGeneric) = refl
make_plain (rfc4106 AesLanes GhashTable) = refl
make_plain (ccm AesGeneric) = refl
make_plain (ccm AesTable) = refl
make_plain (ccm AesLanes) = refl
make_plain hmac = refl
make_plain (cmac AesGeneric) = refl
make_plain (cmac AesTable) = refl
make_plain (cmac AesLanes) = refl
make_plain (authenc_cbc AesGeneric) = refl
make_plain (authenc_cbc AesTable) = refl
make_plain (authenc_cbc AesLanes) = refl
make_plain (authenc_ctr AesGeneric) = refl
make_plain (authenc_ctr AesTable) = refl
make_plain (authenc_ctr AesLanes) = refl
make_plain (authenc_rfc3686 AesGeneric) = refl
make_plain (authenc_rfc3686 AesTable) = refl
make_plain (authenc_rfc3686 AesLanes) = refl
make_plain (authenc_xts AesGeneric) = refl
make_plain (authenc_xts AesTable) = refl
make_plain (authenc_xts AesLanes) = refl

only_plain : (w : Wrap) → is_bare w ≡ true → w ≡ wrap.Plain
only_plain wrap.Plain e = refl
only_plain wrap.Pcrypt e = absurd cc
only_plain wrap.Cryptd e = absurd cc

-- a wrapper has the plan of what it wraps
make_bare : (m : Make) → plan_at (tree_of_make m) ≡ bare_plan (tree_of_make m)
unfolding template_named
make_bare (cipher AesGeneric) = refl
make_bare (cipher AesTable) = refl
make_bare (cipher AesLanes) = refl
make_bare sha256 = refl
make_bare (ghash GhashGeneric) = refl
make_bare (ghash GhashTable) = refl
make_bare (cbc AesGeneric) = refl
make_bare (cbc AesTable) = refl
make_bare (cbc AesLanes) = refl
make_bare (ctr AesGeneric) = refl
make_bare (ctr AesTable) = refl
make_bare (ctr AesLanes) = refl
make_bare (rfc3686 AesGeneric) = refl
make_bare (rfc3686 AesTable) = refl
make_bare (rfc3686 AesLanes) = refl
make_bare (xts AesGeneric) = refl
make_bare (xts AesTable) = refl
make_bare (xts AesLanes) = refl
make_bare (gcm AesGeneric GhashGeneric) = refl
make_bare (gcm AesGeneric GhashTable) = refl
make_bare (gcm AesTable GhashGeneric) = refl
make_bare (gcm AesTable GhashTable) = refl
make_bare (gcm AesLanes GhashGeneric) = refl
make_bare (gcm AesLanes GhashTable) = refl
make_bare (rfc4106 AesGeneric GhashGeneric) = refl
make_bare (rfc4106 AesGeneric GhashTable) = refl
make_bare (rfc4106 AesTable GhashGeneric) = refl
make_bare (rfc4106 AesTable GhashTable) = refl
make_bare (rfc4106 AesLanes GhashGeneric) = refl
make_bare (rfc4106 AesLanes GhashTable) = refl
make_bare (ccm AesGeneric) = refl
make_bare (ccm AesTable) = refl
make_bare (ccm AesLanes) = refl
make_bare hmac = refl
make_bare (cmac AesGeneric) = refl
make_bare (cmac AesTable) = refl
make_bare (cmac AesLanes) = refl
make_bare (authenc_cbc AesGeneric) = refl
make_bare (authenc_cbc AesTable) = refl
make_bare (authenc_cbc AesLanes) = refl
make_bare (authenc_ctr AesGeneric) = refl
make_bare (authenc_ctr AesTable) = refl
make_bare (authenc_ctr AesLanes) = refl
make_bare (authenc_rfc3686 AesGeneric) = refl
make_bare (authenc_rfc3686 AesTable) = refl
make_bare (authenc_rfc3686 AesLanes) = refl
make_bare (authenc_xts AesGeneric) = refl
make_bare (authenc_xts AesTable) = refl
make_bare (authenc_xts AesLanes) = refl

pcrypt_plan : (t : Tree) → plan_at (over (codes "pcrypt") t) ≡ bare_plan t
unfolding template_named
pcrypt_plan t = refl

-- no make is `pcrypt` over another
cryptd_plan : (m : Make) → plan_at (over (codes "cryptd") (tree_of_make m)) ≡ bare_plan (tree_of_make m)
unfolding template_named
cryptd_plan (cipher AesGeneric) = refl
cryptd_plan (cipher AesTable) = refl
cryptd_plan (cipher AesLanes) = refl
cryptd_plan sha256 = refl
cryptd_plan (ghash GhashGeneric) = refl
cryptd_plan (ghash GhashTable) = refl
cryptd_plan (cbc a) = refl
cryptd_plan (ctr a) = refl
cryptd_plan (rfc3686 a) = refl
cryptd_plan (xts a) = refl
cryptd_plan (gcm a g) = refl
cryptd_plan (rfc4106 a g) = refl
cryptd_plan (ccm a) = refl
cryptd_plan hmac = refl
cryptd_plan (cmac a) = refl
cryptd_plan (authenc_cbc a) = refl
cryptd_plan (authenc_ctr a) = refl
cryptd_plan (authenc_rfc3686 a) = refl
cryptd_plan (authenc_xts a) = refl

chained_plan : (t : Tree) → plan_at (over (codes "cryptd") (over (codes "pcrypt") t)) ≡ bare_plan t
unfolding template_named
chained_plan t = refl

make_allowed : Grammar → (m : Make) → IsAllowed (tree_of_make m)
make_allowed g m =
    let small = make_small m in
    record {
      named = g.named (spelling (tree_of_make m)) (tree_of_make m) (make_read m);
      short = omega (arith, small.short);
      levels = omega (arith, small.levels);
      arguments = small.arguments;
    }

wrapped_allowed : (w : List ℕ) (t : Tree) → IsWord w → length w ≡ 6 → IsName (spelling t) t → length (spelling t) ≤ 119 → depth t ≤ 7 → width t ≤ 4 → IsAllowed (over w t)
wrapped_allowed w t word six named short levels arguments = record {
  named = a_template {w = w} {inner = spelling t} word (one named);
  short = omega (arith, six, short, length-append w (40 ∷ (spelling t ++ 41 ∷ [])), length-append (spelling t) (41 ∷ []));
  levels = omega (arith, levels);
  arguments = omega (arith, arguments);
}

pcrypt_word : IsWord (codes "pcrypt")
pcrypt_word = (omega arith, (refl, (refl, (refl, (refl, (refl, (refl, tt)))))))

cryptd_word : IsWord (codes "cryptd")
cryptd_word = (omega arith, (refl, (refl, (refl, (refl, (refl, (refl, tt)))))))

over_allowed : Grammar → (w : List ℕ) (m : Make) → IsWord w → length w ≡ 6 → IsAllowed (over w (tree_of_make m))
over_allowed g w m word six =
    let small = make_small m in
    wrapped_allowed w (tree_of_make m) word six (make_allowed g m).named (omega (arith, small.short)) (omega (arith, small.levels)) small.arguments

over_length : (w : List ℕ) (t : Tree) → length w ≡ 6 → length (spelling (over w t)) ≡ length (spelling t) + 8
over_length w t six = omega (arith, six, length-append w (40 ∷ (spelling t ++ 41 ∷ [])), length-append (spelling t) (41 ∷ []))

chained_allowed : Grammar → (m : Make) → IsAllowed (over (codes "cryptd") (over (codes "pcrypt") (tree_of_make m)))
chained_allowed g m =
    let small = make_small m in
    let inner = over_allowed g (codes "pcrypt") m pcrypt_word refl in
    wrapped_allowed (codes "cryptd") (over (codes "pcrypt") (tree_of_make m)) cryptd_word refl inner.named
    (omega (arith, small.short, over_length (codes "pcrypt") (tree_of_make m) refl))
    (omega (arith, small.levels))
    (omega (arith, small.arguments))

over_fits : (t : Tree) (s : Spec) (m : Make) → s.kind ≡ kind_of_make m → plan_at t ≡ bare_plan (tree_of_make m) → Fits s.kind (plan_at t)
over_fits t s m kind same = subst (λ o. Fits s.kind o) (make_bare m ∙ sym same) (subst (λ k. Fits k (plan_at (tree_of_make m))) (sym kind) (make_fits m))

pub known-planned : Grammar → (s : Spec) → Known s → IsPlanned s
known-planned g s known = by_make known.0 known.1
  where
    -- under this word, over this name
    spelled_so : (w : List ℕ) (inner : Tree) (v : List ℕ) (t : Tree) → s.driver ≡ spelling (over w inner) → w ≡ v → inner ≡ t → s.driver ≡ spelling (over v t)
    spelled_so w inner v t driver e f = driver ∙ (ap (λ x. spelling (over x inner)) e ∙ ap (λ x. spelling (over v x)) f)

    wraps_so : (w v : List ℕ) → s.wrap ≡ option_map_or wrap_of (template_named w) wrap.Plain → w ≡ v → s.wrap ≡ option_map_or wrap_of (template_named v) wrap.Plain
    wraps_so w v wraps e = wraps ∙ ap (λ x. option_map_or wrap_of (template_named x) wrap.Plain) e

    by_form : (m : Make) (w : List ℕ) (inner : Tree) → Wraps w inner (tree_of_make m) → s.driver ≡ spelling (over w inner) → s.wrap ≡ option_map_or wrap_of (template_named w) wrap.Plain → s.kind ≡ kind_of_make m → IsPlanned s
    by_form m w inner (inl e) driver wraps kind = record {
      tree = over (codes "pcrypt") (tree_of_make m);
      spelled = spelled_so w inner (codes "pcrypt") (tree_of_make m) driver e.0 e.1;
      allowed = over_allowed g (codes "pcrypt") m pcrypt_word refl;
      wraps = wraps_so w (codes "pcrypt") wraps e.0;
      fits = over_fits (over (codes "pcrypt") (tree_of_make m)) s m kind (pcrypt_plan (tree_of_make m));
    }
    by_form m w inner (inr (inl e)) driver wraps kind = record {
      tree = over (codes "cryptd") (tree_of_make m);
      spelled = spelled_so w inner (codes "cryptd") (tree_of_make m) driver e.0 e.1;
      allowed = over_allowed g (codes "cryptd") m cryptd_word refl;
      wraps = wraps_so w (codes "cryptd") wraps e.0;
      fits = over_fits (over (codes "cryptd") (tree_of_make m)) s m kind (cryptd_plan m);
    }
    by_form m w inner (inr (inr e)) driver wraps kind = record {
      tree = over (codes "cryptd") (over (codes "pcrypt") (tree_of_make m));
      spelled = spelled_so w inner (codes "cryptd") (over (codes "pcrypt") (tree_of_make m)) driver e.0 e.1;
      allowed = chained_allowed g m;
      wraps = wraps_so w (codes "cryptd") wraps e.0;
      fits = over_fits (over (codes "cryptd") (over (codes "pcrypt") (tree_of_make m))) s m kind (chained_plan (tree_of_make m));
    }

    by_make : (m : Make) → IsPlainAs s m ⊎ IsWrappedAs s m → IsPlanned s
    by_make m (inl p) = record {
      tree = tree_of_make m;
      spelled = p.driver;
      allowed = make_allowed g m;
      wraps = only_plain s.wrap p.bare ∙ sym (make_plain m);
      fits = subst (λ k. Fits k (plan_at (tree_of_make m))) (sym p.kind) (make_fits m);
    }
    by_make m (inr p) = by_form m p.word p.inner p.form p.driver p.wraps p.kind
