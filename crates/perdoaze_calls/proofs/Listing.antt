-- The list of all drivers: each plan has one place there; and the fastest of each algorithm.
use Rattle.std.proofs.Common.{◌≡◌, ℕ, zero, suc, ◌+◌, ◌*◌, ◌/◌, ◌≤◌, List, [], ◌∷◌, map, Some, refl, sym, ap, ◌∙◌, arith, lit≤, slice_get}
use Rattle.templates.specs.declared.driver_plans.AesForm.{AesForm}
use Rattle.templates.specs.declared.driver_plans.AesForm.TheVariants.{AesGeneric, AesTable, AesLanes}
use Rattle.templates.specs.declared.driver_plans.GhashForm.{GhashForm}
use Rattle.templates.specs.declared.driver_plans.GhashForm.TheVariants.{GhashGeneric, GhashTable}
use Rattle.templates.specs.declared.driver_plans.Plan.{Plan}
use Rattle.templates.specs.declared.driver_plans.Plan.TheVariants.{Cbc, Ctr, Rfc3686, Xts, Gcm, Rfc4106, Ccm, Hmac, Cmac, AuthencCbc, AuthencCtr, AuthencRfc3686, AuthencXts}
use Rattle.perdoaze_calls.specs.Infos.{listed, aes_priority, ghash_priority}
use Rattle.perdoaze_calls.specs.Laws.{HasFastest}

-- ---- places

abbrev aes_at : AesForm → ℕ
aes_at AesLanes = 0
aes_at AesTable = 1
aes_at AesGeneric = 2

abbrev ghash_at : GhashForm → ℕ
ghash_at GhashTable = 0
ghash_at GhashGeneric = 1

-- where a plan stands
abbrev place : Plan → ℕ
place (Cbc aes) = aes_at aes
place (Ctr aes) = 3 + aes_at aes
place (Rfc3686 aes) = 6 + aes_at aes
place (Xts aes) = 9 + aes_at aes
place (Gcm aes ghash) = 12 + (2 * aes_at aes + ghash_at ghash)
place (Rfc4106 aes ghash) = 18 + (2 * aes_at aes + ghash_at ghash)
place (Ccm aes) = 24 + aes_at aes
place Hmac = 27
place (Cmac aes) = 28 + aes_at aes
place (AuthencCbc aes) = 31 + aes_at aes
place (AuthencCtr aes) = 34 + aes_at aes
place (AuthencRfc3686 aes) = 37 + aes_at aes
place (AuthencXts aes) = 40 + aes_at aes

abbrev count_from : ℕ → ℕ → List ℕ
count_from start zero = []
count_from start (suc n) = start ∷ count_from (suc start) n

abbrev size : List Plan → ℕ
size [] = zero
size (q ∷ qs) = suc (size qs)

counted : (ps : List Plan) (start : ℕ) → map place ps ≡ count_from start (size ps) → (i : ℕ) (p : Plan) → slice_get ps i ≡ Some p → place p ≡ start + i
counted [] start e i p h = absurd (cc)
counted (q ∷ qs) start e zero p h =
    let same : q ≡ p = cc in
    let first : place q ≡ start = cc in
    let none : start ≡ start + zero = omega arith in
    ap place (sym same) ∙ first ∙ none
counted (q ∷ qs) start e (suc i) p h =
    let behind : map place qs ≡ count_from (suc start) (size qs) = cc in
    let next : suc start + i ≡ start + suc i = omega arith in
    counted qs (suc start) behind i p h ∙ next

pub once : (i j : ℕ) (p : Plan) → slice_get listed i ≡ Some p → slice_get listed j ≡ Some p → i ≡ j
once i j p a b = omega (arith, counted listed 0 refl i p a, counted listed 0 refl j p b)

pub whole : (p : Plan) → (i : ℕ) × (slice_get listed i ≡ Some p)
whole (Cbc AesLanes) = (0, refl)
whole (Cbc AesTable) = (1, refl)
whole (Cbc AesGeneric) = (2, refl)
whole (Ctr AesLanes) = (3, refl)
whole (Ctr AesTable) = (4, refl)
whole (Ctr AesGeneric) = (5, refl)
whole (Rfc3686 AesLanes) = (6, refl)
whole (Rfc3686 AesTable) = (7, refl)
whole (Rfc3686 AesGeneric) = (8, refl)
whole (Xts AesLanes) = (9, refl)
whole (Xts AesTable) = (10, refl)
whole (Xts AesGeneric) = (11, refl)
whole (Gcm AesLanes GhashTable) = (12, refl)
whole (Gcm AesLanes GhashGeneric) = (13, refl)
whole (Gcm AesTable GhashTable) = (14, refl)
whole (Gcm AesTable GhashGeneric) = (15, refl)
whole (Gcm AesGeneric GhashTable) = (16, refl)
whole (Gcm AesGeneric GhashGeneric) = (17, refl)
whole (Rfc4106 AesLanes GhashTable) = (18, refl)
whole (Rfc4106 AesLanes GhashGeneric) = (19, refl)
whole (Rfc4106 AesTable GhashTable) = (20, refl)
whole (Rfc4106 AesTable GhashGeneric) = (21, refl)
whole (Rfc4106 AesGeneric GhashTable) = (22, refl)
whole (Rfc4106 AesGeneric GhashGeneric) = (23, refl)
whole (Ccm AesLanes) = (24, refl)
whole (Ccm AesTable) = (25, refl)
whole (Ccm AesGeneric) = (26, refl)
whole Hmac = (27, refl)
whole (Cmac AesLanes) = (28, refl)
whole (Cmac AesTable) = (29, refl)
whole (Cmac AesGeneric) = (30, refl)
whole (AuthencCbc AesLanes) = (31, refl)
whole (AuthencCbc AesTable) = (32, refl)
whole (AuthencCbc AesGeneric) = (33, refl)
whole (AuthencCtr AesLanes) = (34, refl)
whole (AuthencCtr AesTable) = (35, refl)
whole (AuthencCtr AesGeneric) = (36, refl)
whole (AuthencRfc3686 AesLanes) = (37, refl)
whole (AuthencRfc3686 AesTable) = (38, refl)
whole (AuthencRfc3686 AesGeneric) = (39, refl)
whole (AuthencXts AesLanes) = (40, refl)
whole (AuthencXts AesTable) = (41, refl)
whole (AuthencXts AesGeneric) = (42, refl)

-- ---- the fastest

lanes_first : (aes : AesForm) → aes_priority aes ≤ 300
lanes_first AesGeneric = lit≤ tt
lanes_first AesTable = lit≤ tt
lanes_first AesLanes = lit≤ tt

table_first : (ghash : GhashForm) → ghash_priority ghash ≤ 200
table_first GhashGeneric = lit≤ tt
table_first GhashTable = lit≤ tt

gcm_first : (aes : AesForm) (ghash : GhashForm) → (aes_priority aes + ghash_priority ghash) / 2 ≤ 250
gcm_first aes ghash = omega (arith, lanes_first aes, table_first ghash)

authenc_first : (aes : AesForm) → aes_priority aes * 10 + 100 ≤ 3100
authenc_first aes = omega (arith, lanes_first aes)

pub fastest : (p : Plan) → HasFastest p
fastest (Cbc aes) = (Cbc AesLanes, refl, refl, lanes_first aes)
fastest (Ctr aes) = (Ctr AesLanes, refl, refl, lanes_first aes)
fastest (Rfc3686 aes) = (Rfc3686 AesLanes, refl, refl, lanes_first aes)
fastest (Xts aes) = (Xts AesLanes, refl, refl, lanes_first aes)
fastest (Gcm aes ghash) = (Gcm AesLanes GhashTable, refl, refl, gcm_first aes ghash)
fastest (Rfc4106 aes ghash) = (Rfc4106 AesLanes GhashTable, refl, refl, gcm_first aes ghash)
fastest (Ccm aes) = (Ccm AesLanes, refl, refl, lanes_first aes)
fastest Hmac = (Hmac, refl, refl, lit≤ tt)
fastest (Cmac aes) = (Cmac AesLanes, refl, refl, lanes_first aes)
fastest (AuthencCbc aes) = (AuthencCbc AesLanes, refl, refl, authenc_first aes)
fastest (AuthencCtr aes) = (AuthencCtr AesLanes, refl, refl, authenc_first aes)
fastest (AuthencRfc3686 aes) = (AuthencRfc3686 AesLanes, refl, refl, authenc_first aes)
fastest (AuthencXts aes) = (AuthencXts AesLanes, refl, refl, authenc_first aes)
