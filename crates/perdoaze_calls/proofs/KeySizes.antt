-- Which sizes of keys a plan takes, and which tags.
use Rattle.std.proofs.Common.{◌≡◌, ℕ, ◌+◌, ◌-◌, ◌≤◌, ◌⊎◌, Bool, true, false, List, [], ◌∷◌, length, take, drop, replicate, Some, None, if◌then◌else◌, true≢false, refl, sym, ap, ◌∙◌, arith, inl, inr, ⊎_elim, lit≤, length-drop}
use Rattle.std.specs.Prelude.{◌==◌, ◌&&◌, ◌||◌, nat_le, bytes_eq}
use Rattle.std.specs.Int.{w32, from_be_bytes}
use Rattle.std.proofs.lemmas.Bool.{eqb-true, leb-true, le-leb}
use Rattle.std.proofs.lemmas.List.{length-replicate}
use Rattle.std_defs.specs.Authenc.{blob, is_blob, blob_keys, mac_key_length, cipher_key_length}
use Rattle.templates.specs.declared.driver_plans.Plan.{Plan}
use Rattle.templates.specs.declared.driver_plans.Plan.TheVariants.{Cbc, Ctr, Rfc3686, Xts, Gcm, Rfc4106, Ccm, Hmac, Cmac, AuthencCbc, AuthencCtr, AuthencRfc3686, AuthencXts}
use Rattle.transforms.specs.Plans.{takes_key, is_key_length, is_salted_length, is_doubled_length, by_keys}
use Rattle.perdoaze_calls.specs.Infos.{least_key, greatest_key, no_limit}
use Rattle.perdoaze_calls.specs.Laws.{TakesSize}

pub either : (a b : Bool) → (a || b) ≡ true → (a ≡ true) ⊎ (b ≡ true)
either true b e = inl refl
either false b e = inr e

first : (a b : Bool) → (a && b) ≡ true → a ≡ true
first true b e = refl
first false b e = absurd (cc)

pub second : (a b : Bool) → (a && b) ≡ true → b ≡ true
second true b e = e
second false b e = absurd (cc)

all_three : (a b c : Bool) → a ≡ true → b ≡ true → c ≡ true → (a && b && c) ≡ true
all_three a b c p q r = rw (p, q, r) refl

-- ---- keys of AES

pub record Between (low high n : ℕ) : Type 0 where
  pub above : low ≤ n
  pub below : n ≤ high

exactly : (low high n k : ℕ) → low ≤ k → k ≤ high → (n == k) ≡ true → Between low high n
exactly low high n k l h e = let x : n ≡ k = eqb-true n k e in record { above = omega (arith, x, l); below = omega (arith, x, h) }

plain_key : (n : ℕ) → is_key_length n ≡ true → Between 16 32 n
plain_key n e =
    ⊎_elim (exactly 16 32 n 16 (lit≤ tt) (lit≤ tt))
    (λ o. ⊎_elim (exactly 16 32 n 24 (lit≤ tt) (lit≤ tt)) (exactly 16 32 n 32 (lit≤ tt) (lit≤ tt)) (either (n == 24) (n == 32) o))
    (either (n == 16) (n == 24 || n == 32) e)

salted_key : (n : ℕ) → is_salted_length n ≡ true → Between 20 36 n
salted_key n e =
    let four : 4 ≤ n = leb-true 4 n (first (nat_le 4 n) (is_key_length (n - 4)) e) in
    let inner = plain_key (n - 4) (second (nat_le 4 n) (is_key_length (n - 4)) e) in
    record { above = omega (arith, inner.above, four); below = omega (arith, inner.below, four) }

doubled_key : (n : ℕ) → is_doubled_length n ≡ true → Between 32 64 n
doubled_key n e = ⊎_elim (exactly 32 64 n 32 (lit≤ tt) (lit≤ tt)) (exactly 32 64 n 64 (lit≤ tt) (lit≤ tt)) (either (n == 32) (n == 64) e)

-- ---- keys of authenc

-- the cipher's key has a length that passes, and stands behind eight bytes at least
record Within (key : List ℕ) (passes : ℕ → Bool) : Type 0 where
  n : ℕ
  passed : passes n ≡ true
  long : 8 + n ≤ length key

of_test : (key : List ℕ) (passes : ℕ → Bool) (b : Bool) → is_blob key ≡ b
    → by_keys (λ mk ck. passes (length ck)) false (if b then Some (take (mac_key_length key) (blob_keys key), drop (mac_key_length key) (blob_keys key)) else None) ≡ true
    → Within key passes
unfolding is_blob blob_keys
of_test key passes true reads h =
    let eight : nat_le 8 (length key) ≡ true =
    first (nat_le 8 (length key)) (bytes_eq (take 4 key) (0x08 ∷ 0x00 ∷ 0x01 ∷ 0x00 ∷ []))
    (first (nat_le 8 (length key) && bytes_eq (take 4 key) (0x08 ∷ 0x00 ∷ 0x01 ∷ 0x00 ∷ [])) (nat_le (cipher_key_length key) (length (blob_keys key))) reads) in
    let header : 8 ≤ length key = leb-true 8 (length key) eight in
    record {
      n = length (drop (mac_key_length key) (blob_keys key));
      passed = h;
      long = omega (arith, length-drop (mac_key_length key) (drop 8 key), length-drop 8 key, header);
    }
of_test key passes false reads h = absurd (cc)

of_blob : (key : List ℕ) (passes : ℕ → Bool) → by_keys (λ mk ck. passes (length ck)) false (blob key) ≡ true → Within key passes
unfolding blob
of_blob key passes h = of_test key passes (is_blob key) refl h

-- a blob of zeros, with a cipher's key of k bytes at the end of m bytes
abbrev made : ℕ → ℕ → List ℕ
made k m = 8 ∷ 0 ∷ 1 ∷ 0 ∷ 0 ∷ 0 ∷ 0 ∷ k ∷ replicate m 0

blob_made : (passes : ℕ → Bool) (k m : ℕ) → k ≤ m → from_be_bytes w32 (0 ∷ 0 ∷ 0 ∷ k ∷ []) ≡ k
    → by_keys (λ mk ck. passes (length ck)) false (blob (made k m)) ≡ passes k
unfolding blob is_blob blob_keys mac_key_length cipher_key_length
blob_made passes k m h read =
    let keys : List ℕ = replicate m 0 in
    let number : ℕ = from_be_bytes w32 (0 ∷ 0 ∷ 0 ∷ k ∷ []) in
    let long : length keys ≡ m = length-replicate m 0 in
    let reads : is_blob (made k m) ≡ true =
    all_three (nat_le 8 (length (made k m))) (bytes_eq (take 4 (made k m)) (0x08 ∷ 0x00 ∷ 0x01 ∷ 0x00 ∷ [])) (nat_le number (length keys))
    (le-leb 8 (length (made k m)) (omega arith)) refl (le-leb number (length keys) (omega (arith, read, long, h))) in
    let left : length (drop (length keys - number) keys) ≡ k = omega (arith, length-drop (length keys - number) keys, read, long, h) in
    ap (λ b. by_keys (λ mk ck. passes (length ck)) false (if b then Some (take (length keys - number) keys, drop (length keys - number) keys) else None)) reads
    ∙ ap passes left

-- ---- the laws

zeros : (p : Plan) (n : ℕ) → takes_key p (replicate n 0) ≡ true → TakesSize p n
zeros p n e = (replicate n 0, e, length-replicate n 0)

blob_size : (p : Plan) (k n : ℕ) → 8 + k ≤ n → takes_key p (made k (n - 8)) ≡ true → TakesSize p n
blob_size p k n h e =
    let zero_bytes : List ℕ = replicate (n - 8) 0 in
    let long : length zero_bytes ≡ n - 8 = length-replicate (n - 8) 0 in
    (made k (n - 8), e, omega (arith, long, h))

-- a small number is no sign of having no limit
limited : (g : ℕ) → nat_le g 64 ≡ true → g ≡ no_limit → ⊥
limited g t e = true≢false (sym t ∙ ap (λ k. nat_le k 64) e)

plain_blob : (n : ℕ) → 24 ≤ n → by_keys (λ mk ck. is_key_length (length ck)) false (blob (made 16 (n - 8))) ≡ true
plain_blob n h = blob_made is_key_length 16 (n - 8) (omega (arith, h)) refl

salted_blob : (n : ℕ) → 28 ≤ n → by_keys (λ mk ck. is_salted_length (length ck)) false (blob (made 20 (n - 8))) ≡ true
salted_blob n h = blob_made is_salted_length 20 (n - 8) (omega (arith, h)) refl

doubled_blob : (n : ℕ) → 40 ≤ n → by_keys (λ mk ck. is_doubled_length (length ck)) false (blob (made 32 (n - 8))) ≡ true
doubled_blob n h = blob_made is_doubled_length 32 (n - 8) (omega (arith, h)) refl

pub unlimited : (p : Plan) (n : ℕ) → greatest_key p ≡ no_limit → least_key p ≤ n → TakesSize p n
unlimited (Cbc aes) n e h = absurd (limited 32 refl e)
unlimited (Ctr aes) n e h = absurd (limited 32 refl e)
unlimited (Rfc3686 aes) n e h = absurd (limited 36 refl e)
unlimited (Xts aes) n e h = absurd (limited 64 refl e)
unlimited (Gcm aes ghash) n e h = absurd (limited 32 refl e)
unlimited (Rfc4106 aes ghash) n e h = absurd (limited 36 refl e)
unlimited (Ccm aes) n e h = absurd (limited 32 refl e)
unlimited Hmac n e h = zeros Hmac n refl
unlimited (Cmac aes) n e h = absurd (limited 32 refl e)
unlimited (AuthencCbc aes) n e h = blob_size (AuthencCbc aes) 16 n h (plain_blob n h)
unlimited (AuthencCtr aes) n e h = blob_size (AuthencCtr aes) 16 n h (plain_blob n h)
unlimited (AuthencRfc3686 aes) n e h = blob_size (AuthencRfc3686 aes) 20 n h (salted_blob n h)
unlimited (AuthencXts aes) n e h = blob_size (AuthencXts aes) 32 n h (doubled_blob n h)

pub smallest : (p : Plan) → TakesSize p (least_key p)
smallest (Cbc aes) = zeros (Cbc aes) 16 refl
smallest (Ctr aes) = zeros (Ctr aes) 16 refl
smallest (Rfc3686 aes) = zeros (Rfc3686 aes) 20 refl
smallest (Xts aes) = zeros (Xts aes) 32 refl
smallest (Gcm aes ghash) = zeros (Gcm aes ghash) 16 refl
smallest (Rfc4106 aes ghash) = zeros (Rfc4106 aes ghash) 20 refl
smallest (Ccm aes) = zeros (Ccm aes) 16 refl
smallest Hmac = zeros Hmac 0 refl
smallest (Cmac aes) = zeros (Cmac aes) 16 refl
smallest (AuthencCbc aes) = unlimited (AuthencCbc aes) 24 refl (lit≤ tt)
smallest (AuthencCtr aes) = unlimited (AuthencCtr aes) 24 refl (lit≤ tt)
smallest (AuthencRfc3686 aes) = unlimited (AuthencRfc3686 aes) 28 refl (lit≤ tt)
smallest (AuthencXts aes) = unlimited (AuthencXts aes) 40 refl (lit≤ tt)

pub greatest : (p : Plan) → TakesSize p (greatest_key p)
greatest (Cbc aes) = zeros (Cbc aes) 32 refl
greatest (Ctr aes) = zeros (Ctr aes) 32 refl
greatest (Rfc3686 aes) = zeros (Rfc3686 aes) 36 refl
greatest (Xts aes) = zeros (Xts aes) 64 refl
greatest (Gcm aes ghash) = zeros (Gcm aes ghash) 32 refl
greatest (Rfc4106 aes ghash) = zeros (Rfc4106 aes ghash) 36 refl
greatest (Ccm aes) = zeros (Ccm aes) 32 refl
greatest Hmac = unlimited Hmac no_limit refl (lit≤ tt)
greatest (Cmac aes) = zeros (Cmac aes) 32 refl
greatest (AuthencCbc aes) = unlimited (AuthencCbc aes) no_limit refl (lit≤ tt)
greatest (AuthencCtr aes) = unlimited (AuthencCtr aes) no_limit refl (lit≤ tt)
greatest (AuthencRfc3686 aes) = unlimited (AuthencRfc3686 aes) no_limit refl (lit≤ tt)
greatest (AuthencXts aes) = unlimited (AuthencXts aes) no_limit refl (lit≤ tt)

pub none_smaller : (p : Plan) (key : List ℕ) → takes_key p key ≡ true → least_key p ≤ length key
none_smaller (Cbc aes) key e = (plain_key (length key) e).above
none_smaller (Ctr aes) key e = (plain_key (length key) e).above
none_smaller (Rfc3686 aes) key e = (salted_key (length key) e).above
none_smaller (Xts aes) key e = (doubled_key (length key) e).above
none_smaller (Gcm aes ghash) key e = (plain_key (length key) e).above
none_smaller (Rfc4106 aes ghash) key e = (salted_key (length key) e).above
none_smaller (Ccm aes) key e = (plain_key (length key) e).above
none_smaller Hmac key e = omega arith
none_smaller (Cmac aes) key e = (plain_key (length key) e).above
none_smaller (AuthencCbc aes) key e = let w = of_blob key is_key_length e in omega (arith, w.long, (plain_key w.n w.passed).above)
none_smaller (AuthencCtr aes) key e = let w = of_blob key is_key_length e in omega (arith, w.long, (plain_key w.n w.passed).above)
none_smaller (AuthencRfc3686 aes) key e = let w = of_blob key is_salted_length e in omega (arith, w.long, (salted_key w.n w.passed).above)
none_smaller (AuthencXts aes) key e = let w = of_blob key is_doubled_length e in omega (arith, w.long, (doubled_key w.n w.passed).above)

pub none_greater : (p : Plan) (key : List ℕ) → takes_key p key ≡ true → (length key ≤ greatest_key p) ⊎ (greatest_key p ≡ no_limit)
none_greater (Cbc aes) key e = inl (plain_key (length key) e).below
none_greater (Ctr aes) key e = inl (plain_key (length key) e).below
none_greater (Rfc3686 aes) key e = inl (salted_key (length key) e).below
none_greater (Xts aes) key e = inl (doubled_key (length key) e).below
none_greater (Gcm aes ghash) key e = inl (plain_key (length key) e).below
none_greater (Rfc4106 aes ghash) key e = inl (salted_key (length key) e).below
none_greater (Ccm aes) key e = inl (plain_key (length key) e).below
none_greater Hmac key e = inr refl
none_greater (Cmac aes) key e = inl (plain_key (length key) e).below
none_greater (AuthencCbc aes) key e = inr refl
none_greater (AuthencCtr aes) key e = inr refl
none_greater (AuthencRfc3686 aes) key e = inr refl
none_greater (AuthencXts aes) key e = inr refl
