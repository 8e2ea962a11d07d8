-- Opening undoes sealing, plan by plan.
use Rattle.std.proofs.Common.{◌≡◌, ℕ, ◌-◌, ◌/◌, ◌<◌, ◌≤◌, ◌⊎◌, inl, inr, Bool, true, false, ◌||◌, List, [], ◌++◌, length, take, drop, Option, Some, None, refl, sym, ap, ap₂, subst, ◌∙◌, arith, length-append, length-take, length-drop}
use Rattle.std.specs.Prelude.{◌==◌, ◌&&◌, nat_le, bytes_eq, if◌then◌else◌}
use Rattle.std.specs.Option.{option_map}
use Rattle.std.proofs.lemmas.Bool.{cond-true, eqb-true, leb-true, or_cases, and_parts}
use Rattle.std.proofs.lemmas.List.{take_at, drop_at}
use Rattle.std.proofs.lemmas.List.Elements.{All-take, All-drop}
use Rattle.std.proofs.lemmas.Slice.Eq.{bytes_eq-Decides}
use Rattle.sha2.proofs.Facts256.{length-sha256}
use Rattle.std_defs.specs.Aes.{seal, unseal, IsKey, IsKeyLength}
use Rattle.std_defs.specs.Authenc.{blob, is_blob, blob_keys, mac_key_length}
use Rattle.std_defs.specs.Blocks.{block_number, xor_blocks}
use Rattle.std_defs.specs.Ccm.{ccm_takes_iv, ccm_takes_tag, ccm_counter, ccm_chained, ccm_text, ccm_tag, ccm_seal, ccm_open}
use Rattle.std_defs.specs.Gcm.{BlockFunction, gcm_text, gcm_tag, gcm_seal, gcm_open, gcm_takes_tag}
use Rattle.std_defs.specs.Hmac.{hmac, hmac_under}
use Rattle.std_defs.specs.Modes.{cbc_seal, cbc_unseal, ctr as ctr_of, ctr_stream, rfc3686_counter}
use Rattle.std_defs.specs.Rfc4106.{rfc4106_takes, rfc4106_iv, rfc4106_associated, rfc4106_takes_tag}
use Rattle.std_defs.specs.Value.{Value, or_invalid, or_bad_message}
use Rattle.std_defs.specs.Value.Value.{bytes, bad_message, invalid}
use Rattle.std_defs.specs.Xts.{xts_seal, xts_unseal}
use Rattle.std_defs.proofs.GcmOpened.{gcm_open-seal, length-gcm_tag}
use Rattle.std_defs.proofs.Joined.{xor_blocks-length}
use Rattle.std_defs.proofs.KeyStream.{with_stream-twice}
use Rattle.aes_block.specs.Laws.{seals_and_unseals}
use Rattle.cbc_mode.specs.Laws.{cbc_unseals_what_it_sealed}
use Rattle.xts_mode.specs.Laws.{xts_unseals_what_it_sealed}
use Rattle.cmac_ccm.proofs.Opened.{opens_sealed}
use Rattle.templates.specs.Words.{template_named}
use Rattle.templates.specs.declared.driver_plans.Plan.{Plan}
use Rattle.templates.specs.declared.driver_plans.Plan.TheVariants as plan
use Rattle.transforms.specs.Asked.{takes, cipher_takes, aead_takes, is_plain, TakesInput}
use Rattle.transforms.specs.Cuts.{in_one}
use Rattle.transforms.specs.Drivers.{driver_of}
use Rattle.transforms.specs.Plans.{takes_key, fits_tag, is_key_length, is_doubled_length, authenc_takes_tag, front_key, last_four, first_half, second_half, by_keys, takes_input}
use Rattle.transforms.specs.RequestValue.{Gives, by_direction, ciphertext_in, tag_in, cbc_gives, ctr_gives, rfc3686_gives, xts_gives, gcm_gives, rfc4106_gives, ccm_gives, with_mac, under_mac, cipher_request, authenc_gives, request_value}
use Rattle.transforms.specs.Tagged.{joined as both}
use Rattle.transforms.specs.declared.request.Dir.{Dir}
use Rattle.transforms.specs.declared.request.Dir.TheVariants.{Enc, Dec, Mac}
use Rattle.transforms.specs.declared.request.Request.{Request}
use Rattle.transforms.proofs.RequestValues.{planned_value}
use Rattle.opening_laws.specs.Opening.{AreBytes, to_open, OpensWhatItSealed}

-- ---- values and directions

same_bytes : (x y : List ℕ) → bytes x ≡ bytes y → x ≡ y
same_bytes x y e = cc

made_some : (o : Option (List ℕ)) (made : List ℕ) → or_invalid o ≡ bytes made → o ≡ Some made
made_some None made e = cc
made_some (Some x) made e = ap (λ (y : List ℕ). Some y) (same_bytes x made e)

sealing : (q : Request) (v w : Value) → q.dir ≡ Enc → by_direction q v w ≡ v
sealing q v w enc = ap (λ (d : Dir). elim d [ Enc ↦ v | Dec ↦ w | Mac ↦ invalid ]) enc

-- ---- keys

key_length : (n : ℕ) → is_key_length n ≡ true → IsKeyLength n
key_length n e = by_first (or_cases (n == 16) (n == 24 || n == 32) e)
  where
    by_last : (n == 24 ≡ true) ⊎ (n == 32 ≡ true) → IsKeyLength n
    by_last (inl h) = inr (inl (eqb-true n 24 h))
    by_last (inr h) = inr (inr (eqb-true n 32 h))

    by_first : (n == 16 ≡ true) ⊎ ((n == 24 || n == 32) ≡ true) → IsKeyLength n
    by_first (inl h) = inl (eqb-true n 16 h)
    by_first (inr h) = by_last (or_cases (n == 24) (n == 32) h)

is_key : (key : List ℕ) → is_key_length (length key) ≡ true → AreBytes key → IsKey key
is_key key e all = (key_length (length key) e, all)

half_lengths : (key : List ℕ) → is_doubled_length (length key) ≡ true → (length key ≡ 32) ⊎ (length key ≡ 64)
half_lengths key e = by_case (or_cases (length key == 32) (length key == 64) e)
  where
    by_case : (length key == 32 ≡ true) ⊎ (length key == 64 ≡ true) → (length key ≡ 32) ⊎ (length key ≡ 64)
    by_case (inl h) = inl (eqb-true (length key) 32 h)
    by_case (inr h) = inr (eqb-true (length key) 64 h)

halves_are : (key : List ℕ) → is_doubled_length (length key) ≡ true → AreBytes key → IsKey (first_half key) × IsKey (second_half key)
halves_are key e all = by_case (half_lengths key e)
  where
    by_case : (length key ≡ 32) ⊎ (length key ≡ 64) → IsKey (first_half key) × IsKey (second_half key)
    by_case (inl h) = (
      (inl (omega (arith, length-take (length key / 2) key, h)), All-take (λ x. x < 256) (length key / 2) key all),
      (inl (omega (arith, length-drop (length key / 2) key, h)), All-drop (λ x. x < 256) (length key / 2) key all),
    )
    by_case (inr h) = (
      (inr (inr (omega (arith, length-take (length key / 2) key, h))), All-take (λ x. x < 256) (length key / 2) key all),
      (inr (inr (omega (arith, length-drop (length key / 2) key, h))), All-drop (λ x. x < 256) (length key / 2) key all),
    )

-- ---- a text and its tag

front_of : (c t : List ℕ) (n : ℕ) → length t ≡ n → take (length (c ++ t) - n) (c ++ t) ≡ c
front_of c t n long = take_at c t (length (c ++ t) - n) (omega (arith, length-append c t, long))

behind : (c t : List ℕ) (n : ℕ) → length t ≡ n → drop (length (c ++ t) - n) (c ++ t) ≡ t
behind c t n long = drop_at c t (length (c ++ t) - n) (omega (arith, length-append c t, long))

-- ---- the modes without a tag

-- what e made under the key it opens there
Opens : Gives → List ℕ → ℕ → Request → Type 0
Opens e key n q = (made : List ℕ) → e key n q ≡ bytes made → e key n (to_open q made) ≡ bytes q.text.text

cbc_opens : (key : List ℕ) (n : ℕ) (q : Request) → IsKey key → q.dir ≡ Enc → length q.iv ≡ 16 → AreBytes q.iv → AreBytes q.text.text → Opens cbc_gives key n q
unfolding Opens
cbc_opens key n q is enc long iv text made e =
    let sealed = made_some (cbc_seal (seal key) q.iv q.text.text) made (sym (sealing q (or_invalid (cbc_seal (seal key) q.iv q.text.text)) (or_invalid (cbc_unseal (unseal key) q.iv q.text.text)) enc) ∙ e) in
    ap or_invalid ((cbc_unseals_what_it_sealed (seal key) (unseal key) (seals_and_unseals key is)).unseals_sealed q.iv q.text.text made long iv text sealed)

ctr_opens : (key : List ℕ) (n : ℕ) (q : Request) → q.dir ≡ Enc → Opens ctr_gives key n q
unfolding Opens
ctr_opens key n q enc made e =
    let c : List ℕ = ctr_of (seal key) q.iv q.text.text in
    let is : c ≡ made = same_bytes c made (sym (sealing q (bytes c) (bytes c) enc) ∙ e) in
    ap (λ (t : List ℕ). bytes t) (ap (ctr_of (seal key) q.iv) (sym is) ∙ with_stream-twice (ctr_stream (seal key) (block_number q.iv)) q.text.text)

rfc3686_opens : (key : List ℕ) (n : ℕ) (q : Request) → q.dir ≡ Enc → Opens (rfc3686_gives ctr_gives) key n q
unfolding Opens
rfc3686_opens key n q enc made e = ctr_opens (front_key key) n (record q { iv = rfc3686_counter (last_four key) q.iv }) enc made e

xts_opens : (key : List ℕ) (n : ℕ) (q : Request) → IsKey (first_half key) × IsKey (second_half key) → q.dir ≡ Enc → length q.iv ≡ 16 → AreBytes q.iv → AreBytes q.text.text → Opens xts_gives key n q
unfolding Opens
xts_opens key n q is enc long iv text made e =
    let k : List ℕ = first_half key in
    let t : List ℕ = second_half key in
    let sealed = made_some (xts_seal (seal k) (seal t) q.iv q.text.text) made (sym (sealing q (or_invalid (xts_seal (seal k) (seal t) q.iv q.text.text)) (or_invalid (xts_unseal (unseal k) (seal t) q.iv q.text.text)) enc) ∙ e) in
    ap or_invalid ((xts_unseals_what_it_sealed (seal k) (unseal k) (seal t) (unseal t) (seals_and_unseals k is.0) (seals_and_unseals t is.1)).unseals_sealed q.iv q.text.text made long iv text sealed)

-- ---- the modes with a tag

gcm_opens : (key : List ℕ) (n : ℕ) (q : Request) → n ≤ 16 → q.dir ≡ Enc → Opens gcm_gives key n q
unfolding Opens gcm_seal
gcm_opens key n q few enc made e =
    let c : List ℕ = gcm_text (seal key) q.iv q.text.text in
    let tag : List ℕ = gcm_tag (seal key) q.iv q.aad c in
    let long : length (take n tag) ≡ n = omega (arith, length-take n tag, length-gcm_tag (seal key) q.iv q.aad c, few) in
    let is : c ++ take n tag ≡ made = same_bytes (c ++ take n tag) made (sym (sealing q (bytes (c ++ take n tag)) (or_bad_message (gcm_open (seal key) q.iv q.aad (ciphertext_in n q) (tag_in n q))) enc) ∙ e) in
    subst (λ (m : List ℕ). or_bad_message (gcm_open (seal key) q.iv q.aad (take (length m - n) m) (drop (length m - n) m)) ≡ bytes q.text.text) is
    (ap₂ (λ (x y : List ℕ). or_bad_message (gcm_open (seal key) q.iv q.aad x y)) (front_of c (take n tag) n long) (behind c (take n tag) n long)
    ∙ ap or_bad_message (gcm_open-seal (seal key) q.iv q.aad q.text.text c tag n refl refl few))

rfc4106_opens : (key : List ℕ) (n : ℕ) (q : Request) → n ≤ 16 → q.dir ≡ Enc → Opens (rfc4106_gives gcm_gives) key n q
unfolding Opens
rfc4106_opens key n q few enc made e =
    let p : Request = record q { iv = rfc4106_iv (last_four key) q.iv; aad = rfc4106_associated q.aad } in
    by_taken p (rfc4106_takes q.aad) e (gcm_opens (front_key key) n p few enc made)
  where
    by_taken : (p : Request) (b : Bool) → (if b then gcm_gives (front_key key) n p else invalid) ≡ bytes made → (gcm_gives (front_key key) n p ≡ bytes made → gcm_gives (front_key key) n (to_open p made) ≡ bytes q.text.text)
        → (if b then gcm_gives (front_key key) n (to_open p made) else invalid) ≡ bytes q.text.text
    by_taken p true is opens = opens is
    by_taken p false is opens = cc

both_some : (o : Option (List ℕ × List ℕ)) (made : List ℕ) → or_invalid (option_map both o) ≡ bytes made → (p : List ℕ × List ℕ) × (o ≡ Some p) × (p.0 ++ p.1 ≡ made)
both_some None made e = cc
both_some (Some p) made e = (p, refl, same_bytes (p.0 ++ p.1) made e)

some_is : {X : Type 0} (x y : X) → Some x ≡ Some y → x ≡ y
some_is x y e = cc

ccm_tag-long : (f : BlockFunction) (n : ℕ) (iv associated text : List ℕ) (p : List ℕ × List ℕ) → n ≤ 16 → ccm_seal f n iv associated text ≡ Some p → length p.1 ≡ n
unfolding ccm_seal ccm_tag
ccm_tag-long f n iv associated text p few e = by_taken (ccm_takes_iv iv) e
  where
    sum : List ℕ
    sum = xor_blocks (ccm_chained f n iv associated text) (f (ccm_counter iv 0))

    by_taken : (b : Bool) → (if b then Some (ccm_text f iv text, take n sum) else None) ≡ Some p → length p.1 ≡ n
    by_taken true is =
        let pair : (ccm_text f iv text, take n sum) ≡ p = some_is (ccm_text f iv text, take n sum) p is in
        let long : length (take n sum) ≡ length p.1 = ap (λ (x : List ℕ × List ℕ). length x.1) pair in
        omega (arith, long, length-take n sum, xor_blocks-length (ccm_chained f n iv associated text) (f (ccm_counter iv 0)), few)
    by_taken false is = cc

ccm_opens : (key : List ℕ) (n : ℕ) (q : Request) → n ≤ 16 → q.dir ≡ Enc → Opens ccm_gives key n q
unfolding Opens
ccm_opens key n q few enc made e =
    let f : BlockFunction = seal key in
    let sealed = both_some (ccm_seal f n q.iv q.aad q.text.text) made (sym (sealing q (or_invalid (option_map both (ccm_seal f n q.iv q.aad q.text.text))) (ccm_open f q.iv q.aad (ciphertext_in n q) (tag_in n q)) enc) ∙ e) in
    let long : length sealed.0.1 ≡ n = ccm_tag-long f n q.iv q.aad q.text.text sealed.0 few sealed.1 in
    subst (λ (m : List ℕ). ccm_open f q.iv q.aad (take (length m - n) m) (drop (length m - n) m) ≡ bytes q.text.text) sealed.2
    (ap₂ (λ (x y : List ℕ). ccm_open f q.iv q.aad x y) (front_of sealed.0.0 sealed.0.1 n long) (behind sealed.0.0 sealed.0.1 n long)
    ∙ opens_sealed f n q.iv q.aad q.text.text sealed.0.0 sealed.0.1 few sealed.1)

hmac_long : (key message : List ℕ) → length (hmac key message) ≡ 32
unfolding hmac_under
hmac_long key message = length-sha256 _

mac_some : (mac : List ℕ → List ℕ) (n : ℕ) (v : Value) (made : List ℕ) → with_mac mac n v ≡ bytes made → (c : List ℕ) × (v ≡ bytes c) × (c ++ take n (mac c) ≡ made)
mac_some mac n (bytes c) made e = (c, refl, same_bytes (c ++ take n (mac c)) made e)
mac_some mac n bad_message made e = cc
mac_some mac n invalid made e = cc

keys_open : (e : Gives) (key : List ℕ) (n : ℕ) (q : Request) (mk ck : List ℕ) → n ≤ 32 → q.dir ≡ Enc → Opens e ck 0 (cipher_request q.text.text q) → (made : List ℕ)
    → by_direction q (with_mac (λ m. hmac mk (q.aad ++ m)) n (e ck 0 (cipher_request q.text.text q)))
    (under_mac (hmac mk (q.aad ++ ciphertext_in n q)) (tag_in n q) (e ck 0 (cipher_request (ciphertext_in n q) q))) ≡ bytes made
    → under_mac (hmac mk (q.aad ++ ciphertext_in n (to_open q made))) (tag_in n (to_open q made)) (e ck 0 (cipher_request (ciphertext_in n (to_open q made)) (to_open q made))) ≡ bytes q.text.text
unfolding Opens
keys_open e key n q mk ck few enc opens made is =
    let mac : List ℕ → List ℕ = λ m. hmac mk (q.aad ++ m) in
    let v : Value = e ck 0 (cipher_request q.text.text q) in
    let s = mac_some mac n v made (sym (sealing q (with_mac mac n v) (under_mac (mac (ciphertext_in n q)) (tag_in n q) (e ck 0 (cipher_request (ciphertext_in n q) q))) enc) ∙ is) in
    let c : List ℕ = s.0 in
    let tag : List ℕ = take n (mac c) in
    let long : length tag ≡ n = omega (arith, length-take n (mac c), hmac_long mk (q.aad ++ c), few) in
    let opened : List ℕ → Value = λ t. e ck 0 (record q { dir = Dec; aad = []; text = in_one t }) in
    let right : take (length tag) (mac c) ≡ tag = ap (λ (k : ℕ). take k (mac c)) long in
    subst (λ (m : List ℕ). under_mac (mac (take (length m - n) m)) (drop (length m - n) m) (opened (take (length m - n) m)) ≡ bytes q.text.text) s.2
    (ap₂ (λ (x y : List ℕ). under_mac (mac x) y (opened x)) (front_of c tag n long) (behind c tag n long)
    ∙ (cond-true (bytes_eq (take (length tag) (mac c)) tag) (opened c) bad_message ((bytes_eq-Decides (take (length tag) (mac c)) tag).1 right)
    ∙ opens c s.1))

authenc_opens : (e : Gives) (key : List ℕ) (n : ℕ) (q : Request) → n ≤ 32 → q.dir ≡ Enc → ((mk ck : List ℕ) → blob key ≡ Some (mk, ck) → Opens e ck 0 (cipher_request q.text.text q)) → Opens (authenc_gives e) key n q
unfolding Opens
authenc_opens e key n q few enc opens made is = by_blob (blob key) refl is
  where
    by_blob : (o : Option (List ℕ × List ℕ)) → blob key ≡ o
        → by_keys (λ mk ck. by_direction q (with_mac (λ m. hmac mk (q.aad ++ m)) n (e ck 0 (cipher_request q.text.text q)))
        (under_mac (hmac mk (q.aad ++ ciphertext_in n q)) (tag_in n q) (e ck 0 (cipher_request (ciphertext_in n q) q)))) invalid o ≡ bytes made
        → by_keys (λ mk ck. by_direction (to_open q made) (with_mac (λ m. hmac mk (q.aad ++ m)) n (e ck 0 (cipher_request made (to_open q made))))
        (under_mac (hmac mk (q.aad ++ ciphertext_in n (to_open q made))) (tag_in n (to_open q made)) (e ck 0 (cipher_request (ciphertext_in n (to_open q made)) (to_open q made))))) invalid o ≡ bytes q.text.text
    by_blob None b f = cc
    by_blob (Some keys) b f = keys_open e key n q keys.0 keys.1 few enc (opens keys.0 keys.1 b) made f

-- ---- what a plan takes

plain_iv : (size : ℕ) (q : Request) → q.dir ≡ Enc → cipher_takes size q ≡ true → length q.iv ≡ size
plain_iv size q enc e =
    let t : (is_plain size q) ≡ true = sym (ap (λ (d : Dir). elim d [ Enc ↦ is_plain size q | Dec ↦ is_plain size q | Mac ↦ false ]) enc) ∙ e in
    eqb-true (length q.iv) size (and_parts (length q.iv == size) (length q.aad == 0) t).0

aead_iv : (input : TakesInput) (size n : ℕ) (q : Request) → q.dir ≡ Enc → aead_takes input size n q ≡ true → length q.iv ≡ size
aead_iv input size n q enc e =
    let sealed : Bool = length q.iv == size && input q.iv (length q.aad) (length q.text.text) in
    let opened : Bool = length q.iv == size && nat_le n (length q.text.text) && input q.iv (length q.aad) (length q.text.text - n) in
    let t : sealed ≡ true = sym (ap (λ (d : Dir). elim d [ Enc ↦ sealed | Dec ↦ opened | Mac ↦ false ]) enc) ∙ e in
    eqb-true (length q.iv) size (and_parts (length q.iv == size) (input q.iv (length q.aad) (length q.text.text)) t).0

-- one of these numbers, or what comes behind them
or_few : (n m k : ℕ) (rest : Bool) → m ≤ k → (rest ≡ true → n ≤ k) → (n == m || rest) ≡ true → n ≤ k
or_few n m k rest le later e = by_first (or_cases (n == m) rest e)
  where
    by_first : (n == m ≡ true) ⊎ (rest ≡ true) → n ≤ k
    by_first (inl h) = omega (arith, eqb-true n m h, le)
    by_first (inr h) = later h

few_or : (n m k : ℕ) (first : Bool) → m ≤ k → (first ≡ true → n ≤ k) → (first || n == m) ≡ true → n ≤ k
few_or n m k first le before e = by_last (or_cases first (n == m) e)
  where
    by_last : (first ≡ true) ⊎ (n == m ≡ true) → n ≤ k
    by_last (inl h) = before h
    by_last (inr h) = omega (arith, eqb-true n m h, le)

is_few : (n m k : ℕ) → m ≤ k → n == m ≡ true → n ≤ k
is_few n m k le e = omega (arith, eqb-true n m e, le)

gcm_few : (n : ℕ) → gcm_takes_tag n ≡ true → n ≤ 16
gcm_few n e =
    or_few n 4 16 (n == 8 || (nat_le 12 n && nat_le n 16)) (omega arith)
    (or_few n 8 16 (nat_le 12 n && nat_le n 16) (omega arith) (λ h. leb-true n 16 (and_parts (nat_le 12 n) (nat_le n 16) h).1)) e

rfc4106_few : (n : ℕ) → rfc4106_takes_tag n ≡ true → n ≤ 16
rfc4106_few n e = or_few n 8 16 (n == 12 || n == 16) (omega arith) (or_few n 12 16 (n == 16) (omega arith) (is_few n 16 16 (omega arith))) e

ccm_few : (n : ℕ) → ccm_takes_tag n ≡ true → n ≤ 16
ccm_few n e =
    few_or n 16 16 (n == 4 || n == 6 || n == 8 || n == 10 || n == 12 || n == 14) (omega arith)
    (few_or n 14 16 (n == 4 || n == 6 || n == 8 || n == 10 || n == 12) (omega arith)
    (few_or n 12 16 (n == 4 || n == 6 || n == 8 || n == 10) (omega arith)
    (few_or n 10 16 (n == 4 || n == 6 || n == 8) (omega arith)
    (few_or n 8 16 (n == 4 || n == 6) (omega arith)
    (few_or n 6 16 (n == 4) (omega arith) (is_few n 4 16 (omega arith))))))) e

authenc_few : (n : ℕ) → authenc_takes_tag n ≡ true → n ≤ 32
authenc_few n e = leb-true n 32 (and_parts (nat_le 1 n) (nat_le n 32) e).1

-- the keys of a blob are bytes, and the cipher's is of a length that is taken
cipher_key : (key mk ck : List ℕ) → blob key ≡ Some (mk, ck) → AreBytes key → AreBytes ck
unfolding blob blob_keys
cipher_key key mk ck e all = by_read (is_blob key) e
  where
    split : List ℕ × List ℕ
    split = (take (mac_key_length key) (drop 8 key), drop (mac_key_length key) (drop 8 key))

    given : List ℕ × List ℕ
    given = (mk, ck)

    by_read : (b : Bool) → (if b then Some split else None) ≡ Some given → AreBytes ck
    by_read true is =
        subst (λ (x : List ℕ × List ℕ). AreBytes x.1) (some_is split given is) (All-drop (λ x. x < 256) (mac_key_length key) (drop 8 key) (All-drop (λ x. x < 256) 8 key all))
    by_read false is = cc

taken_key : (test : List ℕ → Bool) (key mk ck : List ℕ) → blob key ≡ Some (mk, ck) → by_keys (λ m c. test c) false (blob key) ≡ true → test ck ≡ true
taken_key test key mk ck e t = sym (ap (λ (o : Option (List ℕ × List ℕ)). by_keys (λ m c. test c) false o) e) ∙ t

-- ---- each plan

opens_plan : (p : Plan) (key : List ℕ) (n : ℕ) (q : Request) → takes_key p key ≡ true → fits_tag p n ≡ true → takes p n q ≡ true → q.dir ≡ Enc → AreBytes key → AreBytes q.iv → AreBytes q.text.text → Opens (request_value (driver_of p)) key n q
unfolding request_value template_named
opens_plan (plan.Cbc aes) key n q k t a enc kb ib tb = cbc_opens key n q (is_key key k kb) enc (plain_iv 16 q enc a) ib tb
opens_plan (plan.Ctr aes) key n q k t a enc kb ib tb = ctr_opens key n q enc
opens_plan (plan.Rfc3686 aes) key n q k t a enc kb ib tb = rfc3686_opens key n q enc
opens_plan (plan.Xts aes) key n q k t a enc kb ib tb = xts_opens key n q (halves_are key k kb) enc (plain_iv 16 q enc a) ib tb
opens_plan (plan.Gcm aes ghash) key n q k t a enc kb ib tb = gcm_opens key n q (gcm_few n t) enc
opens_plan (plan.Rfc4106 aes ghash) key n q k t a enc kb ib tb = rfc4106_opens key n q (rfc4106_few n t) enc
opens_plan (plan.Ccm aes) key n q k t a enc kb ib tb = ccm_opens key n q (ccm_few n t) enc
opens_plan plan.Hmac key n q k t a enc kb ib tb = absurd (let e : false ≡ true = sym (ap (λ (d : Dir). elim d [ Enc ↦ false | Dec ↦ false | Mac ↦ is_plain 0 q ]) enc) ∙ a in cc)
opens_plan (plan.Cmac aes) key n q k t a enc kb ib tb = absurd (let e : false ≡ true = sym (ap (λ (d : Dir). elim d [ Enc ↦ false | Dec ↦ false | Mac ↦ is_plain 0 q ]) enc) ∙ a in cc)
opens_plan (plan.AuthencCbc aes) key n q k t a enc kb ib tb =
    authenc_opens cbc_gives key n q (authenc_few n t) enc
    (λ mk ck b. cbc_opens ck 0 (cipher_request q.text.text q) (is_key ck (taken_key (λ c. is_key_length (length c)) key mk ck b k) (cipher_key key mk ck b kb)) enc (aead_iv (takes_input (plan.AuthencCbc aes)) 16 n q enc a) ib tb)
opens_plan (plan.AuthencCtr aes) key n q k t a enc kb ib tb = authenc_opens ctr_gives key n q (authenc_few n t) enc (λ mk ck b. ctr_opens ck 0 (cipher_request q.text.text q) enc)
opens_plan (plan.AuthencRfc3686 aes) key n q k t a enc kb ib tb = authenc_opens (rfc3686_gives ctr_gives) key n q (authenc_few n t) enc (λ mk ck b. rfc3686_opens ck 0 (cipher_request q.text.text q) enc)
opens_plan (plan.AuthencXts aes) key n q k t a enc kb ib tb =
    authenc_opens xts_gives key n q (authenc_few n t) enc
    (λ mk ck b. xts_opens ck 0 (cipher_request q.text.text q) (halves_are ck (taken_key (λ c. is_doubled_length (length c)) key mk ck b k) (cipher_key key mk ck b kb)) enc (aead_iv (takes_input (plan.AuthencXts aes)) 16 n q enc a) ib tb)

pub opens_what_it_sealed : OpensWhatItSealed
unfolding Opens
opens_what_it_sealed driver p key n q made planned k t a enc kb ib tb e =
    let same = planned_value driver p planned in
    ap (λ (g : Gives). g key n (to_open q made)) same ∙ opens_plan p key n q k t a enc kb ib tb made (ap (λ (g : Gives). g key n q) (sym same) ∙ e)
