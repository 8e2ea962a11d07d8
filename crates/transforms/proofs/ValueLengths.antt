-- The bytes of a value are at most 64 more than those of its request's text.
use Rattle.std.proofs.Common.{◌≡◌, ℕ, suc, ◌+◌, ◌-◌, ◌*◌, ◌/◌, ◌%◌, ◌≤◌, Bool, true, false, cond, List, [], ◌++◌, length, take, drop, Option, Some, None, refl, arith, length-append, length-take, length-drop}
use Rattle.std.specs.Prelude.{◌==◌, bytes_eq, bit_xor, slice_index, slice_index_or}
use Rattle.std.specs.Arc.{arc_value}
use Rattle.std.specs.Option.{option_map}
use Rattle.std.proofs.lemmas.List.FromFn.{length-map-range_with_len}
use Rattle.sha2.proofs.Facts256.{length-sha256}
use Rattle.std_defs.specs.Aes.{key_schedule, rounds, sub_bytes, shift_rows, add_round_key, after_rounds, cipher, seal, unseal}
use Rattle.std_defs.specs.Authenc.{blob}
use Rattle.std_defs.specs.Blocks.{block_number, xor_blocks, text_block, joined, with_stream}
use Rattle.std_defs.specs.Ccm.{ccm_takes_iv, ccm_counter, ccm_text, ccm_tag, ccm_chained, ccm_seal, ccm_open}
use Rattle.std_defs.specs.Cmac.{cmac}
use Rattle.std_defs.specs.Gcm.{BlockFunction, gctr, gcm_text, gcm_tag, gcm_seal, gcm_open}
use Rattle.std_defs.specs.Hmac.{hmac, hmac_under}
use Rattle.std_defs.specs.Modes.{cbc_block, cbc_plain_block, cbc_seal, cbc_unseal, ctr as ctr_of, ctr_stream, rfc3686_counter}
use Rattle.std_defs.specs.Rfc4106.{rfc4106_takes, rfc4106_iv, rfc4106_associated}
use Rattle.std_defs.specs.Value.{Value, or_invalid, or_bad_message}
use Rattle.std_defs.specs.Value.Value.{bytes, bad_message, invalid}
use Rattle.std_defs.specs.Xts.{xts_block, xts_blocks, with_stealing, xts_unit, xts_seal, xts_unseal}
use Rattle.std_defs.proofs.GcmOpened.{length-gcm_tag}
use Rattle.std_defs.proofs.Joined.{length-joined, xor_blocks-length}
use Rattle.std_defs.proofs.KeyStream.{length-with_stream}
use Rattle.templates.specs.Words.{template_named}
use Rattle.templates.specs.declared.driver_plans.Plan.{Plan}
use Rattle.templates.specs.declared.driver_plans.Plan.TheVariants as plan
use Rattle.transforms.specs.AskValue.{ask_value, ask_size}
use Rattle.transforms.specs.Drivers.{driver_of}
use Rattle.transforms.specs.Finish.{finished_of, finished_length}
use Rattle.transforms.specs.Plans.{front_key, last_four, first_half, second_half, by_keys}
use Rattle.transforms.specs.RequestValue.{Gives, by_direction, ciphertext_in, tag_in, cbc_gives, ctr_gives, rfc3686_gives, xts_gives, hmac_gives, cmac_gives, gcm_gives, rfc4106_gives, ccm_gives, with_mac, under_mac, cipher_request, authenc_gives, request_value}
use Rattle.transforms.specs.Tagged.{tagged, joined as both}
use Rattle.transforms.specs.declared.ask.Ask.{Ask}
use Rattle.transforms.specs.declared.request.Dir.{Dir}
use Rattle.transforms.specs.declared.request.Dir.TheVariants.{Enc, Dec, Mac}
use Rattle.transforms.specs.declared.request.Request.{Request}

-- how many bytes a value has
abbrev pub value_length : Value → ℕ
value_length (bytes made) = length made
value_length bad_message = 0
value_length invalid = 0

-- ---- choices

either-length : (b : Bool) (v w : Value) (m : ℕ) → value_length v ≤ m → value_length w ≤ m → value_length (cond b v w) ≤ m
either-length true v w m h k = h
either-length false v w m h k = k

dir-length : (d : Dir) (v w : Value) (m : ℕ) → value_length v ≤ m → value_length w ≤ m → value_length (elim d [ Enc ↦ v | Dec ↦ w | Mac ↦ invalid ]) ≤ m
dir-length Enc v w m h k = h
dir-length Dec v w m h k = k
dir-length Mac v w m h k = omega arith

directed : (q : Request) (v w : Value) (m : ℕ) → value_length v ≤ m → value_length w ≤ m → value_length (by_direction q v w) ≤ m
directed q v w m h k = dir-length q.dir v w m h k

if-made : (b : Bool) (made : List ℕ) (m : ℕ) → length made ≤ m → value_length (or_invalid (cond b (Some made) None)) ≤ m
if-made true made m h = h
if-made false made m h = omega arith

unless-made : (b : Bool) (made : List ℕ) (m : ℕ) → length made ≤ m → value_length (or_invalid (cond b None (Some made))) ≤ m
unless-made true made m h = omega arith
unless-made false made m h = h

if-opened : (b : Bool) (made : List ℕ) (m : ℕ) → length made ≤ m → value_length (or_bad_message (cond b (Some made) None)) ≤ m
if-opened true made m h = h
if-opened false made m h = omega arith

if-both : (b : Bool) (text tag : List ℕ) (m : ℕ) → length (text ++ tag) ≤ m → value_length (or_invalid (option_map both (cond b (Some (text, tag)) None))) ≤ m
if-both true text tag m h = h
if-both false text tag m h = omega arith

either-text : (b : Bool) (x y : List ℕ) (m : ℕ) → length x ≤ m → length y ≤ m → length (cond b x y) ≤ m
either-text true x y m h k = h
either-text false x y m h k = k

-- ---- blocks

round-length : (w : List (List ℕ)) (r : ℕ) (s : List ℕ) → length (add_round_key w r s) ≡ 16
unfolding add_round_key
round-length w r s = length-map-range_with_len (λ i. bit_xor (slice_index s i) (slice_index (slice_index_or w (4 * r + i / 4) []) (i % 4))) 0 16

seal-length : (key block : List ℕ) → length (seal key block) ≡ 16
unfolding seal cipher
seal-length key block = round-length (key_schedule key) (rounds key) (shift_rows (sub_bytes (after_rounds (key_schedule key) block (rounds key - 1))))

-- a block for each whole one of the text
whole-length : (text : List ℕ) (blocks : ℕ → List ℕ) → ((j : ℕ) → length (blocks j) ≡ 16) → length (joined blocks (length text / 16)) ≤ length text + 16
whole-length text blocks long = omega (arith, length-joined blocks (length text / 16) (λ j below. long j))

-- ---- the modes without a tag

cbc-sealed : (key iv text : List ℕ) (j : ℕ) → length (cbc_block (seal key) iv text (suc j)) ≡ 16
unfolding cbc_block
cbc-sealed key iv text j = seal-length key _

cbc-plain : (unsealed : List ℕ → List ℕ) (iv text : List ℕ) (j : ℕ) → length (cbc_plain_block unsealed iv text j) ≡ 16
unfolding cbc_plain_block
cbc-plain unsealed iv text j = xor_blocks-length _ _

cbc-length : (key : List ℕ) (n : ℕ) (q : Request) → value_length (cbc_gives key n q) ≤ length q.text.text + 16
cbc-length key n q =
    let text = q.text.text in
    let sealed : ℕ → List ℕ = λ j. cbc_block (seal key) q.iv text (suc j) in
    let plain : ℕ → List ℕ = cbc_plain_block (unseal key) q.iv text in
    directed q (or_invalid (cbc_seal (seal key) q.iv text)) (or_invalid (cbc_unseal (unseal key) q.iv text)) (length text + 16)
    (if-made (length text % 16 == 0) (joined sealed (length text / 16)) (length text + 16) (whole-length text sealed (cbc-sealed key q.iv text)))
    (if-made (length text % 16 == 0) (joined plain (length text / 16)) (length text + 16) (whole-length text plain (cbc-plain (unseal key) q.iv text)))

stream-length : (stream : ℕ → List ℕ) (text : List ℕ) → length (with_stream stream text) ≤ length text + 16
stream-length stream text = omega (arith, length-with_stream stream text)

ctr-length : (key : List ℕ) (n : ℕ) (q : Request) → value_length (ctr_gives key n q) ≤ length q.text.text + 16
ctr-length key n q =
    let text = q.text.text in
    let short : value_length (bytes (ctr_of (seal key) q.iv text)) ≤ length text + 16 = stream-length (ctr_stream (seal key) (block_number q.iv)) text in
    directed q (bytes (ctr_of (seal key) q.iv text)) (bytes (ctr_of (seal key) q.iv text)) (length text + 16) short short

rfc3686-length : (key : List ℕ) (n : ℕ) (q : Request) → value_length (rfc3686_gives ctr_gives key n q) ≤ length q.text.text + 16
rfc3686-length key n q = ctr-length (front_key key) n (record q { iv = rfc3686_counter (last_four key) q.iv })

xts_block-length : (cipher : List ℕ → List ℕ) (first : List ℕ) (j : ℕ) (block : List ℕ) → length (xts_block cipher first j block) ≡ 16
unfolding xts_block
xts_block-length cipher first j block = xor_blocks-length _ _

stealing-length : (first second : List ℕ → List ℕ) (text : List ℕ) → ((block : List ℕ) → length (second block) ≡ 16) → length (with_stealing first second text) ≤ 16 + (length text - 16)
unfolding with_stealing
stealing-length first second text long =
    let b : ℕ = length text - 16 in
    let made : List ℕ = first (take 16 text) in
    let place : List ℕ = second (drop 16 text ++ drop b made) in
    omega (arith, length-append place (take b made), long (drop 16 text ++ drop b made), length-take b made)

blocks-length : (block : ℕ → List ℕ → List ℕ) (text : List ℕ) (n : ℕ) → ((j : ℕ) (b : List ℕ) → length (block j b) ≡ 16) → length (xts_blocks block text n) ≡ 16 * n
blocks-length block text n long = length-joined (λ q. block q (text_block text q)) n (λ j below. long j (text_block text j))

unit-length : (block : ℕ → List ℕ → List ℕ) (last place : ℕ) (text : List ℕ) → ((j : ℕ) (b : List ℕ) → length (block j b) ≡ 16) → length (xts_unit block last place text) ≤ length text + 16
unfolding xts_unit
unit-length block last place text long =
    let m : ℕ = length text / 16 in
    let rest : List ℕ = drop (16 * (m - 1)) text in
    let front : List ℕ = xts_blocks block text (m - 1) in
    let tail : List ℕ = with_stealing (block last) (block place) rest in
    either-text (length text % 16 == 0) (xts_blocks block text m) (front ++ tail) (length text + 16)
    (omega (arith, blocks-length block text m long))
    (omega (arith, length-append front tail, blocks-length block text (m - 1) long, stealing-length (block last) (block place) rest (long place), length-drop (16 * (m - 1)) text))

xts-sealed : (sealed tweak_sealed : List ℕ → List ℕ) (i text : List ℕ) → value_length (or_invalid (xts_seal sealed tweak_sealed i text)) ≤ length text + 16
unfolding xts_seal
xts-sealed sealed tweak_sealed i text = unless-made _ _ (length text + 16) (unit-length _ _ _ text (xts_block-length sealed (tweak_sealed i)))

xts-unsealed : (unsealed tweak_sealed : List ℕ → List ℕ) (i text : List ℕ) → value_length (or_invalid (xts_unseal unsealed tweak_sealed i text)) ≤ length text + 16
unfolding xts_unseal
xts-unsealed unsealed tweak_sealed i text = unless-made _ _ (length text + 16) (unit-length _ _ _ text (xts_block-length unsealed (tweak_sealed i)))

xts-length : (key : List ℕ) (n : ℕ) (q : Request) → value_length (xts_gives key n q) ≤ length q.text.text + 16
xts-length key n q =
    let text = q.text.text in
    directed q (or_invalid (xts_seal (seal (first_half key)) (seal (second_half key)) q.iv text)) (or_invalid (xts_unseal (unseal (first_half key)) (seal (second_half key)) q.iv text)) (length text + 16)
    (xts-sealed (seal (first_half key)) (seal (second_half key)) q.iv text) (xts-unsealed (unseal (first_half key)) (seal (second_half key)) q.iv text)

-- ---- MACs

hmac_is : (key message : List ℕ) → length (hmac key message) ≡ 32
unfolding hmac_under
hmac_is key message = length-sha256 _

cmac_is : (key message : List ℕ) → length (cmac (seal key) message) ≡ 16
unfolding cmac
cmac_is key message = seal-length key _

hmac-length : (key : List ℕ) (n : ℕ) (q : Request) → value_length (hmac_gives key n q) ≤ length q.text.text + 64
hmac-length key n q = omega (arith, hmac_is key q.text.text)

cmac-length : (key : List ℕ) (n : ℕ) (q : Request) → value_length (cmac_gives key n q) ≤ length q.text.text + 16
cmac-length key n q = omega (arith, cmac_is key q.text.text)

-- ---- the modes with a tag

-- the text without its tag is no longer
ciphertext-length : (n : ℕ) (q : Request) → length (ciphertext_in n q) ≤ length q.text.text
ciphertext-length n q = omega (arith, length-take (length q.text.text - n) q.text.text)

gcm_text-length : (cipher : BlockFunction) (iv text : List ℕ) → length (gcm_text cipher iv text) ≡ length text
unfolding gcm_text gctr
gcm_text-length cipher iv text = length-with_stream _ text

gcm-sealed : (cipher : BlockFunction) (iv associated text : List ℕ) (n : ℕ) → length (tagged n (gcm_seal cipher iv associated text)) ≤ length text + 16
unfolding gcm_seal
gcm-sealed cipher iv associated text n =
    let made : List ℕ = gcm_text cipher iv text in
    let tag : List ℕ = gcm_tag cipher iv associated made in
    omega (arith, length-append made (take n tag), length-take n tag, length-gcm_tag cipher iv associated made, gcm_text-length cipher iv text)

gcm-opened : (cipher : BlockFunction) (iv associated text tag : List ℕ) (m : ℕ) → length text ≤ m → value_length (or_bad_message (gcm_open cipher iv associated text tag)) ≤ m
unfolding gcm_open
gcm-opened cipher iv associated text tag m within =
    if-opened (bytes_eq (take (length tag) (gcm_tag cipher iv associated text)) tag) (gcm_text cipher iv text) m (omega (arith, gcm_text-length cipher iv text, within))

gcm-length : (key : List ℕ) (n : ℕ) (q : Request) → value_length (gcm_gives key n q) ≤ length q.text.text + 16
gcm-length key n q =
    directed q (bytes (tagged n (gcm_seal (seal key) q.iv q.aad q.text.text))) (or_bad_message (gcm_open (seal key) q.iv q.aad (ciphertext_in n q) (tag_in n q))) (length q.text.text + 16)
    (gcm-sealed (seal key) q.iv q.aad q.text.text n)
    (gcm-opened (seal key) q.iv q.aad (ciphertext_in n q) (tag_in n q) (length q.text.text + 16) (omega (arith, ciphertext-length n q)))

rfc4106-length : (key : List ℕ) (n : ℕ) (q : Request) → value_length (rfc4106_gives gcm_gives key n q) ≤ length q.text.text + 16
rfc4106-length key n q =
    let p : Request = record q { iv = rfc4106_iv (last_four key) q.iv; aad = rfc4106_associated q.aad } in
    either-length (rfc4106_takes q.aad) (gcm_gives (front_key key) n p) invalid (length q.text.text + 16) (gcm-length (front_key key) n p) (omega arith)

ccm_text-length : (cipher : BlockFunction) (iv text : List ℕ) → length (ccm_text cipher iv text) ≡ length text
unfolding ccm_text
ccm_text-length cipher iv text = length-with_stream _ text

ccm_tag-length : (cipher : BlockFunction) (n : ℕ) (iv associated text : List ℕ) → length (ccm_tag cipher n iv associated text) ≤ 16
unfolding ccm_tag
ccm_tag-length cipher n iv associated text =
    let sum : List ℕ = xor_blocks (ccm_chained cipher n iv associated text) (cipher (ccm_counter iv 0)) in
    omega (arith, length-take n sum, xor_blocks-length (ccm_chained cipher n iv associated text) (cipher (ccm_counter iv 0)))

ccm-sealed : (cipher : BlockFunction) (n : ℕ) (iv associated text : List ℕ) → value_length (or_invalid (option_map both (ccm_seal cipher n iv associated text))) ≤ length text + 16
unfolding ccm_seal
ccm-sealed cipher n iv associated text =
    let made : List ℕ = ccm_text cipher iv text in
    let tag : List ℕ = ccm_tag cipher n iv associated text in
    if-both (ccm_takes_iv iv) made tag (length text + 16) (omega (arith, length-append made tag, ccm_text-length cipher iv text, ccm_tag-length cipher n iv associated text))

ccm-opened : (cipher : BlockFunction) (iv associated text tag : List ℕ) (m : ℕ) → length text ≤ m → value_length (ccm_open cipher iv associated text tag) ≤ m
unfolding ccm_open
ccm-opened cipher iv associated text tag m within =
    let plain : List ℕ = ccm_text cipher iv text in
    let right : Bool = bytes_eq (ccm_tag cipher (length tag) iv associated plain) tag in
    either-length (ccm_takes_iv iv) (cond right (bytes plain) bad_message) invalid m
    (either-length right (bytes plain) bad_message m (omega (arith, ccm_text-length cipher iv text, within)) (omega arith)) (omega arith)

ccm-length : (key : List ℕ) (n : ℕ) (q : Request) → value_length (ccm_gives key n q) ≤ length q.text.text + 16
ccm-length key n q =
    directed q (or_invalid (option_map both (ccm_seal (seal key) n q.iv q.aad q.text.text))) (ccm_open (seal key) q.iv q.aad (ciphertext_in n q) (tag_in n q)) (length q.text.text + 16)
    (ccm-sealed (seal key) n q.iv q.aad q.text.text)
    (ccm-opened (seal key) q.iv q.aad (ciphertext_in n q) (tag_in n q) (length q.text.text + 16) (omega (arith, ciphertext-length n q)))

mac-length : (mac : List ℕ → List ℕ) (n : ℕ) (v : Value) (m : ℕ) → ((made : List ℕ) → length (mac made) ≡ 32) → value_length v ≤ m + 16 → value_length (with_mac mac n v) ≤ m + 64
mac-length mac n (bytes made) m long short = omega (arith, length-append made (take n (mac made)), length-take n (mac made), long made, short)
mac-length mac n bad_message m long short = omega arith
mac-length mac n invalid m long short = omega arith

keys-length : (f : List ℕ → List ℕ → Value) (o : Option (List ℕ × List ℕ)) (m : ℕ) → ((mk ck : List ℕ) → value_length (f mk ck) ≤ m) → value_length (by_keys f invalid o) ≤ m
keys-length f (Some keys) m each = each keys.0 keys.1
keys-length f None m each = omega arith

-- a value of at most 16 bytes more has at most 64 more
more : (v : Value) (m : ℕ) → value_length v ≤ m + 16 → value_length v ≤ m + 64
more v m short = omega (arith, short)

-- the value of a shorter text is no longer than that allows
within : (v : Value) (a m : ℕ) → value_length v ≤ a + 16 → a ≤ m → value_length v ≤ m + 64
within v a m short less = omega (arith, short, less)

authenc-length : (e : Gives) → ((key : List ℕ) (n : ℕ) (q : Request) → value_length (e key n q) ≤ length q.text.text + 16) → (key : List ℕ) (n : ℕ) (q : Request) → value_length (authenc_gives e key n q) ≤ length q.text.text + 64
authenc-length e short key n q =
    let text = q.text.text in
    let sealed : List ℕ → List ℕ → Value = λ mk ck. with_mac (λ made. hmac mk (q.aad ++ made)) n (e ck 0 (cipher_request text q)) in
    let opened : List ℕ → List ℕ → Value = λ mk ck. under_mac (hmac mk (q.aad ++ ciphertext_in n q)) (tag_in n q) (e ck 0 (cipher_request (ciphertext_in n q) q)) in
    keys-length (λ mk ck. by_direction q (sealed mk ck) (opened mk ck)) (blob key) (length text + 64)
    (λ mk ck.
    directed q (sealed mk ck) (opened mk ck) (length text + 64)
    (mac-length (λ made. hmac mk (q.aad ++ made)) n (e ck 0 (cipher_request text q)) (length text) (λ made. hmac_is mk (q.aad ++ made)) (short ck 0 (cipher_request text q)))
    (either-length (bytes_eq (take (length (tag_in n q)) (hmac mk (q.aad ++ ciphertext_in n q))) (tag_in n q)) (e ck 0 (cipher_request (ciphertext_in n q) q)) bad_message (length text + 64)
    (within (e ck 0 (cipher_request (ciphertext_in n q) q)) (length (ciphertext_in n q)) (length text) (short ck 0 (cipher_request (ciphertext_in n q) q)) (ciphertext-length n q)) (omega arith)))

-- ---- plans

pub plan-length : (p : Plan) (key : List ℕ) (n : ℕ) (q : Request) → value_length (request_value (driver_of p) key n q) ≤ length q.text.text + 64
unfolding request_value template_named
plan-length (plan.Cbc form) key n q = more (cbc_gives key n q) (length q.text.text) (cbc-length key n q)
plan-length (plan.Ctr form) key n q = more (ctr_gives key n q) (length q.text.text) (ctr-length key n q)
plan-length (plan.Rfc3686 form) key n q = more (rfc3686_gives ctr_gives key n q) (length q.text.text) (rfc3686-length key n q)
plan-length (plan.Xts form) key n q = more (xts_gives key n q) (length q.text.text) (xts-length key n q)
plan-length (plan.Gcm form ghash) key n q = more (gcm_gives key n q) (length q.text.text) (gcm-length key n q)
plan-length (plan.Rfc4106 form ghash) key n q = more (rfc4106_gives gcm_gives key n q) (length q.text.text) (rfc4106-length key n q)
plan-length (plan.Ccm form) key n q = more (ccm_gives key n q) (length q.text.text) (ccm-length key n q)
plan-length plan.Hmac key n q = hmac-length key n q
plan-length (plan.Cmac form) key n q = more (cmac_gives key n q) (length q.text.text) (cmac-length key n q)
plan-length (plan.AuthencCbc form) key n q = authenc-length cbc_gives cbc-length key n q
plan-length (plan.AuthencCtr form) key n q = authenc-length ctr_gives ctr-length key n q
plan-length (plan.AuthencRfc3686 form) key n q = authenc-length (rfc3686_gives ctr_gives) rfc3686-length key n q
plan-length (plan.AuthencXts form) key n q = authenc-length xts_gives xts-length key n q

-- ---- asks

finished-is : (v : Value) → finished_length (finished_of v) ≡ value_length v
finished-is (bytes made) = refl
finished-is bad_message = refl
finished-is invalid = refl

at_most : (a b t s : ℕ) → a ≡ b → b ≤ t + 64 → t ≤ s → a ≤ s + 64
at_most a b t s same short less = omega (arith, same, short, less)

pub ask-length : (ask : Ask) → finished_length (finished_of (ask_value ask)) ≤ ask_size ask + 64
ask-length ask =
    at_most (finished_length (finished_of (ask_value ask))) (value_length (ask_value ask)) (length ask.request.text.text) (ask_size ask) (finished-is (ask_value ask))
    (plan-length (arc_value ask.keyed).0 (arc_value ask.keyed).1 ask.authsize ask.request) (omega arith)
