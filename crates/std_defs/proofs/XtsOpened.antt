-- What XTS sealed opens again.
use Rattle.std.proofs.Common.{◌≡◌, ℕ, zero, suc, ◌-◌, ◌*◌, ◌/◌, ◌%◌, ◌<◌, ◌≤◌, Bool, true, false, refl, sym, ap, ap₂, ◌∙◌, arith, ⊎_elim, List, [], ◌++◌, length, take, drop, bit_xor, length-append, length-take, length-drop}
use Rattle.std.specs.Prelude.{slice_index, All, ◌==◌, nat_lt, Some, None, if◌then◌else◌}
use Rattle.std.proofs.lemmas.Bool.{cases_lt, cond-true, cond-false, eq-eqb, ne_eqb, ltb-false, le-ltb}
use Rattle.std.proofs.lemmas.List.{take_all, take_at, drop_at, take-append-drop, append-nil}
use Rattle.std.proofs.lemmas.List.Elements.{All-take, All-drop, All-append}
use Rattle.std.proofs.lemmas.Nat.{xor_lt}
use Rattle.std_defs.specs.Aes.{IsBlock}
use Rattle.std_defs.specs.Blocks.{xor_blocks, text_block, joined}
use Rattle.std_defs.specs.Xts.{times_alpha, times_alpha_power, xts_block, xts_blocks, with_stealing, xts_unit, xts_seal, xts_unseal}
use Rattle.std_defs.proofs.Bytes.{Bytes, bytes_from_all, block_of}
use Rattle.std_defs.proofs.Joined.{length-joined, joined_same, text_block-joined, drop-joined, joined-text_block, text_block-length, text_block-bytes, xor_blocks_is_block, xor_blocks-twice}

-- ---- tweaks are blocks

carry-lt : (first : Bool) (a b : ℕ) → a < 256 → b < 256 → (if first then 135 * (a / 128) else b / 128) < 256
carry-lt true a b ha hb = omega arith
carry-lt false a b ha hb = omega arith

times_alpha_is_block : (a : List ℕ) → IsBlock a → IsBlock (times_alpha a)
unfolding times_alpha
times_alpha_is_block a is =
    let bytes : Bytes a = bytes_from_all a is.1 in
    block_of (λ k. bit_xor (2 * (slice_index a k % 128)) (if k == 0 then 135 * (slice_index a 15 / 128) else slice_index a (k - 1) / 128))
    (λ k. xor_lt 8 (2 * (slice_index a k % 128)) (if k == 0 then 135 * (slice_index a 15 / 128) else slice_index a (k - 1) / 128) (omega arith)
    (carry-lt (k == 0) (slice_index a 15) (slice_index a (k - 1)) (bytes.at 15) (bytes.at (k - 1))))

power_is_block : (a : List ℕ) (j : ℕ) → IsBlock a → IsBlock (times_alpha_power a j)
unfolding times_alpha_power
power_is_block a zero is = is
power_is_block a (suc j) is = times_alpha_is_block (times_alpha_power a j) (power_is_block a j is)

-- ---- one block

module _ (sealed unsealed : List ℕ → List ℕ) (sealed_is_block : (b : List ℕ) → IsBlock b → IsBlock (sealed b))
    (unseals : (b : List ℕ) → IsBlock b → unsealed (sealed b) ≡ b) (first : List ℕ) (first_is : IsBlock first) where
  masked_is : (j : ℕ) (b : List ℕ) → IsBlock b → IsBlock (xor_blocks b (times_alpha_power first j))
  masked_is j b is = xor_blocks_is_block b (times_alpha_power first j) is.1 (power_is_block first j first_is).1

  xts_block_is_block : (j : ℕ) (b : List ℕ) → IsBlock b → IsBlock (xts_block sealed first j b)
  unfolding xts_block
  xts_block_is_block j b is =
      xor_blocks_is_block (sealed (xor_blocks b (times_alpha_power first j))) (times_alpha_power first j)
      (sealed_is_block (xor_blocks b (times_alpha_power first j)) (masked_is j b is)).1 (power_is_block first j first_is).1

  xts_block_back : (j : ℕ) (b : List ℕ) → IsBlock b → xts_block unsealed first j (xts_block sealed first j b) ≡ b
  unfolding xts_block
  xts_block_back j b is =
      let t : List ℕ = times_alpha_power first j in
      let made : IsBlock (sealed (xor_blocks b t)) = sealed_is_block (xor_blocks b t) (masked_is j b is) in
      ap (λ (x : List ℕ). xor_blocks x t)
      (ap unsealed (xor_blocks-twice (sealed (xor_blocks b t)) t made.0) ∙ unseals (xor_blocks b t) (masked_is j b is))
      ∙ xor_blocks-twice b t is.0

-- ---- a data unit of whole blocks, and one with bytes behind them

pub whole_unit : (f : ℕ → List ℕ → List ℕ) (p q : ℕ) (text : List ℕ) → length text % 16 ≡ 0 → xts_unit f p q text ≡ xts_blocks f text (length text / 16)
unfolding xts_unit
whole_unit f p q text whole = cond-true (length text % 16 == 0) _ _ (eq-eqb (length text % 16) 0 whole)

pub partial_unit : (f : ℕ → List ℕ → List ℕ) (p q : ℕ) (text : List ℕ) → 0 < length text % 16
    → xts_unit f p q text ≡ xts_blocks f text (length text / 16 - 1) ++ with_stealing (f p) (f q) (drop (16 * (length text / 16 - 1)) text)
unfolding xts_unit
partial_unit f p q text partial = cond-false (length text % 16 == 0) _ _ (ne_eqb (length text % 16) 0 (λ e. omega arith))

-- ---- a data unit, over any enciphering of the blocks in their places and its inverse

module _ (enc dec : ℕ → List ℕ → List ℕ) (enc_is_block : (j : ℕ) (b : List ℕ) → IsBlock b → IsBlock (enc j b))
    (back : (j : ℕ) (b : List ℕ) → IsBlock b → dec j (enc j b) ≡ b) where
  -- the first block of what stealing makes
  place_is_block : (p q : ℕ) (text : List ℕ) → 16 ≤ length text → length text < 32 → All (λ x. x < 256) text
      → IsBlock (drop 16 text ++ drop (length text - 16) (enc p (take 16 text)))
  place_is_block p q text block less bytes =
      let cc : IsBlock (enc p (take 16 text)) = enc_is_block p (take 16 text) (omega (arith, length-take 16 text), All-take (λ x. x < 256) 16 text bytes) in (
        omega (arith, length-append (drop 16 text) (drop (length text - 16) (enc p (take 16 text))), length-drop 16 text, length-drop (length text - 16) (enc p (take 16 text)), cc.0),
        All-append (λ x. x < 256) (drop 16 text) (drop (length text - 16) (enc p (take 16 text))) (All-drop (λ x. x < 256) 16 text bytes)
            (All-drop (λ x. x < 256) (length text - 16) (enc p (take 16 text)) cc.1),
      )

  stealing-length : (p q : ℕ) (text : List ℕ) → 16 ≤ length text → length text < 32 → All (λ x. x < 256) text → length (with_stealing (enc p) (enc q) text) ≡ length text
  unfolding with_stealing
  stealing-length p q text block less bytes =
      let b : ℕ = length text - 16 in
      let cc : List ℕ = enc p (take 16 text) in
      let cc_long : length cc ≡ 16 = (enc_is_block p (take 16 text) (omega (arith, length-take 16 text), All-take (λ x. x < 256) 16 text bytes)).0 in
      let place : length (enc q (drop 16 text ++ drop b cc)) ≡ 16 = (enc_is_block q (drop 16 text ++ drop b cc) (place_is_block p q text block less bytes)).0 in
      omega (arith, length-append (enc q (drop 16 text ++ drop b cc)) (take b cc), length-take b cc)

  -- stealing undone: the two places the other way round
  stealing_back : (p q : ℕ) (text : List ℕ) → 16 ≤ length text → length text < 32 → All (λ x. x < 256) text
      → with_stealing (dec q) (dec p) (with_stealing (enc p) (enc q) text) ≡ text
  unfolding with_stealing
  stealing_back p q text block less bytes =
      let b : ℕ = length text - 16 in
      let whole : List ℕ = take 16 text in
      let behind : List ℕ = drop 16 text in
      let whole_is : IsBlock whole = (omega (arith, length-take 16 text), All-take (λ x. x < 256) 16 text bytes) in
      let rest : length behind ≡ b = omega (arith, length-drop 16 text) in
      let cc : List ℕ = enc p whole in
      let pp : List ℕ = behind ++ drop b cc in
      let place : List ℕ = enc q pp in
      let pp_is : IsBlock pp = place_is_block p q text block less bytes in
      let long : length place ≡ 16 = (enc_is_block q pp pp_is).0 in
      let sealed : List ℕ = place ++ take b cc in
      let more : length sealed - 16 ≡ b = omega (arith, length-append place (take b cc), length-take b cc, (enc_is_block p whole whole_is).0) in
      let opened : dec q (take 16 sealed) ≡ pp = ap (dec q) (take_at place (take b cc) 16 long) ∙ back q pp pp_is in
      let moved : drop 16 sealed ++ drop (length sealed - 16) (dec q (take 16 sealed)) ≡ cc =
      ap₂ (λ (x y : List ℕ). x ++ y) (drop_at place (take b cc) 16 long)
      (ap₂ (λ (n : ℕ) (t : List ℕ). drop n t) more opened ∙ drop_at behind (drop b cc) b rest)
      ∙ take-append-drop b cc in
      ap₂ (λ (x y : List ℕ). x ++ y)
      (ap (dec p) moved ∙ back p whole whole_is)
      (ap₂ (λ (n : ℕ) (t : List ℕ). take n t) more opened ∙ take_at behind (drop b cc) b rest)
      ∙ take-append-drop 16 text

  -- each of the first n blocks of a text, in its place
  places : (text : List ℕ) → ℕ → List ℕ
  places text q = enc q (text_block text q)

  place-length : (text : List ℕ) (n : ℕ) → 16 * n ≤ length text → All (λ x. x < 256) text → (q : ℕ) → q < n → length (places text q) ≡ 16
  unfolding places
  place-length text n within bytes q below =
      (enc_is_block q (text_block text q) (text_block-length text q (omega arith), text_block-bytes text q bytes)).0

  blocks_back : (text rest : List ℕ) (n : ℕ) → 16 * n ≤ length text → All (λ x. x < 256) text → xts_blocks dec (xts_blocks enc text n ++ rest) n ≡ take (16 * n) text
  unfolding places
  blocks_back text rest n within bytes =
      joined_same (λ q. dec q (text_block (joined (places text) n ++ rest) q)) (text_block text) n
      (λ q below. ap (dec q) (text_block-joined (places text) rest n q (place-length text n within bytes) below)
      ∙ back q (text_block text q) (text_block-length text q (omega arith), text_block-bytes text q bytes))
      ∙ joined-text_block text n

  -- a text of whole blocks
  whole_back : (text : List ℕ) → length text % 16 ≡ 0 → All (λ x. x < 256) text
      → let m = length text / 16 in (length (xts_unit enc (m - 1) m text) ≡ length text) × (xts_unit dec m (m - 1) (xts_unit enc (m - 1) m text) ≡ text)
  unfolding places
  whole_back text whole bytes =
      let m : ℕ = length text / 16 in
      let made : List ℕ = xts_blocks enc text m in
      let is : xts_unit enc (m - 1) m text ≡ made = whole_unit enc (m - 1) m text whole in
      let front : length made ≡ 16 * m = length-joined (places text) m (place-length text m (omega arith) bytes) in
      let long : length made ≡ length text = omega arith in
      let count : length made / 16 ≡ m = ap (λ (n : ℕ). n / 16) long in (
        ap length is ∙ long,
        ap (xts_unit dec m (m - 1)) is ∙ whole_unit dec m (m - 1) made (ap (λ (n : ℕ). n % 16) long ∙ whole)
            ∙ ap (xts_blocks dec made) count
            ∙ ap (λ (t : List ℕ). xts_blocks dec t m) (sym (append-nil made)) ∙ blocks_back text [] m (omega arith) bytes
            ∙ take_all (16 * m) text (omega arith),
      )

  -- a text with bytes behind the last whole block
  partial_back : (text : List ℕ) → 16 ≤ length text → 0 < length text % 16 → All (λ x. x < 256) text
      → let m = length text / 16 in (length (xts_unit enc (m - 1) m text) ≡ length text) × (xts_unit dec m (m - 1) (xts_unit enc (m - 1) m text) ≡ text)
  unfolding places
  partial_back text block partial bytes =
      let m : ℕ = length text / 16 in
      let n : ℕ = m - 1 in
      let end : List ℕ = drop (16 * n) text in
      let end_long : length end ≡ length text - 16 * n = length-drop (16 * n) text in
      let end_bytes : All (λ x. x < 256) end = All-drop (λ x. x < 256) (16 * n) text bytes in
      let stolen : List ℕ = with_stealing (enc n) (enc m) end in
      let stolen_long : length stolen ≡ length end = stealing-length n m end (omega arith) (omega arith) end_bytes in
      let made : List ℕ = xts_blocks enc text n ++ stolen in
      let is : xts_unit enc n m text ≡ made = partial_unit enc n m text partial in
      let front : length (xts_blocks enc text n) ≡ 16 * n = length-joined (places text) n (place-length text n (omega arith) bytes) in
      let long : length made ≡ length text = omega (arith, length-append (xts_blocks enc text n) stolen) in
      let count : length made / 16 - 1 ≡ n = ap (λ (k : ℕ). k / 16 - 1) long in (
        ap length is ∙ long,
        ap (xts_unit dec m n) is ∙ partial_unit dec m n made (omega arith)
            ∙ ap (λ (k : ℕ). xts_blocks dec made k ++ with_stealing (dec m) (dec n) (drop (16 * k) made)) count
            ∙ ap₂ (λ (x y : List ℕ). x ++ y) (blocks_back text stolen n (omega arith) bytes)
            (ap (with_stealing (dec m) (dec n)) (drop-joined (places text) stolen n (place-length text n (omega arith) bytes))
            ∙ stealing_back n m end (omega arith) (omega arith) end_bytes)
            ∙ take-append-drop (16 * n) text,
      )

  unit_back : (text : List ℕ) → 16 ≤ length text → All (λ x. x < 256) text
      → let m = length text / 16 in (length (xts_unit enc (m - 1) m text) ≡ length text) × (xts_unit dec m (m - 1) (xts_unit enc (m - 1) m text) ≡ text)
  unit_back text block bytes =
      ⊎_elim (λ (h : length text % 16 < 1). whole_back text (omega arith) bytes) (λ (h : 1 ≤ length text % 16). partial_back text block h bytes) (cases_lt (length text % 16) 1)

-- ---- what is sealed

taken : (short : Bool) (made given : List ℕ) → (if short then None else Some made) ≡ Some given → (short ≡ false) × (made ≡ given)
taken true made given is = absurd (cc)
taken false made given is = (refl, cc)

-- what is sealed under an IV is unsealed under it
pub xts_opened : (sealed unsealed tweak_sealed : List ℕ → List ℕ) → ((b : List ℕ) → IsBlock b → IsBlock (sealed b)) → ((b : List ℕ) → IsBlock b → unsealed (sealed b) ≡ b)
    → ((b : List ℕ) → IsBlock b → IsBlock (tweak_sealed b)) → (i text given : List ℕ) → IsBlock i → All (λ x. x < 256) text
    → xts_seal sealed tweak_sealed i text ≡ Some given → xts_unseal unsealed tweak_sealed i given ≡ Some text
unfolding xts_seal xts_unseal
xts_opened sealed unsealed tweak_sealed sealed_is_block unseals tweak_is_block i text given i_is bytes is =
    let m : ℕ = length text / 16 in
    let first : List ℕ = tweak_sealed i in
    let first_is : IsBlock first = tweak_is_block i i_is in
    let made : List ℕ = xts_unit (xts_block sealed first) (m - 1) m text in
    let took : (nat_lt (length text) 16 ≡ false) × (made ≡ given) = taken (nat_lt (length text) 16) made given is in
    let block : 16 ≤ length text = ltb-false (length text) 16 took.0 in
    let undone : (length made ≡ length text) × (xts_unit (xts_block unsealed first) m (m - 1) made ≡ text) =
    unit_back (xts_block sealed first) (xts_block unsealed first) (xts_block_is_block sealed unsealed sealed_is_block unseals first first_is)
    (xts_block_back sealed unsealed sealed_is_block unseals first first_is) text block bytes in
    let opened : xts_unseal unsealed tweak_sealed i made ≡ Some text =
    cond-false (nat_lt (length made) 16) None (Some (xts_unit (xts_block unsealed first) (length made / 16) (length made / 16 - 1) made)) (le-ltb (length made) 16 (omega arith))
    ∙ ap (λ (n : ℕ). Some (xts_unit (xts_block unsealed first) (n / 16) (n / 16 - 1) made)) undone.0 ∙ ap Some undone.1 in
    ap (xts_unseal unsealed tweak_sealed i) (sym took.1) ∙ opened
