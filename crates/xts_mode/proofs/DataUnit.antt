-- A data unit that was turned in its place.
use Rattle.std.proofs.Common.{◌≡◌, ℕ, suc, ◌-◌, ◌*◌, ◌/◌, ◌%◌, ◌<◌, ◌≤◌, sym, ap, ap₂, ◌∙◌, arith, List, [], ◌++◌, length, take, drop, add-zero, zero-add, length-append, length-take}
use Rattle.std.specs.Prelude.{nat_lt, Some, None}
use Rattle.std.proofs.lemmas.Bool.{cond-true, cond-false, lt-ltb, le-ltb}
use Rattle.std.proofs.lemmas.List.{take_all, drop_at, append-nil}
use borrow.Rule.Slice.PartMut.{put_mid}
use Rattle.std_defs.specs.Blocks.{text_block}
use Rattle.std_defs.specs.Xts.{times_alpha, times_alpha_power, xts_block, xts_blocks, with_stealing, xts_unit, of_a_block_or_more, xts_seal, xts_unseal}
use Rattle.std_defs.proofs.Joined.{length-joined, joined_same, part, text_block-piece}
use Rattle.std_defs.proofs.XtsOpened.{whole_unit, partial_unit}
use Rattle.xts_mode.proofs.Units.{xts_block-on, xts_block-length}

-- ---- the tweaks of the last two places

pub last_place : (first tweak text : List ℕ) (a : ℕ) → 16 ≤ length text → a ≡ length text - length text % 16 - 16
    → tweak ≡ times_alpha_power first (length (take a text) / 16) → tweak ≡ times_alpha_power first (length text / 16 - 1)
last_place first tweak text a block at is =
    let count : length (take a text) / 16 ≡ length text / 16 - 1 = omega (arith, length-take a text) in
    is ∙ ap (times_alpha_power first) count

pub place_behind : (first tweak next text : List ℕ) → 16 ≤ length text → tweak ≡ times_alpha_power first (length text / 16 - 1) → next ≡ times_alpha tweak
    → next ≡ times_alpha_power first (length text / 16)
unfolding times_alpha_power
place_behind first tweak next text block is on =
    let count : suc (length text / 16 - 1) ≡ length text / 16 = omega arith in
    on ∙ ap times_alpha is ∙ ap (times_alpha_power first) count

-- ---- the end behind the whole blocks before it

module _ (f : List ℕ → List ℕ) (first text front : List ℕ) (a : ℕ) (block : 16 ≤ length text) (at : a ≡ length text - length text % 16 - 16)
    (is_front : front ≡ xts_blocks (xts_block f first) (take a text) (length (take a text) / 16)) where
  count : length (take a text) / 16 ≡ length text / 16 - 1
  count = omega (arith, length-take a text)

  front-length : length front ≡ a
  front-length =
      let n : ℕ = length (take a text) / 16 in
      let long : length (xts_blocks (xts_block f first) (take a text) n) ≡ 16 * n = length-joined (λ q. xts_block f first q (text_block (take a text) q)) n (λ j _. xts_block-length f first j (text_block (take a text) j)) in
      omega (arith, ap length is_front, count)

  front_of_text : front ≡ xts_blocks (xts_block f first) text (length text / 16 - 1)
  front_of_text =
      let n : ℕ = length text / 16 - 1 in
      let start : a ≡ 16 * n = omega arith in
      is_front ∙ ap (xts_blocks (xts_block f first) (take a text)) count
      ∙ joined_same (λ q. xts_block f first q (text_block (take a text) q)) (λ q. xts_block f first q (text_block text q)) n
      (λ q below. ap (xts_block f first q) (ap (λ (k : ℕ). text_block (take k text) q) start ∙ text_block-piece text 0 n q below ∙ ap (text_block text) (zero-add q)))

  pub end_turned : (p q w : ℕ) (tweak_p tweak_q stolen : List ℕ) → tweak_p ≡ times_alpha_power first p → tweak_q ≡ times_alpha_power first q
      → 0 < length text % 16 → w ≡ length (front ++ drop a text) - a
      → stolen ≡ with_stealing (xts_block f tweak_p 0) (xts_block f tweak_q 0) (take w (drop a (front ++ drop a text)))
      → xts_unit (xts_block f first) p q text ≡ put_mid a w (front ++ drop a text) stolen
  end_turned p q w tweak_p tweak_q stolen is_p is_q partial wide is =
      let start : a ≡ 16 * (length text / 16 - 1) = omega arith in
      let end_long : length (drop a text) ≡ w = omega (arith, length-append front (drop a text), front-length) in
      let cut : take w (drop a (front ++ drop a text)) ≡ drop a text = ap (take w) (drop_at front (drop a text) a front-length) ∙ take_all w (drop a text) (omega arith) in
      let at_p : xts_block f tweak_p 0 ≡ xts_block f first p = λ j b. at_place p tweak_p is_p b j in
      let at_q : xts_block f tweak_q 0 ≡ xts_block f first q = λ j b. at_place q tweak_q is_q b j in
      let stolen_is : stolen ≡ with_stealing (xts_block f first p) (xts_block f first q) (drop (16 * (length text / 16 - 1)) text) =
      is ∙ ap (with_stealing (xts_block f tweak_p 0) (xts_block f tweak_q 0)) cut
      ∙ ap₂ (λ (s t : List ℕ → List ℕ). with_stealing s t (drop a text)) at_p at_q
      ∙ ap (λ (k : ℕ). with_stealing (xts_block f first p) (xts_block f first q) (drop k text)) start in
      partial_unit (xts_block f first) p q text partial
      ∙ ap₂ (λ (x y : List ℕ). x ++ y) (sym front_of_text) (sym stolen_is)
      ∙ sym (append-nil (front ++ stolen))
      ∙ sym (part a w front stolen (drop a text) [] front-length end_long)
      ∙ ap (λ (t : List ℕ). put_mid a w (front ++ t) stolen) (append-nil (drop a text))
    where
      at_place : (n : ℕ) (tweak : List ℕ) → tweak ≡ times_alpha_power first n → (b : List ℕ) → xts_block f tweak 0 b ≡ xts_block f first n b
      at_place n tweak e b = ap (λ (t : List ℕ). xts_block f t 0 b) e ∙ xts_block-on f first n 0 b ∙ ap (λ (j : ℕ). xts_block f first j b) (add-zero n)

-- ---- which lengths are taken

short : (text made : List ℕ) → length text < 16 → of_a_block_or_more text made ≡ None
short text made h = cond-true (nat_lt (length text) 16) None (Some made) (lt-ltb (length text) 16 h)

long : (text made : List ℕ) → 16 ≤ length text → of_a_block_or_more text made ≡ Some made
long text made h = cond-false (nat_lt (length text) 16) None (Some made) (le-ltb (length text) 16 h)

module _ (f t : List ℕ → List ℕ) (i text : List ℕ) where
  pub seal_short : length text < 16 → xts_seal f t i text ≡ None
  unfolding xts_seal
  seal_short h = short text _ h

  pub unseal_short : length text < 16 → xts_unseal f t i text ≡ None
  unfolding xts_unseal
  unseal_short h = short text _ h

  module _ (first new : List ℕ) (block : 16 ≤ length text) (is_first : first ≡ t i) where
    pub seal_whole : length text % 16 ≡ 0 → new ≡ xts_blocks (xts_block f first) text (length text / 16) → xts_seal f t i text ≡ Some new
    unfolding xts_seal
    seal_whole whole is =
        long text _ block
        ∙ ap Some (whole_unit (xts_block f (t i)) (length text / 16 - 1) (length text / 16) text whole
        ∙ ap (λ (v : List ℕ). xts_blocks (xts_block f v) text (length text / 16)) (sym is_first) ∙ sym is)

    pub unseal_whole : length text % 16 ≡ 0 → new ≡ xts_blocks (xts_block f first) text (length text / 16) → xts_unseal f t i text ≡ Some new
    unfolding xts_unseal
    unseal_whole whole is =
        long text _ block
        ∙ ap Some (whole_unit (xts_block f (t i)) (length text / 16) (length text / 16 - 1) text whole
        ∙ ap (λ (v : List ℕ). xts_blocks (xts_block f v) text (length text / 16)) (sym is_first) ∙ sym is)

    pub seal_partial : xts_unit (xts_block f first) (length text / 16 - 1) (length text / 16) text ≡ new → xts_seal f t i text ≡ Some new
    unfolding xts_seal
    seal_partial is = long text _ block ∙ ap Some (ap (λ (v : List ℕ). xts_unit (xts_block f v) (length text / 16 - 1) (length text / 16) text) (sym is_first) ∙ is)

    pub unseal_partial : xts_unit (xts_block f first) (length text / 16) (length text / 16 - 1) text ≡ new → xts_unseal f t i text ≡ Some new
    unfolding xts_unseal
    unseal_partial is = long text _ block ∙ ap Some (ap (λ (v : List ℕ). xts_unit (xts_block f v) (length text / 16) (length text / 16 - 1) text) (sym is_first) ∙ is)
