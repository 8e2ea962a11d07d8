-- A data unit of which the first blocks are made, and its end.
use Rattle.std.proofs.Common.{◌≡◌, ℕ, zero, suc, ◌+◌, ◌-◌, ◌*◌, ◌/◌, ◌<◌, ◌≤◌, refl, sym, ap, ap₂, ◌∙◌, arith, List, ◌++◌, length, take, drop, add-zero, add-suc, length-append, length-drop, length-take}
use Rattle.std.proofs.lemmas.List.{take_all, drop_all, append-nil}
use borrow.Rule.Slice.PartMut.{put_mid}
use Rattle.std_defs.specs.Blocks.{xor_blocks, text_block, joined}
use Rattle.std_defs.specs.Xts.{times_alpha, times_alpha_power, xts_block, xts_blocks}
use Rattle.std_defs.proofs.Joined.{length-joined, joined_same, blocks_made, unread, text_block-piece, xor_blocks-length}

-- ---- tweaks

pub power-add : (t : List ℕ) (n k : ℕ) → times_alpha_power (times_alpha_power t n) k ≡ times_alpha_power t (n + k)
unfolding times_alpha_power
power-add t n zero = ap (times_alpha_power t) (sym (add-zero n))
power-add t n (suc k) = ap times_alpha (power-add t n k) ∙ ap (times_alpha_power t) (sym (add-suc n k))

pub xts_block-on : (f : List ℕ → List ℕ) (t : List ℕ) (n j : ℕ) (block : List ℕ) → xts_block f (times_alpha_power t n) j block ≡ xts_block f t (n + j) block
unfolding xts_block
xts_block-on f t n j block = ap (λ (mask : List ℕ). xor_blocks (f (xor_blocks block mask)) mask) (power-add t n j)

pub xts_block-length : (f : List ℕ → List ℕ) (t : List ℕ) (j : ℕ) (block : List ℕ) → length (xts_block f t j block) ≡ 16
unfolding xts_block
xts_block-length f t j block = xor_blocks-length (f (xor_blocks block (times_alpha_power t j))) (times_alpha_power t j)

-- ---- blocks in their places

-- the first n blocks of a text are made, and the tweak is that of place n
pub record Made (f : List ℕ → List ℕ) (first orig text tweak : List ℕ) (n : ℕ) : Type 0 where
  pub made : text ≡ xts_blocks (xts_block f first) orig n ++ drop (16 * n) orig
  pub place : tweak ≡ times_alpha_power first n
  pub within : 16 * n ≤ length orig

pub made_none : (f : List ℕ → List ℕ) (first text : List ℕ) → Made f first text text first 0
unfolding joined times_alpha_power
made_none f first text = record { made = refl; place = refl; within = omega arith }

made-length : (f : List ℕ → List ℕ) (first orig text tweak : List ℕ) (n : ℕ) → Made f first orig text tweak n → length text ≡ length orig
made-length f first orig text tweak n m =
    let front : length (xts_blocks (xts_block f first) orig n) ≡ 16 * n = length-joined (λ q. xts_block f first q (text_block orig q)) n (λ j _. xts_block-length f first j (text_block orig j)) in
    omega (arith, ap length m.made, length-append (xts_blocks (xts_block f first) orig n) (drop (16 * n) orig), length-drop (16 * n) orig, m.within)

-- k more blocks, in the piece of the text from place a on
pub made_more : (f : List ℕ → List ℕ) (first orig text tweak : List ℕ) (n k m a w : ℕ) (piece tweak' : List ℕ) → Made f first orig text tweak n
    → a ≡ 16 * n → w ≡ 16 * k → m ≡ n + k → 16 * m ≤ length orig
    → piece ≡ xts_blocks (xts_block f tweak) (take w (drop a text)) k → tweak' ≡ times_alpha_power tweak k → Made f first orig (put_mid a w text piece) tweak' m
made_more f first orig text tweak n k m a w piece tweak' done at wide next within made on =
    let blocks : ℕ → List ℕ = λ q. xts_block f first q (text_block orig q) in
    let long : length text ≡ length orig = made-length f first orig text tweak n done in
    let rest : drop a text ≡ drop (16 * n) orig = ap (λ (i : ℕ). drop i text) at ∙ unread orig text (joined blocks n) (16 * n) done.made long done.within in
    let each : (j : ℕ) → j < k → xts_block f tweak j (text_block (take w (drop a text)) j) ≡ blocks (n + j) =
    λ j below. ap (λ (t : List ℕ). xts_block f t j (text_block (take w (drop a text)) j)) done.place
    ∙ xts_block-on f first n j (text_block (take w (drop a text)) j)
    ∙ ap (xts_block f first (n + j)) (ap₂ (λ (i : ℕ) (t : List ℕ). text_block (take i t) j) wide rest ∙ text_block-piece orig n k j below) in
    record {
      made = blocks_made blocks orig text n k m a w piece done.made long at wide next within
          (made ∙ joined_same (λ j. xts_block f tweak j (text_block (take w (drop a text)) j)) (λ j. blocks (n + j)) k each);
      place = on ∙ ap (λ (t : List ℕ). times_alpha_power t k) done.place ∙ power-add first n k ∙ ap (times_alpha_power first) (sym next);
      within = within;
    }

-- one block is a piece of one block
pub one_block : (f : List ℕ → List ℕ) (tweak text new : List ℕ) → length text ≡ 16 → new ≡ xts_block f tweak 0 text → new ≡ xts_blocks (xts_block f tweak) text 1
unfolding joined text_block
one_block f tweak text new long e = e ∙ ap (xts_block f tweak 0) (sym (take_all 16 text (omega arith)))

pub made_all : (f : List ℕ → List ℕ) (first orig text tweak : List ℕ) (n k : ℕ) → Made f first orig text tweak n → n ≡ k → length orig ≤ 16 * n → text ≡ xts_blocks (xts_block f first) orig k
made_all f first orig text tweak n k m at all =
    m.made ∙ ap (λ (t : List ℕ). xts_blocks (xts_block f first) orig n ++ t) (drop_all (16 * n) orig all)
    ∙ append-nil (xts_blocks (xts_block f first) orig n) ∙ ap (xts_blocks (xts_block f first) orig) at

-- the rest of a text is made in its place
pub made_rest : (f : List ℕ → List ℕ) (first orig text tweak : List ℕ) (n a w count : ℕ) (piece tweak' : List ℕ) → Made f first orig text tweak n
    → a ≡ 16 * n → length text ≡ length orig → w ≡ length text - a → length orig ≡ 16 * count
    → piece ≡ xts_blocks (xts_block f tweak) (take w (drop a text)) (length (take w (drop a text)) / 16)
    → tweak' ≡ times_alpha_power tweak (length (take w (drop a text)) / 16)
    → (put_mid a w text piece ≡ xts_blocks (xts_block f first) orig count) × (tweak' ≡ times_alpha_power first count)
made_rest f first orig text tweak n a w count piece tweak' done at long wide whole made on =
    let k : ℕ = length (take w (drop a text)) / 16 in
    let cut : length (take w (drop a text)) ≡ w = omega (arith, length-take w (drop a text), length-drop a text) in
    let count_is : n + k ≡ count = omega (arith, done.within) in
    let more : Made f first orig (put_mid a w text piece) tweak' (n + k) =
    made_more f first orig text tweak n k (n + k) a w piece tweak' done at (omega (arith, done.within)) refl (omega arith) made on in
    (made_all f first orig (put_mid a w text piece) tweak' (n + k) count more count_is (omega arith), more.place ∙ ap (times_alpha_power first) count_is)

pub power_one : (t : List ℕ) → times_alpha t ≡ times_alpha_power t 1
unfolding times_alpha_power
power_one t = refl
