-- the products of half bytes
use Rattle.std.proofs.Common.{◌≡◌, ℕ, zero, suc, ◌+◌, ◌-◌, ◌*◌, ◌/◌, ◌%◌, ◌^◌, ◌<◌, ◌≤◌, bit_and, bit_xor, refl, sym, ap, ap₂, ◌∙◌, arith, slice_index, lit<, add-mul, mul_assoc, cond, ⊎_elim}
use Rattle.std.specs.Int.Bits.{xor_zero_r, xor_shifted}
use Rattle.std.proofs.Math.Pow.{pow_mono}
use Rattle.std.proofs.lemmas.Nat.{and_mask, pow-add, shl_below, pow_below}
use Rattle.std.proofs.lemmas.Bool.{eq-eqb, ne_eqb, cases_eq}
use Rattle.std_defs.specs.GhashField.{polynomial_of, field_product, field_one}
use Rattle.std_defs.proofs.Multiples.{times_x, fold, multiple, multiple-times_x}
use Rattle.std_defs.proofs.Field.{field_product-multiple, field_product-comm, field_product-xor_left, field_product-zero, field_product-one}
use Rattle.ghash_field.specs.ByteRows.{row_of}

-- ---- times x

pub halved_masked : (v : ℕ) → bit_xor (v / 2) (bit_and v 1 * fold) ≡ times_x v
unfolding times_x
halved_masked v =
    ap (bit_xor (v / 2))
    (⊎_elim
    (λ (h : v % 2 ≡ 1). ap (λ (t : ℕ). t * fold) (and_mask v 1 ∙ h) ∙ (let one : 1 * fold ≡ fold = omega arith in one) ∙ ap (λ b. cond b fold 0) (sym (eq-eqb (v % 2) 1 h)))
    (λ (h : v % 2 ≡ 1 → ⊥). ap (λ (t : ℕ). t * fold) (and_mask v 1 ∙ (let even : v % 2 ≡ 0 = omega arith in even)) ∙ ap (λ b. cond b fold 0) (sym (ne_eqb (v % 2) 1 h)))
    (cases_eq (v % 2) 1))

pub times_x-even : (a : ℕ) → times_x (a * 2) ≡ a
unfolding times_x
times_x-even a =
    ap₂ (λ t s. bit_xor t (cond s fold 0)) (let e : a * 2 / 2 ≡ a = omega arith in e) (ne_eqb (a * 2 % 2) 1 (λ q. omega arith))
    ∙ xor_zero_r a

power_lt : (n : ℕ) → n < 128 → 2 ^ n < 2 ^ 128
power_lt n h = pow_below n 128 h

-- the product with a power of x, times x
pub power_down : (h n m : ℕ) → h < 2 ^ 128 → n < 128 → n ≡ suc m → times_x (field_product (2 ^ n) h) ≡ field_product (2 ^ m) h
power_down h n m fits below e =
    let even : 2 ^ n ≡ 2 ^ m * 2 = ap (λ (t : ℕ). 2 ^ t) (e ∙ (let f : suc m ≡ m + 1 = omega arith in f)) ∙ pow-add 2 m 1 in
    ap times_x (field_product-comm (2 ^ n) h (power_lt n below) fits ∙ field_product-multiple h (2 ^ n) (power_lt n below))
    ∙ sym (multiple-times_x 128 (polynomial_of h) (2 ^ n))
    ∙ ap (multiple 128 (polynomial_of h)) (ap times_x even ∙ times_x-even (2 ^ m))
    ∙ sym (field_product-multiple h (2 ^ m) (power_lt m (omega arith)))
    ∙ field_product-comm h (2 ^ m) fits (power_lt m (omega arith))

pub first_power : (h : ℕ) → h < 2 ^ 128 → h ≡ field_product (2 ^ 127) h
first_power h fits = sym (field_product-comm field_one h (lit< tt) fits ∙ field_product-one h fits)

-- ---- a row

module _ (h p : ℕ) (fits : h < 2 ^ 128) (within : p < 32) where
  abbrev E : ℕ → ℕ
  E n = field_product (n * 2 ^ (4 * p)) h

  small : (n : ℕ) → n < 16 → n * 2 ^ (4 * p) < 2 ^ 128
  small n l = let m : 2 ^ (4 + 4 * p) ≤ 2 ^ 128 = pow_mono {i = 4 + 4 * p} {j = 128} (omega arith) in omega (arith, shl_below n 4 (4 * p) l)

  add : (m j n : ℕ) → m * 2 ^ j + n < 16 → n < 2 ^ j → bit_xor (E (m * 2 ^ j)) (E n) ≡ E (m * 2 ^ j + n)
  add m j n l below =
      let u : ℕ = 2 ^ (4 * p) in
      let shifted : m * 2 ^ j * u ≡ m * 2 ^ (j + 4 * p) = mul_assoc m (2 ^ j) u ∙ ap (λ (t : ℕ). m * t) (sym (pow-add 2 j (4 * p))) in
      sym (field_product-xor_left (m * 2 ^ j * u) (n * u) h (small (m * 2 ^ j) (omega arith)) (small n (omega arith)) fits)
      ∙ ap (λ (t : ℕ). field_product t h)
      (ap (λ (t : ℕ). bit_xor t (n * u)) shifted ∙ xor_shifted m (j + 4 * p) (n * u) (shl_below n j (4 * p) below)
      ∙ ap (λ (t : ℕ). t + n * u) (sym shifted) ∙ sym (add-mul (m * 2 ^ j) n u))

  two : (m n r : ℕ) {x y : ℕ} → x ≡ E m → y ≡ E n → bit_xor (E m) (E n) ≡ E r → bit_xor x y ≡ E r
  two m n r e f g = ap₂ bit_xor e f ∙ g

  power : (j n : ℕ) → n ≡ 2 ^ j → field_product (2 ^ (j + 4 * p)) h ≡ E n
  power j n e = ap (λ (t : ℕ). field_product t h) (pow-add 2 j (4 * p) ∙ ap (λ (t : ℕ). t * 2 ^ (4 * p)) (sym e))

  down : (v j k : ℕ) → v ≡ field_product (2 ^ (j + 4 * p)) h → j ≡ suc k → j < 4 → times_x v ≡ field_product (2 ^ (k + 4 * p)) h
  down v j k e s l = ap times_x e ∙ power_down h (j + 4 * p) (k + 4 * p) fits (omega arith) (omega arith)

  pub row_at : (a : ℕ) → a ≡ field_product (2 ^ (3 + 4 * p)) h → (n : ℕ) → n < 16 → slice_index (row_of a) n ≡ field_product (n * 2 ^ (4 * p)) h
  row_at a e = entry
    where
      b : times_x a ≡ field_product (2 ^ (2 + 4 * p)) h
      b = down a 3 2 e refl (omega arith)

      c : times_x (times_x a) ≡ field_product (2 ^ (1 + 4 * p)) h
      c = down (times_x a) 2 1 b refl (omega arith)

      d : times_x (times_x (times_x a)) ≡ field_product (2 ^ (0 + 4 * p)) h
      d = down (times_x (times_x a)) 1 0 c refl (omega arith)

      ea : a ≡ E 8
      ea = e ∙ power 3 8 refl

      eb : times_x a ≡ E 4
      eb = b ∙ power 2 4 refl

      ec : times_x (times_x a) ≡ E 2
      ec = c ∙ power 1 2 refl

      ed : times_x (times_x (times_x a)) ≡ E 1
      ed = d ∙ power 0 1 refl

      zero_is : 0 ≡ E 0
      zero_is = sym (ap (λ (t : ℕ). field_product t h) (let z : 0 * 2 ^ (4 * p) ≡ 0 = omega arith in z) ∙ field_product-comm 0 h (lit< tt) fits ∙ field_product-zero h)

      six : bit_xor (times_x a) (times_x (times_x a)) ≡ E 6
      six = two 4 2 6 eb ec (add 1 2 2 (omega arith) (omega arith))

      ten : bit_xor a (times_x (times_x a)) ≡ E 10
      ten = two 8 2 10 ea ec (add 1 3 2 (omega arith) (omega arith))

      twelve : bit_xor a (times_x a) ≡ E 12
      twelve = two 8 4 12 ea eb (add 1 3 4 (omega arith) (omega arith))

      fourteen : bit_xor (bit_xor a (times_x a)) (times_x (times_x a)) ≡ E 14
      fourteen = two 12 2 14 twelve ec (add 3 2 2 (omega arith) (omega arith))

      entry : (n : ℕ) → n < 16 → slice_index (row_of a) n ≡ E n
      entry zero l = zero_is
      entry (suc zero) l = ed
      entry (suc (suc zero)) l = ec
      entry (suc (suc (suc zero))) l = two 2 1 3 ec ed (add 1 1 1 (omega arith) (omega arith))
      entry (suc (suc (suc (suc zero)))) l = eb
      entry (suc (suc (suc (suc (suc zero))))) l = two 4 1 5 eb ed (add 1 2 1 (omega arith) (omega arith))
      entry (suc (suc (suc (suc (suc (suc zero)))))) l = six
      entry (suc (suc (suc (suc (suc (suc (suc zero))))))) l = two 6 1 7 six ed (add 3 1 1 (omega arith) (omega arith))
      entry (suc (suc (suc (suc (suc (suc (suc (suc zero)))))))) l = ea
      entry (suc (suc (suc (suc (suc (suc (suc (suc (suc zero))))))))) l = two 8 1 9 ea ed (add 1 3 1 (omega arith) (omega arith))
      entry (suc (suc (suc (suc (suc (suc (suc (suc (suc (suc zero)))))))))) l = ten
      entry (suc (suc (suc (suc (suc (suc (suc (suc (suc (suc (suc zero))))))))))) l = two 10 1 11 ten ed (add 5 1 1 (omega arith) (omega arith))
      entry (suc (suc (suc (suc (suc (suc (suc (suc (suc (suc (suc (suc zero)))))))))))) l = twelve
      entry (suc (suc (suc (suc (suc (suc (suc (suc (suc (suc (suc (suc (suc zero))))))))))))) l = two 12 1 13 twelve ed (add 3 2 1 (omega arith) (omega arith))
      entry (suc (suc (suc (suc (suc (suc (suc (suc (suc (suc (suc (suc (suc (suc zero)))))))))))))) l = fourteen
      entry (suc (suc (suc (suc (suc (suc (suc (suc (suc (suc (suc (suc (suc (suc (suc zero))))))))))))))) l = two 14 1 15 fourteen ed (add 7 1 1 (omega arith) (omega arith))
      entry (suc (suc (suc (suc (suc (suc (suc (suc (suc (suc (suc (suc (suc (suc (suc (suc m)))))))))))))))) l = absurd (omega arith)

-- the products of the next place down
pub next_power : (h k v : ℕ) → h < 2 ^ 128 → k + 1 < 32 → v ≡ field_product (2 ^ (127 - 4 * k)) h
    → times_x (times_x (times_x (times_x v))) ≡ field_product (2 ^ (127 - 4 * (k + 1))) h
next_power h k v fits below e =
    ap (λ (t : ℕ). times_x (times_x (times_x t))) (ap times_x e ∙ power_down h (127 - 4 * k) (126 - 4 * k) fits (omega arith) (omega arith))
    ∙ ap (λ (t : ℕ). times_x (times_x t)) (power_down h (126 - 4 * k) (125 - 4 * k) fits (omega arith) (omega arith))
    ∙ ap times_x (power_down h (125 - 4 * k) (124 - 4 * k) fits (omega arith) (omega arith))
    ∙ power_down h (124 - 4 * k) (127 - 4 * (k + 1)) fits (omega arith) (omega arith)
